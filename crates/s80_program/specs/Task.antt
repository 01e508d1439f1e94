-- The command that a task is.
use Rattle.s80_model.specs.declared.item.Filed.TheVariants.{All, Class, Set}
use Rattle.s80_model.specs.declared.item.Query.TheVariants.{Recover, Classes, Browse, Source, Versions, Changes, Condense, FileOut, Senders, Implementors, References, Undeclared, Unimplemented, Unsent, Snapshot}
use Rattle.s80_program.specs.declared.words.Task.{Task}
use Rattle.s80_program.specs.declared.words.Task.TheVariants as tasks
use Rattle.s80_program.specs.Command.{Command, Run, Merge, Do, Tell, Make}

abbrev pub command_of : Task → Command
command_of tasks.Run = Run
command_of tasks.Merge = Merge
command_of (tasks.Do text) = Do text.now
command_of tasks.Recover = Tell Recover
command_of tasks.Classes = Tell Classes
command_of (tasks.Browse name) = Tell (Browse name.now)
command_of (tasks.Source spec selector) = Tell (Source spec.now selector.now)
command_of (tasks.Versions spec selector) = Tell (Versions spec.now selector.now)
command_of tasks.Changes = Tell Changes
command_of tasks.FileOut = Tell (FileOut All)
command_of (tasks.FileOutClass name) = Tell (FileOut (Class name.now))
command_of tasks.FileOutSet = Tell (FileOut Set)
command_of (tasks.Senders selector) = Tell (Senders selector.now)
command_of (tasks.Implementors selector) = Tell (Implementors selector.now)
command_of (tasks.References name) = Tell (References name.now)
command_of tasks.Undeclared = Tell Undeclared
command_of tasks.Unimplemented = Tell Unimplemented
command_of tasks.Unsent = Tell Unsent
command_of tasks.Snapshot = Tell Snapshot
command_of tasks.Condense = Tell Condense
command_of (tasks.Make count) = Make count.now
