-- What the program can be asked to do.
use Rattle.std.specs.Prelude.{◌≢◌, ℕ, List, [], ◌∷◌, drop, Option, IsTrue, codes}
use Rattle.std.specs.List.{prefix_len}
use Rattle.s80_base.specs.Byte.{is_separator}
use Rattle.s80_chunk.specs.Chunks.{item_of}
use Rattle.s80_chunk.specs.declared.item.Role.TheVariants.{Plain}
use Rattle.s80_line.specs.Line.{is_number, number_of}
use Rattle.s80_model.specs.Asked.{IsTimed}
use Rattle.s80_model.specs.declared.item.Filed.TheVariants.{All, Class, Set}
use Rattle.s80_model.specs.declared.item.Query.{Query as SessionQuery}
use Rattle.s80_model.specs.declared.item.Query.TheVariants.{Recover, Classes, Browse, Source, Versions, Changes, Condense, FileOut, Senders, Implementors, References, Undeclared, Unimplemented, Unsent, Snapshot}
use Rattle.s80_model.specs.declared.item.SessionItem.{SessionItem}
use Rattle.s80_model.specs.declared.item.SessionItem.TheVariants.{Chunk, Query}
use Rattle.s80_model.specs.Settings.{Settings}
use Rattle.s80_session.specs.Files.{IsQuestion}

-- to work the items of the input, or to merge them as a second change set; or one item: the chunk of a text, or what stands beside an input; or to
-- make as many classes as a word says
pub data Command : Type 0 where
  Run : Command
  Merge : Command
  Do : List ℕ → Command
  Tell : SessionQuery → Command
  Make : List ℕ → Command

-- the word that names a command, and the words behind it
abbrev pub command_word : Command → List ℕ
command_word Run = codes "run"
command_word Merge = codes "merge"
command_word (Do text) = codes "do"
command_word (Tell Recover) = codes "recover"
command_word (Tell Classes) = codes "classes"
command_word (Tell (Browse name)) = codes "browse"
command_word (Tell (Source spec selector)) = codes "source"
command_word (Tell (Versions spec selector)) = codes "versions"
command_word (Tell Changes) = codes "changes"
command_word (Tell (FileOut All)) = codes "file-out"
command_word (Tell (FileOut (Class name))) = codes "file-out-class"
command_word (Tell (FileOut Set)) = codes "file-out-set"
command_word (Tell (Senders selector)) = codes "senders"
command_word (Tell (Implementors selector)) = codes "implementors"
command_word (Tell (References name)) = codes "references"
command_word (Tell Undeclared) = codes "undeclared"
command_word (Tell Unimplemented) = codes "unimplemented"
command_word (Tell Unsent) = codes "unsent"
command_word (Tell Snapshot) = codes "snapshot"
command_word (Tell Condense) = codes "condense"
command_word (Make count) = codes "make"

abbrev pub arguments_of : Command → List (List ℕ)
arguments_of Run = []
arguments_of Merge = []
arguments_of (Do text) = text ∷ []
arguments_of (Tell Recover) = []
arguments_of (Tell Classes) = []
arguments_of (Tell (Browse name)) = name ∷ []
arguments_of (Tell (Source spec selector)) = spec ∷ selector ∷ []
arguments_of (Tell (Versions spec selector)) = spec ∷ selector ∷ []
arguments_of (Tell Changes) = []
arguments_of (Tell (FileOut All)) = []
arguments_of (Tell (FileOut (Class name))) = name ∷ []
arguments_of (Tell (FileOut Set)) = []
arguments_of (Tell (Senders selector)) = selector ∷ []
arguments_of (Tell (Implementors selector)) = selector ∷ []
arguments_of (Tell (References name)) = name ∷ []
arguments_of (Tell Undeclared) = []
arguments_of (Tell Unimplemented) = []
arguments_of (Tell Unsent) = []
arguments_of (Tell Snapshot) = []
arguments_of (Tell Condense) = []
arguments_of (Make count) = count ∷ []

-- what stands behind the separators at a text's beginning
abbrev pub behind_separators : List ℕ → List ℕ
behind_separators text = drop (prefix_len is_separator text) text

-- there is something to do: a number of classes has one to four digits, and is from 1 to 1,000
abbrev pub IsUseful : Command → Type 0
IsUseful Run = Unit {0}
IsUseful Merge = Unit {0}
IsUseful (Do text) = behind_separators text ≢ []
IsUseful (Tell query) = Unit {0}
IsUseful (Make count) = IsTrue (is_number 4 1000 count)

-- what a command works: the items of the input, those as a second change set, one item, or those of so many classes
pub data Job : Type 0 where
  Takes : Job
  Merges : Job
  Works : SessionItem → Job
  Makes : ℕ → Job

-- a text is a plain chunk
abbrev pub job_of : Command → Job
job_of Run = Takes
job_of Merge = Merges
job_of (Do text) = Works (Chunk (item_of Plain (behind_separators text)))
job_of (Tell query) = Works (Query query)
job_of (Make count) = Makes (number_of count)

-- what the options say: how many ticks a doIt may take, and how many versions of each method a condensed list keeps
pub record Options : Type 0 where
  pub budget : ℕ
  pub kept_versions : ℕ

-- what a run is given, with the seconds of its clock, where that tells them
abbrev pub settings_of : Options → Option ℕ → Settings
settings_of options moment = record { budget = options.budget; kept_versions = options.kept_versions; moment = moment }

-- what it asks is one thing: where it files out, the clock tells its seconds
abbrev pub IsTimedJob : Settings → Job → Type 0
IsTimedJob settings Takes = Unit {0}
IsTimedJob settings Merges = Unit {0}
IsTimedJob settings (Works item) = IsTimed settings item
IsTimedJob settings (Makes count) = Unit {0}

abbrev pub IsTimedCommand : Options → Option ℕ → Command → Type 0
IsTimedCommand options moment command = IsTimedJob (settings_of options moment) (job_of command)

-- it asks for something to be told, and no more
abbrev pub IsAskingCommand : Command → Type 0
IsAskingCommand Run = ⊥
IsAskingCommand Merge = ⊥
IsAskingCommand (Do text) = ⊥
IsAskingCommand (Tell query) = IsQuestion query
IsAskingCommand (Make count) = ⊥
