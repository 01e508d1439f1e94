-- Words ask for one command, with the same options.
use Rattle.std.proofs.Common.{◌≡◌, ℕ, List, [], ◌∷◌, Option, Some, None, refl, sym, ap, subst, ◌∙◌}
use Rattle.std.specs.Prelude.{codes, if◌then◌else◌, option_map}
use Rattle.std.specs.Str.{bytes_eq}
use Rattle.s80_line.specs.declared.line.Line.{Line}
use Rattle.s80_line.specs.Line.{IsLine, LineParts}
use Rattle.s80_line.specs.Shown.{shown}
use Rattle.s80_model.specs.declared.item.Filed.TheVariants.{All, Class, Set}
use Rattle.s80_model.specs.declared.item.Query.TheVariants.{Recover, Classes, Browse, Source, Versions, Changes, Condense, FileOut, Senders, Implementors, References, Undeclared, Unimplemented, Unsent, Snapshot}
use Rattle.s80_program.specs.Command.{Command, Options, Run, Merge, Do, Tell, Make, command_word, arguments_of}
use Rattle.s80_program.specs.Words.{AreOf, Asks, options_of}

-- the command of which these are the word and the arguments, if they are those of one
abbrev command_from : List ℕ → List (List ℕ) → Option Command
command_from word [] =
    if bytes_eq word (codes "run") then Some Run
    else (if bytes_eq word (codes "merge") then Some Merge
    else (if bytes_eq word (codes "recover") then Some (Tell Recover)
    else (if bytes_eq word (codes "classes") then Some (Tell Classes)
    else (if bytes_eq word (codes "changes") then Some (Tell Changes)
    else (if bytes_eq word (codes "file-out") then Some (Tell (FileOut All))
    else (if bytes_eq word (codes "file-out-set") then Some (Tell (FileOut Set))
    else (if bytes_eq word (codes "undeclared") then Some (Tell Undeclared)
    else (if bytes_eq word (codes "unimplemented") then Some (Tell Unimplemented)
    else (if bytes_eq word (codes "unsent") then Some (Tell Unsent)
    else (if bytes_eq word (codes "condense") then Some (Tell Condense) else Some (Tell Snapshot)))))))))))
command_from word (name ∷ []) =
    if bytes_eq word (codes "do") then Some (Do name)
    else (if bytes_eq word (codes "file-out-class") then Some (Tell (FileOut (Class name)))
    else (if bytes_eq word (codes "senders") then Some (Tell (Senders name))
    else (if bytes_eq word (codes "implementors") then Some (Tell (Implementors name))
    else (if bytes_eq word (codes "references") then Some (Tell (References name))
    else (if bytes_eq word (codes "make") then Some (Make name) else Some (Tell (Browse name)))))))
command_from word (spec ∷ selector ∷ rest) = if bytes_eq word (codes "source") then Some (Tell (Source spec selector)) else Some (Tell (Versions spec selector))

from_words : (command : Command) → command_from (command_word command) (arguments_of command) ≡ Some command
from_words Run = refl
from_words Merge = refl
from_words (Do text) = refl
from_words (Tell Recover) = refl
from_words (Tell Classes) = refl
from_words (Tell (Browse name)) = refl
from_words (Tell (Source spec selector)) = refl
from_words (Tell (Versions spec selector)) = refl
from_words (Tell Changes) = refl
from_words (Tell (FileOut All)) = refl
from_words (Tell (FileOut (Class name))) = refl
from_words (Tell (FileOut Set)) = refl
from_words (Tell (Senders selector)) = refl
from_words (Tell (Implementors selector)) = refl
from_words (Tell (References name)) = refl
from_words (Tell Undeclared) = refl
from_words (Tell Unimplemented) = refl
from_words (Tell Unsent) = refl
from_words (Tell Snapshot) = refl
from_words (Tell Condense) = refl
from_words (Make count) = refl

same_some : (one other : Command) → Some one ≡ Some other → one ≡ other
same_some one other is = cc is

same_line : (one other : LineParts) → Some one ≡ Some other → one ≡ other
same_line one other is = cc is

from_parts : (word : List ℕ) (arguments : List (List ℕ)) (command : Command) → AreOf word arguments command → command_from word arguments ≡ Some command
from_parts word arguments command h = ap (λ w. command_from w arguments) h.word_is ∙ ap (command_from (command_word command)) h.arguments_are ∙ from_words command

-- the line that words are
the_line : (words : List (List ℕ)) (line : LineParts) (options : Options) (command : Command) → IsLine words (Some line) → (asked : Asks words options command) → asked.line ≡ line
the_line words line options command read asked = same_line asked.line line (sym asked.read.1 ∙ read.1)

pub one_command : (words : List (List ℕ)) (options other : Options) (one two : Command) → Asks words options one → Asks words other two → one ≡ two
one_command words options other one two asked again =
    let P : LineParts → Type 0 = λ l. AreOf l.command l.arguments one in
    let are = subst P (the_line words again.line options one again.read asked) asked.command_is in
    same_some one two (sym (from_parts again.line.command again.line.arguments one are) ∙ from_parts again.line.command again.line.arguments two again.command_is)

one_choice : (words : List (List ℕ)) (options other : Options) (one two : Command) → Asks words options one → Asks words other two → options ≡ other
one_choice words options other one two asked again = asked.options_are ∙ ap options_of (the_line words again.line options one again.read asked) ∙ sym again.options_are

-- what holds of one command with its options that words ask for, holds of each
pub of_each : (words : List (List ℕ)) (options other : Options) (one two : Command) (P : Options → Command → Type 0) → Asks words options one → Asks words other two → P other two → P options one
of_each words options other one two P asked again h =
    subst (λ k. P options k) (sym (one_command words options other one two asked again)) (subst (λ o. P o two) (sym (one_choice words options other one two asked again)) h)

none_asked : (words : List (List ℕ)) (options : Options) (command : Command) → IsLine words None → Asks words options command → ⊥
none_asked words options command none asked = let bad : None ≡ Some asked.line = sym (none asked.read.0) ∙ asked.read.1 in cc

-- words that are no line ask for nothing
pub no_line : (words : List (List ℕ)) (line : Option Line) → IsLine words (option_map shown line) → ((l : Line) → line ≡ Some l → ⊥) → (options : Options) (command : Command) → Asks words options command → ⊥
no_line words None read none options command asked = none_asked words options command read asked
no_line words (Some line) read none options command asked = none line refl

-- nor do those whose parts are of no command
pub no_parts : (words : List (List ℕ)) (found : Option Line) (line : Line) (arguments : List (List ℕ)) → IsLine words (option_map shown found) → found ≡ Some line → arguments ≡ line.arguments.items → ((command : Command) → AreOf line.command arguments command → ⊥)
    → (options : Options) (command : Command) → Asks words options command → ⊥
no_parts words found line arguments read found_is arguments_are none options command asked =
    let P : Option Line → Type 0 = λ l. IsLine words (option_map shown l) in
    let Q : LineParts → Type 0 = λ l. AreOf l.command l.arguments command in
    let R : List (List ℕ) → Type 0 = λ l. AreOf line.command l command in
    none command (subst R (sym arguments_are) (subst Q (the_line words (shown line) options command (subst P found_is read) asked) asked.command_is))
