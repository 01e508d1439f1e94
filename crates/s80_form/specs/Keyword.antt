-- The words of the messages that change classes.
use Rattle.std.specs.Prelude.{ℕ, List, codes}
use Rattle.s80_form.specs.declared.keyword.Keyword.{Keyword}
use Rattle.s80_form.specs.declared.keyword.Keyword.TheVariants.{Defines, Plain}
use Rattle.s80_form.specs.declared.keyword.Word.{Word}
use Rattle.s80_form.specs.declared.keyword.Word.TheVariants as words
use Rattle.s80_form.specs.Definition.{defining_word, defining_selector}

abbrev pub word_text : Word → List ℕ
word_text words.InstanceVariableNames = codes "instanceVariableNames:"
word_text words.Comment = codes "comment:"
word_text words.RemoveSelector = codes "removeSelector:"
word_text words.RemoveClassNamed = codes "removeClassNamed:"
word_text words.RemoveFromSystem = codes "removeFromSystem"
word_text words.NoChanges = codes "noChanges"
word_text words.CondenseChanges = codes "condenseChanges"
word_text words.Snapshot = codes "snapshot"
word_text words.Organization = codes "organization"

-- the word that stands first in a text, and the selector of a tree
abbrev pub keyword_text : Keyword → List ℕ
keyword_text (Defines kind) = defining_word kind
keyword_text (Plain word) = word_text word

abbrev pub keyword_selector : Keyword → List ℕ
keyword_selector (Defines kind) = defining_selector kind
keyword_selector (Plain word) = word_text word
