-- What merging is answered.
use Rattle.std.specs.Prelude.{ℕ, List, [], ◌∷◌, ◌++◌, length, codes, decimal, Option, Some, None}
use Rattle.std.specs.List.{flat_map}
use Rattle.s80_change.specs.declared.change.Change.{Change}
use Rattle.s80_form.specs.declared.refusal.Refusal.{Refusal}
use Rattle.s80_print.specs.Refusal.{refusal_text, spec_of}
use Rattle.s80_merge.specs.declared.key.Key.{Key}
use Rattle.s80_merge.specs.declared.key.Key.TheVariants.{ClassKey, DefinitionKey, ClassVarsKey, CommentKey, MethodKey}
use Rattle.s80_joining.specs.declared.outcome.Outcome.{Outcome}
use Rattle.s80_joining.specs.declared.outcome.Outcome.TheVariants.{Refused, Conflicts, Joins}
use Rattle.s80_joining.specs.Outcome.{joined}

abbrev pub key_text : Key → List ℕ
key_text (ClassKey name) = codes "class " ++ name
key_text (DefinitionKey name) = codes "definition " ++ name
key_text (ClassVarsKey name) = codes "class-variables " ++ name
key_text (CommentKey name) = codes "comment " ++ name
key_text (MethodKey name side selector) = codes "method " ++ spec_of name side ++ codes " " ++ selector

abbrev pub conflict_line : Key → List ℕ
conflict_line key = codes "conflict " ++ key_text key ++ 10 ∷ []

abbrev pub conflict_lines : List Key → List ℕ
conflict_lines keys = flat_map conflict_line keys

abbrev pub merged_line : ℕ → List ℕ
merged_line count = (codes "merged " ++ decimal count) ++ (codes " changes" ++ 10 ∷ [])

abbrev pub refusal_line : Refusal → List ℕ
refusal_line refusal = refusal_text refusal ++ 10 ∷ []

abbrev pub refusal_line_or : Option Refusal → List ℕ
refusal_line_or None = []
refusal_line_or (Some refusal) = refusal_line refusal

-- the reply, by the list before it
abbrev pub reply_text : List Change → Outcome → List ℕ
reply_text list (Refused refusal) = refusal_line refusal
reply_text list (Conflicts keys) = conflict_lines keys
reply_text list (Joins theirs) = merged_line (length (joined list theirs).changes) ++ refusal_line_or (joined list theirs).refusal
