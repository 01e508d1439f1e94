-- Lines of keys, one by one, and the names in them.
use Rattle.std.proofs.Common.{◌≡◌, ◌∙◌, ◌++◌, ◌+◌, ℕ, ap, sym, List, [], ◌∷◌, Some, take, append_assoc, codes}
use Rattle.std.specs.Prelude.{slice_get}
use Rattle.std.proofs.lemmas.Grind.{flat_map-append}
use Rattle.std.proofs.lemmas.List.{append-nil}
use Rattle.s80_base.specs.declared.names.Side.{Side}
use Rattle.s80_base.specs.declared.names.Side.TheVariants.{Class, Instance}
use Rattle.s80_form.specs.Form.{side_text}
use Rattle.s80_merge.specs.declared.key.Key.{Key}
use Rattle.s80_merge.proofs.lemmas.Working.{take_next}
use Rattle.s80_print.specs.Refusal.{spec_of}
use Rattle.s80_joining.specs.Answer.{conflict_line, conflict_lines}

pub one_line_more : (keys : List Key) (i : ℕ) (key : Key) (text now : List ℕ) → slice_get keys i ≡ Some key → text ≡ conflict_lines (take i keys) → now ≡ text ++ conflict_line key
    → now ≡ conflict_lines (take (i + 1) keys)
one_line_more keys i key text now at so is =
    is ∙ ap (λ t. t ++ conflict_line key) so ∙ sym (flat_map-append conflict_line (take i keys) (key ∷ []) ∙ ap (λ last. conflict_lines (take i keys) ++ last) (append-nil (conflict_line key)))
    ∙ ap conflict_lines (sym (take_next keys i key at))

-- the name of a class, and behind it the word of a side
pub name_put : (name : List ℕ) (side : Side) (before middle now word : List ℕ) → middle ≡ before ++ name → word ≡ side_text side → now ≡ middle ++ word → now ≡ before ++ spec_of name side
name_put name Instance before middle now word first is last = last ∙ ap (λ w. middle ++ w) is ∙ append-nil middle ∙ first
name_put name Class before middle now word first is last = last ∙ (λ i. first i ++ is i) ∙ append_assoc before name (codes " class")
