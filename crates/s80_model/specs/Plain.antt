-- What a plain text asks by itself.
use Rattle.std.specs.Prelude.{◌≡◌, ℕ, List, Result, Ok, Err, ⊤}
use Rattle.s80_change.specs.declared.change.Change.TheVariants as changes
use Rattle.s80_form.specs.Form.{IsEvaluatedText}
use Rattle.s80_form.specs.declared.refusal.Refused.{Refused}
use Rattle.s80_form.specs.declared.refusal.Refused.TheVariants as refused
use Rattle.s80_doit.specs.DoIt.{IsMethodOfDoIt}
use Rattle.s80_model.specs.Asked.{AsksPlain, refuses, adds, condenses, snapshot_note}
use Rattle.s80_model.specs.declared.plain.Plain.{Plain}
use Rattle.s80_model.specs.declared.plain.Plain.TheVariants as plain

-- the text asks to add the change of this form, or the note of a snapshot, or to condense, or to be evaluated, and then this is its tree as a
-- method; or it is refused so
abbrev pub IsPlain : List ℕ → Result Plain Refused → Type 0
IsPlain text (Ok (plain.Form form)) = AsksPlain text (adds (changes.Form form))
IsPlain text (Ok plain.Snapshot) = AsksPlain text (adds (changes.DoIt snapshot_note))
IsPlain text (Ok plain.Condense) = AsksPlain text condenses
IsPlain text (Ok (plain.Evaluate own method)) = (own ≡ text) × IsMethodOfDoIt text method × IsEvaluatedText text
IsPlain text (Err refused.Memory) = ⊤
IsPlain text (Err (refused.Refusal refusal)) = AsksPlain text (refuses refusal)
