-- A jump that tests a value goes forward.
use Rattle.std.proofs.Common.{◌≡◌, ℕ, ◌-◌, pos, List, [], ◌∷◌, Bool, true, false, cond, Option, Some, None, find, refl, subst, rules}
use Rattle.std.specs.List.{AllByRecursion}
use Rattle.s80_code.specs.declared.instruction.Instruction.{Instruction}
use Rattle.s80_code.specs.declared.instruction.Instruction.TheVariants.{JumpOnTrue, JumpOnFalse}
use Rattle.s80_code.specs.Table.{Form, alone, with_one, with_two, Row, rows, has, row_of, formed, decoded}
use Rattle.s80_code.proofs.lemmas.TableLemmas.{value, by_row}

-- its distance is a number of bytes
abbrev pub IsForward : Instruction → Type 0
IsForward (JumpOnTrue distance) = (n : ℕ) × (distance ≡ pos n)
IsForward (JumpOnFalse distance) = (n : ℕ) × (distance ≡ pos n)
IsForward _ = Unit {0}

abbrev IsForwardForm : Form → Type 0
IsForwardForm (alone f) = (i : ℕ) → IsForward (f i)
IsForwardForm (with_one f) = (i b : ℕ) → IsForward (f i b)
IsForwardForm (with_two f) = (i b c : ℕ) → IsForward (f i b c)

rows_are_forward : AllByRecursion (λ r. IsForwardForm r.form) rows
rows_are_forward = search rules

found_is_forward : (test : Row → Bool) (rs : List Row) (r : Row) → AllByRecursion (λ r. IsForwardForm r.form) rs → find test rs ≡ Some r → IsForwardForm r.form
found_is_forward test [] r h e = cc
found_is_forward test (x ∷ rs) r h e = here (test x) e (found_is_forward test rs r h.1)
  where
    here : (b : Bool) → cond b (Some x) (find test rs) ≡ Some r → (find test rs ≡ Some r → IsForwardForm r.form) → IsForwardForm r.form
    here true e later = subst (λ (r : Row). IsForwardForm r.form) (value e) h.0
    here false e later = later e

formed_is_forward : (f : Form) (i : ℕ) (behind : List ℕ) (p : Instruction × ℕ) → IsForwardForm f → formed f i behind ≡ Some p → IsForward p.0
formed_is_forward (alone f) i behind p h e = subst (λ (p : Instruction × ℕ). IsForward p.0) (value e) (h i)
formed_is_forward (with_one f) i [] p h e = cc
formed_is_forward (with_one f) i (b ∷ behind) p h e = subst (λ (p : Instruction × ℕ). IsForward p.0) (value e) (h i b)
formed_is_forward (with_two f) i [] p h e = cc
formed_is_forward (with_two f) i (b ∷ []) p h e = cc
formed_is_forward (with_two f) i (b ∷ c ∷ behind) p h e = subst (λ (p : Instruction × ℕ). IsForward p.0) (value e) (h i b c)

row_is_forward : (o : Option Row) (b : ℕ) (behind : List ℕ) (p : Instruction × ℕ) → ((r : Row) → o ≡ Some r → IsForwardForm r.form) → by_row o b behind ≡ Some p → IsForward p.0
row_is_forward None b behind p h e = cc
row_is_forward (Some r) b behind p h e = formed_is_forward r.form (b - r.first) behind p (h r refl) e

row_of_is_forward : (b : ℕ) (r : Row) → row_of b ≡ Some r → IsForwardForm r.form
unfolding row_of
row_of_is_forward b r e = found_is_forward (has b) rows r rows_are_forward e

pub decoded_is_forward : (bytes : List ℕ) (p : Instruction × ℕ) → decoded bytes ≡ Some p → IsForward p.0
decoded_is_forward [] p e = cc
decoded_is_forward (b ∷ behind) p e = row_is_forward (row_of b) b behind p (λ r. row_of_is_forward b r) e
