-- How many bytes an instruction takes at most.
use Rattle.std.proofs.Common.{◌≡◌, subst, refl, ℕ, ◌+◌, ◌-◌, ◌≤◌, Bool, true, false, cond, find, List, [], ◌∷◌, Option, Some, None, drop, arith}
use Rattle.std.specs.List.{AllByRecursion}
use Rattle.s80_code.specs.declared.instruction.Instruction.{Instruction}
use Rattle.s80_code.specs.declared.instruction.Instruction.TheVariants.{Push, Store, PopInto, PushFixed, ReturnFixed, ReturnTop, ReturnFromBlock, Send, SendSuper, SendSpecial, Pop, Duplicate, PushContext, Jump, JumpOnTrue, JumpOnFalse}
use Rattle.s80_code.specs.Table.{Form, alone, with_one, with_two, Row, rows, has, row_of, formed, decoded, Stands}
use Rattle.s80_code.specs.Spelling.{Written}
use Rattle.s80_code.proofs.lemmas.TableLemmas.{value, by_row}

abbrev pub most_bytes : Instruction → ℕ
most_bytes (Push storage) = 2
most_bytes (Store storage) = 2
most_bytes (PopInto storage) = 2
most_bytes (PushFixed number) = 1
most_bytes (ReturnFixed number) = 1
most_bytes ReturnTop = 1
most_bytes ReturnFromBlock = 1
most_bytes (Send arguments selector) = 3
most_bytes (SendSuper arguments selector) = 3
most_bytes (SendSpecial number) = 1
most_bytes Pop = 1
most_bytes Duplicate = 1
most_bytes PushContext = 1
most_bytes (Jump distance) = 2
most_bytes (JumpOnTrue distance) = 2
most_bytes (JumpOnFalse distance) = 2

-- an instruction of this form takes no more
abbrev pub FormIsNarrow : Form → Type 0
FormIsNarrow (alone f) = (i : ℕ) → 1 ≤ most_bytes (f i)
FormIsNarrow (with_one f) = (i b : ℕ) → 2 ≤ most_bytes (f i b)
FormIsNarrow (with_two f) = (i b c : ℕ) → 3 ≤ most_bytes (f i b c)

abbrev pub IsNarrow : Row → Type 0
IsNarrow r = FormIsNarrow r.form

pub found_is : {A : Type 0} (P : A → Type 0) (p : A → Bool) (xs : List A) (x : A) → AllByRecursion P xs → find p xs ≡ Some x → P x
found_is P p [] x all e = cc
found_is P p (y ∷ ys) x all e = by_test (p y) (found_is P p ys x all.1) e
  where
    by_test : (b : Bool) → (find p ys ≡ Some x → P x) → cond b (Some y) (find p ys) ≡ Some x → P x
    by_test true later e = subst P (value e) all.0
    by_test false later e = later e

pub rows_are_narrow : AllByRecursion IsNarrow rows
rows_are_narrow = search arith

pub formed_is_narrow : (f : Form) (i : ℕ) (behind : List ℕ) (d : Instruction × ℕ) → FormIsNarrow f → formed f i behind ≡ Some d → d.1 ≤ most_bytes d.0
formed_is_narrow (alone f) i behind d h e = subst (λ (d : Instruction × ℕ). d.1 ≤ most_bytes d.0) (value e) (h i)
formed_is_narrow (with_one f) i [] d h e = cc
formed_is_narrow (with_one f) i (b ∷ behind) d h e = subst (λ (d : Instruction × ℕ). d.1 ≤ most_bytes d.0) (value e) (h i b)
formed_is_narrow (with_two f) i [] d h e = cc
formed_is_narrow (with_two f) i (b ∷ []) d h e = cc
formed_is_narrow (with_two f) i (b ∷ c ∷ behind) d h e = subst (λ (d : Instruction × ℕ). d.1 ≤ most_bytes d.0) (value e) (h i b c)

pub row_is_narrow : (o : Option Row) (b : ℕ) (behind : List ℕ) (d : Instruction × ℕ) → ((r : Row) → o ≡ Some r → IsNarrow r) → by_row o b behind ≡ Some d → d.1 ≤ most_bytes d.0
row_is_narrow None b behind d h e = cc
row_is_narrow (Some r) b behind d h e = formed_is_narrow r.form (b - r.first) behind d (h r refl) e

pub row_of_is_narrow : (b : ℕ) (r : Row) → row_of b ≡ Some r → IsNarrow r
unfolding row_of
row_of_is_narrow b r e = found_is IsNarrow (has b) rows r rows_are_narrow e

pub decoded_is_narrow : (bytes : List ℕ) (d : Instruction × ℕ) → decoded bytes ≡ Some d → d.1 ≤ most_bytes d.0
decoded_is_narrow [] d e = cc
decoded_is_narrow (b ∷ behind) d e = row_is_narrow (row_of b) b behind d (row_of_is_narrow b) e

pub narrow_there : (bytes : List ℕ) (at next : ℕ) (i : Instruction) → Stands bytes at i next → next ≤ at + most_bytes i
narrow_there bytes at next i s = omega (arith, s.behind, decoded_is_narrow (drop at bytes) (i, s.width) s.is_decoded)

pub narrow : (bytes : List ℕ) (at next : ℕ) (i : Instruction) → Written bytes at i next → next ≤ at + most_bytes i
narrow bytes at next i w = narrow_there bytes at next i w.stands
