-- What encoding an instruction adds.
use Rattle.std.proofs.Common.{◌≡◌, ℕ, ◌+◌, ◌-◌, ◌≤◌, ◌<◌, zero, suc, ℤ, pos, negsuc, ◌-ℤ◌, w32, to_z, of_z, List, [], ◌++◌, length, take, slice_range, OnOk, Result, refl, sym, ap, subst, ◌∙◌, arith}
use Rattle.std.proofs.lemmas.List.{append-nil}
use Rattle.std.proofs.lemmas.Result.{on_ok_weaker}
use Rattle.std.proofs.Math.Seq.{take-length}
use Rattle.std.proofs.lemmas.Int.{to_z-of_z, to_z_pos}
use mir.Val.{SFits}
use Rattle.s80_code.specs.declared.instruction.Instruction.{Instruction}
use Rattle.s80_code.specs.declared.instruction.Instruction.TheVariants.{Jump}
use Rattle.s80_code.specs.Table.{Stands, decoded}
use Rattle.s80_code.specs.Spelling.{spelled, IsSpellable}
use Rattle.s80_code.proofs.lemmas.SpellingLemmas.{spelled_tells}
use Rattle.s80_compile.proofs.WidthTable.{most_bytes, narrow_there}
use Rattle.s80_compile.specs.Emitted.{Adds, AddsBack}

-- a spelling by itself
stands_alone : (i : Instruction) → IsSpellable i → Stands (spelled i) 0 i (length (spelled i))
stands_alone i h =
    record { width = length (spelled i); is_decoded = ap decoded (sym (append-nil (spelled i))) ∙ spelled_tells i h []; behind = omega arith }

whole_range : (xs : List ℕ) → slice_range xs 0 (length xs) ≡ xs
whole_range xs = let all : length xs - 0 ≡ length xs = omega arith in ap (λ n. take n xs) all ∙ take-length xs

adds : (i : Instruction) (most : ℕ) (old new : List ℕ) → IsSpellable i → most_bytes i ≤ most → new ≡ old ++ spelled i → Adds i most old new
adds i most old new h few is =
    record {
      part = spelled i;
      is = is;
      stands = record { stands = stands_alone i h; here = whole_range (spelled i) };
      short = omega (arith, few, narrow_there (spelled i) 0 (length (spelled i)) i (stands_alone i h));
    }

pub added : {T E : Type 0} (r : Result T E) (i : Instruction) (most : ℕ) (old new : List ℕ) → IsSpellable i → most_bytes i ≤ most → OnOk r (new ≡ old ++ spelled i) → OnOk r (Adds i most old new)
added r i most old new h few = on_ok_weaker r (adds i most old new h few)

pub added_back : {T E : Type 0} (r : Result T E) (d : ℕ) (z : ℤ) (old new : List ℕ) → d < 1024 → z ≡ negsuc d → OnOk r (new ≡ old ++ spelled (Jump z)) → OnOk r (AddsBack d old new)
unfolding spelled adds
added_back r d z old new h same =
    λ is. on_ok_weaker r (λ (e : new ≡ old ++ spelled (Jump (negsuc d))). record { adds = adds (Jump (negsuc d)) 2 old new h (omega arith) e; width = refl }) (subst (λ (x : ℤ). OnOk r (new ≡ old ++ spelled (Jump x))) same is)

-- the same where the code has another word for the instruction
pub added_as : {T E : Type 0} (r : Result T E) (i j : Instruction) (most : ℕ) (old new : List ℕ) → j ≡ i → IsSpellable i → most_bytes i ≤ most → OnOk r (new ≡ old ++ spelled j) → OnOk r (Adds i most old new)
added_as r i j most old new same h few added_j = added r i most old new h few (subst (λ (x : Instruction). OnOk r (new ≡ old ++ spelled x)) same added_j)

-- a distance back in the code's words
one_less : (d : ℕ) → negsuc 0 -ℤ pos d ≡ negsuc d
one_less zero = refl
one_less (suc d) = let same : suc (0 + d) ≡ suc d = omega arith in ap negsuc same

pub one_back : (d : ℕ) → d < 1024 → to_z w32 (of_z w32 (negsuc 0 -ℤ to_z w32 d)) ≡ negsuc d
one_back d h =
    let fits : SFits w32 (negsuc d) = omega arith in
    ap (λ z. to_z w32 (of_z w32 z)) (ap (λ z. negsuc 0 -ℤ z) (to_z_pos w32 d (omega arith)) ∙ one_less d) ∙ to_z-of_z w32 (negsuc d) fits
