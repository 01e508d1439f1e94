-- Two parts of code, wherever they stand, are the same bytes; the bytes of an instruction are its spelling, and parts go one behind
-- another. No induction.
use Rattle.std.proofs.Common.{◌≡◌, ◌∙◌, ap, sym, subst, ℕ, ◌+◌, ◌-◌, List, [], ◌++◌, length, drop, slice_range, append_assoc, append-nil, length-append, length-drop, length-take-le, arith}
use Rattle.std.proofs.lemmas.List.{drop_all}
use Rattle.std.proofs.lemmas.List.Folds.{drop_split}
use Rattle.s80_code.specs.declared.instruction.Instruction.{Instruction}
use Rattle.s80_code.specs.Table.{Stands}
use Rattle.s80_code.specs.Spelling.{spelled, Written}
use Rattle.s80_code.proofs.lemmas.TableLemmas.{place_law}

-- from one place to another stand these bytes
pub record Reads (bytes text : List ℕ) (p q : ℕ) : Type 0 where
  pub ends : q ≡ p + length text
  pub here : drop p bytes ≡ text ++ drop q bytes

-- the same bytes stand from one place to another in the first, and in the second
pub record Same (one other : List ℕ) (p q r s : ℕ) : Type 0 where
  pub text : List ℕ
  pub first : Reads one text p q
  pub second : Reads other text r s

module _ {bytes : List ℕ} where
  reads_on : {p m q : ℕ} (text more : List ℕ) → Reads bytes text p m → Reads bytes more m q → Reads bytes (text ++ more) p q
  reads_on {q = q} text more a b =
      record {
        ends = omega (arith, a.ends, b.ends, length-append text more);
        here = a.here ∙ ap (λ l. text ++ l) b.here ∙ sym (append_assoc text more (drop q bytes));
      }

  reads_none : {p q : ℕ} → p ≡ q → Reads bytes [] p q
  reads_none e = record { ends = omega (arith, e); here = ap (λ k. drop k bytes) e }

  pub reads_stood : {p q : ℕ} {text : List ℕ} (i : Instruction) → Stands bytes p i q → slice_range bytes p q ≡ text → Reads bytes text p q
  reads_stood {p} {q} i s e =
      let place = place_law bytes p q i s in
      let long : length (slice_range bytes p q) ≡ q - p = length-take-le (q - p) (drop p bytes) (omega (arith, place.0, place.1, length-drop p bytes)) in
      record {
        ends = omega (arith, place.0, sym (ap length e) ∙ long);
        here = drop_split bytes p q (omega (arith, place.0)) ∙ ap (λ t. t ++ drop q bytes) e;
      }

  pub reads_written : {p q : ℕ} (i : Instruction) → Written bytes p i q → Reads bytes (spelled i) p q
  reads_written i w = reads_stood i w.stands w.here

  reads_all : (text : List ℕ) → Reads bytes text 0 (length bytes) → bytes ≡ text
  reads_all text r = r.here ∙ ap (λ l. text ++ l) (drop_all (length bytes) bytes (omega arith)) ∙ append-nil text

module _ {one other : List ℕ} where
  pub same_on : {p m q r n s : ℕ} → Same one other p m r n → Same one other m q n s → Same one other p q r s
  same_on a b = record { text = a.text ++ b.text; first = reads_on a.text b.text a.first b.first; second = reads_on a.text b.text a.second b.second }

  pub same_none : {p q r s : ℕ} → p ≡ q → r ≡ s → Same one other p q r s
  same_none e f = record { text = []; first = reads_none e; second = reads_none f }

  pub same_text : {p q r s : ℕ} (text again : List ℕ) → text ≡ again → Reads one text p q → Reads other again r s → Same one other p q r s
  same_text {p} {q} text again e a b = record { text = again; first = subst (λ (t : List ℕ). Reads one t p q) e a; second = b }

  pub same_written : {p q r s : ℕ} (i j : Instruction) → i ≡ j → Written one p i q → Written other r j s → Same one other p q r s
  same_written i j e a b = same_text (spelled i) (spelled j) (ap spelled e) (reads_written i a) (reads_written j b)

  -- they are equally long
  pub same_length : {p q r s : ℕ} → Same one other p q r s → q + r ≡ s + p
  same_length a = omega (arith, a.first.ends, a.second.ends)

  pub same_bytes : Same one other 0 (length one) 0 (length other) → one ≡ other
  same_bytes a = reads_all a.text a.first ∙ sym (reads_all a.text a.second)
