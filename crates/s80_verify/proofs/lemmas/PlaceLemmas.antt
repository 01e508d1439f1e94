-- The places of instructions follow one another, and each is one.
use Rattle.std.proofs.Common.{◌≡◌, ◌∙◌, ap, sym, subst, refl, ℕ, zero, suc, ◌+◌, ◌-◌, ◌<◌, ◌≤◌, ◌⊎◌, inl, inr, ℤ, pos, List, [], ◌∷◌, Option, Some, None, length, drop, slice_get, arith, length-drop}
use Rattle.std.proofs.lemmas.Bool.{cases_lt}
use Rattle.s80_code.specs.declared.code.Code.{Code}
use Rattle.s80_code.specs.declared.instruction.Storage.{Storage}
use Rattle.s80_code.specs.declared.instruction.Storage.TheVariants.{Receiver, Temporary, Constant, Variable}
use Rattle.s80_code.specs.declared.instruction.Instruction.{Instruction}
use Rattle.s80_code.specs.declared.instruction.Instruction.TheVariants.{Push, Store, PopInto, PushFixed, ReturnFixed, ReturnTop, ReturnFromBlock, Send, SendSuper, SendSpecial, Pop, Duplicate, PushContext, Jump, JumpOnTrue, JumpOnFalse}
use Rattle.s80_code.specs.Entries.{EntryTree, constant, entries_of}
use Rattle.s80_base.specs.Literal.{LiteralTree, small}
use Rattle.s80_code.specs.Special.{block_copy}
use Rattle.s80_code.specs.Table.{Stands, decoded}
use Rattle.s80_code.proofs.lemmas.TableLemmas.{value, place_law}
use Rattle.s80_verify.specs.Reach.{IsPlaceAfter, IsPlace, Counts, Begins}

-- one instruction stands at a place
pub record Same (i j : Instruction) (next after : ℕ) : Type 0 where
  pub instruction : i ≡ j
  pub place : next ≡ after

pub same_instruction : (bytes : List ℕ) (at : ℕ) (i j : Instruction) (next after : ℕ) → Stands bytes at i next → Stands bytes at j after → Same i j next after
same_instruction bytes at i j next after s t =
    let e : (i, s.width) ≡ (j, t.width) = value (sym s.is_decoded ∙ t.is_decoded) in
    record { instruction = ap (λ p. p.0) e; place = s.behind ∙ ap (λ p. at + p.1) e ∙ sym t.behind }

pub goes_forward : (bytes : List ℕ) (at : ℕ) (i : Instruction) (next : ℕ) → Stands bytes at i next → at < next
goes_forward bytes at i next s = (place_law bytes at next i s).0

pub ends_within : (bytes : List ℕ) (at : ℕ) (i : Instruction) (next : ℕ) → Stands bytes at i next → next ≤ length bytes
ends_within bytes at i next s = (place_law bytes at next i s).1

pub moved : (bytes : List ℕ) (at other : ℕ) (i : Instruction) (next : ℕ) → at ≡ other → Stands bytes at i next → Stands bytes other i next
moved bytes at other i next e s = subst (λ (p : ℕ). Stands bytes p i next) e s

pub one_place : (bytes : List ℕ) (n a b : ℕ) → IsPlaceAfter bytes n a → IsPlaceAfter bytes n b → a ≡ b
one_place bytes zero a b p q = p ∙ sym q
one_place bytes (suc n) a b (x, i, p, s) (y, j, q, t) =
    (same_instruction bytes y i j a b (moved bytes x y i a (one_place bytes n x y p q) s) t).place

-- an instruction stands at a place and ends before or at another
pub record Precedes (bytes : List ℕ) (a b : ℕ) : Type 0 where
  pub instruction : Instruction
  pub next : ℕ
  pub stands : Stands bytes a instruction next
  pub upto : next ≤ b

pub precedes : (bytes : List ℕ) (n m a b : ℕ) → IsPlaceAfter bytes n a → IsPlaceAfter bytes m b → n < m → Precedes bytes a b
precedes bytes n zero a b p q h = absurd (omega arith)
precedes bytes n (suc m) a b p (y, j, q, t) h =
    elim (cases_lt n m) [
      | inl less ↦
          let r : Precedes bytes a y = precedes bytes n m a y p q less in
          record { instruction = r.instruction; next = r.next; stands = r.stands; upto = omega (arith, r.upto, goes_forward bytes y j b t) }
      | inr last ↦
          let same : m ≡ n = omega arith in
          let e : y ≡ a = one_place bytes n y a (subst (λ (k : ℕ). IsPlaceAfter bytes k y) same q) p in
          record { instruction = j; next = b; stands = moved bytes y a j b e t; upto = omega arith }
    ]

pub order : (bytes : List ℕ) (a b : ℕ) → IsPlace bytes a → IsPlace bytes b → (a ≡ b) ⊎ (Precedes bytes a b ⊎ Precedes bytes b a)
order bytes a b (n, p) (m, q) =
    elim (cases_lt n m) [
      | inl less ↦ inr (inl (precedes bytes n m a b p q less))
      | inr not_less ↦ elim (cases_lt m n) [
        | inl less ↦ inr (inr (precedes bytes m n b a q p less))
        | inr more ↦
            let same : m ≡ n = omega arith in
            inl (one_place bytes n a b p (subst (λ (k : ℕ). IsPlaceAfter bytes k b) same q))
      ]
    ]

pub place_behind : (bytes : List ℕ) (at : ℕ) (i : Instruction) (next : ℕ) → IsPlace bytes at → Stands bytes at i next → IsPlace bytes next
place_behind bytes at i next (n, p) s = (suc n, (at, i, p, s))

pub before_is_not : (bytes : List ℕ) (a b : ℕ) (i j : Instruction) (at : ℕ) → Precedes bytes a b → Stands bytes a i at → Stands bytes b j at → ⊥
before_is_not bytes a b i j at p s t =
    omega (arith, p.upto, (same_instruction bytes a p.instruction i p.next at p.stands s).place, goes_forward bytes b j at t)

-- one instruction ends at a place
pub one_before : (bytes : List ℕ) (a b : ℕ) (i j : Instruction) (at : ℕ) → IsPlace bytes a → IsPlace bytes b → Stands bytes a i at → Stands bytes b j at → a ≡ b
one_before bytes a b i j at p q s t =
    elim (order bytes a b p q) [
      | inl same ↦ same
      | inr (inl first) ↦ absurd (before_is_not bytes a b i j at first s t)
      | inr (inr second) ↦ absurd (before_is_not bytes b a j i at second t s)
    ]

-- an instruction pushes one number
pub entry_small : (m n : ℕ) → Some (constant (small (pos m))) ≡ Some (constant (small (pos n))) → m ≡ n
entry_small m n e = cc

pub one_count : (code : Code) (i : Instruction) (m n : ℕ) → Counts code i m → Counts code i n → m ≡ n
one_count code (PushFixed number) m n p q = omega (arith, p.0, q.0)
one_count code (Push (Constant number)) m n p q = entry_small m n (sym p.0 ∙ q.0)
one_count code (Push (Receiver number)) m n p q = absurd p
one_count code (Push (Temporary number)) m n p q = absurd p
one_count code (Push (Variable number)) m n p q = absurd p
one_count code (Store s) m n p q = absurd p
one_count code (PopInto s) m n p q = absurd p
one_count code (ReturnFixed k) m n p q = absurd p
one_count code ReturnTop m n p q = absurd p
one_count code ReturnFromBlock m n p q = absurd p
one_count code (Send a k) m n p q = absurd p
one_count code (SendSuper a k) m n p q = absurd p
one_count code (SendSpecial k) m n p q = absurd p
one_count code Pop m n p q = absurd p
one_count code Duplicate m n p q = absurd p
one_count code PushContext m n p q = absurd p
one_count code (Jump z) m n p q = absurd p
one_count code (JumpOnTrue z) m n p q = absurd p
one_count code (JumpOnFalse z) m n p q = absurd p

-- a 200 has one block's beginning
pub record SameBlock (code : Code) (at m n s t : ℕ) (b : Begins code at m s) (c : Begins code at n t) : Type 0 where
  pub arguments : m ≡ n
  pub start : s ≡ t
  pub push : b.push ≡ c.push
  pub jump : b.jump ≡ c.jump

pub one_block : (code : Code) (at m n s t : ℕ) (b : Begins code at m s) (c : Begins code at n t) → SameBlock code at m n s t b c
one_block code at m n s t b c =
    let push : b.push ≡ c.push =
    one_before code.bytes b.push c.push b.count c.count at
    (place_behind code.bytes b.context PushContext b.push b.placed b.is_context)
    (place_behind code.bytes c.context PushContext c.push c.placed c.is_context)
    b.is_count c.is_count in
    let count : b.count ≡ c.count =
    (same_instruction code.bytes c.push b.count c.count at at (moved code.bytes b.push c.push b.count at push b.is_count) c.is_count).instruction in
    let jump : b.jump ≡ c.jump = (same_instruction code.bytes at (SendSpecial block_copy) (SendSpecial block_copy) b.jump c.jump b.is_copy c.is_copy).place in
    record {
      arguments = one_count code c.count m n (subst (λ (i : Instruction). Counts code i m) count b.counted) c.counted;
      start = (same_instruction code.bytes c.jump (Jump b.distance) (Jump c.distance) s t (moved code.bytes b.jump c.jump (Jump b.distance) s jump b.is_jump) c.is_jump).place;
      push = push;
      jump = jump;
    }

-- what stands at a place is at the front of what is left there
pub front_at : (bytes : List ℕ) (at byte : ℕ) → slice_get bytes at ≡ Some byte → drop at bytes ≡ byte ∷ drop (suc at) bytes
front_at [] at byte e = cc
front_at (b ∷ bytes) zero byte e = ap (λ x. x ∷ bytes) (value e)
front_at (b ∷ bytes) (suc at) byte e = front_at bytes at byte e
