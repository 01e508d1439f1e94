-- The beginnings of real blocks, as they are looked for.
use Rattle.std.proofs.Common.{◌≡◌, ◌≢◌, ◌∙◌, ap, sym, subst, refl, ℕ, zero, suc, ◌+◌, ◌<◌, ◌≤◌, ◌⊎◌, inl, inr, ℤ, List, [], ◌∷◌, ◌++◌, Option, Some, None, Bool, true, false, map, length, drop, slice_get, arith, length-append}
use Rattle.s80_base.specs.declared.names.Side.{Side}
use Rattle.s80_code.specs.declared.code.Code.{Code}
use Rattle.s80_code.specs.declared.code.Entry.{Entry}
use Rattle.s80_code.specs.declared.instruction.Instruction.{Instruction}
use Rattle.s80_code.specs.declared.instruction.Instruction.TheVariants.{PushContext, SendSpecial, Jump}
use Rattle.s80_code.specs.Entries.{EntryTree, owner, entry_of, entries_of}
use Rattle.s80_code.specs.Special.{block_copy}
use Rattle.s80_code.specs.Table.{Stands, decoded}
use Rattle.s80_code.proofs.lemmas.TableLemmas.{value}
use Rattle.s80_verify.specs.Header.{BeforeOwner}
use Rattle.s80_verify.specs.Operands.{HasOwner}
use Rattle.s80_verify.specs.Reach.{IsPlace, Counts, Begins}
use Rattle.s80_verify.specs.declared.operands.Beginning.{Beginning}
use Rattle.s80_verify.specs.Found.{held, ArePlaces, CountsAt, JumpsLong, IsLongJump, IsBegun, IsBeginning}
use Rattle.s80_verify.proofs.lemmas.ListLemmas.{get_last}
use Rattle.s80_verify.proofs.lemmas.PlaceLemmas.{same_instruction, moved, place_behind, one_block, one_count}

-- what stands before the 200 of a beginning is what the array says
pub push_is : (code : Code) (before : List (Option ℕ)) (at arguments start : ℕ) → ArePlaces code.bytes before → (b : Begins code at arguments start) → held (slice_get before at) ≡ Some b.push
push_is code before at arguments start h b =
    h.whole at b.push b.count (place_behind code.bytes b.context PushContext b.push b.placed b.is_context) b.is_count

pub context_is : (code : Code) (before : List (Option ℕ)) (at arguments start push : ℕ) → ArePlaces code.bytes before → (b : Begins code at arguments start) → held (slice_get before at) ≡ Some push → held (slice_get before push) ≡ Some b.context
context_is code before at arguments start push h b e =
    let same : push ≡ b.push = value (sym e ∙ push_is code before at arguments start h b) in
    ap (λ p. held (slice_get before p)) same ∙ h.whole b.push b.context PushContext b.placed b.is_context

pub differ : (o : Option ℕ) (n : ℕ) → o ≡ None → o ≡ Some n → ⊥
differ o n e f = let both = sym e ∙ f in cc

pub no_push : (code : Code) (before : List (Option ℕ)) (at : ℕ) → ArePlaces code.bytes before → held (slice_get before at) ≡ None → IsBeginning code at None
no_push code before at h e = λ arguments start b. differ _ _ e (push_is code before at arguments start h b)

pub no_count : (code : Code) (before : List (Option ℕ)) (at push : ℕ) → ArePlaces code.bytes before → held (slice_get before at) ≡ Some push → ((n : ℕ) → CountsAt code push n → ⊥) → IsBeginning code at None
no_count code before at push h e none = λ arguments start b.
    let same : push ≡ b.push = value (sym e ∙ push_is code before at arguments start h b) in
    none arguments (record { count = b.count; next = at; stands = moved code.bytes b.push push b.count at (sym same) b.is_count; counts = b.counted })

pub no_context : (code : Code) (before : List (Option ℕ)) (at push : ℕ) → ArePlaces code.bytes before → held (slice_get before at) ≡ Some push → held (slice_get before push) ≡ None → IsBeginning code at None
no_context code before at push h e none = λ arguments start b. differ _ _ none (context_is code before at arguments start push h b e)

pub not_context : (code : Code) (before : List (Option ℕ)) (at push context : ℕ) → ArePlaces code.bytes before → held (slice_get before at) ≡ Some push → held (slice_get before push) ≡ Some context → ((next : ℕ) × Stands code.bytes context PushContext next → ⊥) → IsBeginning code at None
not_context code before at push context h e f none = λ arguments start b.
    let same : context ≡ b.context = value (sym f ∙ context_is code before at arguments start push h b e) in
    none (b.push, moved code.bytes b.context context PushContext b.push (sym same) b.is_context)

pub no_copy : (code : Code) (at : ℕ) → ((next : ℕ) → Stands code.bytes at (SendSpecial block_copy) next → ⊥) → IsBeginning code at None
no_copy code at none = λ arguments start b. none b.jump b.is_copy

pub jumps_long : (code : Code) (at arguments start : ℕ) (b : Begins code at arguments start) → JumpsLong code.bytes b.jump start
jumps_long code at arguments start b = record { byte = b.byte; distance = b.distance; begun = b.begun; low = b.low; high = b.high; is_jump = b.is_jump }

pub no_start : (code : Code) (at jump : ℕ) → Stands code.bytes at (SendSpecial block_copy) jump → IsLongJump code.bytes jump None → IsBeginning code at None
no_start code at jump s none = λ arguments start b.
    let same = (same_instruction code.bytes at (SendSpecial block_copy) (SendSpecial block_copy) b.jump jump b.is_copy s).place in
    none start (subst (λ (p : ℕ). JumpsLong code.bytes p start) same (jumps_long code at arguments start b))

-- the place behind an instruction, of one that is known to end there
pub ends_there : (bytes : List ℕ) (at next end : ℕ) (i j : Instruction) → Stands bytes at i next → Stands bytes at j end → Stands bytes at i end
ends_there bytes at next end i j s t =
    subst (λ (q : ℕ). Stands bytes at i q) (same_instruction bytes at i j next end s t).place s

pub begins_at : (code : Code) (before : List (Option ℕ)) (at push context jump start arguments : ℕ) → ArePlaces code.bytes before → held (slice_get before at) ≡ Some push → CountsAt code push arguments
    → held (slice_get before push) ≡ Some context → (next : ℕ) × Stands code.bytes context PushContext next → Stands code.bytes at (SendSpecial block_copy) jump → JumpsLong code.bytes jump start
    → IsBegun code at (record { push = push; arguments = arguments; jump = jump; start = start })
begins_at code before at push context jump start arguments h e count f (next, is_context) copy long =
    let (placed, (i, s)) = h.sound at push e in
    let (first, (j, t)) = h.sound push context f in
    let b : Begins code at arguments start = record {
      context = context;
      push = push;
      count = count.count;
      jump = jump;
      distance = long.distance;
      byte = long.byte;
      placed = first;
      is_context = ends_there code.bytes context next push PushContext j is_context t;
      is_count = ends_there code.bytes push count.next at count.count i count.stands s;
      counted = count.counts;
      is_copy = copy;
      is_jump = long.is_jump;
      begun = long.begun;
      low = long.low;
      high = long.high;
    } in
    record {
      begins = b;
      push = refl;
      jump = refl;
      only = λ others other c. let same = one_block code at others arguments other start c b in (same.arguments, same.start, same.push, same.jump);
    }

-- an owner stands last
pub last_of : (es : List EntryTree) (last : ℕ) (x : EntryTree) → length es ≡ last + 1 → slice_get es last ≡ Some x → (plain : List EntryTree) × (es ≡ plain ++ x ∷ [])
last_of [] last x e got = cc
last_of (a ∷ []) zero x e got = ([], ap (λ y. y ∷ []) (value got))
last_of (a ∷ b ∷ es) zero x e got = absurd (omega (arith, e))
last_of (a ∷ es) (suc last) x e got =
    let (plain, is) = last_of es last x (omega (arith, e)) got in (a ∷ plain, ap (λ l. a ∷ l) is)

pub owned : (code : Code) (xs : List Entry) (plain : List EntryTree) → xs ≡ code.literals.items.items → BeforeOwner (map entry_of xs) (Some plain) → HasOwner code
owned code xs plain same (class, side, e) =
    let is : entries_of code.literals ≡ plain ++ owner class side ∷ [] = ap (λ l. map entry_of l) (sym same) ∙ e in
    (length plain, class, side, ap (λ l. length l) is ∙ length-append plain (owner class side ∷ []), ap (λ l. slice_get l (length plain)) is ∙ get_last plain (owner class side))

pub unowned : (code : Code) (xs : List Entry) → xs ≡ code.literals.items.items → BeforeOwner (map entry_of xs) None → HasOwner code → ⊥
unowned code xs same none (last, class, side, long, got) =
    let (plain, is) = last_of (entries_of code.literals) last (owner class side) long got in
    none plain class side (ap (λ l. map entry_of l) same ∙ is)

pub counts_by : (code : Code) (at : ℕ) (i : Instruction) (w : ℕ) (o : Option ℕ) → decoded (drop at code.bytes) ≡ Some (i, w)
    → ((n : ℕ) → (o ≡ Some n → Counts code i n) × (Counts code i n → o ≡ Some n))
    → (n : ℕ) → (o ≡ Some n → CountsAt code at n) × (CountsAt code at n → o ≡ Some n)
counts_by code at i w o e h n =
    let here : Stands code.bytes at i (at + w) = record { width = w; is_decoded = e; behind = refl } in (
      λ is. record { count = i; next = at + w; stands = here; counts = (h n).0 is },
      λ c. (h n).1 (subst (λ (j : Instruction). Counts code j n) (same_instruction code.bytes at c.count i c.next (at + w) c.stands here).instruction c.counts),
    )
