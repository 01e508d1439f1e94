-- Places of blocks stay where worlds go on.
use Rattle.std.proofs.Common.{◌≤◌, arith, ◌≡◌, ◌∙◌, ap, sym, refl, ℕ, zero, suc, Bool, false, List, [], ◌∷◌, find, map, slice_get, Option, Some, None, option_and_then, option_map}
use Rattle.std.specs.Option.{option_map_or}
use Rattle.s80_object.specs.Body.{BodyTree, pointers, bytes, words, home, block}
use Rattle.s80_object.specs.Literal.{is_made_at, made_before}
use Rattle.s80_object.specs.Objects.{State as Objects, Made, body_at, home_parts_of}
use Rattle.s80_object.specs.declared.value.Value.{Value}
use Rattle.s80_machine.specs.World.{World, Key, number_in, with_objects}
use Rattle.s80_meaning.specs.Agreement.{place_by}
use Rattle.s80_meaning.specs.Image.{image, placed}

-- the method of a home
abbrev pub key_of : World → Value → Option Key
key_of w whole = option_and_then (λ (parts : ℕ × Value). slice_get w.keys parts.0) (option_and_then home_parts_of (body_at w.objects whole))

-- of each method: which entries of its activation are small constants, and how many parameters its blocks have; and the budget
pub record Facts : Type 0 where
  pub small : Key → ℕ → Bool
  pub kept : Key → ℕ → Option ℕ
  pub budget : ℕ

-- each block has a home, whose method is there and has such a block
abbrev pub IsPlaced : Facts → World → Objects → Type 0
IsPlaced facts w s =
    (n : ℕ) (whole : Value) (b count : ℕ) → slice_get s.bodies n ≡ Some (block whole b count) → (key : Key) × (key_of w whole ≡ Some key) × (facts.kept key b ≡ Some count)

-- what was noted was noted for a method that has that number, at an entry that is no small constant
abbrev pub IsMade : Facts → World → Objects → Type 0
IsMade facts w s = (m k : ℕ) (v : Value) → made_before m k s ≡ Some v → (key : Key) × (slice_get w.keys m ≡ Some key) × (facts.small key k ≡ false)

-- both hold, and each method has one number
pub record IsFine (facts : Facts) (w : World) : Type 0 where
  pub placed : IsPlaced facts w w.objects
  pub unique : (n : ℕ) (key : Key) → slice_get w.keys n ≡ Some key → number_in w key ≡ n
  pub made : IsMade facts w w.objects
  pub in_time : w.ticks ≤ facts.budget

-- methods keep their numbers, and homes stay homes
pub record Later (old new : World) : Type 0 where
  pub keys : (n : ℕ) (key : Key) → slice_get old.keys n ≡ Some key → slice_get new.keys n ≡ Some key
  pub homes : (whole : Value) (parts : ℕ × Value) → option_and_then home_parts_of (body_at old.objects whole) ≡ Some parts → option_and_then home_parts_of (body_at new.objects whole) ≡ Some parts
  pub ticks : old.ticks ≤ new.ticks

pub same_later : (w : World) → Later w w
same_later w = record { keys = λ n key e. e; homes = λ whole parts e. e; ticks = omega arith }

pub later_then : (a b c : World) → Later a b → Later b c → Later a c
later_then a b c l m = record { keys = λ n key e. m.keys n key (l.keys n key e); homes = λ whole parts e. m.homes whole parts (l.homes whole parts e); ticks = omega (arith, l.ticks, m.ticks) }

pub key_stays : (old new : World) → Later old new → (whole : Value) (key : Key) → key_of old whole ≡ Some key → key_of new whole ≡ Some key
key_stays old new later whole key e = by_parts (option_and_then home_parts_of (body_at old.objects whole)) refl e
  where
    by_parts : (o : Option (ℕ × Value)) → option_and_then home_parts_of (body_at old.objects whole) ≡ o → option_and_then (λ (parts : ℕ × Value). slice_get old.keys parts.0) o ≡ Some key → key_of new whole ≡ Some key
    by_parts None is e = cc
    by_parts (Some parts) is e = ap (option_and_then (λ (parts : ℕ × Value). slice_get new.keys parts.0)) (later.homes whole parts is) ∙ later.keys parts.0 key e

pub placed_stays : (facts : Facts) (old new : World) → Later old new → (s : Objects) → IsPlaced facts old s → IsPlaced facts new s
placed_stays facts old new later s fine n whole b count e = let k = fine n whole b count e in (k.0, key_stays old new later whole k.0 k.1, k.2)

pub made_stays : (facts : Facts) (old new : World) → Later old new → (s : Objects) → IsMade facts old s → IsMade facts new s
made_stays facts old new later s fine m k v e = let h = fine m k v e in (h.0, later.keys m h.0 h.1, h.2)

-- bodies whose blocks have the same places
same_places : (at too : Value → ℕ → ℕ) (bs : List BodyTree) → ((n : ℕ) (whole : Value) (b count : ℕ) → slice_get bs n ≡ Some (block whole b count) → at whole b ≡ too whole b) → map (placed at) bs ≡ map (placed too) bs
same_places at too [] same = refl
same_places at too (x ∷ bs) same = (λ i. here x (same zero) i ∷ same_places at too bs (λ n. same (suc n)) i)
  where
    here : (x : BodyTree) → ((whole : Value) (b count : ℕ) → Some x ≡ Some (block whole b count) → at whole b ≡ too whole b) → placed at x ≡ placed too x
    here (block whole b count) h = ap (λ n. block whole n count) (h whole b count refl)
    here (pointers class fields items) h = refl
    here (bytes class items) h = refl
    here (words class items) h = refl
    here (home m r temporaries) h = refl

module _ (starts : Key → ℕ → ℕ) where
  abbrev pub place_in : World → Value → ℕ → ℕ
  place_in w = place_by starts w.keys w.objects

  -- the machine's world for a world of the tree
  abbrev pub shown : World → World
  shown w = with_objects w (image (place_in w) w.objects)

  place_stays : (old new : World) → Later old new → (whole : Value) (key : Key) (b : ℕ) → key_of old whole ≡ Some key → place_in new whole b ≡ place_in old whole b
  place_stays old new later whole key b e = ap (λ o. option_map_or (λ key. starts key b) o b) (key_stays old new later whole key e ∙ sym e)

  pub image_stays : (facts : Facts) (old new : World) → Later old new → (s : Objects) → IsPlaced facts old s → image (place_in new) s ≡ image (place_in old) s
  image_stays facts old new later s fine =
      ap (λ bs. record s { bodies = bs }) (same_places (place_in new) (place_in old) s.bodies (λ n whole b count e. let k = fine n whole b count e in place_stays old new later whole k.0 b k.1))

-- objects that go on: homes stay homes, no block is new or another, and nothing is noted
pub record Extends (old new : Objects) : Type 0 where
  pub homes : (whole : Value) (parts : ℕ × Value) → option_and_then home_parts_of (body_at old whole) ≡ Some parts → option_and_then home_parts_of (body_at new whole) ≡ Some parts
  pub blocks : (n : ℕ) (whole : Value) (b count : ℕ) → slice_get new.bodies n ≡ Some (block whole b count) → slice_get old.bodies n ≡ Some (block whole b count)
  pub literals : new.literals ≡ old.literals

pub same_extends : (s : Objects) → Extends s s
same_extends s = record { homes = λ whole parts e. e; blocks = λ n whole b count e. e; literals = refl }

pub extends_then : (a b c : Objects) → Extends a b → Extends b c → Extends a c
extends_then a b c e f =
    record { homes = λ whole parts h. f.homes whole parts (e.homes whole parts h); blocks = λ n whole k count h. e.blocks n whole k count (f.blocks n whole k count h); literals = f.literals ∙ e.literals }

-- a world with such objects goes on, and its blocks are placed as before
pub extends_later : (w : World) (s : Objects) → Extends w.objects s → Later w (with_objects w s)
extends_later w s e = record { keys = λ n key h. h; homes = e.homes; ticks = omega arith }

pub extends_placed : {facts : Facts} (w : World) (s : Objects) → Extends w.objects s → IsFine facts w → IsPlaced facts w s
extends_placed w s e fine n whole b count h = fine.placed n whole b count (e.blocks n whole b count h)

-- and what was noted is what was noted before
pub extends_made : (facts : Facts) (w : World) (old new : Objects) → Extends old new → IsMade facts w old → IsMade facts w new
extends_made facts w old new e fine m k v h = fine m k v (ap (λ (made : List Made). option_map (λ (x : Made). x.value) (find (is_made_at m k) made)) (sym e.literals) ∙ h)
