-- Each system shows its classes and methods, with the codes of these.
use Rattle.std.proofs.Common.{◌≡◌, ◌∙◌, ℕ, suc, zero, Bool, true, false, refl, sym, ap, subst, List, [], ◌∷◌, Option, Some, None}
use Rattle.std.specs.Prelude.{if◌then◌else◌}
use Rattle.std.specs.Option.{option_map, option_map_or}
use Rattle.std.specs.Str.{bytes_eq}
use Rattle.std.specs.Cmp.Lexicographic.{bytes_decides}
use Rattle.std.specs.FinMap as map
use Rattle.s80_base.specs.declared.names.Side.{Side}
use Rattle.s80_dict.specs.Dict.{Methods}
use Rattle.s80_dict.specs.Table.{methods_at}
use Rattle.s80_class.specs.Classes.{Name}
use Rattle.s80_class.specs.Known.{IsKnown}
use Rattle.s80_class.specs.Table.{IsNumberOf, number_of}
use Rattle.s80_apply.specs.Seen.{AreSeen}
use Rattle.s80_apply.specs.System.{IsSystemBy, SystemState}
use Rattle.s80_snapshot.specs.Pictured.{CodedRow, CodedState, coded_row}
use Rattle.s80_snapshot.proofs.Mapped.{map_is_seen, seen_map}

-- ---- the number of a class, by its name

one_later : (n k : ℕ) → Some (suc k) ≡ Some n → suc k ≡ n
one_later n k e = cc

module _ (names : List (Option Name)) (word : Name) (inner : (k : ℕ) → number_of names word ≡ Some k → IsNumberOf names k word) (n : ℕ) where
  behind_one : (first : Option Name) (o : Option ℕ) → number_of names word ≡ o → option_map suc o ≡ Some n → IsNumberOf (first ∷ names) n word
  behind_one first None e h = absurd (cc)
  behind_one first (Some k) e h = subst (λ m. IsNumberOf (first ∷ names) m word) (one_later n k h) (inner k e)

  first_one : Some 0 ≡ Some n → 0 ≡ n
  first_one e = cc

  behind_name : (name : Name) (b : Bool) → bytes_eq name word ≡ b → (if b then Some 0 else option_map suc (number_of names word)) ≡ Some n → IsNumberOf (Some name ∷ names) n word
  behind_name name true same h = subst (λ m. IsNumberOf (Some name ∷ names) m word) (first_one h) (ap (λ w. Some (Some w)) ((bytes_decides name word).0 same))
  behind_name name false other h = behind_one (Some name) (number_of names word) refl h

pub has_number : (names : List (Option Name)) (word : Name) (n : ℕ) → number_of names word ≡ Some n → IsNumberOf names n word
has_number [] word n is = absurd (cc)
has_number (None ∷ names) word n is = behind_one names word (λ k. has_number names word k) n None (number_of names word) refl is
has_number (Some name ∷ names) word n is = behind_name names word (λ k. has_number names word k) n name (bytes_eq name word) refl is

same_word : (a b : Name) → Some (Some a) ≡ Some (Some b) → a ≡ b
same_word a b e = cc

numbered_behind : (names : List (Option Name)) (word name : Name) (b : Bool) → bytes_eq name word ≡ b → (k : ℕ) × (number_of names word ≡ Some k) → (k : ℕ) × ((if bytes_eq name word then Some 0 else option_map suc (number_of names word)) ≡ Some k)
numbered_behind names word name true same k = (0, ap (λ b. if b then Some 0 else option_map suc (number_of names word)) same)
numbered_behind names word name false other k = (suc k.0, ap (λ b. if b then Some 0 else option_map suc (number_of names word)) other ∙ ap (option_map suc) k.1)

pub is_numbered : (names : List (Option Name)) (word : Name) (n : ℕ) → IsNumberOf names n word → (k : ℕ) × (number_of names word ≡ Some k)
is_numbered [] word n named = absurd (cc)
is_numbered (None ∷ names) word zero named = absurd (cc)
is_numbered (None ∷ names) word (suc n) named = let k = is_numbered names word n named in (suc k.0, ap (option_map suc) k.1)
is_numbered (Some name ∷ names) word zero named = (0, ap (λ b. if b then Some 0 else option_map suc (number_of names word)) ((bytes_decides name word).1 (same_word name word named)))
is_numbered (Some name ∷ names) word (suc n) named = numbered_behind names word name (bytes_eq name word) refl (is_numbered names word n named)

-- ---- what a system shows

abbrev methods_shown : SystemState → Side → Option ℕ → Methods CodedRow
methods_shown system side number = option_map_or (λ n. seen_map coded_row (methods_at system.methods n side)) number map.empty

abbrev pub state_shown : SystemState → CodedState
state_shown system = record { classes = system.table.classes; methods = λ name side. methods_shown system side (number_of system.table.names name) }

pub is_shown : (system : SystemState) → IsKnown system.table → IsSystemBy coded_row system (state_shown system)
is_shown system known = record { classes = refl; methods = in_classes; others = no_class }
  where
    in_classes : (number : ℕ) (name : Name) (side : Side) → IsNumberOf system.table.names number name → AreSeen coded_row (methods_at system.methods number side) (methods_shown system side (number_of system.table.names name))
    in_classes number name side named =
        let first = is_numbered system.table.names name number named in
        let same = known.one_number first.0 number name (has_number system.table.names name first.0 first.1) named in
        subst (λ o. AreSeen coded_row (methods_at system.methods number side) (methods_shown system side o)) (sym (first.1 ∙ ap Some same)) (map_is_seen coded_row (methods_at system.methods number side))

    no_class : (name : Name) (side : Side) → map.get system.table.classes name ≡ None → methods_shown system side (number_of system.table.names name) ≡ map.empty
    no_class name side none = go (number_of system.table.names name) refl
      where
        go : (o : Option ℕ) → number_of system.table.names name ≡ o → methods_shown system side o ≡ map.empty
        go None e = refl
        go (Some n) e = let there = known.known n name (has_number system.table.names name n e) in absurd (cc (sym none ∙ there.1))
