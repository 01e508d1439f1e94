-- The methods of a class and of its descendants, compiled again one after the other.
use Rattle.std.proofs.Common.{◌≡◌, ◌⊎◌, inl, inr, ◌<◌, ◌≤◌, ◌+◌, ◌∙◌, ◌||◌, ◌++◌, ℕ, zero, suc, true, false, refl, sym, ap, subst, List, [], ◌∷◌, length, get_or, Some, None, Ok, is_some, true≢false, arith, append_assoc, slice_get}
use Rattle.std.specs.List.{list_any}
use Rattle.std.specs.Str.{bytes_eq}
use Rattle.std.specs.Cmp.Lexicographic.{bytes_decides, texts_ties}
use Rattle.std.specs.FinMap as map
use Rattle.std.proofs.lemmas.List.{append-nil}
use Rattle.std.proofs.lemmas.Option.{slice_get_within, slice_get-get_or}
use Rattle.s80_base.specs.declared.names.Side.{Side}
use Rattle.s80_base.specs.declared.names.Side.TheVariants.{Instance, Class}
use Rattle.s80_dict.specs.Dict.{HasRoom, Methods}
use Rattle.s80_dict.specs.Table.{methods_at, room_at}
use Rattle.s80_class.specs.Classes.{Name, Classes}
use Rattle.s80_class.specs.Family.{AreFamily}
use Rattle.s80_class.specs.Kept.{IsRising}
use Rattle.s80_class.specs.Table.{Table, IsClass, IsNumberOf}
use Rattle.s80_class.proofs.Keys.{keys_rise, one_place}
use Rattle.s80_class.proofs.lemmas.Rows.{get_kept, get_new, get_pushed}
use Rattle.s80_apply.specs.declared.step.PlacedMethod.{PlacedMethod}
use Rattle.s80_change.specs.Check.{IsCheckOf}
use Rattle.s80_apply.specs.Codes.{HasCode, HaveSources}
use Rattle.s80_apply.specs.Entries.{Entry, row_in}
use Rattle.s80_apply.specs.System.{Adds, AreRecompiled, IsRecompiled, SystemState}
use Rattle.s80_apply.proofs.Places.{none_there, some_same}

-- ---- lists

abbrev IsInEither : List PlacedMethod → List PlacedMethod → ℕ → PlacedMethod → Type 0
IsInEither xs ys k p = (slice_get xs k ≡ Some p) ⊎ ((j : ℕ) × (k ≡ length xs + j) × (slice_get ys j ≡ Some p))

get_appended : (xs ys : List PlacedMethod) (k : ℕ) (p : PlacedMethod) → slice_get (xs ++ ys) k ≡ Some p → IsInEither xs ys k p
get_appended [] ys k p is = inr (k, omega arith, is)
get_appended (x ∷ xs) ys zero p is = inl is
get_appended (x ∷ xs) ys (suc k) p is = elim (get_appended xs ys k p is) [
  | inl h ↦ inl h
  | inr h ↦ inr (h.0, omega (arith, h.1), h.2)
]

get_behind : (xs ys : List PlacedMethod) (j : ℕ) (p : PlacedMethod) → slice_get ys j ≡ Some p → (k : ℕ) × (slice_get (xs ++ ys) k ≡ Some p)
get_behind [] ys j p is = (j, is)
get_behind (x ∷ xs) ys j p is = let r = get_behind xs ys j p is in (suc r.0, r.1)

-- where a name stands in a list
stands_at : (q : Name) (names : List Name) → list_any (bytes_eq q) names ≡ true → (j : ℕ) × (slice_get names j ≡ Some q)
stands_at q [] h = absurd (true≢false (sym h))
stands_at q (n ∷ names) h =
    elim (bytes_eq q n) as (λ b. bytes_eq q n ≡ b → (b || list_any (bytes_eq q) names) ≡ true → (j : ℕ) × (slice_get (n ∷ names) j ≡ Some q)) [
      | true ↦ λ t _. (0, ap Some (sym ((bytes_decides q n).0 t)))
      | false ↦ λ t h'. let r = stands_at q names h' in (suc r.0, r.1)
    ] refl h

-- the selector of a method that is there is among those of the dictionary, and each of those has a method
key_at : (m : Methods Entry) (k : Name) (e : Entry) → map.get m k ≡ Some e → (j : ℕ) × (slice_get (map.keys m) j ≡ Some k)
key_at m k e is = stands_at k (map.keys m) ((λ i. list_any (λ n. texts_ties k n i) (map.keys m)) ∙ sym (map.contains_key-keys m k) ∙ ap is_some is)

-- and each of these stands there once
pub keys_once : (m : Methods Entry) (keys : List Name) → keys ≡ map.keys m → (j k : ℕ) (q : Name) → slice_get keys j ≡ Some q → slice_get keys k ≡ Some q → j ≡ k
keys_once m keys are j k q here there = one_place keys j k q (subst IsRising (sym are) (keys_rise m)) here there

-- ---- a method

pub is_recompiled : (system : SystemState) (class : ℕ) (side : Side) (key word : List ℕ) (entry again : Entry) → length system.methods.sides ≡ length system.table.names → IsClass system.table.names class → HaveSources system.methods → word ≡ key
    → map.get (methods_at system.methods class side) key ≡ Some entry → HasRoom (room_at system.methods class side) key → row_in again ≡ row_in entry
    → ((name selector : List ℕ) → IsNumberOf system.table.names class name → IsCheckOf entry.source (Ok selector) → HasCode system.table.classes name side selector again)
    → IsRecompiled system system.table.classes (record { number = class; side = side; selector = word; entry = again })
is_recompiled system class side key word entry again dictionaries some sources same there room row code =
    let within = slice_get_within system.table.names class (Some some.0) some.1 in
    record {
      number = omega (arith, within, dictionaries);
      room = subst (λ k. HasRoom (room_at system.methods class side) k) (sym same) room;
      before = entry;
      there = ap (map.get (methods_at system.methods class side)) same ∙ there;
      row = row;
      class = some.0;
      named = some.1;
      has_code = subst (λ k. HasCode system.table.classes some.0 side k again) (sym same) (code some.0 key some.1 (sources class side key entry there).1);
    }

-- ---- a side of a class

abbrev pub IsAmong : List PlacedMethod → ℕ → Side → List ℕ → Type 0
IsAmong ps number side selector = (k : ℕ) × (p : PlacedMethod) × (slice_get ps k ≡ Some p) × (p.number ≡ number) × (p.side ≡ side) × (p.selector ≡ selector)

among_kept : (xs ys : List PlacedMethod) (number : ℕ) (side : Side) (selector : List ℕ) → IsAmong xs number side selector → IsAmong (xs ++ ys) number side selector
among_kept xs ys number side selector is = (is.0, is.1, get_kept xs ys is.0 is.1 is.2, is.3, is.4, is.5)

among_behind : (xs ys : List PlacedMethod) (number : ℕ) (side : Side) (selector : List ℕ) → IsAmong ys number side selector → IsAmong (xs ++ ys) number side selector
among_behind xs ys number side selector is = let r = get_behind xs ys is.0 is.1 is.2 in (r.0, is.1, r.1, is.3, is.4, is.5)

-- the methods of the first selectors, so many, each once, behind others
pub record IsAdding (system : SystemState) (number : ℕ) (side : Side) (keys : List Name) (count : ℕ) (before now : List PlacedMethod) : Type 0 where
  pub more : List PlacedMethod
  pub behind : now ≡ before ++ more
  pub each : (k : ℕ) (p : PlacedMethod) → slice_get more k ≡ Some p → IsRecompiled system system.table.classes p
  pub on : (k : ℕ) (p : PlacedMethod) → slice_get more k ≡ Some p → (p.number ≡ number) × (p.side ≡ side)
  pub from : (k : ℕ) (p : PlacedMethod) → slice_get more k ≡ Some p → (j : ℕ) × (j < count) × (slice_get keys j ≡ Some p.selector)
  pub all : (j : ℕ) (selector : List ℕ) (entry : Entry) → j < count → slice_get keys j ≡ Some selector → map.get (methods_at system.methods number side) selector ≡ Some entry → IsAmong more number side selector
  pub apart : (j k : ℕ) (p q : PlacedMethod) → slice_get more j ≡ Some p → slice_get more k ≡ Some q → p.selector ≡ q.selector → j ≡ k

pub adding_none : (system : SystemState) (number : ℕ) (side : Side) (keys : List Name) (before : List PlacedMethod) → IsAdding system number side keys 0 before before
adding_none system number side keys before = record {
  more = [];
  behind = sym (append-nil before);
  each = λ k p at. absurd (none_there k p at);
  on = λ k p at. absurd (none_there k p at);
  from = λ k p at. absurd (none_there k p at);
  all = λ j selector entry below. absurd (omega (arith, below));
  apart = λ j k p q at. absurd (none_there j p at);
}

less_or_same : (a b : ℕ) → a < b + 1 → (a < b) ⊎ (a ≡ b)
less_or_same a b le = grind arith

module _ (system : SystemState) (number : ℕ) (side : Side) (keys : List Name) (i : ℕ) (key : Name) (here : slice_get keys i ≡ Some key) (before now : List PlacedMethod) (so_far : IsAdding system number side keys i before now) where
  pub adding_more : ((j k : ℕ) (q : Name) → slice_get keys j ≡ Some q → slice_get keys k ≡ Some q → j ≡ k) → (p : PlacedMethod) (after : List PlacedMethod) → IsRecompiled system system.table.classes p
      → p.number ≡ number → p.side ≡ side → p.selector ≡ key → after ≡ now ++ p ∷ [] → IsAdding system number side keys (i + 1) before after
  adding_more one p after is at on spelled pushed = record {
    more = so_far.more ++ p ∷ [];
    behind = pushed ∙ ap (λ ps. ps ++ p ∷ []) so_far.behind ∙ append_assoc before so_far.more (p ∷ []);
    each = λ k q there. by_place k q (get_pushed so_far.more p k q there);
    on = λ k q there. on_place k q (get_pushed so_far.more p k q there);
    from = λ k q there. from_place k q (get_pushed so_far.more p k q there);
    all = λ j selector entry below there has. by_index j selector entry (less_or_same j i below) there has;
    apart = λ j k a b there also same. by_both j k a b (get_pushed so_far.more p j a there) (get_pushed so_far.more p k b also) same;
  }
    where
      by_place : (k : ℕ) (q : PlacedMethod) → (slice_get so_far.more k ≡ Some q) ⊎ ((k ≡ length so_far.more) × (p ≡ q)) → IsRecompiled system system.table.classes q
      by_place k q (inl old) = so_far.each k q old
      by_place k q (inr new) = subst (IsRecompiled system system.table.classes) new.1 is

      on_place : (k : ℕ) (q : PlacedMethod) → (slice_get so_far.more k ≡ Some q) ⊎ ((k ≡ length so_far.more) × (p ≡ q)) → (q.number ≡ number) × (q.side ≡ side)
      on_place k q (inl old) = so_far.on k q old
      on_place k q (inr new) = (sym (ap (λ (r : PlacedMethod). r.number) new.1) ∙ at, sym (ap (λ (r : PlacedMethod). r.side) new.1) ∙ on)

      from_place : (k : ℕ) (q : PlacedMethod) → (slice_get so_far.more k ≡ Some q) ⊎ ((k ≡ length so_far.more) × (p ≡ q)) → (j : ℕ) × (j < i + 1) × (slice_get keys j ≡ Some q.selector)
      from_place k q (inl old) = let r = so_far.from k q old in (r.0, omega (arith, r.1), r.2)
      from_place k q (inr new) = (i, omega arith, here ∙ ap Some (sym spelled ∙ ap (λ (r : PlacedMethod). r.selector) new.1))

      -- none of before has this selector
      never : (j : ℕ) (a : PlacedMethod) → slice_get so_far.more j ≡ Some a → a.selector ≡ key → ⊥
      never j a old same =
          let r = so_far.from j a old in
          let there : r.0 ≡ i = one r.0 i key (r.2 ∙ ap Some same) here in
          omega (arith, r.1, there)

      by_both : (j k : ℕ) (a b : PlacedMethod) → (slice_get so_far.more j ≡ Some a) ⊎ ((j ≡ length so_far.more) × (p ≡ a)) → (slice_get so_far.more k ≡ Some b) ⊎ ((k ≡ length so_far.more) × (p ≡ b))
          → a.selector ≡ b.selector → j ≡ k
      by_both j k a b (inl old) (inl also) same = so_far.apart j k a b old also same
      by_both j k a b (inl old) (inr new) same = absurd (never j a old (same ∙ sym (ap (λ (r : PlacedMethod). r.selector) new.1) ∙ spelled))
      by_both j k a b (inr new) (inl old) same = absurd (never k b old (sym same ∙ sym (ap (λ (r : PlacedMethod). r.selector) new.1) ∙ spelled))
      by_both j k a b (inr new) (inr also) same = new.0 ∙ sym also.0

      by_index : (j : ℕ) (selector : List ℕ) (entry : Entry) → (j < i) ⊎ (j ≡ i) → slice_get keys j ≡ Some selector → map.get (methods_at system.methods number side) selector ≡ Some entry
          → IsAmong (so_far.more ++ p ∷ []) number side selector
      by_index j selector entry (inl below) there has = among_kept so_far.more (p ∷ []) number side selector (so_far.all j selector entry below there has)
      by_index j selector entry (inr same) there has =
          let word : key ≡ selector = some_same key selector (sym here ∙ ap (slice_get keys) (sym same) ∙ there) in
          (length so_far.more, p, get_new so_far.more p, at, on, spelled ∙ word)

  -- a selector without a method adds none
  pub adding_same : map.get (methods_at system.methods number side) key ≡ None → IsAdding system number side keys (i + 1) before now
  adding_same none = record {
    more = so_far.more;
    behind = so_far.behind;
    each = so_far.each;
    on = so_far.on;
    from = λ k q there. let r = so_far.from k q there in (r.0, omega (arith, r.1), r.2);
    all = λ j selector entry below there has. by_index j selector entry (less_or_same j i below) there has;
    apart = so_far.apart;
  }
    where
      by_index : (j : ℕ) (selector : List ℕ) (entry : Entry) → (j < i) ⊎ (j ≡ i) → slice_get keys j ≡ Some selector → map.get (methods_at system.methods number side) selector ≡ Some entry
          → IsAmong so_far.more number side selector
      by_index j selector entry (inl below) there has = so_far.all j selector entry below there has
      by_index j selector entry (inr same) there has =
          let word : key ≡ selector = some_same key selector (sym here ∙ ap (slice_get keys) (sym same) ∙ there) in
          let bad : None ≡ Some entry = sym none ∙ ap (map.get (methods_at system.methods number side)) word ∙ has in
          absurd (cc)

pub adding_all : (system : SystemState) (number : ℕ) (side : Side) (keys : List Name) (count : ℕ) (before now : List PlacedMethod) → keys ≡ map.keys (methods_at system.methods number side) → length keys ≤ count
    → IsAdding system number side keys count before now → Adds system number side before now
adding_all system number side keys count before now are past adding = record {
  more = adding.more;
  behind = adding.behind;
  each = adding.each;
  on = adding.on;
  apart = adding.apart;
  all = λ selector entry has.
      let at = key_at (methods_at system.methods number side) selector entry has in
      let there : slice_get keys at.0 ≡ Some selector = ap (λ ks. slice_get ks at.0) are ∙ at.1 in
      let within = slice_get_within keys at.0 selector there in
      adding.all at.0 selector entry (omega (arith, within, past)) there has;
}

-- ---- a class after the other

-- of different places
abbrev pub AreApart : List PlacedMethod → Type 0
AreApart ps =
    (j k : ℕ) (p q : PlacedMethod) → slice_get ps j ≡ Some p → slice_get ps k ≡ Some q → p.number ≡ q.number → p.side ≡ q.side → p.selector ≡ q.selector → j ≡ k

-- of one of the first classes, so many
abbrev pub IsOfFirst : List ℕ → ℕ → PlacedMethod → Type 0
IsOfFirst numbers count p = (j : ℕ) × (j < count) × (slice_get numbers j ≡ Some p.number)

-- the methods of the first classes, so many, each once
pub record IsCompiling (system : SystemState) (numbers : List ℕ) (count : ℕ) (ps : List PlacedMethod) : Type 0 where
  pub each : (k : ℕ) (p : PlacedMethod) → slice_get ps k ≡ Some p → IsRecompiled system system.table.classes p
  pub from : (k : ℕ) (p : PlacedMethod) → slice_get ps k ≡ Some p → IsOfFirst numbers count p
  pub all : (j number : ℕ) → j < count → slice_get numbers j ≡ Some number → (side : Side) (selector : List ℕ) (entry : Entry) → map.get (methods_at system.methods number side) selector ≡ Some entry → IsAmong ps number side selector
  pub apart : AreApart ps

pub compiling_none : (system : SystemState) (numbers : List ℕ) → IsCompiling system numbers 0 []
compiling_none system numbers = record {
  each = λ k p at. absurd (none_there k p at);
  from = λ k p at. absurd (none_there k p at);
  all = λ j number below. absurd (omega (arith, below));
  apart = λ j k p q at. absurd (none_there j p at);
}

-- one side more
each_more : (system : SystemState) (number : ℕ) (side : Side) (before now : List PlacedMethod) → ((k : ℕ) (p : PlacedMethod) → slice_get before k ≡ Some p → IsRecompiled system system.table.classes p)
    → Adds system number side before now → (k : ℕ) (p : PlacedMethod) → slice_get now k ≡ Some p → IsRecompiled system system.table.classes p
each_more system number side before now each adds k p there = go (get_appended before adds.more k p (ap (λ ps. slice_get ps k) (sym adds.behind) ∙ there))
  where
    go : IsInEither before adds.more k p → IsRecompiled system system.table.classes p
    go (inl old) = each k p old
    go (inr new) = adds.each new.0 p new.2

from_more : (system : SystemState) (numbers : List ℕ) (i number : ℕ) (side : Side) (before now : List PlacedMethod) → slice_get numbers i ≡ Some number
    → ((k : ℕ) (p : PlacedMethod) → slice_get before k ≡ Some p → IsOfFirst numbers (i + 1) p) → Adds system number side before now → (k : ℕ) (p : PlacedMethod) → slice_get now k ≡ Some p → IsOfFirst numbers (i + 1) p
from_more system numbers i number side before now here from adds k p there = go (get_appended before adds.more k p (ap (λ ps. slice_get ps k) (sym adds.behind) ∙ there))
  where
    go : IsInEither before adds.more k p → IsOfFirst numbers (i + 1) p
    go (inl old) = from k p old
    go (inr new) = (i, omega arith, here ∙ ap Some (sym (adds.on new.0 p new.2).0))

-- where none of before is of this side
apart_more : (system : SystemState) (number : ℕ) (side : Side) (before now : List PlacedMethod) → AreApart before → ((k : ℕ) (p : PlacedMethod) → slice_get before k ≡ Some p → p.number ≡ number → p.side ≡ side → ⊥)
    → Adds system number side before now → AreApart now
apart_more system number side before now apart none adds j k p q there also same on_same spelled =
    go (get_appended before adds.more j p (ap (λ ps. slice_get ps j) (sym adds.behind) ∙ there)) (get_appended before adds.more k q (ap (λ ps. slice_get ps k) (sym adds.behind) ∙ also))
  where
    go : IsInEither before adds.more j p → IsInEither before adds.more k q → j ≡ k
    go (inl old) (inl other) = apart j k p q old other same on_same spelled
    go (inl old) (inr new) = let on = adds.on new.0 q new.2 in absurd (none j p old (same ∙ on.0) (on_same ∙ on.1))
    go (inr new) (inl old) = let on = adds.on new.0 p new.2 in absurd (none k q old (sym same ∙ on.0) (sym on_same ∙ on.1))
    go (inr new) (inr other) = let index : new.0 ≡ other.0 = adds.apart new.0 other.0 p q new.2 other.2 spelled in omega (arith, new.1, other.1, index)

among_more : (system : SystemState) (number : ℕ) (side : Side) (before now : List PlacedMethod) (n : ℕ) (s : Side) (selector : List ℕ) → Adds system number side before now → IsAmong before n s selector → IsAmong now n s selector
among_more system number side before now n s selector adds is = subst (λ ps. IsAmong ps n s selector) (sym adds.behind) (among_kept before adds.more n s selector is)

among_new : (system : SystemState) (number : ℕ) (side : Side) (before now : List PlacedMethod) (selector : List ℕ) (entry : Entry) → Adds system number side before now → map.get (methods_at system.methods number side) selector ≡ Some entry → IsAmong now number side selector
among_new system number side before now selector entry adds has = subst (λ ps. IsAmong ps number side selector) (sym adds.behind) (among_behind before adds.more number side selector (adds.all selector entry has))

pub compiling_more : (system : SystemState) (numbers : List ℕ) (i number : ℕ) (before middle now : List PlacedMethod) → ((j k n : ℕ) → slice_get numbers j ≡ Some n → slice_get numbers k ≡ Some n → j ≡ k)
    → slice_get numbers i ≡ Some number → IsCompiling system numbers i before → Adds system number Instance before middle → Adds system number Class middle now → IsCompiling system numbers (i + 1) now
compiling_more system numbers i number before middle now one here so_far instance class = record {
  each = each_more system number Class middle now (each_more system number Instance before middle so_far.each instance) class;
  from = from_more system numbers i number Class middle now here (from_more system numbers i number Instance before middle here from_before instance) class;
  all = λ j n below there side selector entry has. by_index j n (less_or_same j i below) there side selector entry has;
  apart = apart_more system number Class middle now (apart_more system number Instance before middle so_far.apart (λ k p there same on. new_number k p there same) instance) new_side class;
}
  where
    from_before : (k : ℕ) (p : PlacedMethod) → slice_get before k ≡ Some p → IsOfFirst numbers (i + 1) p
    from_before k p there = let r = so_far.from k p there in (r.0, omega (arith, r.1), r.2)

    new_number : (k : ℕ) (p : PlacedMethod) → slice_get before k ≡ Some p → p.number ≡ number → ⊥
    new_number k p there same =
        let r = so_far.from k p there in
        let index : r.0 ≡ i = one r.0 i number (r.2 ∙ ap Some same) here in
        omega (arith, r.1, index)

    in_middle : (k : ℕ) (p : PlacedMethod) → IsInEither before instance.more k p → p.number ≡ number → p.side ≡ Class → ⊥
    in_middle k p (inl old) same on = new_number k p old same
    in_middle k p (inr new) same on = let bad : Instance ≡ Class = sym (instance.on new.0 p new.2).1 ∙ on in cc

    new_side : (k : ℕ) (p : PlacedMethod) → slice_get middle k ≡ Some p → p.number ≡ number → p.side ≡ Class → ⊥
    new_side k p there same on = in_middle k p (get_appended before instance.more k p (ap (λ ps. slice_get ps k) (sym instance.behind) ∙ there)) same on

    by_side : (side : Side) (selector : List ℕ) (entry : Entry) → map.get (methods_at system.methods number side) selector ≡ Some entry → IsAmong now number side selector
    by_side Instance selector entry has = among_more system number Class middle now number Instance selector class (among_new system number Instance before middle selector entry instance has)
    by_side Class selector entry has = among_new system number Class middle now selector entry class has

    by_index : (j n : ℕ) → (j < i) ⊎ (j ≡ i) → slice_get numbers j ≡ Some n → (side : Side) (selector : List ℕ) (entry : Entry) → map.get (methods_at system.methods n side) selector ≡ Some entry → IsAmong now n side selector
    by_index j n (inl below) there side selector entry has =
        among_more system number Class middle now n side selector class (among_more system number Instance before middle n side selector instance (so_far.all j n below there side selector entry has))
    by_index j n (inr same) there side selector entry has =
        let number_is : number ≡ n = some_same number n (sym here ∙ ap (slice_get numbers) (sym same) ∙ there) in
        subst (λ m. IsAmong now m side selector) number_is (by_side side selector entry (ap (λ m. map.get (methods_at system.methods m side) selector) number_is ∙ has))

pub compiling_all : (system : SystemState) (numbers : List ℕ) (count : ℕ) (name : Name) (ps : List PlacedMethod) → AreFamily system.table name numbers → length numbers ≤ count → IsCompiling system numbers count ps
    → AreRecompiled system system.table.classes name ps
compiling_all system numbers count name ps family past compiling = record {
  each = compiling.each;
  apart = compiling.apart;
  all = λ number class side selector entry named under has.
      let at = family.all number class named under in
      let within = slice_get_within numbers at.0 number at.1 in
      compiling.all at.0 number (omega (arith, within, past)) at.1 side selector entry has;
}

-- each number of a family is that of a class
pub class_of : (table : Table) (name : Name) (numbers : List ℕ) (i d : ℕ) → AreFamily table name numbers → i < length numbers → IsClass table.names (get_or numbers i d)
class_of table name numbers i d family below = let q = family.each i (get_or numbers i d) (slice_get-get_or numbers i d below) in (q.0, q.1)

-- ---- the same, seen from the table with the old entry

-- only the names and the methods of the system count, and those are the same
pub recompiled_from : (changed before : SystemState) (classes : Classes) (name : Name) (ps : List PlacedMethod) → changed.table.names ≡ before.table.names → changed.methods ≡ before.methods
    → AreRecompiled changed classes name ps → AreRecompiled before classes name ps
recompiled_from changed before classes name ps names methods are = record {
  each = λ k p there.
      let is = are.each k p there in
      record {
        number = subst (λ m. p.number < length m.sides) methods is.number;
        room = subst (λ m. HasRoom (room_at m p.number p.side) p.selector) methods is.room;
        before = is.before;
        there = ap (λ m. map.get (methods_at m p.number p.side) p.selector) (sym methods) ∙ is.there;
        row = is.row;
        class = is.class;
        named = subst (λ ns. IsNumberOf ns p.number is.class) names is.named;
        has_code = is.has_code;
      };
  apart = are.apart;
  all = λ number class side selector entry named under has.
      are.all number class side selector entry (subst (λ ns. IsNumberOf ns number class) (sym names) named) under (ap (λ m. map.get (methods_at m number side) selector) methods ∙ has);
}
