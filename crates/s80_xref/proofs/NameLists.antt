-- The names of a sorted list that pass a test, and what they name.
use Rattle.std.proofs.Common.{◌≡◌, ◌≢◌, ◌∙◌, ◌↔◌, ◌||◌, cond, not, ℕ, suc, zero, Bool, true, false, true≢false, refl, sym, ap, subst, List, [], ◌∷◌, Option, Some, None, is_some, codes, map, arith}
use Rattle.std.specs.FinMap as finmap
use Rattle.std.specs.List.{AllByRecursion, Contains, filter, flat_map, list_any}
use Rattle.std.specs.List.Sorted.{IsStrictlySortedBy}
use Rattle.std.specs.Ordering.{nat_cmp, eq_by_cmp}
use Rattle.std.specs.Cmp.Lexicographic.{slice_cmp, bytes_decides}
use Rattle.std.specs.Str.{bytes_eq}
use Rattle.std.specs.declared.cmp.Ordering.TheVariants.{Less}
use Rattle.std.proofs.lemmas.Map.Text.{is_eq-slice_cmp}
use Rattle.std.proofs.lemmas.Map.Views.{Contains-from_any}
use Rattle.s80_base.specs.declared.names.Side.{Side}
use Rattle.s80_base.specs.declared.names.Side.TheVariants.{Instance, Class}
use Rattle.s80_code.specs.Entries.{outer}
use Rattle.s80_core.specs.Core.{CoreTree}
use Rattle.s80_core.specs.Measures.{entries}
use Rattle.s80_dict.specs.Dict.{Methods}
use Rattle.s80_class.specs.Classes.{Name, Classes}
use Rattle.s80_apply.specs.State.{MethodRow, State}
use Rattle.s80_apply.specs.System.{IsSystemOf, SystemState}
use Rattle.s80_xref.specs.declared.link.Link.TheVariants as links
use Rattle.s80_xref.specs.declared.places.MethodPlace.{MethodPlace}
use Rattle.s80_xref.specs.Found.{IsOfSome}
use Rattle.s80_xref.specs.Links.{IsLink}
use Rattle.s80_xref.specs.Named.{messages}
use Rattle.s80_xref.specs.Places.{AreAscending, AreNames, HasTree, IsUndeclared, IsUnimplemented, IsUnsent, all_places, place, places_on}
use Rattle.s80_xref.specs.Undeclared.{is_declared}
use Rattle.s80_xref.proofs.Linking.{among, tells_among, value_of}
use Rattle.s80_xref.proofs.Members.{in_piece, is_kept, of_each, passes}
use Rattle.s80_xref.proofs.Those.{Decides, decided, decides_true}

abbrev Text : Type 0
Text = List ℕ

abbrev AreSorted : List Text → Type 0
AreSorted names = IsStrictlySortedBy (slice_cmp nat_cmp) names

-- ---- sorted lists

sorted_ascends : (names : List Text) → AreSorted names → AreAscending names
unfolding IsStrictlySortedBy
sorted_ascends [] up i one next at behind = absurd (cc)
sorted_ascends (x ∷ []) up zero one next at behind = absurd (cc)
sorted_ascends (x ∷ y ∷ ys) up zero one next at behind =
    subst (λ a. slice_cmp nat_cmp a next ≡ Less) (value_of x one at) (subst (λ b. slice_cmp nat_cmp x b ≡ Less) (value_of y next behind) up.0.0)
sorted_ascends (x ∷ ys) up (suc i) one next at behind = sorted_ascends ys up.1 i one next at behind

all_kept : (P : Text → Type 0) (test : Text → Bool) (xs : List Text) → AllByRecursion P xs → AllByRecursion P (filter test xs)
all_kept P test [] all = tt
all_kept P test (x ∷ xs) all =
    elim (test x) as (λ b. AllByRecursion P (cond b (x ∷ filter test xs) (filter test xs))) [
      | true ↦ (all.0, all_kept P test xs all.1)
      | false ↦ all_kept P test xs all.1
    ]

sorted_kept : (test : Text → Bool) (xs : List Text) → AreSorted xs → AreSorted (filter test xs)
unfolding IsStrictlySortedBy
sorted_kept test [] up = tt
sorted_kept test (x ∷ xs) up =
    elim (test x) as (λ b. IsStrictlySortedBy (slice_cmp nat_cmp) (cond b (x ∷ filter test xs) (filter test xs))) [
      | true ↦ (all_kept (λ y. slice_cmp nat_cmp x y ≡ Less) test xs up.0, sorted_kept test xs up.1)
      | false ↦ sorted_kept test xs up.1
    ]

map_itself : {X : Type 0} (xs : List X) → map (λ x. x) xs ≡ xs
map_itself [] = refl
map_itself (x ∷ xs) = ap (λ l. x ∷ l) (map_itself xs)

-- ---- those that pass

pub kept_are : (test : Text → Bool) (P : Text → Type 0) (words names : List Text) → AreSorted words → names ≡ map (λ w. w) (filter test words) → ((w : Text) → Decides (test w) (P w)) → AreNames (λ w. Contains words w × P w) names
kept_are test P words names up is tells =
    let all : names ≡ filter test words = is ∙ map_itself (filter test words) in (
      subst AreAscending (sym all) (sorted_ascends (filter test words) (sorted_kept test words up)),
      λ name. (
        λ has. let p = passes test words name (subst (λ l. Contains l name) all has) in (p.0, decides_true (test name) (P name) p.1 (tells name)),
        λ holds. subst (λ l. Contains l name) (sym all) (is_kept test words name holds.0 (decided (test name) (P name) (tells name) holds.1)),
      ),
    )

pub names_same : (P Q : Text → Type 0) (names : List Text) → ((w : Text) → P w ↔ Q w) → AreNames P names → AreNames Q names
names_same P Q names same are = (are.0, λ name. (λ has. (same name).0 ((are.1 name).0 has), λ holds. (are.1 name).1 ((same name).1 holds)))

pub lacks : (others : List Text) (w : Text) → Decides (not (list_any (bytes_eq w) others)) (Contains others w → ⊥)
lacks others w = by_test (list_any (bytes_eq w) others) refl
  where
    by_test : (b : Bool) → list_any (bytes_eq w) others ≡ b → Decides (not b) (Contains others w → ⊥)
    by_test true is = λ none. none (among w others is)
    by_test false is = λ has. true≢false (sym (tells_among w others has) ∙ is)

-- ---- a method that is there is a place

key_in : {X : Type 0} (m : Methods X) (k : Text) (v : X) → finmap.get m k ≡ Some v → Contains (finmap.keys m) k
key_in m k v there =
    Contains-from_any {eq = eq_by_cmp (slice_cmp nat_cmp)} (λ x y e. (bytes_decides x y).0 (sym (is_eq-slice_cmp x y) ∙ e)) k (finmap.keys m)
    (sym (finmap.contains_key-keys m k) ∙ ap is_some there)

abbrev AreOthers : State → Type 0
AreOthers state = (name : Name) (side : Side) → finmap.get state.classes name ≡ None → state.methods name side ≡ finmap.empty

class_in : (state : State) (name : Name) (side : Side) (selector : Text) (row : MethodRow) → AreOthers state → finmap.get (state.methods name side) selector ≡ Some row → Contains (finmap.keys state.classes) name
class_in state name side selector row others there = by_class (finmap.get state.classes name) refl
  where
    by_class : (o : Option _) → finmap.get state.classes name ≡ o → Contains (finmap.keys state.classes) name
    by_class None none = absurd (some_none (sym there ∙ ap (λ (m : Methods MethodRow). finmap.get m selector) (others name side none) ∙ finmap.get-empty (slice_cmp nat_cmp) selector))
      where
        some_none : Some row ≡ None → ⊥
        some_none e = true≢false (ap is_some e)
    by_class (Some c) is = key_in state.classes name c is

on_side : (state : State) (at : MethodPlace) → Contains (places_on state at.class_name at.side) at → Contains (flat_map (places_on state at.class_name) (Instance ∷ Class ∷ [])) at
on_side state at has = in_piece (places_on state at.class_name) (Instance ∷ Class ∷ []) at.side at (either at.side) has
  where
    either : (s : Side) → Contains (Instance ∷ Class ∷ []) s
    either Instance = (0, omega arith, refl)
    either Class = (1, omega arith, refl)

pub within : (state : State) (P : CoreTree → Type 0) (at : MethodPlace) → AreOthers state → HasTree state P at → Contains (all_places state) at
within state P at others (row, tree, there, is, holds) =
    in_piece (λ class. flat_map (places_on state class) (Instance ∷ Class ∷ [])) (finmap.keys state.classes) at.class_name at (class_in state at.class_name at.side at.selector row others there)
    (on_side state at (of_each (place at.class_name at.side) (finmap.keys (state.methods at.class_name at.side)) at.selector (key_in (state.methods at.class_name at.side) at.selector row there)))

-- ---- what the names are

module _ (system : SystemState) (state : State) (is : IsSystemOf system state) where
  module _ (sent implemented : List Text) (of_sent : (word : Text) → Contains sent word ↔ IsOfSome (IsLink links.Sends state) (all_places state) word)
      (of_implemented : (word : Text) → Contains implemented word ↔ IsOfSome (IsLink links.Implements state) (all_places state) word) where
    pub unimplemented_are : (names : List Text) → AreNames (λ w. Contains sent w × (Contains implemented w → ⊥)) names → AreNames (IsUnimplemented state) names
    unimplemented_are names are = names_same (λ w. Contains sent w × (Contains implemented w → ⊥)) (IsUnimplemented state) names same are
      where
        same : (w : Text) → (Contains sent w × (Contains implemented w → ⊥)) ↔ IsUnimplemented state w
        same w = (
          λ h. let s = (of_sent w).0 h.0 in ((s.0, s.2), λ at there called. h.1 ((of_implemented w).1 (at, there, called))),
          λ h. ((of_sent w).1 (h.0.0, within state (λ core. Contains (messages core) w) h.0.0 is.others h.0.1, h.0.1), λ has. let m = (of_implemented w).0 has in h.1 m.0 m.1 m.2),
        )

    pub unsent_are : (names : List Text) → AreNames (λ w. Contains implemented w × (Contains sent w → ⊥)) names → AreNames (IsUnsent state) names
    unsent_are names are = names_same (λ w. Contains implemented w × (Contains sent w → ⊥)) (IsUnsent state) names same are
      where
        same : (w : Text) → (Contains implemented w × (Contains sent w → ⊥)) ↔ IsUnsent state w
        same w = (
          λ h. ((of_implemented w).0 h.0, λ at sends. h.1 ((of_sent w).1 (at, within state (λ core. Contains (messages core) w) at is.others sends, sends))),
          λ h. ((of_implemented w).1 h.0, λ has. let s = (of_sent w).0 has in h.1 s.0 s.2),
        )

  abbrev IsOther : Text → Type 0
  IsOther w = (finmap.get state.classes w ≡ None) × ((w ≢ codes "Smalltalk") × (w ≢ codes "Transcript"))

  differs : (w other : Text) → bytes_eq w other ≡ false → w ≢ other
  differs w other apart same = true≢false (sym ((bytes_decides w other).1 same) ∙ apart)

  undeclared_tells : (w : Text) → Decides (not (is_declared state.classes w)) (IsOther w)
  undeclared_tells w = by_class (finmap.get state.classes w) refl
    where
      last : (b : Bool) → bytes_eq w (codes "Transcript") ≡ b → finmap.get state.classes w ≡ None → w ≢ codes "Smalltalk" → Decides (not b) (IsOther w)
      last true same none apart = λ other. other.1.1 ((bytes_decides w (codes "Transcript")).0 same)
      last false unlike none apart = (none, (apart, differs w (codes "Transcript") unlike))

      by_word : (b : Bool) → bytes_eq w (codes "Smalltalk") ≡ b → finmap.get state.classes w ≡ None → Decides (not (b || bytes_eq w (codes "Transcript"))) (IsOther w)
      by_word true same none = λ other. other.1.0 ((bytes_decides w (codes "Smalltalk")).0 same)
      by_word false unlike none = last (bytes_eq w (codes "Transcript")) refl none (differs w (codes "Smalltalk") unlike)

      by_class : (o : Option _) → finmap.get state.classes w ≡ o → Decides (not (is_some o || (bytes_eq w (codes "Smalltalk") || bytes_eq w (codes "Transcript")))) (IsOther w)
      by_class None none = by_word (bytes_eq w (codes "Smalltalk")) refl none
      by_class (Some c) there = λ other. true≢false (ap is_some (sym there ∙ other.0))

  pub undeclared_are : (referred all names : List Text) → ((word : Text) → Contains referred word ↔ IsOfSome (IsLink links.RefersTo state) (all_places state) word) → all ≡ referred → AreSorted all
      → names ≡ map (λ w. w) (filter (λ w. not (is_declared system.table.classes w)) all) → AreNames (IsUndeclared state) names
  undeclared_are referred all names of_referred all_is up kept =
      names_same (λ w. Contains all w × IsOther w) (IsUndeclared state) names same
      (kept_are (λ w. not (is_declared state.classes w)) IsOther all names up (kept ∙ ap (λ (cs : Classes). map (λ w. w) (filter (λ w. not (is_declared cs w)) all)) is.classes) undeclared_tells)
    where
      same : (w : Text) → (Contains all w × IsOther w) ↔ IsUndeclared state w
      same w = (
        λ h. let r = (of_referred w).0 (subst (λ l. Contains l w) all_is h.0) in ((r.0, r.2), h.1),
        λ h. (subst (λ l. Contains l w) (sym all_is) ((of_referred w).1 (h.0.0, within state (λ core. Contains (entries core) (outer w)) h.0.0 is.others h.0.1, h.0.1)), h.1),
      )
