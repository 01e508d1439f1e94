-- Systems that stand for states, and what a step makes of both.
use Rattle.std.proofs.Common.{◌≡◌, ◌≤◌, ◌∙◌, ◌&&◌, ◌⊎◌, ◌≢◌, ℕ, zero, suc, inl, inr, Bool, cond, true, false, refl, sym, ap, subst, List, [], ◌∷◌, ◌++◌, length, get_or, nat_eq, slice_get, slice_set, Option, Some, None, option_map, arith}
use Rattle.std.specs.Str.{bytes_eq}
use Rattle.std.specs.Cmp.Lexicographic.{bytes_decides}
use Rattle.std.specs.FinMap as map
use Rattle.std.proofs.lemmas.Bool.Decides.{nat_tests}
use Rattle.std.proofs.lemmas.List.{get_or_past}
use Rattle.s80_base.specs.declared.names.Side.{Side}
use Rattle.s80_base.specs.declared.names.Side.TheVariants.{Instance, Class}
use Rattle.s80_dict.specs.Dict.{Methods}
use Rattle.s80_dict.specs.Table.{MethodsValue, is_place, methods_at, no_sides, on_side, put_at, same_side, taken_at}
use Rattle.s80_class.specs.declared.entry.ClassEntry.{ClassEntry}
use Rattle.s80_class.specs.Classes.{Name, ClassRow, Classes, change_row, with_comment}
use Rattle.s80_class.specs.Table.{Table, IsNumberOf, row_of}
use Rattle.s80_class.proofs.lemmas.Commented.{bare, are_commented}
use Rattle.s80_class.proofs.lemmas.Lines.{get-inserted, get-removed}
use Rattle.s80_class.proofs.lemmas.Rows.{get_set, get_set_other, same_number as number_or}
use Rattle.s80_apply.specs.declared.step.Placed.{Placed}
use Rattle.s80_apply.specs.declared.step.PlacedMethod.{PlacedMethod}
use Rattle.s80_apply.specs.State.{StateOf, put_method, take_class, take_method}
use Rattle.s80_apply.specs.Placed.{PlacedRow, without_place}
use Rattle.s80_apply.specs.Seen.{AreSeen}
use Rattle.s80_apply.specs.Entries.{Entry, row_in, state_row}
use Rattle.s80_apply.specs.System.{CanPut, HasClass, HasComment, HasNumber, IsRecompiled, IsSoundSystem, IsSystemBy, LosesClass, MayPut, Stays, SystemState, put, put_all, put_at_number, with_dictionaries, with_entry}
use Rattle.s80_apply.proofs.Places.{get-put, same_number, side_is, some_same}
use Rattle.s80_apply.proofs.Stands.{seen, seen_empty, seen_put, seen_taken, seen_where}

-- ---- a system that is only given room

-- the table has its classes and names yet, and the dictionaries their methods
pub stays : {M : Type 0} {view : Entry → M} (old now : SystemState) (state : StateOf M) → now.table.classes ≡ old.table.classes → now.table.names ≡ old.table.names → ((n : ℕ) (s : Side) → methods_at now.methods n s ≡ methods_at old.methods n s)
    → IsSystemBy view old state → IsSystemBy view now state
stays {M} {view} old now state classes names methods is = record {
  classes = classes ∙ is.classes;
  methods = λ number name side named.
      subst (λ e. AreSeen view e (state.methods name side)) (sym (methods number side)) (is.methods number name side (subst (λ ns. IsNumberOf ns number name) names named));
  others = is.others;
}

pub only_room : (old now : SystemState) → now.table.classes ≡ old.table.classes → now.table.names ≡ old.table.names → ((n : ℕ) (s : Side) → methods_at now.methods n s ≡ methods_at old.methods n s) → Stays old now
only_room old now classes names methods = record {
  same = λ state is. stays old now state classes names methods is;
  same_places = λ state is. stays old now state classes names methods is;
  names = names;
  classes = classes;
}

pub stays_itself : (system : SystemState) → Stays system system
stays_itself system = record { same = λ state is. is; same_places = λ state is. is; names = refl; classes = refl }

-- ---- one dictionary changed

-- the class of a number has this name where the number is that of the name
pub same_place : (names : List (Option Name)) (n number : ℕ) (name class : Name) → IsNumberOf names n name → IsNumberOf names number class → ((c : ℕ) → IsNumberOf names c class → c ≡ number) → nat_eq n number ≡ bytes_eq name class
same_place names n number name class named of only = go (nat_eq n number) (bytes_eq name class) refl refl
  where
    go : (a b : Bool) → nat_eq n number ≡ a → bytes_eq name class ≡ b → a ≡ b
    go true true p q = refl
    go false false p q = refl
    go true false p q =
        let here : n ≡ number = grind (arith, nat_tests) in
        let both : Some (Some name) ≡ Some (Some class) = sym named ∙ ap (slice_get names) here ∙ of in
        let same : name ≡ class = cc in
        sym ((bytes_decides name class).1 same) ∙ q
    go false true p q =
        let same : name ≡ class = (bytes_decides name class).0 q in
        let here : n ≡ number = only n (subst (λ (x : Name). IsNumberOf names n x) same named) in
        grind (arith, nat_tests)

-- a name that no class of the state has isn't that of a class of the system
not_there : {M : Type 0} {view : Entry → M} (system : SystemState) (state : StateOf M) (class : Name) (number : ℕ) → HasNumber system class number → IsSystemBy view system state
    → (name : Name) → map.get state.classes name ≡ None → bytes_eq name class ≡ false
not_there system state class number has is name none = go (bytes_eq name class) refl
  where
    go : (b : Bool) → bytes_eq name class ≡ b → bytes_eq name class ≡ false
    go false at = at
    go true at =
        let bad : Some has.there.0 ≡ None = sym has.there.1 ∙ ap (λ (c : Classes). map.get c class) is.classes ∙ ap (map.get state.classes) (sym ((bytes_decides name class).0 at)) ∙ none in
        absurd (cc)

module _ {M : Type 0} {view : Entry → M} (before now : SystemState) (state : StateOf M) (class : Name) (number : ℕ) (side : Side) (f : Methods Entry → Methods Entry) (g : Methods M → Methods M) (has : HasNumber before class number)
    (both : (m : Methods Entry) (n : Methods M) → AreSeen view m n → AreSeen view (f m) (g n)) (is : IsSystemBy view before state) (table : now.table ≡ before.table)
    (methods : (n : ℕ) (s : Side) → methods_at now.methods n s ≡ cond (is_place number side n s) (f (methods_at before.methods n s)) (methods_at before.methods n s)) where
  abbrev changed : Name → Side → Methods M
  changed name s = cond (bytes_eq name class && same_side s side) (g (state.methods name s)) (state.methods name s)

  entries : (n : ℕ) (name : Name) (s : Side) → IsNumberOf now.table.names n name → AreSeen view (methods_at now.methods n s) (changed name s)
  entries n name s named =
      let here : IsNumberOf before.table.names n name = subst (λ (t : Table). IsNumberOf t.names n name) table named in
      let place : nat_eq n number ≡ bytes_eq name class = same_place before.table.names n number name class here has.named has.only in
      let old : Methods Entry = methods_at before.methods n s in
      let kept : AreSeen view old (state.methods name s) = is.methods n name s here in
      subst (λ e. AreSeen view e (changed name s)) (sym (methods n s ∙ ap (λ b. cond (b && same_side s side) (f old) old) place))
      (seen_where view (bytes_eq name class && same_side s side) (f old) old (g (state.methods name s)) (state.methods name s) (both old (state.methods name s) kept) kept)

  pub dictionary_changed : IsSystemBy view now (record state { methods = changed })
  dictionary_changed = record {
    classes = ap (λ (t : Table). t.classes) table ∙ is.classes;
    methods = entries;
    others = λ name s none.
        ap (λ b. cond (b && same_side s side) (g (state.methods name s)) (state.methods name s)) (not_there before state class number has is name none) ∙ is.others name s none;
  }

-- a method put
pub method_put : {M : Type 0} {view : Entry → M} (before now : SystemState) (state : StateOf M) (class : Name) (number : ℕ) (side : Side) (selector : List ℕ) (entry : Entry) (row : M) → HasNumber before class number → view entry ≡ row
    → IsSystemBy view before state → now.table ≡ before.table → ((n : ℕ) (s : Side) → methods_at now.methods n s ≡ put_at (methods_at before.methods) number side selector entry n s)
    → IsSystemBy view now (put_method class side selector row state)
method_put {M} {view} before now state class number side selector entry row has shown is table methods =
    dictionary_changed before now state class number side (λ m. map.insert m selector entry) (λ m. map.insert m selector row) has (λ m n are. seen_put view m n selector entry row shown are) is table methods

-- and one taken away
pub method_taken : {M : Type 0} {view : Entry → M} (before now : SystemState) (state : StateOf M) (class : Name) (number : ℕ) (side : Side) (selector : List ℕ) → HasNumber before class number
    → IsSystemBy view before state → now.table ≡ before.table → ((n : ℕ) (s : Side) → methods_at now.methods n s ≡ taken_at (methods_at before.methods) number side selector n s)
    → IsSystemBy view now (take_method class side selector state)
method_taken {M} {view} before now state class number side selector has is table methods =
    dictionary_changed before now state class number side (λ m. map.remove m selector) (λ m. map.remove m selector) has (λ m n are. seen_taken view m n selector are) is table methods

-- ---- methods that have the rows of those that were there

abbrev SameRows : Methods Entry → Methods Entry → Type 0
SameRows m n = (selector : List ℕ) → option_map row_in (map.get m selector) ≡ option_map row_in (map.get n selector)

-- the rows show what is seen of entries
abbrev pub Shows : {M : Type 0} → (Entry → M) → Type 0
Shows {M} view = (a b : Option Entry) → option_map row_in a ≡ option_map row_in b → option_map view a ≡ option_map view b

pub rows_show : Shows row_in
rows_show a b same = same

pub state_rows_show : Shows state_row
state_rows_show None None same = refl
state_rows_show None (Some b) same = absurd (cc)
state_rows_show (Some a) None same = absurd (cc)
state_rows_show (Some a) (Some b) same = ap (λ (r : PlacedRow). Some (without_place r)) (some_same (row_in a) (row_in b) same)

rows_put : (m n : Methods Entry) (k : Name) (v : Entry) → SameRows m n → option_map row_in (map.get n k) ≡ Some (row_in v) → SameRows (map.insert m k v) n
rows_put m n k v same is q = ap (option_map row_in) (get-put m k v q) ∙ by_key (bytes_eq q k) refl
  where
    by_key : (b : Bool) → bytes_eq q k ≡ b → option_map row_in (cond b (Some v) (map.get m q)) ≡ option_map row_in (map.get n q)
    by_key true t = sym is ∙ ap (λ (x : Name). option_map row_in (map.get n x)) (sym ((bytes_decides q k).0 t))
    by_key false t = same q

all_rows : (ps : List PlacedMethod) (d e : ℕ → Side → Methods Entry) → ((n : ℕ) (s : Side) → SameRows (d n s) (e n s))
    → ((k : ℕ) (p : PlacedMethod) → slice_get ps k ≡ Some p → option_map row_in (map.get (e p.number p.side) p.selector) ≡ Some (row_in p.entry))
    → (n : ℕ) (s : Side) → SameRows (put_all ps d n s) (e n s)
all_rows [] d e same each n s = same n s
all_rows (p ∷ ps) d e same each n s = all_rows ps (put_at d p.number p.side p.selector p.entry) e more (λ k q at. each (suc k) q at) n s
  where
    more : (n : ℕ) (s : Side) → SameRows (put_at d p.number p.side p.selector p.entry n s) (e n s)
    more n s = by_place_of (nat_eq n p.number) (same_side s p.side) refl refl
      where
        by_place_of : (a b : Bool) → nat_eq n p.number ≡ a → same_side s p.side ≡ b → SameRows (cond (a && b) (map.insert (d n s) p.selector p.entry) (d n s)) (e n s)
        by_place_of true true at on =
            let there : option_map row_in (map.get (e n s) p.selector) ≡ Some (row_in p.entry) =
            (λ i. option_map row_in (map.get (e (same_number n p.number at i) (side_is s p.side on i)) p.selector)) ∙ each 0 p refl in
            rows_put (d n s) (e n s) p.selector p.entry (same n s) there
        by_place_of true false at on = same n s
        by_place_of false b at on = same n s

-- ---- an entry put among the classes

at_end : {X : Type 0} (xs : List X) (d : X) (n : ℕ) → get_or (xs ++ d ∷ []) n d ≡ get_or xs n d
at_end [] d zero = refl
at_end [] d (suc n) = refl
at_end (x ∷ xs) d zero = refl
at_end (x ∷ xs) d (suc n) = at_end xs d n

pub dictionaries_stay : (number : Option ℕ) (methods : MethodsValue Entry) (n : ℕ) (s : Side) → methods_at (with_dictionaries number methods) n s ≡ methods_at methods n s
dictionaries_stay (Some number) methods n s = refl
dictionaries_stay None methods n s = ap (λ sides. (on_side sides s).methods) (at_end methods.sides no_sides n)

-- what stands in a list with one more stands in the list, or is that one, behind all of it
data IsAmong {X : Type 0} (xs : List X) (x : X) (n : ℕ) (y : X) : Type 0 where
  in_front : slice_get xs n ≡ Some y → IsAmong xs x n y
  behind : length xs ≤ n → x ≡ y → IsAmong xs x n y

further : {X : Type 0} (z : X) (xs : List X) (x : X) (n : ℕ) (y : X) → IsAmong xs x n y → IsAmong (z ∷ xs) x (suc n) y
further z xs x n y (in_front is) = in_front is
further z xs x n y (behind past is) = behind (omega (arith, past)) is

among : {X : Type 0} (xs : List X) (x : X) (n : ℕ) (y : X) → slice_get (xs ++ x ∷ []) n ≡ Some y → IsAmong xs x n y
among [] x zero y is = behind (omega arith) (cc)
among [] x (suc n) y is = absurd (cc)
among (z ∷ xs) x zero y is = in_front is
among (z ∷ xs) x (suc n) y is = further z xs x n y (among xs x n y is)

-- the class's dictionaries are as before, but for those of a new class
module _ {M : Type 0} {view : Entry → M} (before : SystemState) (state : StateOf M) (entry : ClassEntry) (classes : Classes) (sound : IsSoundSystem before) (is : IsSystemBy view before state) (makes : with_entry before.table entry ≡ classes) where
  others : (name : Name) (side : Side) → map.get classes name ≡ None → state.methods name side ≡ map.empty
  others name side none =
      is.others name side (ap (λ (c : Classes). map.get c name) (sym is.classes) ∙ by_name (bytes_eq name entry.class_name) (sym (get-inserted before.table.classes entry.class_name (row_of before.table.names entry) name) ∙ ap (λ (c : Classes). map.get c name) makes ∙ none))
    where
      by_name : (b : Bool) → cond b (Some (row_of before.table.names entry)) (map.get before.table.classes name) ≡ None → map.get before.table.classes name ≡ None
      by_name true some = absurd (cc)
      by_name false none = none

  class_bare : (number : Option ℕ) → MayPut before.table number entry
      → IsSystemBy view (record { table = put_at_number before.table number entry; methods = with_dictionaries number before.methods }) (record state { classes = classes })
  class_bare (Some n) may = record { classes = makes; methods = is.methods; others = others }
  class_bare None may = record { classes = makes; methods = λ n name side named. entries n name side (among before.table.names (Some entry.class_name) n (Some name) named); others = others }
    where
      nothing : (side : Side) → (on_side (no_sides {X = Entry}) side).methods ≡ map.empty
      nothing Instance = refl
      nothing Class = refl

      entries : (n : ℕ) (name : Name) (side : Side) → IsAmong before.table.names (Some entry.class_name) n (Some name) → AreSeen view (methods_at (with_dictionaries None before.methods) n side) (state.methods name side)
      entries n name side (in_front there) = subst (λ e. AreSeen view e (state.methods name side)) (sym (dictionaries_stay None before.methods n side)) (is.methods n name side there)
      entries n name side (behind past new) =
          let named : entry.class_name ≡ name = cc in
          let absent : map.get state.classes name ≡ None = ap (map.get state.classes) (sym named) ∙ ap (λ (c : Classes). map.get c entry.class_name) (sym is.classes) ∙ may.1 in
          let far : length before.methods.sides ≤ n = omega (arith, past, sound.dictionaries) in
          let none : methods_at before.methods n side ≡ map.empty = ap (λ s. (on_side s side).methods) (get_or_past before.methods.sides n no_sides far) ∙ nothing side in
          subst (λ e. AreSeen view e (state.methods name side)) (sym (dictionaries_stay None before.methods n side ∙ none)) (subst (λ r. AreSeen view map.empty r) (sym (is.others name side absent)) (seen_empty view))

-- methods that are compiled again have the rows of those that were there
again_there : (before : SystemState) (classes : Classes) (number : Option ℕ) (p : PlacedMethod) → IsRecompiled before classes p
    → option_map row_in (map.get (methods_at (with_dictionaries number before.methods) p.number p.side) p.selector) ≡ Some (row_in p.entry)
again_there before classes number p is =
    ap (λ (m : Methods Entry). option_map row_in (map.get m p.selector)) (dictionaries_stay number before.methods p.number p.side) ∙ ap (option_map row_in) is.there ∙ ap Some (sym is.row)

-- the dictionaries with the entry, and the same with the methods that were compiled again
again_rows : (before : SystemState) (placed : Placed) → CanPut before placed → (n : ℕ) (s : Side)
    → SameRows (put_all placed.recompiled.items (methods_at (with_dictionaries placed.number before.methods)) n s) (methods_at (with_dictionaries placed.number before.methods) n s)
again_rows before placed can =
    all_rows placed.recompiled.items (methods_at (with_dictionaries placed.number before.methods)) (methods_at (with_dictionaries placed.number before.methods)) (λ n s q. refl)
    (λ k p at. again_there before (with_entry before.table placed.entry) placed.number p (can.recompiled.each k p at))

pub class_put : {M : Type 0} {view : Entry → M} → Shows view → (before now : SystemState) (state : StateOf M) (placed : Placed) (classes : Classes) → IsSoundSystem before → IsSystemBy view before state → CanPut before placed → with_entry before.table placed.entry ≡ classes
    → HasClass before placed now → IsSystemBy view now (record state { classes = classes })
class_put {M} {view} shows before now state placed classes sound is can makes has = record {
  classes = ap (λ (t : Table). t.classes) has.table ∙ bare_system.classes;
  methods = entries;
  others = bare_system.others;
}
  where
    bare_system : IsSystemBy view (record { table = put before.table placed; methods = with_dictionaries placed.number before.methods }) (record state { classes = classes })
    bare_system = class_bare before state placed.entry classes sound is makes placed.number can.may_put

    entries : (n : ℕ) (name : Name) (side : Side) → IsNumberOf now.table.names n name → AreSeen view (methods_at now.methods n side) (state.methods name side)
    entries n name side named =
        let there : IsNumberOf (put before.table placed).names n name = subst (λ (t : Table). IsNumberOf t.names n name) has.table named in
        let old : Methods Entry = methods_at (with_dictionaries placed.number before.methods) n side in
        let new : Methods Entry = put_all placed.recompiled.items (methods_at (with_dictionaries placed.number before.methods)) n side in
        subst (λ e. AreSeen view e (state.methods name side)) (sym (has.methods n side))
        (seen view new (state.methods name side) (λ s. shows (map.get new s) (map.get old s) (again_rows before placed can n side s) ∙ (bare_system.methods n name side there).each s))

-- ---- a comment

none_of : (o : Option ClassRow) → option_map bare o ≡ None → o ≡ None
none_of None is = refl
none_of (Some row) is = absurd (cc)

pub class_commented : {M : Type 0} {view : Entry → M} (before now : SystemState) (state : StateOf M) (class : Name) (number : ℕ) (text : List ℕ) → HasNumber before class number → IsSystemBy view before state → HasComment before number text now
    → IsSystemBy view now (record state { classes = change_row (with_comment text) class state.classes })
class_commented {M} {view} before now state class number text has is comment = record {
  classes = comment.classes class has.named ∙ ap (change_row (with_comment text) class) is.classes;
  methods = λ n name side named.
      subst (λ e. AreSeen view e (state.methods name side)) (sym (comment.methods n side)) (is.methods n name side (subst (λ ns. IsNumberOf ns n name) comment.names named));
  others = λ name side none.
      is.others name side (none_of (map.get state.classes name) (sym ((are_commented text class state.classes).rows name) ∙ ap (option_map bare) none));
}

-- ---- a class taken away

-- a number that a class has yet isn't the one that was taken
pub number_left : (names : List (Option Name)) (number : ℕ) (class : Name) (now : List (Option Name)) (n : ℕ) (name : Name) → IsNumberOf names number class → now ≡ slice_set names number None → IsNumberOf now n name → (n ≢ number) × IsNumberOf names n name
number_left names number class now n name of is named = go (number_or n number)
  where
    here : slice_get (slice_set names number None) n ≡ Some (Some name)
    here = ap (λ ns. slice_get ns n) (sym is) ∙ named

    go : (n ≡ number) ⊎ (n ≢ number) → (n ≢ number) × IsNumberOf names n name
    go (inl same) =
        let bad : Some None ≡ Some (Some name) = sym (get_set names number (Some class) None of) ∙ ap (slice_get (slice_set names number None)) (sym same) ∙ here in
        absurd (cc)
    go (inr ne) = (ne, sym (get_set_other names number n None ne) ∙ here)

pub class_taken : {M : Type 0} {view : Entry → M} (before now : SystemState) (state : StateOf M) (class : Name) (number : ℕ) → HasNumber before class number → IsSystemBy view before state → LosesClass before number now
    → IsSystemBy view now (take_class class state)
class_taken {M} {view} before now state class number has is loses = record {
  classes = loses.classes class has.named ∙ ap (λ (c : Classes). map.remove c class) is.classes;
  methods = entries;
  others = λ name side none. by_name name side (bytes_eq name class) (sym (get-removed state.classes class name) ∙ none);
}
  where
    entries : (n : ℕ) (name : Name) (side : Side) → IsNumberOf now.table.names n name → AreSeen view (methods_at now.methods n side) (cond (bytes_eq name class) map.empty (state.methods name side))
    entries n name side named =
        let here : IsNumberOf before.table.names n name = (number_left before.table.names number class now.table.names n name has.named loses.names named).1 in
        let place : nat_eq n number ≡ bytes_eq name class = same_place before.table.names n number name class here has.named has.only in
        let old : Methods Entry = methods_at before.methods n side in
        subst (λ e. AreSeen view e (cond (bytes_eq name class) map.empty (state.methods name side))) (sym (loses.methods n side ∙ ap (λ b. cond b map.empty old) place))
        (seen_where view (bytes_eq name class) map.empty old map.empty (state.methods name side) (seen_empty view) (is.methods n name side here))

    by_name : (name : Name) (side : Side) (b : Bool) → cond b None (map.get state.classes name) ≡ None → cond b map.empty (state.methods name side) ≡ map.empty
    by_name name side true none = refl
    by_name name side false none = is.others name side none
