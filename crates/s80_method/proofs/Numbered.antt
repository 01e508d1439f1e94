-- What the numbers of classes tell of them.
use Rattle.std.proofs.Common.{◌≡◌, ◌<◌, ◌+◌, ◌++◌, ◌∙◌, ◌-◌, ℕ, refl, sym, ap, List, [], ◌∷◌, length, reverse, take, drop, get_or, slice_get, append_assoc, append-nil, add-one, drop-cons, Option, Some, map as list_map, option_map, option_and_then, unwrap_or, arith}
use Rattle.std.specs.List.{flat_map}
use Rattle.std.specs.FinMap as map
use Rattle.std.proofs.lemmas.List.{map-append, flat_map_more, take_more}
use Rattle.std.proofs.lemmas.Option.{slice_get_within, get_or_from_slice_get}
use Rattle.std.proofs.lemmas.List.Folds.{flat_map-map}
use Rattle.std.proofs.lemmas.Grind.{reverse_onto}
use Rattle.s80_scope.specs.declared.shape.Binding.{Binding}
use Rattle.s80_class.specs.declared.entry.ClassEntry.{ClassEntry}
use Rattle.s80_class.specs.Classes.{Name, ClassRow, lineage, upwards}
use Rattle.s80_class.specs.Table.{Table, IsNumberOf, IsEntryOf, row_of}
use Rattle.s80_class.proofs.lemmas.Rows.{name_is}
use Rattle.s80_class.proofs.lemmas.Walks.{left, left_more}
use Rattle.s80_method.specs.Shape.{bindings_of}
use Rattle.s80_method.specs.Line.{class_at, AreNumbersOf}

abbrev pub Class : Type 0
Class = Name × ClassRow

-- the class of an entry
pub class_of_entry : (table : Table) (number : ℕ) (e : ClassEntry) → IsEntryOf table number e → class_at table number ≡ Some (e.class_name, row_of table.names e)
class_of_entry table number e is =
    ap (option_and_then (λ (name : Name). option_map (λ (row : ClassRow). (name, row)) (map.get table.classes name))) (name_is table.names number e.class_name is.named)
    ∙ ap (option_map (λ (row : ClassRow). (e.class_name, row))) is.row

-- ---- the walk up

-- the numbers so far, and the classes that are left
abbrev pub told : Table → List ℕ → List Class → List (Option Class)
told table line es = list_map (class_at table) line ++ list_map Some es

pub starts : (table : Table) (end c : ℕ) (name : Name) → end ≡ map.len table.classes → IsNumberOf table.names c name
    → told table [] (left table end 0 (Some c)) ≡ list_map Some (lineage table.classes name)
starts table end c name size named =
    ap (λ n. list_map Some (upwards (end - 0) table.classes n)) (name_is table.names c name named) ∙ ap (λ n. list_map Some (upwards n table.classes (Some name))) (whole ∙ size)
  where
    whole : end - 0 ≡ end
    whole = omega arith

pub goes_up : (table : Table) (end counter number : ℕ) (e : ClassEntry) (line : List ℕ) (next : Option ℕ) → counter < end → IsEntryOf table number e → next ≡ Some number
    → told table (line ++ number ∷ []) (left table end (counter + 1) e.superclass) ≡ told table line (left table end counter next)
goes_up table end counter number e line next lt is here =
    ap (λ xs. xs ++ list_map Some rest) (map-append (class_at table) line (number ∷ []) ∙ ap (λ o. list_map (class_at table) line ++ o ∷ []) (class_of_entry table number e is))
    ∙ append_one (list_map (class_at table) line) (Some (e.class_name, row_of table.names e)) (list_map Some rest)
    ∙ ap (told table line) (sym (ap (left table end counter) here ∙ left_more table end counter number e lt is))
  where
    rest : List Class
    rest = left table end (counter + 1) e.superclass

    append_one : {A : Type 0} (xs : List A) (x : A) (ys : List A) → (xs ++ x ∷ []) ++ ys ≡ xs ++ (x ∷ ys)
    append_one [] x ys = refl
    append_one (z ∷ xs) x ys = ap (λ l. z ∷ l) (append_one xs x ys)

-- the walk is over
pub ended : (table : Table) (line : List ℕ) (rest all : List Class) → rest ≡ [] → told table line rest ≡ list_map Some all → AreNumbersOf table all line
ended table line rest all none is = sym (ap (told table line) none ∙ append-nil (list_map (class_at table) line)) ∙ is

-- ---- what all of them have

-- what a class has, by its number
abbrev pub had : {A : Type 0} → (Class → List A) → Option Class → List A
had f o = unwrap_or (option_map f o) []

pub map_reverse : {A B : Type 0} (f : A → B) (xs : List A) → list_map f (reverse xs) ≡ reverse (list_map f xs)
map_reverse f [] = refl
map_reverse f (x ∷ xs) =
    ap (list_map f) (reverse_onto xs x []) ∙ map-append f (reverse xs) (x ∷ []) ∙ ap (λ l. l ++ f x ∷ []) (map_reverse f xs) ∙ sym (reverse_onto (list_map f xs) (f x) [])

drop_at : (xs : List ℕ) (i d : ℕ) → i < length xs → drop i xs ≡ get_or xs i d ∷ drop (i + 1) xs
drop_at xs i d lt = drop-cons xs i d lt ∙ ap (λ n. get_or xs i d ∷ drop n xs) (sym (add-one i))

module _ {A : Type 0} (f : Class → List A) (table : Table) where
  abbrev pub at_number : ℕ → List A
  at_number number = had f (class_at table number)

  pub at_entry : (number : ℕ) (e : ClassEntry) → IsEntryOf table number e → at_number number ≡ f (e.class_name, row_of table.names e)
  at_entry number e is = ap (had f) (class_of_entry table number e is)

  pub all_of : (es : List Class) (line : List ℕ) → AreNumbersOf table es line → flat_map at_number line ≡ flat_map f es
  all_of es line are = sym (flat_map-map (had f) (class_at table) line) ∙ ap (flat_map (had f)) are ∙ flat_map-map (had f) Some es

  pub all_reversed : (es : List Class) (line : List ℕ) → AreNumbersOf table es line → flat_map at_number (reverse line) ≡ flat_map f (reverse es)
  all_reversed es line are = all_of (reverse es) (reverse line) (map_reverse (class_at table) line ∙ ap reverse are ∙ sym (map_reverse Some es))

  -- one class more
  pub goes_down : (line : List ℕ) (i d : ℕ) (e : ClassEntry) (old now : List A) → i < length line → IsEntryOf table (get_or line i d) e → now ≡ old ++ f (e.class_name, row_of table.names e)
      → old ≡ flat_map at_number (take i line) → now ≡ flat_map at_number (take (i + 1) line)
  goes_down line i d e old now lt is grown so_far =
      grown ∙ ap (λ xs. xs ++ f (e.class_name, row_of table.names e)) so_far ∙ ap (λ xs. flat_map at_number (take i line) ++ xs) (sym (at_entry (get_or line i d) e is))
      ∙ flat_map_more at_number [] (take i line) (get_or line i d) ∙ ap (flat_map at_number) (sym (take_more line i d lt))

  pub goes_back : (line : List ℕ) (i d : ℕ) (e : ClassEntry) (old now : List A) → i < length line → IsEntryOf table (get_or line i d) e → now ≡ old ++ f (e.class_name, row_of table.names e)
      → old ≡ flat_map at_number (reverse (drop (i + 1) line)) → now ≡ flat_map at_number (reverse (drop i line))
  goes_back line i d e old now lt is grown so_far =
      grown ∙ ap (λ xs. xs ++ f (e.class_name, row_of table.names e)) so_far ∙ ap (λ xs. flat_map at_number (reverse (drop (i + 1) line)) ++ xs) (sym (at_entry (get_or line i d) e is))
      ∙ flat_map_more at_number [] (reverse (drop (i + 1) line)) (get_or line i d)
      ∙ ap (flat_map at_number) (sym (ap reverse (drop_at line i d lt) ∙ reverse_onto (drop (i + 1) line) (get_or line i d) []))

-- ---- what one of them has

pub pushed : {A : Type 0} (old mid now front : List A) (x : A) → now ≡ mid ++ x ∷ [] → mid ≡ old ++ front → now ≡ old ++ (front ++ x ∷ [])
pushed old mid now front x is so_far = is ∙ ap (λ xs. xs ++ x ∷ []) so_far ∙ append_assoc old front (x ∷ [])

one_more : {A : Type 0} (xs : List A) (i : ℕ) (x : A) → slice_get xs i ≡ Some x → take i xs ++ x ∷ [] ≡ take (i + 1) xs
one_more xs i x is =
    let lt = slice_get_within xs i x is in
    ap (λ y. take i xs ++ y ∷ []) (sym (get_or_from_slice_get xs i x x is)) ∙ sym (take_more xs i x lt)

pub name_added : (old mid now more : List Name) (i : ℕ) (x y : Name) → now ≡ mid ++ y ∷ [] → mid ≡ old ++ take i more → y ≡ x → slice_get more i ≡ Some x → now ≡ old ++ take (i + 1) more
name_added old mid now more i x y is so_far same there = pushed old mid now (take i more) y is so_far ∙ ap (λ xs. old ++ xs) (ap (λ z. take i more ++ z ∷ []) same ∙ one_more more i x there)

pub binding_added : (old mid now : List Binding) (class owner : Name) (words : List Name) (i : ℕ) (x y : Name) → now ≡ mid ++ record { owner = owner; name = y } ∷ [] → mid ≡ old ++ bindings_of class (take i words)
    → owner ≡ class → y ≡ x → slice_get words i ≡ Some x → now ≡ old ++ bindings_of class (take (i + 1) words)
binding_added old mid now class owner words i x y is so_far mine same there =
    let b : Name → Name → Binding = λ o n. record { owner = o; name = n } in
    pushed old mid now (bindings_of class (take i words)) (b owner y) is so_far
    ∙ ap (λ xs. old ++ xs) (ap (λ z. bindings_of class (take i words) ++ z ∷ []) (λ j. b (mine j) (same j)) ∙ sym (map-append (b class) (take i words) (x ∷ [])) ∙ ap (bindings_of class) (one_more words i x there))
