-- How many classes stand above a class, itself among them.
use Rattle.std.proofs.Common.{◌≡◌, ◌∙◌, ◌+◌, ◌-◌, ◌<◌, ◌≤◌, ◌||◌, ◌==◌, ◌++◌, cond, ℕ, suc, zero, Bool, true, false, refl, sym, ap, List, [], ◌∷◌, Option, Some, None, is_some, length, eq-eqb, lt-ltb, arith}
use Rattle.std.specs.Prelude.{option_and_then, MatchOption}
use Rattle.std.specs.List.{AllByRecursion, list_any}
use Rattle.std.specs.Ordering.{nat_cmp, is_lt}
use Rattle.std.specs.Cmp.Lexicographic.{slice_cmp}
use Rattle.std.specs.declared.cmp.Ordering.TheVariants.{Less, Equal, Greater}
use Rattle.std.specs.FinMap as map
use Rattle.s80_class.specs.declared.entry.ClassEntry.{ClassEntry}
use Rattle.s80_class.specs.Classes.{Name, Classes, ClassRow, lineage, then_up, upwards}
use Rattle.s80_class.specs.Table.{Table, IsEntryOf, IsNumberOf, IsSuperclass, name_of}
use Rattle.s80_fileout.specs.Condensed.{up_to}
use Rattle.s80_fileout.proofs.Grouped.{Rises}

-- ---- the walk up

abbrev pub named_in : Table → Option ℕ → Option Name
named_in table number = option_and_then (name_of table.names) number

-- so many classes were passed, and the others stand from here on
abbrev pub IsPassed : Table → Name → ℕ → ℕ → Option ℕ → Type 0
IsPassed table name count passed next = length (lineage table.classes name) ≡ passed + length (upwards (count - passed) table.classes (named_in table next))

none_above : (n : ℕ) (classes : Classes) → upwards n classes None ≡ []
none_above zero classes = refl
none_above (suc n) classes = refl

none_there : (n : ℕ) (classes : Classes) (name : Name) → map.get classes name ≡ None → upwards n classes (Some name) ≡ []
none_there zero classes name none = refl
none_there (suc n) classes name none = ap (λ o. then_up name o (λ row. upwards n classes row.superclass)) none

abbrev IsFound : Table → Name → Option ℕ → Type 0
IsFound table name found = MatchOption found (map.get table.classes name ≡ None) (λ c. IsNumberOf table.names c name)

pub found_live : (table : Table) (name : Name) (found : Option ℕ) → IsFound table name found → IsSuperclass table.names found
found_live table name None is = tt
found_live table name (Some c) is = (name, is)

pub none_passed : (table : Table) (name : Name) (found : Option ℕ) (count : ℕ) → IsFound table name found → count ≡ map.len table.classes → IsPassed table name count 0 found
none_passed table name None count is counted =
    let a : length (lineage table.classes name) ≡ 0 = ap length (none_there (map.len table.classes) table.classes name is) in
    let b : length (upwards (count - 0) table.classes None) ≡ 0 = ap length (none_above (count - 0) table.classes) in
    omega arith
none_passed table name (Some c) count is counted =
    let named : named_in table (Some c) ≡ Some name = ap (λ o. option_and_then (λ (n : Option Name). n) o) is in
    let size : count - 0 ≡ map.len table.classes = omega arith in
    let a : length (upwards (count - 0) table.classes (named_in table (Some c))) ≡ length (lineage table.classes name) = λ i. length (upwards (size i) table.classes (named i)) in
    omega arith

pub one_passed : (table : Table) (name : Name) (count passed number : ℕ) (entry : ClassEntry) → passed < count → IsEntryOf table number entry
    → IsPassed table name count passed (Some number) → IsPassed table name count (passed + 1) entry.superclass
one_passed table name count passed number entry within is so =
    let named : named_in table (Some number) ≡ Some entry.class_name = ap (λ o. option_and_then (λ (n : Option Name). n) o) is.named in
    let left : ℕ = count - (passed + 1) in
    let more : count - passed ≡ suc left = omega arith in
    let a : upwards (count - passed) table.classes (named_in table (Some number)) ≡ then_up entry.class_name (map.get table.classes entry.class_name) (λ row. upwards left table.classes row.superclass) =
    λ i. upwards (more i) table.classes (named i) in
    let b = a ∙ ap (λ o. then_up entry.class_name o (λ row. upwards left table.classes row.superclass)) is.row in
    let c : length (upwards (count - passed) table.classes (named_in table (Some number))) ≡ suc (length (upwards left table.classes (named_in table entry.superclass))) = ap length b in
    omega (arith, so, c)

pub all_passed : (table : Table) (name : Name) (count passed : ℕ) (next : Option ℕ) → next ≡ None → IsPassed table name count passed next → passed ≡ length (lineage table.classes name)
all_passed table name count passed next none so =
    let a : length (upwards (count - passed) table.classes (named_in table next)) ≡ 0 = ap (λ n. length (upwards (count - passed) table.classes (named_in table n))) none ∙ ap length (none_above (count - passed) table.classes) in
    omega (arith, so, a)

pub most_passed : (table : Table) (name : Name) (count passed : ℕ) (next : Option ℕ) → count ≤ passed → passed ≤ count → IsPassed table name count passed next → count ≡ length (lineage table.classes name)
most_passed table name count passed next past within so =
    let none : count - passed ≡ 0 = omega arith in
    let a : length (upwards (count - passed) table.classes (named_in table next)) ≡ 0 = ap (λ n. length (upwards n table.classes (named_in table next))) none in
    omega (arith, so, a)

-- ---- depths are among the numbers up to how many classes there are

long_by : (n : ℕ) (name : Name) (o : Option ClassRow) (up : ClassRow → List (Name × ClassRow)) → ((row : ClassRow) → length (up row) ≤ n) → length (then_up name o up) ≤ suc n
long_by n name None up most = omega arith
long_by n name (Some row) up most = let h = most row in omega (arith, h)

pub no_longer : (n : ℕ) (classes : Classes) (p : Option Name) → length (upwards n classes p) ≤ n
no_longer zero classes p = omega arith
no_longer (suc n) classes None = omega arith
no_longer (suc n) classes (Some name) = long_by n name (map.get classes name) (λ row. upwards n classes row.superclass) (λ row. no_longer n classes row.superclass)

abbrev pub IsThere : Classes → Name → Type 0
IsThere classes name = map.contains_key classes name ≡ true

row_there : (o : Option ClassRow) → is_some o ≡ true → (row : ClassRow) × (o ≡ Some row)
row_there None is = absurd (cc)
row_there (Some row) is = (row, refl)

some_classes : (classes : Classes) (name : Name) → IsThere classes name → (m : ℕ) × (map.len classes ≡ suc m)
some_classes classes name there = go (map.len classes) refl
  where
    go : (n : ℕ) → map.len classes ≡ n → (m : ℕ) × (map.len classes ≡ suc m)
    go zero none =
        let bad : is_some (map.get classes name) ≡ false = ap (λ (c : Classes). is_some (map.get c name)) (map.empty_of_len classes none) ∙ ap is_some (map.get-empty (slice_cmp nat_cmp) name) in
        absurd (cc)
    go (suc m) is = (m, is)

pub deep : (classes : Classes) (name : Name) → IsThere classes name → 0 < length (lineage classes name)
deep classes name there =
    let some = some_classes classes name there in
    let row = row_there (map.get classes name) there in
    let a : length (lineage classes name) ≡ suc (length (upwards some.0 classes row.0.superclass)) =
    ap (λ n. length (upwards n classes (Some name))) some.1 ∙ ap (λ o. length (then_up name o (λ r. upwards some.0 classes r.superclass))) row.1 in
    omega (arith, a)

any_further : (p : ℕ → Bool) (xs : List ℕ) (y : ℕ) → list_any p (xs ++ y ∷ []) ≡ (list_any p xs || p y)
any_further p [] y = last (p y)
  where
    last : (b : Bool) → (b || false) ≡ b
    last true = refl
    last false = refl
any_further p (x ∷ xs) y = ap (λ b. p x || b) (any_further p xs y) ∙ sym (joined (p x) (list_any p xs) (p y))
  where
    joined : (a b c : Bool) → ((a || b) || c) ≡ (a || (b || c))
    joined true b c = refl
    joined false b c = refl

or_true : (a b : Bool) → b ≡ true → (a || b) ≡ true
or_true true b is = refl
or_true false b is = is

pub among_numbers : (n d : ℕ) → 0 < d → d ≤ n → list_any (λ j. d == j) (up_to n) ≡ true
among_numbers zero d low high = absurd (omega arith)
among_numbers (suc n) d low high =
    any_further (λ j. d == j) (up_to n) (suc n)
    ∙ elim (d == suc n) as (λ b. d == suc n ≡ b → (list_any (λ j. d == j) (up_to n) || b) ≡ true) [
      | true ↦ λ is. or_true (list_any (λ j. d == j) (up_to n)) true refl
      | false ↦ λ not_last. ap (λ a. a || false) (among_numbers n d low (below d n high not_last))
    ] refl
  where
    below : (d n : ℕ) → d ≤ suc n → d == suc n ≡ false → d ≤ n
    below d n high not_last = grind (arith, eq-eqb d (suc n))

pub depth_among : (classes : Classes) (name : Name) → IsThere classes name → list_any (λ j. length (lineage classes name) == j) (up_to (map.len classes)) ≡ true
depth_among classes name there = among_numbers (map.len classes) (length (lineage classes name)) (deep classes name there) (no_longer (map.len classes) classes (Some name))

-- ---- the numbers rise

less_than : (x y : ℕ) → x < y → is_lt (nat_cmp x y) ≡ true
less_than x y below = ap (λ b. is_lt (cond b Less (cond (x == y) Equal Greater))) (lt-ltb x y below)

all_further : (P : ℕ → Type 0) (xs : List ℕ) (y : ℕ) → AllByRecursion P xs → P y → AllByRecursion P (xs ++ y ∷ [])
all_further P [] y all last = (last, tt)
all_further P (x ∷ xs) y all last = (all.0, all_further P xs y all.1 last)

rises_further : (xs : List ℕ) (y : ℕ) → Rises nat_cmp xs → AllByRecursion (λ x. is_lt (nat_cmp x y) ≡ true) xs → Rises nat_cmp (xs ++ y ∷ [])
rises_further [] y rises below = (tt, tt)
rises_further (x ∷ xs) y rises below = (all_further (λ j. is_lt (nat_cmp x j) ≡ true) xs y rises.0 below.0, rises_further xs y rises.1 below.1)

all_below : (n m : ℕ) → n < m → AllByRecursion (λ x. is_lt (nat_cmp x m) ≡ true) (up_to n)
all_below zero m below = tt
all_below (suc n) m below = all_further (λ x. is_lt (nat_cmp x m) ≡ true) (up_to n) (suc n) (all_below n m (omega arith)) (less_than (suc n) m below)

pub numbers_rise : (n : ℕ) → Rises nat_cmp (up_to n)
numbers_rise zero = tt
numbers_rise (suc n) = rises_further (up_to n) (suc n) (numbers_rise n) (all_below n (suc n) (omega arith))
