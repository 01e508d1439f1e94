-- The number of a class by its name, and what a class descends from.
use Rattle.std.proofs.Common.{drop, ◌≡◌, ◌≢◌, ◌∙◌, ◌||◌, ℕ, suc, zero, Bool, cond, true, false, refl, sym, ap, subst, List, [], ◌∷◌, Option, Some, None, is_some, unwrap_or, option_and_then, true≢false}
use Rattle.std.specs.Option.{IsSome, option_map}
use Rattle.std.specs.Str.{bytes_eq}
use Rattle.std.specs.Cmp.Lexicographic.{bytes_decides}
use Rattle.std.proofs.lemmas.Bool.{or_right}
use Rattle.std.specs.FinMap as map
use Rattle.s80_kernel.specs.Rows.{is_kernel_class}
use Rattle.s80_class.specs.Classes.{Name, ClassRow, Classes, IsLine, IsValid, lineage, is_under, descends}
use Rattle.s80_class.specs.Table.{Table, IsClass, IsNumberOf, class_name, number_of}
use Rattle.s80_class.proofs.lemmas.Lines.{Entry, passes, apart_passed, eq_not, lineage_line}
use Rattle.s80_prims.specs.Classes.{is_kind_of}
use Rattle.s80_prims.specs.Known.{HasKernel}

pub none_is_some : {X : Type 0} {x : X} → None ≡ Some x → ⊥
none_is_some e = true≢false (sym (ap is_some e))

-- ---- numbers

-- the first number of a class's name
pub first_number : (names : List (Option Name)) (name : Name) (c : ℕ) → IsNumberOf names c name → (k : ℕ) × (number_of names name ≡ Some k) × IsNumberOf names k name
first_number [] name c h = absurd (none_is_some h)
first_number (None ∷ names) name zero h = absurd (none_is_some (ap (λ o. unwrap_or o None) h))
first_number (None ∷ names) name (suc c) h = let r = first_number names name c h in (suc r.0, ap (option_map suc) r.1, r.2)
first_number (Some first ∷ names) name c h =
    elim (bytes_eq first name) as (λ b. bytes_eq first name ≡ b → (k : ℕ) × (cond b (Some 0) (option_map suc (number_of names name)) ≡ Some k) × IsNumberOf (Some first ∷ names) k name) [
      | true ↦ λ is. (0, refl, ap (λ n. Some (Some n)) ((bytes_decides first name).0 is))
      | false ↦ λ is. behind (λ c h. first_number names name c h) c h is
    ] refl
  where
    behind : ((c : ℕ) → IsNumberOf names c name → (k : ℕ) × (number_of names name ≡ Some k) × IsNumberOf names k name)
        → (c : ℕ) → IsNumberOf (Some first ∷ names) c name → bytes_eq first name ≡ false → (k : ℕ) × (option_map suc (number_of names name) ≡ Some k) × IsNumberOf (Some first ∷ names) k name
    behind go zero h is =
        let same : first ≡ name = ap (λ o. unwrap_or (unwrap_or o None) first) h in
        absurd (true≢false (sym ((bytes_decides first name).1 same) ∙ is))
    behind go (suc c) h is = let r = go c h in (suc r.0, ap (option_map suc) r.1, r.2)

pub number_is : (names : List (Option Name)) (name : Name) (c : ℕ) → IsNumberOf names c name → ((k : ℕ) → IsNumberOf names k name → Some c ≡ Some k) → number_of names name ≡ Some c
number_is names name c is only = let f = first_number names name c is in f.1 ∙ sym (only f.0 f.2)

pub class_name_is : (t : Table) (c : ℕ) (name : Name) → IsNumberOf t.names c name → class_name t c ≡ name
class_name_is t c name is = ap (λ o. unwrap_or (option_and_then (λ n. n) o) []) is

-- ---- classes above

pub some_of : {X : Type 0} (o : Option X) → IsSome o → (x : X) × (o ≡ Some x)
some_of None h = absurd (true≢false (sym h))
some_of (Some x) h = (x, refl)

pub under_itself : (classes : Classes) (word : Name) (row : ClassRow) → IsValid classes → map.get classes word ≡ Some row → is_under classes word word ≡ true
under_itself classes word row valid is = let line = valid word row is in ap (passes word) (lineage_line classes word line.0 line.1) ∙ first line.0 line.1
  where
    first : (es : List Entry) → IsLine classes (Some word) es → passes word es ≡ true
    first [] line = absurd line
    first (e ∷ es) line = ap (λ b. b || passes word es) ((bytes_decides e.0 word).1 line.0)

under_below : (classes : Classes) (name other : Name) → descends classes name other ≡ true → is_under classes name other ≡ true
under_below classes name other h = go (lineage classes name) h
  where
    go : (es : List Entry) → passes other (drop 1 es) ≡ true → passes other es ≡ true
    go [] h = h
    go (e ∷ es) h = or_right (bytes_eq e.0 other) (passes other es) h

under_apart : (classes : Classes) (name other : Name) → bytes_eq name other ≡ false → descends classes name other ≡ is_under classes name other
under_apart classes name other differs = go (descends classes name other) refl
  where
    go : (b : Bool) → descends classes name other ≡ b → descends classes name other ≡ is_under classes name other
    go true h = h ∙ sym (under_below classes name other h)
    go false h = h ∙ sym (apart_passed classes name other differs h)

-- a class of the kernel
pub kind_of_itself : (t : Table) (c : ℕ) (word : Name) → HasKernel t → is_kernel_class word ≡ true → IsValid t.classes → IsNumberOf t.names c word → is_kind_of t c word ≡ true
kind_of_itself t c word kernel is valid number =
    let row = some_of (map.get t.classes word) (kernel word is) in
    ap (λ n. is_under t.classes n word) (class_name_is t c word number) ∙ under_itself t.classes word row.0 valid row.1

-- a class with another number
pub kind_by_descent : (t : Table) (c of : ℕ) (word : Name) (b : Bool) → IsClass t.names c → c ≢ of → IsNumberOf t.names of word
    → ((k : ℕ) → IsNumberOf t.names k word → Some of ≡ Some k) → ((name other : List ℕ) → IsNumberOf t.names c name → IsNumberOf t.names of other → b ≡ descends t.classes name other)
    → b ≡ is_kind_of t c word
kind_by_descent t c of word b class differs number only below =
    let name : Name = class.0 in
    let apart : name ≢ word = λ e. differs (sym (ap (λ o. unwrap_or o 0) (only c (subst (IsNumberOf t.names c) e class.1)))) in
    below name word class.1 number ∙ under_apart t.classes name word (eq_not name word apart) ∙ sym (ap (λ n. is_under t.classes n word) (class_name_is t c name class.1))
