-- Classes of the kernel by their numbers.
use Rattle.std.proofs.Common.{◌≡◌, ◌≢◌, ◌∙◌, ◌||◌, ap, refl, sym, ℕ, List, [], ◌∷◌, All, Bool, true, Option, Some, None}
use Rattle.std.specs.List.{list_any}
use Rattle.std.specs.Option.{option_map_or}
use Rattle.std.proofs.lemmas.List.Elements.{All-cons, All-nil}
use Rattle.s80_base.specs.declared.literal.NumberKind.{NumberKind}
use Rattle.s80_base.specs.declared.names.Side.TheVariants.{Instance, Class}
use Rattle.s80_class.specs.Classes.{Name, descends, is_under}
use Rattle.s80_class.specs.Known.{IsKnown as IsKnownTable}
use Rattle.s80_class.specs.Lookup.{Place}
use Rattle.s80_class.specs.Table.{Table, IsClass, IsNumberOf, class_name}
use Rattle.s80_class.proofs.lemmas.Numbers.{number_names}
use Rattle.s80_object.specs.Body.{BodyTree, pointers, bytes, words, home, block}
use Rattle.s80_object.specs.Objects.{State, body_at, number_kind_of}
use Rattle.s80_object.specs.declared.value.Value.{Value}
use Rattle.s80_object.specs.declared.value.Value.TheVariants as value
use Rattle.s80_prims.specs.declared.kernel.Kernel.{Kernel}
use Rattle.s80_prims.specs.Classes.{body_class, class_of, is_kind_of, kernel_class, made_otherwise, number_class}
use Rattle.s80_prims.specs.Numbers.{AreNumbers, IsNumber, class_place}
use Rattle.s80_prims.proofs.ClassesNumbered.{class_name_is, kind_by_descent, under_itself}

-- ---- one class

pub is_class : (t : Table) (word : Name) (n : ℕ) → IsNumber t word n → IsClass t.names n
is_class t word n is = (word, number_names t.names word n is)

pub name_is : (t : Table) (word : Name) (n : ℕ) → IsNumber t word n → class_name t n ≡ word
name_is t word n is = class_name_is t n word (number_names t.names word n is)

pub kind_of_its_number : (t : Table) (c n : ℕ) → IsKnownTable t → IsClass t.names n → c ≡ n → true ≡ is_kind_of t c (class_name t n)
kind_of_its_number t c n known class same =
    let row = known.known n class.0 class.1 in
    let word : class_name t n ≡ class.0 = class_name_is t n class.0 class.1 in
    let itself : is_kind_of t n class.0 ≡ true = ap (λ w. is_under t.classes w class.0) word ∙ under_itself t.classes class.0 row.0 known.valid row.1 in
    sym (ap (λ m. is_kind_of t m (class_name t n)) same ∙ ap (λ w. is_kind_of t n w) word ∙ itself)

pub kind_apart : (t : Table) (c n : ℕ) (b : Bool) → IsKnownTable t → IsClass t.names c → IsClass t.names n → c ≢ n
    → ((name other : List ℕ) → IsNumberOf t.names c name → IsNumberOf t.names n other → b ≡ descends t.classes name other) → b ≡ is_kind_of t c (class_name t n)
kind_apart t c n b known class other differs below =
    kind_by_descent t c n other.0 b class differs other.1 (λ k is. ap (λ m. Some m) (known.one_number n k other.0 other.1 is)) below
    ∙ ap (λ w. is_kind_of t c w) (sym (class_name_is t n other.0 other.1))

-- ---- some classes

-- these are the numbers of classes of these names
abbrev AreNamed : Table → List ℕ → List Name → Type 0
AreNamed t [] [] = Unit {0}
AreNamed t (n ∷ ns) (word ∷ names) = IsNumber t word n × AreNamed t ns names
AreNamed t _ _ = ⊥

named_classes : (t : Table) (ns : List ℕ) (names : List Name) → AreNamed t ns names → All (IsClass t.names) ns
named_classes t [] [] h = All-nil (IsClass t.names)
named_classes t (n ∷ ns) (word ∷ names) h = All-cons (IsClass t.names) n ns (is_class t word n h.0) (named_classes t ns names h.1)
named_classes t [] (word ∷ names) h = absurd h
named_classes t (n ∷ ns) [] h = absurd h

named_kinds : (t : Table) (c : ℕ) (ns : List ℕ) (names : List Name) → AreNamed t ns names
    → list_any (λ n. is_kind_of t c (class_name t n)) ns ≡ list_any (is_kind_of t c) names
named_kinds t c [] [] h = refl
named_kinds t c (n ∷ ns) (word ∷ names) h =
    ap (λ w. is_kind_of t c w || list_any (λ n. is_kind_of t c (class_name t n)) ns) (name_is t word n h.0) ∙ ap (λ b. is_kind_of t c word || b) (named_kinds t c ns names h.1)
named_kinds t c [] (word ∷ names) h = absurd h
named_kinds t c (n ∷ ns) [] h = absurd h

-- those of which there can't be new instances
abbrev pub otherwise : Kernel → List ℕ
otherwise k =
    k.behavior ∷ k.undefined_object ∷ k.boolean ∷ k.character ∷ k.number ∷ k.symbol ∷ k.context_part ∷ k.text_collector ∷ k.system_dictionary ∷ []

otherwise_named : (t : Table) (k : Kernel) → AreNumbers t k → AreNamed t (otherwise k) made_otherwise
otherwise_named t k are =
    (are.behavior, (are.undefined_object, (are.boolean, (are.character, (are.number, (are.symbol, (are.context_part, (are.text_collector, (are.system_dictionary, tt)))))))))

pub otherwise_classes : (t : Table) (k : Kernel) → AreNumbers t k → All (IsClass t.names) (otherwise k)
otherwise_classes t k are = named_classes t (otherwise k) made_otherwise (otherwise_named t k are)

pub otherwise_kinds : (t : Table) (k : Kernel) (c : ℕ) → AreNumbers t k
    → list_any (λ n. is_kind_of t c (class_name t n)) (otherwise k) ≡ list_any (is_kind_of t c) made_otherwise
otherwise_kinds t k c are = named_kinds t c (otherwise k) made_otherwise (otherwise_named t k are)

-- ---- the class of a value

-- a class by its place; none is nil
abbrev pub place_class : Option Place → Value
place_class None = value.Nil
place_class (Some p) = value.ClassRef p.0 p.1

body_again : (t : Table) (b : BodyTree) → place_class (class_place (body_class t b)) ≡ body_class t b
body_again t (pointers class fields items) = refl
body_again t (bytes class items) = refl
body_again t (words class items) = refl
body_again t (home method receiver temporaries) = refl
body_again t (block whole start arguments) = refl

pub class_again : (t : Table) (s : State) (v : Value) → place_class (class_place (class_of t s v)) ≡ class_of t s v
class_again t s (value.Small n) = refl
class_again t s (value.Character c) = refl
class_again t s value.Nil = refl
class_again t s value.True = refl
class_again t s value.False = refl
class_again t s (value.Symbol n) = refl
class_again t s (value.Number n) = of (number_kind_of s (value.Number n))
  where
    of : (o : Option NumberKind) → place_class (class_place (option_map_or (λ kind. kernel_class t (number_class kind)) o value.Nil))
        ≡ option_map_or (λ kind. kernel_class t (number_class kind)) o value.Nil
    of None = refl
    of (Some kind) = refl
class_again t s (value.ClassRef c Instance) = refl
class_again t s (value.ClassRef c Class) = refl
class_again t s (value.Object n) = of (body_at s (value.Object n))
  where
    of : (o : Option BodyTree) → place_class (class_place (option_map_or (body_class t) o value.Nil)) ≡ option_map_or (body_class t) o value.Nil
    of None = refl
    of (Some b) = body_again t b
class_again t s value.Context = refl
class_again t s value.Transcript = refl
class_again t s value.Smalltalk = refl
