-- Codes that look the same are equal, and code of one source in one class looks the same.
use Rattle.std.proofs.Common.{◌≡◌, ◌≢◌, ◌↔◌, ◌∙◌, ◌+◌, ◌≤◌, ◌==◌, ◌&&◌, ℕ, zero, suc, Bool, IsTrue, true, false, refl, sym, ap, subst, List, [], ◌∷◌, Some, length, drop, slice_get, eq-eqb, true≢false, arith}
use Rattle.std.specs.Str.{bytes_eq}
use Rattle.s80_base.specs.declared.names.Side.{Side}
use Rattle.s80_base.specs.Literal.{LiteralTree}
use Rattle.s80_base.specs.SameLiteral.{same_literal}
use Rattle.s80_base.proofs.Sameness.{literal_is_same, literal_looks_same}
use Rattle.s80_code.specs.Entries.{EntryTree, constant, class_variable, outer, owner, extension}
use Rattle.s80_code.specs.declared.code.Code.{Code}
use Rattle.s80_class.specs.Classes.{Name, Classes}
use Rattle.s80_compile.specs.Compiles.{AreEqual, Compiles}
use Rattle.s80_dict.specs.Table.{same_side}
use Rattle.s80_image.specs.Methods.{CodeView, code_of}
use Rattle.s80_method.specs.Code.{IsMethodCode}
use Rattle.s80_method.specs.Shape.{shape_of}
use Rattle.s80_scope.specs.declared.shape.Shape.{Shape}
use Rattle.s80_syntax.specs.Text.{IsMethodOf}
use Rattle.s80_tree.specs.Tree.{MethodParts}
use Rattle.s80_snapshot.specs.SameCode.{same_code, same_entries, same_entry, same_flag, same_header}
use Rattle.s80_snapshot.proofs.Grouping.{side_itself, side_same}
use Rattle.s80_snapshot.proofs.ImageMaps.{same_bytes}
use Rattle.std.specs.Cmp.Lexicographic.{bytes_decides}

both_of : (a b : Bool) → (a && b) ≡ true → (a ≡ true) × (b ≡ true)
both_of true b e = (refl, e)
both_of false b e = absurd (true≢false (sym e))

both_are : (a b : Bool) → a ≡ true → b ≡ true → (a && b) ≡ true
both_are true b p q = q
both_are false b p q = p

bytes_are : (a b : List ℕ) → bytes_eq a b ≡ true → a ≡ b
bytes_are a b e = (bytes_decides a b).0 e

number_is : (a b : ℕ) → a == b ≡ true → a ≡ b
number_is a b e = grind (arith, eq-eqb a b)

number_itself : (a : ℕ) → a == a ≡ true
number_itself a = grind (arith, eq-eqb a a)

-- ---- entries

entry_is : (a b : EntryTree) → same_entry a b ≡ true → a ≡ b
entry_is (constant a) (constant b) e = ap constant (literal_is_same a b e)
entry_is (class_variable c a) (class_variable d b) e = let h = both_of (bytes_eq c d) (bytes_eq a b) e in λ i. class_variable (bytes_are c d h.0 i) (bytes_are a b h.1 i)
entry_is (outer a) (outer b) e = ap outer (bytes_are a b e)
entry_is (owner c a) (owner d b) e = let h = both_of (bytes_eq c d) (same_side a b) e in λ i. owner (bytes_are c d h.0 i) (side_same a b h.1 i)
entry_is (extension a) (extension b) e = ap extension (number_is a b e)
entry_is _ _ e = cc

entry_itself : (a : EntryTree) → same_entry a a ≡ true
entry_itself (constant a) = literal_looks_same a
entry_itself (class_variable c a) = both_are (bytes_eq c c) (bytes_eq a a) (same_bytes c) (same_bytes a)
entry_itself (outer a) = same_bytes a
entry_itself (owner c a) = both_are (bytes_eq c c) (same_side a a) (same_bytes c) (side_itself a)
entry_itself (extension a) = number_itself a

entries_are : (xs ys : List EntryTree) → same_entries xs ys ≡ true → xs ≡ ys
entries_are [] [] e = refl
entries_are (x ∷ xs) (y ∷ ys) e = let h = both_of (same_entry x y) (same_entries xs ys) e in λ i. entry_is x y h.0 i ∷ entries_are xs ys h.1 i
entries_are [] (y ∷ ys) e = absurd (true≢false (sym e))
entries_are (x ∷ xs) [] e = absurd (true≢false (sym e))

entries_itself : (xs : List EntryTree) → same_entries xs xs ≡ true
entries_itself [] = refl
entries_itself (x ∷ xs) = both_are (same_entry x x) (same_entries xs xs) (entry_itself x) (entries_itself xs)

-- ---- in a loop

pub lengths_differ : (xs ys : List EntryTree) → length xs ≢ length ys → false ≡ same_entries xs ys
lengths_differ [] [] differ = absurd (differ refl)
lengths_differ [] (y ∷ ys) differ = refl
lengths_differ (x ∷ xs) [] differ = refl
lengths_differ (x ∷ xs) (y ∷ ys) differ = go (same_entry x y) (lengths_differ xs ys (λ same. differ (ap suc same)))
  where
    go : (b : Bool) → false ≡ same_entries xs ys → false ≡ (b && same_entries xs ys)
    go true rest = rest
    go false rest = refl

drop_at : (xs : List EntryTree) (i : ℕ) (x : EntryTree) → slice_get xs i ≡ Some x → drop i xs ≡ x ∷ drop (i + 1) xs
drop_at [] i x at = absurd (cc)
drop_at (y ∷ ys) zero x at = let same : y ≡ x = cc in ap (λ z. z ∷ ys) same
drop_at (y ∷ ys) (suc i) x at =
    let on : suc (i + 1) ≡ suc i + 1 = omega arith in
    drop_at ys i x at ∙ ap (λ n. x ∷ drop n (y ∷ ys)) on

abbrev pub AreSoFar : List EntryTree → List EntryTree → ℕ → Type 0
AreSoFar xs ys i = same_entries (drop i xs) (drop i ys) ≡ same_entries xs ys

module _ (xs ys : List EntryTree) (i : ℕ) (x y : EntryTree) (here : slice_get xs i ≡ Some x) (there : slice_get ys i ≡ Some y) (so : AreSoFar xs ys i) where
  opened : (same_entry x y && same_entries (drop (i + 1) xs) (drop (i + 1) ys)) ≡ same_entries xs ys
  opened = (λ j. same_entries (sym (drop_at xs i x here) j) (sym (drop_at ys i y there) j)) ∙ so

  pub one_further : same_entry x y ≡ true → AreSoFar xs ys (i + 1)
  one_further same = ap (λ b. b && same_entries (drop (i + 1) xs) (drop (i + 1) ys)) (sym same) ∙ opened

  pub one_differs : same_entry x y ≡ false → false ≡ same_entries xs ys
  one_differs differs = ap (λ b. b && same_entries (drop (i + 1) xs) (drop (i + 1) ys)) (sym differs) ∙ opened

nothing_left : (xs : List EntryTree) (i : ℕ) → length xs ≤ i → drop i xs ≡ []
nothing_left [] zero past = refl
nothing_left [] (suc i) past = refl
nothing_left (x ∷ xs) zero past = absurd (omega (arith, past))
nothing_left (x ∷ xs) (suc i) past = nothing_left xs i (omega (arith, past))

pub all_same : (xs ys : List EntryTree) (i : ℕ) → length xs ≤ i → length ys ≤ i → AreSoFar xs ys i → true ≡ same_entries xs ys
all_same xs ys i past_one past_other so = (λ j. same_entries (sym (nothing_left xs i past_one) j) (sym (nothing_left ys i past_other) j)) ∙ so

-- ---- codes

flag_is : (a b : Bool) → same_flag a b ≡ true → a ≡ b
flag_is true true e = refl
flag_is false false e = refl
flag_is true false e = absurd (true≢false (sym e))
flag_is false true e = absurd (true≢false (sym e))

flag_itself : (a : Bool) → same_flag a a ≡ true
flag_itself true = refl
flag_itself false = refl

code_is : (a b : CodeView) → same_code a b ≡ true → a ≡ b
code_is a b e =
    let h = both_of (same_header a b) (bytes_eq a.bytes b.bytes && same_entries a.entries b.entries) e in
    let k = both_of (bytes_eq a.bytes b.bytes) (same_entries a.entries b.entries) h.1 in
    let f = both_of (a.flag == b.flag) (a.arguments == b.arguments && (a.primitive == b.primitive && (a.temporaries == b.temporaries && same_flag a.large b.large))) h.0 in
    let g = both_of (a.arguments == b.arguments) (a.primitive == b.primitive && (a.temporaries == b.temporaries && same_flag a.large b.large)) f.1 in
    let p = both_of (a.primitive == b.primitive) (a.temporaries == b.temporaries && same_flag a.large b.large) g.1 in
    let t = both_of (a.temporaries == b.temporaries) (same_flag a.large b.large) p.1 in
    λ i. record {
      flag = number_is a.flag b.flag f.0 i;
      arguments = number_is a.arguments b.arguments g.0 i;
      primitive = number_is a.primitive b.primitive p.0 i;
      temporaries = number_is a.temporaries b.temporaries t.0 i;
      large = flag_is a.large b.large t.1 i;
      entries = entries_are a.entries b.entries k.1 i;
      bytes = bytes_are a.bytes b.bytes k.0 i;
    }

code_itself : (a : CodeView) → same_code a a ≡ true
code_itself a =
    both_are (same_header a a) (bytes_eq a.bytes a.bytes && same_entries a.entries a.entries)
    (both_are (a.flag == a.flag) (a.arguments == a.arguments && (a.primitive == a.primitive && (a.temporaries == a.temporaries && same_flag a.large a.large))) (number_itself a.flag)
    (both_are (a.arguments == a.arguments) (a.primitive == a.primitive && (a.temporaries == a.temporaries && same_flag a.large a.large)) (number_itself a.arguments)
    (both_are (a.primitive == a.primitive) (a.temporaries == a.temporaries && same_flag a.large a.large) (number_itself a.primitive)
    (both_are (a.temporaries == a.temporaries) (same_flag a.large a.large) (number_itself a.temporaries) (flag_itself a.large)))))
    (both_are (bytes_eq a.bytes a.bytes) (same_entries a.entries a.entries) (same_bytes a.bytes) (entries_itself a.entries))

pub code_told : (a b : CodeView) (told : Bool) → told ≡ same_code a b → IsTrue told ↔ (a ≡ b)
code_told a b told is = ((λ so. code_is a b (sym is ∙ so)), λ same. is ∙ ap (same_code a) (sym same) ∙ code_itself a)

-- ---- code of one source

-- what the laws say of trees and codes
abbrev pub HaveOneTree : Type 0
HaveOneTree = (text : List ℕ) (one other : MethodParts) → IsMethodOf text one → IsMethodOf text other → one ≡ other

abbrev pub HaveOneCode : Type 0
HaveOneCode = (m : MethodParts) (shape : Shape) (class : List ℕ) (side : Side) (one other : Code) → Compiles m shape class side one → Compiles m shape class side other → AreEqual one other

pub one_code_of : HaveOneTree → HaveOneCode → (classes : Classes) (class : Name) (side : Side) (selector source : List ℕ) (one other : Code) → IsMethodCode classes class side selector source one
    → IsMethodCode classes class side selector source other → code_of one ≡ code_of other
one_code_of trees codes classes class side selector source one other first second =
    let same : second.tree ≡ first.tree = trees source second.tree first.tree second.tree_is first.tree_is in
    let equal = codes first.tree (shape_of classes class side) class side one other first.compiles (subst (λ t. Compiles t (shape_of classes class side) class side other) same second.compiles) in
    λ i. record {
      flag = equal.flag i;
      arguments = equal.arguments i;
      primitive = equal.primitive i;
      temporaries = equal.temporaries i;
      large = equal.large i;
      entries = equal.literals i;
      bytes = equal.bytes i;
    }
