-- The parts of an image are read again as they were spelled.
use Rattle.std.proofs.Common.{◌≡◌, ℕ, zero, suc, ◌^◌, ◌<◌, ◌≤◌, ◌==◌, ◌&&◌, ℤ, pos, negsuc, Bool, true, false, cond, ltb, List, [], ◌∷◌, ◌++◌, length, Option, Ok, refl, sym, ap, ap₂, subst, ◌∙◌, append_assoc, arith}
use Rattle.std.specs.Prelude.{nat_le}
use Rattle.std.specs.Int.{w32, to_be_bytes, cast_signed, cast_unsigned}
use Rattle.std.proofs.lemmas.Bool.{eqb-true, ltb-true}
use Rattle.std.proofs.lemmas.Int.{of_z-to_z}
use Rattle.std.proofs.lemmas.Bool.Decides.{nat_tests}
use Rattle.std.proofs.lemmas.List.{length-append}
use Rattle.s80_base.specs.declared.literal.NumberKind.{NumberKind}
use Rattle.s80_base.specs.declared.literal.NumberKind.TheVariants.{LargePositive, LargeNegative, Float}
use Rattle.s80_base.specs.declared.names.Side.{Side}
use Rattle.s80_base.specs.declared.names.Side.TheVariants.{Instance, Class}
use Rattle.s80_base.specs.Literal.{LiteralTree, LiteralTrees, small, character, str, symbol, array, true_literal, false_literal, nil_literal, number, no_literals, literals, literals_append, kind_number as number_kind_number}
use Rattle.s80_base.specs.SameLiteral.{same_number}
use Rattle.s80_code.specs.Entries.{EntryTree, constant, class_variable, outer, owner, extension}
use Rattle.s80_kernel.specs.Rows.{KernelRow}
use Rattle.s80_form.specs.declared.definition.Kind.{Kind}
use Rattle.s80_form.specs.declared.definition.Kind.TheVariants.{Plain, Pointers, Bytes, Words}
use Rattle.s80_history.specs.declared.noted.NotedKind.{NotedKind}
use Rattle.s80_history.specs.declared.noted.NotedKind.TheVariants.{Define, ClassVars, Comment, Method, RemoveMethod, Classify, RemoveClass}
use Rattle.s80_history.specs.Lists.{MethodName}
use Rattle.s80_image.specs.Format.{◌>>=◌, Format, Reading, byte, word32, word64, text, number_where, text_where, mapped}
use Rattle.s80_image.specs.Parts.{Name, at_most, flag, flag_number, source, source_number, side, side_number, side_of, class_text, name_text, place_above, places, last_of}
use Rattle.s80_image.specs.Literals.{signed, number_kind_of, kept_number, count_of, literal_bytes, literals_bytes, is_lawful_literal, are_lawful_literals, elements, literal_behind, literal_at, is_entry_tag, class_variable_entry, owner_entry, entry_bytes, is_lawful_entry, entry_behind, entry}
use Rattle.s80_image.specs.Methods.{frame, code, code_fields, method_heading, method, method_behind, methods}
use Rattle.s80_image.specs.Classes.{kernel_row, kind, kind_number, kind_of, names, variables, heading, class, class_behind, classes}
use Rattle.s80_image.specs.History.{noted_kind, noted_kind_number, noted_kind_of, noted_side, noted, noted_behind, change_set, selector_above, versions, versions_behind, all_versions}
use Rattle.s80_image.specs.Image.{exactly, signature, contents, image_format}
use Rattle.s80_image.proofs.Laws.{IsBytes, IsFormat, Takes, bind_ok, ok_is, both, of_both, rest_fits, byte_law, word32_law, word64_law, text_law, such_that_law, mapped_law, pair_law, list_law}

-- ---- small parts

pub number_where_law : (test : ℕ → Bool) (f : Format ℕ) → IsFormat f → IsFormat (number_where test f)
number_where_law test f law = such_that_law (λ n. n) test f law

pub text_where_law : (test : List ℕ → Bool) → IsFormat (text_where test)
text_where_law test = such_that_law length test text text_law

pub at_most_law : (most : ℕ) → IsFormat (at_most most)
at_most_law most = number_where_law (λ n. nat_le n most) byte byte_law

-- what a lawful small number is
few : (n most : ℕ) → (ltb n 256 && nat_le n most) ≡ true → nat_le n most ≡ true
few n most e = (of_both (ltb n 256) (nat_le n most) e).1

flag_back : (n : ℕ) → nat_le n 1 ≡ true → flag_number (n == 1) ≡ n
flag_back zero e = refl
flag_back (suc zero) e = refl
flag_back (suc (suc n)) e = absurd (grind (arith, nat_tests))

pub flag_law : IsFormat flag
flag_law = mapped_law (λ n. n == 1) flag_number (at_most 1) (at_most_law 1) (λ n e. flag_back n (few n 1 e)) forth
  where
    forth : (b : Bool) → (flag_number b == 1) ≡ b
    forth true = refl
    forth false = refl

source_back : (n : ℕ) → nat_le n 1 ≡ true → source_number (n == 0) ≡ n
source_back zero e = refl
source_back (suc zero) e = refl
source_back (suc (suc n)) e = absurd (grind (arith, nat_tests))

pub source_law : IsFormat source
source_law = mapped_law (λ n. n == 0) source_number (at_most 1) (at_most_law 1) (λ n e. source_back n (few n 1 e)) forth
  where
    forth : (b : Bool) → (source_number b == 0) ≡ b
    forth true = refl
    forth false = refl

side_back : (n : ℕ) → nat_le n 1 ≡ true → side_number (side_of n) ≡ n
side_back zero e = refl
side_back (suc zero) e = refl
side_back (suc (suc n)) e = absurd (grind (arith, nat_tests))

side_forth : (s : Side) → side_of (side_number s) ≡ s
side_forth Instance = refl
side_forth Class = refl

pub side_law : IsFormat side
side_law = mapped_law side_of side_number (at_most 1) (at_most_law 1) (λ n e. side_back n (few n 1 e)) side_forth

pub place_law : (last : Option ℕ) → IsFormat (place_above last)
place_law last = number_where_law _ word64 word64_law

pub places_law : IsFormat places
places_law = list_law _ (λ before. place_above (last_of before)) (λ before. place_law (last_of before))

number_kind_back : (n : ℕ) → nat_le n 2 ≡ true → number_kind_number (number_kind_of n) ≡ n
number_kind_back zero e = refl
number_kind_back (suc zero) e = refl
number_kind_back (suc (suc zero)) e = refl
number_kind_back (suc (suc (suc n))) e = absurd (grind (arith, nat_tests))

number_kind_forth : (k : NumberKind) → number_kind_of (number_kind_number k) ≡ k
number_kind_forth LargePositive = refl
number_kind_forth LargeNegative = refl
number_kind_forth Float = refl

pub kept_number_law : IsFormat kept_number
kept_number_law = pair_law (mapped number_kind_of number_kind_number (at_most 2)) (λ _. text)
    (mapped_law number_kind_of number_kind_number (at_most 2) (at_most_law 2) (λ n e. number_kind_back n (few n 2 e)) number_kind_forth) (λ _. text_law)

same_self : (z : ℤ) → same_number z z ≡ true
same_self (pos n) = grind (arith, nat_tests)
same_self (negsuc n) = grind (arith, nat_tests)

same_is : (y z : ℤ) → same_number y z ≡ true → y ≡ z
same_is (pos m) (pos n) e = ap pos (eqb-true m n e)
same_is (negsuc m) (negsuc n) e = ap negsuc (eqb-true m n e)
same_is (pos m) (negsuc n) e = absurd cc
same_is (negsuc m) (pos n) e = absurd cc

pub signed_law : IsFormat signed
signed_law = record {
  takes = λ bytes x fits e.
      let b = bind_ok (word32.read bytes) (λ n. Ok (cast_signed w32 n.0, n.1)) x e in
      let t = word32_law.takes bytes b.0 fits b.1 in
      let back : cast_unsigned w32 (cast_signed w32 b.0.0) ≡ b.0.0 = of_z-to_z w32 b.0.0 (ltb-true _ _ t.is_lawful) in
      subst (λ y. Takes signed bytes y) (ok_is (cast_signed w32 b.0.0, b.0.1) x b.2) (record {
        parts = t.parts ∙ ap (λ n. to_be_bytes w32 n ++ b.0.1) (sym back);
        is_lawful = rw back (both _ _ t.is_lawful (same_self (cast_signed w32 b.0.0)));
      });
  again = λ z rest e.
      let o = of_both (ltb (cast_unsigned w32 z) (2 ^ 32)) (same_number (cast_signed w32 (cast_unsigned w32 z)) z) e in
      rw (word32_law.again (cast_unsigned w32 z) rest o.0) (ap (λ y. Ok (y, rest)) (same_is _ _ o.1));
}

-- ---- literals

abbrev as_format : (List ℕ → Reading LiteralTree) → Format LiteralTree
as_format read = record { spell = literal_bytes; lawful = is_lawful_literal; read = read }

abbrev TakesAll : (List ℕ → Reading LiteralTree) → Type 0
TakesAll read = (bytes : List ℕ) (x : LiteralTree × List ℕ) → IsBytes bytes → read bytes ≡ Ok x → Takes (as_format read) bytes x

none_behind : (a : LiteralTrees) → literals_append a no_literals ≡ a
none_behind no_literals = refl
none_behind (literals w a) = ap (literals w) (none_behind a)

one_behind : (a : LiteralTrees) (v : LiteralTree) (rest : LiteralTrees) → literals_append (literals_append a (literals v no_literals)) rest ≡ literals_append a (literals v rest)
one_behind no_literals v rest = refl
one_behind (literals w a) v rest = ap (literals w) (one_behind a v rest)

record TakesElements (before : LiteralTrees) (n : ℕ) (bytes : List ℕ) (x : LiteralTrees × List ℕ) : Type 0 where
  more : LiteralTrees
  all : x.0 ≡ literals_append before more
  parts : bytes ≡ literals_bytes more ++ x.1
  is_lawful : are_lawful_literals more ≡ true
  count : count_of more ≡ n

elements_take : (element : List ℕ → Reading LiteralTree) → TakesAll element → (before : LiteralTrees) (n : ℕ) (bytes : List ℕ) (x : LiteralTrees × List ℕ) → IsBytes bytes → elements element before n bytes ≡ Ok x → TakesElements before n bytes x
unfolding elements
elements_take element takes before zero bytes x fits e =
    subst (λ y. TakesElements before 0 bytes y) (ok_is (before, bytes) x e) (record { more = no_literals; all = sym (none_behind before); parts = refl; is_lawful = refl; count = refl })
elements_take element takes before (suc n) bytes x fits e =
    let a = bind_ok (element bytes) (λ l. elements element (literals_append before (literals l.0 no_literals)) n l.1) x e in
    let first = takes bytes a.0 fits a.1 in
    let others = elements_take element takes (literals_append before (literals a.0.0 no_literals)) n a.0.1 x (rest_fits (as_format element) bytes a.0 fits first) a.2 in
    record {
      more = literals a.0.0 others.more;
      all = others.all ∙ one_behind before a.0.0 others.more;
      parts = first.parts ∙ ap (λ r. literal_bytes a.0.0 ++ r) others.parts ∙ sym (append_assoc (literal_bytes a.0.0) (literals_bytes others.more) x.1);
      is_lawful = both _ _ first.is_lawful others.is_lawful;
      count = ap suc others.count;
    }

-- what is read behind a tag
abbrev Tagged : ℕ → List ℕ → LiteralTree × List ℕ → Type 0
Tagged tag bytes x = (tag ∷ bytes ≡ literal_bytes x.0 ++ x.1) × (is_lawful_literal x.0 ≡ true)

choose : {A : Type 0} (P : A × List ℕ → Type 0) (b : Bool) (r s : Reading A) (x : A × List ℕ) → cond b r s ≡ Ok x → (b ≡ true → r ≡ Ok x → P x) → (b ≡ false → s ≡ Ok x → P x) → P x
choose P true r s x e p q = p refl e
choose P false r s x e p q = q refl e

module _ {A : Type 0} (f : Format A) (law : IsFormat f) (make : A → LiteralTree) (k tag : ℕ) (spells : (a : A) → literal_bytes (make a) ≡ k ∷ f.spell a) (lawful : (a : A) → is_lawful_literal (make a) ≡ f.lawful a) where
  tagged_part : (bytes : List ℕ) (x : LiteralTree × List ℕ) → IsBytes bytes → tag ≡ k → (f.read bytes >>= λ a. Ok (make a.0, a.1)) ≡ Ok x → Tagged tag bytes x
  tagged_part bytes x fits is e =
      let b = bind_ok (f.read bytes) (λ a. Ok (make a.0, a.1)) x e in
      let t = law.takes bytes b.0 fits b.1 in
      subst (λ y. Tagged tag bytes y) (ok_is (make b.0.0, b.0.1) x b.2)
      (ap (λ n. n ∷ bytes) is ∙ ap (λ r. k ∷ r) t.parts ∙ ap (λ r. r ++ b.0.1) (sym (spells b.0.0)), lawful b.0.0 ∙ t.is_lawful)

constant_part : (l : LiteralTree) (k tag : ℕ) (bytes : List ℕ) (x : LiteralTree × List ℕ) → literal_bytes l ≡ k ∷ [] → is_lawful_literal l ≡ true → tag ≡ k → ◌≡◌ {A = Reading LiteralTree} (Ok (l, bytes)) (Ok x) → Tagged tag bytes x
constant_part l k tag bytes x spells lawful is e =
    subst (λ y. Tagged tag bytes y) (ok_is (l, bytes) x e) (ap (λ n. n ∷ bytes) is ∙ ap (λ r. r ++ bytes) (sym spells), lawful)

array_part : (element : List ℕ → Reading LiteralTree) → TakesAll element → (tag : ℕ) (bytes : List ℕ) (x : LiteralTree × List ℕ) → IsBytes bytes → tag ≡ 4
    → (word32.read bytes >>= (λ n. elements element no_literals n.0 n.1 >>= (λ ls. Ok (array ls.0, ls.1)))) ≡ Ok x → Tagged tag bytes x
array_part element takes tag bytes x fits is e =
    let a = bind_ok (word32.read bytes) (λ n. elements element no_literals n.0 n.1 >>= (λ ls. Ok (array ls.0, ls.1))) x e in
    let b = bind_ok (elements element no_literals a.0.0 a.0.1) (λ ls. Ok (array ls.0, ls.1)) x a.2 in
    let count = word32_law.takes bytes a.0 fits a.1 in
    let m = elements_take element takes no_literals a.0.0 a.0.1 b.0 (rest_fits word32 bytes a.0 fits count) b.1 in
    let n_is : count_of b.0.0 ≡ a.0.0 = ap count_of m.all ∙ m.count in
    subst (λ y. Tagged tag bytes y) (ok_is (array b.0.0, b.0.1) x b.2) (
      ap (λ n. n ∷ bytes) is ∙ ap (λ r. 4 ∷ r) (count.parts ∙ ap₂ (λ (k : ℕ) (r : List ℕ). to_be_bytes w32 k ++ r) (sym n_is) (m.parts ∙ ap (λ ls. literals_bytes ls ++ b.0.1) (sym m.all)) ∙ sym (append_assoc (to_be_bytes w32 (count_of b.0.0)) (literals_bytes b.0.0) b.0.1)),
      both _ _ (ap (λ k. ltb k (2 ^ 32)) n_is ∙ count.is_lawful) (ap are_lawful_literals m.all ∙ m.is_lawful),
    )

last_tag : (tag : ℕ) → nat_le tag 8 ≡ true → (tag == 0) ≡ false → (tag == 1) ≡ false → (tag == 2) ≡ false → (tag == 3) ≡ false → (tag == 4) ≡ false → (tag == 5) ≡ false → (tag == 6) ≡ false → (tag == 7) ≡ false → tag ≡ 8
last_tag tag le a b c d e f g h = grind (arith, nat_tests)

behind_takes : (element : List ℕ → Reading LiteralTree) → TakesAll element → (tag : ℕ) (bytes : List ℕ) (x : LiteralTree × List ℕ) → IsBytes bytes → nat_le tag 8 ≡ true → literal_behind element tag bytes ≡ Ok x → Tagged tag bytes x
unfolding literal_behind
behind_takes element takes tag bytes x fits le e0 =
    let P = Tagged tag bytes in
    choose P (tag == 0) _ _ x e0 (λ t e. tagged_part signed signed_law small 0 tag (λ _. refl) (λ _. refl) bytes x fits (eqb-true tag 0 t) e) (λ n0 e1.
    choose P (tag == 1) _ _ x e1 (λ t e. tagged_part byte byte_law character 1 tag (λ _. refl) (λ _. refl) bytes x fits (eqb-true tag 1 t) e) (λ n1 e2.
    choose P (tag == 2) _ _ x e2 (λ t e. tagged_part text text_law str 2 tag (λ _. refl) (λ _. refl) bytes x fits (eqb-true tag 2 t) e) (λ n2 e3.
    choose P (tag == 3) _ _ x e3 (λ t e. tagged_part text text_law symbol 3 tag (λ _. refl) (λ _. refl) bytes x fits (eqb-true tag 3 t) e) (λ n3 e4.
    choose P (tag == 4) _ _ x e4 (λ t e. array_part element takes tag bytes x fits (eqb-true tag 4 t) e) (λ n4 e5.
    choose P (tag == 5) _ _ x e5 (λ t e. constant_part true_literal 5 tag bytes x refl refl (eqb-true tag 5 t) e) (λ n5 e6.
    choose P (tag == 6) _ _ x e6 (λ t e. constant_part false_literal 6 tag bytes x refl refl (eqb-true tag 6 t) e) (λ n6 e7.
    choose P (tag == 7) _ _ x e7 (λ t e. constant_part nil_literal 7 tag bytes x refl refl (eqb-true tag 7 t) e) (λ n7 e8.
    tagged_part kept_number kept_number_law (λ n. number n.0 n.1) 8 tag (λ _. refl) (λ _. refl) bytes x fits (last_tag tag le n0 n1 n2 n3 n4 n5 n6 n7) e8))))))))

tag_takes : (test : ℕ → Bool) (bytes : List ℕ) (t : ℕ × List ℕ) → IsBytes bytes → (number_where test byte).read bytes ≡ Ok t → (bytes ≡ t.0 ∷ t.1) × (test t.0 ≡ true) × IsBytes t.1
tag_takes test bytes t fits e =
    let k = (number_where_law test byte byte_law).takes bytes t fits e in
    (k.parts, (of_both _ _ k.is_lawful).1, rest_fits (number_where test byte) bytes t fits k)

literal_takes : (most : ℕ) → TakesAll (literal_at most)
unfolding literal_at
literal_takes zero bytes x fits e = absurd cc
literal_takes (suc most) bytes x fits e =
    let a = bind_ok ((at_most 8).read bytes) (λ tag. literal_behind (literal_at most) tag.0 tag.1) x e in
    let t = tag_takes (λ n. nat_le n 8) bytes a.0 fits a.1 in
    let b = behind_takes (literal_at most) (literal_takes most) a.0.0 a.0.1 x t.2 t.1 a.2 in
    record { parts = t.0 ∙ b.0; is_lawful = b.1 }

some_byte : (l : LiteralTree) → 0 < length (literal_bytes l)
some_byte (small z) = omega arith
some_byte (character c) = omega arith
some_byte (str t) = omega arith
some_byte (symbol t) = omega arith
some_byte (array ls) = omega arith
some_byte true_literal = omega arith
some_byte false_literal = omega arith
some_byte nil_literal = omega arith
some_byte (number kind t) = omega arith

mutual
  unfolding literal_at literal_behind elements

  literal_again : (l : LiteralTree) (most : ℕ) (rest : List ℕ) → is_lawful_literal l ≡ true → length (literal_bytes l ++ rest) ≤ most → literal_at most (literal_bytes l ++ rest) ≡ Ok (l, rest)
  literal_again l zero rest e lt = absurd (omega (arith, some_byte l, length-append (literal_bytes l) rest))
  literal_again (small z) (suc most) rest e lt = rw (signed_law.again z rest e) refl
  literal_again (character c) (suc most) rest e lt = refl
  literal_again (str t) (suc most) rest e lt = rw (text_law.again t rest e) refl
  literal_again (symbol t) (suc most) rest e lt = rw (text_law.again t rest e) refl
  literal_again (array ls) (suc most) rest e lt =
      let o = of_both (ltb (count_of ls) (2 ^ 32)) (are_lawful_literals ls) e in
      let regroup = append_assoc (to_be_bytes w32 (count_of ls)) (literals_bytes ls) rest in
      let n : length ((to_be_bytes w32 (count_of ls) ++ literals_bytes ls) ++ rest) ≤ most = omega arith in
      let shorter : length (literals_bytes ls ++ rest) ≤ most = omega (arith, length-append (to_be_bytes w32 (count_of ls)) (literals_bytes ls ++ rest), ap length regroup) in
      ap (literal_behind (literal_at most) 4) regroup ∙ rw (word32_law.again (count_of ls) (literals_bytes ls ++ rest) o.0) (rw (elements_again ls most no_literals rest o.1 shorter) refl)
  literal_again true_literal (suc most) rest e lt = refl
  literal_again false_literal (suc most) rest e lt = refl
  literal_again nil_literal (suc most) rest e lt = refl
  literal_again (number kind t) (suc most) rest e lt = rw (kept_number_law.again (kind, t) rest e) refl

  elements_again : (ls : LiteralTrees) (most : ℕ) (before : LiteralTrees) (rest : List ℕ) → are_lawful_literals ls ≡ true → length (literals_bytes ls ++ rest) ≤ most
      → elements (literal_at most) before (count_of ls) (literals_bytes ls ++ rest) ≡ Ok (literals_append before ls, rest)
  elements_again no_literals most before rest e lt = ap (λ b. Ok (b, rest)) (sym (none_behind before))
  elements_again (literals l ls) most before rest e lt =
      let o = of_both (is_lawful_literal l) (are_lawful_literals ls) e in
      let regroup = append_assoc (literal_bytes l) (literals_bytes ls) rest in
      let first : length (literal_bytes l ++ (literals_bytes ls ++ rest)) ≤ most = omega (arith, ap length regroup) in
      let others : length (literals_bytes ls ++ rest) ≤ most = omega (arith, length-append (literal_bytes l) (literals_bytes ls ++ rest)) in
      ap (elements (literal_at most) before (suc (count_of ls))) regroup
      ∙ rw (literal_again l most (literals_bytes ls ++ rest) o.0 first) (elements_again ls most (literals_append before (literals l no_literals)) rest o.1 others ∙ ap (λ b. Ok (b, rest)) (one_behind before l ls))

pub class_text_law : IsFormat class_text
class_text_law = text_where_law _

pub name_text_law : IsFormat name_text
name_text_law = text_where_law _

-- ---- entries

class_variable_law : IsFormat class_variable_entry
class_variable_law = pair_law class_text _ class_text_law (λ _. name_text_law)

owner_law : IsFormat owner_entry
owner_law = pair_law class_text _ class_text_law (λ _. side_law)

abbrev EntryTagged : ℕ → List ℕ → EntryTree × List ℕ → Type 0
EntryTagged tag bytes x = (tag ∷ bytes ≡ entry_bytes x.0 ++ x.1) × (is_lawful_entry x.0 ≡ true)

module _ {A : Type 0} (f : Format A) (law : IsFormat f) (make : A → EntryTree) (k tag : ℕ) (spells : (a : A) → entry_bytes (make a) ≡ k ∷ f.spell a) (lawful : (a : A) → is_lawful_entry (make a) ≡ f.lawful a) where
  entry_part : (bytes : List ℕ) (x : EntryTree × List ℕ) → IsBytes bytes → tag ≡ k → (f.read bytes >>= λ a. Ok (make a.0, a.1)) ≡ Ok x → EntryTagged tag bytes x
  entry_part bytes x fits is e =
      let b = bind_ok (f.read bytes) (λ a. Ok (make a.0, a.1)) x e in
      let t = law.takes bytes b.0 fits b.1 in
      subst (λ y. EntryTagged tag bytes y) (ok_is (make b.0.0, b.0.1) x b.2)
      (ap (λ n. n ∷ bytes) is ∙ ap (λ r. k ∷ r) t.parts ∙ ap (λ r. r ++ b.0.1) (sym (spells b.0.0)), lawful b.0.0 ∙ t.is_lawful)

literal_tag : (tag : ℕ) → is_entry_tag tag ≡ true → (tag == 16) ≡ false → (tag == 17) ≡ false → (tag == 18) ≡ false → (tag == 19) ≡ false → nat_le tag 8 ≡ true
literal_tag tag is a b c d = grind (arith, nat_tests)

entry_takes : (tag : ℕ) (bytes : List ℕ) (x : EntryTree × List ℕ) → IsBytes bytes → is_entry_tag tag ≡ true → entry_behind tag bytes ≡ Ok x → EntryTagged tag bytes x
unfolding entry_behind
entry_takes tag bytes x fits is e0 =
    let P = EntryTagged tag bytes in
    choose P (tag == 16) _ _ x e0 (λ t e. entry_part class_variable_entry class_variable_law (λ p. class_variable p.0 p.1) 16 tag (λ _. refl) (λ _. refl) bytes x fits (eqb-true tag 16 t) e) (λ n0 e1.
    choose P (tag == 17) _ _ x e1 (λ t e. entry_part name_text name_text_law outer 17 tag (λ _. refl) (λ _. refl) bytes x fits (eqb-true tag 17 t) e) (λ n1 e2.
    choose P (tag == 18) _ _ x e2 (λ t e. entry_part owner_entry owner_law (λ p. owner p.0 p.1) 18 tag (λ _. refl) (λ _. refl) bytes x fits (eqb-true tag 18 t) e) (λ n2 e3.
    choose P (tag == 19) _ _ x e3 (λ t e. entry_part word32 word32_law extension 19 tag (λ _. refl) (λ _. refl) bytes x fits (eqb-true tag 19 t) e) (λ n3 e4.
    let b = bind_ok (literal_behind (literal_at (length bytes)) tag bytes) (λ l. Ok (constant l.0, l.1)) x e4 in
    let t = behind_takes (literal_at (length bytes)) (literal_takes (length bytes)) tag bytes b.0 fits (literal_tag tag is n0 n1 n2 n3) b.1 in
    subst P (ok_is (constant b.0.0, b.0.1) x b.2) t))))

constant_read : (l : LiteralTree) (rest : List ℕ) → entry.read (literal_bytes l ++ rest) ≡ (literal_at (length (literal_bytes l ++ rest)) (literal_bytes l ++ rest) >>= λ k. Ok (constant k.0, k.1))
unfolding entry entry_behind literal_at
constant_read (small z) rest = refl
constant_read (character c) rest = refl
constant_read (str t) rest = refl
constant_read (symbol t) rest = refl
constant_read (array ls) rest = refl
constant_read true_literal rest = refl
constant_read false_literal rest = refl
constant_read nil_literal rest = refl
constant_read (number kind t) rest = refl

entry_again : (x : EntryTree) (rest : List ℕ) → is_lawful_entry x ≡ true → entry.read (entry_bytes x ++ rest) ≡ Ok (x, rest)
unfolding entry entry_behind
entry_again (constant l) rest e = constant_read l rest ∙ rw (literal_again l (length (literal_bytes l ++ rest)) rest e (omega arith)) refl
entry_again (class_variable class_name name) rest e = rw (class_variable_law.again (class_name, name) rest e) refl
entry_again (outer name) rest e = rw (name_text_law.again name rest e) refl
entry_again (owner class_name s) rest e = rw (owner_law.again (class_name, s) rest e) refl
entry_again (extension n) rest e = rw (word32_law.again n rest e) refl

pub entry_law : IsFormat entry
unfolding entry
entry_law = record {
  takes = λ bytes x fits e.
      let a = bind_ok ((number_where is_entry_tag byte).read bytes) (λ tag. entry_behind tag.0 tag.1) x e in
      let t = tag_takes is_entry_tag bytes a.0 fits a.1 in
      let b = entry_takes a.0.0 a.0.1 x t.2 t.1 a.2 in
      record { parts = t.0 ∙ b.0; is_lawful = b.1 };
  again = entry_again;
}

-- ---- codes, methods, classes, the change set and versions
pub frame_law : IsFormat frame
unfolding frame
frame_law = list_law (λ _. true) (λ _. entry) (λ _. entry_law)

pub code_law : IsFormat code
unfolding code
code_law = mapped_law _ _ code_fields
    (pair_law byte _ byte_law (λ _. pair_law byte _ byte_law (λ _. pair_law byte _ byte_law (λ _. pair_law byte _ byte_law (λ _. pair_law flag _ flag_law (λ _. pair_law frame _ frame_law (λ _. text_law)))))))
    (λ _ _. refl) (λ _. refl)

method_heading_law : (last : Option Name) → IsFormat (method_heading last)
unfolding method_heading
method_heading_law last = mapped_law _ _ _ (pair_law (text_where _) _ (text_where_law _) (λ _. pair_law text _ text_law (λ _. pair_law source _ source_law (λ _. pair_law word64 _ word64_law (λ _. word64_law))))) (λ _ _. refl) (λ _. refl)

pub method_law : (last : Option Name) → IsFormat (method last)
unfolding method
method_law last = mapped_law _ _ _ (pair_law (method_heading last) (λ _. code) (method_heading_law last) (λ _. code_law)) (λ _ _. refl) (λ _. refl)

pub methods_law : IsFormat methods
unfolding methods
methods_law = list_law _ method_behind (λ before. method_law _)

kind_back : (n : ℕ) → nat_le n 3 ≡ true → kind_number (kind_of n) ≡ n
kind_back zero e = refl
kind_back (suc zero) e = refl
kind_back (suc (suc zero)) e = refl
kind_back (suc (suc (suc zero))) e = refl
kind_back (suc (suc (suc (suc n)))) e = absurd (grind (arith, nat_tests))

kind_forth : (k : Kind) → kind_of (kind_number k) ≡ k
kind_forth Plain = refl
kind_forth Pointers = refl
kind_forth Bytes = refl
kind_forth Words = refl

first_of : (a b c : Bool) → (a && (b && c)) ≡ true → b ≡ true
first_of true true c e = refl
first_of true false c e = absurd cc
first_of false b c e = absurd cc

kind_law : (row : Option KernelRow) → IsFormat (kind row)
unfolding kind
kind_law row = mapped_law kind_of kind_number _ (number_where_law _ byte byte_law) (λ n e. kind_back n (first_of (ltb n 256) (nat_le n 3) _ e)) kind_forth

names_law : (most : ℕ) (given : Option (List Name)) → IsFormat (names most given)
unfolding names
names_law most given = list_law _ _ (λ before. text_where_law _)

variables_law : (row : Option KernelRow) → IsFormat (variables row)
unfolding variables
variables_law row = mapped_law _ _ _ (pair_law _ _ (names_law 64 _) (λ _. pair_law _ _ (names_law 256 _) (λ _. pair_law _ _ (names_law 256 _) (λ _. names_law 64 _)))) (λ _ _. refl) (λ _. refl)

pub class_heading_law : (last : Option Name) → IsFormat (heading last)
unfolding heading
class_heading_law last = mapped_law _ _ _
    (pair_law (text_where _) _ (text_where_law _) (λ name. pair_law (text_where _) _ (text_where_law _) (λ _. pair_law (kind (kernel_row name)) _ (kind_law (kernel_row name)) (λ _. pair_law (variables (kernel_row name)) _ (variables_law (kernel_row name)) (λ _. pair_law (text_where _) _ (text_where_law _) (λ _. text_law))))))
    (λ _ _. refl) (λ _. refl)

pub class_law : (last : Option Name) → IsFormat (class last)
unfolding class
class_law last = mapped_law _ _ _ (pair_law (heading last) _ (class_heading_law last) (λ _. pair_law methods _ methods_law (λ _. methods_law))) (λ _ _. refl) (λ _. refl)

pub classes_law : IsFormat classes
unfolding classes
classes_law = list_law _ class_behind (λ before. class_law _)

noted_kind_back : (n : ℕ) → nat_le n 6 ≡ true → noted_kind_number (noted_kind_of n) ≡ n
noted_kind_back zero e = refl
noted_kind_back (suc zero) e = refl
noted_kind_back (suc (suc zero)) e = refl
noted_kind_back (suc (suc (suc zero))) e = refl
noted_kind_back (suc (suc (suc (suc zero)))) e = refl
noted_kind_back (suc (suc (suc (suc (suc zero))))) e = refl
noted_kind_back (suc (suc (suc (suc (suc (suc zero)))))) e = refl
noted_kind_back (suc (suc (suc (suc (suc (suc (suc n))))))) e = absurd (grind (arith, nat_tests))

noted_kind_forth : (k : NotedKind) → noted_kind_of (noted_kind_number k) ≡ k
noted_kind_forth Define = refl
noted_kind_forth ClassVars = refl
noted_kind_forth Comment = refl
noted_kind_forth Method = refl
noted_kind_forth RemoveMethod = refl
noted_kind_forth Classify = refl
noted_kind_forth RemoveClass = refl

noted_kind_law : IsFormat noted_kind
unfolding noted_kind
noted_kind_law = mapped_law noted_kind_of noted_kind_number (at_most 6) (at_most_law 6) (λ n e. noted_kind_back n (few n 6 e)) noted_kind_forth

noted_side_law : (k : NotedKind) → IsFormat (noted_side k)
unfolding noted_side
noted_side_law k = mapped_law side_of side_number _ (number_where_law _ byte byte_law) (λ n e. side_back n (first_of (ltb n 256) (nat_le n 1) _ e)) side_forth

noted_law : (last : Option ℕ) → IsFormat (noted last)
unfolding noted
noted_law last = mapped_law _ _ _
    (pair_law (place_above last) _ (place_law last) (λ _. pair_law noted_kind _ noted_kind_law (λ k. pair_law class_text _ class_text_law (λ _. pair_law (noted_side k) _ (noted_side_law k) (λ _. text_where_law _)))))
    (λ _ _. refl) (λ _. refl)

change_set_law : IsFormat change_set
unfolding change_set
change_set_law = list_law (λ _. true) noted_behind (λ before. noted_law _)

versions_law : (last : Option MethodName) → IsFormat (versions last)
unfolding versions
versions_law last = mapped_law _ _ _ (pair_law class_text _ class_text_law (λ c. pair_law side _ side_law (λ s. pair_law (selector_above last c s) _ (text_where_law _) (λ _. places_law)))) (λ _ _. refl) (λ _. refl)

all_versions_law : IsFormat all_versions
unfolding all_versions
all_versions_law = list_law (λ _. true) versions_behind (λ before. versions_law _)

contents_law : IsFormat contents
unfolding contents
contents_law = mapped_law _ _ _ (pair_law word64 _ word64_law (λ _. pair_law classes _ classes_law (λ _. pair_law change_set _ change_set_law (λ _. all_versions_law)))) (λ _ _. refl) (λ _. refl)

exactly_takes : (given : ℕ) (bytes rest : List ℕ) → IsBytes bytes → exactly given bytes ≡ Ok rest → (bytes ≡ given ∷ rest) × IsBytes rest
exactly_takes given bytes rest fits e =
    let a = bind_ok ((number_where (λ n. n == given) byte).read bytes) (λ n. Ok n.1) rest e in
    let t = tag_takes (λ n. n == given) bytes a.0 fits a.1 in
    let is = eqb-true a.0.0 given t.1 in
    (t.0 ∙ ap₂ (λ (n : ℕ) (r : List ℕ). n ∷ r) is (ok_is a.0.1 rest a.2), subst IsBytes (ok_is a.0.1 rest a.2) t.2)

signature_takes : (bytes rest : List ℕ) → IsBytes bytes → signature bytes ≡ Ok rest → (bytes ≡ 83 ∷ 56 ∷ 48 ∷ 73 ∷ 1 ∷ rest) × IsBytes rest
signature_takes bytes rest fits e =
    let d = bind_ok (exactly 83 bytes >>= exactly 56 >>= exactly 48 >>= exactly 73) (exactly 1) rest e in
    let c = bind_ok (exactly 83 bytes >>= exactly 56 >>= exactly 48) (exactly 73) d.0 d.1 in
    let b = bind_ok (exactly 83 bytes >>= exactly 56) (exactly 48) c.0 c.1 in
    let a = bind_ok (exactly 83 bytes) (exactly 56) b.0 b.1 in
    let p = exactly_takes 83 bytes a.0 fits a.1 in
    let q = exactly_takes 56 a.0 b.0 p.1 a.2 in
    let r = exactly_takes 48 b.0 c.0 q.1 b.2 in
    let s = exactly_takes 73 c.0 d.0 r.1 c.2 in
    let t = exactly_takes 1 d.0 rest s.1 d.2 in
    (p.0 ∙ ap (λ l. 83 ∷ l) (q.0 ∙ ap (λ l. 56 ∷ l) (r.0 ∙ ap (λ l. 48 ∷ l) (s.0 ∙ ap (λ l. 73 ∷ l) t.0))), t.1)

pub image_law : IsFormat image_format
unfolding image_format
image_law = record {
  takes = λ bytes x fits e.
      let a = bind_ok (signature bytes) contents.read x e in
      let s = signature_takes bytes a.0 fits a.1 in
      let t = contents_law.takes a.0 x s.1 a.2 in
      record { parts = s.0 ∙ ap (λ r. 83 ∷ 56 ∷ 48 ∷ 73 ∷ 1 ∷ r) t.parts; is_lawful = t.is_lawful };
  again = λ i rest e. contents_law.again i rest e;
}
