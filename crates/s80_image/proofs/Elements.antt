-- Literals that are read one in another.
use Rattle.std.proofs.Common.{◌≡◌, ℕ, zero, suc, ◌+◌, ◌-◌, ◌<◌, ◌≤◌, Bool, ltb, List, [], ◌∷◌, length, take, drop, Result, Ok, Err, refl, sym, ap, subst, ◌∙◌, arith}
use Rattle.s80_base.specs.Literal.{LiteralTree, LiteralTrees, array, no_literals, literals, literals_append}
use Rattle.s80_image.specs.declared.fault.ReadError.{ReadError}
use Rattle.s80_image.specs.declared.fault.ReadError.TheVariants as errors
use Rattle.std.specs.Int.{w32, from_be_bytes}
use Rattle.std.proofs.lemmas.Bool.{ltb-false}
use Rattle.std.proofs.lemmas.List.{length-drop}
use Rattle.s80_image.specs.declared.fault.Fault.TheVariants.{Short, Field}
use Rattle.s80_image.specs.Format.{◌>>=◌, Fails, Gives, Reading, byte, number_where, word32}
use Rattle.s80_image.proofs.Laws.{guard_ok, passed_ok}
use Rattle.s80_image.specs.Parts.{at_most}
use Rattle.s80_image.specs.Literals.{elements, literal_at, literal_behind}

pub byte_shorter : (test : ℕ → Bool) (bytes : List ℕ) (x : ℕ × List ℕ) → (number_where test byte).read bytes ≡ Ok x → length x.1 < length bytes
byte_shorter test [] x e = absurd cc
byte_shorter test (b ∷ bytes) x e =
    let g = passed_ok (test b) (Field (suc (length bytes)) b) (b, bytes) x e in
    subst (λ y. length y.1 < suc (length bytes)) g.1 (omega arith)

pub word_shorter : (bytes : List ℕ) (x : ℕ × List ℕ) → word32.read bytes ≡ Ok x → length x.1 < length bytes
word_shorter bytes x e =
    let g = guard_ok (ltb (length bytes) 4) Short (from_be_bytes w32 (take 4 bytes), drop 4 bytes) x e in
    let long : 4 ≤ length bytes = ltb-false _ _ g.0 in
    subst (λ y. length y.1 < length bytes) g.1 (omega (arith, length-drop 4 bytes))

pub tag_fails : (e : ReadError) (bytes : List ℕ) → Fails e ((at_most 8).read bytes) → (most : ℕ) → length bytes < most → Fails e (literal_at most bytes)
unfolding literal_at
tag_fails errors.Memory bytes f most lt = tt
tag_fails (errors.Fault d) bytes f zero lt = absurd (omega arith)
tag_fails (errors.Fault d) bytes f (suc most) lt = rw f refl

pub tagged : {X : Type 0} (view : X → LiteralTree × List ℕ) (result : Result X ReadError) (bytes : List ℕ) (tag : ℕ) (rest : List ℕ) → (at_most 8).read bytes ≡ Ok (tag, rest) → length rest < length bytes
    → ((most : ℕ) → length rest ≤ most → Gives view result (literal_behind (literal_at most) tag rest)) → (most : ℕ) → length bytes < most → Gives view result (literal_at most bytes)
unfolding literal_at
tagged view result bytes tag rest e shorter given zero lt = absurd (omega arith)
tagged view result bytes tag rest e shorter given (suc most) lt =
    let g = given most (omega arith) in
    subst (λ r. Gives view result (r >>= λ t. literal_behind (literal_at most) t.0 t.1)) (sym e) g

pub count_fails : (e : ReadError) (tag : ℕ) (bytes : List ℕ) → tag ≡ 4 → Fails e (word32.read bytes) → (most : ℕ) → Fails e (literal_behind (literal_at most) tag bytes)
unfolding literal_behind
count_fails errors.Memory tag bytes is f most = tt
count_fails (errors.Fault d) tag bytes is f most = rw is (rw f refl)

pub array_fails : (e : ReadError) (tag : ℕ) (bytes : List ℕ) (n : ℕ) (rest : List ℕ) → tag ≡ 4 → word32.read bytes ≡ Ok (n, rest) → (most : ℕ) → Fails e (elements (literal_at most) no_literals n rest) → Fails e (literal_behind (literal_at most) tag bytes)
unfolding literal_behind
array_fails errors.Memory tag bytes n rest is w most f = tt
array_fails (errors.Fault d) tag bytes n rest is w most f = rw is (rw w (rw f refl))

pub array_read : (tag : ℕ) (bytes : List ℕ) (n : ℕ) (rest : List ℕ) (ls : LiteralTrees) (end : List ℕ) (l : LiteralTree) → tag ≡ 4 → word32.read bytes ≡ Ok (n, rest) → (most : ℕ) → elements (literal_at most) no_literals n rest ≡ Ok (ls, end) → l ≡ array ls
    → literal_behind (literal_at most) tag bytes ≡ Ok (l, end)
unfolding literal_behind
array_read tag bytes n rest ls end l is w most f e = rw is (rw w (rw f (ap (λ k. Ok (k, end)) (sym e))))

pub elements_begin : (most : ℕ) (ls : LiteralTrees) (n : ℕ) (bytes : List ℕ) → ls ≡ no_literals → elements (literal_at most) ls n bytes ≡ elements (literal_at most) no_literals n bytes
elements_begin most ls n bytes e = ap (λ k. elements (literal_at most) k n bytes) e

pub element_fails : (e : ReadError) (count i : ℕ) (bytes : List ℕ) (most : ℕ) (ls : LiteralTrees) (total : Reading LiteralTrees) → i < count → Fails e (literal_at most bytes)
    → elements (literal_at most) ls (count - i) bytes ≡ total → Fails e total
unfolding elements
element_fails errors.Memory count i bytes most ls total lt f so_far = tt
element_fails (errors.Fault d) count i bytes most ls total lt f so_far =
    let k : count - i ≡ suc (count - (i + 1)) = omega arith in
    let one : elements (literal_at most) ls (count - i) bytes ≡ Err d = rw k (rw f refl) in
    sym so_far ∙ one

pub element_read : (count i : ℕ) (bytes : List ℕ) (most : ℕ) (old new : LiteralTrees) (l : LiteralTree) (rest : List ℕ) (total : Reading LiteralTrees) → i < count → literal_at most bytes ≡ Ok (l, rest)
    → new ≡ literals_append old (literals l no_literals) → elements (literal_at most) old (count - i) bytes ≡ total → elements (literal_at most) new (count - (i + 1)) rest ≡ total
unfolding elements
element_read count i bytes most old new l rest total lt f e so_far =
    let k : count - i ≡ suc (count - (i + 1)) = omega arith in
    let one : elements (literal_at most) old (count - i) bytes ≡ elements (literal_at most) new (count - (i + 1)) rest = rw k (rw f (ap (λ b. elements (literal_at most) b (count - (i + 1)) rest) (sym e))) in
    sym one ∙ so_far

pub elements_end : (count i : ℕ) (bytes : List ℕ) (most : ℕ) (ls : LiteralTrees) (total : Reading LiteralTrees) → count ≤ i → elements (literal_at most) ls (count - i) bytes ≡ total → total ≡ Ok (ls, bytes)
unfolding elements
elements_end count i bytes most ls total le so_far =
    let k : count - i ≡ 0 = omega arith in
    let one : elements (literal_at most) ls (count - i) bytes ≡ Ok (ls, bytes) = rw k refl in
    sym so_far ∙ one
