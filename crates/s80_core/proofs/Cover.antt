-- The entries of a core tree are those of its parsed tree, each as what it means.
use Rattle.std.proofs.Common.{◌≡◌, ℕ, ◌+◌, List, [], ◌∷◌, ◌++◌, Bool, true, false, cond, ◌||◌, ◌==◌, Option, Some, None, find, is_some, nat_le, bytes_eq, codes, refl, ap, sym, ◌∙◌, pos, negsuc, true≢false, if◌then◌else◌, arith}
use Rattle.std.specs.List.{AllByRecursion, list_any}
use Rattle.std.specs.Option.{option_map, option_map_or}
use Rattle.std.proofs.lemmas.Bool.Decides.{nat_tests}
use Rattle.std.proofs.lemmas.List.Folds.{list_any-append}
use Rattle.s80_base.specs.Literal.{LiteralTree, small, character, str, symbol, array, true_literal, false_literal, nil_literal, number}
use Rattle.s80_tree.specs.declared.name.NameAt.{NameAt}
use Rattle.s80_tree.specs.Tree.{MethodParts}
use Rattle.s80_syntax.specs.Word.{is_reserved}
use Rattle.s80_code.specs.Entries as frame
use Rattle.s80_code.specs.Entries.{EntryTree}
use Rattle.s80_code.specs.Special.{special_number}
use Rattle.s80_scope.specs.declared.shape.Shape.{Shape}
use Rattle.s80_scope.specs.Shape as meant
use Rattle.s80_scope.specs.Shape.{WhereTree}
use Rattle.s80_scope.specs.Names.{means, word_means, last_place, declarations_of, is_at, reserved_meaning, reserved_meanings, declares as shows}
use Rattle.s80_scope.specs.FitLiterals as parsed
use Rattle.s80_scope.specs.FitLiterals.{Entry, constant, variable, declares, is_special, name_entries, target_entries, expr_entries, primary_entries, messages_entries, exprs_entries, body_entries}
use Rattle.s80_core.specs.Core.{CoreTree}
use Rattle.s80_core.specs.Elaborate.{leaf_meant, target_meant, assigned}
use Rattle.s80_core.specs.Measures.{variable_entries, constant_entries, leaf_entries, selector_entries, entries}

-- ---- lists

module _ {X : Type 0} (P : X → Type 0) where
  pub both : (xs ys : List X) → AllByRecursion P xs → AllByRecursion P ys → AllByRecursion P (xs ++ ys)
  both [] ys h g = g
  both (x ∷ xs) ys h g = (h.0, both xs ys h.1 g)

  pub left : (xs ys : List X) → AllByRecursion P (xs ++ ys) → AllByRecursion P xs
  left [] ys h = tt
  left (x ∷ xs) ys h = (h.0, left xs ys h.1)

  pub right : (xs ys : List X) → AllByRecursion P (xs ++ ys) → AllByRecursion P ys
  right [] ys h = h
  right (x ∷ xs) ys h = right xs ys h.1

pub or_left : (a b : Bool) → a ≡ true → (a || b) ≡ true
or_left a b e = ap (λ c. c || b) e

pub or_right : (a b : Bool) → b ≡ true → (a || b) ≡ true
or_right true b e = refl
or_right false b e = e

pub any_left : {X : Type 0} (test : X → Bool) (xs ys : List X) → list_any test xs ≡ true → list_any test (xs ++ ys) ≡ true
any_left test xs ys e = list_any-append test xs ys ∙ or_left (list_any test xs) (list_any test ys) e

pub any_right : {X : Type 0} (test : X → Bool) (xs ys : List X) → list_any test ys ≡ true → list_any test (xs ++ ys) ≡ true
any_right test xs ys e = list_any-append test xs ys ∙ or_right (list_any test xs) (list_any test ys) e

pub itself : (at : ℕ) → (at == at) ≡ true
itself at = grind (arith, nat_tests)

-- ---- what an entry of a parsed tree means

abbrev pub image : Shape → Entry → List EntryTree
image shape (constant v) = frame.constant v ∷ []
image shape (variable word) = leaf_entries (leaf_meant (word_means word None shape))

-- what every entry that is meant passes, so does what it means
module _ (shape : Shape) (In : EntryTree → Type 0) where
  abbrev pub Held : Entry → Type 0
  Held e = AllByRecursion In (image shape e)

  abbrev pub AllHeld : List Entry → Type 0
  AllHeld = AllByRecursion Held

  abbrev pub AllIn : List EntryTree → Type 0
  AllIn = AllByRecursion In

  -- ---- constants and selectors

  counted_held : (b : Bool) (v : LiteralTree) (n : ℕ) → AllHeld (if b then [] else constant v ∷ []) → AllIn (option_map_or (λ n. []) (if b then Some n else None) (frame.constant v ∷ []))
  counted_held true v n h = tt
  counted_held false v n h = (h.0.0, tt)

  pub constant_held : (v : LiteralTree) → AllHeld (parsed.constant_entries v) → AllIn (constant_entries v)
  constant_held (small (pos n)) h = counted_held (nat_le n 2) (small (pos n)) (5 + n) h
  constant_held (small (negsuc n)) h = counted_held (nat_le n 0) (small (negsuc n)) 4 h
  constant_held true_literal h = tt
  constant_held false_literal h = tt
  constant_held nil_literal h = tt
  constant_held (character c) h = (h.0.0, tt)
  constant_held (str bytes) h = (h.0.0, tt)
  constant_held (symbol bytes) h = (h.0.0, tt)
  constant_held (array vs) h = (h.0.0, tt)
  constant_held (number kind bytes) h = (h.0.0, tt)

  special_is : (word : List ℕ) → is_special word ≡ is_some (special_number word)
  unfolding is_special
  special_is word = refl

  pub selector_held : (to_super : Bool) (word : List ℕ) → AllHeld (parsed.selector_entries to_super word) → AllIn (selector_entries to_super word)
  selector_held true word h = (h.0.0, tt)
  selector_held false word h = by_number (is_special word) (special_number word) (special_is word) h
    where
      by_number : (b : Bool) (o : Option ℕ) → b ≡ is_some o → AllHeld (if b then [] else constant (symbol word) ∷ []) → AllIn (option_map_or (λ n. []) o (frame.constant (symbol word) ∷ []))
      by_number b (Some k) e g = tt
      by_number true None e g = absurd (true≢false e)
      by_number false None e g = (g.0.0, tt)

  -- ---- names

  -- a reserved word has none
  reserved_held : (word : List ℕ) (rows : List (List ℕ × WhereTree)) → AllByRecursion (λ r. AllIn (leaf_entries (leaf_meant r.1))) rows → (w : WhereTree)
      → (list_any (λ r. bytes_eq word r.0) rows ≡ false → AllIn (leaf_entries (leaf_meant w)))
      → AllIn (leaf_entries (leaf_meant (option_map_or (λ meaning. meaning) (option_map (λ r. r.1) (find (λ r. bytes_eq word r.0) rows)) w)))
  reserved_held word [] h w g = g refl
  reserved_held word (r ∷ rows) h w g = by_test (bytes_eq word r.0) (reserved_held word rows h.1 w) g
    where
      by_test : (b : Bool) → ((list_any (λ r. bytes_eq word r.0) rows ≡ false → AllIn (leaf_entries (leaf_meant w))) → AllIn (leaf_entries (leaf_meant (option_map_or (λ meaning. meaning) (option_map (λ r. r.1) (find (λ r. bytes_eq word r.0) rows)) w))))
          → ((b || list_any (λ r. bytes_eq word r.0) rows) ≡ false → AllIn (leaf_entries (leaf_meant w)))
          → AllIn (leaf_entries (leaf_meant (option_map_or (λ meaning. meaning) (option_map (λ r. r.1) (cond b (Some r) (find (λ r. bytes_eq word r.0) rows))) w)))
      by_test true more f = h.0
      by_test false more f = more f

  meaning_held : (word : List ℕ) (w : WhereTree) → (is_reserved word ≡ false → AllIn (leaf_entries (leaf_meant w)))
      → AllIn (leaf_entries (leaf_meant (option_map_or (λ meaning. meaning) (reserved_meaning word) w)))
  unfolding is_reserved
  meaning_held word w g =
      reserved_held word reserved_meanings (tt, (tt, (tt, (tt, (tt, (tt, tt)))))) w
      (λ e. g (turned (bytes_eq word (codes "self")) (bytes_eq word (codes "super")) (bytes_eq word (codes "thisContext")) (bytes_eq word (codes "true")) (bytes_eq word (codes "false")) (bytes_eq word (codes "nil")) e))
    where
      turned : (a b c d e f : Bool) → (a || (b || (c || (d || (e || (f || false)))))) ≡ false → (a || (b || (d || (e || (f || (c || false)))))) ≡ false
      turned true b c d e f h = h
      turned false true c d e f h = h
      turned false false true d e f h = absurd (true≢false h)
      turned false false false d e f h = h

  pub word_held : (declared : List ℕ → Bool) (word : List ℕ) (number : Option ℕ) → (declared word ≡ true → is_some number ≡ true) → AllHeld (name_entries declared word)
      → AllIn (leaf_entries (leaf_meant (word_means word number shape)))
  word_held declared word (Some k) known h = meaning_held word (meant.temp k) (λ e. tt)
  word_held declared word None known h = by_tests (declared word) (is_reserved word) refl refl known h
    where
      by_tests : (b c : Bool) → declared word ≡ b → is_reserved word ≡ c → (b ≡ true → false ≡ true) → AllHeld (if b || c then [] else variable word ∷ []) → AllIn (leaf_entries (leaf_meant (word_means word None shape)))
      by_tests true c e f k g = absurd (true≢false (sym (k refl)))
      by_tests false false e f k g = g.0
      by_tests false true e f k g = meaning_held word _ (λ no_word. absurd (true≢false (sym f ∙ no_word)))

  target_held : (w : WhereTree) → AllIn (leaf_entries (leaf_meant w)) → AllIn (variable_entries (target_meant w))
  target_held (meant.temp k) h = tt
  target_held (meant.inst k) h = tt
  target_held (meant.class_var owner word) h = h
  target_held (meant.outer word) h = h
  target_held meant.self_ref h = tt
  target_held meant.super_ref h = tt
  target_held meant.context h = tt
  target_held (meant.constant v) h = tt

  -- ---- parts

  pub targets_held : (m : MethodParts) (declared : List ℕ → Bool) (ns : List NameAt) (c : CoreTree)
      → ((n : NameAt) → list_any (is_at n.at) ns ≡ true → declared n.name ≡ true → is_some (last_place (shows n) (declarations_of m)) ≡ true)
      → AllHeld (target_entries declared ns) → AllIn (entries c) → AllIn (entries (assigned (means m shape) ns c))
  targets_held m declared [] c known h g = g
  targets_held m declared (n ∷ ns) c known h g =
      both In (entries (assigned (means m shape) ns c)) (variable_entries (target_meant (means m shape n)))
      (targets_held m declared ns c (λ p e. known p (or_right (is_at p.at n) (list_any (is_at p.at) ns) e)) (left Held (target_entries declared ns) (name_entries declared n.name) h) g)
      (target_held (means m shape n) (word_held declared n.name (last_place (shows n) (declarations_of m)) (known n (or_left (is_at n.at n) (list_any (is_at n.at) ns) (itself n.at))) (right Held (target_entries declared ns) (name_entries declared n.name) h)))
