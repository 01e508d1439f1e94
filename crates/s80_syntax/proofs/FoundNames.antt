-- A set of names has the words of its list.
use Rattle.std.proofs.Common.{◌≡◌, ℕ, ◌+◌, ◌<◌, ◌≤◌, Bool, true, false, not, ◌&&◌, ◌||◌, List, [], ◌∷◌, Vec, Global, length, take, get_or, refl, ap, ◌∙◌, sym}
use Rattle.std.specs.BTreeSet.{BTreeSet, contains_by, insert_key}
use Rattle.std.specs.Cmp.Lexicographic.{slice_cmp, bytes_decides}
use Rattle.std.specs.List.{list_any}
use Rattle.std.specs.Ordering.{nat_cmp, is_eq, match_ordering}
use Rattle.std.specs.Str.{bytes_eq}
use Rattle.std.specs.declared.cmp.Ordering.{Ordering}
use Rattle.std.specs.declared.cmp.Ordering.TheVariants.{Less, Equal, Greater}
use Rattle.std.proofs.lemmas.List.{take_all}
use Rattle.std.proofs.lemmas.List.Folds.{list_any_more}
use Rattle.std.proofs.lemmas.Map.Text.{is_eq-slice_cmp}
use Rattle.s80_tree.specs.declared.name.NameAt.{NameAt}
use Rattle.s80_syntax.specs.Limits.{home_assigns, block_assigns}
use Rattle.s80_syntax.specs.Word.{Names, has_name, is_reserved}
use Rattle.s80_syntax.specs.Scope.{assigns_at_home, assigns_in_block}

or_same : (a b r : Bool) → a ≡ b → (b || r) ≡ (a || (b || r))
or_same true true r e = refl
or_same true false r e = cc
or_same false b r e = refl

or_swap : (a b r : Bool) → (a || (b || r)) ≡ (b || (a || r))
or_swap true true r = refl
or_swap true false r = refl
or_swap false b r = refl

or_turn : (a b : Bool) → (a || b) ≡ (b || a)
or_turn true true = refl
or_turn true false = refl
or_turn false true = refl
or_turn false false = refl

abbrev Word : Type 0
Word = Vec ℕ Global

abbrev in_order : Word → Word → Ordering
in_order x y = slice_cmp nat_cmp x.items y.items

abbrev spells : List ℕ → Word → Bool
spells word key = is_eq (slice_cmp nat_cmp word key.items)

same_word : (key k : Word) → in_order key k ≡ Equal → key.items ≡ k.items
same_word key k e = (bytes_decides key.items k.items).0 (sym (is_eq-slice_cmp key.items k.items) ∙ ap is_eq e)

-- one word more
inserted : (word : List ℕ) (keys : List Word) (key : Word) → list_any (spells word) (insert_key in_order keys key) ≡ (spells word key || list_any (spells word) keys)
inserted word [] key = refl
inserted word (k ∷ keys) key = by_order (in_order key k) refl (inserted word keys key)
  where
    by_order : (o : Ordering) → in_order key k ≡ o → list_any (spells word) (insert_key in_order keys key) ≡ (spells word key || list_any (spells word) keys) → list_any (spells word) (match_ordering o (key ∷ k ∷ keys) (k ∷ keys) (k ∷ insert_key in_order keys key)) ≡ (spells word key || (spells word k || list_any (spells word) keys))
    by_order Less e more = refl
    by_order Equal e more = or_same (spells word key) (spells word k) (list_any (spells word) keys) (ap (λ w. is_eq (slice_cmp nat_cmp word w)) (same_word key k e))
    by_order Greater e more = ap (λ b. spells word k || b) more ∙ or_swap (spells word k) (spells word key) (list_any (spells word) keys)

abbrev pub has : BTreeSet Word → List ℕ → Bool
has words word = contains_by (λ key. slice_cmp nat_cmp word key.items) words

abbrev pub among : List NameAt → List ℕ → Bool
among names word = list_any (λ n. bytes_eq word n.name) names

pub one_more : (names : List NameAt) (i : ℕ) (d : NameAt) (key : Word) (old new : BTreeSet Word) → i < length names → key.items ≡ (get_or names i d).name → new.keys ≡ insert_key in_order old.keys key → ((word : List ℕ) → has old word ≡ among (take i names) word) → (word : List ℕ) → has new word ≡ among (take (i + 1) names) word
one_more names i d key old new b e h so_far word =
    ap (list_any (spells word)) h ∙ inserted word old.keys key
    ∙ ap (λ x. x || has old word) (is_eq-slice_cmp word key.items ∙ ap (bytes_eq word) e)
    ∙ ap (λ x. bytes_eq word (get_or names i d).name || x) (so_far word)
    ∙ or_turn (bytes_eq word (get_or names i d).name) (among (take i names) word)
    ∙ sym (list_any_more (λ n. bytes_eq word n.name) names i d b)

pub all_taken : (names : List NameAt) (i : ℕ) (word : List ℕ) → length names ≤ i → among (take i names) word ≡ among names word
all_taken names i word h = ap (λ ns. among ns word) (take_all i names h)

-- what may be assigned, by sets
pub at_home : (names ps ns : List ℕ → Bool) (parameters temporaries : Names) → names ≡ assigns_at_home ps ns → ps ≡ has_name parameters → ns ≡ has_name temporaries → names ≡ home_assigns parameters temporaries
at_home names ps ns parameters temporaries e p q = e ∙ (λ i word. (not (p i word) || q i word) && not (is_reserved word))

pub in_block : (names ps outer : List ℕ → Bool) (parameters : Names) → names ≡ assigns_in_block ps outer → ps ≡ has_name parameters → names ≡ block_assigns parameters outer
in_block names ps outer parameters e p = e ∙ (λ i word. p i word || outer word)
