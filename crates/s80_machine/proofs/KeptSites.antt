-- Where messages went: what is noted, and that it stays right where a method is added.
use Rattle.std.proofs.Common.{◌≡◌, ◌≢◌, ◌∙◌, ap, sym, subst, refl, ℕ, zero, suc, ◌+◌, ◌<◌, ◌≤◌, ◌==◌, ◌&&◌, ◌||◌, not, cond, List, [], ◌∷◌, ◌++◌, Bool, true, false, true≢false, length, slice_get, slice_set, get_or, Vec, Global, Option, Some, None, Result, Ok, Err, OnOk, option_and_then, arith, if◌then◌else◌}
use Rattle.std.specs.List.{list_any, position_or_len}
use Rattle.std.proofs.lemmas.Option.{slice_get_read}
use Rattle.s80_code.proofs.lemmas.TableLemmas.{value}
use Rattle.s80_object.specs.Literal.{added_once}
use Rattle.s80_class.specs.Lookup.{Place, places_up}
use Rattle.s80_machine.specs.declared.sites.Site.{Site}
use Rattle.s80_machine.specs.declared.sites.Target.{Target}
use Rattle.s80_machine.specs.declared.sites.Target.TheVariants.{Numbered, Primitive, Handler}
use Rattle.s80_machine.specs.World.{Key, same_key}
use Rattle.s80_machine.specs.Seen.{Given}
use Rattle.s80_machine.specs.Sites.{IsLiteralOf, IsNumberFound, IsSentAt, IsSite, IsTarget}
use Rattle.s80_machine.proofs.lemmas.SoundLists.{number_same, once_front, same_number}

-- ---- places of what passes a test

module _ {X : Type 0} (test : X → Bool) where
  front_place : (xs ys : List X) → position_or_len test xs < length xs → position_or_len test (xs ++ ys) ≡ position_or_len test xs
  front_place [] ys h = absurd (omega (arith, h))
  front_place (x ∷ xs) ys h = by_test (test x) (front_place xs ys) h
    where
      by_test : (b : Bool) → (position_or_len test xs < length xs → position_or_len test (xs ++ ys) ≡ position_or_len test xs) → cond (not b) (1 + position_or_len test xs) 0 < length (x ∷ xs)
          → cond (not b) (1 + position_or_len test (xs ++ ys)) 0 ≡ cond (not b) (1 + position_or_len test xs) 0
      by_test true later h = refl
      by_test false later h = ap (λ n. 1 + n) (later (omega (arith, h)))

  -- it is there, where its place is
  pub any_within : (xs : List X) → position_or_len test xs < length xs → list_any test xs ≡ true
  any_within [] h = absurd (omega (arith, h))
  any_within (x ∷ xs) h = by_test (test x) (any_within xs) h
    where
      by_test : (b : Bool) → (position_or_len test xs < length xs → list_any test xs ≡ true) → cond (not b) (1 + position_or_len test xs) 0 < length (x ∷ xs) → (b || list_any test xs) ≡ true
      by_test true later h = refl
      by_test false later h = later (omega (arith, h))

  pub any_got : (xs : List X) (k : ℕ) (x : X) → slice_get xs k ≡ Some x → test x ≡ true → list_any test xs ≡ true
  any_got [] k x e is = cc
  any_got (y ∷ ys) zero x e is = ap (λ b. b || list_any test ys) (ap test (value e) ∙ is)
  any_got (y ∷ ys) (suc k) x e is = by_test (test y) (any_got ys k x e is)
    where
      by_test : (b : Bool) → list_any test ys ≡ true → (b || list_any test ys) ≡ true
      by_test true later = refl
      by_test false later = later

module _ {A : Type 0} where
  set_here : (xs : List A) (m : ℕ) (x : A) → m < length xs → slice_get (slice_set xs m x) m ≡ Some x
  set_here [] m x h = absurd (omega (arith, h))
  set_here (y ∷ xs) zero x h = refl
  set_here (y ∷ xs) (suc m) x h = set_here xs m x (omega (arith, h))

  set_other : (xs : List A) (m n : ℕ) (x : A) → n ≢ m → slice_get (slice_set xs m x) n ≡ slice_get xs n
  set_other [] m n x differs = refl
  set_other (y ∷ xs) zero zero x differs = absurd (differs refl)
  set_other (y ∷ xs) zero (suc n) x differs = refl
  set_other (y ∷ xs) (suc m) zero x differs = refl
  set_other (y ∷ xs) (suc m) (suc n) x differs = set_other xs m n x (λ e. differs (ap suc e))

-- ---- rows of sites

slot : (items : List (Option Site)) (j : ℕ) → option_and_then (λ site. site) (slice_get items j) ≡ get_or items j None
slot [] j = refl
slot (x ∷ items) zero = refl
slot (x ∷ items) (suc j) = slot items j

abbrev Row : Type 0
Row = Vec (Option Site) Global

abbrev pub in_row : Option Row → ℕ → Option Site
in_row o j = option_and_then (λ (row : Row). option_and_then (λ site. site) (slice_get row.items j)) o

-- an empty row more
pub row_added : (rows : List Row) (row : Row) → row.items ≡ [] → (n j : ℕ) → in_row (slice_get (rows ++ row ∷ []) n) j ≡ in_row (slice_get rows n) j
row_added [] row e zero j = slot row.items j ∙ ap (λ items. get_or items j None) e
row_added [] row e (suc n) j = refl
row_added (x ∷ rows) row e zero j = refl
row_added (x ∷ rows) row e (suc n) j = row_added rows row e n j

module _ (rows : List Row) (m k : ℕ) (row new : Row) (site : Site) (within : m < length rows) (is : row ≡ get_or rows m row) where
  -- one site of a row is put
  abbrev Puts : Type 0
  Puts = (j : ℕ) → get_or new.items j None ≡ (if j == k then Some site else get_or row.items j None)

  row_put : Puts → (n j : ℕ) → in_row (slice_get (slice_set rows m new) n) j ≡ (if n == m && j == k then Some site else in_row (slice_get rows n) j)
  row_put put n j = by_test (n == m) refl
    where
      here : in_row (slice_get (slice_set rows m new) m) j ≡ (if j == k then Some site else in_row (slice_get rows m) j)
      here =
          ap (λ o. in_row o j) (set_here rows m new within) ∙ slot new.items j ∙ put j
          ∙ ap (λ o. if j == k then Some site else o) (sym (slot row.items j) ∙ ap (λ o. in_row o j) (sym (slice_get_read rows (length rows) m row refl within is)))

      by_test : (b : Bool) → (n == m) ≡ b → in_row (slice_get (slice_set rows m new) n) j ≡ (if b && j == k then Some site else in_row (slice_get rows n) j)
      by_test true e = subst (λ i. in_row (slice_get (slice_set rows m new) i) j ≡ (if j == k then Some site else in_row (slice_get rows i) j)) (sym (same_number n m e)) here
      by_test false e = ap (λ o. in_row o j) (set_other rows m n new (λ same. true≢false (sym (number_same n m same) ∙ e)))

  pub row_noted : {E : Type 0} (result : Result (Unit {0}) E) (before : ℕ → ℕ → Option Site) → ((n j : ℕ) → in_row (slice_get rows n) j ≡ before n j) → OnOk result Puts
      → OnOk result ((n j : ℕ) → in_row (slice_get (slice_set rows m new) n) j ≡ (if n == m && j == k then Some site else before n j))
  row_noted (Ok done) before same put = λ n j. row_put put n j ∙ ap (λ o. if n == m && j == k then Some site else o) (same n j)
  row_noted (Err e) before same put = tt

-- ---- a method more, of which the keys grow

longer : {X : Type 0} (xs : List X) (x : X) → length xs ≤ length (xs ++ x ∷ [])
longer [] x = omega arith
longer (y ∷ xs) x = let more = longer xs x in omega (arith, more)

module _ (on : Given) (key : Key) (keys : List Key) where
  abbrev more : List Key
  more = added_once (same_key key) key keys

  same_place : (test : Key → Bool) → position_or_len test keys < length keys → position_or_len test more ≡ position_or_len test keys
  same_place test within = by_test (list_any (same_key key) keys)
    where
      by_test : (b : Bool) → position_or_len test (if b then keys else keys ++ key ∷ []) ≡ position_or_len test keys
      by_test true = refl
      by_test false = front_place test keys (key ∷ []) within

  no_fewer : (n : ℕ) → n < length keys → n < length more
  no_fewer n within = by_test (list_any (same_key key) keys)
    where
      by_test : (b : Bool) → n < length (if b then keys else keys ++ key ∷ [])
      by_test true = within
      by_test false = let grows = longer keys key in omega (arith, within, grows)

  literal_stays : (m k : ℕ) (selector : List ℕ) → IsLiteralOf on keys m k selector → IsLiteralOf on more m k selector
  literal_stays m k selector is = record {
    key = is.key;
    code = is.code;
    key_is = once_front (same_key key) key keys m is.key is.key_is;
    code_is = is.code_is;
    selector_is = is.selector_is;
  }

  pub sent_stays : (m k : ℕ) (selector : List ℕ) → IsSentAt on keys m k selector → IsSentAt on more m k selector
  sent_stays zero k selector is = is
  sent_stays (suc m) k selector is = literal_stays m k selector is

  number_stays : (selector : List ℕ) (at : List Place) (n : ℕ) → IsNumberFound on keys selector at n → IsNumberFound on more selector at n
  number_stays selector at n is = record {
    found = is.found;
    finds = is.finds;
    plain = is.plain;
    number = same_place _ (subst (λ n. n < length keys) (sym is.number) is.there) ∙ is.number;
    there = no_fewer n is.there;
  }

  target_stays : (selector : List ℕ) (at : List Place) (t : Target) → IsTarget on keys selector at t → IsTarget on more selector at t
  target_stays selector at (Numbered n) is = number_stays selector at n is
  target_stays selector at (Primitive g) is = is
  target_stays selector at (Handler g) is = is

  pub site_stays : (m k : ℕ) (site : Site) → IsSite on keys m k site → IsSite on more m k site
  site_stays m k site is = record {
    selector = is.selector;
    sent = sent_stays m k is.selector is.sent;
    goes = target_stays is.selector (places_up on.table site.class site.side) site.target is.goes;
  }
