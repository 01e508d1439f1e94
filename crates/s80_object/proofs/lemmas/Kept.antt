-- Texts, numbers and literals by what keeps them.
use Rattle.std.proofs.Common.{◌≡◌, ◌∙◌, ℕ, suc, ◌+◌, ◌*◌, ◌/◌, ◌%◌, ◌<◌, ◌++◌, arith, List, [], ◌∷◌, length, map, get_or, drop, find, Option, Some, None, option_map, Bool, true, false, not, cond, ◌||◌, ◌&&◌, nat_eq, nat_lt, if◌then◌else◌, All, Vec, refl, sym, ap, ap₂, position, is_some, true≢false}
use Rattle.std.specs.List.{list_any, position_or_len}
use Rattle.std.specs.Map.{lookup}
use Rattle.std.specs.Str.{bytes_eq}
use Rattle.std.proofs.lemmas.Bool.Decides.{nat_tests}
use Rattle.std.proofs.lemmas.List.{map-append}
use Rattle.std.proofs.lemmas.List.Elements.{All-head, All-tail, All-push}
use Rattle.indexmap.specs.IndexSet.{insert_key}
use Rattle.s80_base.proofs.lemmas.Lists.{length_map}
use Rattle.s80_base.specs.declared.literal.NumberKind.{NumberKind}
use Rattle.s80_base.specs.declared.literal.NumberKind.TheVariants.{LargePositive, LargeNegative, Float}
use Rattle.s80_object.specs.declared.value.Value.{Value}
use Rattle.s80_object.specs.Literal.{added_once, is_opaque, same_kind, is_made_at}
use Rattle.s80_object.specs.Objects.{Made}
use Rattle.s80_object.specs.Seen.{kind_byte, kind_of_byte, key_of, number_of, IsKey, made_of}

-- ---- texts

some_under : {X : Type 0} (b : Bool) (i n : X) → Some i ≡ cond b (Some n) None → i ≡ n
some_under true i n is = cc is
some_under false i n is = absurd (let f : ⊥ = cc is in f)

last_under : (a b : Bool) (m n : ℕ) → (a || b) ≡ false → (b ≡ false → m ≡ n) → suc m ≡ cond (not a) (1 + n) 0
last_under true b m n none rest = absurd (true≢false none)
last_under false b m n none rest = omega (arith, rest none)

none_is_last : {X : Type 0} (test : X → Bool) (xs : List X) → list_any test xs ≡ false → length xs ≡ position_or_len test xs
none_is_last test [] none = refl
none_is_last test (x ∷ xs) none = last_under (test x) (list_any test xs) (length xs) (position_or_len test xs) none (none_is_last test xs)

module _ {Z : Type 0} where
  abbrev pub texts_of : List (Vec ℕ Z) → List (List ℕ)
  texts_of ks = map (λ k. k.items) ks

  place_same : (t : List ℕ) (ks : List (Vec ℕ Z)) → position_or_len (λ k. bytes_eq t k.items) ks ≡ position_or_len (bytes_eq t) (texts_of ks)
  place_same t [] = refl
  place_same t (k ∷ ks) = ap (λ n. cond (not (bytes_eq t k.items)) (1 + n) 0) (place_same t ks)

  any_same : (t : List ℕ) (ks : List (Vec ℕ Z)) → list_any (λ k. bytes_eq t k.items) ks ≡ list_any (bytes_eq t) (texts_of ks)
  any_same t [] = refl
  any_same t (k ∷ ks) = ap (λ b. bytes_eq t k.items || b) (any_same t ks)

  module _ (ks : List (Vec ℕ Z)) (d : List (List ℕ)) (shows : texts_of ks ≡ d) (t : List ℕ) where
    pub found_place : (i : ℕ) → Some i ≡ position (λ k. bytes_eq t k.items) ks → i ≡ position_or_len (bytes_eq t) d
    found_place i is = some_under (nat_lt (position_or_len (λ k. bytes_eq t k.items) ks) (length ks)) i _ is ∙ place_same t ks ∙ ap (position_or_len (bytes_eq t)) shows

    pub found_once : true ≡ list_any (λ k. bytes_eq t k.items) ks → d ≡ added_once (bytes_eq t) t d
    found_once any = ap (λ b. if b then d else d ++ t ∷ []) (any ∙ any_same t ks ∙ ap (list_any (bytes_eq t)) shows)

    none_any : false ≡ list_any (λ k. bytes_eq t k.items) ks → list_any (bytes_eq t) d ≡ false
    none_any none = sym (none ∙ any_same t ks ∙ ap (list_any (bytes_eq t)) shows)

    pub last_place : false ≡ list_any (λ k. bytes_eq t k.items) ks → length ks ≡ position_or_len (bytes_eq t) d
    last_place none = sym (length_map (λ k. k.items) ks) ∙ ap length shows ∙ none_is_last (bytes_eq t) d (none_any none)

    pub added_last : (k : Vec ℕ Z) → k.items ≡ t → (ks' : List (Vec ℕ Z)) → ks' ≡ insert_key (λ a b. bytes_eq a.items b.items) ks k → false ≡ list_any (λ k. bytes_eq t k.items) ks → texts_of ks' ≡ added_once (bytes_eq t) t d
    added_last k key ks' is none =
        let new : list_any (λ b. bytes_eq k.items b.items) ks ≡ false = ap (λ (q : List ℕ). list_any (λ b. bytes_eq q b.items) ks) key ∙ sym none in
        ap texts_of (is ∙ ap (λ b. if b then ks else ks ++ k ∷ []) new) ∙ map-append (λ k. k.items) ks (k ∷ []) ∙ ap₂ (λ xs x. xs ++ x ∷ []) shows key
        ∙ sym (ap (λ b. if b then d else d ++ t ∷ []) (none_any none))

pub none_of : {X : Type 0} (r : Option X) → ((x : X) → r ≡ Some x → ⊥) → false ≡ is_some r
none_of None other = refl
none_of (Some x) other = absurd (other x refl)

-- ---- numbers

kind_back : (k : NumberKind) → kind_of_byte (kind_byte k) ≡ k
kind_back LargePositive = refl
kind_back LargeNegative = refl
kind_back Float = refl

kinds_same : (k l : NumberKind) → nat_eq (kind_byte k) (kind_byte l) ≡ same_kind k l
kinds_same LargePositive LargePositive = refl
kinds_same LargePositive LargeNegative = refl
kinds_same LargePositive Float = refl
kinds_same LargeNegative LargePositive = refl
kinds_same LargeNegative LargeNegative = refl
kinds_same LargeNegative Float = refl
kinds_same Float LargePositive = refl
kinds_same Float LargeNegative = refl
kinds_same Float Float = refl

pub key_back : (k : NumberKind) (t : List ℕ) → number_of (key_of k t) ≡ record { kind = k; text = t }
key_back k t = ap (λ k. record { kind = k; text = t }) (kind_back k)

pub key_is : (k : NumberKind) (t : List ℕ) → IsKey (key_of k t)
key_is k t = ap (λ k. key_of k t) (kind_back k)

module _ (k : NumberKind) (t : List ℕ) where
  test_same : (key : List ℕ) → IsKey key → bytes_eq (key_of k t) key ≡ is_opaque k t (number_of key)
  test_same key is = sym (ap (bytes_eq (key_of k t)) is) ∙ ap (λ b. b && bytes_eq t (drop 1 key)) (kinds_same k (kind_of_byte (get_or key 0 0)))

  pub number_place : (keys : List (List ℕ)) → All IsKey keys → position_or_len (bytes_eq (key_of k t)) keys ≡ position_or_len (is_opaque k t) (map number_of keys)
  number_place [] all = refl
  number_place (key ∷ keys) all =
      ap₂ (λ b n. cond (not b) (1 + n) 0) (test_same key (All-head IsKey key keys all)) (number_place keys (All-tail IsKey key keys all))

  number_any : (keys : List (List ℕ)) → All IsKey keys → list_any (bytes_eq (key_of k t)) keys ≡ list_any (is_opaque k t) (map number_of keys)
  number_any [] all = refl
  number_any (key ∷ keys) all = ap₂ (λ a b. a || b) (test_same key (All-head IsKey key keys all)) (number_any keys (All-tail IsKey key keys all))

  once_under : (b : Bool) (keys : List (List ℕ)) → map number_of (if b then keys else keys ++ key_of k t ∷ []) ≡ (if b then map number_of keys else map number_of keys ++ record { kind = k; text = t } ∷ [])
  once_under true keys = refl
  once_under false keys = map-append number_of keys (key_of k t ∷ []) ∙ ap (λ n. map number_of keys ++ n ∷ []) (key_back k t)

  pub number_added : (keys : List (List ℕ)) → All IsKey keys → map number_of (added_once (bytes_eq (key_of k t)) (key_of k t) keys) ≡ added_once (is_opaque k t) (record { kind = k; text = t }) (map number_of keys)
  number_added keys all =
      once_under (list_any (bytes_eq (key_of k t)) keys) keys
      ∙ ap (λ b. if b then map number_of keys else map number_of keys ++ record { kind = k; text = t } ∷ []) (number_any keys all)

  keys_under : (b : Bool) (keys : List (List ℕ)) → All IsKey keys → All IsKey (if b then keys else keys ++ key_of k t ∷ [])
  keys_under true keys all = all
  keys_under false keys all = All-push IsKey keys (key_of k t) all (key_is k t)

  pub keys_added : (keys : List (List ℕ)) → All IsKey keys → All IsKey (added_once (bytes_eq (key_of k t)) (key_of k t) keys)
  keys_added keys all = keys_under (list_any (bytes_eq (key_of k t)) keys) keys all

-- ---- literals that are objects

found_under : (a b : Bool) (p : ℕ × Value) (r : Option Value) (s : Option Made) → a ≡ b → r ≡ option_map (λ m. m.value) s → cond a (Some p.1) r ≡ option_map (λ m. m.value) (cond b (Some (made_of p)) s)
found_under true true p r s is rest = refl
found_under false false p r s is rest = rest
found_under true false p r s is rest = absurd (true≢false is)
found_under false true p r s is rest = absurd (true≢false (sym is))

module _ (m e : ℕ) (small : e < 256) where
  key_test : (k : ℕ) → nat_eq (m * 256 + e) k ≡ (nat_eq (k / 256) m && nat_eq (k % 256) e)
  key_test k = grind (arith, nat_tests)

  found_same : (es : List (ℕ × Value)) → lookup (nat_eq (m * 256 + e)) es ≡ option_map (λ m. m.value) (find (is_made_at m e) (map made_of es))
  found_same [] = refl
  found_same (p ∷ es) = found_under (nat_eq (m * 256 + e) p.0) (is_made_at m e (made_of p)) p _ _ (key_test p.0) (found_same es)

  pub found : (key : ℕ) → key ≡ m * 256 + e → (es : List (ℕ × Value)) (d : List Made) → map made_of es ≡ d → lookup (nat_eq key) es ≡ option_map (λ m. m.value) (find (is_made_at m e) d)
  found key is es d shows = ap (λ k. lookup (nat_eq k) es) is ∙ found_same es ∙ ap (λ d. option_map (λ m. m.value) (find (is_made_at m e) d)) shows

  pub made_again : (v : Value) → made_of (m * 256 + e, v) ≡ record { method = m; entry = e; value = v }
  made_again v = ap₂ (λ a b. record { method = a; entry = b; value = v }) (omega arith) (omega arith)
