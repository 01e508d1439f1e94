-- Sets of keys: which keys are there, and their order.
use Rattle.std.proofs.Common.{◌≡◌, ◌∙◌, ◌++◌, ◌||◌, Bool, true, false, cond, refl, sym, ap, ap₂, List, [], ◌∷◌, Bor, map}
use Rattle.std.specs.Map.Iter.{deref}
use Rattle.std.proofs.lemmas.List.{map-append}
use Rattle.std.proofs.lemmas.List.Folds.{list_any-append}
use Rattle.s80_merge.specs.declared.key.Key.{Key}
use Rattle.s80_merge.specs.Order.{has, key_equiv, same_key}

or_last : (a b r : Bool) → a ≡ b → cond a true r ≡ (r || b)
or_last true true true e = refl
or_last true true false e = refl
or_last true false r e = cc
or_last false true r e = cc
or_last false false true e = refl
or_last false false false e = refl

or_false : (b : Bool) → (b || false) ≡ b
or_false true = refl
or_false false = refl

or_move : (a b c : Bool) → ((a || b) || c) ≡ (a || (b || c))
or_move true b c = refl
or_move false b c = refl

-- a key that is put is there, and the others are as before
pub key_put : (other key : Key) (before now : Bool) → now ≡ cond (same_key key other) true before → now ≡ (before || same_key other key)
key_put other key before now is = is ∙ or_last (same_key key other) (same_key other key) before (key_equiv.symm key other)

-- one key more of a list
pub has_last : (key : Key) (keys : List Key) (last : Key) → has key (keys ++ last ∷ []) ≡ (has key keys || same_key key last)
has_last key keys last = list_any-append (same_key key) keys (last ∷ []) ∙ ap (λ b. has key keys || b) (or_false (same_key key last))

pub has_more : (key : Key) (before now new : Bool) (done : List Key) (last : Key) → now ≡ (before || has key done) → new ≡ (now || same_key key last) → new ≡ (before || has key (done ++ last ∷ []))
has_more key before now new done last so more =
    more ∙ ap (λ b. b || same_key key last) so ∙ or_move before (has key done) (same_key key last) ∙ ap (λ b. before || b) (sym (has_last key done last))

-- the keys that were gone over, and one more
pub one_listed : (yielded : List (Bor Key)) (key : Bor Key) (keys new : List Key) (copy : Key) → keys ≡ map deref yielded → new ≡ keys ++ copy ∷ [] → copy ≡ key.now → new ≡ map deref (yielded ++ key ∷ [])
one_listed yielded key keys new copy so more is =
    more ∙ ap₂ (λ (ks : List Key) (k : Key). ks ++ k ∷ []) so is ∙ sym (map-append deref yielded (key ∷ []))
