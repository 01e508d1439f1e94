-- The names of the methods that have versions stay those.
use Rattle.std.proofs.Common.{◌≡◌, ◌∙◌, ap, sym, subst, refl, ℕ, ◌<◌, nat_lt, Bool, true, false, ◌||◌, if◌then◌else◌, List, [], ◌∷◌, ◌++◌, length, Option, Some, None, option_map, IsSome, Vec, vec_len, vec_capacity, arith, length-append, true≢false}
use Rattle.std.specs.Global.{Global}
use Rattle.std.specs.List.Sorted.{IsStrictlySortedBy}
use Rattle.std.specs.Option.{option_map_or}
use Rattle.std.proofs.lemmas.Bool.Decides.{nat_tests}
use Rattle.std.proofs.lemmas.List.{length-reverse}
use Rattle.s80_history.specs.declared.keys.MethodKey.{MethodKey}
use Rattle.s80_history.specs.declared.members.Member.{Member}
use Rattle.s80_history.specs.declared.noted.Noted.{Noted}
use Rattle.s80_history.specs.declared.noted.NotedKind.{NotedKind}
use Rattle.s80_history.specs.declared.noted.NotedKind.TheVariants as kinds
use Rattle.s80_history.specs.History.{HistoryState}
use Rattle.s80_history.specs.Keys.{AreKept, key_name, name_put, name_ready, names_in, with_name, with_names}
use Rattle.s80_history.specs.Lists.{MethodName, is_same}
use Rattle.s80_history.specs.Order.{AreMethodsOf, is_among, name_cmp}
use Rattle.s80_history.specs.Topics.{name_of}
use Rattle.s80_history.specs.Traces.{Classes, versions_by, versions_in, versions_more, versions_with}
use Rattle.s80_history.proofs.Continuing.{places_shown, shown}
use Rattle.s80_history.proofs.Keying.{among_with, one_order, sorted_with}

Keys : Type 0
Keys = Vec MethodKey Global

abbrev some : List ℕ → Bool
some versions = nat_lt 0 (length versions)

more_is_some : (versions : List ℕ) (at : ℕ) → some (versions ++ at ∷ []) ≡ true
more_is_some versions at = let more = length-append versions (at ∷ []) in grind (arith, nat_tests, more)

-- ---- what one member more shows

either_way : {A : Type 0} (b : Bool) (x : A) → (if b then x else x) ≡ x
either_way true x = refl
either_way false x = refl

some_more : (own : Bool) (at : ℕ) (versions : List ℕ) → some (versions_more own at versions) ≡ (own || some versions)
some_more true at versions = more_is_some versions at
some_more false at versions = refl

some_by : (kind : NotedKind) (own name : MethodName) (at : ℕ) (versions : List ℕ)
    → some (if is_same name own then versions_by kind at versions else versions) ≡ (option_map_or (is_same name) (name_put kind own) false || some versions)
some_by kinds.Define own name at versions = ap some (either_way (is_same name own) versions)
some_by kinds.ClassVars own name at versions = ap some (either_way (is_same name own) versions)
some_by kinds.Comment own name at versions = ap some (either_way (is_same name own) versions)
some_by kinds.Method own name at versions = some_more (is_same name own) at versions
some_by kinds.RemoveMethod own name at versions = ap some (either_way (is_same name own) versions)
some_by kinds.Classify own name at versions = ap some (either_way (is_same name own) versions)
some_by kinds.RemoveClass own name at versions = ap some (either_way (is_same name own) versions)

among_names : (name : MethodName) (own : Option MethodName) (names : List MethodName) → is_among name (with_names own names) ≡ (option_map_or (is_same name) own false || is_among name names)
among_names name None names = refl
among_names name (Some n) names = among_with name n names

sorted_names : (own : Option MethodName) (names : List MethodName) → IsStrictlySortedBy name_cmp names → IsStrictlySortedBy name_cmp (with_names own names)
sorted_names None names sorted = sorted
sorted_names (Some n) names sorted = sorted_with n names sorted

sorted_none : IsStrictlySortedBy name_cmp []
unfolding IsStrictlySortedBy
sorted_none = tt

-- ---- what is kept

module _ (classes now : Classes) (keys new : Vec MethodKey Global) (next : Option Noted) (key : Option MethodKey) (kept : AreKept classes keys next key) where
  -- nothing but room
  module _ (same : new.items ≡ keys.items) (still : (name : MethodName) → versions_in now name ≡ versions_in classes name) where
    pub kept_ready : (ready : Option Noted) (own : Option MethodKey) → option_map key_name own ≡ name_ready ready → (IsSome own → vec_len new < vec_capacity new) → AreKept now new ready own
    kept_ready ready own is room = record {
      sorted = subst (λ ks. IsStrictlySortedBy name_cmp (names_in ks)) (sym same) kept.sorted;
      those = λ name. ap (λ ks. is_among name (names_in ks)) same ∙ kept.those name ∙ ap some (sym (still name));
      ready = is;
      room = room;
    }

    pub kept_unready : AreKept now new None None
    kept_unready = kept_ready None None refl (λ none. absurd (true≢false (sym none)))

  kept_with : (own : Option MethodName) → names_in new.items ≡ with_names own (names_in keys.items)
      → ((name : MethodName) → some (versions_in now name) ≡ (option_map_or (is_same name) own false || some (versions_in classes name))) → AreKept now new None None
  kept_with own is seen = record {
    sorted = subst (IsStrictlySortedBy name_cmp) (sym is) (sorted_names own (names_in keys.items) kept.sorted);
    those = λ name. ap (is_among name) is ∙ among_names name own (names_in keys.items) ∙ ap (λ b. option_map_or (is_same name) own false || b) (kept.those name) ∙ sym (seen name);
    ready = refl;
    room = λ none. absurd (true≢false (sym none));
  }

  -- one version more
  pub kept_more : (own : MethodName) (at : ℕ) → names_in new.items ≡ with_name own (names_in keys.items) → ((name : MethodName) → versions_in now name ≡ versions_more (is_same name own) at (versions_in classes name))
      → AreKept now new None None
  kept_more own at is more = kept_with (Some own) is (λ name. ap some (more name) ∙ some_more (is_same name own) at (versions_in classes name))

  -- the member that was ready is noted
  pub kept_noted : (m : Noted) (at : ℕ) → next ≡ Some m → names_in new.items ≡ with_names (option_map key_name key) (names_in keys.items)
      → ((name : MethodName) → versions_in now name ≡ versions_with (record m { at = at }) name (versions_in classes name)) → AreKept now new None None
  kept_noted m at there is versions =
      kept_with (name_put m.kind (name_of m)) (is ∙ ap (λ own. with_names own (names_in keys.items)) (kept.ready ∙ ap name_ready there))
      (λ name. ap some (versions name) ∙ some_by m.kind (name_of m) name at (versions_in classes name))

pub kept_empty : (classes : Classes) (keys : Vec MethodKey Global) → classes ≡ [] → keys.items ≡ [] → AreKept classes keys None None
kept_empty classes keys none empty = record {
  sorted = subst (λ ks. IsStrictlySortedBy name_cmp (names_in ks)) (sym empty) sorted_none;
  those = λ name. ap (λ ks. is_among name (names_in ks)) empty ∙ sym (ap (λ es. some (versions_in es name)) none);
  ready = refl;
  room = λ no. absurd (true≢false (sym no));
}

-- nothing but room
pub kept_roomy : (classes : Classes) (keys new : Vec MethodKey Global) (next : Option Noted) (key : Option MethodKey) → AreKept classes keys next key → new.items ≡ keys.items → AreKept classes new None None
kept_roomy classes keys new next key kept same = kept_unready classes classes keys new next key kept same (λ name. refl)

-- where none was ready
pub kept_passed : (classes : Classes) (keys : Vec MethodKey Global) (next : Option Noted) (key : Option MethodKey) → AreKept classes keys next key → None ≡ next → AreKept classes keys None key
kept_passed classes keys next key kept none = subst (λ n. AreKept classes keys n key) (sym none) kept

-- ---- what is shown

pub methods_shown : (members : List Member) (classes : Classes) (ready : Option Noted) (h : HistoryState) (keys : Vec MethodKey Global) (next : Option Noted) (key : Option MethodKey) → shown members classes ready ≡ h
    → AreKept classes keys next key → AreMethodsOf h (names_in keys.items)
methods_shown members classes ready h keys next key is kept = record {
  sorted = kept.sorted;
  those = λ name. kept.those name ∙ ap (nat_lt 0) (sym (length-reverse (versions_in classes name)) ∙ sym (ap length (places_shown members classes ready h name is)));
}

pub one_list : (h : HistoryState) (xs ys : List MethodName) → AreMethodsOf h xs → AreMethodsOf h ys → xs ≡ ys
one_list h xs ys one other = one_order xs ys one.sorted other.sorted (λ m. one.those m ∙ sym (other.those m))
