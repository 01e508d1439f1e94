-- A walk over a part and then over what follows it.
use Rattle.std.proofs.Common.{◌≡◌, ℕ, suc, ◌+◌, ◌≤◌, List, [], ◌∷◌, ◌++◌, Bool, true, false, ◌&&◌, length, find, Option, Some, None, refl, ap, sym, ◌∙◌, arith, cond, zero-add, length-append}
use Rattle.std.specs.List.{count_by, list_any}
use Rattle.std.specs.Option.{option_map, option_map_or, option_or}
use Rattle.std.specs.Str.{bytes_eq}
use Rattle.std.specs.declared.ops.ControlFlow.{ControlFlow}
use Rattle.std.specs.declared.ops.ControlFlow.TheVariants.{Continue, Break}
use Rattle.std.proofs.lemmas.List.Folds.{find-append}
use Rattle.std.proofs.lemmas.List.Sums.{sum_by-append}
use Rattle.std.proofs.lemmas.Bool.{eqb-true}
use Rattle.s80_tree.specs.declared.name.NameAt.{NameAt}
use Rattle.s80_scope.specs.declared.names.Found.{Found}
use Rattle.s80_scope.specs.Names.{Declaration, declared_over, declares, has_word, is_at, last_place, number_among, IsFound, Walks}
use Rattle.s80_scope.proofs.lemmas.Places.{last_place-append, none_counted, found_counted, found_passes, some_passes}
use Rattle.s80_scope.proofs.Unseen.{Unseen}

counted_both : (at : ℕ) (u v : List NameAt) → count_by (is_at at) (u ++ v) ≡ count_by (is_at at) u + count_by (is_at at) v
counted_both at u v = sum_by-append (λ n. cond (is_at at n) 1 0) u v

-- what was found stands at the place
found_there : (at : ℕ) (u : List NameAt) (n : NameAt) → find (is_at at) u ≡ Some n → n.at ≡ at
found_there at u n here = eqb-true n.at at (found_passes (is_at at) u n here)

shifted : (first n : ℕ) (r : Option ℕ) → option_map (λ i. first + i) (option_or (option_map (λ i. n + i) r) None) ≡ option_map (λ i. (first + n) + i) r
shifted first n None = refl
shifted first n (Some i) = let same : first + (n + i) ≡ (first + n) + i = omega arith in ap (λ k. Some k) same

-- the use was found in the first part
pub breaks : (at first : ℕ) (u v : List NameAt) (d e : List Declaration) (f : Found) → Unseen v e → IsFound at first u d f → IsFound at first (u ++ v) (d ++ e) f
breaks at first u v d e f unseen found = record {
  here = find-append (is_at at) u v ∙ ap (λ r. option_or r (find (is_at at) v)) found.here;
  number = λ once.
      let there : f.name.now.at ≡ at = found_there at u f.name.now found.here in
      let total = counted_both at u v in
      let some : 1 ≤ count_by (is_at at) u = found_counted (is_at at) u f.name.now found.here in
      let none : find (is_at at) v ≡ None = none_counted (is_at at) v (omega arith) in
      let away : last_place (declares f.name.now) e ≡ None = unseen f.name.now (ap (λ p. find (is_at p) v) there ∙ none) in
      found.number (omega arith)
      ∙ ap (λ r. option_map (λ i. first + i) r) (sym (last_place-append (declares f.name.now) d e ∙ ap (λ r. option_or (option_map (λ i. length d + i) r) (last_place (declares f.name.now) d)) away));
}

-- the first part was passed
pub goes_on : (at first next : ℕ) (u v : List NameAt) (d e : List Declaration) (r : ControlFlow Found ℕ) → Unseen u d → next ≡ first + length d → find (is_at at) u ≡ None → Walks at next v e r → Walks at first (u ++ v) (d ++ e) r
goes_on at first next u v d e (Continue after) unseen is none walks = (
  let long = length-append d e in let ends : after ≡ next + length e = walks.0 in omega arith,
  find-append (is_at at) u v ∙ ap (λ r. option_or r (find (is_at at) v)) none ∙ walks.1,
)
goes_on at first next u v d e (Break f) unseen is none found = record {
  here = find-append (is_at at) u v ∙ ap (λ r. option_or r (find (is_at at) v)) none ∙ found.here;
  number = λ once.
      let there : f.name.now.at ≡ at = found_there at v f.name.now found.here in
      let total = counted_both at u v in
      let away : last_place (declares f.name.now) d ≡ None = unseen f.name.now (ap (λ p. find (is_at p) u) there ∙ none) in
      found.number (omega arith)
      ∙ ap (λ n. option_map (λ i. n + i) (last_place (declares f.name.now) e)) is
      ∙ sym (shifted first (length d) (last_place (declares f.name.now) e))
      ∙ ap (λ r. option_map (λ i. first + i) r) (sym (last_place-append (declares f.name.now) d e ∙ ap (λ r. option_or (option_map (λ i. length d + i) (last_place (declares f.name.now) e)) r) away));
}

-- a part with no further uses and declarations
pub passes : (at next : ℕ) → Walks at next [] [] (Continue next)
passes at next = (omega arith, refl)

-- ---- names that are declared over a part

seen_over : (n : NameAt) (uses names : List NameAt) → list_any (is_at n.at) uses ≡ true → last_place (declares n) (declared_over uses names) ≡ last_place (has_word n.name) names
seen_over n uses [] seen = refl
seen_over n uses (p ∷ ps) seen =
    ap (λ r. option_map_or (λ i. Some (suc i)) r (cond (bytes_eq n.name p.name && list_any (is_at n.at) uses) (Some 0) None)) (seen_over n uses ps seen)
    ∙ ap (λ b. option_map_or (λ i. Some (suc i)) (last_place (has_word n.name) ps) (cond b (Some 0) None)) (ap (λ b. bytes_eq n.name p.name && b) seen ∙ only (bytes_eq n.name p.name))
  where
    only : (b : Bool) → (b && true) ≡ b
    only true = refl
    only false = refl

pub length_over : (uses names : List NameAt) → length (declared_over uses names) ≡ length names
length_over uses [] = refl
length_over uses (n ∷ ns) = ap suc (length_over uses ns)

numbered : (first n : ℕ) (a b : Option ℕ) → option_or (option_map (λ i. (first + n) + i) a) (option_map (λ i. first + i) b) ≡ option_map (λ i. first + i) (option_or (option_map (λ i. n + i) a) b)
numbered first n None b = refl
numbered first n (Some i) b = let same : (first + n) + i ≡ first + (n + i) = omega arith in ap (λ k. Some k) same

-- the use was found in what these names are declared over
pub declared : (at first own : ℕ) (u names : List NameAt) (d : List Declaration) (f g : Found) → own ≡ length names → IsFound at (first + own) u d f
    → g.name ≡ f.name → g.number ≡ option_or f.number (number_among names first f.name.now.name) → IsFound at first u (declared_over u names ++ d) g
declared at first own u names d f g long found same number = record {
  here = found.here ∙ ap (λ n. Some n.now) (sym same);
  number = λ once.
      let there : f.name.now.at ≡ at = found_there at u f.name.now found.here in
      let seen : list_any (is_at f.name.now.at) u ≡ true = ap (λ p. list_any (is_at p) u) there ∙ some_passes (is_at at) u f.name.now found.here in
      let n : ℕ = length (declared_over u names) in
      let own_is : own ≡ n = long ∙ sym (length_over u names) in
      number
      ∙ ap (λ r. option_or r (number_among names first f.name.now.name)) (found.number once ∙ ap (λ k. option_map (λ i. (first + k) + i) (last_place (declares f.name.now) d)) own_is)
      ∙ numbered first n (last_place (declares f.name.now) d) (last_place (has_word f.name.now.name) names)
      ∙ ap (λ r. option_map (λ i. first + i) (option_or (option_map (λ i. n + i) (last_place (declares f.name.now) d)) r)) (sym (seen_over f.name.now u names seen))
      ∙ ap (λ r. option_map (λ i. first + i) r) (sym (last_place-append (declares f.name.now) (declared_over u names) d))
      ∙ ap (λ m. option_map (λ i. first + i) (last_place (declares m.now) (declared_over u names ++ d))) (sym same);
}

-- it wasn't found there
pub undeclared : (at first own next : ℕ) (u names : List NameAt) (d : List Declaration) → own ≡ length names → Walks at (first + own) u d (Continue next) → Walks at first u (declared_over u names ++ d) (Continue next)
undeclared at first own next u names d long walks =
    (let both = length-append (declared_over u names) d in let over = length_over u names in let ends : next ≡ (first + own) + length d = walks.0 in omega arith, walks.1)

-- the number among two lists of names
pub number_in_both : (ps ts : List NameAt) (word : List ℕ) → option_or (number_among ts (length ps) word) (number_among ps 0 word) ≡ number_among (ps ++ ts) 0 word
number_in_both ps ts word =
    ap (λ n. option_or (option_map (λ i. n + i) (last_place (has_word word) ts)) (number_among ps 0 word)) (sym (zero-add (length ps)))
    ∙ numbered 0 (length ps) (last_place (has_word word) ts) (last_place (has_word word) ps)
    ∙ ap (λ r. option_map (λ i. 0 + i) r) (sym (last_place-append (has_word word) ps ts))
