-- Lists that grow at their end.
use Rattle.std.proofs.Common.{◌≡◌, ℕ, ◌+◌, ◌-◌, ◌<◌, List, [], ◌∷◌, ◌++◌, length, drop, get_or, map, refl, ap, ap₂, sym, subst, ◌∙◌, arith}
use Rattle.std.proofs.lemmas.List.{drop_more}
use Rattle.std.proofs.lemmas.List.Elements.{Contains-get_or}
use Rattle.std.specs.List.{Contains}
use Rattle.s80_tree.specs.declared.name.NameAt.{NameAt}
use Rattle.s80_tree.proofs.lemmas.Lists.{map_append}
use Rattle.s80_scope.specs.Shape.{WhereTree}
use Rattle.s80_core.specs.declared.core_tree.Core.{Core}
use Rattle.s80_core.specs.Core.{CoreTree, CoreTrees, SendTrees, VariableTree, assign, before, core_of, cores, no_cores, sends, no_sends}
use Rattle.s80_core.specs.Elaborate.{assigned, target_meant}
use Rattle.s80_core.specs.Walk.{cores_append, sends_append, joined}

-- ---- core trees and messages

cores_pushed : (a : CoreTrees) (c : CoreTree) (b : CoreTrees) → cores_append (cores_append a (cores c no_cores)) b ≡ cores_append a (cores c b)
cores_pushed no_cores c b = refl
cores_pushed (cores d a) c b = ap (cores d) (cores_pushed a c b)

cores_whole : (a : CoreTrees) → cores_append a no_cores ≡ a
cores_whole no_cores = refl
cores_whole (cores d a) = ap (cores d) (cores_whole a)

pub cores_step : (made next all left rest : CoreTrees) (c core : CoreTree) → cores_append made left ≡ all → left ≡ cores c rest → core ≡ c → next ≡ cores_append made (cores core no_cores) → cores_append next rest ≡ all
cores_step made next all left rest c core goes split same pushed =
    ap (λ a. cores_append a rest) (pushed ∙ ap (λ d. cores_append made (cores d no_cores)) same) ∙ cores_pushed made c rest ∙ ap (cores_append made) (sym split) ∙ goes

pub cores_end : (made all left : CoreTrees) → cores_append made left ≡ all → left ≡ no_cores → made ≡ all
cores_end made all left goes none = sym (cores_whole made) ∙ ap (cores_append made) (sym none) ∙ goes

sends_pushed : (a : SendTrees) (s : List ℕ) (es : CoreTrees) (b : SendTrees) → sends_append (sends_append a (sends s es no_sends)) b ≡ sends_append a (sends s es b)
sends_pushed no_sends s es b = refl
sends_pushed (sends t fs a) s es b = ap (sends t fs) (sends_pushed a s es b)

sends_whole : (a : SendTrees) → sends_append a no_sends ≡ a
sends_whole no_sends = refl
sends_whole (sends t fs a) = ap (sends t fs) (sends_whole a)

pub sends_step : (made next all left rest : SendTrees) (s : List ℕ) (es : CoreTrees) → sends_append made left ≡ all → left ≡ sends s es rest → next ≡ sends_append made (sends s es no_sends) → sends_append next rest ≡ all
sends_step made next all left rest s es goes split pushed =
    ap (λ a. sends_append a rest) pushed ∙ sends_pushed made s es rest ∙ ap (sends_append made) (sym split) ∙ goes

pub sends_end : (made all left : SendTrees) → sends_append made left ≡ all → left ≡ no_sends → made ≡ all
sends_end made all left goes none = sym (sends_whole made) ∙ ap (sends_append made) (sym none) ∙ goes

-- ---- trees for their effect, and one more

pub joined_push : (cs : List CoreTree) (c last : CoreTree) → joined (cs ++ c ∷ []) last ≡ joined cs (before c last)
joined_push [] c last = refl
joined_push (d ∷ cs) c last = ap (before d) (joined_push cs c last)

pub joined_step : (all rest : List Core) (c made result : Core) (whole : CoreTree) → joined (map core_of all) (core_of made) ≡ whole → all ≡ rest ++ c ∷ [] → core_of result ≡ before (core_of c) (core_of made)
    → joined (map core_of rest) (core_of result) ≡ whole
joined_step all rest c made result whole goes split then =
    ap (joined (map core_of rest)) then ∙ sym (joined_push (map core_of rest) (core_of c) (core_of made))
    ∙ ap (λ l. joined l (core_of made)) (sym (ap (map core_of) split ∙ map_append core_of rest (c ∷ []))) ∙ goes

-- ---- targets

module _ (xs : List NameAt) (i : ℕ) (x : NameAt) (within : i < length xs) (is : x ≡ get_or xs (length xs - 1 - i) x) where
  pub target_there : Contains xs x
  target_there = subst (Contains xs) (sym is) (Contains-get_or xs (length xs - 1 - i) x (omega (arith, within)))

  pub target_step : (meaning : NameAt → WhereTree) (v : VariableTree) (made result end : CoreTree) → made ≡ assigned meaning (drop (length xs - i) xs) end → v ≡ target_meant (meaning x) → result ≡ assign v made
      → result ≡ assigned meaning (drop (length xs - (i + 1)) xs) end
  target_step meaning v made result end goes stored whole =
      let there : length xs - 1 - i ≡ length xs - (i + 1) = omega (arith, within) in
      let after : length xs - 1 - i + 1 ≡ length xs - i = omega (arith, within) in
      let split : drop (length xs - (i + 1)) xs ≡ x ∷ drop (length xs - i) xs =
      ap (λ k. drop k xs) (sym there) ∙ drop_more xs (length xs - 1 - i) x (omega (arith, within)) ∙ ap₂ (λ y k. y ∷ drop k xs) (sym is) after in
      whole ∙ ap₂ assign stored goes ∙ ap (λ l. assigned meaning l end) (sym split)
