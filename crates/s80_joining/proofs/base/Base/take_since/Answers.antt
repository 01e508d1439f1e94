use Rattle.std.proofs.Common.{◌≡◌, ◌∙◌, ◌++◌, ◌∷◌, [], ap, append-nil, append_assoc, arith, length, sym}
use Rattle.std.proofs.lemmas.List.{nil_from_length}
use Rattle.std.specs.Vec.Iter.{into_iter_items}
use Rattle.s80_joining.proofs.base.Base.take_since.Goals as goal

pub loop-change-preserved : goal.loop-change-preserved
loop-change-preserved c =
    let at = c.loop-change in
    let change = c.in-Some.change in
    let steps : into_iter_items at.change-iterator ≡ change ∷ into_iter_items c.next.new.self = c.in-Some.ensures.steps.0 in
    record {
      items = append_assoc at.yielded (change ∷ []) _ ∙ ap (λ rest. at.yielded ++ rest) (sym steps) ∙ at.invariant.items;
      left = let was = at.invariant.left in let gone = c.in-Some.ensures.steps.1 in let short = ap length steps in omega arith;
      base = c.in_ok-push.ensures.ok ∙ ap (λ cs. cs ++ change ∷ []) at.invariant.base ∙ append_assoc c.args.self.now.base at.yielded (change ∷ []);
      since = at.invariant.since;
    }

pub returns-clause-base : goal.returns-clause-base
returns-clause-base c =
    let at = c.loop-change in
    let none = c.in-None.ensures.steps in
    let empty : into_iter_items at.change-iterator ≡ [] = nil_from_length _ (sym at.invariant.left ∙ none.0) in
    let all = sym (append-nil at.yielded) ∙ ap (λ rest. at.yielded ++ rest) (sym empty) ∙ at.invariant.items ∙ c.into_iter-change-iterator.ensures.into_iter_gives.0 in
    at.invariant.base ∙ ap (λ cs. c.args.self.now.base ++ cs) (all ∙ c.into_vec-change-items.ensures ∙ c.replace-since.ensures.value)
