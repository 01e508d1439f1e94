use Rattle.std.proofs.Common.{◌≡◌, ◌∙◌, ◌++◌, ◌||◌, ◌&&◌, ◌∷◌, [], ap, append-nil, append_assoc, arith, length, sym}
use Rattle.std.specs.Vec.Iter.{into_iter_items}
use Rattle.s80_apply.proofs.Places.{nothing_left}
use Rattle.s80_merge.specs.Order.{has}
use Rattle.s80_merge.specs.Work.{is_touched}
use Rattle.s80_merge.proofs.Conflicts.{shared_more}
use Rattle.s80_merge.proofs.KeyOrder.{same_told}
use Rattle.s80_merge.proofs.planning.add_clashes.Goals as goal

pub loop-key-preserved : goal.loop-key-preserved
loop-key-preserved c =
    let at = c.loop-key in
    let key = c.in-Some.key in
    let steps : into_iter_items at.key-iterator ≡ key ∷ into_iter_items c.next.new.self = c.in-Some.ensures.steps.0 in
    record {
      items = append_assoc at.yielded (key ∷ []) _ ∙ ap (λ rest. at.yielded ++ rest) (sym steps) ∙ at.invariant.items;
      left = let was = at.invariant.left in let gone = c.in-Some.ensures.steps.1 in let short = ap length steps in omega arith;
      shared = λ k. shared_more k key c.args.other.now at.yielded (has k c.args.found.now) (has k at.found) (has k c.add_clash.new.found) (at.invariant.shared k) (c.in_ok-add_clash.ensures k ∙ ap (λ b. has k at.found || b) (same_told (λ one. is_touched one c.args.other.now) k key));
    }

pub returns : goal.returns
returns c = λ k.
    let at = c.loop-key in
    let none = c.in-None.ensures.steps in
    let empty : into_iter_items at.key-iterator ≡ [] = nothing_left _ (sym at.invariant.left ∙ none.0) in
    let all = sym (append-nil at.yielded) ∙ ap (λ rest. at.yielded ++ rest) (sym empty) ∙ at.invariant.items ∙ c.into_iter-key-iterator.ensures.into_iter_gives.0 in
    at.invariant.shared k ∙ ap (λ ks. has k c.args.found.now || (has k ks && is_touched k c.args.other.now)) (all ∙ c.into_vec-key-items.ensures ∙ c.in_ok-written.ensures.same)
