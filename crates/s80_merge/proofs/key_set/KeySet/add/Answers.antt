use Rattle.std.proofs.Common.{◌≡◌, ◌∙◌, ◌++◌, ◌||◌, ◌∷◌, [], ap, append-nil, append_assoc, arith, length, sym}
use Rattle.std.specs.Vec.Iter.{into_iter_items}
use Rattle.s80_merge.specs.Order.{has}
use Rattle.s80_apply.proofs.Places.{nothing_left}
use Rattle.s80_merge.proofs.KeySets.{has_more}
use Rattle.s80_merge.proofs.key_set.KeySet.add.Goals as goal

pub loop-key-preserved : goal.loop-key-preserved
loop-key-preserved c =
    let at = c.loop-key in
    let key = c.in-Some.key in
    let steps : into_iter_items at.key-iterator ≡ key ∷ into_iter_items c.next.new.self = c.in-Some.ensures.steps.0 in
    record {
      items = append_assoc at.yielded (key ∷ []) _ ∙ ap (λ rest. at.yielded ++ rest) (sym steps) ∙ at.invariant.items;
      left = let was = at.invariant.left in let gone = c.in-Some.ensures.steps.1 in let short = ap length steps in omega arith;
      gained = λ other. has_more other (has other c.args.self.now) (has other at.self) (has other c.insert.new.self) at.yielded key (at.invariant.gained other) (c.in_ok-insert.ensures other);
    }

pub returns : goal.returns
returns c = λ other.
    let at = c.loop-key in
    let none = c.in-None.ensures.steps in
    let empty : into_iter_items at.key-iterator ≡ [] = nothing_left _ (sym at.invariant.left ∙ none.0) in
    let all = sym (append-nil at.yielded) ∙ ap (λ rest. at.yielded ++ rest) (sym empty) ∙ at.invariant.items ∙ c.into_iter-key-iterator.ensures.into_iter_gives.0 in
    at.invariant.gained other ∙ ap (λ ks. has other c.args.self.now || has other ks) (all ∙ c.into_vec-key-items.ensures)
