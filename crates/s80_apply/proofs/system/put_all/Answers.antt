use Rattle.std.proofs.Common.{◌≡◌, ◌∙◌, ◌++◌, ◌∷◌, [], ap, append-nil, append_assoc, arith, length, subst, sym}
use Rattle.std.specs.Vec.Iter.{into_iter_items}
use Rattle.s80_dict.specs.Dict.{HasRoom}
use Rattle.s80_dict.specs.Table.{methods_at}
use Rattle.s80_apply.specs.System.{put_all}
use Rattle.s80_apply.proofs.Places.{nothing_left, put_then, room_here}
use Rattle.s80_apply.proofs.system.put_all.Goals as goal

pub insert-requires-clause-number : goal.insert-requires-clause-number
insert-requires-clause-number c =
    let all = ap (λ rest. c.loop-method.yielded ++ rest) (sym c.in-Some.ensures.steps.0) ∙ c.loop-method.invariant.items ∙ c.into_iter-method-iterator.ensures.into_iter_gives.0 in
    let h = room_here c.args.placed.items c.args.methods.now c.loop-method.yielded _ c.in-Some.method all c.requires in
    omega (arith, h.0, c.loop-method.invariant.count)

pub insert-requires-clause-room : goal.insert-requires-clause-room
insert-requires-clause-room c =
    let all = ap (λ rest. c.loop-method.yielded ++ rest) (sym c.in-Some.ensures.steps.0) ∙ c.loop-method.invariant.items ∙ c.into_iter-method-iterator.ensures.into_iter_gives.0 in
    let h = room_here c.args.placed.items c.args.methods.now c.loop-method.yielded _ c.in-Some.method all c.requires in
    subst (λ r. HasRoom r c.in-Some.method.selector) (sym (c.loop-method.invariant.room c.in-Some.method.number c.in-Some.method.side)) h.1

pub loop-method-preserved : goal.loop-method-preserved
loop-method-preserved c =
    let at = c.loop-method in
    let x = c.in-Some.method in
    let steps : into_iter_items at.method-iterator ≡ x ∷ into_iter_items c.next.new.self = c.in-Some.ensures.steps.0 in
    record {
      items = append_assoc at.yielded (x ∷ []) _ ∙ ap (λ rest. at.yielded ++ rest) (sym steps) ∙ at.invariant.items;
      left = let was = at.invariant.left in let gone = c.in-Some.ensures.steps.1 in let short = ap length steps in omega arith;
      methods = λ n s. c.insert.ensures.methods n s ∙ put_then at.yielded x c.args.methods.now at.methods at.invariant.methods n s;
      room = λ n s. c.insert.ensures.room n s ∙ at.invariant.room n s;
      count = c.insert.ensures.count ∙ at.invariant.count;
    }

pub returns-clause-methods : goal.returns-clause-methods
returns-clause-methods c = λ n s.
    let at = c.loop-method in
    let none = c.in-None.ensures.steps in
    let empty : into_iter_items at.method-iterator ≡ [] = nothing_left _ (sym at.invariant.left ∙ none.0) in
    let all = sym (append-nil at.yielded) ∙ ap (λ rest. at.yielded ++ rest) (sym empty) ∙ at.invariant.items ∙ c.into_iter-method-iterator.ensures.into_iter_gives.0 in
    at.invariant.methods n s ∙ ap (λ ps. put_all ps (methods_at c.args.methods.now) n s) all
