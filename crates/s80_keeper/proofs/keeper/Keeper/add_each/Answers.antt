use Rattle.std.proofs.Common.{◌≡◌, ◌++◌, ◌∷◌, [], List, length, rules, arith, sym, ap, append_assoc, append-nil, ◌∙◌}
use Rattle.std.proofs.lemmas.List.{nil_from_length}
use Rattle.std.proofs.lemmas.Result.{err_from_is_err_and}
use Rattle.std.specs.List.{flat_map}
use Rattle.std.specs.Vec.Iter.{into_iter_items}
use Rattle.s80_change.specs.declared.change.Change.{Change}
use Rattle.s80_fileout.specs.Order.{of_listed}
use Rattle.s80_keeper.specs.Keeper.{Knows}
use Rattle.s80_keeper.proofs.Condensed.{knows_on}
use Rattle.s80_keeper.proofs.Versions.{each_added, unadded_so}
use Rattle.s80_keeper.proofs.keeper.Keeper.add_each.Goals as goal
use Rattle.s80_keeper.proofs.keeper.Keeper.add_each.Goals.{After-add_method}

-- the keeper knows the list yet
knows_here : (g : _) (c : After-add_method g) (list : List Change) → Knows (g.D.Disk.reads c.args.disk.now) c.args.self.now list → Knows (g.D.Disk.reads c.loop-listed.disk) c.loop-listed.self list
knows_here g c list knows =
    let so_far = c.loop-listed.invariant in
    knows_on (g.D.Disk.reads c.args.disk.now) (g.D.Disk.reads c.loop-listed.disk) c.args.self.now c.loop-listed.self list so_far.same so_far.untouched.same knows

pub returns-in_err-add_method-clause-list : goal.returns-in_err-add_method-clause-list
returns-in_err-add_method-clause-list g c = λ told list knows.
    let here = knows_here g (goal.at.returns-in_err-add_method-clause-list g c).After-add_method list knows in
    let one = c.in_err-add_method.ensures.list (c.loop-listed.invariant.untouched.telling ∙ told) list here in
    let now = c.add_method.new.changes in
    let more = flat_map (of_listed c.args.keep list) c.args.methods.items in
    let p = err_from_is_err_and c.from_residual.result c.from_residual.ensures.1 in
    rw (p.1, p.2) (unadded_so (Unit {0}) (Unit {0}) c.in_err-add_method.field-0.0 c.loop-listed.changes (of_listed c.args.keep list c.in-Some.listed) now c.args.changes.now more now one)

pub loop-listed-preserved : goal.loop-listed-preserved
loop-listed-preserved g c =
    let so_far = c.loop-listed.invariant in
    let at = (goal.at.loop-listed-preserved g c).After-add_method in
    let x = c.in-Some.listed in
    let steps : into_iter_items c.loop-listed.listed-iterator ≡ x ∷ into_iter_items c.next.new.self = c.in-Some.ensures.steps.0 in
    record {
      items = append_assoc c.loop-listed.yielded (x ∷ []) _ ∙ ap (λ rest. c.loop-listed.yielded ++ rest) (sym steps) ∙ so_far.items;
      left = let was = so_far.left in let gone = c.in-Some.ensures.steps.1 in let short = ap length steps in omega arith;
      added = λ told list knows.
          each_added (of_listed c.args.keep list) c.loop-listed.yielded c.in-Some.listed c.args.changes.now c.loop-listed.changes c.add_method.new.changes (so_far.added told list knows)
          (c.in_ok-add_method.ensures.list (so_far.untouched.telling ∙ told) list (knows_here g at list knows));
      same = ◌∙◌ {b = c.loop-listed.self} c.in_ok-add_method.ensures.after so_far.same;
      untouched = search rules;
      faults_stay = c.in_ok-add_method.ensures.faults_stay ∙ so_far.faults_stay;
    }

pub returns-clause-list : goal.returns-clause-list
returns-clause-list g c = λ told list knows.
    let at = c.loop-listed in
    let none = c.in-None.ensures.steps in
    let empty : into_iter_items at.listed-iterator ≡ [] = nil_from_length (into_iter_items at.listed-iterator) (sym at.invariant.left ∙ none.0) in
    let all = sym (append-nil at.yielded) ∙ ap (λ rest. at.yielded ++ rest) (sym empty) ∙ at.invariant.items ∙ c.into_iter-listed-iterator.ensures.into_iter_gives.0 in
    at.invariant.added told list knows ∙ ap (λ ms. c.args.changes.now ++ flat_map (of_listed c.args.keep list) ms) all
