use Rattle.std.proofs.Common.{◌+◌, ◌<◌, ◌≤◌, List, length, Err, arith, rules, tests, sym, ap, ◌∙◌, subst}
use Rattle.std.proofs.lemmas.Result.{err_from_is_err_and}
use Rattle.s80_form.specs.declared.refusal.Refused.TheVariants.{Refusal}
use Rattle.s80_form.specs.declared.refusal.Refusal.TheVariants.{LogFull}
use Rattle.s80_change.specs.Block.{log_limit}
use Rattle.s80_apply.specs.State.{State}
use Rattle.s80_apply.specs.Placed.{PlacedState}
use Rattle.s80_apply.specs.System.{HasPlaces, IsSystemOf}
use Rattle.s80_change.specs.declared.change.Change.{Change}
use Rattle.s80_history.specs.History.{IsHistoryOf}
use Rattle.s80_keeper.specs.Keeper.{KeeperState}
use Rattle.s80_keeper.specs.Answers.{Prepares}
use Rattle.s80_keeper.proofs.Preparing.{prepares_none, prepares_full, prepares_some}
use Rattle.s80_keeper.proofs.keeper.Keeper.ready.Goals as goal
use Rattle.s80_keeper.proofs.keeper.Keeper.ready.Goals.{After-prepare, After-reserve}

-- the keeper's system, as the code has it
inside : (c : After-prepare) (state : State) → IsSystemOf c.args.self.now.system state → IsSystemOf c.self.inside.system state
inside c state is = subst (λ (k : KeeperState). IsSystemOf k.system state) (sym c.self.view_is) is

inside_places : (c : After-prepare) (placed : PlacedState) → HasPlaces c.args.self.now.system placed → HasPlaces c.self.inside.system placed
inside_places c placed has = subst (λ (k : KeeperState). HasPlaces k.system placed) (sym c.self.view_is) has

pub returns-in_err-step-clause-answer : goal.returns-in_err-step-clause-answer
returns-in_err-step-clause-answer c = λ state is.
    let run = (goal.at.returns-in_err-step-clause-answer c).After-prepare in
    let p = err_from_is_err_and c.from_residual-in_err-step.result c.from_residual-in_err-step.ensures.1 in
    rw (p.1, p.2) (prepares_none state c.args.self.now.log.end c.args.change.now c.prepare.new.self c.in_err-step.field-0.0 (c.in_err-step.ensures.prepared.answer state (inside run state is)))

pub returns-in_err-step-clause-system : goal.returns-in_err-step-clause-system
returns-in_err-step-clause-system c = λ state is. c.prepare.ensures.stays.same state (inside (goal.at.returns-in_err-step-clause-system c).After-prepare state is)

pub returns-then-not-has_room-clause-answer : goal.returns-then-not-has_room-clause-answer
returns-then-not-has_room-clause-answer c = λ state is.
    let run = (goal.at.returns-then-not-has_room-clause-answer c).After-prepare in
    let end = ap (λ (k : KeeperState). k.log.end) c.self.view_is in
    let over : log_limit < c.self.inside.log.end + length c.in_ok-block.block = search (rules, tests) in
    let full = prepares_full state c.args.self.now.log.end c.args.change.now c.prepare.new.self c.in_ok-step.step (c.in_ok-step.ensures.prepared.answer state (inside run state is)) (omega (arith, over, end, ap length c.in_ok-block.ensures)) in
    subst (λ n. Prepares state c.args.self.now.log.end c.args.change.now c.prepare.new.self (Err (Refusal (LogFull n)))) (sym (c.length.ensures ∙ end)) full

pub returns-then-not-has_room-clause-system : goal.returns-then-not-has_room-clause-system
returns-then-not-has_room-clause-system c = λ state is. c.prepare.ensures.stays.same state (inside (goal.at.returns-then-not-has_room-clause-system c).After-prepare state is)

pub returns-clause-answer : goal.returns-clause-answer
returns-clause-answer c = λ state is.
    let run = (goal.at.returns-clause-answer c).After-prepare in
    let end = ap (λ (k : KeeperState). k.log.end) c.self.view_is in
    let within : c.self.inside.log.end + length c.in_ok-block.block ≤ log_limit = search (rules, tests) in
    prepares_some state c.args.self.now.log.end c.args.change.now c.prepare.new.self c.in_ok-step.step (c.in_ok-step.ensures.prepared.answer state (inside run state is)) c.in_ok-step.ensures.prepared.ready.0 (omega (arith, within, end, ap length c.in_ok-block.ensures))

pub returns-clause-system : goal.returns-clause-system
returns-clause-system c = λ state is. c.prepare.ensures.stays.same state (inside (goal.at.returns-clause-system c).After-prepare state is)

pub returns-in_err-step-clause-same_places : goal.returns-in_err-step-clause-same_places
returns-in_err-step-clause-same_places c = λ placed has. c.prepare.ensures.stays.same_places placed (inside_places (goal.at.returns-in_err-step-clause-same_places c).After-prepare placed has)

pub returns-then-not-has_room-clause-same_places : goal.returns-then-not-has_room-clause-same_places
returns-then-not-has_room-clause-same_places c = λ placed has. c.prepare.ensures.stays.same_places placed (inside_places (goal.at.returns-then-not-has_room-clause-same_places c).After-prepare placed has)

pub returns-clause-same_places : goal.returns-clause-same_places
returns-clause-same_places c = λ placed has. c.prepare.ensures.stays.same_places placed (inside_places (goal.at.returns-clause-same_places c).After-prepare placed has)

pub returns-clause-places : goal.returns-clause-places
returns-clause-places c = λ placed has. c.in_ok-step.ensures.prepared.places placed (inside_places (goal.at.returns-clause-places c).After-prepare placed has)

-- the keeper's history, once there is room for the change
noted : (c : After-reserve) (changes : List Change) → IsHistoryOf c.args.self.now.history changes → IsHistoryOf c.reserve.new.self changes
noted c changes is =
    c.reserve.ensures.of changes (subst (λ (k : KeeperState). IsHistoryOf k.history changes) (sym c.self.view_is) is)

pub returns-in_err-reserve-clause-history : goal.returns-in_err-reserve-clause-history
returns-in_err-reserve-clause-history c = noted (goal.at.returns-in_err-reserve-clause-history c).After-reserve

pub returns-in_err-step-clause-history : goal.returns-in_err-step-clause-history
returns-in_err-step-clause-history c = noted (goal.at.returns-in_err-step-clause-history c).After-reserve

pub returns-in_err-block-clause-history : goal.returns-in_err-block-clause-history
returns-in_err-block-clause-history c = noted (goal.at.returns-in_err-block-clause-history c).After-reserve

pub returns-then-not-has_room-clause-history : goal.returns-then-not-has_room-clause-history
returns-then-not-has_room-clause-history c = noted (goal.at.returns-then-not-has_room-clause-history c).After-reserve

pub returns-clause-history : goal.returns-clause-history
returns-clause-history c = noted (goal.at.returns-clause-history c).After-reserve
