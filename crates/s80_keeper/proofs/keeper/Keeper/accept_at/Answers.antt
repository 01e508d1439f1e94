use Rattle.std.proofs.Common.{rules, sym, ap, ◌∙◌, subst}
use Rattle.std.proofs.lemmas.Result.{err_from_is_err_and}
use Rattle.s80_apply.specs.List.{state_of}
use Rattle.s80_apply.specs.Placed.{placed_of}
use Rattle.s80_keeper.specs.Keeper.{KeeperState}
use Rattle.s80_keeper.specs.Renewing.{HasMade}
use Rattle.s80_keeper.proofs.Renewed.{fault_offline, fault_open, made_more, taken_fault, taken_same}
use Rattle.s80_keeper.proofs.keeper.Keeper.accept_at.Goals as goal
use Rattle.s80_keeper.proofs.keeper.Keeper.accept_at.Goals.{After-accept}

pub accept-requires : goal.accept-requires
accept-requires c = record { next = c.length.ensures ∙ ap (λ (k : KeeperState). k.log.end) c.self.view_is ∙ c.requires }

-- the keeper as the code has it
abbrev keeper : (c : After-accept) → KeeperState
keeper c = record { log = c.self.inside.log; mark = c.self.inside.mark; system = c.self.inside.system; history = c.self.inside.history; count = c.self.inside.count; fault = c.self.inside.fault }

pub returns-in_err-accept-clause-same : goal.returns-in_err-accept-clause-same
returns-in_err-accept-clause-same c = taken_same (keeper (goal.at.returns-in_err-accept-clause-same c).After-accept) c.args.self.now c.accept.new.system c.accept.new.history _ c.self.view_is

pub returns-clause-same : goal.returns-clause-same
returns-clause-same c = taken_same (keeper (goal.at.returns-clause-same c).After-accept) c.args.self.now c.accept.new.system c.accept.new.history _ c.self.view_is

pub returns-in_err-accept-clause-accepted : goal.returns-in_err-accept-clause-accepted
returns-in_err-accept-clause-accepted c = λ done made list here may.
    let InSystem : KeeperState → Type 0 = λ k. HasMade k done in
    let was = subst InSystem (sym c.self.view_is) made in
    let p = err_from_is_err_and c.from_residual.result c.from_residual.ensures.1 in
    rw (p.1, p.2) (taken_fault done c.args.change.now may (Unit {0}) (Unit {0}) c.accept.new.system c.in_err-accept.field-0.0 _ c.args.at here (c.in_err-accept.ensures.answer (state_of done) was.system))

pub returns-in_err-accept-clause-open : goal.returns-in_err-accept-clause-open
returns-in_err-accept-clause-open c =
    let p = err_from_is_err_and c.from_residual.result c.from_residual.ensures.1 in
    rw (p.1, p.2) (fault_open (Unit {0}) c.in_err-accept.field-0.0)

pub returns-in_err-accept-clause-offline : goal.returns-in_err-accept-clause-offline
returns-in_err-accept-clause-offline c =
    let p = err_from_is_err_and c.from_residual.result c.from_residual.ensures.1 in
    rw (p.1, p.2) (fault_offline (Unit {0}) (Unit {0}) c.in_err-accept.field-0.0 c.in_err-accept.ensures.offline)

pub returns-clause-accepted : goal.returns-clause-accepted
returns-clause-accepted c = λ done made list here may.
    let InSystem : KeeperState → Type 0 = λ k. HasMade k done in
    let was = subst InSystem (sym c.self.view_is) made in
    let before : KeeperState = record { log = c.self.inside.log; mark = c.self.inside.mark; system = c.self.inside.system; history = c.self.inside.history; count = c.self.inside.count; fault = c.self.inside.fault } in
    made_more done c.args.change.now may before _ c.args.at was list here (c.in_ok-accept.ensures.answer (state_of done) was.system).1 (c.in_ok-accept.ensures.places (placed_of done) was.places) (λ lawful. c.in_ok-accept.ensures.history done lawful here was.history) (search rules)
