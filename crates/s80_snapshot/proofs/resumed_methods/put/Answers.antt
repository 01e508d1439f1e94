use Rattle.std.proofs.Common.{subst, sym}
use Rattle.s80_change.specs.declared.change.Change.{Change}
use Rattle.s80_snapshot.specs.Resuming.{Accepts, Works, listed_of}
use Rattle.s80_snapshot.proofs.OnePut.{method_is_put, put_accepted}
use Rattle.s80_snapshot.proofs.resumed_methods.put.Goals as goal

pub work-requires : goal.work-requires
work-requires c =
    subst (Accepts c.args.system.now) (sym c.in_ok-change.ensures) (put_accepted (listed_of c.args.listed.now) c.args.source c.args.system.now c.requires.may_put c.requires.selector)

pub returns : goal.returns
returns c =
    method_is_put (listed_of c.args.listed.now) c.args.source c.args.system.now c.work.new.system c.set_source_place.new.self c.set_source_place.result c.requires.may_put c.requires.selector
    (subst (λ (change : Change). Works change c.args.system.now c.work.new.system) c.in_ok-change.ensures c.in_ok-work.ensures) c.set_source_place.ensures
