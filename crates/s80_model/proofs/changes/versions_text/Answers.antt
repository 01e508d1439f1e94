use Rattle.std.proofs.Common.{◌-◌, ap}
use Rattle.s80_model.proofs.Listed.{next_version}
use Rattle.s80_model.proofs.changes.versions_text.Goals as goal

pub loop-i-preserved : goal.loop-i-preserved
loop-i-preserved c = next_version c.args.versions.now c.loop-i.i (c.count-count.result - c.loop-i.i) c.at.result.now c.loop-i.text c.add_version.new.text c.loop-i.invariant c.at.ensures
    (ap (λ n. n - c.loop-i.i) c.count-count.ensures) c.in_ok-add_version.ensures
