use Rattle.std.proofs.Common.{pos}
use Rattle.s80_object.specs.declared.value.Value.TheVariants.{Small}
use Rattle.s80_prims.proofs.ApplyLemmas.{two_given}
use Rattle.s80_prims.specs.Rows.{came_to, world_of}
use Rattle.s80_prims.proofs.applied.apply.Goals as goal

pub returns-in-len2-clause-ok : goal.returns-in-len2-clause-ok
returns-in-len2-clause-ok c =
    two_given c.args.classes.now c.args.n c.args.receiver (Small (pos 0)) (Small (pos 0)) c.args.arguments.now (world_of c.args.objects.now c.args.transcript.now)
    (came_to c.with_two.result (world_of c.with_two.new.objects c.args.transcript.now)) c.in-len2.len_at_least c.in-len2.len_below
    (c.with_two.ensures c.args.classes.now c.args.transcript.now)
