use Rattle.std.proofs.Common.{◌∙◌, ap, slice_get}
use Rattle.s80_machine.proofs.KeptSites.{in_row, row_added}
use Rattle.s80_machine.proofs.sites.Sites.add_rows.Goals as goal

pub loop-alloc-preserved : goal.loop-alloc-preserved
loop-alloc-preserved c = λ n k. ap (λ rows. in_row (slice_get rows n) k) c.in_ok-push.ensures.items ∙ row_added c.loop-alloc.self.rows.items c.new.result c.new.ensures.items n k ∙ c.loop-alloc.invariant n k
