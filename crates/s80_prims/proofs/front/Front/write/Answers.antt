use Rattle.std.proofs.Common.{◌≡◌, ◌∙◌, ◌-◌, ap, arith, length, min}
use Rattle.s80_prims.proofs.PrintFront.{kept, more_than, no_more}
use Rattle.s80_prims.proofs.front.Front.write.Goals as goal

pub returns-then-kept-bytes : goal.returns-then-kept-bytes
returns-then-kept-bytes c = λ written holds.
    let count : c.min-kept.result ≡ min (length c.args.bytes.now) (4096 - length c.args.self.now.text) =
    omega (arith, c.min-kept.ensures, c.saturating_sub-room.ensures, ap length c.bytes.ensures) in (
      c.in_ok-append.ensures.ok ∙ kept 4096 c.args.self.now.text written c.args.bytes.now c.min-kept.result holds.0 count,
      more_than 4096 c.args.self.now.text written c.args.bytes.now c.min-kept.result holds.0 count c.if-kept-bytes.true,
    )

pub returns-else-kept-bytes : goal.returns-else-kept-bytes
returns-else-kept-bytes c = λ written holds.
    let count : c.min-kept.result ≡ min (length c.args.bytes.now) (4096 - length c.args.self.now.text) =
    omega (arith, c.min-kept.ensures, c.saturating_sub-room.ensures, ap length c.bytes.ensures) in (
      c.in_ok-append.ensures.ok ∙ kept 4096 c.args.self.now.text written c.args.bytes.now c.min-kept.result holds.0 count,
      no_more 4096 c.args.self.now.text written c.args.bytes.now c.min-kept.result c.args.self.now.more holds.0 count c.if-kept-bytes.false holds.1,
    )
