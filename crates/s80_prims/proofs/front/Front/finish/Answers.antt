use Rattle.std.proofs.Common.{◌∙◌, sym}
use Rattle.s80_prims.proofs.PrintFront.{as_it_is, with_dots}
use Rattle.s80_prims.proofs.front.Front.finish.Goals.{then-more+in_ok-append, else-more}
use Rattle.s80_prims.proofs.front.Front.finish.Goals as goal

pub returns : goal.returns
returns c = λ written holds.
    elim c.if-more.branch [
      | then-more+in_ok-append w ↦ w.text-is ∙ w.in_ok-append.ensures.ok ∙ with_dots 4096 written c.args.self.text holds.0 (sym holds.1 ∙ w.if-more.true)
      | else-more w ↦ w.text-is ∙ as_it_is 4096 written c.args.self.text holds.0 (sym holds.1 ∙ w.if-more.false)
    ]
