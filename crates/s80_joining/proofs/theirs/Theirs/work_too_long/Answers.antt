use Rattle.std.proofs.Common.{◌∙◌, ap, sym}
use Rattle.s80_joining.specs.Theirs.{refused_in}
use Rattle.s80_joining.proofs.Taking.{long_outside}
use Rattle.s80_joining.proofs.theirs.Theirs.work_too_long.Goals as goal

pub returns-in-Top : goal.returns-in-Top
returns-in-Top c = λ worked at. long_outside worked c.args.role c.args.length c.args.self.now c.in-Method.is (λ refusal. ap (λ s. refused_in worked s refusal) (sym at.section ∙ c.in-Top.is)) at

pub returns-in-Refused : goal.returns-in-Refused
returns-in-Refused c = λ worked at. long_outside worked c.args.role c.args.length c.args.self.now c.in-Method.is (λ refusal. ap (λ s. refused_in worked s refusal) (sym at.section ∙ c.in-Refused.is)) at
