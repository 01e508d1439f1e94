use Rattle.std.proofs.Common.{refl, subst, sym, Ok}
use Rattle.s80_change.specs.declared.change.Change.TheVariants as changes
use Rattle.s80_apply.specs.declared.step.Step.TheVariants as steps
use Rattle.s80_apply.specs.System.{IsPrepared}
use Rattle.s80_apply.proofs.Preparing.{nothing_prepared}
use Rattle.s80_apply.proofs.system.System.prepare.Goals as goal

pub returns-in-DoIt-clause-prepared : goal.returns-in-DoIt-clause-prepared
returns-in-DoIt-clause-prepared c =
    subst (λ change. IsPrepared c.args.self.now change c.args.self.now (Ok steps.Nothing)) (sym c.in-DoIt.is) (nothing_prepared c.args.self.now (changes.DoIt c.in-DoIt.text) (λ state. refl) (λ at state. refl))
