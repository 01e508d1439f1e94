use Rattle.std.proofs.Common.{◌∙◌, subst, sym}
use Rattle.s80_lex.specs.Selector.{IsSelectorOf}
use Rattle.s80_machine.proofs.CameClasses.{selector_is, takes_so}
use Rattle.s80_machine.proofs.sends.selector_of.Goals as goal

pub returns-clause-is : goal.returns-clause-is
returns-clause-is c =
    selector_is c.args.objects.now c.args.v c.in-Symbol.n c.args.count c.in-Some.text.now c.in_ok-from_bytes.field-0 c.in-Symbol.is c.in-Some.ensures (sym c.takes.ensures ∙ c.if-not-takes.false) c.in_ok-from_bytes.ensures

pub returns-clause-takes : goal.returns-clause-takes
returns-clause-takes c =
    subst (IsSelectorOf c.args.count) (sym c.in_ok-from_bytes.ensures) (takes_so c.in-Some.text.now c.args.count (sym c.takes.ensures ∙ c.if-not-takes.false))
