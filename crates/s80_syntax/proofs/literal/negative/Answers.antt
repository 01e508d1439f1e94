use Rattle.std.proofs.Common.{sym, ap, ◌∙◌, true}
use Rattle.s80_lex.specs.Number.{number_literal}
use Rattle.s80_syntax.proofs.Literals.{negative_here, no_number}
use Rattle.s80_syntax.proofs.literal.negative.Goals as goal

pub returns-in_default-next_of : goal.returns-in_default-next_of
returns-in_default-next_of c = no_number c.args.text.now _ c.in-Some.sign _ c.in-Some.ensures.1 (sym c.if-not-is_minus.ensures) c.in_default-next_of.ensures

pub returns : goal.returns
returns c = negative_here _ _ _ _ _ c.in-Some.sign c.in-Some-next_of.number c.requires c.in-Some.ensures.0 c.in-Some.ensures.1 (sym c.if-not-is_minus.ensures) c.in-Some-next_of.ensures.0 c.in-Some-next_of.ensures.1 (c.in_ok-literal.ensures ∙ ap (number_literal true) c.bytes.ensures)
