use Rattle.std.proofs.Common.{sym, ◌∙◌}
use Rattle.s80_lex.specs.declared.class.Class.TheVariants.{Special}
use Rattle.s80_lex.specs.Front.{first_class}
use Rattle.s80_lex.proofs.lemmas.Fronts.{at_rest}
use Rattle.s80_lex.proofs.lemmas.Selectors.{binary_one, binary_two}
use Rattle.s80_lex.proofs.word.operator_len.Goals as goal

pub returns-in-Special : goal.returns-in-Special
returns-in-Special c = binary_two c.args.bytes.now c.requires (at_rest first_class c.args.bytes.now 1 Special c.in-Special.ensures)

pub returns-in_default : goal.returns-in_default
returns-in_default c = binary_one c.args.bytes.now c.requires (λ e. c.in_default.not-Special (sym (at_rest first_class c.args.bytes.now 1 c.first_class.result c.first_class.ensures) ∙ e))
