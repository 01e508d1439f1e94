use Rattle.std.proofs.Common.{◌≡◌}
use Rattle.s80_base.specs.Literal.{str}
use Rattle.s80_tree.specs.Tree.{message_of}
use Rattle.s80_form.specs.TreeParts.{argument}
use Rattle.s80_form.proofs.lemmas.Sendings.{nothing}
use Rattle.s80_change.specs.Head.{beginning}
use Rattle.s80_change.proofs.Heads.{category_from}
use Rattle.s80_change.proofs.head_form.category.Goals as goal

pub returns-in_err-only_argument : goal.returns-in_err-only_argument
returns-in_err-only_argument c =
    nothing (λ text. text.now) (λ text. message_of c.args.message.now ≡ beginning text) c.from_residual.result c.from_residual.ensures
    (λ text is. c.in_err-only_argument.ensures (argument (str text)) is)

pub returns : goal.returns
returns c = category_from (λ text. text.now) (message_of c.args.message.now) _ c.string.result c.in_ok-only_argument.ensures c.string.ensures
