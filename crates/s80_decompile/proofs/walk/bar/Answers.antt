use Rattle.std.proofs.Common.{sym, ◌∙◌, ◌∷◌}
use Rattle.s80_lex.specs.declared.token.TokenKind.TheVariants as kind
use Rattle.s80_syntax.specs.Word.{bar}
use Rattle.s80_tree.specs.Tree.{body_of}
use Rattle.s80_decompile.specs.TreeTokens.{bar_tokens, token}
use Rattle.s80_decompile.proofs.Printing.{prints_as, some_bar}
use Rattle.s80_decompile.proofs.walk.bar.Goals as goal

pub returns : goal.returns
returns c =
    prints_as c.token.result c.args.printer.now c.token.new.self (λ more. token kind.Binary bar ∷ more) (bar_tokens c.args.names.now (body_of c.args.body.now))
    (λ more. some_bar c.args.names.now (body_of c.args.body.now) more (sym c.is_empty.ensures ∙ c.if-is_empty.false) (λ e. c.if-count-eq0.false (c.count.ensures ∙ e))) c.token.ensures
