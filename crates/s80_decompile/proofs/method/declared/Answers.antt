use Rattle.std.proofs.Common.{refl, ◌∷◌}
use Rattle.s80_lex.specs.declared.token.TokenKind.TheVariants as kind
use Rattle.s80_decompile.specs.TreeTokens.{declared_tokens, token}
use Rattle.s80_decompile.proofs.Printing.{named, part_end, part_step}
use Rattle.s80_decompile.proofs.method.declared.Goals as goal

pub loop-name-preserved : goal.loop-name-preserved
loop-name-preserved c =
    part_step declared_tokens c.args.printer.now c.loop-name.printer (declared_tokens c.args.parameters.now c.args.selector.now) c.args.parameters.now c.loop-name.name-index c.loop-name.rest.now c.part.new.printer c.token.new.self
    (λ more. token kind.Name c.name-item.result.name ∷ more) c.name-item.result c.behind-rest.result.now (λ rest more. refl)
    c.loop-name-test.true c.name-item.is c.loop-name.invariant c.in_ok-part.ensures (named c.part.new.printer c.token.new.self c.name-item.result c.bytes.result.now c.bytes.ensures c.in_ok-token.ensures) c.behind-rest.ensures

pub returns : goal.returns
returns c = part_end declared_tokens c.args.printer.now c.loop-name.printer (declared_tokens c.args.parameters.now c.args.selector.now) c.args.parameters.now c.loop-name.name-index c.loop-name.rest.now (λ more. refl) c.loop-name-test.false c.loop-name.invariant
