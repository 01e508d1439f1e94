use Rattle.std.proofs.Common.{refl, ◌∷◌, codes}
use Rattle.s80_lex.specs.declared.token.TokenKind.TheVariants as kind
use Rattle.s80_decompile.specs.TreeTokens.{parameter_tokens, token}
use Rattle.s80_decompile.proofs.Printing.{named, prints_both, still_end, still_step}
use Rattle.s80_decompile.proofs.walk.parameters.Goals as goal

pub loop-name-preserved : goal.loop-name-preserved
loop-name-preserved c =
    still_step parameter_tokens c.args.printer.now c.loop-name.printer (parameter_tokens c.args.names.now) c.args.names.now c.loop-name.name-index c.token-in-loop-name.new.self (λ more. token kind.Colon (codes ":") ∷ token kind.Name c.name-item.result.name ∷ more) c.name-item.result (λ rest more. refl)
    c.loop-name-test.true c.name-item.is c.loop-name.invariant
    (prints_both c.loop-name.printer c.token.new.self c.token-in-loop-name.new.self (λ more. token kind.Colon (codes ":") ∷ more) (λ more. token kind.Name c.name-item.result.name ∷ more)
    c.in_ok-token.ensures (named c.token.new.self c.token-in-loop-name.new.self c.name-item.result c.bytes.result.now c.bytes.ensures c.in_ok-token-2.ensures))

pub returns : goal.returns
returns c = still_end parameter_tokens c.args.printer.now c.loop-name.printer (parameter_tokens c.args.names.now) c.args.names.now c.loop-name.name-index (λ more. refl) c.loop-name-test.false c.loop-name.invariant
