use Rattle.std.proofs.Common.{refl, ◌∷◌, codes}
use Rattle.s80_lex.specs.declared.token.TokenKind.TheVariants as kind
use Rattle.s80_decompile.specs.TreeTokens.{target_tokens, token}
use Rattle.s80_decompile.proofs.Printing.{named, prints_both, still_end, still_step}
use Rattle.s80_decompile.proofs.walk.targets.Goals as goal

pub loop-name-preserved : goal.loop-name-preserved
loop-name-preserved c =
    still_step target_tokens c.args.printer.now c.loop-name.printer (target_tokens c.args.names.now) c.args.names.now c.loop-name.name-index c.token-in-loop-name.new.self (λ more. token kind.Name c.name-item.result.name ∷ token kind.Assign (codes "_") ∷ more) c.name-item.result (λ rest more. refl)
    c.loop-name-test.true c.name-item.is c.loop-name.invariant
    (prints_both c.loop-name.printer c.token.new.self c.token-in-loop-name.new.self (λ more. token kind.Name c.name-item.result.name ∷ more) (λ more. token kind.Assign (codes "_") ∷ more)
    (named c.loop-name.printer c.token.new.self c.name-item.result c.bytes.result.now c.bytes.ensures c.in_ok-token.ensures) c.in_ok-token-2.ensures)

pub returns : goal.returns
returns c = still_end target_tokens c.args.printer.now c.loop-name.printer (target_tokens c.args.names.now) c.args.names.now c.loop-name.name-index (λ more. refl) c.loop-name-test.false c.loop-name.invariant
