use Rattle.s80_lex.specs.declared.token.TokenKind.TheVariants.{Character}
use Rattle.s80_lex.proofs.lemmas.Standing.{takes_stands, dollar_wrong}
use Rattle.s80_lex.proofs.lemmas.Taken.{character_takes}
use Rattle.s80_lex.proofs.front.character.Goals as goal

pub returns-then-bytes-gt1 : goal.returns-then-bytes-gt1
returns-then-bytes-gt1 c = takes_stands Character 2 c.args.bytes.now (character_takes c.args.bytes.now c.requires c.if-bytes-gt1.true) (λ e. absurd (cc))

pub returns-else-bytes-gt1 : goal.returns-else-bytes-gt1
returns-else-bytes-gt1 c = dollar_wrong c.args.bytes.now c.requires c.if-bytes-gt1.false
