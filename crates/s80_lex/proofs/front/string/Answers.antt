use Rattle.s80_lex.specs.declared.token.TokenKind.TheVariants.{Str}
use Rattle.s80_lex.proofs.lemmas.Standing.{takes_stands, string_wrong, quote_next}
use Rattle.s80_lex.proofs.lemmas.Taken.{string_takes}
use Rattle.s80_lex.proofs.front.string.Goals as goal

pub quoted_len-requires : goal.quoted_len-requires
quoted_len-requires c = quote_next c.args.bytes.now c.requires

pub returns-in-Some : goal.returns-in-Some
returns-in-Some c = takes_stands Str c.in-Some.length c.args.bytes.now (string_takes c.in-Some.length c.args.bytes.now c.requires c.in-Some.ensures) (λ e. absurd (cc))

pub returns-in-None : goal.returns-in-None
returns-in-None c = string_wrong c.args.bytes.now c.in-None.ensures
