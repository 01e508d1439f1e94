use Rattle.std.proofs.Common.{subst, sym}
use Rattle.s80_lex.specs.declared.token.TokenKind.TheVariants.{Number}
use Rattle.s80_lex.specs.Front.{Takes}
use Rattle.s80_lex.proofs.lemmas.Standing.{takes_stands, number_wrong}
use Rattle.s80_lex.proofs.lemmas.Taken.{digit_run, number_takes}
use Rattle.s80_lex.proofs.front.number.Goals as goal

pub number_len-length-requires : goal.number_len-length-requires
number_len-length-requires c = digit_run c.args.bytes.now c.requires

pub returns-then-is_lawful : goal.returns-then-is_lawful
returns-then-is_lawful c =
    let taken = subst (λ n. Takes Number n c.args.bytes.now) (sym c.number_len-length.ensures.same) (number_takes c.args.bytes.now c.requires) in
    takes_stands Number c.number_len-length.result c.args.bytes.now taken (λ _. c.is_lawful.ensures.0 c.if-is_lawful.true)

pub returns-else-is_lawful : goal.returns-else-is_lawful
returns-else-is_lawful c =
    let taken = subst (λ n. Takes Number n c.args.bytes.now) (sym c.number_len-length.ensures.same) (number_takes c.args.bytes.now c.requires) in
    number_wrong c.number_len-length.result c.args.bytes.now taken (λ e. let yes = c.is_lawful.ensures.1 e in cc)
