use Rattle.std.proofs.Common.{subst, sym}
use Rattle.s80_lex.specs.Front.{IsMost}
use Rattle.s80_lex.specs.Spelling.{IsName}
use Rattle.s80_lex.proofs.Words.{name_most}
use Rattle.s80_lex.proofs.word.name_len.Goals as goal

pub returns-in-Letter : goal.returns-in-Letter
returns-in-Letter c =
    subst (λ n. IsMost (λ word _. IsName word) n c.args.bytes.now) (sym c.alphanumeric_len.ensures.same) (name_most c.args.bytes.now (sym c.in-Letter.ensures))
