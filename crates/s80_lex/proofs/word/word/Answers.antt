use Rattle.std.proofs.Common.{true, false, ◌+◌, subst, sym}
use Rattle.s80_lex.specs.declared.token.TokenKind.TheVariants.{Name, Keyword}
use Rattle.s80_lex.specs.Front.{Takes}
use Rattle.s80_lex.proofs.lemmas.Taken.{name_takes, keyword_takes}
use Rattle.s80_lex.proofs.Words.{run_seen}
use Rattle.s80_lex.proofs.word.word.Goals as goal

pub returns-then-ends_keyword : goal.returns-then-ends_keyword
returns-then-ends_keyword c =
    let run = c.alphanumeric_len-length.ensures.same in
    subst (λ n. Takes Keyword (n + 1) c.args.bytes.now) (sym run) (keyword_takes c.args.bytes.now c.requires (run_seen _ c.args.bytes.now true run c.if-ends_keyword.ensures))

pub returns-else-ends_keyword : goal.returns-else-ends_keyword
returns-else-ends_keyword c =
    let run = c.alphanumeric_len-length.ensures.same in
    subst (λ n. Takes Name n c.args.bytes.now) (sym run) (name_takes c.args.bytes.now c.requires (run_seen _ c.args.bytes.now false run c.if-ends_keyword.ensures))
