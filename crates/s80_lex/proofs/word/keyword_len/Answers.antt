use Rattle.std.proofs.Common.{true, false, ◌+◌, subst, sym}
use Rattle.s80_lex.specs.Spelling.{IsKeyword}
use Rattle.s80_lex.specs.Front.{IsMost}
use Rattle.s80_lex.proofs.Words.{run_seen, name_run, keyword_most, no_keyword}
use Rattle.s80_lex.proofs.word.keyword_len.Goals as goal

pub returns-then-ends_keyword : goal.returns-then-ends_keyword
returns-then-ends_keyword c =
    let name = name_run _ c.args.bytes.now c.in_ok-length.ensures in
    subst (λ n. IsMost IsKeyword (n + 1) c.args.bytes.now) (sym name.1) (keyword_most c.args.bytes.now name.0 (run_seen _ c.args.bytes.now true name.1 c.if-ends_keyword.ensures))

pub returns-else-ends_keyword : goal.returns-else-ends_keyword
returns-else-ends_keyword c =
    let name = name_run _ c.args.bytes.now c.in_ok-length.ensures in
    no_keyword c.args.bytes.now (run_seen _ c.args.bytes.now false name.1 c.if-ends_keyword.ensures)
