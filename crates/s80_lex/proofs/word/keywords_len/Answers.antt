use Rattle.s80_lex.proofs.Keywords.{keywords_start, keywords_step, keywords_end, no_keywords}
use Rattle.s80_lex.proofs.word.keywords_len.Goals as goal

pub returns-in_err-length : goal.returns-in_err-length
returns-in_err-length c = rw c.from_residual.ensures (no_keywords c.args.bytes.now c.in_err-length.ensures)

pub loop-more-init : goal.loop-more-init
loop-more-init c = keywords_start c.in_ok-length.length c.args.bytes.now c.in_ok-length.ensures

pub loop-more-preserved : goal.loop-more-preserved
loop-more-preserved c = keywords_step c.loop-more.length c.in-Some.more c.args.bytes.now c.loop-more.invariant.0 c.loop-more.invariant.1 c.in-Some.ensures

pub returns : goal.returns
returns c = keywords_end c.loop-more.length c.args.bytes.now c.loop-more.invariant.0 c.loop-more.invariant.1 c.in_default.ensures
