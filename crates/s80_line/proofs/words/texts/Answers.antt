use Rattle.std.proofs.Common.{arith, sym, ◌∙◌, subst, IsUtf8}
use Rattle.s80_line.proofs.Utf8.{all_taken, one_more}
use Rattle.s80_line.proofs.words.texts.Goals as goal

pub returns-in_default-clause-none : goal.returns-in_default-clause-none
returns-in_default-clause-none c =
    λ all. c.in_default.ensures.cases.0 (subst IsUtf8 (sym (c.bytes.ensures ∙ c.word-item.is)) (all c.loop-word.word-index c.word-item.result (omega arith)))

pub loop-word-preserved : goal.loop-word-preserved
loop-word-preserved c =
    one_more (λ s. s.now) c.args.words.now c.loop-word.word-index _ _ c.in-Ok.text c.word-item.result c.loop-word.invariant (omega arith) c.word-item.is
    (c.in-Ok.ensures.cases.0 ∙ c.bytes.ensures) (subst IsUtf8 c.bytes.ensures c.in-Ok.ensures.cases.1) c.in_ok-push.ensures.items

pub returns-clause-texts : goal.returns-clause-texts
returns-clause-texts c = all_taken (λ s. s.now) c.args.words.now c.loop-word.word-index _ c.loop-word.invariant (omega arith)
