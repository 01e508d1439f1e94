use Rattle.std.proofs.Common.{◌≤◌, ◌∙◌, length, arith}
use Rattle.s80_frames.proofs.FrameLemmas.{blank_more}
use Rattle.s80_frames.proofs.frames.filled.Goals as goal

pub loop-i-2-preserved : goal.loop-i-2-preserved
loop-i-2-preserved g c =
    let was = c.loop-i-2.invariant in let put = c.put-in-loop-i-2.ensures in let few : length c.args.words.now ≤ c.loop-i-2.i = was.3 in
    (put.0 ∙ blank_more c.args.words.now c.loop-i-2.block.items c.loop-i-2.i c.args.blank was.0 few, put.1 ∙ was.1, put.2 ∙ was.2, omega arith)
