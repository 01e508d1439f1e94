use Rattle.std.proofs.Common.{◌∙◌, refl}
use Rattle.s80_frames.proofs.FrameLemmas.{one_frame}
use Rattle.s80_frames.proofs.frames.FrameArena.top.Goals as goal

pub returns : goal.returns
returns g c =
    ((refl, λ w. refl), record { writes_back = tt; frame = one_frame c.upper.result.now c.upper.ensures.words ∙ c.upper.ensures.frames; words = c.upper.ensures.words })
