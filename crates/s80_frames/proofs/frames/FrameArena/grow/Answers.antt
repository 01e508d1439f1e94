use Rattle.std.proofs.Common.{◌≡◌, ◌∙◌, ◌*◌, ◌+◌, ◌-◌, length, replicate, arith, ap}
use Rattle.s80_frames.specs.Frames.{ArenaValue, frames_of}
use Rattle.s80_frames.proofs.FrameLemmas.{frames_of-copied}
use Rattle.s80_frames.proofs.frames.FrameArena.grow.Goals as goal

pub returns-clause-frames : goal.returns-clause-frames
returns-clause-frames g c =
    let a = c.self.inside in let n = a.frames in let xs = a.words.items in let m = (n + a.spare) * 38 in let whole : length xs ≡ m = c.self.invariant.0 in
    let copy = c.run_mut-old.result.now in
    ap (λ b. frames_of n b.items) c.replace-old.ensures.after ∙ ap (frames_of n) c.in_ok-larger.ensures.2
    ∙ frames_of-copied n (m - 0) xs copy (replicate (c.in-Some-checked_mul.words - length copy) a.blank) c.run_mut-old.ensures.value (omega arith) (omega arith)
    ∙ ap (λ (v : ArenaValue _). v.frames) c.self.view_is
