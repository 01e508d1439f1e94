use Rattle.std.proofs.Common.{◌∙◌, ◌≤◌, ◌+◌, length, take, arith, sym, ap}
use Rattle.s80_frames.specs.Frames.{ArenaValue, frames_of}
use Rattle.s80_frames.proofs.FrameLemmas.{length-frames_of, frames_of-below}
use Rattle.s80_frames.proofs.frames.FrameArena.raise.Goals as goal

pub returns-clause-count : goal.returns-clause-count
returns-clause-count g c =
    let n = c.self.inside.frames in let xs = c.self.inside.words.items in
    length-frames_of (n + 1) xs ∙ ap (λ m. m + 1) (sym (length-frames_of n xs)) ∙ ap (λ (v : ArenaValue _). length v.frames + 1) c.self.view_is

pub returns-clause-below : goal.returns-clause-below
returns-clause-below g c =
    let n = c.self.inside.frames in let xs = c.self.inside.words.items in let is = ap (λ (v : ArenaValue _). v.frames) c.self.view_is in let le : n ≤ n + 1 = omega arith in
    ap (λ fs. take (length fs) (frames_of (n + 1) xs)) (sym is) ∙ ap (λ m. take m (frames_of (n + 1) xs)) (length-frames_of n xs) ∙ frames_of-below n (n + 1) xs le ∙ is
