use Rattle.std.proofs.Common.{◌∙◌, ◌≤◌, ◌-◌, length, take, arith, sym, ap}
use Rattle.s80_frames.specs.Frames.{ArenaValue, frames_of}
use Rattle.s80_frames.proofs.FrameLemmas.{length-frames_of, frames_of-below}
use Rattle.s80_frames.proofs.frames.FrameArena.pop.Goals as goal

pub returns-clause-frames : goal.returns-clause-frames
returns-clause-frames g c =
    let n = c.self.inside.frames in let xs = c.self.inside.words.items in let le : n - 1 ≤ n = omega arith in
    sym (frames_of-below (n - 1) n xs le) ∙ ap (λ m. take (m - 1) (frames_of n xs)) (sym (length-frames_of n xs)) ∙ ap (λ (v : ArenaValue _). take (length v.frames - 1) v.frames) c.self.view_is

pub returns-clause-count : goal.returns-clause-count
returns-clause-count g c =
    let n = c.self.inside.frames in let xs = c.self.inside.words.items in
    length-frames_of (n - 1) xs ∙ ap (λ m. m - 1) (sym (length-frames_of n xs)) ∙ ap (λ (v : ArenaValue _). length v.frames - 1) c.self.view_is
