use Rattle.std.proofs.Common.{◌≡◌, ◌<◌, ◌*◌, ◌+◌, ℕ, List, length, arith, subst}
use Rattle.std.specs.Prelude.{slice_index_or}
use Rattle.s80_frames.specs.Frames.{ArenaValue}
use Rattle.s80_frames.proofs.FrameLemmas.{each_long}
use Rattle.s80_frames.proofs.frames.FrameArena.spare.Goals as goal

pub returns-clause-words : goal.returns-clause-words
returns-clause-words g c =
    let n = c.self.inside.frames in let xs = c.self.inside.words.items in let long : length xs ≡ (n + c.self.inside.spare) * 38 = c.self.invariant.0 in
    subst (λ (v : ArenaValue _). (k : ℕ) (d : List _) → k < length v.frames → length (slice_index_or v.frames k d) ≡ 38) c.self.view_is (each_long n xs (omega arith))
