-- What an arena is once its upper frames are given back.
use Rattle.std.specs.Prelude.{ℕ, List, ◌++◌}
use Rattle.std.specs.Borrow.{Lends, LendsBoth, MutBor, Fml, Array, RattleType}
use Rattle.s80_frames.specs.Frames.{ArenaValue, with_upper}
use Rattle.s80_frames.specs.contracts.frames.FrameArena.{the_row}

abbrev pub with_written : {X : Type 0} → ArenaValue X → ℕ → List X → ArenaValue X
with_written a k words = record a { frames = with_upper k a.frames words }

module _ (W : RattleType) where
  -- the upper k frames are lent as one slice
  abbrev pub LendsUpper : MutBor (ArenaValue W.Denot) → ℕ → MutBor (List W.Denot) → Fml
  LendsUpper s k r = Lends (the_row W) (Array W 0) s r (with_written s.now k)

  -- the two upper frames are lent as two slices: what stands in them at the end is the frames, and all below is as before
  abbrev pub LendsTwoTops : MutBor (ArenaValue W.Denot) → MutBor (List W.Denot) × MutBor (List W.Denot) → Fml
  LendsTwoTops s r = LendsBoth (the_row W) (Array W 0) (Array W 0) s r (λ lower upper. with_written s.now 2 (lower ++ upper))

  abbrev pub LendsHalves : MutBor (List W.Denot) → MutBor (List W.Denot) × MutBor (List W.Denot) → Fml
  LendsHalves s r = LendsBoth (Array W 0) (Array W 0) (Array W 0) s r ◌++◌
