-- What a block holds once a run of its items is given back.
use Rattle.std.specs.Prelude.{ℕ, List, ◌++◌, length, take, drop}
use Rattle.std.specs.Borrow.{Fml, RattleType, MutBor, Array, Lends}
use Rattle.std.specs.List.{refill}
use Rattle.std.specs.declared.alloc.Allocator.{Ghosts}
use Rattle.s80_frames.specs.declared.block.Block.{Block}
use Rattle.s80_frames.specs.contracts.block.Block.{the_row as block-row}

-- as many items as before, with ws written over those from i on
abbrev pub written_from : {X : Type 0} → List X → ℕ → List X → List X
written_from xs i ws = refill (length xs) xs (take i xs ++ (ws ++ drop (length ws) (drop i xs)))

abbrev pub with_written_from : {X Z : Type 0} → Block X Z → ℕ → List X → Block X Z
with_written_from b i ws = record b { items = written_from b.items i ws }

-- r is lent from the item i on
abbrev pub LendsRun : (R Z : RattleType) → Ghosts Z.Denot → MutBor (Block R.Denot Z.Denot) → ℕ → MutBor (List R.Denot) → Fml
LendsRun R Z heap b i r = Lends (block-row R Z heap) (Array R 0) b r (with_written_from b.now i)
