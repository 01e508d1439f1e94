-- How many of the activations that are alive are of each block.
use Rattle.std.specs.Prelude.{◌≡◌, ℕ, cond, List, get_or, Option, Some, None}
use Rattle.std.specs.List.{sum_by}
use Rattle.s80_machine.specs.Turn.{Context}
use Rattle.s80_machine.specs.World.{Activation, own, home, block, is_activation_of_block}

-- the block whose activation it is, where it is one of a block
abbrev pub block_in : Activation → Option ℕ
block_in (own temporaries) = None
block_in (home h) = None
block_in (block b h) = Some b

-- one where it is an activation of the block
abbrev pub one_of : ℕ → Context → ℕ
one_of b c = cond (is_activation_of_block b c.activation) 1 0

-- how many of them are
abbrev pub count_of : ℕ → List Context → ℕ
count_of b contexts = sum_by (one_of b) contexts

-- each block has its count at its number, and those past the end have none
pub record AreCounted (counts : List ℕ) (contexts : List Context) : Type 0 where
  pub each : (b : ℕ) → get_or counts b 0 ≡ count_of b contexts
