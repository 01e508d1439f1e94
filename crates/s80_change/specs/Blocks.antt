-- Bytes that begin with a block.
use Rattle.std.specs.Prelude.{◌≡◌, ◌≢◌, List, ℕ, [], ◌++◌, length}
use Rattle.s80_change.specs.declared.change.Change.{Change}
use Rattle.s80_change.specs.Block.{framed, block, IsLawful}
use Rattle.s80_change.specs.declared.framing.Framing.{Framing}
use Rattle.s80_change.specs.declared.first.FirstBlock.{FirstBlock}
use Rattle.s80_change.specs.declared.first.FirstBlock.TheVariants.{Found, Absent, Unended}

-- the bytes begin with the block of this lawful change
pub record BeginsWith (bytes : List ℕ) (change : Change) : Type 0 where
  pub lawful : IsLawful change
  pub after : List ℕ
  pub begins : bytes ≡ block change ++ after

-- the bytes begin with no block of a lawful change
abbrev pub BeginsWithNone : List ℕ → Type 0
BeginsWithNone bytes = (change : Change) → BeginsWith bytes change → ⊥

-- the bytes end before a block does: they are a front of a framing, and not all of it
pub record AreUnended (bytes : List ℕ) : Type 0 where
  pub framing : Framing
  pub more : List ℕ
  pub goes_on : framed framing ≡ bytes ++ more
  pub some : more ≢ []
  pub none : BeginsWithNone bytes

-- what the bytes begin with: a block; or none, whatever follows; or none that is whole in them
abbrev pub IsFirstBlock : List ℕ → FirstBlock → Type 0
IsFirstBlock bytes (Found change count) = BeginsWith bytes change × (count ≡ length (block change))
IsFirstBlock bytes Absent = (more : List ℕ) → BeginsWithNone (bytes ++ more)
IsFirstBlock bytes Unended = AreUnended bytes
