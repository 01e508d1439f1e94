-- What a block of raw memory owns, at items of the row R. Below, t is the allocator's right to free a block.
use Rattle.std.specs.Prelude.{ℕ, ◌*◌, ◌^◌, List, length}
use Rattle.std.specs.Mem.{type_size}
use Rattle.std.specs.Allocator.{block_with_items}
use Rattle.std.specs.Vec.Ownership.{owns_if, has_block}
use base.Fml.{Fml, fsep, flt}
use mir.Syntax.{Ty}
use denote.RattleType.{RattleType}
use denote.RawPtr.{Ptr, in_block}

-- the block at p has room for c items and holds xs; with room for none there is no block
abbrev pub block_owns : (Ty → Ptr → Fml) → (R : RattleType) → Ptr → ℕ → List R.Denot → Fml
block_owns t R p c xs = fsep (flt (c * type_size R) (2 ^ 63)) (in_block p (owns_if (has_block c) (block_with_items t R p (length xs) c xs)))
