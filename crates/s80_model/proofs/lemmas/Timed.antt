-- Chunks file nothing out, so with any settings they ask one thing.
use Rattle.std.proofs.Common.{All, List, [], ◌∷◌, map}
use Rattle.std.proofs.lemmas.List.Elements.{All-cons, All-nil}
use Rattle.s80_chunk.specs.declared.item.Item.{Item}
use Rattle.s80_model.specs.declared.item.SessionItem.TheVariants.{Chunk}
use Rattle.s80_model.specs.Asked.{IsTimed}
use Rattle.s80_model.specs.Settings.{Settings}

pub chunks_timed : (settings : Settings) (given : List Item) → All (IsTimed settings) (map Chunk given)
chunks_timed settings [] = All-nil (IsTimed settings)
chunks_timed settings (item ∷ given) = All-cons (IsTimed settings) (Chunk item) (map Chunk given) tt (chunks_timed settings given)
