-- The same objects, where a block has its starting place for its number.
use Rattle.std.specs.Prelude.{ℕ, map}
use Rattle.s80_object.specs.Body.{BodyTree, pointers, bytes, words, home, block}
use Rattle.s80_object.specs.Objects.{State as Objects}
use Rattle.s80_object.specs.declared.value.Value.{Value}
use Rattle.s80_prims.specs.Primitives.{World as Reached}

module _ (at : Value → ℕ → ℕ) where
  abbrev pub placed : BodyTree → BodyTree
  placed (block whole b count) = block whole (at whole b) count
  placed (pointers class fields items) = pointers class fields items
  placed (bytes class items) = bytes class items
  placed (words class items) = words class items
  placed (home m r temporaries) = home m r temporaries

  abbrev pub image : Objects → Objects
  image s = record s { bodies = map placed s.bodies }

  abbrev pub image_reached : Reached → Reached
  image_reached w = record w { objects = image w.objects }
