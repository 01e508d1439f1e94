use Rattle.std.proofs.Common.{refl, arith}
use Rattle.s80_image.specs.Image.{view_of}
use Rattle.s80_keeper.proofs.Below.{not_below}
use Rattle.s80_keeper.proofs.begin.check_places.Goals as goal
use Rattle.s80_keeper.proofs.begin.check_places.Goals.{then-image-position-via-then-image-position, then-image-position-via-else-image-position+then-not-are_below}

pub returns-then-image-position : goal.returns-then-image-position
returns-then-image-position c = (
  refl,
  elim c.then-image-position.branch [
    | then-image-position-via-then-image-position w ↦ λ few below. omega (arith, few, w.if-image-position.true)
    | then-image-position-via-else-image-position+then-not-are_below w ↦ λ few below. not_below c.args.position (view_of c.args.image.now) w.are_below.result w.are_below.ensures w.if-not-are_below.true below
  ],
)
