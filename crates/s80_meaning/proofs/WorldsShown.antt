-- Worlds that change alike on both sides: a method gets its number, an object is made, a primitive changes objects.
use Rattle.std.proofs.Common.{◌≡◌, ◌∙◌, ap, sym}
use Rattle.s80_object.specs.Body.{BodyTree}
use Rattle.s80_object.specs.Objects.{with_body}
use Rattle.s80_meaning.specs.Image.{image, image_reached, placed}
use Rattle.s80_meaning.proofs.NaturalObjects.{with_body_image}
use Rattle.s80_prims.specs.Primitives.{World as Reached}
use Rattle.s80_machine.specs.World.{World, Key, changed, numbered, with_objects}
use Rattle.s80_meaning.proofs.Variables.{Alike, alike_by, shown_again, shown_by}
use Rattle.s80_meaning.proofs.KeysOnce as numbers
use Rattle.s80_meaning.proofs.Stays.{Extends, IsFine, IsPlaced, Later, place_in}
use Rattle.s80_meaning.proofs.Corresponds.{Setting, facts, shown}

module _ (on : Setting) where
  open on use {starts}

  pub numbered_shown : (w : World) (key : Key) → IsFine (facts on) w → numbered (shown on w) key ≡ shown on (numbered w key)
  numbered_shown w key fine = let k = numbers.numbered_alike (facts on) w key fine in shown_again starts (facts on) w (numbered w key) k.later (λ n whole b count e. fine.placed n whole b count e)

  -- an object that is made alike on both sides, where there is room
  pub made_shown : (w : World) (b : BodyTree) → Later w (with_objects w (with_body w.objects b)) → IsPlaced (facts on) w (with_body w.objects b)
      → with_objects w (with_body (image (place_in starts w) w.objects) (placed (place_in starts w) b)) ≡ shown on (with_objects w (with_body w.objects b))
  made_shown w b later fine = ap (with_objects w) (sym (with_body_image (place_in starts w) w.objects b)) ∙ shown_again starts (facts on) w (with_objects w (with_body w.objects b)) later fine

  -- what a primitive changed
  pub changed_alike : (w : World) (r : Reached) → IsFine (facts on) w → Extends w.objects r.objects → Alike (facts on) w (changed w r)
  changed_alike w r fine ext =
      let more = alike_by (facts on) w r.objects fine ext in
      record { later = record { keys = more.later.keys; homes = more.later.homes; ticks = more.later.ticks }; fine = record { placed = more.fine.placed; unique = more.fine.unique; made = more.fine.made; in_time = more.fine.in_time } }

  pub changed_shown : (w : World) (r : Reached) → IsFine (facts on) w → Extends w.objects r.objects → changed (shown on w) (image_reached (place_in starts w) r) ≡ shown on (changed w r)
  changed_shown w r fine ext = ap (λ (x : World). record x { transcript = r.transcript }) (shown_by starts (facts on) w r.objects fine ext)
