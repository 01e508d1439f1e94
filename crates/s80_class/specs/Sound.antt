-- What the representation of a table owes.
use Rattle.std.specs.Prelude.{◌≤◌, ◌+◌, ◌^◌, vec_len, vec_capacity}
use Rattle.s80_class.specs.declared.tree.ClassTree.TheInside.{Inside}
use Rattle.s80_class.specs.Kept.{IsKept}
use Rattle.s80_class.specs.Below.{IsIndexed}

pub record IsSound (t : Inside) : Type 0 where
  pub kept : IsKept t.entries.items t.order.items
  pub indexed : IsIndexed t.entries.items t.subclasses.items
  -- room for as many more as the table says, whose numbers fit
  pub room : vec_len t.entries + t.spare ≤ vec_capacity t.entries
  pub order_room : vec_len t.order + t.spare ≤ vec_capacity t.order
  pub below_room : vec_len t.subclasses + t.spare ≤ vec_capacity t.subclasses
  pub numbers : vec_len t.entries + t.spare ≤ 2 ^ 32
