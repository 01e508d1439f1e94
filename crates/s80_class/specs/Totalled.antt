-- What a table keeps of what its classes inherit.
use Rattle.std.specs.Prelude.{◌≡◌, ◌≢◌, ◌≤◌, ◌+◌, ◌⊎◌, ℕ, List, [], Some, length, slice_get, vec_len, vec_capacity}
use Rattle.std.specs.FinMap as map
use Rattle.s80_class.specs.declared.inherited.Totals.{Totals}
use Rattle.s80_class.specs.declared.table.ClassTable.TheInside.{Inside}
use Rattle.s80_class.specs.Classes.{Name, inherited_of}
use Rattle.s80_class.specs.Table.{Table, IsNumberOf}
use Rattle.s80_class.specs.Counted.{totals}
use Rattle.s80_class.specs.Family.{Found}
use Rattle.s80_class.specs.Known.{IsKnown}

-- by the number of each class, what it has with all that it inherits
pub record AreTotals (table : Table) (kept : List Totals) : Type 0 where
  pub size : length kept ≡ length table.names
  pub each : (number : ℕ) (name : Name) → IsNumberOf table.names number name → slice_get kept number ≡ Some (totals (inherited_of table.classes name))

pub record IsTotalled (t : Inside) : Type 0 where
  pub known : IsKnown t.tree
  pub totals : AreTotals t.tree t.totals.items
  pub none_found : t.found.items ≡ []
  -- room for as many more as the table says, and for all that one change may find
  pub room : vec_len t.totals + t.tree.spare ≤ vec_capacity t.totals
  pub found_room : map.len t.tree.classes + t.tree.spare ≤ vec_capacity t.found

-- these are the totals that a number has by those that were found, or where it isn't among them those that it had
abbrev pub HasSettled : List Found → List Totals → ℕ → Totals → Type 0
HasSettled found old number t =
    ((k : ℕ) × (p : Found) × (slice_get found k ≡ Some p) × (p.0 ≡ number) × (p.1 ≡ t))
    ⊎ (((k : ℕ) (p : Found) → slice_get found k ≡ Some p → p.0 ≢ number) × (slice_get old number ≡ Some t))

pub record IsSettled (found : List Found) (old new : List Totals) : Type 0 where
  pub size : length new ≡ length old
  pub each : (number : ℕ) (t : Totals) → slice_get new number ≡ Some t → HasSettled found old number t
