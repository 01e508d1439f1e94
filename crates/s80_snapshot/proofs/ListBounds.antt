-- What the classes and methods of each list keep within.
use Rattle.std.proofs.Common.{◌≡◌, ◌≤◌, List, None, Some}
use Rattle.std.specs.FinMap as map
use Rattle.s80_base.specs.declared.names.Side.{Side}
use Rattle.s80_change.specs.declared.change.Change.{Change}
use Rattle.s80_class.specs.Classes.{Name, ClassRow, IsValid, bits_variables_of, inherited_of}
use Rattle.s80_apply.specs.List.{classes_of, state_of}
use Rattle.s80_apply.proofs.LastingWithin.{within_last}
use Rattle.s80_fileout.specs.Lawful.{AreOwn}
use Rattle.s80_fileout.proofs.Held.{held_last}
use Rattle.s80_fileout.proofs.OwnRows.{few_last, own_last}
use Rattle.s80_snapshot.proofs.lemmas.NamedMaps.{Text}

pub record KeepsBounds (changes : List Change) : Type 0 where
  pub count : map.len (classes_of changes) ≤ 65536
  pub valid : IsValid (classes_of changes)
  pub inst_vars : (name : Name) (row : ClassRow) → map.get (classes_of changes) name ≡ Some row → (inherited_of (classes_of changes) name).inst_vars ≤ 64
  pub class_side_vars : (name : Name) (row : ClassRow) → map.get (classes_of changes) name ≡ Some row → (inherited_of (classes_of changes) name).class_side_vars ≤ 64
  pub bits_variables : (name : Name) (row : ClassRow) → map.get (classes_of changes) name ≡ Some row → bits_variables_of (inherited_of (classes_of changes) name) ≤ 0
  -- what every class has that isn't the kernel's
  pub own : AreOwn (classes_of changes)
  pub few : (name : Name) (side : Side) → map.len ((state_of changes).methods name side) ≤ 16384
  -- a name that no class has, has no methods
  pub others : (name : Name) (side : Side) (selector : Text) → map.get (classes_of changes) name ≡ None
      → map.get ((state_of changes).methods name side) selector ≡ None

pub bounds_of : (changes : List Change) → KeepsBounds changes
bounds_of changes =
    let within = within_last changes in
    let held = held_last changes in
    record {
      count = few_last changes;
      valid = within.valid;
      inst_vars = within.inst_vars;
      class_side_vars = within.class_side_vars;
      bits_variables = within.bits_variables;
      own = own_last changes;
      few = held.few;
      others = λ name side selector none. held.others (name, side, selector) none;
    }
