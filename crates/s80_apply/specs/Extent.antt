-- What a class would have, in the numbers of the code.
use Rattle.std.specs.Prelude.{◌≡◌, ◌+◌, ℕ, length, if◌then◌else◌}
use Rattle.s80_form.specs.declared.definition.Definition.{Definition}
use Rattle.s80_class.specs.declared.inherited.Totals.{Totals}
use Rattle.s80_class.specs.declared.inherited.Greatest.{Greatest}
use Rattle.s80_class.specs.Classes.{Extent, own_or, is_bits}
use Rattle.s80_class.specs.Counted.{counted}

-- the numbers are those of the extent
pub record IsGreatest (extent : Extent) (g : Greatest) : Type 0 where
  pub inst_vars : g.inst_vars ≡ extent.inst_vars
  pub class_side_vars : g.class_side_vars ≡ extent.class_side_vars
  pub bits_variables : g.bits_variables ≡ extent.bits_variables

-- a class as it is defined, with so many class-side variables, under a superclass with these totals
abbrev pub totals_on : Totals → Definition → ℕ → Totals
totals_on t d side = record {
  inst_vars = counted (t.inst_vars + length d.inst_vars);
  class_side_vars = counted (t.class_side_vars + side);
  kind = own_or d.kind t.kind;
}

abbrev pub alone : Totals → Greatest
alone t = record { inst_vars = t.inst_vars; class_side_vars = t.class_side_vars; bits_variables = if is_bits t.kind then t.inst_vars else 0 }
