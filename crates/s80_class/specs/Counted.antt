-- What a class inherits as the table counts it: a count stands still at the end of its type.
use Rattle.std.specs.Prelude.{ℕ, ◌+◌, ◌-◌, ◌^◌, List, length, min, max, if◌then◌else◌}
use Rattle.s80_form.specs.declared.definition.Kind.{Kind}
use Rattle.s80_form.specs.declared.definition.Kind.TheVariants.{Plain}
use Rattle.s80_class.specs.declared.inherited.Totals.{Totals}
use Rattle.s80_class.specs.declared.inherited.Greatest.{Greatest}
use Rattle.s80_class.specs.Classes.{Name, ClassRow, Inherited, Extent, own_or, is_bits}

abbrev pub counted : ℕ → ℕ
counted n = min n (2 ^ 64 - 1)

abbrev pub totals : Inherited → Totals
totals t = record { inst_vars = counted t.inst_vars; class_side_vars = counted t.class_side_vars; kind = t.kind }

abbrev pub greatest_of : Extent → Greatest
greatest_of e = record { inst_vars = counted e.inst_vars; class_side_vars = counted e.class_side_vars; bits_variables = counted e.bits_variables }

-- ---- a class after the other

-- of no class
abbrev pub nothing : Totals
nothing = record { inst_vars = 0; class_side_vars = 0; kind = Plain }

-- of classes, and of those above them
abbrev pub over : Totals → Totals → Totals
over a b = record {
  inst_vars = counted (a.inst_vars + b.inst_vars);
  class_side_vars = counted (a.class_side_vars + b.class_side_vars);
  kind = own_or a.kind b.kind;
}

-- of a class alone
abbrev pub own : Kind → List Name → List Name → Totals
own kind inst_vars class_side_vars = record { inst_vars = counted (length inst_vars); class_side_vars = counted (length class_side_vars); kind = kind }

abbrev pub own_of : ClassRow → Totals
own_of row = own row.kind row.inst_vars row.class_side_vars

-- the greatest of one more
abbrev pub raised : Greatest → Totals → Greatest
raised most t = record {
  inst_vars = max most.inst_vars t.inst_vars;
  class_side_vars = max most.class_side_vars t.class_side_vars;
  bits_variables = max most.bits_variables (if is_bits t.kind then t.inst_vars else 0);
}
