-- How classes are spelled and read.
use Rattle.std.specs.Prelude.{ℕ, ◌==◌, ◌&&◌, not, Bool, true, false, nat_le, List, [], find, map, codes, length, slice_get, Option, option_map, if◌then◌else◌}
use Rattle.std.specs.List.{list_any}
use Rattle.std.specs.Option.{option_map_or}
use Rattle.std.specs.Str.{bytes_eq}
use Rattle.s80_kernel.specs.Rows.{KernelRow, kernel_rows}
use Rattle.s80_form.specs.declared.definition.Kind.{Kind}
use Rattle.s80_form.specs.declared.definition.Kind.TheVariants.{Plain, Pointers, Bytes, Words}
use Rattle.s80_form.specs.Definition.{split_names}
use Rattle.s80_form.specs.Name.{is_class_name, is_name}
use Rattle.s80_image.specs.declared.image.ClassHeading.{ClassHeading}
use Rattle.s80_image.specs.declared.image.ClassVariables.{ClassVariables}
use Rattle.s80_image.specs.declared.image.ImageClass.{ImageClass}
use Rattle.s80_image.specs.Format.{Format, byte, list_of, mapped, number_where, pair, text, text_where}
use Rattle.s80_image.specs.Parts.{Name, is_above, last_of}
use Rattle.s80_image.specs.Methods.{MethodView, methods, methods_of}

-- ---- without where they lie in memory

pub record ClassView : Type 0 where
  pub heading : ClassHeading
  pub instance : List MethodView
  pub class : List MethodView

abbrev pub class_of : ImageClass → ClassView
class_of c = record { heading = c.heading; instance = methods_of c.instance_methods.items; class = methods_of c.class_methods.items }

abbrev pub classes_of : List ImageClass → List ClassView
classes_of cs = map class_of cs

-- ---- classes of the kernel

-- the row of a class, if it is one of the kernel's
unfoldable pub kernel_row : Name → Option KernelRow
kernel_row name = find (λ row. bytes_eq row.name name) kernel_rows

-- what a class of the kernel has to have, as a test; another class passes
abbrev pub as_in : Option KernelRow → (KernelRow → Bool) → Bool
as_in row test = option_map_or test row true

-- ---- formats

abbrev pub kind_number : Kind → ℕ
kind_number Plain = 0
kind_number Pointers = 1
kind_number Bytes = 2
kind_number Words = 3

abbrev pub kind_of : ℕ → Kind
kind_of n = if n == 0 then Plain else (if n == 1 then Pointers else (if n == 2 then Bytes else Words))

unfoldable pub kind : Option KernelRow → Format Kind
kind row = mapped kind_of kind_number (number_where (λ n. nat_le n 3 && as_in row (λ r. n == r.kind)) byte)

-- these names, where they are given
abbrev pub as_many : Option (List Name) → ℕ → Bool
as_many names n = option_map_or (λ given. n == length given) names true

abbrev pub stands_at : Option (List Name) → ℕ → Name → Bool
stands_at names place name = option_map_or (λ given. option_map_or (bytes_eq name) (slice_get given place) false) names true

-- a name that doesn't stand before
abbrev pub may_stand : Option (List Name) → List Name → Name → Bool
may_stand given before name = is_name name && not (list_any (bytes_eq name) before) && stands_at given (length before) name

unfoldable pub names : ℕ → Option (List Name) → Format (List Name)
names most given = list_of (λ n. nat_le n most && as_many given n) (λ before. text_where (may_stand given before))

abbrev pub none_given : Option KernelRow → Option (List Name)
none_given row = option_map (λ _. []) row

abbrev pub inst_vars_given : Option KernelRow → Option (List Name)
inst_vars_given row = option_map (λ r. split_names r.inst_vars) row

-- instance variables, class variables, pools and class-side variables
unfoldable pub variables : Option KernelRow → Format ClassVariables
variables row = mapped
    (λ p. record { instance = p.0; class = p.1.0; pools = p.1.1.0; class_side = p.1.1.1 })
    (λ v. (v.instance, (v.class, (v.pools, v.class_side))))
    (pair (names 64 (inst_vars_given row)) (λ _. pair (names 256 (none_given row)) (λ _. pair (names 256 (none_given row)) (λ _. names 64 (none_given row)))))

abbrev pub superclass_text : Option KernelRow → Format Name
superclass_text row = text_where (λ name. as_in row (λ r. bytes_eq r.superclass name))

abbrev pub category_text : Option KernelRow → Format (List ℕ)
category_text row = text_where (λ category. as_in row (λ _. bytes_eq (codes "Kernel") category))

-- name, superclass, kind, variables, category and comment, behind another class in the order of names
abbrev pub heading_fields : Option Name → Format (Name × (Name × (Kind × (ClassVariables × (List ℕ × List ℕ)))))
heading_fields last =
    pair (text_where (λ name. is_class_name name && is_above last name))
    (λ name. let row = kernel_row name in
    pair (superclass_text row) (λ _. pair (kind row) (λ _. pair (variables row) (λ _. pair (category_text row) (λ _. text)))))

unfoldable pub heading : Option Name → Format ClassHeading
heading last = mapped
    (λ p. record { name = p.0; superclass = p.1.0; kind = p.1.1.0; variables = p.1.1.1.0; category = p.1.1.1.1.0; comment = p.1.1.1.1.1 })
    (λ h. (h.name, (h.superclass, (h.kind, (h.variables, (h.category, h.comment))))))
    (heading_fields last)

unfoldable pub class : Option Name → Format ClassView
class last = mapped
    (λ p. record { heading = p.0; instance = p.1.0; class = p.1.1 })
    (λ c. (c.heading, (c.instance, c.class)))
    (pair (heading last) (λ _. pair methods (λ _. methods)))

abbrev pub class_behind : List ClassView → Format ClassView
class_behind before = class (option_map (λ c. c.heading.name) (last_of before))

unfoldable pub classes : Format (List ClassView)
classes = list_of (λ n. nat_le n 65536) class_behind
