-- A class is found by its name among the rows.
use Rattle.std.proofs.Common.{◌≡◌, ℕ, List, [], ◌∷◌, map, refl, ap, ◌∙◌, ◌||◌}
use Rattle.std.specs.List.{list_any}
use Rattle.std.specs.Str.{bytes_eq}
use Rattle.s80_kernel.specs.declared.rows.KernelClass.{KernelClass}
use Rattle.s80_kernel.specs.Rows.{has_name, is_kernel_class, kernel_rows, row_of}

named : (rows : List KernelClass) (name : List ℕ) → list_any (λ row. bytes_eq row.name.now name) rows ≡ has_name (map row_of rows) name
named [] name = refl
named (row ∷ rows) name = ap (λ b. bytes_eq row.name.now name || b) (named rows name)

pub named_in_kernel : (rows : List KernelClass) (name : List ℕ) → map row_of rows ≡ kernel_rows → list_any (λ row. bytes_eq row.name.now name) rows ≡ is_kernel_class name
unfolding is_kernel_class
named_in_kernel rows name same = named rows name ∙ ap (λ all. has_name all name) same
