-- The row of a class of the kernel.
use Rattle.std.proofs.Common.{◌≡◌, ℕ, Bool, true, false, cond, List, [], ◌∷◌, map, Option, Some, None, refl, ap, ◌∙◌}
use Rattle.std.specs.Prelude.{find, option_map, ◌||◌}
use Rattle.std.specs.List.{list_any}
use Rattle.std.specs.Str.{bytes_eq}
use Rattle.s80_kernel.specs.declared.rows.KernelClass.{KernelClass}
use Rattle.s80_kernel.specs.Rows.{kernel_rows, row_of}

find_of_map : {X Y : Type 0} (f : X → Y) (p : Y → Bool) (xs : List X) → option_map f (find (λ x. p (f x)) xs) ≡ find p (map f xs)
find_of_map f p [] = refl
find_of_map f p (x ∷ xs) = go (p (f x)) (find_of_map f p xs)
  where
    go : (b : Bool) → option_map f (find (λ x. p (f x)) xs) ≡ find p (map f xs) → option_map f (cond b (Some x) (find (λ x. p (f x)) xs)) ≡ cond b (Some (f x)) (find p (map f xs))
    go true e = refl
    go false e = e

through : {X : Type 0} (held : X → KernelClass) (o : Option X) (found : Option KernelClass) → option_map held o ≡ found → option_map (λ x. row_of (held x)) o ≡ option_map row_of found
through held None found e = ap (option_map row_of) e
through held (Some x) found e = ap (option_map row_of) e

pub row_found : {X : Type 0} (held : X → KernelClass) (o : Option X) (rows : List KernelClass) (name : List ℕ) → option_map held o ≡ find (λ row. bytes_eq row.name.now name) rows
    → map row_of rows ≡ kernel_rows → option_map (λ x. row_of (held x)) o ≡ find (λ row. bytes_eq row.name name) kernel_rows
row_found held o rows name e rows_are =
    through held o (find (λ row. bytes_eq row.name.now name) rows) e
    ∙ find_of_map row_of (λ row. bytes_eq row.name name) rows ∙ ap (find (λ row. bytes_eq row.name name)) rows_are

any_of_map : {X Y : Type 0} (f : X → Y) (p : Y → Bool) (xs : List X) → list_any (λ x. p (f x)) xs ≡ list_any p (map f xs)
any_of_map f p [] = refl
any_of_map f p (x ∷ xs) = ap (λ b. p (f x) || b) (any_of_map f p xs)

pub any_row : (p : List ℕ → Bool) (rows : List KernelClass) → map row_of rows ≡ kernel_rows → list_any (λ row. p row.name.now) rows ≡ list_any (λ row. p row.name) kernel_rows
any_row p rows rows_are = any_of_map row_of (λ row. p row.name) rows ∙ ap (list_any (λ row. p row.name)) rows_are
