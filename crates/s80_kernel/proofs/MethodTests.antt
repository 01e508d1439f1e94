-- Tests that the rows of the kernel's methods pass, each computed once.
use Rattle.std.proofs.Common.{◌≡◌, ℕ, ◌+◌, Bool, true, false, not, ◌&&◌, ◌==◌, nat_le, List, [], ◌∷◌, length, map, slice_range, refl}
use Rattle.std.specs.List.{list_all, flat_map}
use Rattle.std.specs.Str.{bytes_eq}
use Rattle.s80_base.specs.Byte.{is_separator}
use Rattle.s80_kernel.specs.Rows.{is_kernel_class}
use Rattle.s80_kernel.specs.Text.{kernel_text, sections}
use Rattle.s80_kernel.specs.Methods.{KernelMethodRow, all_filed_in, filed_in, is_method, kernel_methods}

abbrev pub stands : List ℕ → KernelMethodRow → Bool
stands text row =
    nat_le (row.position + length row.source) (length text)
    && bytes_eq (slice_range text row.position (row.position + length row.source)) row.source

abbrev pub is_begun : List ℕ → Bool
is_begun [] = false
is_begun (b ∷ bs) = not (is_separator b)

abbrev pub is_plain : List ℕ → Bool
is_plain source = is_begun source && (list_all (λ b. not (b == 33)) source && nat_le (length source) 65535)

abbrev pub is_other : KernelMethodRow → KernelMethodRow → Bool
is_other a b = not (is_method a.class a.on_class_side a.selector b)

abbrev pub apart : List KernelMethodRow → Bool
apart [] = true
apart (row ∷ rows) = list_all (is_other row) rows && apart rows

pub all_of_sections : map filed_in kernel_methods ≡ flat_map all_filed_in sections
unfolding kernel_methods
all_of_sections = refl

pub all_of_classes : list_all (λ row. is_kernel_class row.class) kernel_methods ≡ true
unfolding kernel_methods is_kernel_class
all_of_classes = refl

pub all_plain : list_all (λ row. is_plain row.source) kernel_methods ≡ true
unfolding kernel_methods
all_plain = refl

pub all_apart : apart kernel_methods ≡ true
unfolding kernel_methods
all_apart = refl

pub all_stand : list_all (stands kernel_text) kernel_methods ≡ true
unfolding kernel_methods kernel_text
all_stand = refl
