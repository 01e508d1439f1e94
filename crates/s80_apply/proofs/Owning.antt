-- Whether a method is the kernel's own, as it is looked for.
use Rattle.std.proofs.Common.{◌≡◌, ◌↔◌, ◌+◌, ◌∙◌, ◌&&◌, Bool, false, refl, sym, ap, List, ℕ, Option, Some, None, option_map, codes, slice_range}
use Rattle.std.specs.List.{All, Contains}
use Rattle.std.specs.Str.{bytes_eq}
use Rattle.std.proofs.lemmas.List.Elements.{All-contains}
use Rattle.s80_base.specs.declared.names.Side.{Side}
use Rattle.s80_kernel.specs.declared.methods.KernelMethod.{KernelMethod}
use Rattle.s80_kernel.specs.Methods.{KernelMethodRow, StandsIn, found_method, held_place, kernel_methods, key_of, place_of}
use Rattle.s80_kernel.specs.Text.{kernel_text}
use Rattle.s80_class.specs.Classes.{Name}
use Rattle.s80_apply.specs.State.{MethodRow, is_kernel_method, is_kernels, on_class_side}
use Rattle.s80_apply.proofs.Places.{some_same}

-- what is found by a class, side and selector is the one method that they name
abbrev AreNamed : Type 0
AreNamed = (class : List ℕ) (on_class_side : Bool) (selector : List ℕ) (row : KernelMethodRow) → found_method class on_class_side selector ≡ Some row ↔ Contains kernel_methods row × (key_of row ≡ (class, on_class_side, selector))

module _ (class : Name) (side : Side) (selector : List ℕ) (row : MethodRow) (on : Bool) (on_is : on ≡ on_class_side side) where
  abbrev looked : Option KernelMethodRow
  looked = found_method class (on_class_side side) selector

  looked_is : option_map place_of (found_method class on selector) ≡ option_map place_of looked
  looked_is = ap (λ s. option_map place_of (found_method class s selector)) on_is

  -- the kernel has one there, whose category and source are compared
  pub own_there : (own : KernelMethod) (same : Bool) → All (StandsIn kernel_text) kernel_methods → AreNamed → Some (held_place own) ≡ option_map place_of (found_method class on selector)
      → same ≡ (bytes_eq row.category (codes "kernel") && bytes_eq row.source (slice_range kernel_text own.position (own.position + own.length))) → same ≡ is_kernel_method class side selector row
  own_there own same stand named found same_is = go looked refl (found ∙ looked_is)
    where
      go : (o : Option KernelMethodRow) → looked ≡ o → Some (held_place own) ≡ option_map place_of o → same ≡ is_kernel_method class side selector row
      go None is none = absurd (cc)
      go (Some k) is some =
          let places = some_same (held_place own) (place_of k) some in
          let stands : StandsIn kernel_text k = All-contains (StandsIn kernel_text) kernel_methods k stand ((named class (on_class_side side) selector k).0 is).0 in
          let source : slice_range kernel_text own.position (own.position + own.length) ≡ k.source = (λ i. slice_range kernel_text (places i).position ((places i).position + (places i).size)) ∙ stands.same in
          same_is ∙ ap (λ s. bytes_eq row.category (codes "kernel") && bytes_eq row.source s) source ∙ ap (is_kernels row) (sym is)

  -- or none
  pub own_absent : None ≡ option_map place_of (found_method class on selector) → false ≡ is_kernel_method class side selector row
  own_absent found = go looked refl (found ∙ looked_is)
    where
      go : (o : Option KernelMethodRow) → looked ≡ o → None ≡ option_map place_of o → false ≡ is_kernel_method class side selector row
      go None is none = ap (is_kernels row) (sym is)
      go (Some k) is some = absurd (cc)
