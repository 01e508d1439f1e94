-- A condensed list is accepted, and makes the state.
use Rattle.std.proofs.Common.{◌≡◌, ◌∙◌, ◌++◌, ℕ, refl, ap, List, [], ◌∷◌}
use Rattle.std.specs.FinMap as map
use Rattle.s80_base.specs.declared.names.Side.{Side}
use Rattle.s80_change.specs.declared.change.Change.{Change}
use Rattle.s80_change.specs.declared.change.Change.TheVariants.{Form}
use Rattle.s80_form.specs.declared.form.Form.TheVariants.{NoChanges}
use Rattle.s80_class.specs.Classes.{Name}
use Rattle.s80_apply.specs.List.{state_of}
use Rattle.s80_apply.specs.State.{MethodRow, State, kernel_state}
use Rattle.s80_apply.proofs.LastingKernel.{stands_last}
use Rattle.s80_apply.proofs.LastingWithin.{within_last}
use Rattle.s80_fileout.specs.Condensed.{condensed_with, for_methods, kernel_part, made_with, own_part}
use Rattle.s80_fileout.proofs.Leading.{Leads, leads_one, leads_then}
use Rattle.s80_fileout.proofs.KernelPart.{IsSettled, leads_kernel_part}
use Rattle.s80_fileout.proofs.OwnRows.{few_last, own_last}
use Rattle.s80_fileout.proofs.OwnPart.{AllMade, leads_own_part}
use Rattle.s80_fileout.proofs.Held.{held_last}
use Rattle.s80_fileout.proofs.MethodsPart.{SetsEach, leads_methods_part}

module _ (changes : List Change) (method : Name → Side → List ℕ → MethodRow → List Change) (sets : SetsEach (state_of changes) method) where
  abbrev final : State
  final = state_of changes

  abbrev IsFinal : State → Type 0
  IsFinal t = t ≡ final

  pub leads_made : Leads kernel_state (made_with method final) IsFinal
  leads_made =
      leads_then (kernel_part final) (own_part final ++ for_methods method final) kernel_state (λ t. (q : Name) → IsSettled final q t) IsFinal (leads_kernel_part final (stands_last changes)) (λ s settled.
      leads_then (own_part final) (for_methods method final) s (AllMade final s (within_last changes) (few_last changes) (own_last changes) (stands_last changes) (λ q. (settled q).class)) IsFinal
      (leads_own_part final s (within_last changes) (few_last changes) (own_last changes) (stands_last changes) (λ q. (settled q).class)) (λ t made.
      leads_methods_part final (held_last changes) method sets t made.classes (λ c. ap (λ m. map.get (m c.0 c.1) c.2) made.methods ∙ (settled c.0).methods c.1 c.2)))

  pub leads_condensed : Leads kernel_state (condensed_with method final) IsFinal
  leads_condensed =
      leads_then (made_with method final) (Form NoChanges ∷ []) kernel_state IsFinal IsFinal leads_made (λ t is. leads_one (Form NoChanges) t t IsFinal refl is)
