-- What makes the classes of a state, whatever its methods: it is accepted, and makes them.
use Rattle.std.proofs.Common.{◌≡◌, ◌∙◌, ap}
use Rattle.std.specs.FinMap as map
use Rattle.s80_class.specs.Classes.{Name}
use Rattle.s80_apply.specs.State.{State, kernel_state}
use Rattle.s80_apply.proofs.LastingKernel.{Stands}
use Rattle.s80_apply.proofs.LastingWithin.{AreWithin}
use Rattle.s80_fileout.specs.Condensed.{kernel_part, own_part}
use Rattle.s80_fileout.specs.Lawful.{AreLawfulClasses, MakesClasses, class_part}
use Rattle.s80_fileout.proofs.Cells.{Cell, in_cell}
use Rattle.s80_fileout.proofs.KernelPart.{IsSettled, leads_kernel_part, left_cell}
use Rattle.s80_fileout.proofs.Leading.{Leads, leads_then, leads_weaker}
use Rattle.s80_fileout.proofs.OwnPart.{AllMade, leads_own_part}

module _ (final : State) (lawful : AreLawfulClasses final.classes) where
  within : AreWithin final.classes
  within = record { valid = lawful.valid; inst_vars = lawful.inst_vars; class_side_vars = lawful.class_side_vars; bits_variables = lawful.bits_variables }

  abbrev AreMade : State → Type 0
  AreMade t = (t.classes ≡ final.classes) × ((c : Cell) → in_cell c t ≡ left_cell final c)

  leads_classes : Leads kernel_state (class_part final) AreMade
  leads_classes =
      leads_then (kernel_part final) (own_part final) kernel_state (λ t. (q : Name) → IsSettled final q t) AreMade (leads_kernel_part final lawful.kernel) (λ s settled.
      leads_weaker (own_part final) s (AllMade final s within lawful.count lawful.own lawful.kernel (λ q. (settled q).class)) AreMade
      (leads_own_part final s within lawful.count lawful.own lawful.kernel (λ q. (settled q).class))
      (λ t made. (made.classes, λ c. ap (λ m. map.get (m c.0 c.1) c.2) made.methods ∙ (settled c.0).methods c.1 c.2)))

  pub makes_classes : MakesClasses final
  makes_classes = record { accepted = leads_classes.0; classes = leads_classes.1.0; methods = λ name side selector. leads_classes.1.1 (name, side, selector) }
