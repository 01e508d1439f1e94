-- A system with the classes of an image.
use Rattle.std.proofs.Common.{◌≡◌, ◌∙◌, Bool, true, false, refl, sym, ap, List, Option, None, is_some}
use Rattle.std.specs.Prelude.{if◌then◌else◌}
use Rattle.std.specs.FinMap as map
use Rattle.s80_base.specs.declared.names.Side.{Side}
use Rattle.s80_class.specs.Classes.{Name, Classes}
use Rattle.s80_apply.specs.List.{AreAccepted, state_from}
use Rattle.s80_apply.specs.State.{MethodRow, State, kernel_state}
use Rattle.s80_apply.specs.System.{IsSystemOf, SystemState}
use Rattle.s80_fileout.specs.Lawful.{AreLawfulClasses, MakesClasses, class_part}
use Rattle.s80_image.specs.Classes.{ClassView}
use Rattle.s80_image.specs.Together.{classes_by_name}
use Rattle.s80_snapshot.specs.Resuming.{AreOrdered, HasSomePlaces, IsBegun, outline}
use Rattle.s80_snapshot.proofs.ClassesInOrder.{lawful_classes}

abbrev pub AreMade : Type 0
AreMade = (state : State) → AreLawfulClasses state.classes → MakesClasses state

module _ (made : AreMade) (cs : List ClassView) (ordered : AreOrdered cs) where
  abbrev made_of : MakesClasses (outline cs)
  made_of = made (outline cs) (lawful_classes (classes_by_name cs) ordered.in_order)

  pub classes_accepted : AreAccepted kernel_state (class_part (outline cs))
  classes_accepted = made_of.accepted

  pub is_begun : (system : SystemState) → IsSystemOf system (state_from kernel_state (class_part (outline cs))) → HasSomePlaces system → IsBegun cs system
  is_begun system is places = record {
    state = state_from kernel_state (class_part (outline cs));
    is = is;
    placed = places.0;
    has_places = places.1;
    classes_are = made_of.classes;
    within = λ name side selector there.
        left (map.contains_key ((outline cs).methods name side) selector) (map.get (kernel_state.methods name side) selector) (sym (ap is_some (made_of.methods name side selector)) ∙ there);
  }
    where
      left : (b : Bool) (o : Option MethodRow) → is_some (if b then o else None) ≡ true → b ≡ true
      left true o there = refl
      left false o there = there
