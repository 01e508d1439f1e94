use Rattle.std.proofs.Common.{◌∙◌, length, sym, ap, subst}
use Rattle.std.specs.Prelude.{option_map}
use Rattle.s80_image.specs.declared.spots.Spot.{Spot}
use Rattle.s80_image.specs.Classes.{classes_of}
use Rattle.s80_image.specs.Superclasses.{AreSuperclasses}
use Rattle.s80_image.proofs.Wrongs.{linked, told_first, told_last, told_second, told_third}
use Rattle.s80_image.proofs.together.wrong_together.Goals as goal

pub returns-in-Some : goal.returns-in-Some
returns-in-Some c = told_first (classes_of c.args.classes.now) _ (ap (option_map (λ (s : Spot). (s.place, s.value))) (sym c.in-Some.is) ∙ c.in_ok-spot.ensures)

pub wrong_chain-requires : goal.wrong_chain-requires
wrong_chain-requires c =
    linked c.args.classes.now c.deref-2.result.now c.requires (subst (AreSuperclasses (classes_of c.args.classes.now) (length c.args.classes.now)) (sym c.deref-2.ensures.value) c.in_ok-superclasses.ensures)
    (sym c.in_ok-spot.ensures ∙ ap (option_map (λ (s : Spot). (s.place, s.value))) c.in_default.is)

pub returns-in-Some-2 : goal.returns-in-Some-2
returns-in-Some-2 c =
    told_second (classes_of c.args.classes.now) _ (ap (option_map (λ (s : Spot). (s.place, s.value))) (sym c.in_default.is) ∙ c.in_ok-spot.ensures)
    (ap (option_map (λ (s : Spot). (s.place, s.value))) (sym c.in-Some-2.is) ∙ c.in_ok-spot-2.ensures)

pub wrong_total-requires : goal.wrong_total-requires
wrong_total-requires c =
    linked c.args.classes.now c.deref-3.result.now c.requires (subst (AreSuperclasses (classes_of c.args.classes.now) (length c.args.classes.now)) (sym c.deref-3.ensures.value) c.in_ok-superclasses.ensures)
    (sym c.in_ok-spot.ensures ∙ ap (option_map (λ (s : Spot). (s.place, s.value))) c.in_default.is)

pub returns-in-Some-3 : goal.returns-in-Some-3
returns-in-Some-3 c =
    told_third (classes_of c.args.classes.now) _ (ap (option_map (λ (s : Spot). (s.place, s.value))) (sym c.in_default.is) ∙ c.in_ok-spot.ensures)
    (ap (option_map (λ (s : Spot). (s.place, s.value))) (sym c.in_default-2.is) ∙ c.in_ok-spot-2.ensures)
    (ap (option_map (λ (s : Spot). (s.place, s.value))) (sym c.in-Some-3.is) ∙ c.in_ok-spot-3.ensures)

pub returns : goal.returns
returns c =
    told_last (classes_of c.args.classes.now) _ (ap (option_map (λ (s : Spot). (s.place, s.value))) (sym c.in_default.is) ∙ c.in_ok-spot.ensures)
    (ap (option_map (λ (s : Spot). (s.place, s.value))) (sym c.in_default-2.is) ∙ c.in_ok-spot-2.ensures)
    (ap (option_map (λ (s : Spot). (s.place, s.value))) (sym c.in_default-3.is) ∙ c.in_ok-spot-3.ensures) c.missing.ensures
