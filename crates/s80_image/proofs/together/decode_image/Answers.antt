use Rattle.std.proofs.Common.{◌∙◌, sym, ap}
use Rattle.std.specs.Prelude.{option_map}
use Rattle.std.proofs.lemmas.Result.{err_from_is_err_and}
use Rattle.s80_image.specs.declared.spots.Spot.{Spot}
use Rattle.s80_image.specs.Classes.{classes, classes_of}
use Rattle.s80_image.specs.Image.{view_of}
use Rattle.s80_image.specs.Together.{wrong_together}
use Rattle.s80_image.proofs.LawfulImages.{lawful_classes, fields_fail, told_wrong, told_right, not_wrong}
use Rattle.s80_image.proofs.together.decode_image.Goals as goal

pub wrong_together-requires : goal.wrong_together-requires
wrong_together-requires c =
    ap (λ cs. classes.lawful (classes_of cs)) c.deref.ensures.value ∙ lawful_classes (view_of c.in_ok-image.image) c.in_ok-image.ensures.found.0

pub returns-in_err-image-clause-exact : goal.returns-in_err-image-clause-exact
returns-in_err-image-clause-exact c =
    let p = err_from_is_err_and c.from_residual.result c.from_residual.ensures.1 in
    rw (p.1, p.2) (fields_fail c.in_err-image.field-0.0 c.args.bytes.now c.in_err-image.ensures.exact)

pub returns-in_err-image-clause-only : goal.returns-in_err-image-clause-only
returns-in_err-image-clause-only c =
    let p = err_from_is_err_and c.from_residual.result c.from_residual.ensures.1 in
    rw (p.1, p.2) (λ image lawful verified is. c.in_err-image.ensures.only image lawful.fields verified is)

pub returns-in-Some-clause-exact : goal.returns-in-Some-clause-exact
returns-in-Some-clause-exact c =
    told_wrong c.args.bytes.now (view_of c.in_ok-image.image) (c.in-Some.spot.place, c.in-Some.spot.value) c.in_ok-image.ensures.exact
    (ap (option_map (λ (s : Spot). (s.place, s.value))) (sym c.in-Some.is) ∙ c.in_ok-spot.ensures ∙ ap (λ cs. wrong_together (classes_of cs)) c.deref.ensures.value)

pub returns-in-Some-clause-only : goal.returns-in-Some-clause-only
returns-in-Some-clause-only c = λ image lawful verified is.
    absurd (not_wrong image (view_of c.in_ok-image.image) (c.in-Some.spot.place, c.in-Some.spot.value) (c.in_ok-image.ensures.only image lawful.fields verified is)
    (ap (option_map (λ (s : Spot). (s.place, s.value))) (sym c.in-Some.is) ∙ c.in_ok-spot.ensures ∙ ap (λ cs. wrong_together (classes_of cs)) c.deref.ensures.value) lawful)

pub returns-in-None-clause-exact : goal.returns-in-None-clause-exact
returns-in-None-clause-exact c =
    told_right c.args.bytes.now (view_of c.in_ok-image.image) c.in_ok-image.ensures.exact
    (ap (option_map (λ (s : Spot). (s.place, s.value))) (sym c.in-None.is) ∙ c.in_ok-spot.ensures ∙ ap (λ cs. wrong_together (classes_of cs)) c.deref.ensures.value)

pub returns-in-None-clause-found : goal.returns-in-None-clause-found
returns-in-None-clause-found c =
    let none = ap (option_map (λ (s : Spot). (s.place, s.value))) (sym c.in-None.is) ∙ c.in_ok-spot.ensures ∙ ap (λ cs. wrong_together (classes_of cs)) c.deref.ensures.value in
    (record { fields = c.in_ok-image.ensures.found.0; together = sym none }, c.in_ok-image.ensures.found.1)

pub returns-in-None-clause-only : goal.returns-in-None-clause-only
returns-in-None-clause-only c = λ image lawful verified is. c.in_ok-image.ensures.only image lawful.fields verified is
