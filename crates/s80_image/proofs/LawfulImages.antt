-- Images whose fields are lawful by themselves, and those whose classes are so together.
use Rattle.std.proofs.Common.{◌≡◌, ◌∙◌, ℕ, true, List, Some, None, Ok, Err, sym, ap}
use Rattle.s80_image.specs.declared.fault.Fault.TheVariants.{Field}
use Rattle.s80_image.specs.declared.fault.ImageFault.{ImageFault}
use Rattle.s80_image.specs.Format.{◌>>=◌}
use Rattle.s80_image.specs.Classes.{classes}
use Rattle.s80_image.specs.Image.{HasLawfulFields, ImageView, contents, decoded, image_format}
use Rattle.s80_image.specs.Answers.{AllPass, Ends, image_met}
use Rattle.s80_image.specs.Together.{IsLawfulImage, Spot, decoded_image, unless_wrong, wrong_together}
use Rattle.s80_image.proofs.Laws.{of_both}
use Rattle.s80_image.proofs.Verifying.{last_fails}

pub lawful_classes : (image : ImageView) → HasLawfulFields image → classes.lawful image.classes ≡ true
unfolding image_format contents
lawful_classes image e = (of_both _ _ (of_both _ _ e).1).0

-- ---- answers

pub fields_fail : (fault : ImageFault) (bytes : List ℕ) → Ends fault (decoded bytes) (image_met bytes) → Ends fault (decoded_image bytes) (image_met bytes)
fields_fail fault bytes h = last_fails fault (decoded bytes) (image_met bytes) (λ image. unless_wrong (wrong_together image.classes) image) h

pub told_wrong : (bytes : List ℕ) (image : ImageView) (spot : Spot) → (decoded bytes ≡ Ok image) × AllPass (image_met bytes) → Some spot ≡ wrong_together image.classes
    → (decoded_image bytes ≡ Err (Field spot.0 spot.1)) × AllPass (image_met bytes)
told_wrong bytes image spot (e, p) wrong = (ap (λ r. r >>= (λ i. unless_wrong (wrong_together i.classes) i)) e ∙ ap (λ o. unless_wrong o image) (sym wrong), p)

pub told_right : (bytes : List ℕ) (image : ImageView) → (decoded bytes ≡ Ok image) × AllPass (image_met bytes) → None ≡ wrong_together image.classes → (decoded_image bytes ≡ Ok image) × AllPass (image_met bytes)
told_right bytes image (e, p) none = (ap (λ r. r >>= (λ i. unless_wrong (wrong_together i.classes) i)) e ∙ ap (λ o. unless_wrong o image) (sym none), p)

pub not_wrong : (image read : ImageView) (spot : Spot) → read ≡ image → Some spot ≡ wrong_together read.classes → IsLawfulImage image → ⊥
not_wrong image read spot same wrong lawful =
    let bad : Some spot ≡ None = wrong ∙ ap (λ (i : ImageView). wrong_together i.classes) same ∙ lawful.together in
    cc
