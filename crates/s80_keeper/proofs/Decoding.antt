-- Bytes are one image at most, or show at one place that they are none.
use Rattle.std.proofs.Common.{◌≡◌, inl, inr, ℕ, List, [], ◌∷◌, ◌++◌, Result, Ok, Err, refl, sym, ap, ◌∙◌, subst}
use Rattle.s80_image.specs.declared.fault.Fault.{Fault}
use Rattle.s80_image.specs.declared.fault.Fault.TheVariants.{Short, Field}
use Rattle.s80_image.specs.Answers.{AllPass, AreVerified, IsVerifiedView, Met, StopsAt, image_met}
use Rattle.s80_image.specs.Format.{◌>>=◌}
use Rattle.s80_image.specs.Image.{ImageView, image_bytes}
use Rattle.s80_image.specs.Together.{IsLawfulImage, decoded_image, unless_wrong, wrong_together}
use Rattle.s80_image.proofs.Decoded.{image_passes, whole_again}
use Rattle.s80_class.specs.Classes.{Name}
use Rattle.s80_keeper.specs.Beginning.{IsDecoded, IsRefused}

-- ---- what is decoded

-- the bytes of a lawful image with verified codes are that image
pub decodes : (image : ImageView) → IsLawfulImage image → AreVerified image → IsDecoded (image_bytes image) image
decodes image lawful verified = (
  ap (λ (r : Result ImageView Fault). r >>= λ i. unless_wrong (wrong_together i.classes) i) (whole_again image lawful.fields) ∙ ap (λ o. unless_wrong o image) lawful.together,
  image_passes image lawful.fields verified,
)

pub one_image : (bytes : List ℕ) (image other : ImageView) → IsDecoded bytes image → IsDecoded bytes other → image ≡ other
one_image bytes image other one two = let both : ◌≡◌ {A = Result ImageView Fault} (Ok image) (Ok other) = sym one.0 ∙ two.0 in cc

-- ---- what is refused

pass_before : (met before : List Met) (m : Met) (after : List Met) → met ≡ before ++ m ∷ after → AllPass met → IsVerifiedView m.code
pass_before met [] m after e p = (subst AllPass e p).0
pass_before met (x ∷ before) m after e p = pass_before (before ++ m ∷ after) before m after refl (subst AllPass e p).1

-- all codes are verified, or one isn't
stops_or_passes : (class selector : Name) (met : List Met) → StopsAt class selector met → AllPass met → ⊥
stops_or_passes class selector met stops passes =
    stops.refused (pass_before met stops.before (record { class_name = class; selector = selector; code = stops.code }) stops.after stops.parts passes)

ok_or_err : (answer : Result ImageView Fault) (image : ImageView) (fault : Fault) → answer ≡ Ok image → answer ≡ Err fault → ⊥
ok_or_err answer image fault one two = let both : Ok image ≡ Err fault = sym one ∙ two in cc

-- the bytes are those of an image, or they are refused
pub not_refused : (bytes : List ℕ) (image : ImageView) (place : ℕ) → IsDecoded bytes image → IsRefused bytes place → ⊥
not_refused bytes image place is (inl field) = ok_or_err (decoded_image bytes) image (Field place field.0) is.0 field.1
not_refused bytes image place is (inr (inl short)) = ok_or_err (decoded_image bytes) image Short is.0 short.1
not_refused bytes image place is (inr (inr stops)) = stops_or_passes stops.1.0 stops.1.1 (image_met bytes) stops.1.2 is.1

one_field : (answer : Result ImageView Fault) (one other value again : ℕ) → answer ≡ Err (Field one value) → answer ≡ Err (Field other again) → one ≡ other
one_field answer one other value again first second = let both : ◌≡◌ {A = Result ImageView Fault} (Err (Field one value)) (Err (Field other again)) = sym first ∙ second in cc

field_or_short : (answer : Result ImageView Fault) (place value : ℕ) → answer ≡ Err (Field place value) → answer ≡ Err Short → ⊥
field_or_short answer place value first second = let both : ◌≡◌ {A = Result ImageView Fault} (Err (Field place value)) (Err Short) = sym first ∙ second in cc

-- bytes are refused at one place
pub one_refused_place : (bytes : List ℕ) (one other : ℕ) → IsRefused bytes one → IsRefused bytes other → one ≡ other
one_refused_place bytes one other (inl a) (inl b) = one_field (decoded_image bytes) one other a.0 b.0 a.1 b.1
one_refused_place bytes one other (inl a) (inr (inl b)) = absurd (field_or_short (decoded_image bytes) one a.0 a.1 b.1)
one_refused_place bytes one other (inl a) (inr (inr b)) = absurd (stops_or_passes b.1.0 b.1.1 (image_met bytes) b.1.2 a.2)
one_refused_place bytes one other (inr (inl a)) (inl b) = absurd (field_or_short (decoded_image bytes) other b.0 b.1 a.1)
one_refused_place bytes one other (inr (inl a)) (inr (inl b)) = a.0 ∙ sym b.0
one_refused_place bytes one other (inr (inl a)) (inr (inr b)) = a.0 ∙ sym b.0
one_refused_place bytes one other (inr (inr a)) (inl b) = absurd (stops_or_passes a.1.0 a.1.1 (image_met bytes) a.1.2 b.2)
one_refused_place bytes one other (inr (inr a)) (inr (inl b)) = a.0 ∙ sym b.0
one_refused_place bytes one other (inr (inr a)) (inr (inr b)) = a.0 ∙ sym b.0
