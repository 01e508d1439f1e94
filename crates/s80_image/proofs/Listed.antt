-- The lists of an image, member by member.
use Rattle.std.proofs.Common.{◌≡◌, ℕ, List, [], ◌++◌, length, None, refl, ap, ap₂, ◌∙◌}
use Rattle.std.specs.Int.{w32, to_be_bytes}
use Rattle.s80_history.specs.declared.noted.Noted.{Noted}
use Rattle.s80_image.specs.Format.{Format, spelled}
use Rattle.s80_image.specs.Methods.{MethodView, method, method_behind, methods}
use Rattle.s80_image.specs.Classes.{ClassView, class, class_behind, classes, heading}
use Rattle.s80_image.specs.History.{VersionsView, all_versions, change_set, noted, noted_behind, versions, versions_behind}
use Rattle.s80_image.specs.Image.{ImageView, contents, image_bytes, image_format}
use Rattle.s80_image.specs.Spelling.{head_bytes, listed}
use Rattle.s80_image.proofs.Spelled.{class_alike, method_alike, noted_alike, one_by_one, versions_alike}

by_length : {A : Type 0} (member : List A → Format A) (plain : A → List ℕ) → ((before : List A) (x : A) → (member before).spell x ≡ plain x) → (xs : List A) → to_be_bytes w32 (length xs) ++ spelled member [] xs ≡ listed plain xs
by_length member plain same xs = ap (λ b. to_be_bytes w32 (length xs) ++ b) (one_by_one member plain same [] xs)

methods_listed : (ms : List MethodView) → methods.spell ms ≡ listed (method None).spell ms
unfolding methods
methods_listed ms = by_length method_behind (method None).spell (λ before m. method_alike _ m) ms

classes_listed : (cs : List ClassView) → classes.spell cs ≡ listed (class None).spell cs
unfolding classes
classes_listed cs = by_length class_behind (class None).spell (λ before c. class_alike _ c) cs

change_set_listed : (ms : List Noted) → change_set.spell ms ≡ listed (noted None).spell ms
unfolding change_set
change_set_listed ms = by_length noted_behind (noted None).spell (λ before m. noted_alike _ m) ms

all_versions_listed : (vs : List VersionsView) → all_versions.spell vs ≡ listed (versions None).spell vs
unfolding all_versions
all_versions_listed vs = by_length versions_behind (versions None).spell (λ before v. versions_alike _ v) vs

pub class_listed : (c : ClassView) → (class None).spell c ≡ (heading None).spell c.heading ++ (listed (method None).spell c.instance ++ listed (method None).spell c.class)
unfolding class
class_listed c = ap₂ (λ (a b : List ℕ). (heading None).spell c.heading ++ (a ++ b)) (methods_listed c.instance) (methods_listed c.class)

in_parts : (i : ImageView) → image_bytes i ≡ head_bytes i.count ++ (classes.spell i.classes ++ (change_set.spell i.change_set ++ all_versions.spell i.versions))
unfolding image_format contents
in_parts i = refl

pub image_listed : (i : ImageView) → image_bytes i ≡ head_bytes i.count ++ (listed (class None).spell i.classes ++ (listed (noted None).spell i.change_set ++ listed (versions None).spell i.versions))
image_listed i =
    in_parts i
    ∙ ap (λ b. head_bytes i.count ++ b)
    (ap₂ (λ (a b : List ℕ). a ++ b) (classes_listed i.classes) (ap₂ (λ (a b : List ℕ). a ++ b) (change_set_listed i.change_set) (all_versions_listed i.versions)))
