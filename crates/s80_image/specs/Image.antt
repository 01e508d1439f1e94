-- What an image holds, and how it is spelled and read.
use Rattle.std.specs.Prelude.{◌≡◌, true, ℕ, ◌==◌, ◌-◌, List, [], ◌∷◌, ◌++◌, length, Result, Ok, Err, if◌then◌else◌}
use Rattle.s80_history.specs.declared.noted.Noted.{Noted}
use Rattle.s80_image.specs.declared.fault.Fault.{Fault}
use Rattle.s80_image.specs.declared.fault.Fault.TheVariants.{Short, Field}
use Rattle.s80_image.specs.declared.image.Image.{Image}
use Rattle.s80_image.specs.Format.{Format, ◌>>=◌, byte, mapped, number_where, pair, word64}
use Rattle.s80_image.specs.Classes.{ClassView, classes, classes_of}
use Rattle.s80_image.specs.History.{VersionsView, all_versions, all_versions_of, change_set}

-- an image without where it lies in memory
pub record ImageView : Type 0 where
  pub count : ℕ
  pub classes : List ClassView
  pub change_set : List Noted
  pub versions : List VersionsView

abbrev pub view_of : Image → ImageView
view_of i = record { count = i.count; classes = classes_of i.classes.items; change_set = i.change_set.items; versions = all_versions_of i.versions.items }

-- what stands behind a byte that is given
abbrev pub exactly : ℕ → List ℕ → Result (List ℕ) Fault
exactly given bytes = (number_where (λ n. n == given) byte).read bytes >>= λ n. Ok n.1

-- the bytes `S80I`, and the number of the format
abbrev pub signature_bytes : List ℕ
signature_bytes = 83 ∷ 56 ∷ 48 ∷ 73 ∷ 1 ∷ []

abbrev pub signature : List ℕ → Result (List ℕ) Fault
signature bytes = exactly 83 bytes >>= exactly 56 >>= exactly 48 >>= exactly 73 >>= exactly 1

abbrev pub behind_signature : {A : Type 0} → Format A → Format A
behind_signature f = record {
  spell = λ a. signature_bytes ++ f.spell a;
  lawful = f.lawful;
  read = λ bytes. signature bytes >>= f.read;
}

-- how many changes there are, the classes, the change set and the versions
unfoldable pub contents : Format ImageView
contents = mapped
    (λ p. record { count = p.0; classes = p.1.0; change_set = p.1.1.0; versions = p.1.1.1 })
    (λ i. (i.count, (i.classes, (i.change_set, i.versions))))
    (pair word64 (λ _. pair classes (λ _. pair change_set (λ _. all_versions))))

unfoldable pub image_format : Format ImageView
image_format = behind_signature contents

-- all of the bytes
unfoldable pub whole : List ℕ → Result ImageView Fault
whole bytes = image_format.read bytes >>= λ x. if length x.1 == 0 then Ok x.0 else Err (Field (length x.1) (length x.1))

-- a fault tells the place of its field
abbrev pub placed : {A : Type 0} → ℕ → Result A Fault → Result A Fault
placed size (Ok x) = Ok x
placed size (Err Short) = Err Short
placed size (Err (Field left value)) = Err (Field (size - left) value)

-- the image that bytes spell, or the first field that isn't lawful
unfoldable pub decoded : List ℕ → Result ImageView Fault
decoded bytes = placed (length bytes) (whole bytes)

-- the bytes of an image
abbrev pub image_bytes : ImageView → List ℕ
image_bytes image = image_format.spell image

-- each of its fields is lawful
abbrev pub HasLawfulFields : ImageView → Type 0
HasLawfulFields image = image_format.lawful image ≡ true
