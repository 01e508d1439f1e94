-- What reading is answered where codes are verified on the way.
use Rattle.std.specs.Prelude.{◌≡◌, ℕ, zero, suc, List, [], ◌∷◌, ◌++◌, Result, Ok, Err, Option, option_map, nat_le, ◌-◌}
use Rattle.std.specs.List.{AllByRecursion}
use Rattle.s80_code.specs.declared.code.Code.{Code}
use Rattle.s80_verify.specs.Fault.{IsVerified}
use Rattle.s80_image.specs.declared.fault.Fault.{Fault}
use Rattle.s80_image.specs.declared.fault.Fault.TheVariants.{Short, Field}
use Rattle.s80_image.specs.declared.fault.ReadError.{ReadError}
use Rattle.s80_image.specs.declared.fault.ReadError.TheVariants as errors
use Rattle.s80_image.specs.declared.fault.ImageFault.{ImageFault}
use Rattle.s80_image.specs.declared.fault.ImageFault.TheVariants as faults
use Rattle.s80_image.specs.Format.{Format, number_where, word32, word64}
use Rattle.s80_image.specs.Parts.{Name, last_of}
use Rattle.s80_image.specs.Methods.{CodeView, MethodView, code_of, method, method_behind, method_limit, methods}
use Rattle.s80_image.specs.Classes.{ClassView, class_behind, heading}
use Rattle.s80_image.specs.Image.{ImageView, signature, view_of}
use Rattle.s80_image.specs.declared.image.Image.{Image}

-- ---- codes that are met

-- a method's code, with its class and its selector
pub record Met : Type 0 where
  pub class_name : Name
  pub selector : Name
  pub code : CodeView

abbrev pub on_ok : {A : Type 0} → Result A Fault → (A → List Met) → List Met
on_ok (Ok x) f = f x
on_ok (Err e) f = []

-- what is met in so many members behind others
unfoldable pub members_met : {A : Type 0} → (List A → Format A) → (List A → List ℕ → List Met) → List A → ℕ → List ℕ → List Met
members_met member met before zero bytes = []
members_met member met before (suc n) bytes = met before bytes ++ on_ok ((member before).read bytes) (λ x. members_met member met (before ++ x.0 ∷ []) n x.1)

-- A code is met once its last field is read.
unfoldable pub method_met : Name → Option Name → List ℕ → List Met
method_met class last bytes = on_ok ((method last).read bytes) (λ x. record { class_name = class; selector = x.0.heading.selector; code = x.0.code } ∷ [])

abbrev pub method_met_behind : Name → List MethodView → List ℕ → List Met
method_met_behind class before bytes = method_met class (option_map (λ m. m.heading.selector) (last_of before)) bytes

unfoldable pub methods_met : Name → List ℕ → List Met
methods_met class bytes = on_ok ((number_where (λ n. nat_le n method_limit) word32).read bytes) (λ n. members_met method_behind (method_met_behind class) [] n.0 n.1)

unfoldable pub class_met : Option Name → List ℕ → List Met
class_met last bytes =
    on_ok ((heading last).read bytes) (λ h. methods_met h.0.name h.1 ++ on_ok (methods.read h.1) (λ m. methods_met h.0.name m.1))

abbrev pub class_met_behind : List ClassView → List ℕ → List Met
class_met_behind before bytes = class_met (option_map (λ c. c.heading.name) (last_of before)) bytes

unfoldable pub classes_met : List ℕ → List Met
classes_met bytes = on_ok ((number_where (λ n. nat_le n 65536) word32).read bytes) (λ n. members_met class_behind class_met_behind [] n.0 n.1)

unfoldable pub contents_met : List ℕ → List Met
contents_met bytes = on_ok (word64.read bytes) (λ n. classes_met n.1)

-- what is met in the bytes of an image, up to their end or the first fault
unfoldable pub image_met : List ℕ → List Met
image_met bytes = on_ok (signature bytes) contents_met

-- ---- codes that are verified

-- some code that looks so is verified
abbrev pub IsVerifiedView : CodeView → Type 0
IsVerifiedView view = (code : Code) × (code_of code ≡ view) × IsVerified code

abbrev pub AllPass : List Met → Type 0
AllPass met = AllByRecursion (λ m. IsVerifiedView m.code) met

abbrev pub AreVerifiedMethods : List MethodView → Type 0
AreVerifiedMethods ms = AllByRecursion (λ m. IsVerifiedView m.code) ms

abbrev pub AreVerified : ImageView → Type 0
AreVerified image = AllByRecursion (λ c. AreVerifiedMethods c.instance × AreVerifiedMethods c.class) image.classes

-- the first code that isn't verified is this one
pub record StopsAt (class_name selector : Name) (met : List Met) : Type 0 where
  pub before : List Met
  pub code : CodeView
  pub after : List Met
  pub parts : met ≡ before ++ record { class_name = class_name; selector = selector; code = code } ∷ after
  pub passed : AllPass before
  pub refused : IsVerifiedView code → ⊥

-- ---- answers

abbrev pub fault_of : ReadError → ImageFault
fault_of errors.Memory = faults.Memory
fault_of (errors.Fault Short) = faults.Short
fault_of (errors.Fault (Field left value)) = faults.Field left value

-- a failure, where this is what reading gives
abbrev pub Ends : {Y : Type 0} → ImageFault → Result Y Fault → List Met → Type 0
Ends faults.Memory read met = Unit {0}
Ends faults.Short read met = (read ≡ Err Short) × AllPass met
Ends (faults.Field left value) read met = (read ≡ Err (Field left value)) × AllPass met
Ends (faults.Unverified class selector) read met = StopsAt class selector met

-- What a function answered, seen by view, is what reading gives, unless a code that is met before isn't verified, or memory ran out.
abbrev pub Answers : {X Y : Type 0} → (X → Y) → Result X ImageFault → Result Y Fault → List Met → Type 0
Answers view (Ok x) read met = (read ≡ Ok (view x)) × AllPass met
Answers view (Err fault) read met = Ends fault read met

abbrev pub placed_fault : ℕ → ImageFault → ImageFault
placed_fault size faults.Memory = faults.Memory
placed_fault size faults.Short = faults.Short
placed_fault size (faults.Field left value) = faults.Field (size - left) value
placed_fault size (faults.Unverified class selector) = faults.Unverified class selector

-- that was read, or memory ran out
abbrev pub IsRead : ImageView → Result Image ImageFault → Type 0
IsRead image (Ok read) = view_of read ≡ image
IsRead image (Err fault) = fault ≡ faults.Memory
