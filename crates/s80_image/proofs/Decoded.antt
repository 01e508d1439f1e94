-- All of the bytes of an image.
use Rattle.std.proofs.Common.{◌≡◌, ℕ, ◌^◌, ◌&&◌, ltb, Bool, true, false, cond, eqb, List, [], ◌∷◌, ◌++◌, length, Option, Result, Ok, Err, refl, sym, ap, subst, ◌∙◌, append_assoc}
use Rattle.std.specs.List.{AllByRecursion}
use Rattle.std.specs.Int.{w32, to_be_bytes}
use Rattle.std.proofs.lemmas.Bool.{eqb-true}
use Rattle.std.proofs.lemmas.List.{append-nil, nil_from_length}
use Rattle.s80_image.specs.declared.fault.Fault.{Fault}
use Rattle.s80_image.specs.declared.fault.Fault.TheVariants.{Short, Field}
use Rattle.s80_image.specs.declared.fault.ImageFault.{ImageFault}
use Rattle.s80_image.specs.declared.fault.ImageFault.TheVariants as faults
use Rattle.s80_image.specs.declared.image.Image.{Image}
use Rattle.s80_image.specs.Format.{Format, number_where, spelled, are_lawful, list_of, word32, word64}
use Rattle.s80_image.specs.Parts.{Name}
use Rattle.s80_image.specs.Methods.{MethodView, method, method_behind, methods}
use Rattle.s80_image.specs.Classes.{ClassView, class, class_behind, classes, heading}
use Rattle.s80_image.specs.Image.{ImageView, contents, decoded, image_format, view_of, whole}
use Rattle.s80_image.specs.Answers.{AllPass, Answers, AreVerified, AreVerifiedMethods, Ends, IsRead, IsVerifiedView, Met, class_met, class_met_behind, classes_met, contents_met, image_met, members_met, method_met, method_met_behind, methods_met, on_ok, placed_fault}
use Rattle.s80_image.proofs.Laws.{IsBytes, IsFormat, bind_ok, of_both, passed_ok, word32_law, word64_law, ok_is}
use Rattle.s80_image.proofs.Tables.{class_heading_law, class_law, image_law, method_law, methods_law, number_where_law}
use Rattle.s80_image.proofs.Verifying.{all_join, last_fails}

-- ---- answers

pub whole_fails : (fault : ImageFault) (bytes : List ℕ) → Ends fault (image_format.read bytes) (image_met bytes) → Ends fault (whole bytes) (image_met bytes)
unfolding whole
whole_fails fault bytes h = last_fails fault (image_format.read bytes) (image_met bytes) (λ x. cond (eqb (length x.1) 0) (Ok x.0) (Err (Field (length x.1) (length x.1)))) h

pub rest_fails : (bytes : List ℕ) (i : ImageView) (rest : List ℕ) → eqb (length rest) 0 ≡ false → (image_format.read bytes ≡ Ok (i, rest)) × AllPass (image_met bytes)
    → (whole bytes ≡ Err (Field (length rest) (length rest))) × AllPass (image_met bytes)
unfolding whole
rest_fails bytes i rest more h = (rw h.0 (rw more refl), h.1)

pub whole_read : (bytes : List ℕ) (i : ImageView) (rest : List ℕ) → eqb (length rest) 0 ≡ true → (image_format.read bytes ≡ Ok (i, rest)) × AllPass (image_met bytes) → (whole bytes ≡ Ok i) × AllPass (image_met bytes)
unfolding whole
whole_read bytes i rest none h = (rw h.0 (rw none refl), h.1)

pub decoded_fails : (fault result : ImageFault) (bytes : List ℕ) → result ≡ placed_fault (length bytes) fault → Ends fault (whole bytes) (image_met bytes) → Ends result (decoded bytes) (image_met bytes)
unfolding decoded
decoded_fails faults.Memory result bytes is h = rw is tt
decoded_fails faults.Short result bytes is (e, p) = rw is (rw e refl, p)
decoded_fails (faults.Field left value) result bytes is (e, p) = rw is (rw e refl, p)
decoded_fails (faults.Unverified class_name selector) result bytes is s = rw is s

pub decoded_read : (bytes : List ℕ) (i : ImageView) → (whole bytes ≡ Ok i) × AllPass (image_met bytes) → (decoded bytes ≡ Ok i) × AllPass (image_met bytes)
unfolding decoded
decoded_read bytes i (e, p) = (rw e refl, p)

pub whole_spelled : (bytes : List ℕ) (i : ImageView) → IsBytes bytes → whole bytes ≡ Ok i → (image_format.lawful i ≡ true) × (bytes ≡ image_format.spell i)
unfolding whole
whole_spelled bytes i fits e =
    let a = bind_ok (image_format.read bytes) (λ x. cond (eqb (length x.1) 0) (Ok x.0) (Err (Field (length x.1) (length x.1)))) i e in
    let t = image_law.takes bytes a.0 fits a.1 in
    let g = passed_ok (eqb (length a.0.1) 0) (Field (length a.0.1) (length a.0.1)) a.0.0 i a.2 in
    let none : a.0.1 ≡ [] = nil_from_length a.0.1 (eqb-true _ _ g.0) in
    subst (λ j. (image_format.lawful j ≡ true) × (bytes ≡ image_format.spell j)) g.1
    (t.is_lawful, t.parts ∙ ap (λ r. image_format.spell a.0.0 ++ r) none ∙ append-nil (image_format.spell a.0.0))

-- ---- what was spelled passes

module _ {A : Type 0} (member : List A → Format A) (met : List A → List ℕ → List Met) (laws : (before : List A) → IsFormat (member before)) (P : A → Type 0)
    (one : (before : List A) (x : A) (rest : List ℕ) → (member before).lawful x ≡ true → P x → AllPass (met before ((member before).spell x ++ rest))) where
  members_pass : (before xs : List A) (rest : List ℕ) → are_lawful member before xs ≡ true → AllByRecursion P xs → AllPass (members_met member met before (length xs) (spelled member before xs ++ rest))
  unfolding members_met
  members_pass before [] rest e p = tt
  members_pass before (x ∷ xs) rest e p =
      let o = of_both ((member before).lawful x) (are_lawful member (before ++ x ∷ []) xs) e in
      let more = spelled member (before ++ x ∷ []) xs ++ rest in
      let regroup = append_assoc ((member before).spell x) (spelled member (before ++ x ∷ []) xs) rest in
      let others = members_pass (before ++ x ∷ []) xs rest o.1 p.1 in
      let next : List ℕ → List Met = λ b. met before b ++ on_ok ((member before).read b) (λ y. members_met member met (before ++ y.0 ∷ []) (length xs) y.1) in
      let here : AllPass (next ((member before).spell x ++ more)) =
      all_join (met before ((member before).spell x ++ more)) _ (one before x more o.0 p.0) (rw ((laws before).again x more o.0) others) in
      subst (λ b. AllPass (next b)) (sym regroup) here

module _ {A : Type 0} (test : ℕ → Bool) (member : List A → Format A) (met : List A → List ℕ → List Met) (laws : (before : List A) → IsFormat (member before)) (P : A → Type 0)
    (one : (before : List A) (x : A) (rest : List ℕ) → (member before).lawful x ≡ true → P x → AllPass (met before ((member before).spell x ++ rest))) where
  list_passes : (xs : List A) (rest : List ℕ) → (list_of test member).lawful xs ≡ true → AllByRecursion P xs
      → AllPass (on_ok ((number_where test word32).read ((list_of test member).spell xs ++ rest)) (λ n. members_met member met [] n.0 n.1))
  list_passes xs rest e p =
      let o = of_both (ltb (length xs) (2 ^ 32) && test (length xs)) (are_lawful member [] xs) e in
      let all : List ℕ → List Met = λ b. on_ok ((number_where test word32).read b) (λ n. members_met member met [] n.0 n.1) in
      let here : AllPass (all (to_be_bytes w32 (length xs) ++ (spelled member [] xs ++ rest))) =
      rw ((number_where_law test word32 word32_law).again (length xs) (spelled member [] xs ++ rest) o.0) (members_pass member met laws P one [] xs rest o.1 p) in
      subst (λ b. AllPass (all b)) (sym (append_assoc (to_be_bytes w32 (length xs)) (spelled member [] xs) rest)) here

method_passes : (class_name : Name) (last : Option Name) (m : MethodView) (rest : List ℕ) → (method last).lawful m ≡ true → IsVerifiedView m.code → AllPass (method_met class_name last ((method last).spell m ++ rest))
unfolding method_met
method_passes class_name last m rest e v = rw ((method_law last).again m rest e) (v, tt)

methods_pass : (class_name : Name) (ms : List MethodView) (rest : List ℕ) → methods.lawful ms ≡ true → AreVerifiedMethods ms → AllPass (methods_met class_name (methods.spell ms ++ rest))
unfolding methods methods_met
methods_pass class_name ms rest e v = list_passes _ method_behind (method_met_behind class_name) (λ before. method_law _) (λ m. IsVerifiedView m.code) (λ before m more lawful p. method_passes class_name _ m more lawful p) ms rest e v

class_passes : (last : Option Name) (c : ClassView) (rest : List ℕ) → (class last).lawful c ≡ true → AreVerifiedMethods c.instance × AreVerifiedMethods c.class → AllPass (class_met last ((class last).spell c ++ rest))
unfolding class class_met
class_passes last c rest e v =
    let o = of_both ((heading last).lawful c.heading) _ e in
    let p = of_both (methods.lawful c.instance) (methods.lawful c.class) o.1 in
    let tail = methods.spell c.class ++ rest in
    let all : List ℕ → List Met = λ b. on_ok ((heading last).read b) (λ h. methods_met h.0.name h.1 ++ on_ok (methods.read h.1) (λ m. methods_met h.0.name m.1)) in
    let here : AllPass (all ((heading last).spell c.heading ++ (methods.spell c.instance ++ tail))) =
    rw ((class_heading_law last).again c.heading (methods.spell c.instance ++ tail) o.0)
    (all_join (methods_met c.heading.name (methods.spell c.instance ++ tail)) _ (methods_pass c.heading.name c.instance tail p.0 v.0)
    (rw (methods_law.again c.instance tail p.0) (methods_pass c.heading.name c.class rest p.1 v.1))) in
    subst (λ b. AllPass (all b)) (sym (append_assoc ((heading last).spell c.heading) (methods.spell c.instance ++ methods.spell c.class) rest ∙ ap (λ b. (heading last).spell c.heading ++ b) (append_assoc (methods.spell c.instance) (methods.spell c.class) rest))) here

classes_pass : (cs : List ClassView) (rest : List ℕ) → classes.lawful cs ≡ true → AllByRecursion (λ c. AreVerifiedMethods c.instance × AreVerifiedMethods c.class) cs → AllPass (classes_met (classes.spell cs ++ rest))
unfolding classes classes_met
classes_pass cs rest e v = list_passes _ class_behind class_met_behind (λ before. class_law _) (λ c. AreVerifiedMethods c.instance × AreVerifiedMethods c.class) (λ before c more lawful p. class_passes _ c more lawful p) cs rest e v

contents_pass : (i : ImageView) (rest : List ℕ) → contents.lawful i ≡ true → AreVerified i → AllPass (contents_met (contents.spell i ++ rest))
unfolding contents contents_met
contents_pass i rest e v =
    let o = of_both (word64.lawful i.count) _ e in
    let p = of_both (classes.lawful i.classes) _ o.1 in
    let all : List ℕ → List Met = λ b. on_ok (word64.read b) (λ n. classes_met n.1) in
    let here : (tail : List ℕ) → AllPass (all (word64.spell i.count ++ (classes.spell i.classes ++ tail))) = λ tail.
    rw (word64_law.again i.count (classes.spell i.classes ++ tail) o.0) (classes_pass i.classes tail p.0 v) in
    subst (λ b. AllPass (all b)) (sym (append_assoc (word64.spell i.count) _ rest ∙ ap (λ b. word64.spell i.count ++ b) (append_assoc (classes.spell i.classes) _ rest))) (here _)

pub image_passes : (i : ImageView) → image_format.lawful i ≡ true → AreVerified i → AllPass (image_met (image_format.spell i))
unfolding image_format image_met
image_passes i e v = subst (λ b. AllPass (contents_met b)) (append-nil (contents.spell i)) (contents_pass i [] e v)

pub whole_again : (i : ImageView) → image_format.lawful i ≡ true → decoded (image_format.spell i) ≡ Ok i
unfolding decoded whole
whole_again i e = rw (ap image_format.read (sym (append-nil (image_format.spell i))) ∙ image_law.again i [] e) refl

none_stops : (met before : List Met) (m : Met) (after : List Met) → met ≡ before ++ m ∷ after → AllPass met → IsVerifiedView m.code
none_stops met [] m after e p = (subst AllPass e p).0
none_stops met (x ∷ before) m after e p = none_stops (before ++ m ∷ after) before m after refl (subst AllPass e p).1

ok_not_err : {A : Type 0} (x : A) (d : Fault) (r : Result A Fault) → r ≡ Ok x → r ≡ Err d → ⊥
ok_not_err x d r p q = cc

pub only_read : (result : Result Image ImageFault) (bytes : List ℕ) → Answers view_of result (decoded bytes) (image_met bytes)
    → (i : ImageView) → image_format.lawful i ≡ true → AreVerified i → bytes ≡ image_format.spell i → IsRead i result
only_read result bytes h i e v is = go result (ap decoded is ∙ whole_again i e) (subst (λ b. AllPass (image_met b)) (sym is) (image_passes i e v)) h
  where
    go : (r : Result Image ImageFault) → decoded bytes ≡ Ok i → AllPass (image_met bytes) → Answers view_of r (decoded bytes) (image_met bytes) → IsRead i r
    go (Ok image) d p (q, _) = ok_is (view_of image) i (sym q ∙ d)
    go (Err faults.Memory) d p q = refl
    go (Err faults.Short) d p (q, _) = absurd (ok_not_err i Short (decoded bytes) d q)
    go (Err (faults.Field left value)) d p (q, _) = absurd (ok_not_err i (Field left value) (decoded bytes) d q)
    go (Err (faults.Unverified c s)) d p q = absurd (q.refused (none_stops (image_met bytes) q.before (record { class_name = c; selector = s; code = q.code }) q.after q.parts p))

pub only_ok : (image : Image) (bytes : List ℕ) → (decoded bytes ≡ Ok (view_of image)) × AllPass (image_met bytes)
    → (i : ImageView) → image_format.lawful i ≡ true → AreVerified i → bytes ≡ image_format.spell i → view_of image ≡ i
only_ok image bytes h = only_read (Ok image) bytes h

pub only_err : (fault : ImageFault) (bytes : List ℕ) → Ends fault (decoded bytes) (image_met bytes)
    → (i : ImageView) → image_format.lawful i ≡ true → AreVerified i → bytes ≡ image_format.spell i → fault ≡ faults.Memory
only_err fault bytes h = only_read (Err fault) bytes h
