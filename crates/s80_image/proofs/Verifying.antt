-- Answers of reading where codes are verified on the way.
use Rattle.std.proofs.Common.{◌≡◌, ℕ, suc, ◌+◌, ◌-◌, ◌<◌, ◌≤◌, List, [], ◌∷◌, ◌++◌, Result, Ok, refl, sym, ap, subst, ◌∙◌, append_assoc, arith}
use Rattle.std.proofs.lemmas.List.{append-nil}
use Rattle.s80_image.specs.declared.fault.Fault.{Fault}
use Rattle.s80_image.specs.declared.fault.Fault.TheVariants.{Short, Field}
use Rattle.s80_image.specs.declared.fault.ReadError.{ReadError}
use Rattle.s80_image.specs.declared.fault.ReadError.TheVariants as errors
use Rattle.s80_image.specs.declared.fault.ImageFault.{ImageFault}
use Rattle.s80_image.specs.declared.fault.ImageFault.TheVariants as faults
use Rattle.s80_image.specs.Format.{◌>>=◌, Fails, Format, Reading, members}
use Rattle.s80_image.specs.Answers.{AllPass, Answers, Ends, Met, fault_of, members_met, on_ok}

pub all_join : (a b : List Met) → AllPass a → AllPass b → AllPass (a ++ b)
all_join [] b p q = q
all_join (m ∷ a) b p q = (p.0, all_join a b p.1 q)

-- codes that passed before change no failure
pub prefix : {Y : Type 0} (fault : ImageFault) (read : Result Y Fault) (done met : List Met) → AllPass done → Ends fault read met → Ends fault read (done ++ met)
prefix faults.Memory read done met p q = tt
prefix faults.Short read done met p (e, q) = (e, all_join done met p q)
prefix (faults.Field left value) read done met p (e, q) = (e, all_join done met p q)
prefix (faults.Unverified class selector) read done met p s = record {
  before = done ++ s.before;
  code = s.code;
  after = s.after;
  parts = ap (λ l. done ++ l) s.parts ∙ sym (append_assoc done s.before (record { class_name = class; selector = selector; code = s.code } ∷ s.after));
  passed = all_join done s.before p s.passed;
  refused = s.refused;
}

-- a plain fault, where all codes passed
pub ends_of : {Y : Type 0} (e : ReadError) (read : Result Y Fault) (met : List Met) → AllPass met → Fails e read → Ends (fault_of e) read met
ends_of errors.Memory read met p h = tt
ends_of (errors.Fault Short) read met p h = (h, p)
ends_of (errors.Fault (Field left value)) read met p h = (h, p)

-- ---- a plain part, and what stands behind it

pub fails_then : {A Y : Type 0} (e : ReadError) (r : Result A Fault) (a : A) (f : A → Result Y Fault) → r ≡ Ok a → Fails e (f a) → Fails e (r >>= f)
fails_then e r a f is h = subst (λ s. Fails e (s >>= f)) (sym is) h

pub fails_first : {A Y : Type 0} (e : ReadError) (r : Result A Fault) (f : A → Result Y Fault) → Fails e r → Fails e (r >>= f)
fails_first errors.Memory r f h = tt
fails_first (errors.Fault d) r f h = rw h refl

pub plain_fails : {A Y : Type 0} (e : ReadError) (r : Result A Fault) (f : A → Result Y Fault) (g : A → List Met) → Fails e r → Ends (fault_of e) (r >>= f) (on_ok r g)
plain_fails errors.Memory r f g h = tt
plain_fails (errors.Fault Short) r f g h = rw h (refl, tt)
plain_fails (errors.Fault (Field left value)) r f g h = rw h (refl, tt)

pub plain_then_ends : {A Y : Type 0} (fault : ImageFault) (r : Result A Fault) (a : A) (f : A → Result Y Fault) (g : A → List Met) → r ≡ Ok a → Ends fault (f a) (g a) → Ends fault (r >>= f) (on_ok r g)
plain_then_ends fault r a f g e h = subst (λ s. Ends fault (s >>= f) (on_ok s g)) (sym e) h

pub plain_then_ok : {A Y : Type 0} (y : Y) (r : Result A Fault) (a : A) (f : A → Result Y Fault) (g : A → List Met) → r ≡ Ok a → (f a ≡ Ok y) × AllPass (g a) → ((r >>= f) ≡ Ok y) × AllPass (on_ok r g)
plain_then_ok y r a f g e h = subst (λ s. ((s >>= f) ≡ Ok y) × AllPass (on_ok s g)) (sym e) h

pub plain_then : {A X Y : Type 0} (view : X → Y) (result : Result X ImageFault) (r : Result A Fault) (a : A) (f : A → Result Y Fault) (g : A → List Met) → r ≡ Ok a → Answers view result (f a) (g a) → Answers view result (r >>= f) (on_ok r g)
plain_then view result r a f g e h = subst (λ s. Answers view result (s >>= f) (on_ok s g)) (sym e) h

-- ---- a part with codes, and what stands behind it

pub part_fails : {Y W : Type 0} (fault : ImageFault) (r : Result Y Fault) (met : List Met) (f : Y → Result W Fault) (g : Y → List Met) → Ends fault r met → Ends fault (r >>= f) (met ++ on_ok r g)
part_fails faults.Memory r met f g h = tt
part_fails faults.Short r met f g (e, p) = rw e (refl, all_join met [] p tt)
part_fails (faults.Field left value) r met f g (e, p) = rw e (refl, all_join met [] p tt)
part_fails (faults.Unverified class selector) r met f g s = record {
  before = s.before;
  code = s.code;
  after = s.after ++ on_ok r g;
  parts = ap (λ l. l ++ on_ok r g) s.parts ∙ append_assoc s.before (record { class_name = class; selector = selector; code = s.code } ∷ s.after) (on_ok r g);
  passed = s.passed;
  refused = s.refused;
}

pub part_then_ends : {Y W : Type 0} (fault : ImageFault) (a : Y) (r : Result Y Fault) (met : List Met) (f : Y → Result W Fault) (g : Y → List Met) → r ≡ Ok a → AllPass met → Ends fault (f a) (g a) → Ends fault (r >>= f) (met ++ on_ok r g)
part_then_ends fault a r met f g e p h = subst (λ s. Ends fault (s >>= f) (met ++ on_ok s g)) (sym e) (prefix fault (f a) met (g a) p h)

pub part_then_ok : {Y W : Type 0} (a : Y) (w : W) (r : Result Y Fault) (met : List Met) (f : Y → Result W Fault) (g : Y → List Met) → r ≡ Ok a → AllPass met → f a ≡ Ok w → AllPass (g a) → ((r >>= f) ≡ Ok w) × AllPass (met ++ on_ok r g)
part_then_ok a w r met f g e p i q = subst (λ s. ((s >>= f) ≡ Ok w) × AllPass (met ++ on_ok s g)) (sym e) (i, all_join met (g a) p q)

-- with no codes behind it
pub last_fails : {Y W : Type 0} (fault : ImageFault) (r : Result Y Fault) (met : List Met) (f : Y → Result W Fault) → Ends fault r met → Ends fault (r >>= f) met
last_fails faults.Memory r met f h = tt
last_fails faults.Short r met f (e, p) = rw e (refl, p)
last_fails (faults.Field left value) r met f (e, p) = rw e (refl, p)
last_fails (faults.Unverified class selector) r met f s = s

-- ---- loops

-- what was read, and that the codes met so far passed
pub record SoFar {A : Type 0} (member : List A → Format A) (met : List A → List ℕ → List Met) (before : List A) (n : ℕ) (bytes : List ℕ) (total : Reading (List A)) (all : List Met) : Type 0 where
  pub read : members member before n bytes ≡ total
  pub done : List Met
  pub parts : all ≡ done ++ members_met member met before n bytes
  pub passed : AllPass done

pub begins : {A : Type 0} (member : List A → Format A) (met : List A → List ℕ → List Met) (before : List A) (n count : ℕ) (bytes : List ℕ) → before ≡ [] → n ≡ count
    → SoFar member met before n bytes (members member [] count bytes) (members_met member met [] count bytes)
begins member met before n count bytes none same = record {
  read = ap (λ b. members member b n bytes) none ∙ ap (λ k. members member [] k bytes) same;
  done = [];
  parts = sym (ap (λ b. members_met member met b n bytes) none ∙ ap (λ k. members_met member met [] k bytes) same);
  passed = tt;
}

module _ {A : Type 0} (member : List A → Format A) (met : List A → List ℕ → List Met) (count i : ℕ) (before : List A) (bytes : List ℕ) (total : Reading (List A)) (all : List Met) where
  pub loop_fails : (fault : ImageFault) → i < count → Ends fault ((member before).read bytes) (met before bytes)
      → SoFar member met before (count - i) bytes total all → Ends fault total all
  unfolding members members_met
  loop_fails fault lt h so =
      let k : count - i ≡ suc (count - (i + 1)) = omega arith in
      let step : Ends fault (members member before (suc (count - (i + 1))) bytes) (members_met member met before (suc (count - (i + 1))) bytes) =
      part_fails fault ((member before).read bytes) (met before bytes) (λ x. members member (before ++ x.0 ∷ []) (count - (i + 1)) x.1) (λ x. members_met member met (before ++ x.0 ∷ []) (count - (i + 1)) x.1) h in
      let here : Ends fault (members member before (count - i) bytes) (members_met member met before (count - i) bytes) = rw k step in
      subst (λ t. Ends fault t all) so.read (subst (λ l. Ends fault (members member before (count - i) bytes) l) (sym so.parts) (prefix fault (members member before (count - i) bytes) so.done (members_met member met before (count - i) bytes) so.passed here))

  pub loop_read : (new : List A) (x : A) (rest : List ℕ) → i < count → (member before).read bytes ≡ Ok (x, rest) → AllPass (met before bytes) → new ≡ before ++ x ∷ []
      → SoFar member met before (count - i) bytes total all → SoFar member met new (count - (i + 1)) rest total all
  unfolding members members_met
  loop_read new x rest lt e p is so =
      let k : count - i ≡ suc (count - (i + 1)) = omega arith in
      let next : members member before (count - i) bytes ≡ members member new (count - (i + 1)) rest = rw k (rw e (ap (λ b. members member b (count - (i + 1)) rest) (sym is))) in
      let more : members_met member met before (count - i) bytes ≡ met before bytes ++ members_met member met new (count - (i + 1)) rest =
      rw k (ap (λ r. met before bytes ++ on_ok r (λ y. members_met member met (before ++ y.0 ∷ []) (count - (i + 1)) y.1)) e ∙ ap (λ b. met before bytes ++ members_met member met b (count - (i + 1)) rest) (sym is)) in
      record {
        read = sym next ∙ so.read;
        done = so.done ++ met before bytes;
        parts = so.parts ∙ ap (λ l. so.done ++ l) more ∙ sym (append_assoc so.done (met before bytes) (members_met member met new (count - (i + 1)) rest));
        passed = all_join so.done (met before bytes) so.passed p;
      }

  pub loop_ends : count ≤ i → SoFar member met before (count - i) bytes total all → (total ≡ Ok (before, bytes)) × AllPass all
  unfolding members members_met
  loop_ends le so =
      let k : count - i ≡ 0 = omega arith in
      let one : members member before (count - i) bytes ≡ Ok (before, bytes) = rw k refl in
      let none : members_met member met before (count - i) bytes ≡ [] = rw k refl in
      let whole : all ≡ so.done = so.parts ∙ ap (λ l. so.done ++ l) none ∙ append-nil so.done in
      (sym so.read ∙ one, subst AllPass (sym whole) so.passed)
