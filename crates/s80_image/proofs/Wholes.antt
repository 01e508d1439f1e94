-- Methods, classes and contents, part by part.
use Rattle.std.proofs.Common.{◌≡◌, ℕ, List, [], ◌++◌, ◌⊎◌, inl, inr, Option, Result, Ok, Err, refl, sym, ap, ◌∙◌}
use Rattle.std.specs.Prelude.{nat_le}
use Rattle.s80_code.specs.declared.code.Code.{Code}
use Rattle.s80_verify.specs.Fault.{Fails as HasFault, IsVerified}
use Rattle.s80_verify.specs.declared.fault.VerifyKind.{VerifyKind}
use Rattle.s80_history.specs.declared.noted.Noted.{Noted}
use Rattle.s80_image.specs.declared.fault.ReadError.{ReadError}
use Rattle.s80_image.specs.declared.fault.ReadError.TheVariants as errors
use Rattle.s80_image.specs.declared.fault.ImageFault.{ImageFault}
use Rattle.s80_image.specs.declared.fault.ImageFault.TheVariants as faults
use Rattle.s80_image.specs.declared.image.MethodHeading.{MethodHeading}
use Rattle.s80_image.specs.declared.image.ClassHeading.{ClassHeading}
use Rattle.s80_image.specs.Format.{◌>>=◌, Fails, Reading, members, number_where, word32, word64}
use Rattle.s80_image.specs.Parts.{Name}
use Rattle.s80_image.specs.Methods.{MethodView, code_of, method, method_behind, method_limit, methods}
use Rattle.s80_image.specs.Classes.{ClassView, class, class_behind, classes, heading}
use Rattle.s80_image.specs.History.{VersionsView, all_versions, change_set}
use Rattle.s80_image.specs.Image.{ImageView, contents, image_format, signature}
use Rattle.s80_image.specs.Answers.{AllPass, Answers, Ends, Met, class_met, class_met_behind, classes_met, contents_met, fault_of, image_met, members_met, method_met, method_met_behind, methods_met, on_ok}
use Rattle.s80_image.proofs.SameCode.{fails_alike}
use Rattle.s80_image.proofs.Verifying.{ends_of, fails_first, fails_then, last_fails, part_fails, part_then_ends, part_then_ok, plain_fails, plain_then, plain_then_ends, plain_then_ok}

-- ---- one method

module _ (class_name : Name) (last : Option Name) (bytes : List ℕ) where
  pub method_fails : (e : ReadError) → Fails e ((method last).read bytes) → Ends (fault_of e) ((method last).read bytes) (method_met class_name last bytes)
  unfolding method_met
  method_fails errors.Memory h = tt
  method_fails (errors.Fault d) h = ends_of (errors.Fault d) ((method last).read bytes) _ (rw h tt) h

  pub method_passes : (h : MethodHeading) (code verified : Code) (rest : List ℕ) → (method last).read bytes ≡ Ok (record { heading = h; code = code_of code }, rest) → verified ≡ code → IsVerified verified
      → ((method last).read bytes ≡ Ok (record { heading = h; code = code_of verified }, rest)) × AllPass (method_met class_name last bytes)
  unfolding method_met
  method_passes h code verified rest e is v =
      (e ∙ ap (λ c. Ok (record { heading = h; code = code_of c }, rest)) (sym is), rw e ((verified, ap code_of is, v), tt))

  pub method_stops : (h : MethodHeading) (code : Code) (rest : List ℕ) (fault : ImageFault) (kind : VerifyKind) (at : ℕ) → (method last).read bytes ≡ Ok (record { heading = h; code = code_of code }, rest)
      → HasFault code kind at → (fault ≡ faults.Memory) ⊎ (fault ≡ faults.Unverified class_name h.selector) → Ends fault ((method last).read bytes) (method_met class_name last bytes)
  unfolding method_met
  method_stops h code rest fault kind at e bad (inl is) = rw is tt
  method_stops h code rest fault kind at e bad (inr is) = rw is (record {
    before = [];
    code = code_of code;
    after = [];
    parts = rw e refl;
    passed = tt;
    refused = λ v. v.2 kind at (fails_alike code v.0 (sym v.1) kind at bad);
  })

-- ---- the methods of a side

pub methods_fail : (class_name : Name) (bytes : List ℕ) (e : ReadError) → Fails e ((number_where (λ n. nat_le n method_limit) word32).read bytes) → Ends (fault_of e) (methods.read bytes) (methods_met class_name bytes)
unfolding methods methods_met
methods_fail class_name bytes e h = plain_fails e ((number_where (λ n. nat_le n method_limit) word32).read bytes) (λ n. members method_behind [] n.0 n.1) (λ n. members_met method_behind (method_met_behind class_name) [] n.0 n.1) h

pub methods_then : {X : Type 0} (view : X → List MethodView × List ℕ) (result : Result X ImageFault) (class_name : Name) (bytes : List ℕ) (n : ℕ × List ℕ) → (number_where (λ k. nat_le k method_limit) word32).read bytes ≡ Ok n
    → Answers view result (members method_behind [] n.0 n.1) (members_met method_behind (method_met_behind class_name) [] n.0 n.1) → Answers view result (methods.read bytes) (methods_met class_name bytes)
unfolding methods methods_met
methods_then view result class_name bytes n e h = plain_then view result ((number_where (λ k. nat_le k method_limit) word32).read bytes) n (λ m. members method_behind [] m.0 m.1) (λ m. members_met method_behind (method_met_behind class_name) [] m.0 m.1) e h

pub classes_fail : (bytes : List ℕ) (e : ReadError) → Fails e ((number_where (λ n. nat_le n 65536) word32).read bytes) → Ends (fault_of e) (classes.read bytes) (classes_met bytes)
unfolding classes classes_met
classes_fail bytes e h = plain_fails e ((number_where (λ n. nat_le n 65536) word32).read bytes) (λ n. members class_behind [] n.0 n.1) (λ n. members_met class_behind class_met_behind [] n.0 n.1) h

pub classes_then : {X : Type 0} (view : X → List ClassView × List ℕ) (result : Result X ImageFault) (bytes : List ℕ) (n : ℕ × List ℕ) → (number_where (λ k. nat_le k 65536) word32).read bytes ≡ Ok n
    → Answers view result (members class_behind [] n.0 n.1) (members_met class_behind class_met_behind [] n.0 n.1) → Answers view result (classes.read bytes) (classes_met bytes)
unfolding classes classes_met
classes_then view result bytes n e h = plain_then view result ((number_where (λ k. nat_le k 65536) word32).read bytes) n (λ m. members class_behind [] m.0 m.1) (λ m. members_met class_behind class_met_behind [] m.0 m.1) e h

-- ---- one class

abbrev class_sides : ClassHeading → List ℕ → Reading ClassView
class_sides h bytes = methods.read bytes >>= λ a. methods.read a.1 >>= λ b. Ok (record { heading = h; instance = a.0; class = b.0 }, b.1)

abbrev paired : {A B : Type 0} → A → B × List ℕ → Reading (A × B)
paired a x = Ok ((a, x.0), x.1)

abbrev made_class : (ClassHeading × (List MethodView × List MethodView)) × List ℕ → Reading ClassView
made_class p = Ok (record { heading = p.0.0; instance = p.0.1.0; class = p.0.1.1 }, p.1)

abbrev with_sides : ClassHeading → List MethodView → List MethodView × List ℕ → Reading ClassView
with_sides h a b = Ok (record { heading = h; instance = a; class = b.0 }, b.1)

class_third : (h : ClassHeading) (a : List MethodView) (r : Reading (List MethodView)) → (((r >>= paired a) >>= paired h) >>= made_class) ≡ (r >>= with_sides h a)
class_third h a (Err d) = refl
class_third h a (Ok c) = refl

class_second : (h : ClassHeading) (r : Reading (List MethodView)) (m : List ℕ → Reading (List MethodView))
    → (((r >>= (λ b. m b.1 >>= paired b.0)) >>= paired h) >>= made_class) ≡ (r >>= (λ a. m a.1 >>= with_sides h a.0))
class_second h (Err d) m = refl
class_second h (Ok a) m = class_third h a.0 (m a.1)

class_first : (r : Reading ClassHeading) (m : List ℕ → Reading (List MethodView))
    → ((r >>= (λ a. (m a.1 >>= (λ b. m b.1 >>= paired b.0)) >>= paired a.0)) >>= made_class) ≡ (r >>= (λ h. m h.1 >>= (λ a. m a.1 >>= with_sides h.0 a.0)))
class_first (Err d) m = refl
class_first (Ok h) m = class_second h.0 (m h.1) m

class_read : (last : Option Name) (bytes : List ℕ) → (class last).read bytes ≡ ((heading last).read bytes >>= λ h. class_sides h.0 h.1)
unfolding class
class_read last bytes = class_first ((heading last).read bytes) methods.read

abbrev sides_met : ClassHeading × List ℕ → List Met
sides_met h = methods_met h.0.name h.1 ++ on_ok (methods.read h.1) (λ m. methods_met h.0.name m.1)

module _ (last : Option Name) (bytes : List ℕ) where
  pub heading_fails : (e : ReadError) → Fails e ((heading last).read bytes) → Ends (fault_of e) ((class last).read bytes) (class_met last bytes)
  unfolding class_met
  heading_fails e h = rw (class_read last bytes) (plain_fails e ((heading last).read bytes) (λ x. class_sides x.0 x.1) sides_met h)

  pub instance_fails : (fault : ImageFault) (h : ClassHeading) (rest : List ℕ) → (heading last).read bytes ≡ Ok (h, rest) → Ends fault (methods.read rest) (methods_met h.name rest) → Ends fault ((class last).read bytes) (class_met last bytes)
  unfolding class_met
  instance_fails fault h rest e f = rw (class_read last bytes) (plain_then_ends fault ((heading last).read bytes) (h, rest) (λ x. class_sides x.0 x.1) sides_met e
      (part_fails fault (methods.read rest) (methods_met h.name rest) (λ a. methods.read a.1 >>= λ b. Ok (record { heading = h; instance = a.0; class = b.0 }, b.1)) (λ m. methods_met h.name m.1) f))

  pub class_side_fails : (fault : ImageFault) (h : ClassHeading) (rest : List ℕ) (a : List MethodView) (after : List ℕ) → (heading last).read bytes ≡ Ok (h, rest)
      → (methods.read rest ≡ Ok (a, after)) × AllPass (methods_met h.name rest) → Ends fault (methods.read after) (methods_met h.name after) → Ends fault ((class last).read bytes) (class_met last bytes)
  unfolding class_met
  class_side_fails fault h rest a after e i f = rw (class_read last bytes) (plain_then_ends fault ((heading last).read bytes) (h, rest) (λ x. class_sides x.0 x.1) sides_met e
      (part_then_ends fault (a, after) (methods.read rest) (methods_met h.name rest) (λ y. methods.read y.1 >>= λ b. Ok (record { heading = h; instance = y.0; class = b.0 }, b.1)) (λ m. methods_met h.name m.1) i.0 i.1
      (last_fails fault (methods.read after) (methods_met h.name after) (λ b. Ok (record { heading = h; instance = a; class = b.0 }, b.1)) f)))

  pub class_passes : (h : ClassHeading) (rest : List ℕ) (a : List MethodView) (after : List ℕ) (b : List MethodView) (end : List ℕ) → (heading last).read bytes ≡ Ok (h, rest)
      → (methods.read rest ≡ Ok (a, after)) × AllPass (methods_met h.name rest) → (methods.read after ≡ Ok (b, end)) × AllPass (methods_met h.name after)
      → ((class last).read bytes ≡ Ok (record { heading = h; instance = a; class = b }, end)) × AllPass (class_met last bytes)
  unfolding class_met
  class_passes h rest a after b end e i f = rw (class_read last bytes) (plain_then_ok (record { heading = h; instance = a; class = b }, end) ((heading last).read bytes) (h, rest) (λ x. class_sides x.0 x.1) sides_met e
      (part_then_ok (a, after) (record { heading = h; instance = a; class = b }, end) (methods.read rest) (methods_met h.name rest) (λ y. methods.read y.1 >>= λ c. Ok (record { heading = h; instance = y.0; class = c.0 }, c.1)) (λ m. methods_met h.name m.1) i.0 i.1
      (rw f.0 refl) f.1))

-- ---- the contents of an image

abbrev history_read : ℕ → List ClassView → List ℕ → Reading ImageView
history_read n cs bytes = change_set.read bytes >>= λ s. all_versions.read s.1 >>= λ v. Ok (record { count = n; classes = cs; change_set = s.0; versions = v.0 }, v.1)

abbrev classes_then_history : ℕ × List ℕ → Reading ImageView
classes_then_history n = classes.read n.1 >>= λ c. history_read n.0 c.0 c.1

abbrev made : (ℕ × (List ClassView × (List Noted × List VersionsView))) × List ℕ → Reading ImageView
made p = Ok (record { count = p.0.0; classes = p.0.1.0; change_set = p.0.1.1.0; versions = p.0.1.1.1 }, p.1)

abbrev with_versions : ℕ → List ClassView → List Noted → List VersionsView × List ℕ → Reading ImageView
with_versions n c s v = Ok (record { count = n; classes = c; change_set = s; versions = v.0 }, v.1)

contents_fourth : (n : ℕ) (c : List ClassView) (s : List Noted) (r : Reading (List VersionsView)) → ((((r >>= paired s) >>= paired c) >>= paired n) >>= made) ≡ (r >>= with_versions n c s)
contents_fourth n c s (Err d) = refl
contents_fourth n c s (Ok v) = refl

contents_third : (n : ℕ) (c : List ClassView) (r : Reading (List Noted)) (q : List ℕ → Reading (List VersionsView))
    → ((((r >>= (λ s. q s.1 >>= paired s.0)) >>= paired c) >>= paired n) >>= made) ≡ (r >>= (λ s. q s.1 >>= with_versions n c s.0))
contents_third n c (Err d) q = refl
contents_third n c (Ok s) q = contents_fourth n c s.0 (q s.1)

contents_second : (n : ℕ) (r : Reading (List ClassView)) (p : List ℕ → Reading (List Noted)) (q : List ℕ → Reading (List VersionsView))
    → (((r >>= (λ c. (p c.1 >>= (λ s. q s.1 >>= paired s.0)) >>= paired c.0)) >>= paired n) >>= made) ≡ (r >>= (λ c. p c.1 >>= (λ s. q s.1 >>= with_versions n c.0 s.0)))
contents_second n (Err d) p q = refl
contents_second n (Ok c) p q = contents_third n c.0 (p c.1) q

contents_first : (r : Reading ℕ) (o : List ℕ → Reading (List ClassView)) (p : List ℕ → Reading (List Noted)) (q : List ℕ → Reading (List VersionsView))
    → ((r >>= (λ n. (o n.1 >>= (λ c. (p c.1 >>= (λ s. q s.1 >>= paired s.0)) >>= paired c.0)) >>= paired n.0)) >>= made) ≡ (r >>= (λ n. o n.1 >>= (λ c. p c.1 >>= (λ s. q s.1 >>= with_versions n.0 c.0 s.0))))
contents_first (Err d) o p q = refl
contents_first (Ok n) o p q = contents_second n.0 (o n.1) p q

contents_read : (bytes : List ℕ) → contents.read bytes ≡ (word64.read bytes >>= classes_then_history)
unfolding contents
contents_read bytes = contents_first (word64.read bytes) classes.read change_set.read all_versions.read

module _ (bytes : List ℕ) where
  pub count_fails : (e : ReadError) → Fails e (word64.read bytes) → Ends (fault_of e) (contents.read bytes) (contents_met bytes)
  unfolding contents_met
  count_fails e h = rw (contents_read bytes) (plain_fails e (word64.read bytes) classes_then_history (λ n. classes_met n.1) h)

  pub contents_fail : (fault : ImageFault) (n : ℕ) (rest : List ℕ) → word64.read bytes ≡ Ok (n, rest) → Ends fault (classes.read rest) (classes_met rest) → Ends fault (contents.read bytes) (contents_met bytes)
  unfolding contents_met
  contents_fail fault n rest e f = rw (contents_read bytes) (plain_then_ends fault (word64.read bytes) (n, rest) classes_then_history (λ m. classes_met m.1) e
      (last_fails fault (classes.read rest) (classes_met rest) (λ c. history_read n c.0 c.1) f))

  pub set_fails : (e : ReadError) (n : ℕ) (rest : List ℕ) (cs : List ClassView) (after : List ℕ) → word64.read bytes ≡ Ok (n, rest) → (classes.read rest ≡ Ok (cs, after)) × AllPass (classes_met rest)
      → Fails e (change_set.read after) → Ends (fault_of e) (contents.read bytes) (contents_met bytes)
  unfolding contents_met
  set_fails e n rest cs after w c f = rw (contents_read bytes) (plain_then_ends (fault_of e) (word64.read bytes) (n, rest) classes_then_history (λ m. classes_met m.1) w
      (ends_of e (classes_then_history (n, rest)) (classes_met rest) c.1 (fails_then e (classes.read rest) (cs, after) (λ x. history_read n x.0 x.1) c.0 (fails_first e (change_set.read after) _ f))))

  pub versions_fail : (e : ReadError) (n : ℕ) (rest : List ℕ) (cs : List ClassView) (after : List ℕ) (s : List Noted) (behind : List ℕ) → word64.read bytes ≡ Ok (n, rest) → (classes.read rest ≡ Ok (cs, after)) × AllPass (classes_met rest)
      → change_set.read after ≡ Ok (s, behind) → Fails e (all_versions.read behind) → Ends (fault_of e) (contents.read bytes) (contents_met bytes)
  unfolding contents_met
  versions_fail e n rest cs after s behind w c i f = rw (contents_read bytes) (plain_then_ends (fault_of e) (word64.read bytes) (n, rest) classes_then_history (λ m. classes_met m.1) w
      (ends_of e (classes_then_history (n, rest)) (classes_met rest) c.1 (fails_then e (classes.read rest) (cs, after) (λ x. history_read n x.0 x.1) c.0
      (fails_then e (change_set.read after) (s, behind) (λ y. all_versions.read y.1 >>= λ v. Ok (record { count = n; classes = cs; change_set = y.0; versions = v.0 }, v.1)) i (fails_first e (all_versions.read behind) _ f)))))

  pub contents_pass : (n : ℕ) (rest : List ℕ) (cs : List ClassView) (after : List ℕ) (s : List Noted) (behind : List ℕ) (vs : List VersionsView) (end : List ℕ) → word64.read bytes ≡ Ok (n, rest) → (classes.read rest ≡ Ok (cs, after)) × AllPass (classes_met rest)
      → change_set.read after ≡ Ok (s, behind) → all_versions.read behind ≡ Ok (vs, end)
      → (contents.read bytes ≡ Ok (record { count = n; classes = cs; change_set = s; versions = vs }, end)) × AllPass (contents_met bytes)
  unfolding contents_met
  contents_pass n rest cs after s behind vs end w c i v = rw (contents_read bytes) (plain_then_ok (record { count = n; classes = cs; change_set = s; versions = vs }, end) (word64.read bytes) (n, rest) classes_then_history (λ m. classes_met m.1) w
      (rw c.0 (rw i (rw v refl)), c.1))

pub signature_fails : (bytes : List ℕ) (e : ReadError) → Fails e (signature bytes) → Ends (fault_of e) (image_format.read bytes) (image_met bytes)
unfolding image_format image_met
signature_fails bytes e h = plain_fails e (signature bytes) contents.read contents_met h

pub image_then : {X : Type 0} (view : X → ImageView × List ℕ) (result : Result X ImageFault) (bytes rest : List ℕ) → signature bytes ≡ Ok rest → Answers view result (contents.read rest) (contents_met rest) → Answers view result (image_format.read bytes) (image_met bytes)
unfolding image_format image_met
image_then view result bytes rest e h = plain_then view result (signature bytes) rest contents.read contents_met e h
