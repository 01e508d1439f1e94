-- Variables are read and written on both sides alike.
use Rattle.std.proofs.Common.{arith, ◌≡◌, ◌∙◌, ap, sym, subst, refl, ℕ, List, [], inl, inr, slice_get, slice_set, length, nat_lt, Bool, true, false, Option, Some, None, Result, Ok, Err, option_map, option_and_then, if◌then◌else◌}
use Rattle.s80_base.specs.declared.names.Side.TheVariants.{Instance, Class}
use Rattle.s80_code.proofs.lemmas.TableLemmas.{value}
use Rattle.s80_object.specs.Body.{BodyTree}
use Rattle.s80_object.specs.Literal.{Built, noted}
use Rattle.s80_object.specs.Objects.{State as Objects, field_put, put_with, with_body_at}
use Rattle.s80_object.specs.declared.value.ObjectFault.{ObjectFault}
use Rattle.s80_object.specs.declared.value.Value.{Value}
use Rattle.s80_object.specs.declared.value.Value.TheVariants as is
use Rattle.s80_core.specs.Core.{VariableTree}
use Rattle.s80_core.specs.Core as core
use Rattle.s80_machine.specs.World.{World, Key, Variable, class_side, class_variable, outer, Activation, own, home, block, field_read, field_set, ok_of, receiver_variable, temporary, with_objects, with_receiver_variable, with_variable}
use Rattle.s80_meaning.specs.Meaning.{read, written}
use Rattle.s80_meaning.specs.Image.{image}
use Rattle.s80_meaning.proofs.NaturalObjects.{field_put_image, fields_at_image, placed_result, with_body_at_image}
use Rattle.s80_meaning.proofs.Extends.{noted_bodies, noted_either}
use Rattle.s80_meaning.proofs.Stays.{Facts, Extends, IsFine, IsMade, IsPlaced, Later, extends_later, extends_made, extends_placed, image_stays, place_in, later_then, placed_stays, same_later, shown}

-- an activation as those see it who ask whether it is alive
abbrev pub mark : Activation → Activation
mark (own temporaries) = own []
mark (home h) = home h
mark (block b h) = block b h

module _ (starts : Key → ℕ → ℕ) where
  -- objects that were changed alike on both sides
  pub shown_again : (facts : Facts) (old new : World) → Later old new → IsPlaced facts old new.objects → with_objects new (image (place_in starts old) new.objects) ≡ shown starts new
  shown_again facts old new later fine = ap (with_objects new) (sym (image_stays starts facts old new later new.objects fine))

  field_read_shown : (w : World) (n i : ℕ) → field_read (shown starts w) n i ≡ field_read w n i
  field_read_shown w n i = ap (option_and_then (λ fields. slice_get fields i)) (fields_at_image (place_in starts w) w.objects (is.Object n))

  temporary_shown : (w : World) (f : Activation) (i : ℕ) → temporary (shown starts w) f i ≡ temporary w f i
  temporary_shown w (own temporaries) i = refl
  temporary_shown w (home h) i = field_read_shown w h i
  temporary_shown w (block b h) i = field_read_shown w h i

  receiver_variable_shown : (w : World) (r : Value) (i : ℕ) → receiver_variable (shown starts w) r i ≡ receiver_variable w r i
  receiver_variable_shown w (is.Object n) i = field_read_shown w n i
  receiver_variable_shown w (is.ClassRef c Instance) i = refl
  receiver_variable_shown w (is.ClassRef c Class) i = refl
  receiver_variable_shown w _ i = refl

  pub read_shown : (w : World) (f : Activation) (r : Value) (v : VariableTree) → read (shown starts w) f r v ≡ read w f r v
  read_shown w f r (core.temporary i) = temporary_shown w f i
  read_shown w f r (core.instance i) = receiver_variable_shown w r i
  read_shown w f r (core.class_variable class name) = refl
  read_shown w f r (core.outer name) = refl

-- ---- worlds that were changed alike

module _ (facts : Facts) where
  -- a world that was changed alike
  pub record Alike (old new : World) : Type 0 where
    pub later : Later old new
    pub fine : IsFine facts new

  pub same_alike : (w : World) → IsFine facts w → Alike w w
  same_alike w fine = record { later = same_later w; fine = fine }

  pub alike_then : (a b c : World) → Alike a b → Alike b c → Alike a c
  alike_then a b c k l = record { later = later_then a b c k.later l.later; fine = l.fine }

  pub alike_by : (w : World) (s : Objects) → IsFine facts w → Extends w.objects s → Alike w (with_objects w s)
  alike_by w s fine e = record {
    later = extends_later w s e;
    fine = record {
      placed = placed_stays facts w (with_objects w s) (extends_later w s e) s (extends_placed w s e fine);
      unique = fine.unique;
      made = extends_made facts w w.objects s e fine.made;
      in_time = fine.in_time;
    };
  }

  -- a literal that is an object, noted: it is no small constant
  pub noted_alike : (w : World) (m k : ℕ) (key : Key) (object : Bool) (b : Built) → IsFine facts w → Extends w.objects b.0 → slice_get w.keys m ≡ Some key → (object ≡ true → facts.small key k ≡ false)
      → Alike w (with_objects w (noted m k object b))
  noted_alike w m k key false b fine e there is = alike_by w b.0 fine e
  noted_alike w m k key true b fine e there is =
      let before = alike_by w b.0 fine e in
      record {
        later = record { keys = before.later.keys; homes = before.later.homes; ticks = before.later.ticks };
        fine = record { placed = before.fine.placed; unique = fine.unique; made = made before.fine.made; in_time = fine.in_time };
      }
    where
      made : IsMade facts w b.0 → IsMade facts w (noted m k true b)
      made was n i v h = elim (noted_either m k true b n i v h) [
        | inl h ↦ was n i v h
        | inr h ↦ (key, ap (slice_get w.keys) (sym h.1) ∙ there, ap (facts.small key) (sym h.2) ∙ is h.0)
      ]

module _ (starts : Key → ℕ → ℕ) (facts : Facts) where
  pub shown_by : (w : World) (s : Objects) → IsFine facts w → Extends w.objects s → with_objects w (image (place_in starts w) s) ≡ shown starts (with_objects w s)
  shown_by w s fine e = shown_again starts facts w (with_objects w s) (extends_later w s e) (extends_placed w s e fine)

  pub noted_shown : (w : World) (m k : ℕ) (key : Key) (object : Bool) (b : Built) → IsFine facts w → Extends w.objects b.0 → slice_get w.keys m ≡ Some key → (object ≡ true → facts.small key k ≡ false)
      → with_objects w (image (place_in starts w) (noted m k object b)) ≡ shown starts (with_objects w (noted m k object b))
  noted_shown w m k key object b fine e there is =
      let more = noted_alike facts w m k key object b fine e there is in
      shown_again starts facts w (with_objects w (noted m k object b)) more.later (λ n whole c count h. extends_placed w b.0 e fine n whole c count (ap (λ (bs : List BodyTree). slice_get bs n) (sym (noted_bodies m k object b)) ∙ h))

  module _ (field_extends : (s : Objects) (v : Value) (i : ℕ) (x : Value) (b : BodyTree) → put_with (λ b. field_put b i x) s v ≡ Ok b → Extends s (with_body_at s v b)) where
    field_set_shown : (w : World) (n i : ℕ) (x : Value) (w1 : World) → IsFine facts w → field_set w n i x ≡ Some w1 → (field_set (shown starts w) n i x ≡ Some (shown starts w1)) × Alike facts w w1
    field_set_shown w n i x w1 fine e = by_put (put_with (λ b. field_put b i x) w.objects (is.Object n)) refl e
      where
        at : Value → ℕ → ℕ
        at = place_in starts w

        by_put : (r : Result BodyTree ObjectFault) → put_with (λ b. field_put b i x) w.objects (is.Object n) ≡ r → option_map (λ b. with_objects w (with_body_at w.objects (is.Object n) b)) (ok_of r) ≡ Some w1
            → (field_set (shown starts w) n i x ≡ Some (shown starts w1)) × Alike facts w w1
        by_put (Err fault) put e = cc
        by_put (Ok b) put e =
            let s = with_body_at w.objects (is.Object n) b in
            let ext = field_extends w.objects (is.Object n) i x b put in
            let same : with_objects w s ≡ w1 = value e in (
              ap (λ r. option_map (λ b. with_objects (shown starts w) (with_body_at (shown starts w).objects (is.Object n) b)) (ok_of r)) (field_put_image at w.objects (is.Object n) i x ∙ ap (placed_result at) put)
                  ∙ ap (λ z. Some (with_objects w z)) (sym (with_body_at_image at w.objects (is.Object n) b)) ∙ ap Some (shown_by w s fine ext ∙ ap (shown starts) same),
              subst (Alike facts w) same (alike_by facts w s fine ext),
            )

    -- what a write comes to on both sides
    abbrev pub WritesAlike : World → Activation → Option (World × Activation) → World × Activation → Type 0
    WritesAlike w f machine p = (machine ≡ Some (shown starts p.0, p.1)) × Alike facts w p.0 × (mark p.1 ≡ mark f)

    set_shown : (w : World) (n i : ℕ) (x : Value) (f : Activation) (p : World × Activation) → IsFine facts w → option_map (λ w. (w, f)) (field_set w n i x) ≡ Some p
        → WritesAlike w f (option_map (λ w. (w, f)) (field_set (shown starts w) n i x)) p
    set_shown w n i x f p fine e = by_set (field_set w n i x) refl e
      where
        by_set : (o : Option World) → field_set w n i x ≡ o → option_map (λ w. (w, f)) o ≡ Some p → WritesAlike w f (option_map (λ w. (w, f)) (field_set (shown starts w) n i x)) p
        by_set None set e = cc
        by_set (Some w1) set e =
            let r = field_set_shown w n i x w1 fine set in
            let same : (w1, f) ≡ p = value e in
            (ap (option_map (λ w. (w, f))) r.0 ∙ ap (λ (p : World × Activation). Some (shown starts p.0, p.1)) same, (subst (λ (p : World × Activation). Alike facts w p.0) same r.1), (ap (λ (p : World × Activation). mark p.1) (sym same)))

    -- nothing but the activation, or a variable outside, is another
    aside_shown : (w w1 : World) (f g : Activation) (p : World × Activation) → Alike facts w w1 → mark g ≡ mark f → Some (w1, g) ≡ Some p → WritesAlike w f (Some (shown starts w1, g)) p
    aside_shown w w1 f g p alike seen e =
        let same : (w1, g) ≡ p = value e in
        (ap (λ (p : World × Activation). Some (shown starts p.0, p.1)) same, (subst (λ (p : World × Activation). Alike facts w p.0) same alike), (ap (λ (p : World × Activation). mark p.1) (sym same) ∙ seen))

    own_shown : (w : World) (ts us : List Value) (b : Bool) (p : World × Activation) → IsFine facts w → (if b then Some (w, own us) else None) ≡ Some p → WritesAlike w (own ts) (if b then Some (shown starts w, own us) else None) p
    own_shown w ts us true p fine e = aside_shown w w (own ts) (own us) p (record { later = same_later w; fine = fine }) refl e
    own_shown w ts us false p fine e = cc

    variable_alike : (w : World) (v : Variable) (x : Value) → IsFine facts w → Alike facts w (with_variable w v x)
    variable_alike w v x fine = record { later = record { keys = λ n key e. e; homes = λ whole parts e. e; ticks = omega arith }; fine = record { placed = fine.placed; unique = fine.unique; made = fine.made; in_time = fine.in_time } }

    receiver_shown : (w : World) (f : Activation) (r : Value) (i : ℕ) (x : Value) (p : World × Activation) → IsFine facts w → option_map (λ w. (w, f)) (with_receiver_variable w r i x) ≡ Some p
        → WritesAlike w f (option_map (λ w. (w, f)) (with_receiver_variable (shown starts w) r i x)) p
    receiver_shown w f (is.Object n) i x p fine e = set_shown w n i x f p fine e
    receiver_shown w f (is.ClassRef c Instance) i x p fine e = aside_shown w (with_variable w (class_side c i) x) f f p (variable_alike w (class_side c i) x fine) refl e
    receiver_shown w f (is.ClassRef c Class) i x p fine e = cc
    receiver_shown w f _ i x p fine e = cc

    pub written_shown : (w : World) (f : Activation) (r : Value) (v : VariableTree) (x : Value) (p : World × Activation) → IsFine facts w → written w f r v x ≡ Some p → WritesAlike w f (written (shown starts w) f r v x) p
    written_shown w (own ts) r (core.temporary i) x p fine e = own_shown w ts (slice_set ts i x) (nat_lt i (length ts)) p fine e
    written_shown w (home h) r (core.temporary i) x p fine e = set_shown w h i x (home h) p fine e
    written_shown w (block b h) r (core.temporary i) x p fine e = set_shown w h i x (block b h) p fine e
    written_shown w f r (core.instance i) x p fine e = receiver_shown w f r i x p fine e
    written_shown w f r (core.class_variable class name) x p fine e = aside_shown w (with_variable w (class_variable class name) x) f f p (variable_alike w (class_variable class name) x fine) refl e
    written_shown w f r (core.outer name) x p fine e = aside_shown w (with_variable w (outer name) x) f f p (variable_alike w (outer name) x fine) refl e
