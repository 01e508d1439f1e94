-- Fields and temporaries: each that is named is there, and is known.
use Rattle.std.proofs.Common.{◌≡◌, ◌∙◌, ap, sym, subst, refl, ℕ, ◌<◌, List, Option, Some, None, true, length, slice_get, slice_set, nat_lt, All, Ok, Err, arith, true≢false, if◌then◌else◌, option_and_then}
use Rattle.std.specs.Option.{IsSome, option_map, option_map_or}
use Rattle.std.proofs.lemmas.Bool.Decides.{nat_tests}
use Rattle.std.proofs.lemmas.List.{length-set}
use Rattle.std.proofs.lemmas.List.Elements.{All-set}
use Rattle.s80_base.specs.declared.names.Side.TheVariants.{Instance, Class}
use Rattle.s80_class.specs.Table.{Table}
use Rattle.s80_code.specs.declared.code.Code.{Code}
use Rattle.s80_dict.specs.Table.{MethodsValue}
use Rattle.s80_dict.specs.declared.dict.MethodEntry.{MethodEntry}
use Rattle.s80_object.specs.Body.{BodyTree, pointers, bytes, words, home as home_body, block as block_body, fields_of}
use Rattle.s80_object.specs.Objects.{field_put, with_body_at}
use Rattle.s80_object.specs.declared.value.ObjectFault.TheVariants.{Kind, Range}
use Rattle.s80_object.specs.declared.value.Value.{Value}
use Rattle.s80_object.specs.declared.value.Value.TheVariants.{Small, Character, Nil, True, False, Symbol, Number, ClassRef, Object, Context as ContextValue, Transcript, Smalltalk}
use Rattle.s80_prims.specs.Known.{BodyIsKnown, IsKnown}
use Rattle.s80_machine.specs.World.{World, Activation, own, home, block, class_side, field_read, field_set, in_activation, ok_of, receiver_variable, temporary, with_objects, with_receiver_variable, with_temporary, with_variable}
use Rattle.s80_machine.specs.Sound.{IsActivationOf, IsHomeOf, IsSoundWorld, stack_kind}
use Rattle.s80_machine.proofs.lemmas.SoundLists.{got_there, all_got}
use Rattle.s80_machine.proofs.SoundWorlds.{IsSameAs, HasField, some_place, place_below, activation_stays}
use Rattle.s80_machine.proofs.SoundChanges.{Follows, put_follows, same_follows, variable_follows}

pub is_below : (i n : ℕ) → i < n → nat_lt i n ≡ true
is_below i n h = grind (arith, nat_tests)

-- what is there, and known
pub record IsThere (t : Table) (w : World) (o : Option Value) : Type 0 where
  pub value : Value
  pub is : o ≡ Some value
  pub known : IsKnown t w.objects value

module _ (t : Table) (methods : MethodsValue (MethodEntry Code)) (code : Code) (w : World) (sound : IsSoundWorld t methods code w) where
  -- ---- reading

  there_in : (values : List Value) (i : ℕ) → i < length values → All (IsKnown t w.objects) values → IsThere t w (slice_get values i)
  there_in values i below known = let v = got_there values i below in record { value = v.0; is = v.1; known = all_got (IsKnown t w.objects) values i v.0 known v.1 }

  abbrev read_in : Option BodyTree → ℕ → Option Value
  read_in o i = option_and_then (λ fields. slice_get fields i) (option_and_then fields_of o)

  field_there : (n i : ℕ) → IsSome (field_read w n i) → IsThere t w (field_read w n i)
  field_there n i h = go (slice_get w.objects.bodies n) refl h
    where
      of : (b : BodyTree) → BodyIsKnown t w.objects b → HasField (Some b) i → IsThere t w (read_in (Some b) i)
      of (pointers class fields items) known h = there_in fields i (place_below fields i h) known.1.0
      of (home_body m r temporaries) known h = there_in temporaries i (place_below temporaries i h) known.1
      of (bytes class items) known h = absurd (true≢false (sym h))
      of (words class items) known h = absurd (true≢false (sym h))
      of (block_body whole start count) known h = absurd (true≢false (sym h))

      go : (o : Option BodyTree) → slice_get w.objects.bodies n ≡ o → HasField o i → IsThere t w (read_in o i)
      go None e h = absurd (true≢false (sym h))
      go (Some b) e h = of b (sound.known n b e) h

  pub receiver_there : (r : Value) (i : ℕ) → IsSome (receiver_variable w r i) → IsThere t w (receiver_variable w r i)
  receiver_there (Object n) i h = field_there n i h
  receiver_there (ClassRef c Instance) i h = record { value = w.variables (class_side c i); is = refl; known = sound.variables (class_side c i) }
  receiver_there (ClassRef c Class) i h = absurd (true≢false (sym h))
  receiver_there (Small n) i h = absurd (true≢false (sym h))
  receiver_there (Character c) i h = absurd (true≢false (sym h))
  receiver_there Nil i h = absurd (true≢false (sym h))
  receiver_there True i h = absurd (true≢false (sym h))
  receiver_there False i h = absurd (true≢false (sym h))
  receiver_there (Symbol n) i h = absurd (true≢false (sym h))
  receiver_there (Number n) i h = absurd (true≢false (sym h))
  receiver_there ContextValue i h = absurd (true≢false (sym h))
  receiver_there Transcript i h = absurd (true≢false (sym h))
  receiver_there Smalltalk i h = absurd (true≢false (sym h))

  home_has : (h m : ℕ) (r : Value) (of : Code) (i : ℕ) → IsHomeOf t methods code w h m r of → i < of.temporaries → IsSome (field_read w h i)
  home_has h m r of i is below = subst (λ o. HasField o i) (sym is.there) (some_place is.temporaries i (omega (arith, is.count, below)))

  pub temporary_there : (f : Activation) (m : ℕ) (r : Value) (of : Code) (i : ℕ) → IsActivationOf t methods code w f m r of → i < of.temporaries → IsThere t w (temporary w f i)
  temporary_there (own temporaries) m r of i is below = there_in temporaries i (omega (arith, is.0, below)) is.1.0
  temporary_there (home h) m r of i is below = field_there h i (home_has h m r of i is below)
  temporary_there (block b h) m r of i is below = field_there h i (home_has h m r of i is.0 below)

  -- ---- writing

  -- a world that is there, and goes on from this one
  pub record Writes (o : Option World) : Type 0 where
    pub new : World
    pub is : o ≡ Some new
    pub follows : Follows t methods code w new

  module _ (x : Value) (known : IsKnown t w.objects x) where
    pub field_written : (n i : ℕ) → IsSome (field_read w n i) → Writes (field_set w n i x)
    field_written n i h = go (slice_get w.objects.bodies n) refl h
      where
        written : (b c : BodyTree) → slice_get w.objects.bodies n ≡ Some b → IsSameAs b c → BodyIsKnown t w.objects c → field_put b i x ≡ Ok c → Writes (option_map (λ b. with_objects w (with_body_at w.objects (Object n) b)) (ok_of (field_put b i x)))
        written b c e same is put = record {
          new = with_objects w (with_body_at w.objects (Object n) c);
          is = ap (λ r. option_map (λ b. with_objects w (with_body_at w.objects (Object n) b)) (ok_of r)) put;
          follows = put_follows t methods code w n b c sound e same is;
        }

        of : (b : BodyTree) → slice_get w.objects.bodies n ≡ Some b → BodyIsKnown t w.objects b → HasField (Some b) i
            → Writes (option_map (λ b. with_objects w (with_body_at w.objects (Object n) b)) (ok_of (field_put b i x)))
        of (pointers class fields items) e is h =
            let below = place_below fields i h in
            written (pointers class fields items) (pointers class (slice_set fields i x) items) e (slice_set fields i x, items, refl, length-set fields i x)
            (is.0, (All-set (IsKnown t w.objects) fields i x known is.1.0, is.1.1))
            (ap (λ b. if b then Ok (pointers class (slice_set fields i x) items) else Err Range) (is_below i (length fields) below))
        of (home_body m r temporaries) e is h =
            let below = place_below temporaries i h in
            written (home_body m r temporaries) (home_body m r (slice_set temporaries i x)) e (slice_set temporaries i x, refl, length-set temporaries i x)
            (is.0, All-set (IsKnown t w.objects) temporaries i x known is.1)
            (ap (λ b. if b then Ok (home_body m r (slice_set temporaries i x)) else Err Range) (is_below i (length temporaries) below))
        of (bytes class items) e is h = absurd (true≢false (sym h))
        of (words class items) e is h = absurd (true≢false (sym h))
        of (block_body whole start count) e is h = absurd (true≢false (sym h))

        go : (o : Option BodyTree) → slice_get w.objects.bodies n ≡ o → HasField o i
            → Writes (option_map (λ b. with_objects w (with_body_at w.objects (Object n) b)) (ok_of (option_map_or (λ b. field_put b i x) o (Err Kind))))
        go None e h = absurd (true≢false (sym h))
        go (Some b) e h = of b e (sound.known n b e) h

    pub receiver_written : (r : Value) (i : ℕ) → IsSome (receiver_variable w r i) → Writes (with_receiver_variable w r i x)
    receiver_written (Object n) i h = field_written n i h
    receiver_written (ClassRef c Instance) i h = record { new = with_variable w (class_side c i) x; is = refl; follows = variable_follows t methods code w (class_side c i) x sound known }
    receiver_written (ClassRef c Class) i h = absurd (true≢false (sym h))
    receiver_written (Small n) i h = absurd (true≢false (sym h))
    receiver_written (Character c) i h = absurd (true≢false (sym h))
    receiver_written Nil i h = absurd (true≢false (sym h))
    receiver_written True i h = absurd (true≢false (sym h))
    receiver_written False i h = absurd (true≢false (sym h))
    receiver_written (Symbol n) i h = absurd (true≢false (sym h))
    receiver_written (Number n) i h = absurd (true≢false (sym h))
    receiver_written ContextValue i h = absurd (true≢false (sym h))
    receiver_written Transcript i h = absurd (true≢false (sym h))
    receiver_written Smalltalk i h = absurd (true≢false (sym h))

  -- a temporary written, in a world that goes on from this one
  pub record Keeps (f : Activation) (m : ℕ) (r : Value) (of : Code) (o : Option (World × Activation)) : Type 0 where
    pub new : World
    pub activation : Activation
    pub is : o ≡ Some (new, activation)
    pub follows : Follows t methods code w new
    pub activation_is : IsActivationOf t methods code new activation m r of
    pub kind : stack_kind activation ≡ stack_kind f

  pub temporary_written : (f : Activation) (m : ℕ) (r : Value) (of : Code) (i : ℕ) (x : Value) → IsKnown t w.objects x → IsActivationOf t methods code w f m r of → i < of.temporaries → Keeps f m r of (with_temporary w f i x)
  temporary_written (own temporaries) m r of i x known is below = record {
    new = w;
    activation = own (slice_set temporaries i x);
    is = ap (λ b. if b then Some (w, own (slice_set temporaries i x)) else None) (is_below i (length temporaries) (omega (arith, is.0, below)));
    follows = same_follows t methods code w sound;
    activation_is = (length-set temporaries i x ∙ is.0, (All-set (IsKnown t w.objects) temporaries i x known is.1.0, is.1.1));
    kind = refl;
  }
  temporary_written (home h) m r of i x known is below =
      let put = field_written x known h i (home_has h m r of i is below) in
      record {
        new = put.new;
        activation = home h;
        is = ap (option_map (in_activation (home h))) put.is;
        follows = put.follows;
        activation_is = activation_stays t methods code w put.new put.follows.onward (home h) m r of is;
        kind = refl;
      }
  temporary_written (block b h) m r of i x known is below =
      let put = field_written x known h i (home_has h m r of i is.0 below) in
      record {
        new = put.new;
        activation = block b h;
        is = ap (option_map (in_activation (block b h))) put.is;
        follows = put.follows;
        activation_is = activation_stays t methods code w put.new put.follows.onward (block b h) m r of is;
        kind = refl;
      }
