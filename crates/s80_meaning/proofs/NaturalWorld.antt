-- What a run reads and changes of the world, where blocks have their numbers for their starting places.
use Rattle.std.proofs.Common.{◌≡◌, ◌∙◌, ◌==◌, ℕ, suc, Bool, true, false, refl, sym, ap, List, [], ◌∷◌, length, Option, Some, None, Result, Ok, Err, option_and_then, slice_get, slice_set, nat_lt, if◌then◌else◌}
use Rattle.std.specs.Option.{option_map}
use Rattle.s80_base.specs.declared.names.Side.TheVariants as side
use Rattle.s80_class.specs.Table.{Table}
use Rattle.s80_core.specs.Core.{VariableTree}
use Rattle.s80_core.specs.Core as core
use Rattle.s80_object.specs.Body.{BodyTree, block}
use Rattle.s80_object.specs.Objects.{State as Objects, field_put, put_with, with_body_at}
use Rattle.s80_object.specs.declared.value.ObjectFault.{ObjectFault}
use Rattle.s80_object.specs.declared.value.Value.{Value}
use Rattle.s80_object.specs.declared.value.Value.TheVariants.{Symbol, ClassRef, Object}
use Rattle.s80_prims.specs.Primitives.{World as Reached}
use Rattle.s80_machine.specs.World.{World, Activation, changed, field_read, field_set, in_activation, ok_of, reached, receiver_variable, temporary, with_objects, with_receiver_variable, with_temporary}
use Rattle.s80_machine.specs.World as world
use Rattle.s80_machine.specs.Shared.{Block, at_once, block_at, block_in, block_with, if_takes, selector_of}
use Rattle.s80_meaning.specs.Image.{placed, image, image_reached}
use Rattle.s80_meaning.specs.Meaning.{read, same_activation, with_parameters, written}
use Rattle.s80_meaning.proofs.NaturalObjects.{class_of_image, field_put_image, fields_at_image, get_map, placed_result, with_body_at_image}

map_map : {X Y Z V : Type 0} (f : X → Y) (g : Y → Z) (h : X → V) (k : V → Z) → ((x : X) → g (f x) ≡ k (h x)) → (o : Option X) → option_map g (option_map f o) ≡ option_map k (option_map h o)
map_map f g h k e None = refl
map_map f g h k e (Some x) = ap (λ z. Some z) (e x)

module _ (at : Value → ℕ → ℕ) where
  abbrev pub image_world : World → World
  image_world w = record w { objects = image at w.objects }

  pub reached_image : (w : World) → reached (image_world w) ≡ image_reached at (reached w)
  reached_image w = refl

  pub changed_image : (w : World) (r : Reached) → changed (image_world w) (image_reached at r) ≡ image_world (changed w r)
  changed_image w r = refl

  -- ---- fields

  pub field_read_image : (w : World) (n i : ℕ) → field_read (image_world w) n i ≡ field_read w n i
  field_read_image w n i = ap (option_and_then (λ fields. slice_get fields i)) (fields_at_image at w.objects (Object n))

  pub field_set_image : (w : World) (n i : ℕ) (x : Value) → field_set (image_world w) n i x ≡ option_map image_world (field_set w n i x)
  field_set_image w n i x =
      ap (λ r. option_map (λ b. with_objects (image_world w) (with_body_at (image at w.objects) (Object n) b)) (ok_of r)) (field_put_image at w.objects (Object n) i x)
      ∙ of (put_with (λ b. field_put b i x) w.objects (Object n))
    where
      of : (r : Result BodyTree ObjectFault) → option_map (λ b. with_objects (image_world w) (with_body_at (image at w.objects) (Object n) b)) (ok_of (placed_result at r))
          ≡ option_map image_world (option_map (λ b. with_objects w (with_body_at w.objects (Object n) b)) (ok_of r))
      of (Ok b) = ap (λ s. Some (with_objects w s)) (sym (with_body_at_image at w.objects (Object n) b))
      of (Err told) = refl

  -- ---- variables

  abbrev pub image_pair : World × Activation → World × Activation
  image_pair p = (image_world p.0, p.1)

  pub temporary_image : (w : World) (f : Activation) (i : ℕ) → temporary (image_world w) f i ≡ temporary w f i
  temporary_image w (world.own temporaries) i = refl
  temporary_image w (world.home h) i = field_read_image w h i
  temporary_image w (world.block b h) i = field_read_image w h i

  own_image : (w : World) (test : Bool) (f : Activation) → (if test then Some (image_world w, f) else None) ≡ option_map image_pair (if test then Some (w, f) else None)
  own_image w true f = refl
  own_image w false f = refl

  in_activation_image : (f : Activation) (o : Option World) → option_map (in_activation f) (option_map image_world o) ≡ option_map image_pair (option_map (in_activation f) o)
  in_activation_image f o = map_map image_world (in_activation f) (in_activation f) image_pair (λ w. refl) o

  pub with_temporary_image : (w : World) (f : Activation) (i : ℕ) (x : Value) → with_temporary (image_world w) f i x ≡ option_map image_pair (with_temporary w f i x)
  with_temporary_image w (world.own temporaries) i x = own_image w (nat_lt i (length temporaries)) (world.own (slice_set temporaries i x))
  with_temporary_image w (world.home h) i x = ap (option_map (in_activation (world.home h))) (field_set_image w h i x) ∙ in_activation_image (world.home h) (field_set w h i x)
  with_temporary_image w (world.block b h) i x = ap (option_map (in_activation (world.block b h))) (field_set_image w h i x) ∙ in_activation_image (world.block b h) (field_set w h i x)

  pub receiver_variable_image : (w : World) (v : Value) (i : ℕ) → receiver_variable (image_world w) v i ≡ receiver_variable w v i
  receiver_variable_image w (Object n) i = field_read_image w n i
  receiver_variable_image w (ClassRef c side.Instance) i = refl
  receiver_variable_image w _ i = refl

  pub with_receiver_variable_image : (w : World) (v : Value) (i : ℕ) (x : Value) → with_receiver_variable (image_world w) v i x ≡ option_map image_world (with_receiver_variable w v i x)
  with_receiver_variable_image w (Object n) i x = field_set_image w n i x
  with_receiver_variable_image w (ClassRef c side.Instance) i x = refl
  with_receiver_variable_image w _ i x = refl

  pub read_image : (w : World) (f : Activation) (r : Value) (v : VariableTree) → read (image_world w) f r v ≡ read w f r v
  read_image w f r (core.temporary i) = temporary_image w f i
  read_image w f r (core.instance i) = receiver_variable_image w r i
  read_image w f r (core.class_variable class name) = refl
  read_image w f r (core.outer name) = refl

  pub written_image : (w : World) (f : Activation) (r : Value) (v : VariableTree) (x : Value) → written (image_world w) f r v x ≡ option_map image_pair (written w f r v x)
  written_image w f r (core.temporary i) x = with_temporary_image w f i x
  written_image w f r (core.instance i) x =
      ap (option_map (same_activation f)) (with_receiver_variable_image w r i x) ∙ map_map image_world (same_activation f) (same_activation f) image_pair (λ u. refl) (with_receiver_variable w r i x)
  written_image w f r (core.class_variable class name) x = refl
  written_image w f r (core.outer name) x = refl

  pub with_parameters_image : (w : World) (f : Activation) (first : ℕ) (vs : List Value) → with_parameters (image_world w) f first vs ≡ option_map image_world (with_parameters w f first vs)
  with_parameters_image w f first [] = refl
  with_parameters_image w f first (v ∷ vs) =
      ap (option_and_then (λ w1. option_map (λ p. p.0) (with_temporary w1 f first v))) (with_parameters_image w f (suc first) vs) ∙ of (with_parameters w f (suc first) vs)
    where
      of : (o : Option World) → option_and_then (λ w1. option_map (λ p. p.0) (with_temporary w1 f first v)) (option_map image_world o)
          ≡ option_map image_world (option_and_then (λ w1. option_map (λ p. p.0) (with_temporary w1 f first v)) o)
      of None = refl
      of (Some u) =
          let front : World × Activation → World = λ p. p.0 in
          ap (option_map front) (with_temporary_image u f first v) ∙ map_map image_pair front front image_world (λ p. refl) (with_temporary u f first v)

  -- ---- what is answered at once, and blocks

  pub at_once_image : (t : Table) (s : Objects) (n : ℕ) (r : Value) (arguments : List Value) → at_once t (image at s) n r arguments ≡ at_once t s n r arguments
  at_once_image t s n r [] = ap (λ v. if n == 23 then Some v else None) (class_of_image at t s r)
  at_once_image t s n r (a ∷ []) = refl
  at_once_image t s n r (a ∷ b ∷ rest) = refl

  pub selector_image : (s : Objects) (v : Value) (count : ℕ) → selector_of (image at s) v count ≡ selector_of s v count
  selector_image s (Symbol n) count = refl
  selector_image s _ count = refl

  -- a block is the same, but for where it starts
  abbrev pub placed_block : Block → Block
  placed_block b = record b { start = at b.home b.start }

  block_in_placed : (n : ℕ) (b : BodyTree) → block_in n (placed at b) ≡ option_map placed_block (block_in n b)
  block_in_placed n (block whole b count) = refl
  block_in_placed n _ = refl

  pub block_at_image : (s : Objects) (v : Value) → block_at (image at s) v ≡ option_map placed_block (block_at s v)
  block_at_image s (Object n) = ap (option_and_then (block_in n)) (get_map (placed at) s.bodies n) ∙ of (slice_get s.bodies n)
    where
      of : (o : Option BodyTree) → option_and_then (block_in n) (option_map (placed at) o) ≡ option_map placed_block (option_and_then (block_in n) o)
      of None = refl
      of (Some b) = block_in_placed n b
  block_at_image s _ = refl

  pub block_with_image : (s : Objects) (r : Value) (count : ℕ) → block_with (image at s) r count ≡ option_map placed_block (block_with s r count)
  block_with_image s r count = ap (option_and_then (if_takes count)) (block_at_image s r) ∙ of (block_at s r)
    where
      if_same : (test : Bool) (b : Block) → (if test then Some (placed_block b) else None) ≡ option_map placed_block (if test then Some b else None)
      if_same true b = refl
      if_same false b = refl

      of : (o : Option Block) → option_and_then (if_takes count) (option_map placed_block o) ≡ option_map placed_block (option_and_then (if_takes count) o)
      of None = refl
      of (Some b) = if_same (b.arguments == count) b
