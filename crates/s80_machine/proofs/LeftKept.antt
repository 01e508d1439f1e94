-- A write to a variable takes no tick.
use Rattle.std.proofs.Common.{◌≡◌, refl, ℕ, Bool, true, false, Option, Some, None, length, nat_lt}
use Rattle.std.specs.Prelude.{if◌then◌else◌, slice_set}
use Rattle.std.specs.Option.{option_map}
use Rattle.s80_base.specs.declared.names.Side.TheVariants as side
use Rattle.s80_object.specs.Body.{BodyTree}
use Rattle.s80_object.specs.Objects.{State as Objects, field_put, put_with, with_body_at}
use Rattle.s80_object.specs.declared.value.Value.{Value}
use Rattle.s80_object.specs.declared.value.Value.TheVariants.{Small, Character, Nil, True, False, Symbol, Number, ClassRef, Object, Context as ThisContext, Transcript, Smalltalk}
use Rattle.s80_machine.specs.World.{World, Activation, own, home, block, field_set, in_activation, ok_of, with_objects, with_receiver_variable, with_temporary}

abbrev pub KeepsTicks : ℕ → Option World → Type 0
KeepsTicks ticks None = Unit {0}
KeepsTicks ticks (Some u) = u.ticks ≡ ticks

abbrev pub BothKeep : ℕ → Option (World × Activation) → Type 0
BothKeep ticks None = Unit {0}
BothKeep ticks (Some p) = p.0.ticks ≡ ticks

objects_keep : (w : World) (make : BodyTree → Objects) (o : Option BodyTree) → KeepsTicks w.ticks (option_map (λ b. with_objects w (make b)) o)
objects_keep w make None = tt
objects_keep w make (Some b) = refl

field_keeps : (w : World) (n i : ℕ) (x : Value) → KeepsTicks w.ticks (field_set w n i x)
field_keeps w n i x = objects_keep w (λ b. with_body_at w.objects (Object n) b) (ok_of (put_with (λ b. field_put b i x) w.objects (Object n)))

activation_keeps : (ticks : ℕ) (f : Activation) (o : Option World) → KeepsTicks ticks o → BothKeep ticks (option_map (in_activation f) o)
activation_keeps ticks f None h = tt
activation_keeps ticks f (Some u) h = h

pub temporary_keeps : (w : World) (f : Activation) (i : ℕ) (x : Value) → BothKeep w.ticks (with_temporary w f i x)
temporary_keeps w (own temporaries) i x = test (nat_lt i (length temporaries))
  where
    test : (b : Bool) → BothKeep w.ticks (if b then Some (w, own (slice_set temporaries i x)) else None)
    test true = refl
    test false = tt
temporary_keeps w (home h) i x = activation_keeps w.ticks (home h) (field_set w h i x) (field_keeps w h i x)
temporary_keeps w (block b h) i x = activation_keeps w.ticks (block b h) (field_set w h i x) (field_keeps w h i x)

pub variable_keeps : (w : World) (r : Value) (i : ℕ) (x : Value) → KeepsTicks w.ticks (with_receiver_variable w r i x)
variable_keeps w (Object n) i x = field_keeps w n i x
variable_keeps w (ClassRef c side.Instance) i x = refl
variable_keeps w (ClassRef c side.Class) i x = tt
variable_keeps w (Small n) i x = tt
variable_keeps w (Character n) i x = tt
variable_keeps w Nil i x = tt
variable_keeps w True i x = tt
variable_keeps w False i x = tt
variable_keeps w (Symbol n) i x = tt
variable_keeps w (Number n) i x = tt
variable_keeps w ThisContext i x = tt
variable_keeps w Transcript i x = tt
variable_keeps w Smalltalk i x = tt
