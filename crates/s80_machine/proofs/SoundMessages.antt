-- A message as an object: its Array and the Message itself are known and sound, and the selector that a primitive sends takes its arguments.
use Rattle.std.proofs.Common.{◌≡◌, sym, refl, ℕ, List, [], ◌∷◌, codes, Option, Some, None, length, All, option_and_then}
use Rattle.std.proofs.lemmas.List.Elements.{All-nil, All-cons}
use Rattle.s80_base.specs.Literal.{symbol}
use Rattle.s80_kernel.specs.Rows as rows
use Rattle.s80_class.specs.Table.{Table}
use Rattle.s80_code.specs.declared.code.Code.{Code}
use Rattle.s80_dict.specs.Table.{MethodsValue}
use Rattle.s80_dict.specs.declared.dict.MethodEntry.{MethodEntry}
use Rattle.s80_object.specs.Body.{BodyTree}
use Rattle.s80_object.specs.Literal.{named}
use Rattle.s80_object.specs.Objects.{State as Objects, text_of, with_body}
use Rattle.s80_object.specs.declared.value.Value.{Value}
use Rattle.s80_object.specs.declared.value.Value.TheVariants.{Symbol, Object}
use Rattle.s80_prims.specs.Known.{BodyIsKnown, IsKnown}
use Rattle.s80_lex.specs.Selector.{IsSelectorOf}
use Rattle.s80_machine.specs.World.{World, with_objects}
use Rattle.s80_machine.specs.Turn.{Turn}
use Rattle.s80_machine.specs.Shared.{arguments_body, does_not_understand, if_selector, message_body, selector_of}
use Rattle.s80_machine.specs.Step.{message_made, with_room}
use Rattle.s80_machine.specs.Sound.{IsSetting, IsSoundBody, IsSoundTurn, IsSoundWorld}
use Rattle.s80_machine.proofs.Parameters.{parameters_tell, selects}
use Rattle.s80_machine.proofs.SoundClasses.{kernel_message, kernel_number, kernel_plain}
use Rattle.s80_machine.proofs.SoundWorlds.{value_stays}
use Rattle.s80_machine.proofs.SoundChanges.{Follows, follows_then, last_known}
use Rattle.s80_machine.proofs.SoundLiterals.{is_built}
use Rattle.s80_machine.proofs.SoundEnds.{room_sound}

-- ---- selectors

pub takes_one : IsSelectorOf 1 does_not_understand
takes_one = parameters_tell does_not_understand 1 refl

pub selector_takes : (s : Objects) (a : Value) (count : ℕ) (selector : List ℕ) → selector_of s a count ≡ Some selector → IsSelectorOf count selector
selector_takes s (Symbol n) count selector e = go (text_of s (Symbol n)) e
  where
    go : (o : Option (List ℕ)) → option_and_then (if_selector count) o ≡ Some selector → IsSelectorOf count selector
    go None e = cc
    go (Some text) e = selects count text selector e
selector_takes s _ count selector e = cc

module _ (t : Table) (methods : MethodsValue (MethodEntry Code)) (code : Code) (setting : IsSetting t methods code) where
  -- ---- an Array of the arguments

  pub arguments_known : (w : World) (arguments : List Value) → All (IsKnown t w.objects) arguments → BodyIsKnown t w.objects (arguments_body t arguments)
  unfolding rows.is_kernel_class
  arguments_known w arguments all = ((codes "Array", kernel_number t methods code setting (codes "Array") refl), (All-nil (IsKnown t w.objects), all))

  pub arguments_sound : (w : World) (arguments : List Value) → IsSoundBody t methods code w (arguments_body t arguments)
  unfolding rows.is_kernel_class
  arguments_sound w arguments = sym (kernel_plain t methods code setting (codes "Array") refl refl)

  -- ---- the Message

  pub message_known : (w : World) (selector arguments : Value) → IsKnown t w.objects selector → IsKnown t w.objects arguments → BodyIsKnown t w.objects (message_body t selector arguments)
  unfolding rows.is_kernel_class
  message_known w selector arguments h g = (
    (codes "Message", kernel_number t methods code setting (codes "Message") refl),
    (All-cons (IsKnown t w.objects) selector (arguments ∷ []) h (All-cons (IsKnown t w.objects) arguments [] g (All-nil (IsKnown t w.objects))), All-nil (IsKnown t w.objects)),
  )

  pub message_sound : (w : World) (selector arguments : Value) → IsSoundBody t methods code w (message_body t selector arguments)
  message_sound w selector arguments = sym (kernel_message t methods code setting)

  -- ---- both, one behind the other

  pub made_sound : (budget : ℕ) (selector : List ℕ) (arguments : List Value) (w : World) (go : Value → World → Turn) → IsSoundWorld t methods code w → All (IsKnown t w.objects) arguments
      → ((m : Value) (w1 : World) → Follows t methods code w w1 → IsKnown t w1.objects m → IsSoundTurn t methods code (go m w1))
      → IsSoundTurn t methods code (message_made t methods code budget selector arguments w go)
  made_sound budget selector arguments w go h all goes =
      room_sound t methods code w (arguments_body t arguments)
      (λ w1.
      with_room (with_objects w1 (named selector w1.objects).0) (message_body t (named selector w1.objects).1 (Object (length w.objects.bodies))) (go (Object (length w1.objects.bodies)))) h
      (arguments_known w arguments all) (arguments_sound w arguments)
      (λ f.
      let whole : Value = Object (length w.objects.bodies) in
      let w1 : World = with_objects w (with_body w.objects (arguments_body t arguments)) in
      let w2 : World = with_objects w1 (named selector w1.objects).0 in
      let word : Value = (named selector w1.objects).1 in
      let body : BodyTree = message_body t word whole in
      let w3 : World = with_objects w2 (with_body w2.objects body) in
      let is = is_built t methods code setting (symbol selector) w1 f.sound in
      let known : IsKnown t w2.objects whole = value_stays t w1 w2 is.follows.onward whole (last_known t methods code w (arguments_body t arguments)) in
      room_sound t methods code w2 body (go (Object (length w1.objects.bodies))) is.follows.sound (message_known w2 word whole is.known known) (message_sound w2 word whole)
      (λ g.
      goes (Object (length w1.objects.bodies)) w3 (follows_then t methods code w w1 w3 f (follows_then t methods code w1 w2 w3 is.follows g)) (last_known t methods code w2 body)))
