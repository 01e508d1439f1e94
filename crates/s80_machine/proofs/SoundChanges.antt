-- The changes of a world, each of which leaves a sound one that goes on from it.
use Rattle.std.proofs.Common.{◌≡◌, ◌∙◌, ap, sym, subst, ℕ, suc, ◌≤◌, ◌⊎◌, inl, inr, List, [], ◌∷◌, ◌++◌, Some, Bool, true, false, length, slice_get, slice_set, arith, if◌then◌else◌, length-append}
use Rattle.s80_class.specs.Table.{Table}
use Rattle.s80_code.specs.declared.code.Code.{Code}
use Rattle.s80_dict.specs.Table.{MethodsValue}
use Rattle.s80_dict.specs.declared.dict.MethodEntry.{MethodEntry}
use Rattle.s80_object.specs.Body.{BodyTree}
use Rattle.s80_object.specs.Objects.{Made, Opaque, with_body, with_body_at}
use Rattle.s80_object.specs.declared.value.Value.{Value}
use Rattle.s80_object.specs.declared.value.Value.TheVariants.{Object}
use Rattle.s80_prims.specs.Known.{AreKnown, BodyIsKnown, IsKnown}
use Rattle.s80_verify.proofs.lemmas.ListLemmas.{get_front, get_within, set_here, set_there, same_or_not}
use Rattle.s80_machine.specs.World.{World, Key, Variable, same_key, same_variable, one_tick, numbered, with_objects, with_variable}
use Rattle.s80_machine.specs.Sound.{IsSoundBody, IsSoundLiteral, IsSoundWorld}
use Rattle.s80_machine.proofs.lemmas.SoundLists.{set_either, get_either_last, once_front}
use Rattle.s80_machine.proofs.SoundWorlds.{IsSameAs, same_self, Onward, onward_then, value_stays, known_stays, body_stays, literal_stays}
use Rattle.s80_code.proofs.lemmas.TableLemmas.{value}

module _ (t : Table) (methods : MethodsValue (MethodEntry Code)) (code : Code) where
  -- it goes on from a world, and is sound
  pub record Follows (old new : World) : Type 0 where
    pub onward : Onward old new
    pub sound : IsSoundWorld t methods code new

  pub follows_then : (a b c : World) → Follows a b → Follows b c → Follows a c
  follows_then a b c h g = record { onward = onward_then a b c h.onward g.onward; sound = g.sound }

  -- each body stands for one that was there, or is sound
  abbrev pub ComesFrom : World → World → Type 0
  ComesFrom old new = (n : ℕ) (c : BodyTree) → slice_get new.objects.bodies n ≡ Some c → ((b : BodyTree) × (slice_get old.objects.bodies n ≡ Some b) × IsSameAs b c) ⊎ IsSoundBody t methods code new c

  pub follows : (old new : World) → IsSoundWorld t methods code old → Onward old new → AreKnown t new.objects → ComesFrom old new
      → ((i : ℕ) (made : Made) → slice_get new.objects.literals i ≡ Some made → (slice_get old.objects.literals i ≡ Some made) ⊎ IsSoundLiteral t methods code new made)
      → ((v : Variable) → IsKnown t new.objects (new.variables v)) → Follows old new
  follows old new h on known bodies literals variables = record {
    onward = on;
    sound = record {
      known = known;
      bodies = λ n c e. elim (bodies n c e) [ inl b ↦ body_stays t methods code old new on b.0 c b.2 (h.bodies n b.0 b.1) | inr sound ↦ sound ];
      literals = λ i made e. elim (literals i made e) [ inl l ↦ literal_stays t methods code old new on made (h.literals i made l) | inr sound ↦ sound ];
      variables = variables;
    };
  }

  -- ---- beside the objects

  pub aside : (w : World) (transcript : List ℕ) (ticks : ℕ) (keys : List Key) (variables : Variable → Value) → IsSoundWorld t methods code w
      → ((m : ℕ) (key : Key) → slice_get w.keys m ≡ Some key → slice_get keys m ≡ Some key) → ((v : Variable) → IsKnown t w.objects (variables v))
      → Follows w (record { objects = w.objects; transcript = transcript; ticks = ticks; keys = keys; variables = variables })
  aside w transcript ticks keys variables h more known =
      let new : World = record { objects = w.objects; transcript = transcript; ticks = ticks; keys = keys; variables = variables } in
      let on : Onward w new = record { keys = more; symbols = omega arith; numbers = omega arith; bodies = λ n b e. (b, e, same_self b) } in
      follows w new h on h.known (λ n c e. inl (c, e, same_self c)) (λ i made e. inl e) known

  pub tick_follows : (w : World) → IsSoundWorld t methods code w → Follows w (one_tick w)
  tick_follows w h = aside w w.transcript (suc w.ticks) w.keys w.variables h (λ m key e. e) h.variables

  pub numbered_follows : (w : World) (key : Key) → IsSoundWorld t methods code w → Follows w (numbered w key)
  numbered_follows w key h = aside w w.transcript w.ticks (numbered w key).keys w.variables h (λ m other e. once_front (same_key key) key w.keys m other e) h.variables

  pub variable_follows : (w : World) (v : Variable) (x : Value) → IsSoundWorld t methods code w → IsKnown t w.objects x → Follows w (with_variable w v x)
  variable_follows w v x h known =
      aside w w.transcript w.ticks w.keys (with_variable w v x).variables h (λ m key e. e) (λ u. either (same_variable u v) u)
    where
      either : (b : Bool) (u : Variable) → IsKnown t w.objects (if b then x else w.variables u)
      either true u = known
      either false u = h.variables u

  pub text_follows : (w : World) (text : List ℕ) → IsSoundWorld t methods code w → Follows w (record w { transcript = text })
  text_follows w text h = aside w text w.ticks w.keys w.variables h (λ m key e. e) h.variables

  -- ---- one more object

  pub body_follows : (w : World) (b : BodyTree) → IsSoundWorld t methods code w → BodyIsKnown t w.objects b → IsSoundBody t methods code w b → Follows w (with_objects w (with_body w.objects b))
  body_follows w b h known sound =
      let new : World = with_objects w (with_body w.objects b) in
      let on : Onward w new = record {
        keys = λ m key e. e;
        symbols = omega arith;
        numbers = omega arith;
        bodies = λ n c e. (c, get_front w.objects.bodies (b ∷ []) n c e, same_self c);
      } in
      follows w new h on
      (λ n c e. elim (get_either_last w.objects.bodies b n c e) [
        | inl there ↦ known_stays t w new on c (h.known n c there)
        | inr last ↦ subst (BodyIsKnown t new.objects) last.1 (known_stays t w new on b known)
      ])
      (λ n c e. elim (get_either_last w.objects.bodies b n c e) [
        | inl there ↦ inl (c, there, same_self c)
        | inr last ↦ inr (subst (IsSoundBody t methods code new) last.1 (body_stays t methods code w new on b b (same_self b) sound))
      ])
      (λ i made e. inl e)
      (λ v. value_stays t w new on (w.variables v) (h.variables v))

  pub last_known : (w : World) (b : BodyTree) → IsKnown t (with_body w.objects b) (Object (length w.objects.bodies))
  last_known w b = omega (arith, length-append w.objects.bodies (b ∷ []))

  -- ---- an object changed

  pub put_follows : (w : World) (n : ℕ) (b c : BodyTree) → IsSoundWorld t methods code w → slice_get w.objects.bodies n ≡ Some b → IsSameAs b c → BodyIsKnown t w.objects c
      → Follows w (with_objects w (with_body_at w.objects (Object n) c))
  put_follows w n b c h there same known =
      let new : World = with_objects w (with_body_at w.objects (Object n) c) in
      let on : Onward w new = record {
        keys = λ m key e. e;
        symbols = omega arith;
        numbers = omega arith;
        bodies = λ k x e. elim (same_or_not k n) [
          | inl is ↦
              let at : slice_get (slice_set w.objects.bodies n c) k ≡ Some c = ap (slice_get (slice_set w.objects.bodies n c)) is ∙ set_here w.objects.bodies n c (get_within w.objects.bodies n b there) in
              let old : b ≡ x = value (sym there ∙ ap (slice_get w.objects.bodies) (sym is) ∙ e) in
              (c, at, subst (λ y. IsSameAs y c) old same)
          | inr differs ↦ (x, set_there w.objects.bodies n k c differs ∙ e, same_self x)
        ];
      } in
      follows w new h on
      (λ k x e. elim (set_either w.objects.bodies n k c x e) [
        | inl stays ↦ known_stays t w new on x (h.known k x stays)
        | inr put ↦ subst (BodyIsKnown t new.objects) put.1 (known_stays t w new on c known)
      ])
      (λ k x e. elim (set_either w.objects.bodies n k c x e) [
        | inl stays ↦ inl (x, stays, same_self x)
        | inr put ↦ inl (b, ap (slice_get w.objects.bodies) put.0 ∙ there, subst (IsSameAs b) put.1 same)
      ])
      (λ i made e. inl e)
      (λ v. value_stays t w new on (w.variables v) (h.variables v))

  -- ---- more symbols, numbers and literals

  abbrev pub with_words : World → List (List ℕ) → List Opaque → World
  with_words w symbols numbers = with_objects w (record { bodies = w.objects.bodies; symbols = symbols; numbers = numbers; literals = w.objects.literals })

  pub words_follow : (w : World) (symbols : List (List ℕ)) (numbers : List Opaque) → IsSoundWorld t methods code w → length w.objects.symbols ≤ length symbols → length w.objects.numbers ≤ length numbers → Follows w (with_words w symbols numbers)
  words_follow w symbols numbers h more_symbols more_numbers =
      let new : World = with_words w symbols numbers in
      let on : Onward w new = record { keys = λ m key e. e; symbols = more_symbols; numbers = more_numbers; bodies = λ n b e. (b, e, same_self b) } in
      follows w new h on (λ n c e. known_stays t w new on c (h.known n c e)) (λ n c e. inl (c, e, same_self c)) (λ i made e. inl e)
      (λ v. value_stays t w new on (w.variables v) (h.variables v))

  abbrev pub with_literal : World → Made → World
  with_literal w made = with_objects w (record w.objects { literals = w.objects.literals ++ made ∷ [] })

  pub literal_follows : (w : World) (made : Made) → IsSoundWorld t methods code w → IsSoundLiteral t methods code w made → Follows w (with_literal w made)
  literal_follows w made h sound =
      let new : World = with_literal w made in
      let on : Onward w new = record { keys = λ m key e. e; symbols = omega arith; numbers = omega arith; bodies = λ n b e. (b, e, same_self b) } in
      follows w new h on (λ n c e. known_stays t w new on c (h.known n c e)) (λ n c e. inl (c, e, same_self c))
      (λ i x e. elim (get_either_last w.objects.literals made i x e) [
        | inl there ↦ inl there
        | inr last ↦ inr (subst (IsSoundLiteral t methods code new) last.1 (literal_stays t methods code w new on made sound))
      ])
      (λ v. value_stays t w new on (w.variables v) (h.variables v))

  pub same_follows : (w : World) → IsSoundWorld t methods code w → Follows w w
  same_follows w h = aside w w.transcript w.ticks w.keys w.variables h (λ m key e. e) h.variables
