-- Pushes and stores.
use Rattle.std.proofs.Common.{◌≡◌, ◌∙◌, ap, sym, subst, refl, ℕ, zero, suc, ◌+◌, ◌-◌, ◌≤◌, inl, inr, ℤ, pos, negsuc, List, ◌∷◌, Option, Some, None, IfSome, true, false, length, slice_get, nat_le, All, arith, option_and_then, codes, true≢false}
use Rattle.std.specs.Option.{IsSome, option_map_or}
use Rattle.std.proofs.lemmas.List.Elements.{All-cons, All-from_recursion}
use Rattle.s80_base.specs.Literal.{LiteralTree, small}
use Rattle.s80_class.specs.Table.{Table}
use Rattle.s80_code.specs.declared.code.Code.{Code}
use Rattle.s80_code.specs.declared.instruction.Instruction.{Instruction}
use Rattle.s80_code.specs.declared.instruction.Instruction.TheVariants as instruction
use Rattle.s80_code.specs.declared.instruction.Storage.{Storage}
use Rattle.s80_code.specs.declared.instruction.Storage.TheVariants.{Receiver, Temporary, Constant, Variable}
use Rattle.s80_code.specs.Entries.{EntryTree, constant, entries_of}
use Rattle.s80_code.specs.Table.{Stands}
use Rattle.s80_dict.specs.Table.{MethodsValue}
use Rattle.s80_dict.specs.declared.dict.MethodEntry.{MethodEntry}
use Rattle.s80_object.specs.Body.{word_limit, words_of}
use Rattle.s80_object.specs.Literal.{Built, built, is_object, made_before, noted}
use Rattle.s80_object.specs.declared.value.Value.{Value}
use Rattle.s80_object.specs.declared.value.Value.TheVariants.{Small, True, False, Nil}
use Rattle.s80_prims.specs.Known.{IsKnown}
use Rattle.s80_prims.specs.declared.stop.Stop.TheVariants.{ObjectsFull}
use Rattle.s80_verify.specs.Effect.{takes, leaves, goes_on as goes_behind}
use Rattle.s80_verify.specs.Fault.{RunsAt}
use Rattle.s80_verify.specs.Operands.{HasVariable, IsReadable, IsWritable}
use Rattle.s80_verify.specs.Reach.{Counts}
use Rattle.s80_machine.specs.World.{World, Activation, Variable as VariableName, receiver_variable, temporary, variable_named, with_objects, with_receiver_variable, with_temporary, with_variable}
use Rattle.s80_machine.specs.Turn.{Context, Turn, constant_in, given, goes_on, stops}
use Rattle.s80_machine.specs.World as world
use Rattle.s80_class.specs.Lookup.{number}
use Rattle.s80_machine.specs.Shared.{fixed}
use Rattle.s80_machine.specs.Step.{first_pushed, literal_pushed, push, store}
use Rattle.s80_machine.specs.Sound.{HasCount, IsActivationOf, IsSetting, stack_kind, IsSoundContext, IsSoundTurn, IsSoundWorld, receiver_variable_in}
use Rattle.s80_machine.proofs.lemmas.SoundLists.{all_got, got_there}
use Rattle.s80_machine.proofs.SoundOperands.{in_range}
use Rattle.s80_machine.proofs.SoundWorlds.{activation_stays, method_stays, value_stays, values_stay}
use Rattle.s80_machine.proofs.SoundChanges.{Follows, follows_then, same_follows, variable_follows}
use Rattle.s80_machine.proofs.SoundFields.{IsThere, receiver_there, receiver_written, temporary_there, temporary_written}
use Rattle.s80_machine.proofs.SoundLiterals.{WasMade, is_built, noted_follows, was_made}
use Rattle.s80_machine.proofs.SoundEnds.{AllWait, if_sound, stops_sound}
use Rattle.s80_machine.proofs.SoundMoves.{goes_sound}
use Rattle.s80_code.proofs.lemmas.TableLemmas.{value}

-- ---- fixed values

pub all_fixed : (P : Value → Type 0) (r : Value) → P r → P True → P False → P Nil → ((n : ℤ) → P (Small n)) → All P (fixed r)
all_fixed P r h on off nil n = All-from_recursion P (fixed r) (h, (on, (off, (nil, (n (negsuc 0), (n (pos 0), (n (pos 1), (n (pos 2), tt))))))))

pub fixed_count : (r v : Value) (place n : ℕ) (stack : List Value) → slice_get (fixed r) place ≡ Some v → place ≡ n + 5 → n ≤ 2 → HasCount n (v ∷ stack)
fixed_count r v place zero stack e is few = subst (λ x. HasCount 0 (x ∷ stack)) (value (ap (slice_get (fixed r)) (sym is) ∙ e)) refl
fixed_count r v place (suc zero) stack e is few = subst (λ x. HasCount 1 (x ∷ stack)) (value (ap (slice_get (fixed r)) (sym is) ∙ e)) refl
fixed_count r v place (suc (suc zero)) stack e is few = subst (λ x. HasCount 2 (x ∷ stack)) (value (ap (slice_get (fixed r)) (sym is) ∙ e)) refl
fixed_count r v place (suc (suc (suc n))) stack e is few = absurd (omega (arith, few))

pub variable_there : (of : Code) (k : ℕ) → HasVariable of k → (v : VariableName) × (option_and_then variable_named (slice_get (entries_of of.literals) k) ≡ Some v)
variable_there of k (inl h) = (world.class_variable h.0 h.1, ap (option_and_then variable_named) h.2)
variable_there of k (inr h) = (world.outer h.0, ap (option_and_then variable_named) h.1)

module _ (t : Table) (methods : MethodsValue (MethodEntry Code)) (code : Code) (setting : IsSetting t methods code) (budget : ℕ)
    (c : Context) (rest : List Context) (w : World) (sound : IsSoundWorld t methods code w) (context : IsSoundContext t methods code w 0 c) (wait : AllWait t methods code w rest) where
  abbrev Turns : Turn → Type 0
  Turns = IsSoundTurn t methods code

  -- ---- a value on top

  -- what an instruction does that pushes a value
  pub record IsPush (i : Instruction) (v : Value) : Type 0 where
    pub none : takes i ≡ 0
    pub one : leaves i ≡ 1
    pub goes : goes_behind i ≡ true
    pub counts : (n : ℕ) → Counts context.of i n → HasCount n (v ∷ c.stack)

  pub pushes : (i : Instruction) (next : ℕ) → Stands context.of.bytes c.place i next → (w1 : World) (v : Value) → Follows t methods code w w1 → IsKnown t w1.objects v → IsPush i v → Turns (goes_on c next (v ∷ c.stack) rest w1)
  pushes i next s w1 v f known h =
      goes_sound t methods code c rest w sound context wait i next s w1 c.activation (v ∷ c.stack)
      (record {
        follows = f;
        activation = activation_stays t methods code w w1 f.onward c.activation c.method c.receiver context.of context.activation;
        kind = refl;
        known = All-cons (IsKnown t w1.objects) v c.stack known (values_stay t w w1 f.onward c.stack context.values);
        goes = h.goes;
        depth = omega (arith, h.none, h.one);
        counts = λ n is. (refl, h.counts n is);
      })

  pub same : Follows t methods code w w
  same = same_follows t methods code w sound

  there_sound : (i : Instruction) (next : ℕ) → Stands context.of.bytes c.place i next → (o : Option Value) (r : IsThere t w o) → IsPush i r.value → Turns (given o (λ v. goes_on c next (v ∷ c.stack) rest w))
  there_sound i next s o r h = subst (λ o. Turns (given o (λ v. goes_on c next (v ∷ c.stack) rest w))) (sym r.is) (pushes i next s w r.value same r.known h)

  pub fixed_sound : (n next : ℕ) → Stands context.of.bytes c.place (instruction.PushFixed n) next → Turns (given (slice_get (fixed c.receiver) n) (λ v. goes_on c next (v ∷ c.stack) rest w))
  fixed_sound n next s =
      let within : n ≤ 7 = in_range context.of.bytes c.place next (instruction.PushFixed n) s in
      let v = got_there (fixed c.receiver) n (omega (arith, within)) in
      let all = all_fixed (IsKnown t w.objects) c.receiver context.method.known tt tt tt (λ n. tt) in
      there_sound (instruction.PushFixed n) next s (slice_get (fixed c.receiver) n) (record { value = v.0; is = v.1; known = all_got (IsKnown t w.objects) (fixed c.receiver) n v.0 all v.1 })
      (record { none = refl; one = refl; goes = refl; counts = λ m is. fixed_count c.receiver v.0 n m c.stack v.1 is.0 is.1 })

  -- a variable of the receiver that an instruction names is there
  pub receiver_has : (i : Instruction) (next k : ℕ) → Stands context.of.bytes c.place i next → receiver_variable_in i ≡ Some k → IsSome (receiver_variable w c.receiver k)
  receiver_has i next k s is =
      let run : RunsAt context.of c.place = record { stack = stack_kind c.activation; depth = length c.stack + 0; instruction = i; next = next; reached = context.reached; stands = s } in
      context.method.variables k (context.method.suits.named c.place k run is)

  -- ---- literals

  literal_count : (l : LiteralTree) (n : ℕ) (o : Option EntryTree) → o ≡ Some (constant l) → o ≡ Some (constant (small (pos n))) → l ≡ small (pos n)
  literal_count l n o e f = let g = sym e ∙ f in cc

  first_sound : (k next : ℕ) (l : LiteralTree) → Stands context.of.bytes c.place (instruction.Push (Constant k)) next → slice_get (entries_of context.of.literals) k ≡ Some (constant l)
      → Turns (first_pushed t methods code budget c next rest w k l (built (number t (codes "String")) (number t (codes "Array")) l w.objects))
  first_sound k next l s entry =
      let b : Built = built (number t (codes "String")) (number t (codes "Array")) l w.objects in
      let is = is_built t methods code setting l w sound in
      let w1 : World = with_objects w b.0 in
      let w2 : World = with_objects w (noted c.method k (is_object l) b) in
      let method = method_stays t methods code w w1 is.follows.onward c.method c.receiver context.of context.method in
      let noted = noted_follows t methods code w c.method k c.receiver context.of l b (is_object l) refl method entry is.follows.sound is.known in
      if_sound t methods code (nat_le (words_of b.0.bodies) word_limit) (goes_on c next (b.1 ∷ c.stack) rest w2) (stops (ObjectsFull (words_of w.objects.bodies)) w)
      (pushes (instruction.Push (Constant k)) next s w2 b.1 (follows_then t methods code w w1 w2 is.follows noted) (value_stays t w1 w2 noted.onward b.1 is.known)
      (record {
        none = refl;
        one = refl;
        goes = refl;
        counts = λ n counted.
            subst (λ l. HasCount n ((built (number t (codes "String")) (number t (codes "Array")) l w.objects).1 ∷ c.stack))
            (sym (literal_count l n (slice_get (entries_of context.of.literals) k) entry counted.0)) refl;
      }))
      (stops_sound t methods code (ObjectsFull (words_of w.objects.bodies)) w sound)

  literal_sound : (k next : ℕ) (l : LiteralTree) → Stands context.of.bytes c.place (instruction.Push (Constant k)) next → slice_get (entries_of context.of.literals) k ≡ Some (constant l)
      → Turns (literal_pushed t methods code budget c next rest w k l)
  literal_sound k next l s entry = go (made_before c.method k w.objects) (was_made t methods code w c.method k c.receiver context.of l sound context.method entry (made_before c.method k w.objects) refl)
    where
      again : (v : Value) → WasMade t methods code w l v → IsPush (instruction.Push (Constant k)) v
      again v made = record {
        none = refl;
        one = refl;
        goes = refl;
        counts = λ n counted.
            let small_is : is_object l ≡ false = ap is_object (literal_count l n (slice_get (entries_of context.of.literals) k) entry counted.0) in
            absurd (true≢false (sym made.object ∙ small_is));
      }

      go : (o : Option Value) → IfSome o (WasMade t methods code w l)
          → Turns (option_map_or (λ v. goes_on c next (v ∷ c.stack) rest w) o (first_pushed t methods code budget c next rest w k l (built (number t (codes "String")) (number t (codes "Array")) l w.objects)))
      go None made = first_sound k next l s entry
      go (Some v) made = pushes (instruction.Push (Constant k)) next s w v same made.known (again v made)

  pub push_sound : (storage : Storage) (next : ℕ) → Stands context.of.bytes c.place (instruction.Push storage) next → IsReadable context.of storage → Turns (push t methods code budget context.of c next rest w storage)
  push_sound (Receiver k) next s is =
      there_sound (instruction.Push (Receiver k)) next s (receiver_variable w c.receiver k) (receiver_there t methods code w sound c.receiver k (receiver_has (instruction.Push (Receiver k)) next k s refl))
      (record { none = refl; one = refl; goes = refl; counts = λ n counted. absurd counted })
  push_sound (Temporary k) next s is =
      there_sound (instruction.Push (Temporary k)) next s (temporary w c.activation k) (temporary_there t methods code w sound c.activation c.method c.receiver context.of k context.activation is)
      (record { none = refl; one = refl; goes = refl; counts = λ n counted. absurd counted })
  push_sound (Constant k) next s is =
      subst (λ o. Turns (given o (literal_pushed t methods code budget c next rest w k))) (sym (ap (option_and_then constant_in) is.1)) (literal_sound k next is.0 s is.1)
  push_sound (Variable k) next s is =
      let v = variable_there context.of k is in
      subst (λ o. Turns (given o (λ u. goes_on c next (w.variables u ∷ c.stack) rest w))) (sym v.1)
      (pushes (instruction.Push (Variable k)) next s w (w.variables v.0) same (sound.variables v.0) (record { none = refl; one = refl; goes = refl; counts = λ n counted. absurd counted }))

  -- ---- stores

  -- what an instruction does that stores a value and leaves this stack
  pub record IsStore (i : Instruction) (storage : Storage) (stack : List Value) : Type 0 where
    pub goes : goes_behind i ≡ true
    pub depth : length stack + 0 ≡ (length c.stack - takes i) + leaves i
    pub counts : (n : ℕ) → Counts context.of i n → ⊥
    pub names : (k : ℕ) → storage ≡ Receiver k → receiver_variable_in i ≡ Some k
    pub writable : IsWritable context.of storage
    pub known : All (IsKnown t w.objects) stack

  stored : (i : Instruction) (storage : Storage) (next : ℕ) (stack : List Value) → Stands context.of.bytes c.place i next → IsStore i storage stack → (w1 : World) (f : Activation) → Follows t methods code w w1
      → IsActivationOf t methods code w1 f c.method c.receiver context.of → stack_kind f ≡ stack_kind c.activation → Turns (goes_on (record c { activation = f }) next stack rest w1)
  stored i storage next stack s h w1 f follows activation kind =
      goes_sound t methods code c rest w sound context wait i next s w1 f stack
      (record { follows = follows; activation = activation; kind = kind; known = values_stay t w w1 follows.onward stack h.known; goes = h.goes; depth = h.depth; counts = λ n is. absurd (h.counts n is) })

  pub store_sound : (i : Instruction) (storage : Storage) (next : ℕ) (v : Value) (stack : List Value) → Stands context.of.bytes c.place i next → IsKnown t w.objects v → IsStore i storage stack
      → Turns (store t methods code budget context.of c next rest w storage v stack)
  store_sound i (Receiver k) next v stack s known h =
      let put = receiver_written t methods code w sound v known c.receiver k (receiver_has i next k s (h.names k refl)) in
      subst (λ o. Turns (given o (goes_on c next stack rest))) (sym put.is)
      (stored i (Receiver k) next stack s h put.new c.activation put.follows (activation_stays t methods code w put.new put.follows.onward c.activation c.method c.receiver context.of context.activation) refl)
  store_sound i (Temporary k) next v stack s known h =
      let put = temporary_written t methods code w sound c.activation c.method c.receiver context.of k v known context.activation h.writable in
      subst (λ o. Turns (given o (λ (p : World × Activation). goes_on (record c { activation = p.1 }) next stack rest p.0))) (sym put.is) (stored i (Temporary k) next stack s h put.new put.activation put.follows put.activation_is put.kind)
  store_sound i (Constant k) next v stack s known h = absurd h.writable
  store_sound i (Variable k) next v stack s known h =
      let u = variable_there context.of k h.writable in
      let f = variable_follows t methods code w u.0 v sound known in
      let w1 : World = with_variable w u.0 v in
      subst (λ o. Turns (given o (λ u. goes_on c next stack rest (with_variable w u v)))) (sym u.1)
      (stored i (Variable k) next stack s h w1 c.activation f (activation_stays t methods code w w1 f.onward c.activation c.method c.receiver context.of context.activation) refl)
