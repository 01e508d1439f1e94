-- A message as an object: what making it comes to, and that it is known.
use Rattle.std.proofs.Common.{◌≡◌, ◌∙◌, ap, sym, subst, refl, ℕ, suc, List, [], ◌∷◌, All, Bool, true, false, IfOk, Option, Some, None, Result, Ok, Err, arith, codes, drop, if◌then◌else◌, inl, inr, length, unwrap_or}
use Rattle.std.specs.Str.{bytes_eq}
use Rattle.std.proofs.lemmas.List.Elements.{All-cons, All-nil, All-tail}
use Rattle.s80_class.specs.Table.{Table}
use Rattle.s80_object.specs.Body.{BodyTree, pointers}
use Rattle.s80_object.specs.Literal.{named}
use Rattle.s80_object.specs.Objects.{State as Objects, Makes, with_body}
use Rattle.s80_object.specs.declared.value.ObjectFault.{ObjectFault}
use Rattle.s80_object.specs.declared.value.Value.{Value}
use Rattle.s80_object.specs.declared.value.Value.TheVariants.{Nil, Object}
use Rattle.s80_prims.specs.Known.{AreKnown, BodyIsKnown, IsKnown}
use Rattle.s80_prims.specs.Numbers.{IsNumber}
use Rattle.s80_verify.proofs.lemmas.ListLemmas.{get_front}
use Rattle.s80_machine.specs.declared.halt.Halt.{Halt}
use Rattle.s80_machine.specs.declared.machine.Machine.{Machine}
use Rattle.s80_machine.specs.World.{World, with_objects}
use Rattle.s80_machine.specs.Turn.{Turn}
use Rattle.s80_machine.specs.Shared.{arguments_body, message_body, sent_in}
use Rattle.s80_machine.specs.Step.{with_room}
use Rattle.s80_machine.specs.Seen.{Given}
use Rattle.s80_machine.specs.Came.{IsMade, IsSet, ShowsWorld}
use Rattle.s80_machine.specs.Messages.{IsKnownMessage, MakesMessage}
use Rattle.s80_machine.proofs.lemmas.SoundLists.{get_either_last}
use Rattle.s80_machine.proofs.SoundChanges.{last_known}
use Rattle.s80_machine.proofs.SoundLiterals.{first_added, no_fewer}
use Rattle.s80_machine.proofs.SoundMessages.{arguments_known, message_known}
use Rattle.s80_machine.proofs.SoundWorlds.{Onward, known_stays, same_self, value_stays}
use Rattle.s80_machine.proofs.CameParts.{made_goes, made_is, made_on, made_world, not_made}

-- ---- the bodies

pub array_body : (t : Table) (class : ℕ) (fields arguments : List Value) → IsNumber t (codes "Array") class → fields ≡ [] → pointers class fields arguments ≡ arguments_body t arguments
array_body t class fields arguments is none = λ i. pointers (sym (ap (λ o. unwrap_or o 0) is) i) (none i) arguments

pub body_of_message : (t : Table) (class : ℕ) (fields items : List Value) (symbol arguments : Value) → IsNumber t (codes "Message") class → fields ≡ symbol ∷ arguments ∷ [] → items ≡ []
    → pointers class fields items ≡ message_body t symbol arguments
body_of_message t class fields items symbol arguments is two none = λ i. pointers (sym (ap (λ o. unwrap_or o 0) is) i) (two i) (none i)

-- ---- what it comes to

module _ (on : Given) (selector : List ℕ) (arguments : List Value) (w : World) (old : Machine) (shows : ShowsWorld on old w) where
  abbrev array : BodyTree
  array = arguments_body on.table arguments

  -- the symbol, and the Message of it and of the Array
  abbrev behind : (Value → World → Turn) → World → Turn
  behind go w1 =
      with_room (with_objects w1 (named selector w1.objects).0) (message_body on.table (named selector w1.objects).1 (Object (length w.objects.bodies))) (λ w2. go (Object (length w1.objects.bodies)) w2)

  -- there is no Array
  pub array_missing : (first : Objects) (made : Result Value ObjectFault) (h : Halt) → Makes old.objects array first made → IsMade made (Err h) → MakesMessage on selector arguments w old (record old { objects = first }) (Err h)
  array_missing first made h makes is = λ go. not_made on old w shows array first (behind go) made h makes is

  module _ (first : Objects) (v : Value) (there : Makes old.objects array first (Ok v)) (second : Objects) (symbol : Value) (is : (second, symbol) ≡ named selector first) where
    abbrev between : World
    between = with_objects w (with_body w.objects array)

    abbrev middle : World
    middle = with_objects between (named selector between.objects).0

    same_first : first ≡ between.objects
    same_first = (made_world on old w shows array first v there).objects

    same_named : (second, symbol) ≡ named selector between.objects
    same_named = is ∙ ap (named selector) same_first

    middle_shown : ShowsWorld on (record old { objects = second }) middle
    middle_shown = record {
      objects = ap (λ b. b.0) same_named;
      transcript = shows.transcript;
      ticks = shows.ticks;
      keys = shows.keys;
      given = shows.given;
      variables = shows.variables;
      sites = shows.sites;
    }

    abbrev message : BodyTree
    message = message_body on.table (named selector between.objects).1 (Object (length w.objects.bodies))

    same_message : message_body on.table symbol v ≡ message
    same_message =
        let array_is : v ≡ Object (length w.objects.bodies) = there.0 ∙ ap (λ (s : Objects). Object (length s.bodies)) shows.objects in
        λ i. message_body on.table (same_named i).1 (array_is i)

    -- there is a Message, or none
    pub message_comes : (third : Objects) (made : Result Value ObjectFault) (result : Result Value Halt) → Makes second (message_body on.table symbol v) third made → IsMade made result
        → MakesMessage on selector arguments w old (record old { objects = third }) result
    message_comes third made (Err h) makes is =
        λ go. made_on on old w shows array first v there (behind go) (record old { objects = third }) (Err h)
        (not_made on (record old { objects = second }) middle middle_shown message third (λ w2. go (Object (length between.objects.bodies)) w2) made h
        (subst (λ b. Makes second b third made) same_message makes) is)
    message_comes third made (Ok m) makes is =
        let last : Makes second message third (Ok m) = made_is second third message made m (subst (λ b. Makes second b third made) same_message makes) is in
        let seat : Object (length between.objects.bodies) ≡ m = sym (last.0 ∙ ap (λ (s : Objects). Object (length s.bodies)) middle_shown.objects) in (
          refl,
          (
            with_objects middle (with_body middle.objects message),
            made_world on (record old { objects = second }) middle middle_shown message third m last,
            λ go. made_goes on old w shows array first v there (behind go)
                ∙ made_goes on (record old { objects = second }) middle middle_shown message third m last (λ w2. go (Object (length between.objects.bodies)) w2)
                ∙ ap (λ m. go m (with_objects middle (with_body middle.objects message))) seat,
          ),
        )

-- ---- what is known of it

-- objects alone
abbrev alone : Objects → World
alone s = record { objects = s; transcript = []; ticks = 0; keys = []; variables = λ v. Nil }

-- what was known is known later, and so is what these objects hold
record IsLater (t : Table) (old new : Objects) : Type 0 where
  onward : Onward (alone old) (alone new)
  known : AreKnown t new

module _ (t : Table) (s : Objects) (known : AreKnown t s) where
  with_one : (b : BodyTree) → BodyIsKnown t s b → IsLater t s (with_body s b)
  with_one b is =
      let on : Onward (alone s) (alone (with_body s b)) = record {
        keys = λ m key e. e;
        symbols = omega arith;
        numbers = omega arith;
        bodies = λ n c e. (c, get_front s.bodies (b ∷ []) n c e, same_self c);
      } in
      record {
        onward = on;
        known = λ n c e. elim (get_either_last s.bodies b n c e) [
          | inl there ↦ known_stays t (alone s) (alone (with_body s b)) on c (known n c there)
          | inr last ↦ subst (BodyIsKnown t (with_body s b)) last.1 (known_stays t (alone s) (alone (with_body s b)) on b is)
        ];
      }

  with_name : (text : List ℕ) → IsLater t s (named text s).0
  with_name text =
      let new : Objects = (named text s).0 in
      let on : Onward (alone s) (alone new) = record {
        keys = λ m key e. e;
        symbols = no_fewer (bytes_eq text) text s.symbols;
        numbers = omega arith;
        bodies = λ n c e. (c, e, same_self c);
      } in
      record { onward = on; known = λ n c e. known_stays t (alone s) (alone new) on c (known n c e) }

module _ (on : Given) (setting : IsSet on) (selector : List ℕ) (arguments : List Value) (old first second third : Objects) (v symbol : Value) (known : AreKnown on.table old) (all : All (IsKnown on.table old) arguments)
    (there : Makes old (arguments_body on.table arguments) first (Ok v)) (is : (second, symbol) ≡ named selector first) where
  abbrev of_arguments : BodyTree
  of_arguments = arguments_body on.table arguments

  abbrev of_message : BodyTree
  of_message = message_body on.table symbol v

  first_known : IsLater on.table old first
  first_known = subst (IsLater on.table old) (sym there.1.0) (with_one on.table old known of_arguments (arguments_known on.table on.methods on.code setting (alone old) arguments all))

  array_known : IsKnown on.table first v
  array_known =
      subst (λ s. IsKnown on.table s v) (sym there.1.0) (subst (IsKnown on.table (with_body old of_arguments)) (sym there.0) (last_known on.table on.methods on.code (alone old) of_arguments))

  second_known : IsLater on.table first second
  second_known = subst (λ b. IsLater on.table first b.0) (sym is) (with_name on.table first first_known.known selector)

  symbol_known : IsKnown on.table second symbol
  symbol_known = subst (λ b. IsKnown on.table b.0 b.1) (sym is) (first_added (bytes_eq selector) selector first.symbols)

  third_known : (m : Value) → Makes second of_message third (Ok m) → IsLater on.table second third
  third_known m last =
      let whole : IsKnown on.table second v = value_stays on.table (alone first) (alone second) second_known.onward v array_known in
      subst (IsLater on.table second) (sym last.1.0)
      (with_one on.table second second_known.known of_message (message_known on.table on.methods on.code setting (alone second) symbol v symbol_known whole))

  pub known_message : (made : Result Value ObjectFault) (result : Result Value Halt) → Makes second of_message third made → IsMade made result
      → IfOk result (λ m. (r : Value) → IsKnown on.table old r → IsKnownMessage on.table third r (m ∷ []))
  known_message made (Err h) makes is = tt
  known_message made (Ok m) makes is =
      let last : Makes second of_message third (Ok m) = made_is second third of_message made m makes is in
      let later = third_known m last in
      let here : IsKnown on.table third m =
      subst (λ s. IsKnown on.table s m) (sym last.1.0) (subst (IsKnown on.table (with_body second of_message)) (sym last.0) (last_known on.table on.methods on.code (alone second) of_message)) in
      λ r h.
      record {
        objects = later.known;
        receiver = value_stays on.table (alone second) (alone third) later.onward r
            (value_stays on.table (alone first) (alone second) second_known.onward r (value_stays on.table (alone old) (alone first) first_known.onward r h));
        arguments = All-cons (IsKnown on.table third) m [] here (All-nil (IsKnown on.table third));
      }

-- ---- the arguments behind the first

pub all_behind : {A : Type 0} (P : A → Type 0) (xs : List A) → All P xs → All P (drop 1 xs)
all_behind P [] all = All-nil P
all_behind P (x ∷ xs) all = All-tail P x xs all

-- what is asked for of these objects and of these arguments
pub asked_for : (s t : Objects) (b : Bool) (xs ys : List Value) (o p : Option (List ℕ)) → o ≡ p → o ≡ (if b then sent_in s xs else None) → s ≡ t → xs ≡ ys → p ≡ (if b then sent_in t ys else None)
asked_for s t b xs ys o p is asked same values = sym is ∙ asked ∙ ap (λ s. if b then sent_in s xs else None) same ∙ ap (λ vs. if b then sent_in t vs else None) values

pub one_fewer : (s : Objects) (b : Bool) (arguments behind : List Value) (u : List ℕ) → Some u ≡ (if b then sent_in s arguments else None) → behind ≡ drop 1 arguments → suc (length behind) ≡ length arguments
one_fewer s true [] behind u e is = cc
one_fewer s false arguments behind u e is = cc
one_fewer s true (a ∷ arguments) behind u e is = ap (λ vs. suc (length vs)) is
