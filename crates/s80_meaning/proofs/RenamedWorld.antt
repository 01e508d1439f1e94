-- The world of a run under other numbers of the classes: keys, variables, temporaries, what is answered at once, and blocks.
use Rattle.std.proofs.Common.{◌≡◌, ◌∙◌, ◌+◌, ◌++◌, ◌==◌, ◌&&◌, ◌||◌, ℕ, suc, Bool, true, false, not, cond, refl, sym, ap, List, [], ◌∷◌, codes, length, map, Option, Some, None, Result, Ok, Err, option_and_then, slice_get, slice_set, get_or, nat_lt, subst, if◌then◌else◌}
use Rattle.std.specs.List.{list_any, position_or_len}
use Rattle.std.specs.Option.{option_map}
use Rattle.std.specs.Str.{bytes_eq}
use Rattle.std.proofs.lemmas.List.{length-map, map_push}
use Rattle.s80_base.specs.declared.names.Side.TheVariants as side
use Rattle.s80_class.specs.Table.{Table, number_of}
use Rattle.s80_core.specs.Core.{VariableTree}
use Rattle.s80_core.specs.Core as core
use Rattle.s80_object.specs.Body.{BodyTree, block}
use Rattle.s80_object.specs.Literal.{added_once}
use Rattle.s80_object.specs.Objects.{State as Objects, field_put, fields_at, put_with, with_body_at}
use Rattle.s80_object.specs.declared.value.ObjectFault.{ObjectFault}
use Rattle.s80_object.specs.declared.value.Value.{Value}
use Rattle.s80_object.specs.declared.value.Value.TheVariants as value
use Rattle.s80_object.specs.declared.value.Value.TheVariants.{Small, Symbol, ClassRef, Object}
use Rattle.s80_prims.specs.Classes.{class_of}
use Rattle.s80_prims.specs.Primitives.{same, same_side}
use Rattle.s80_prims.specs.Arithmetic.{truth}
use Rattle.s80_machine.specs.World.{World, Key, doit, method, Variable, class_variable, class_side, Activation, own, home, field_read, field_set, first_value, first_world, in_activation, is_activation_of_block, is_home_activation, home_in, number_in, numbered, ok_of, outer_value, receiver_variable, same_key, same_variable, temporary, with_objects, with_receiver_variable, with_temporary, with_variable}
use Rattle.s80_machine.specs.World as world
use Rattle.s80_machine.specs.Shared.{Block, at_once, block_at, block_in, block_with, if_takes, integer_primitives, of_integers, selector_of}
use Rattle.s80_meaning.specs.Meaning.{read, with_parameters, written}
use Rattle.s80_meaning.proofs.NaturalObjects.{get_map, set_map}
use Rattle.s80_meaning.proofs.RenamedNumbers.{IsRenumbering}
use Rattle.s80_meaning.proofs.RenamedObjects.{and_then_map, field_put_at_renamed, fields_at_renamed, renamed, renamed_body, renamed_objects, renamed_result, with_body_at_renamed}
use Rattle.s80_meaning.proofs.RenamedClasses.{class_of_renamed}
use Rattle.s80_meaning.proofs.RenamedPrimitives.{arithmetic_plain, number_same, same_renamed, truth_plain}

any_mapped : {X Y : Type 0} (p : X → Y) (test : Y → Bool) (tests : X → Bool) → ((x : X) → test (p x) ≡ tests x) → (xs : List X) → list_any test (map p xs) ≡ list_any tests xs
any_mapped p test tests h [] = refl
any_mapped p test tests h (x ∷ xs) = ap (λ b. b || list_any test (map p xs)) (h x) ∙ ap (λ b. tests x || b) (any_mapped p test tests h xs)

position_mapped : {X Y : Type 0} (p : X → Y) (test : Y → Bool) (tests : X → Bool) → ((x : X) → test (p x) ≡ tests x) → (xs : List X) → position_or_len test (map p xs) ≡ position_or_len tests xs
position_mapped p test tests h [] = refl
position_mapped p test tests h (x ∷ xs) =
    ap (λ b. cond (not b) (1 + position_or_len test (map p xs)) 0) (h x) ∙ ap (λ n. cond (not (tests x)) (1 + n) 0) (position_mapped p test tests h xs)

added_mapped : {X : Type 0} (p : X → X) (test tests : X → Bool) (x : X) → ((y : X) → test (p y) ≡ tests y) → (xs : List X) → added_once test (p x) (map p xs) ≡ map p (added_once tests x xs)
added_mapped p test tests x h xs = ap (λ b. if b then map p xs else map p xs ++ p x ∷ []) (any_mapped p test tests h xs) ∙ of (list_any tests xs)
  where
    of : (b : Bool) → (if b then map p xs else map p xs ++ p x ∷ []) ≡ map p (if b then xs else xs ++ x ∷ [])
    of true = refl
    of false = sym (map_push p xs x)

module _ (r : ℕ → ℕ) where
  abbrev pub renamed_key : Key → Key
  renamed_key doit = doit
  renamed_key (method c s selector) = method (r c) s selector

  abbrev pub renamed_variable : Variable → Variable
  renamed_variable (class_side c i) = class_side (r c) i
  renamed_variable v = v

  abbrev pub renamed_activation : Activation → Activation
  renamed_activation (own temporaries) = own (map (renamed r) temporaries)
  renamed_activation a = a

  -- the world, with other variables
  abbrev pub renamed_world : World → (Variable → Value) → World
  renamed_world w vs = record { objects = renamed_objects r w.objects; transcript = w.transcript; ticks = w.ticks; keys = map renamed_key w.keys; variables = vs }

  -- these have the old values, under the other numbers
  abbrev pub AreRenamed : (Variable → Value) → (Variable → Value) → Type 0
  AreRenamed old vs = (v : Variable) → vs (renamed_variable v) ≡ renamed r (old v)

  -- a world that is there, with an activation, or none
  abbrev pub PairAlike : Option (World × Activation) → Option (World × Activation) → Type 0
  PairAlike None o = o ≡ None
  PairAlike (Some p) o = (vs : Variable → Value) × AreRenamed p.0.variables vs × (o ≡ Some (renamed_world p.0 vs, renamed_activation p.1))

  abbrev pub WorldAlike : Option World → Option World → Type 0
  WorldAlike None o = o ≡ None
  WorldAlike (Some w) o = (vs : Variable → Value) × AreRenamed w.variables vs × (o ≡ Some (renamed_world w vs))

  -- ---- activations

  is_block_same : (b : ℕ) (f : Activation) → is_activation_of_block b (renamed_activation f) ≡ is_activation_of_block b f
  is_block_same b (own temporaries) = refl
  is_block_same b _ = refl

  is_home_same : (h : ℕ) (f : Activation) → is_home_activation h (renamed_activation f) ≡ is_home_activation h f
  is_home_same h (own temporaries) = refl
  is_home_same h _ = refl

  pub home_in_same : (f : Activation) → home_in (renamed_activation f) ≡ home_in f
  home_in_same (own temporaries) = refl
  home_in_same _ = refl

  pub active_same : (b : ℕ) (alive : List Activation) → list_any (is_activation_of_block b) (map renamed_activation alive) ≡ list_any (is_activation_of_block b) alive
  active_same b alive = any_mapped renamed_activation (is_activation_of_block b) (is_activation_of_block b) (is_block_same b) alive

  pub alive_same : (h : ℕ) (alive : List Activation) → list_any (is_home_activation h) (map renamed_activation alive) ≡ list_any (is_home_activation h) alive
  alive_same h alive = any_mapped renamed_activation (is_home_activation h) (is_home_activation h) (is_home_same h) alive

  -- ---- fields

  field_read_renamed : (w : World) (vs : Variable → Value) (n i : ℕ) → field_read (renamed_world w vs) n i ≡ option_map (renamed r) (field_read w n i)
  field_read_renamed w vs n i =
      let at : List Value → Option Value = λ fields. slice_get fields i in
      ap (option_and_then at) (fields_at_renamed r w.objects (Object n))
      ∙ and_then_map (map (renamed r)) (renamed r) at at (λ fields. get_map (renamed r) fields i) (fields_at w.objects (Object n))

  abbrev set_by : World → ℕ → Result BodyTree ObjectFault → Option World
  set_by w n put = option_map (λ b. with_objects w (with_body_at w.objects (Object n) b)) (ok_of put)

  set_alike : (w : World) (vs : Variable → Value) (n : ℕ) (put : Result BodyTree ObjectFault) → AreRenamed w.variables vs → WorldAlike (set_by w n put) (set_by (renamed_world w vs) n (renamed_result r put))
  set_alike w vs n (Ok b) h = (vs, h, ap (λ s. Some (with_objects (renamed_world w vs) s)) (sym (with_body_at_renamed r w.objects (Object n) b)))
  set_alike w vs n (Err told) h = refl

  field_set_alike : (w : World) (vs : Variable → Value) (n i : ℕ) (x : Value) → AreRenamed w.variables vs → WorldAlike (field_set w n i x) (field_set (renamed_world w vs) n i (renamed r x))
  field_set_alike w vs n i x h =
      let put : Result BodyTree ObjectFault = put_with (λ b. field_put b i x) w.objects (Object n) in
      subst (λ o. WorldAlike (set_by w n put) (set_by (renamed_world w vs) n o)) (sym (field_put_at_renamed r w.objects (Object n) i x)) (set_alike w vs n put h)

  -- an activation beside it
  paired : (o p : Option World) (f : Activation) → WorldAlike o p → PairAlike (option_map (λ w. (w, f)) o) (option_map (λ w. (w, renamed_activation f)) p)
  paired None p f h = ap (option_map (λ (w : World). (w, renamed_activation f))) h
  paired (Some w) p f h = (h.0, h.1, ap (option_map (λ (w : World). (w, renamed_activation f))) h.2)

  -- ---- temporaries

  temporary_renamed : (w : World) (vs : Variable → Value) (f : Activation) (i : ℕ) → temporary (renamed_world w vs) (renamed_activation f) i ≡ option_map (renamed r) (temporary w f i)
  temporary_renamed w vs (own temporaries) i = get_map (renamed r) temporaries i
  temporary_renamed w vs (home h) i = field_read_renamed w vs h i
  temporary_renamed w vs (world.block b h) i = field_read_renamed w vs h i

  abbrev if_there : Bool → World → Activation → Option (World × Activation)
  if_there test w f = if test then Some (w, f) else None

  own_alike : (w : World) (vs : Variable → Value) (test : Bool) (f : Activation) → AreRenamed w.variables vs → PairAlike (if_there test w f) (if_there test (renamed_world w vs) (renamed_activation f))
  own_alike w vs true f h = (vs, h, refl)
  own_alike w vs false f h = refl

  with_temporary_alike : (w : World) (vs : Variable → Value) (f : Activation) (i : ℕ) (x : Value) → AreRenamed w.variables vs
      → PairAlike (with_temporary w f i x) (with_temporary (renamed_world w vs) (renamed_activation f) i (renamed r x))
  with_temporary_alike w vs (own temporaries) i x h =
      let is : if_there (nat_lt i (length (map (renamed r) temporaries))) (renamed_world w vs) (own (slice_set (map (renamed r) temporaries) i (renamed r x)))
      ≡ if_there (nat_lt i (length temporaries)) (renamed_world w vs) (own (map (renamed r) (slice_set temporaries i x))) =
      ap (λ n. if_there (nat_lt i n) (renamed_world w vs) (own (slice_set (map (renamed r) temporaries) i (renamed r x)))) (length-map temporaries (renamed r))
      ∙ ap (λ l. if_there (nat_lt i (length temporaries)) (renamed_world w vs) (own l)) (sym (set_map (renamed r) temporaries i x)) in
      subst (PairAlike (if_there (nat_lt i (length temporaries)) w (own (slice_set temporaries i x)))) (sym is) (own_alike w vs (nat_lt i (length temporaries)) (own (slice_set temporaries i x)) h)
  with_temporary_alike w vs (home k) i x h = paired (field_set w k i x) (field_set (renamed_world w vs) k i (renamed r x)) (home k) (field_set_alike w vs k i x h)
  with_temporary_alike w vs (world.block b k) i x h = paired (field_set w k i x) (field_set (renamed_world w vs) k i (renamed r x)) (world.block b k) (field_set_alike w vs k i x h)

  fronts : (o p : Option (World × Activation)) → PairAlike o p → WorldAlike (option_map (λ q. q.0) o) (option_map (λ q. q.0) p)
  fronts None p h = ap (option_map (λ (q : World × Activation). q.0)) h
  fronts (Some q) p h = (h.0, h.1, ap (option_map (λ (q : World × Activation). q.0)) h.2)

  abbrev parameter_set : Activation → ℕ → Value → World → Option World
  parameter_set f first v w = option_map (λ p. p.0) (with_temporary w f first v)

  pub with_parameters_alike : (w : World) (vs : Variable → Value) (f : Activation) (first : ℕ) (xs : List Value) → AreRenamed w.variables vs
      → WorldAlike (with_parameters w f first xs) (with_parameters (renamed_world w vs) (renamed_activation f) first (map (renamed r) xs))
  with_parameters_alike w vs f first [] h = (vs, h, refl)
  with_parameters_alike w vs f first (x ∷ xs) h =
      of (with_parameters w f (suc first) xs) (with_parameters (renamed_world w vs) (renamed_activation f) (suc first) (map (renamed r) xs)) (with_parameters_alike w vs f (suc first) xs h)
    where
      of : (o p : Option World) → WorldAlike o p → WorldAlike (option_and_then (parameter_set f first x) o) (option_and_then (parameter_set (renamed_activation f) first (renamed r x)) p)
      of None p g = ap (option_and_then (parameter_set (renamed_activation f) first (renamed r x))) g
      of (Some w1) p g =
          subst (λ q. WorldAlike (parameter_set f first x w1) (option_and_then (parameter_set (renamed_activation f) first (renamed r x)) q)) (sym g.2)
          (fronts (with_temporary w1 f first x) (with_temporary (renamed_world w1 g.0) (renamed_activation f) first (renamed r x)) (with_temporary_alike w1 g.0 f first x g.1))

  -- ---- blocks

  -- a block is the same, in its home
  abbrev pub renamed_block : Block → Block
  renamed_block b = record b { home = renamed r b.home }

  block_in_renamed : (n : ℕ) (b : BodyTree) → block_in n (renamed_body r b) ≡ option_map renamed_block (block_in n b)
  block_in_renamed n (block whole start count) = refl
  block_in_renamed n _ = refl

  block_at_renamed : (s : Objects) (v : Value) → block_at (renamed_objects r s) (renamed r v) ≡ option_map renamed_block (block_at s v)
  block_at_renamed s (Object n) = ap (option_and_then (block_in n)) (get_map (renamed_body r) s.bodies n) ∙ and_then_map (renamed_body r) renamed_block (block_in n) (block_in n) (block_in_renamed n) (slice_get s.bodies n)
  block_at_renamed s _ = refl

  if_takes_renamed : (count : ℕ) (b : Block) → if_takes count (renamed_block b) ≡ option_map renamed_block (if_takes count b)
  if_takes_renamed count b = of (b.arguments == count)
    where
      of : (test : Bool) → (if test then Some (renamed_block b) else None) ≡ option_map renamed_block (if test then Some b else None)
      of true = refl
      of false = refl

  pub block_with_renamed : (s : Objects) (v : Value) (count : ℕ) → block_with (renamed_objects r s) (renamed r v) count ≡ option_map renamed_block (block_with s v count)
  block_with_renamed s v count =
      ap (option_and_then (if_takes count)) (block_at_renamed s v) ∙ and_then_map renamed_block renamed_block (if_takes count) (if_takes count) (if_takes_renamed count) (block_at s v)

  pub selector_same : (s : Objects) (v : Value) (count : ℕ) → selector_of (renamed_objects r s) (renamed r v) count ≡ selector_of s v count
  selector_same s (Symbol n) count = refl
  selector_same s _ count = refl

  module _ (injective : (c d : ℕ) → r c ≡ r d → c ≡ d) where
    -- ---- keys

    same_key_renamed : (a b : Key) → same_key (renamed_key a) (renamed_key b) ≡ same_key a b
    same_key_renamed doit doit = refl
    same_key_renamed doit (method d on other) = refl
    same_key_renamed (method c s selector) doit = refl
    same_key_renamed (method c s selector) (method d on other) = ap (λ b. b && (same_side s on && bytes_eq selector other)) (number_same r injective c d)

    pub numbered_renamed : (w : World) (vs : Variable → Value) (key : Key) → numbered (renamed_world w vs) (renamed_key key) ≡ renamed_world (numbered w key) vs
    numbered_renamed w vs key =
        ap (λ (keys : List Key). record (renamed_world w vs) { keys = keys }) (added_mapped renamed_key (same_key (renamed_key key)) (same_key key) key (same_key_renamed key) w.keys)

    pub number_in_same : (w : World) (vs : Variable → Value) (key : Key) → number_in (renamed_world w vs) (renamed_key key) ≡ number_in w key
    number_in_same w vs key = position_mapped renamed_key (same_key (renamed_key key)) (same_key key) (same_key_renamed key) w.keys

    -- ---- variables

    same_variable_renamed : (a b : Variable) → same_variable (renamed_variable a) (renamed_variable b) ≡ same_variable a b
    same_variable_renamed (class_side c i) (class_side d j) = ap (λ b. b && i == j) (number_same r injective c d)
    same_variable_renamed (class_side c i) _ = refl
    same_variable_renamed _ (class_side d j) = refl
    same_variable_renamed _ _ = refl

    if_value : (test : Bool) (x y z : Value) → z ≡ renamed r y → (if test then renamed r x else z) ≡ renamed r (if test then x else y)
    if_value true x y z h = refl
    if_value false x y z h = h

    set_renamed : (w : World) (vs : Variable → Value) (v : Variable) (x : Value) → AreRenamed w.variables vs
        → AreRenamed (with_variable w v x).variables (with_variable (renamed_world w vs) (renamed_variable v) (renamed r x)).variables
    set_renamed w vs v x h a =
        ap (λ b. if b then renamed r x else vs (renamed_variable a)) (same_variable_renamed a v) ∙ if_value (same_variable a v) x (w.variables a) (vs (renamed_variable a)) (h a)

    receiver_variable_renamed : (w : World) (vs : Variable → Value) (v : Value) (i : ℕ) → AreRenamed w.variables vs
        → receiver_variable (renamed_world w vs) (renamed r v) i ≡ option_map (renamed r) (receiver_variable w v i)
    receiver_variable_renamed w vs (Object n) i h = field_read_renamed w vs n i
    receiver_variable_renamed w vs (ClassRef c side.Instance) i h = ap (λ x. Some x) (h (class_side c i))
    receiver_variable_renamed w vs _ i h = refl

    with_receiver_variable_alike : (w : World) (vs : Variable → Value) (v : Value) (i : ℕ) (x : Value) → AreRenamed w.variables vs
        → WorldAlike (with_receiver_variable w v i x) (with_receiver_variable (renamed_world w vs) (renamed r v) i (renamed r x))
    with_receiver_variable_alike w vs (Object n) i x h = field_set_alike w vs n i x h
    with_receiver_variable_alike w vs (ClassRef c side.Instance) i x h =
        ((with_variable (renamed_world w vs) (class_side (r c) i) (renamed r x)).variables, set_renamed w vs (class_side c i) x h, refl)
    with_receiver_variable_alike w vs _ i x h = refl

    pub read_renamed : (w : World) (vs : Variable → Value) (f : Activation) (v : Value) (tree : VariableTree) → AreRenamed w.variables vs
        → read (renamed_world w vs) (renamed_activation f) (renamed r v) tree ≡ option_map (renamed r) (read w f v tree)
    read_renamed w vs f v (core.temporary i) h = temporary_renamed w vs f i
    read_renamed w vs f v (core.instance i) h = receiver_variable_renamed w vs v i h
    read_renamed w vs f v (core.class_variable class name) h = ap (λ x. Some x) (h (class_variable class name))
    read_renamed w vs f v (core.outer name) h = ap (λ x. Some x) (h (world.outer name))

    pub written_alike : (w : World) (vs : Variable → Value) (f : Activation) (v : Value) (tree : VariableTree) (x : Value) → AreRenamed w.variables vs
        → PairAlike (written w f v tree x) (written (renamed_world w vs) (renamed_activation f) (renamed r v) tree (renamed r x))
    written_alike w vs f v (core.temporary i) x h = with_temporary_alike w vs f i x h
    written_alike w vs f v (core.instance i) x h =
        paired (with_receiver_variable w v i x) (with_receiver_variable (renamed_world w vs) (renamed r v) i (renamed r x)) f (with_receiver_variable_alike w vs v i x h)
    written_alike w vs f v (core.class_variable class name) x h =
        ((with_variable (renamed_world w vs) (class_variable class name) (renamed r x)).variables, set_renamed w vs (class_variable class name) x h, refl)
    written_alike w vs f v (core.outer name) x h =
        ((with_variable (renamed_world w vs) (world.outer name) (renamed r x)).variables, set_renamed w vs (world.outer name) x h, refl)

module _ (t u : Table) (r : ℕ → ℕ) (is : IsRenumbering t u r) where
  -- ---- what is answered at once

  of_integers_renamed : (n : ℕ) (a b : Value) → of_integers n (renamed r a) (renamed r b) ≡ option_map (renamed r) (of_integers n a b)
  of_integers_renamed n (Small a) (Small b) = sym (arithmetic_plain r (get_or integer_primitives n 0) a b)
  of_integers_renamed n (Small a) _ = refl
  of_integers_renamed n _ b = refl

  if_option : (test : Bool) (v : Value) (o p : Option Value) → p ≡ option_map (renamed r) o → (if test then Some (renamed r v) else p) ≡ option_map (renamed r) (if test then Some v else o)
  if_option true v o p h = refl
  if_option false v o p h = h

  pub at_once_renamed : (s : Objects) (n : ℕ) (v : Value) (arguments : List Value) → at_once u (renamed_objects r s) n (renamed r v) (map (renamed r) arguments) ≡ option_map (renamed r) (at_once t s n v arguments)
  at_once_renamed s n v [] = ap (λ x. if n == 23 then Some x else None) (class_of_renamed t u r is s v) ∙ if_option (n == 23) (class_of t s v) None None refl
  at_once_renamed s n v (a ∷ []) =
      ap (λ x. if n == 22 then Some x else of_integers n (renamed r v) (renamed r a)) (ap truth (same_renamed r is.injective v a) ∙ sym (truth_plain r (same v a)))
      ∙ if_option (n == 22) (truth (same v a)) (of_integers n v a) (of_integers n (renamed r v) (renamed r a)) (of_integers_renamed n v a)
  at_once_renamed s n v (a ∷ b ∷ rest) = refl

  -- ---- the first world

  outer_renamed : (name : List ℕ) (o : Option ℕ) → outer_value u name (option_map r o) ≡ renamed r (outer_value t name o)
  outer_renamed name (Some c) = refl
  outer_renamed name None = of (bytes_eq name (codes "Smalltalk")) (bytes_eq name (codes "Transcript"))
    where
      of : (a b : Bool) → (if a then value.Smalltalk else (if b then value.Transcript else value.Nil)) ≡ renamed r (if a then value.Smalltalk else (if b then value.Transcript else value.Nil))
      of true b = refl
      of false true = refl
      of false false = refl

  pub first_renamed : AreRenamed r (first_value t) (first_value u)
  first_renamed (world.outer name) = ap (outer_value u name) (is.numbers name) ∙ outer_renamed name (number_of t.names name)
  first_renamed (class_variable class name) = refl
  first_renamed (class_side c i) = refl
