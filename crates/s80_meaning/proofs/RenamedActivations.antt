-- Literals, activations and blocks under other numbers of the classes.
use Rattle.std.proofs.Common.{◌≡◌, ◌∙◌, ◌-◌, ◌++◌, ◌==◌, ℕ, Bool, refl, sym, ap, subst, List, [], ◌∷◌, codes, length, map, replicate, Option, Some, None, option_and_then, slice_get, nat_le, if◌then◌else◌}
use Rattle.std.proofs.lemmas.List.{length-map}
use Rattle.s80_base.specs.Literal.{LiteralTree}
use Rattle.s80_base.specs.declared.names.Side.{Side}
use Rattle.s80_class.specs.Lookup.{number}
use Rattle.s80_class.specs.Table.{Table}
use Rattle.s80_core.specs.Core.{LeafTree}
use Rattle.s80_core.specs.Core as core
use Rattle.s80_core.specs.Measures.{fixed_number}
use Rattle.s80_object.specs.Body.{BodyTree, words_of, word_limit}
use Rattle.s80_object.specs.Body as body
use Rattle.s80_object.specs.Literal.{Built, built, is_object, made_before, noted}
use Rattle.s80_object.specs.Objects.{State as Objects, body_at, home_parts_of, with_body}
use Rattle.s80_object.specs.declared.value.Value.{Value}
use Rattle.s80_object.specs.declared.value.Value.TheVariants.{Nil, Context, Object}
use Rattle.s80_prims.specs.declared.stop.Stop.TheVariants.{BlockActive, ObjectsFull}
use Rattle.s80_machine.specs.World.{World, Key, doit, method, Variable, Activation, own, home, number_in, numbered, one_tick, with_objects}
use Rattle.s80_machine.specs.World as world
use Rattle.s80_machine.specs.Shared.{Block, fixed}
use Rattle.s80_meaning.specs.Meaning.{Out, Gives, Stopped, Unfinished, Here, Evaluator, Methods, awaited, deeper, is_active, meant_for, read, with_parameters, with_part, with_room, literal_value, constant_value, leaf_value, in_home, alone, started, activated, at_tree, if_fits, of_key, at_home, block_activated}
use Rattle.s80_meaning.specs.Tree.{Meant, RealBlock, Tree, place_of}
use Rattle.s80_meaning.proofs.NaturalObjects.{get_map}
use Rattle.s80_meaning.proofs.RenamedNumbers.{IsRenumbering}
use Rattle.s80_meaning.proofs.RenamedObjects.{built_renamed, home_parts_at_renamed, length_renamed, made_before_renamed, map_append, map_replicate, noted_renamed, renamed, renamed_body, renamed_built, renamed_objects, renamed_parts, words_renamed}
use Rattle.s80_meaning.proofs.RenamedClasses.{arrays_renamed, strings_renamed}
use Rattle.s80_meaning.proofs.RenamedWorld.{AreRenamed, active_same, number_in_same, numbered_renamed, read_renamed, renamed_activation, renamed_block, renamed_key, renamed_world, with_parameters_alike}
use Rattle.s80_meaning.proofs.RenamedOut.{Alike, gives, stopped, unfinished, awaited_alike, deeper_alike, if_alike, or_alike, part_alike, room_alike, same_part_alike, ticked_alike, world_alike}

-- two tables of the same classes with the same methods, a doIt and its budget
pub record Houses : Type 0 where
  pub t : Table
  pub u : Table
  pub r : ℕ → ℕ
  pub is : IsRenumbering t u r
  pub methods : Methods
  pub others : Methods
  pub same : (c : ℕ) (side : Side) (selector : List ℕ) → others (r c) side selector ≡ methods c side selector
  pub meant : Meant
  pub budget : ℕ

abbrev pub renamed_here : (ℕ → ℕ) → Here → Here
renamed_here r here = record { key = renamed_key r here.key; receiver = renamed r here.receiver; alive = map (renamed_activation r) here.alive }

-- a tree comes to the same
abbrev pub TreeAlike : (ℕ → ℕ) → Evaluator → Evaluator → Tree → Type 0
TreeAlike r next nexts tree =
    (here : Here) (w : World) (f : Activation) (vs : Variable → Value) → AreRenamed r w.variables vs
    → Alike r (renamed r) (next tree here w f) (nexts tree (renamed_here r here) (renamed_world r w vs) (renamed_activation r f))

module _ (p : Houses) where
  abbrev pub Same : Out Value → Out Value → Type 0
  Same o q = Alike p.r (renamed p.r) o q

  abbrev rename : Value → Value
  rename = renamed p.r

  abbrev rename_all : List Value → List Value
  rename_all = map (renamed p.r)

  abbrev other : World → (Variable → Value) → World
  other w vs = renamed_world p.r w vs

  abbrev act : Activation → Activation
  act f = renamed_activation p.r f

  abbrev acts : List Activation → List Activation
  acts = map (renamed_activation p.r)

  abbrev rename_key : Key → Key
  rename_key key = renamed_key p.r key

  -- ---- literals

  pub meant_for_same : (key : Key) → meant_for p.others p.meant (renamed_key p.r key) ≡ meant_for p.methods p.meant key
  meant_for_same doit = refl
  meant_for_same (method c side selector) = p.same c side selector

  abbrev pushed : World → Activation → Value → Objects → ℕ → ℕ → Out Value
  pushed w f v new n held = if nat_le n word_limit then Gives v (with_objects w new) f else Stopped (ObjectsFull held) w

  abbrev pushed_first : World → Activation → ℕ → ℕ → Bool → Built → Out Value
  pushed_first w f m k object b = pushed w f b.1 (noted m k object b) (words_of b.0.bodies) (words_of w.objects.bodies)

  pushed_alike : (w : World) (f : Activation) (vs : Variable → Value) (m k : ℕ) (object : Bool) (b : Built) → AreRenamed p.r w.variables vs
      → Same (pushed_first w f m k object b) (pushed_first (other w vs) (act f) m k object (renamed_built p.r b))
  pushed_alike w f vs m k object b h =
      let n : ℕ = words_of b.0.bodies in
      let held : ℕ = words_of w.objects.bodies in
      let new : Objects = noted m k object b in
      let is : pushed_first (other w vs) (act f) m k object (renamed_built p.r b) ≡ pushed (other w vs) (act f) (rename b.1) (renamed_objects p.r new) n held =
      ap (λ s. pushed (other w vs) (act f) (rename b.1) s (words_of (map (renamed_body p.r) b.0.bodies)) (words_of (map (renamed_body p.r) w.objects.bodies))) (noted_renamed p.r m k object b)
      ∙ ap (λ i. pushed (other w vs) (act f) (rename b.1) (renamed_objects p.r new) i (words_of (map (renamed_body p.r) w.objects.bodies))) (words_renamed p.r b.0.bodies)
      ∙ ap (λ i. pushed (other w vs) (act f) (rename b.1) (renamed_objects p.r new) n i) (words_renamed p.r w.objects.bodies) in
      subst (Same (pushed_first w f m k object b)) (sym is)
      (if_alike p.r (renamed p.r) (nat_le n word_limit) (Gives b.1 (with_objects w new) f) (Stopped (ObjectsFull held) w)
      (Gives (rename b.1) (with_objects (other w vs) (renamed_objects p.r new)) (act f)) (Stopped (ObjectsFull held) (other w vs)) (gives b.1 (with_objects w new) f vs h) (stopped (ObjectsFull held) w vs h))

  literal_alike : (w : World) (f : Activation) (vs : Variable → Value) (m k : ℕ) (l : LiteralTree) → AreRenamed p.r w.variables vs
      → Same (literal_value p.t p.methods p.meant p.budget w f m k l) (literal_value p.u p.others p.meant p.budget (other w vs) (act f) m k l)
  literal_alike w f vs m k l h =
      let made : Built = built (number p.t (codes "String")) (number p.t (codes "Array")) l w.objects in
      let is : built (number p.u (codes "String")) (number p.u (codes "Array")) l (renamed_objects p.r w.objects) ≡ renamed_built p.r made =
      ap (λ c. built c (number p.u (codes "Array")) l (renamed_objects p.r w.objects)) (strings_renamed p.t p.u p.r p.is)
      ∙ ap (λ c. built (p.r (number p.t (codes "String"))) c l (renamed_objects p.r w.objects)) (arrays_renamed p.t p.u p.r p.is)
      ∙ built_renamed p.r (number p.t (codes "String")) (number p.t (codes "Array")) l w.objects in
      or_alike p.r (renamed p.r) (renamed p.r) (λ v. Gives v w f) (λ v. Gives v (other w vs) (act f)) (made_before m k w.objects) (made_before m k (renamed_objects p.r w.objects))
      (pushed_first w f m k (is_object l) made)
      (pushed_first (other w vs) (act f) m k (is_object l) (built (number p.u (codes "String")) (number p.u (codes "Array")) l (renamed_objects p.r w.objects)))
      (made_before_renamed p.r m k w.objects) (λ v. gives v w f vs h)
      (subst (λ b. Same (pushed_first w f m k (is_object l) made) (pushed_first (other w vs) (act f) m k (is_object l) b)) (sym is) (pushed_alike w f vs m k (is_object l) made h))

  constant_alike : (here : Here) (w : World) (f : Activation) (vs : Variable → Value) (l : LiteralTree) (o : Option ℕ) → AreRenamed p.r w.variables vs
      → Same (constant_value p.t p.methods p.meant p.budget here w f l o) (constant_value p.u p.others p.meant p.budget (renamed_here p.r here) (other w vs) (act f) l o)
  constant_alike here w f vs l (Some n) h =
      part_alike p.r (renamed p.r) (renamed p.r) (λ v. Gives v w f) (λ v. Gives v (other w vs) (act f)) (slice_get (fixed here.receiver) n) (slice_get (fixed (rename here.receiver)) n)
      (get_map (renamed p.r) (fixed here.receiver) n) (λ v. gives v w f vs h)
  constant_alike here w f vs l None h =
      same_part_alike p.r (renamed p.r) (λ m. literal_value p.t p.methods p.meant p.budget w f (number_in w here.key) (place_of l m.named) l)
      (λ m. literal_value p.u p.others p.meant p.budget (other w vs) (act f) (number_in (other w vs) (rename_key here.key)) (place_of l m.named) l)
      (meant_for p.methods p.meant here.key) (meant_for p.others p.meant (rename_key here.key)) (meant_for_same here.key)
      (λ m. subst (λ n. Same (literal_value p.t p.methods p.meant p.budget w f (number_in w here.key) (place_of l m.named) l)
      (literal_value p.u p.others p.meant p.budget (other w vs) (act f) n (place_of l m.named) l)) (sym (number_in_same p.r p.is.injective w vs here.key))
      (literal_alike w f vs (number_in w here.key) (place_of l m.named) l h))

  pub leaf_alike : (here : Here) (w : World) (f : Activation) (vs : Variable → Value) (l : LeafTree) → AreRenamed p.r w.variables vs
      → Same (leaf_value p.t p.methods p.meant p.budget here w f l) (leaf_value p.u p.others p.meant p.budget (renamed_here p.r here) (other w vs) (act f) l)
  leaf_alike here w f vs (core.variable v) h =
      part_alike p.r (renamed p.r) (renamed p.r) (λ x. Gives x w f) (λ x. Gives x (other w vs) (act f)) (read w f here.receiver v) (read (other w vs) (act f) (rename here.receiver) v)
      (read_renamed p.r p.is.injective w vs f here.receiver v h) (λ x. gives x w f vs h)
  leaf_alike here w f vs (core.constant l) h = constant_alike here w f vs l (fixed_number l) h
  leaf_alike here w f vs core.receiver h = gives here.receiver w f vs h
  leaf_alike here w f vs core.context h = gives Context w f vs h

  module _ (next nexts : Evaluator) (on : (tree : Tree) → TreeAlike p.r next nexts tree) where
    -- ---- activations

    abbrev home_with : Evaluator → ℕ → ℕ → Key → Meant → Value → List Value → List Activation → World → Activation → Out Value
    home_with run n k key m x temporaries alive w f =
        with_room w (body.home n x temporaries) (λ w1. awaited f (Some k) (run m.body (record { key = key; receiver = x; alive = home k ∷ alive }) w1 (home k)))

    home_alike : (key : Key) (m : Meant) (x : Value) (temporaries : List Value) (alive : List Activation) (w : World) (f : Activation) (vs : Variable → Value) → AreRenamed p.r w.variables vs
        → Same (in_home p.t p.methods p.meant p.budget next key m x temporaries alive w f)
        (in_home p.u p.others p.meant p.budget nexts (rename_key key) m (rename x) (rename_all temporaries) (acts alive) (other w vs) (act f))
    home_alike key m x temporaries alive w f vs h =
        let n : ℕ = number_in w key in
        let k : ℕ = length w.objects.bodies in
        let b : BodyTree = body.home n x temporaries in
        let is : home_with nexts (number_in (other w vs) (rename_key key)) (length (map (renamed_body p.r) w.objects.bodies)) (rename_key key) m (rename x) (rename_all temporaries) (acts alive) (other w vs) (act f)
        ≡ home_with nexts n k (rename_key key) m (rename x) (rename_all temporaries) (acts alive) (other w vs) (act f) =
        ap (λ i. home_with nexts i (length (map (renamed_body p.r) w.objects.bodies)) (rename_key key) m (rename x) (rename_all temporaries) (acts alive) (other w vs) (act f)) (number_in_same p.r p.is.injective w vs key)
        ∙ ap (λ i. home_with nexts n i (rename_key key) m (rename x) (rename_all temporaries) (acts alive) (other w vs) (act f)) (length_renamed p.r w.objects.bodies) in
        let here : Here = record { key = key; receiver = x; alive = home k ∷ alive } in
        let w1 : World = with_objects w (with_body w.objects b) in
        subst (Same (home_with next n k key m x temporaries alive w f)) (sym is)
        (room_alike p.r (renamed p.r) w vs b (λ w2. awaited f (Some k) (next m.body here w2 (home k)))
        (λ w2. awaited (act f) (Some k) (nexts m.body (renamed_here p.r here) w2 (home k))) h
        (awaited_alike p.r f (Some k) (next m.body here w1 (home k)) (nexts m.body (renamed_here p.r here) (other w1 vs) (home k)) (on m.body here w1 (home k) vs h)))

    alone_alike : (key : Key) (m : Meant) (x : Value) (temporaries : List Value) (alive : List Activation) (w : World) (f : Activation) (vs : Variable → Value) → AreRenamed p.r w.variables vs
        → Same (alone p.t p.methods p.meant p.budget next key m x temporaries alive w f)
        (alone p.u p.others p.meant p.budget nexts (rename_key key) m (rename x) (rename_all temporaries) (acts alive) (other w vs) (act f))
    alone_alike key m x temporaries alive w f vs h =
        let here : Here = record { key = key; receiver = x; alive = own [] ∷ alive } in
        awaited_alike p.r f None (next m.body here w (own temporaries)) (nexts m.body (renamed_here p.r here) (other w vs) (own (rename_all temporaries))) (on m.body here w (own temporaries) vs h)

    started_alike : (bs : List RealBlock) (key : Key) (m : Meant) (x : Value) (temporaries : List Value) (alive : List Activation) (w : World) (f : Activation) (vs : Variable → Value) → AreRenamed p.r w.variables vs
        → Same (started p.t p.methods p.meant p.budget next bs key m x temporaries alive w f)
        (started p.u p.others p.meant p.budget nexts bs (rename_key key) m (rename x) (rename_all temporaries) (acts alive) (other w vs) (act f))
    started_alike [] key m x temporaries alive w f vs h = alone_alike key m x temporaries alive w f vs h
    started_alike (b ∷ bs) key m x temporaries alive w f vs h = home_alike key m x temporaries alive w f vs h

    temporaries_renamed : (count : ℕ) (arguments : List Value)
        → rename_all arguments ++ replicate (count - length (rename_all arguments)) Nil ≡ rename_all (arguments ++ replicate (count - length arguments) Nil)
    temporaries_renamed count arguments =
        ap (λ n. rename_all arguments ++ replicate (count - n) Nil) (length-map arguments (renamed p.r))
        ∙ ap (λ l. rename_all arguments ++ l) (sym (map_replicate (renamed p.r) (count - length arguments) Nil))
        ∙ sym (map_append (renamed p.r) arguments (replicate (count - length arguments) Nil))

    pub activated_alike : (key : Key) (m : Meant) (x : Value) (arguments : List Value) (alive : List Activation) (w : World) (f : Activation) (vs : Variable → Value) → AreRenamed p.r w.variables vs
        → Same (activated p.t p.methods p.meant p.budget next key m x arguments alive w f)
        (activated p.u p.others p.meant p.budget nexts (rename_key key) m (rename x) (rename_all arguments) (acts alive) (other w vs) (act f))
    activated_alike key m x arguments alive w f vs h =
        let temporaries : List Value = arguments ++ replicate (m.temporaries - length arguments) Nil in
        let o : Out Value = started p.t p.methods p.meant p.budget next m.blocks key m x temporaries alive (numbered w key) f in
        let start : List Value → World → Out Value = λ l w1. started p.u p.others p.meant p.budget nexts m.blocks (rename_key key) m (rename x) l (acts alive) w1 (act f) in
        let begun : List Value = rename_all arguments ++ replicate (m.temporaries - length (rename_all arguments)) Nil in
        deeper_alike p.r (renamed p.r) alive w vs o (start begun (numbered (other w vs) (rename_key key))) h
        (subst (λ l. Same o (start l (numbered (other w vs) (rename_key key)))) (sym (temporaries_renamed m.temporaries arguments))
        (subst (λ w1. Same o (start (rename_all temporaries) w1)) (sym (numbered_renamed p.r p.is.injective w vs key))
        (started_alike m.blocks key m x temporaries alive (numbered w key) f vs h)))

    -- ---- blocks

    tree_alike : (b : Block) (k : ℕ) (key : Key) (x : Value) (arguments : List Value) (alive : List Activation) (w : World) (f : Activation) (vs : Variable → Value) (block : RealBlock) → AreRenamed p.r w.variables vs
        → Same (at_tree p.t p.methods p.meant p.budget next b k key x arguments alive w f block)
        (at_tree p.u p.others p.meant p.budget nexts (renamed_block p.r b) k (rename_key key) (rename x) (rename_all arguments) (acts alive) (other w vs) (act f) block)
    tree_alike b k key x arguments alive w f vs block h =
        let own_block : Activation = world.block b.object k in
        let here : Here = record { key = key; receiver = x; alive = own_block ∷ alive } in
        world_alike p.r (renamed p.r) (λ w1. awaited f None (next block.body here w1 own_block)) (λ w1. awaited (act f) None (nexts block.body (renamed_here p.r here) w1 own_block))
        (with_parameters w own_block block.first arguments) (with_parameters (other w vs) own_block block.first (rename_all arguments)) (with_parameters_alike p.r w vs own_block block.first arguments h)
        (λ w1 vs1 h1. awaited_alike p.r f None (next block.body here w1 own_block) (nexts block.body (renamed_here p.r here) (other w1 vs1) own_block) (on block.body here w1 own_block vs1 h1))

    fits_alike : (b : Block) (k : ℕ) (key : Key) (x : Value) (arguments : List Value) (alive : List Activation) (w : World) (f : Activation) (vs : Variable → Value) (block : RealBlock) → AreRenamed p.r w.variables vs
        → Same (if_fits p.t p.methods p.meant p.budget next b k key x arguments alive w f block)
        (if_fits p.u p.others p.meant p.budget nexts (renamed_block p.r b) k (rename_key key) (rename x) (rename_all arguments) (acts alive) (other w vs) (act f) block)
    fits_alike b k key x arguments alive w f vs block h =
        let o : Out Value = at_tree p.t p.methods p.meant p.budget next b k key x arguments alive w f block in
        let q : Out Value = at_tree p.u p.others p.meant p.budget nexts (renamed_block p.r b) k (rename_key key) (rename x) (rename_all arguments) (acts alive) (other w vs) (act f) block in
        subst (λ n. Same (if block.parameters == length arguments then o else Unfinished) (if block.parameters == n then q else Unfinished)) (sym (length-map arguments (renamed p.r)))
        (if_alike p.r (renamed p.r) (block.parameters == length arguments) o Unfinished q Unfinished (tree_alike b k key x arguments alive w f vs block h) unfinished)

    key_alike : (b : Block) (k : ℕ) (x : Value) (arguments : List Value) (alive : List Activation) (w : World) (f : Activation) (vs : Variable → Value) (key : Key) → AreRenamed p.r w.variables vs
        → Same (of_key p.t p.methods p.meant p.budget next b k x arguments alive w f key)
        (of_key p.u p.others p.meant p.budget nexts (renamed_block p.r b) k (rename x) (rename_all arguments) (acts alive) (other w vs) (act f) (rename_key key))
    key_alike b k x arguments alive w f vs key h =
        let at : Meant → Option RealBlock = λ m. slice_get m.blocks b.start in
        same_part_alike p.r (renamed p.r) (if_fits p.t p.methods p.meant p.budget next b k key x arguments alive w f)
        (if_fits p.u p.others p.meant p.budget nexts (renamed_block p.r b) k (rename_key key) (rename x) (rename_all arguments) (acts alive) (other w vs) (act f))
        (option_and_then at (meant_for p.methods p.meant key)) (option_and_then at (meant_for p.others p.meant (rename_key key))) (ap (option_and_then at) (meant_for_same key))
        (λ block. fits_alike b k key x arguments alive w f vs block h)

    at_home_alike : (b : Block) (arguments : List Value) (alive : List Activation) (w : World) (f : Activation) (vs : Variable → Value) (v : Value) → AreRenamed p.r w.variables vs
        → Same (at_home p.t p.methods p.meant p.budget next b arguments alive w f v)
        (at_home p.u p.others p.meant p.budget nexts (renamed_block p.r b) (rename_all arguments) (acts alive) (other w vs) (act f) (rename v))
    at_home_alike b arguments alive w f vs (Object k) h =
        part_alike p.r (renamed_parts p.r) (renamed p.r) (λ parts. with_part (slice_get w.keys parts.0) (of_key p.t p.methods p.meant p.budget next b k parts.1 arguments alive w f))
        (λ parts. with_part (slice_get (map (renamed_key p.r) w.keys) parts.0) (of_key p.u p.others p.meant p.budget nexts (renamed_block p.r b) k parts.1 (rename_all arguments) (acts alive) (other w vs) (act f)))
        (option_and_then home_parts_of (body_at w.objects (Object k))) (option_and_then home_parts_of (body_at (renamed_objects p.r w.objects) (Object k))) (home_parts_at_renamed p.r w.objects (Object k))
        (λ parts. part_alike p.r (renamed_key p.r) (renamed p.r) (of_key p.t p.methods p.meant p.budget next b k parts.1 arguments alive w f)
        (of_key p.u p.others p.meant p.budget nexts (renamed_block p.r b) k (rename parts.1) (rename_all arguments) (acts alive) (other w vs) (act f))
        (slice_get w.keys parts.0) (slice_get (map (renamed_key p.r) w.keys) parts.0) (get_map (renamed_key p.r) w.keys parts.0)
        (λ key. key_alike b k parts.1 arguments alive w f vs key h))
    at_home_alike b arguments alive w f vs _ h = unfinished

    pub block_activated_alike : (b : Block) (arguments : List Value) (alive : List Activation) (w : World) (f : Activation) (vs : Variable → Value) → AreRenamed p.r w.variables vs
        → Same (block_activated p.t p.methods p.meant p.budget next b arguments alive w f)
        (block_activated p.u p.others p.meant p.budget nexts (renamed_block p.r b) (rename_all arguments) (acts alive) (other w vs) (act f))
    block_activated_alike b arguments alive w f vs h =
        let o : World → Out Value = λ w1. deeper alive w1 (at_home p.t p.methods p.meant p.budget next b arguments alive w1 f b.home) in
        let q : World → Out Value = λ w1. deeper (acts alive) w1 (at_home p.u p.others p.meant p.budget nexts (renamed_block p.r b) (rename_all arguments) (acts alive) w1 (act f) (rename b.home)) in
        let w2 : World = one_tick w in
        ticked_alike p.r (renamed p.r) p.budget w vs (λ w1. if is_active b.object alive then Stopped BlockActive w1 else o w1)
        (λ w1. if is_active b.object (acts alive) then Stopped BlockActive w1 else q w1) h
        (subst (λ test. Same (if is_active b.object alive then Stopped BlockActive w2 else o w2) (if test then Stopped BlockActive (other w2 vs) else q (other w2 vs))) (sym (active_same p.r b.object alive))
        (if_alike p.r (renamed p.r) (is_active b.object alive) (Stopped BlockActive w2) (o w2) (Stopped BlockActive (other w2 vs)) (q (other w2 vs)) (stopped BlockActive w2 vs h)
        (deeper_alike p.r (renamed p.r) alive w2 vs (at_home p.t p.methods p.meant p.budget next b arguments alive w2 f b.home)
        (at_home p.u p.others p.meant p.budget nexts (renamed_block p.r b) (rename_all arguments) (acts alive) (other w2 vs) (act f) (rename b.home)) h (at_home_alike b arguments alive w2 f vs b.home h))))
