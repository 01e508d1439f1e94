-- Trees under other numbers of the classes.
use Rattle.std.proofs.Common.{ℕ, zero, suc, Bool, true, false, sym, subst, List, [], ◌∷◌, length, map, Option, Some, None, option_and_then, slice_get}
use Rattle.s80_object.specs.Body.{BodyTree}
use Rattle.s80_object.specs.Body as body
use Rattle.s80_object.specs.Objects.{with_body}
use Rattle.s80_object.specs.declared.value.Value.{Value}
use Rattle.s80_object.specs.declared.value.Value.TheVariants as value
use Rattle.s80_object.specs.declared.value.Value.TheVariants.{Nil, Object}
use Rattle.s80_machine.specs.World.{World, Variable, Activation, home_in, one_tick, with_objects}
use Rattle.s80_machine.specs.Shared.{fixed}
use Rattle.s80_meaning.specs.Meaning.{Out, Gives, Here, Evaluator, block_made, ev, ev_all, ev_sends, evaluated, meant_for, otherwise, returned, with_room}
use Rattle.s80_meaning.specs.Tree.{Meant, RealBlock, Tree, Trees, Sends, leaf, assign, value as valued, send, cascade, real, two_arms, one_arm, shortcut, repeat, nothing, before, answer, answer_fixed, leave, no_trees, trees, no_sends, sends}
use Rattle.s80_meaning.proofs.NaturalObjects.{get_map}
use Rattle.s80_meaning.proofs.RenamedObjects.{length_renamed, renamed}
use Rattle.s80_meaning.proofs.RenamedWorld.{AreRenamed, home_in_same, renamed_activation, renamed_world, written_alike}
use Rattle.s80_meaning.proofs.RenamedOut.{Alike, gives, answers, unfinished, chosen_alike, pair_alike, part_alike, returned_alike, room_alike, then_alike, ticked_alike}
use Rattle.s80_meaning.proofs.RenamedActivations.{Houses, Same, TreeAlike, leaf_alike, meant_for_same, renamed_here}
use Rattle.s80_meaning.proofs.RenamedMessages.{sent_to_alike}

module _ (p : Houses) where
  abbrev rename : Value → Value
  rename = renamed p.r

  abbrev rename_all : List Value → List Value
  rename_all = map (renamed p.r)

  abbrev other : World → (Variable → Value) → World
  other w vs = renamed_world p.r w vs

  abbrev act : Activation → Activation
  act f = renamed_activation p.r f

  abbrev there : Here → Here
  there here = renamed_here p.r here

  abbrev AllSame : Out (List Value) → Out (List Value) → Type 0
  AllSame o q = Alike p.r (map (renamed p.r)) o q

  module _ (next nexts : Evaluator) (on : (tree : Tree) → TreeAlike p.r next nexts tree) where
    abbrev run : Tree → Here → World → Activation → Out Value
    run = ev p.t p.methods p.meant p.budget next

    abbrev runs : Tree → Here → World → Activation → Out Value
    runs = ev p.u p.others p.meant p.budget nexts

    -- ---- blocks as values

    -- an object of a home, with the number that it has
    abbrev object_of : ℕ → BodyTree → World → Activation → Out Value
    object_of k b w f = with_room w b (λ w1. Gives (Object k) w1 f)

    made_alike : (n : ℕ) (o : Option RealBlock) (k : Option ℕ) (w : World) (f : Activation) (vs : Variable → Value) → AreRenamed p.r w.variables vs
        → Same p (block_made p.t p.methods p.meant p.budget next n o k w f) (block_made p.u p.others p.meant p.budget nexts n o k (other w vs) (act f))
    made_alike n (Some block) (Some k) w f vs h =
        let b : BodyTree = body.block (Object k) n block.parameters in
        let m : ℕ = length w.objects.bodies in
        subst (λ i. Same p (object_of m b w f) (object_of i b (other w vs) (act f))) (sym (length_renamed p.r w.objects.bodies))
        (room_alike p.r (renamed p.r) w vs b (λ w1. Gives (Object m) w1 f) (λ w1. Gives (Object m) w1 (act f)) h (gives (Object m) (with_objects w (with_body w.objects b)) f vs h))
    made_alike n (Some block) None w f vs h = unfinished
    made_alike n None k w f vs h = unfinished

    real_alike : (n : ℕ) (here : Here) (w : World) (f : Activation) (vs : Variable → Value) → AreRenamed p.r w.variables vs → Same p (run (real n) here w f) (runs (real n) (there here) (other w vs) (act f))
    real_alike n here w f vs h =
        let at : Option Meant → Option RealBlock = λ o. option_and_then (λ m. slice_get m.blocks n) o in
        let o : Out Value = run (real n) here w f in
        subst (λ k. Same p o (block_made p.u p.others p.meant p.budget nexts n (at k) (home_in (act f)) (other w vs) (act f))) (sym (meant_for_same p here.key))
        (subst (λ k. Same p o (block_made p.u p.others p.meant p.budget nexts n (at (meant_for p.methods p.meant here.key)) k (other w vs) (act f))) (sym (home_in_same p.r f))
        (made_alike n (at (meant_for p.methods p.meant here.key)) (home_in f) w f vs h))

    otherwise_alike : (to : Bool) (w : World) (f : Activation) (vs : Variable → Value) → AreRenamed p.r w.variables vs → Same p (Gives (otherwise to) w f) (Gives (otherwise to) (other w vs) (act f))
    otherwise_alike true w f vs h = gives value.False w f vs h
    otherwise_alike false w f vs h = gives value.True w f vs h

    mutual
      pub tree_alike : (tree : Tree) (here : Here) (w : World) (f : Activation) (vs : Variable → Value) → AreRenamed p.r w.variables vs → Same p (run tree here w f) (runs tree (there here) (other w vs) (act f))
      tree_alike (leaf l) here w f vs h = leaf_alike p here w f vs l h
      tree_alike (assign v e) here w f vs h =
          then_alike p.r (renamed p.r) (renamed p.r) _ _ _ _
          (λ x w1 f1 vs1 h1. pair_alike p.r (renamed p.r) (λ q. Gives x q.0 q.1) (λ q. Gives (rename x) q.0 q.1) _ _ (written_alike p.r p.is.injective w1 vs1 f1 here.receiver v x h1) (λ w2 f2 vs2 h2. gives x w2 f2 vs2 h2))
          (tree_alike e here w f vs h)
      tree_alike (valued e) here w f vs h = tree_alike e here w f vs h
      tree_alike (send e to_super s es) here w f vs h =
          then_alike p.r (renamed p.r) (renamed p.r) _ _ _ _
          (λ x w1 f1 vs1 h1. then_alike p.r (map (renamed p.r)) (renamed p.r) _ _ _ _ (λ xs w2 f2 vs2 h2. sent_to_alike p next nexts on to_super s x xs here w2 f2 vs2 h2) (all_alike es here w1 f1 vs1 h1))
          (tree_alike e here w f vs h)
      tree_alike (cascade e to_super ms) here w f vs h =
          then_alike p.r (renamed p.r) (renamed p.r) _ _ _ _ (λ x w1 f1 vs1 h1. sends_alike ms to_super x here w1 f1 vs1 h1) (tree_alike e here w f vs h)
      tree_alike (real n) here w f vs h = real_alike n here w f vs h
      tree_alike (two_arms to c a b) here w f vs h =
          then_alike p.r (renamed p.r) (renamed p.r) _ _ _ _
          (λ v w1 f1 vs1 h1. chosen_alike p.r to v _ _ _ _ w1 vs1 h1 (tree_alike a here w1 f1 vs1 h1) (tree_alike b here w1 f1 vs1 h1)) (tree_alike c here w f vs h)
      tree_alike (one_arm to c a) here w f vs h =
          then_alike p.r (renamed p.r) (renamed p.r) _ _ _ _
          (λ v w1 f1 vs1 h1. chosen_alike p.r to v _ _ _ _ w1 vs1 h1 (tree_alike a here w1 f1 vs1 h1) (gives Nil w1 f1 vs1 h1)) (tree_alike c here w f vs h)
      tree_alike (shortcut to c a) here w f vs h =
          then_alike p.r (renamed p.r) (renamed p.r) _ _ _ _
          (λ v w1 f1 vs1 h1. chosen_alike p.r to v _ _ _ _ w1 vs1 h1 (tree_alike a here w1 f1 vs1 h1) (otherwise_alike to w1 f1 vs1 h1)) (tree_alike c here w f vs h)
      tree_alike (repeat to c e) here w f vs h =
          then_alike p.r (renamed p.r) (renamed p.r) _ _ _ _
          (λ v w1 f1 vs1 h1. chosen_alike p.r to v _ _ _ _ w1 vs1 h1
          (then_alike p.r (renamed p.r) (renamed p.r) _ _ _ _
          (λ x w2 f2 vs2 h2. ticked_alike p.r (renamed p.r) p.budget w2 vs2 (λ w3. next (repeat to c e) here w3 f2) (λ w3. nexts (repeat to c e) (there here) w3 (act f2)) h2
          (on (repeat to c e) here (one_tick w2) f2 vs2 h2)) (tree_alike e here w1 f1 vs1 h1))
          (gives Nil w1 f1 vs1 h1))
          (tree_alike c here w f vs h)
      tree_alike nothing here w f vs h = gives Nil w f vs h
      tree_alike (before a b) here w f vs h = then_alike p.r (renamed p.r) (renamed p.r) _ _ _ _ (λ x w1 f1 vs1 h1. tree_alike b here w1 f1 vs1 h1) (tree_alike a here w f vs h)
      tree_alike (answer e) here w f vs h =
          then_alike p.r (renamed p.r) (renamed p.r) _ _ _ _ (λ v w1 f1 vs1 h1. returned_alike p.r f1 here.alive v w1 vs1 h1) (tree_alike e here w f vs h)
      tree_alike (answer_fixed n) here w f vs h =
          part_alike p.r (renamed p.r) (renamed p.r) (λ v. returned f here.alive v w) (λ v. returned (act f) (map (renamed_activation p.r) here.alive) v (other w vs))
          (slice_get (fixed here.receiver) n) (slice_get (fixed (rename here.receiver)) n) (get_map (renamed p.r) (fixed here.receiver) n) (λ v. returned_alike p.r f here.alive v w vs h)
      tree_alike (leave e) here w f vs h = then_alike p.r (renamed p.r) (renamed p.r) _ _ _ _ (λ v w1 f1 vs1 h1. answers v w1 vs1 h1) (tree_alike e here w f vs h)

      all_alike : (es : Trees) (here : Here) (w : World) (f : Activation) (vs : Variable → Value) → AreRenamed p.r w.variables vs
          → AllSame (ev_all p.t p.methods p.meant p.budget next es here w f) (ev_all p.u p.others p.meant p.budget nexts es (there here) (other w vs) (act f))
      all_alike no_trees here w f vs h = gives [] w f vs h
      all_alike (trees e es) here w f vs h =
          then_alike p.r (renamed p.r) (map (renamed p.r)) _ _ _ _
          (λ x w1 f1 vs1 h1. then_alike p.r (map (renamed p.r)) (map (renamed p.r)) _ _ _ _ (λ xs w2 f2 vs2 h2. gives (x ∷ xs) w2 f2 vs2 h2) (all_alike es here w1 f1 vs1 h1))
          (tree_alike e here w f vs h)

      sends_alike : (ms : Sends) (to_super : Bool) (x : Value) (here : Here) (w : World) (f : Activation) (vs : Variable → Value) → AreRenamed p.r w.variables vs
          → Same p (ev_sends p.t p.methods p.meant p.budget next ms to_super x here w f) (ev_sends p.u p.others p.meant p.budget nexts ms to_super (rename x) (there here) (other w vs) (act f))
      sends_alike no_sends to_super x here w f vs h = gives x w f vs h
      sends_alike (sends s es no_sends) to_super x here w f vs h =
          then_alike p.r (map (renamed p.r)) (renamed p.r) _ _ _ _ (λ xs w1 f1 vs1 h1. sent_to_alike p next nexts on to_super s x xs here w1 f1 vs1 h1) (all_alike es here w f vs h)
      sends_alike (sends s es ms) to_super x here w f vs h =
          then_alike p.r (map (renamed p.r)) (renamed p.r) _ _ _ _
          (λ xs w1 f1 vs1 h1. then_alike p.r (renamed p.r) (renamed p.r) _ _ _ _ (λ y w2 f2 vs2 h2. sends_alike ms to_super x here w2 f2 vs2 h2) (sent_to_alike p next nexts on to_super s x xs here w1 f1 vs1 h1))
          (all_alike es here w f vs h)

  -- ---- deeper and deeper

  pub evaluated_alike : (n : ℕ) (tree : Tree) → TreeAlike p.r (evaluated p.t p.methods p.meant p.budget n) (evaluated p.u p.others p.meant p.budget n) tree
  evaluated_alike zero tree here w f vs h = unfinished
  evaluated_alike (suc n) tree here w f vs h =
      tree_alike (evaluated p.t p.methods p.meant p.budget n) (evaluated p.u p.others p.meant p.budget n) (evaluated_alike n) tree here w f vs h
