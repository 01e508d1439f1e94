-- The machine follows real blocks: where they are made, and where they are activated.
use Rattle.std.proofs.Common.{option_map, ◌≡◌, ◌∙◌, ap, sym, subst, refl, ℕ, suc, ◌+◌, pos, List, [], ◌∷◌, length, map, slice_get, Bool, true, false, inl, inr, ◌||◌, ◌==◌, ◌≤◌, nat_lt, arith, Option, Some, None, option_and_then, if◌then◌else◌}
use Rattle.std.proofs.lemmas.Bool.Decides.{nat_tests}
use Rattle.s80_code.specs.declared.code.Code.{Code}
use Rattle.s80_code.specs.declared.instruction.Instruction.TheVariants as instruction
use Rattle.s80_core.specs.Core as core
use Rattle.s80_code.specs.declared.instruction.Storage.TheVariants.{Temporary}
use Rattle.s80_code.specs.Entries.{entries_of}
use Rattle.s80_object.specs.Body.{cost, words_of, word_limit}
use Rattle.s80_object.specs.Body as body
use Rattle.s80_object.specs.Objects.{body_at, home_parts_of, with_body}
use Rattle.s80_object.specs.declared.value.Value.{Value}
use Rattle.s80_class.specs.Lookup.{number}
use Rattle.s80_meaning.specs.Image.{image, placed}
use Rattle.s80_code.proofs.lemmas.TableLemmas.{value}
use Rattle.std.specs.Option.{option_map_or}
use Rattle.std.specs.Prelude.{nat_le}
use Rattle.s80_meaning.proofs.NaturalObjects.{home_parts_image, length_image}
use Rattle.s80_meaning.proofs.Extends.{field_extends}
use Rattle.s80_object.specs.declared.value.Value.TheVariants as val
use Rattle.s80_prims.specs.declared.stop.Stop.TheVariants.{BlockActive, Budget, Deep, ObjectsFull}
use Rattle.s80_scope.specs.declared.fit.position.Position.{Position}
use Rattle.s80_scope.specs.declared.fit.position.Position.TheVariants.{Effect}
use Rattle.s80_compile.specs.Rows.{Takes}
use Rattle.s80_machine.specs.World.{World, Key, home_in, field_set, in_activation, is_activation_of_block, with_temporary, Activation, own, home, block, one_tick, with_objects}
use Rattle.s80_machine.specs.Turn.{Context, State, pushed_all, Goes, Stuck, given, goes_on, stops}
use Rattle.s80_machine.specs.Shared.{Block, depth_limit}
use Rattle.s80_machine.specs.Step.{block_made as machine_block, at_home, block_activated, block_started, with_room, code_for}
use Rattle.s80_meaning.specs.Tree.{Meant, RealBlock}
use Rattle.s80_meaning.specs.Meaning.{Gives, Stopped, Unfinished, awaited, with_room as in_room, with_parameters, with_part, Evaluator}
use Rattle.s80_meaning.specs.Meaning as meaning
use Rattle.s80_meaning.specs.Places as places
use Rattle.std.proofs.lemmas.List.{length-map}
use Rattle.std.specs.List.{list_any}
use Rattle.s80_meaning.proofs.Variables.{Alike, alike_then, mark, same_alike, written_shown}
use Rattle.s80_code.specs.Special.{block_copy}
use Rattle.s80_meaning.proofs.NaturalWorld.{image_pair, with_temporary_image}
use Rattle.s80_meaning.proofs.Stays as stays
use Rattle.s80_meaning.proofs.Stays.{place_in}
use Rattle.s80_meaning.proofs.BlockMade.{IsBehind, block_alike, block_placed}
use Rattle.s80_meaning.proofs.Headers.{over_start}
use Rattle.s80_meaning.proofs.Corresponds.{Active, Deeper, Follows, Known, Leads, Setting, above, chain, context, facts, here_of, kept, mark_of, meant_for, push, shown, st}
use Rattle.s80_meaning.proofs.Following.{after_leads, by_test, by_tick, does, finish, known_later, moved, tick_alike}
use Rattle.s80_meaning.proofs.ReturnsFollow.{ends_so, home_mark}
use Rattle.s80_meaning.proofs.JumpsFollow.{passes_over}
use Rattle.s80_meaning.proofs.LiteralsFollow.{count_pushed}
use Rattle.s80_meaning.proofs.WorldsShown.{made_shown}
use Rattle.s80_meaning.proofs.ActivationsFollow.{alive_so, callee, room_so}

equal_test : (n : ℕ) → (n == n) ≡ true
equal_test n = grind (arith, nat_tests)

no_room : (n size limit : ℕ) → nat_le n limit ≡ false → nat_le (n + size) limit ≡ false
no_room n size limit e = grind (arith, nat_tests, e)

activation_kept : (w : World) (b h i : ℕ) (x : Value) (z : World × Activation) → with_temporary w (block b h) i x ≡ Some z → z.1 ≡ block b h
activation_kept w b h i x z e = by_set (field_set w h i x) e
  where
    by_set : (o : Option World) → option_map (in_activation (block b h)) o ≡ Some z → z.1 ≡ block b h
    by_set None e = cc
    by_set (Some w1) e = ap (λ (z : World × Activation). z.1) (sym (value e))

active_seen : (n : ℕ) (cs : List Context) → list_any (λ c. is_activation_of_block n c.activation) cs ≡ list_any (is_activation_of_block n) (map mark_of cs)
active_seen n [] = refl
active_seen n (c ∷ cs) = (λ i. one c.activation i || active_seen n cs i)
  where
    one : (f : Activation) → is_activation_of_block n f ≡ is_activation_of_block n (mark f)
    one (own ts) = refl
    one (home h) = refl
    one (block b h) = refl

module _ {on : Setting} where
  open on use {table as t, methods, meant, codes, code, budget, starts}

  -- ---- made

  pub real_so : (next : Evaluator) (a : Active on) (n : ℕ) (position : Position) (p q : ℕ) → places.MakesReal a.of.bytes (entries_of a.of.literals) a.means.blocks (starts a.key) n position p q → (f : Activation) (stack : List Value) (w : World) → Known a w f
      → Follows a w (st a f p stack w) q (λ v. push position v stack) (meaning.block_made t methods meant budget next n (option_and_then (λ m. slice_get m.blocks n) (meant_for on a.key)) (home_in f) w f)
  real_so next a n position p q r f stack w known =
      subst (λ o. Follows a w s q (λ v. push position v stack) (meaning.block_made t methods meant budget next n (option_and_then (λ m. slice_get m.blocks n) o) (home_in f) w f)) (sym a.means_is)
      (subst (λ o. Follows a w s q (λ v. push position v stack) (meaning.block_made t methods meant budget next n o (home_in f) w f)) (sym r.is_block) (by_home (home_in f) refl))
    where
      s : State
      s = st a f p stack w

      count_of : ℕ
      count_of = r.block.parameters

      there : List Value
      there = val.Small (pos r.block.parameters) ∷ val.Context ∷ stack

      go : (h : ℕ) → home_in f ≡ Some h → Leads on s (Goes (st a f r.copy there w))
          → Follows a w s q (λ v. push position v stack) (in_room w (body.block (val.Object h) n r.block.parameters) (λ w1. Gives (val.Object (length w.objects.bodies)) w1 f))
      go h e l =
          let keyed : stays.key_of w (val.Object h) ≡ Some a.key = known.home h (ap home_in (sym known.seen) ∙ home_mark f ∙ e) in
          let kept_so : kept on a.key n ≡ Some r.block.parameters =
          ap (λ o. option_map (λ (tree : RealBlock). tree.parameters) (option_and_then (λ (m : Meant). slice_get m.blocks n) o)) a.means_is ∙ ap (option_map (λ (tree : RealBlock). tree.parameters)) r.is_block in
          let c = context a f r.copy there in
          let begins = over_start a.of.bytes r.after r.jump r.start r.over in
          let place : place_in starts w (val.Object h) n ≡ r.jump + 2 = ap (λ o. option_map_or (λ (key : Key). starts key n) o n) keyed ∙ r.starts_at ∙ begins.0 in
          let b = body.block (val.Object h) n r.block.parameters in
          let w1 = with_objects w (with_body w.objects b) in
          let on_it = chain l (does a f r.copy there w (instruction.SendSpecial block_copy) r.jump known r.copies) in
          let makes : Leads on s (with_room (shown on w) (body.block (val.Object h) (r.jump + 2) r.block.parameters) (goes_on c r.jump (val.Object (length (shown on w).objects.bodies) ∷ stack) a.below)) =
          subst (λ o. Leads on s (given o (machine_block t codes code budget c r.jump a.below (shown on w) r.block.parameters stack))) e on_it in
          room_so a w w s q (λ v. push position v stack) b (goes_on c r.jump (val.Object (length (shown on w).objects.bodies) ∷ stack) a.below) (λ w1. Gives (val.Object (length w.objects.bodies)) w1 f)
          (subst (λ m. Leads on s (with_room (shown on w) (body.block (val.Object h) m r.block.parameters) (goes_on c r.jump (val.Object (length (shown on w).objects.bodies) ∷ stack) a.below))) (sym place) makes)
          (λ l.
          let more : Alike (facts on) w w1 = block_alike w h n r.block.parameters (facts on) a.key known.fine keyed kept_so in
          let known1 = known_later a w w1 f f known more known.seen in
          let v = val.Object (length w.objects.bodies) in
          let made : Leads on s (Goes (st a f r.jump (v ∷ stack) w1)) =
          subst (λ x. Leads on s (Goes (record { contexts = context a f r.jump (v ∷ stack) ∷ a.below; world = x }))) (made_shown on w b more.later (block_placed w h n r.block.parameters (facts on) a.key known.fine.placed keyed kept_so))
          (subst (λ m. Leads on s (Goes (record { contexts = context a f r.jump (val.Object m ∷ stack) ∷ a.below; world = with_objects w (with_body (image (place_in starts w) w.objects) (placed (place_in starts w) b)) }))) (length_image (place_in starts w) w.objects.bodies) l) in
          (more, known.seen, chain made (chain (passes_over a r.after r.jump r.start f (v ∷ stack) w1 known1 r.over) (finish a f position r.after q v stack w1 known1 r.ending))))

      by_room : (h : ℕ) → home_in f ≡ Some h → (x : Bool) → nat_le (words_of w.objects.bodies) word_limit ≡ x → Leads on s (if x then Goes (st a f r.copy there w) else stops (ObjectsFull (words_of w.objects.bodies)) (shown on w))
          → Follows a w s q (λ v. push position v stack) (in_room w (body.block (val.Object h) n r.block.parameters) (λ w1. Gives (val.Object (length w.objects.bodies)) w1 f))
      by_room h e true room l = go h e l
      by_room h e false room l =
          let b = body.block (val.Object h) n r.block.parameters in
          subst (λ x. Follows a w s q (λ v. push position v stack) (if x then Gives (val.Object (length w.objects.bodies)) (with_objects w (with_body w.objects b)) f else Stopped (ObjectsFull (words_of w.objects.bodies)) w))
          (sym (no_room (words_of w.objects.bodies) (cost b) word_limit room)) l

      context_pushed : Leads on s (Goes (st a f r.push (val.Context ∷ stack) w))
      context_pushed = does a f p stack w instruction.PushContext r.push known r.context

      by_home : (o : Option ℕ) → home_in f ≡ o → Follows a w s q (λ v. push position v stack) (meaning.block_made t methods meant budget next n (Some r.block) o w f)
      by_home None e =
          let housed = a.housed n r.block r.is_block in
          let wrong : None ≡ Some housed.0 = sym e ∙ sym (home_mark f) ∙ ap home_in known.seen ∙ housed.1 in
          cc
      by_home (Some h) e =
          elim (count_pushed a f r.push r.copy (val.Context ∷ stack) w r.block.parameters r.parameters.instruction known r.parameters.is r.parameters.stands) [
            | inl l ↦ go h e (chain context_pushed l)
            | inr l ↦ by_room h e (nat_le (words_of w.objects.bodies) word_limit) refl (chain context_pushed l)
          ]

  -- ---- activated

  -- a block's arguments become temporaries of its home
  takes_so : (a : Active on) (b h first : ℕ) (xs : List Value) (p q : ℕ) (stack : List Value) (w w1 : World) → Known a w (block b h) → Takes a.of.bytes first (length xs) p q → with_parameters w (block b h) first xs ≡ Some w1
      → Alike (facts on) w w1 × Leads on (st a (block b h) p (pushed_all xs stack) w) (Goes (st a (block b h) q stack w1))
  takes_so a b h first [] p q stack w w1 known r e =
      let same : w ≡ w1 = value e in
      (subst (Alike (facts on) w) same (same_alike (facts on) w known.fine), subst (λ w1. Leads on (st a (block b h) p stack w) (Goes (st a (block b h) q stack w1))) same (moved a (block b h) p q stack w r))
  takes_so a b h first (v ∷ vs) p q stack w w1 known r e = by_rest (with_parameters w (block b h) (suc first) vs) (λ z is. takes_so a b h (suc first) vs p r.mid (v ∷ stack) w z known r.first is) refl e
    where
      pop : (z w2 : World) → Known a z (block b h) → with_temporary z (block b h) first v ≡ Some (w2, block b h) → Alike (facts on) z w2 × Leads on (st a (block b h) r.mid (v ∷ stack) z) (Goes (st a (block b h) q stack w2))
      pop z w2 known e =
          let both = written_shown starts (facts on) field_extends z (block b h) a.receiver (core.temporary first) v (w2, block b h) known.fine e in (
            both.1,
            subst (λ o. Leads on (st a (block b h) r.mid (v ∷ stack) z) (given o (λ y. goes_on (context a y.1 r.mid stack) q stack a.below y.0))) both.0
                (does a (block b h) r.mid (v ∷ stack) z (instruction.PopInto (Temporary first)) q known r.second),
          )

      by_one : (z : World) → Known a z (block b h) → (o : Option (World × Activation)) → with_temporary z (block b h) first v ≡ o → option_map (λ (y : World × Activation). y.0) o ≡ Some w1
          → Alike (facts on) z w1 × Leads on (st a (block b h) r.mid (v ∷ stack) z) (Goes (st a (block b h) q stack w1))
      by_one z known None is e = cc
      by_one z known (Some y) is e =
          let activation : y.1 ≡ block b h = activation_kept z b h first v y is in
          let world : y.0 ≡ w1 = value e in
          pop z w1 known (is ∙ (λ i. Some (world i, activation i)))

      by_rest : (o : Option World) → ((z : World) → with_parameters w (block b h) (suc first) vs ≡ Some z → Alike (facts on) w z × Leads on (st a (block b h) p (pushed_all vs (v ∷ stack)) w) (Goes (st a (block b h) r.mid (v ∷ stack) z)))
          → with_parameters w (block b h) (suc first) vs ≡ o → option_and_then (λ z. option_map (λ (y : World × Activation). y.0) (with_temporary z (block b h) first v)) o ≡ Some w1
          → Alike (facts on) w w1 × Leads on (st a (block b h) p (pushed_all vs (v ∷ stack)) w) (Goes (st a (block b h) q stack w1))
      by_rest None earlier is e = cc
      by_rest (Some z) earlier is e =
          let rest = earlier z is in
          let last = by_one z (known_later a w z (block b h) (block b h) known rest.0 known.seen) (with_temporary z (block b h) first v) refl e in
          (alike_then (facts on) w z w1 rest.0 last.0, chain rest.1 last.1)

  -- where a temporary isn't there, the machine is stuck
  takes_stuck : (a : Active on) (b h first : ℕ) (xs : List Value) (p q : ℕ) (stack : List Value) (w : World) → Known a w (block b h) → Takes a.of.bytes first (length xs) p q → with_parameters w (block b h) first xs ≡ None
      → Leads on (st a (block b h) p (pushed_all xs stack) w) Stuck
  takes_stuck a b h first [] p q stack w known r e = cc
  takes_stuck a b h first (v ∷ vs) p q stack w known r e =
      by_rest (with_parameters w (block b h) (suc first) vs) (λ is. takes_stuck a b h (suc first) vs p r.mid (v ∷ stack) w known r.first is) (λ z is. takes_so a b h (suc first) vs p r.mid (v ∷ stack) w z known r.first is) refl e
    where
      pop : (z : World) → Known a z (block b h) → (o : Option (World × Activation)) → with_temporary z (block b h) first v ≡ o → option_map (λ (y : World × Activation). y.0) o ≡ None → Leads on (st a (block b h) r.mid (v ∷ stack) z) Stuck
      pop z known None is e =
          subst (λ o. Leads on (st a (block b h) r.mid (v ∷ stack) z) (given o (λ y. goes_on (context a y.1 r.mid stack) q stack a.below y.0))) (with_temporary_image (place_in starts z) z (block b h) first v ∙ ap (option_map (image_pair (place_in starts z))) is)
          (does a (block b h) r.mid (v ∷ stack) z (instruction.PopInto (Temporary first)) q known r.second)
      pop z known (Some y) is e = cc

      by_rest : (o : Option World) → (with_parameters w (block b h) (suc first) vs ≡ None → Leads on (st a (block b h) p (pushed_all vs (v ∷ stack)) w) Stuck)
          → ((z : World) → with_parameters w (block b h) (suc first) vs ≡ Some z → Alike (facts on) w z × Leads on (st a (block b h) p (pushed_all vs (v ∷ stack)) w) (Goes (st a (block b h) r.mid (v ∷ stack) z)))
          → with_parameters w (block b h) (suc first) vs ≡ o → option_and_then (λ w1. option_map (λ (y : World × Activation). y.0) (with_temporary w1 (block b h) first v)) o ≡ None → Leads on (st a (block b h) p (pushed_all vs (v ∷ stack)) w) Stuck
      by_rest None stuck so is e = stuck is
      by_rest (Some z) stuck so is e = let both = so z is in chain both.1 (pop z (known_later a w z (block b h) (block b h) known both.0 known.seen) (with_temporary z (block b h) first v) refl e)

  module _ (deeper : Deeper on) (a : Active on) (enough : deeper.k ≤ a.from) (f : Activation) (p : ℕ) (stack : List Value) where
    open deeper use {ready, next, k, sim, quiet}

    -- a block whose tree is there, and its arguments on its stack
    tree_so : (b : Block) (h : ℕ) (key : Key) (m : Meant) (means_is : meant_for on key ≡ Some m) (tree : RealBlock) → slice_get m.blocks b.start ≡ Some tree → (number : ℕ) (r : Value) (xs : List Value) (w0 w : World) (s : State)
        → Known a w0 f → Alike (facts on) w0 w → suc k ≤ w.ticks → slice_get w.keys number ≡ Some key → stays.key_of w (val.Object h) ≡ Some key → tree.parameters ≡ length xs
        → Leads on s (Goes (record { contexts = record { method = number; receiver = r; activation = block b.object h; place = starts key b.start; stack = pushed_all xs [] } ∷ above a f p stack; world = shown on w }))
        → Follows a w0 s p (λ v. v ∷ stack) (meaning.at_tree t methods meant budget next b h key r xs (here_of a).alive w f tree)
    tree_so b h key m means_is tree is number r xs w0 w s known alike late there keyed long l =
        by_parameters (with_parameters w (block b.object h) tree.first xs) refl
      where
        code_there : (of : Code) × (code_for codes code key ≡ Some of)
        code_there = ready.there key m means_is

        by_parameters : (o : Option World) → with_parameters w (block b.object h) tree.first xs ≡ o
            → Follows a w0 s p (λ v. v ∷ stack) (with_part o (λ w1. awaited f None (next tree.body (record { key = key; receiver = r; alive = block b.object h ∷ (here_of a).alive }) w1 (block b.object h))))
        by_parameters None e =
            let c = callee deeper a enough f p stack key m code_there.0 means_is code_there.1 r (block b.object h) number (λ n tree e. (h, refl)) in
            let part = c.pair.at.blocks b.start tree is in
            let known_c : Known c w (block b.object h) = record { number = there; seen = refl; fine = alike.fine; home = λ k e. subst (λ k. stays.key_of w (val.Object k) ≡ Some key) (value e) keyed; spent = late } in
            chain l (takes_stuck c b.object h tree.first xs (starts key b.start) part.body_at [] w known_c (subst (λ n. Takes c.of.bytes tree.first n (starts key b.start) part.body_at) long part.takes) e)
        by_parameters (Some w1) e =
            let c = callee deeper a enough f p stack key m code_there.0 means_is code_there.1 r (block b.object h) number (λ n tree e. (h, refl)) in
            let part = c.pair.at.blocks b.start tree is in
            let known_c : Known c w (block b.object h) = record { number = there; seen = refl; fine = alike.fine; home = λ k e. subst (λ k. stays.key_of w (val.Object k) ≡ Some key) (value e) keyed; spent = late } in
            let taken = takes_so c b.object h tree.first xs (starts key b.start) part.body_at [] w w1 known_c (subst (λ n. Takes c.of.bytes tree.first n (starts key b.start) part.body_at) long part.takes) e in
            let known_1 = known_later c w w1 (block b.object h) (block b.object h) known_c taken.0 refl in
            let run = sim c (omega arith) tree.body Effect part.body_at part.after part.body (c.pair.sent_all b.start tree is) (block b.object h) [] w1 known_1 in
            let out = next tree.body (record { key = key; receiver = r; alive = block b.object h ∷ (here_of a).alive }) w1 (block b.object h) in
            ends_so a f p stack c w0 w1 s part.after None known refl (λ k. refl) (alike_then (facts on) w0 w w1 alike taken.0) out
            (quiet tree.body (c.pair.ends_all b.start tree is) (record { key = key; receiver = r; alive = block b.object h ∷ (here_of a).alive }) w1 (block b.object h))
            (after_leads c w1 w1 s (st c (block b.object h) part.body_at [] w1) part.after (λ v. []) out (same_alike (facts on) w1 taken.0.fine) (chain l taken.1)
            (subst (λ alive. Follows c w1 (st c (block b.object h) part.body_at [] w1) part.after (λ (v : Value). []) (next tree.body (record { key = key; receiver = r; alive = block b.object h ∷ alive }) w1 (block b.object h))) (alive_so a f p stack w0 known) run))

    -- the tree of a block
    fits_so : (b : Block) (h : ℕ) (key : Key) (m : Meant) (means_is : meant_for on key ≡ Some m) (tree : RealBlock) → slice_get m.blocks b.start ≡ Some tree → (number : ℕ) (r : Value) (xs : List Value) (w0 w : World) (s : State)
        → Known a w0 f → Alike (facts on) w0 w → suc k ≤ w.ticks → slice_get w.keys number ≡ Some key → stays.key_of w (val.Object h) ≡ Some key → tree.parameters ≡ length xs → (fits : Bool) → (tree.parameters == length xs) ≡ fits
        → Leads on s (Goes (record { contexts = record { method = number; receiver = r; activation = block b.object h; place = starts key b.start; stack = pushed_all xs [] } ∷ above a f p stack; world = shown on w }))
        → Follows a w0 s p (λ v. v ∷ stack) (if fits then meaning.at_tree t methods meant budget next b h key r xs (here_of a).alive w f tree else Unfinished)
    fits_so b h key m means_is tree is number r xs w0 w s known alike late there keyed long true fits l = tree_so b h key m means_is tree is number r xs w0 w s known alike late there keyed long l
    fits_so b h key m means_is tree is number r xs w0 w s known alike late there keyed long false fits l = let wrong : true ≡ false = sym (equal_test (length xs)) ∙ ap (λ n. n == length xs) (sym long) ∙ fits in cc

    -- the home of a block
    block_home_so : (b : Block) (h : ℕ) (xs : List Value) (w0 w : World) (s : State) → Known a w0 f → Alike (facts on) w0 w → suc k ≤ w.ticks → IsBehind (facts on) w (val.Object h) b.start (length xs)
        → Leads on s (given (option_and_then home_parts_of (body_at (shown on w).objects (val.Object h))) (block_started t codes code budget (record b { start = place_in starts w (val.Object h) b.start }) xs (above a f p stack) (shown on w) h))
        → Follows a w0 s p (λ v. v ∷ stack) (meaning.at_home t methods meant budget next b xs (here_of a).alive w f (val.Object h))
    block_home_so b h xs w0 w s known alike late behind l =
        by_parts (option_and_then home_parts_of (body_at w.objects (val.Object h))) refl
        (subst (λ o. Leads on s (given o (block_started t codes code budget (record b { start = place_in starts w (val.Object h) b.start }) xs (above a f p stack) (shown on w) h))) (home_parts_image (place_in starts w) w.objects (val.Object h)) l)
      where
        begun : ℕ → ℕ × Value → State
        begun place parts = record { contexts = record { method = parts.0; receiver = parts.1; activation = block b.object h; place = place; stack = pushed_all xs [] } ∷ above a f p stack; world = shown on w }

        by_tree : (parts : ℕ × Value) (key : Key) (m : Meant) → meant_for on key ≡ Some m → slice_get w.keys parts.0 ≡ Some key → stays.key_of w (val.Object h) ≡ Some key → (o : Option RealBlock) → slice_get m.blocks b.start ≡ o → option_map (λ (tree : RealBlock). tree.parameters) o ≡ Some (length xs)
            → Leads on s (Goes (record { contexts = record { method = parts.0; receiver = parts.1; activation = block b.object h; place = starts key b.start; stack = pushed_all xs [] } ∷ above a f p stack; world = shown on w }))
            → Follows a w0 s p (λ v. v ∷ stack) (with_part o (meaning.if_fits t methods meant budget next b h key parts.1 xs (here_of a).alive w f))
        by_tree parts key m means_is there keyed None is kept_is l = cc
        by_tree parts key m means_is there keyed (Some tree) is kept_is l = fits_so b h key m means_is tree is parts.0 parts.1 xs w0 w s known alike late there keyed (value kept_is) (tree.parameters == length xs) refl l

        by_meant : (parts : ℕ × Value) (key : Key) → slice_get w.keys parts.0 ≡ Some key → stays.key_of w (val.Object h) ≡ Some key → (o : Option Meant) → meant_for on key ≡ o
            → option_map (λ (tree : RealBlock). tree.parameters) (option_and_then (λ (m : Meant). slice_get m.blocks b.start) o) ≡ Some (length xs)
            → Leads on s (Goes (record { contexts = record { method = parts.0; receiver = parts.1; activation = block b.object h; place = starts key b.start; stack = pushed_all xs [] } ∷ above a f p stack; world = shown on w }))
            → Follows a w0 s p (λ v. v ∷ stack) (with_part (option_and_then (λ m. slice_get m.blocks b.start) o) (meaning.if_fits t methods meant budget next b h key parts.1 xs (here_of a).alive w f))
        by_meant parts key there keyed None is kept_is l = cc
        by_meant parts key there keyed (Some m) is kept_is l = by_tree parts key m is there keyed (slice_get m.blocks b.start) refl kept_is l

        by_key : (parts : ℕ × Value) → option_and_then home_parts_of (body_at w.objects (val.Object h)) ≡ Some parts → (o : Option Key) → slice_get w.keys parts.0 ≡ o
            → Leads on s (Goes (record { contexts = record { method = parts.0; receiver = parts.1; activation = block b.object h; place = place_in starts w (val.Object h) b.start; stack = pushed_all xs [] } ∷ above a f p stack; world = shown on w }))
            → Follows a w0 s p (λ v. v ∷ stack) (with_part o (meaning.of_key t methods meant budget next b h parts.1 xs (here_of a).alive w f))
        by_key parts at_it None is l =
            let none : stays.key_of w (val.Object h) ≡ None = ap (option_and_then (λ (parts : ℕ × Value). slice_get w.keys parts.0)) at_it ∙ is in
            let wrong : None ≡ Some behind.0 = sym none ∙ behind.1 in
            cc
        by_key parts at_it (Some key) is l =
            let place : place_in starts w (val.Object h) b.start ≡ starts key b.start =
            ap (λ o. option_map_or (λ (key : Key). starts key b.start) (option_and_then (λ (parts : ℕ × Value). slice_get w.keys parts.0) o) b.start) at_it ∙ ap (λ o. option_map_or (λ (key : Key). starts key b.start) o b.start) is in
            let keyed : stays.key_of w (val.Object h) ≡ Some key = ap (option_and_then (λ (parts : ℕ × Value). slice_get w.keys parts.0)) at_it ∙ is in
            let same : behind.0 ≡ key = value (sym behind.1 ∙ keyed) in
            by_meant parts key is keyed (meant_for on key) refl (subst (λ key. kept on key b.start ≡ Some (length xs)) same behind.2)
            (subst (λ n. Leads on s (Goes (record { contexts = record { method = parts.0; receiver = parts.1; activation = block b.object h; place = n; stack = pushed_all xs [] } ∷ above a f p stack; world = shown on w }))) place l)

        by_parts : (o : Option (ℕ × Value)) → option_and_then home_parts_of (body_at w.objects (val.Object h)) ≡ o
            → Leads on s (given o (block_started t codes code budget (record b { start = place_in starts w (val.Object h) b.start }) xs (above a f p stack) (shown on w) h))
            → Follows a w0 s p (λ v. v ∷ stack) (with_part o (λ parts. with_part (slice_get w.keys parts.0) (meaning.of_key t methods meant budget next b h parts.1 xs (here_of a).alive w f)))
        by_parts None is l = l
        by_parts (Some parts) is l = by_key parts is (slice_get w.keys parts.0) refl l

    -- a block's activation, by its home
    at_home_so : (b : Block) (xs : List Value) (whole : Value) (w0 w : World) (s : State) → Known a w0 f → Alike (facts on) w0 w → suc k ≤ w.ticks → IsBehind (facts on) w whole b.start (length xs)
        → Leads on s (at_home t codes code budget (record b { start = place_in starts w whole b.start }) xs (above a f p stack) (shown on w) whole)
        → Follows a w0 s p (λ v. v ∷ stack) (meaning.at_home t methods meant budget next b xs (here_of a).alive w f whole)
    at_home_so b xs (val.Object h) w0 w s known alike late behind l = block_home_so b h xs w0 w s known alike late behind l
    at_home_so b xs _ w0 w s known alike late behind l = l

    -- a tick, a test whether it is active, one more activation
    pub block_so : (b : Block) (xs : List Value) (w0 w : World) (s : State) → Known a w0 f → Alike (facts on) w0 w → IsBehind (facts on) w b.home b.start (length xs)
        → Leads on s (block_activated t codes code budget (record b { start = place_in starts w b.home b.start }) xs (above a f p stack) (shown on w))
        → Follows a w0 s p (λ v. v ∷ stack) (meaning.block_activated t methods meant budget next b xs (here_of a).alive w f)
    block_so b xs w0 w s known alike behind l =
        by_tick a w0 s p (λ v. v ∷ stack) w.ticks
        (if list_any (λ c. is_activation_of_block b.object c.activation) (above a f p stack) then stops BlockActive (shown on (one_tick w))
        else (if nat_lt (length (above a f p stack)) depth_limit then at_home t codes code budget (record b { start = place_in starts w b.home b.start }) xs (above a f p stack) (shown on (one_tick w)) b.home else stops Deep (shown on (one_tick w))))
        (stops (Budget budget) (shown on w))
        (if list_any (is_activation_of_block b.object) (here_of a).alive then Stopped BlockActive (one_tick w)
        else (if nat_lt (length (here_of a).alive) depth_limit then meaning.at_home t methods meant budget next b xs (here_of a).alive (one_tick w) f b.home else Stopped Deep (one_tick w)))
        (Stopped (Budget budget) w) l ticked_on (λ l. l)
      where
        active : list_any (λ c. is_activation_of_block b.object c.activation) (above a f p stack) ≡ list_any (is_activation_of_block b.object) (here_of a).alive
        active = active_seen b.object (above a f p stack) ∙ ap (list_any (is_activation_of_block b.object)) (alive_so a f p stack w0 known)

        deep : length (above a f p stack) ≡ length (here_of a).alive
        deep = sym (length-map (above a f p stack) mark_of) ∙ ap length (alive_so a f p stack w0 known)

        more : suc w.ticks ≤ budget → Alike (facts on) w0 (one_tick w)
        more low = alike_then (facts on) w0 w (one_tick w) alike (tick_alike w alike.fine low)

        ticked_on : suc w.ticks ≤ budget → Leads on s (if list_any (λ c. is_activation_of_block b.object c.activation) (above a f p stack) then stops BlockActive (shown on (one_tick w))
            else (if nat_lt (length (above a f p stack)) depth_limit then at_home t codes code budget (record b { start = place_in starts w b.home b.start }) xs (above a f p stack) (shown on (one_tick w)) b.home else stops Deep (shown on (one_tick w))))
            → Follows a w0 s p (λ v. v ∷ stack) (if list_any (is_activation_of_block b.object) (here_of a).alive then Stopped BlockActive (one_tick w)
            else (if nat_lt (length (here_of a).alive) depth_limit then meaning.at_home t methods meant budget next b xs (here_of a).alive (one_tick w) f b.home else Stopped Deep (one_tick w)))
        ticked_on low l =
            by_test a w0 s p (λ v. v ∷ stack) (list_any (is_activation_of_block b.object) (here_of a).alive) (stops BlockActive (shown on (one_tick w)))
            (if nat_lt (length (here_of a).alive) depth_limit then at_home t codes code budget (record b { start = place_in starts w b.home b.start }) xs (above a f p stack) (shown on (one_tick w)) b.home else stops Deep (shown on (one_tick w)))
            (Stopped BlockActive (one_tick w))
            (if nat_lt (length (here_of a).alive) depth_limit then meaning.at_home t methods meant budget next b xs (here_of a).alive (one_tick w) f b.home else Stopped Deep (one_tick w))
            (subst (λ x. Leads on s (if x then stops BlockActive (shown on (one_tick w)) else (if nat_lt (length (here_of a).alive) depth_limit then at_home t codes code budget (record b { start = place_in starts w b.home b.start }) xs (above a f p stack) (shown on (one_tick w)) b.home else stops Deep (shown on (one_tick w))))) active
            (subst (λ n. Leads on s (if list_any (λ c. is_activation_of_block b.object c.activation) (above a f p stack) then stops BlockActive (shown on (one_tick w)) else (if nat_lt n depth_limit then at_home t codes code budget (record b { start = place_in starts w b.home b.start }) xs (above a f p stack) (shown on (one_tick w)) b.home else stops Deep (shown on (one_tick w))))) deep l))
            (λ l. l)
            (λ l. by_test a w0 s p (λ v. v ∷ stack) (nat_lt (length (here_of a).alive) depth_limit) (at_home t codes code budget (record b { start = place_in starts w b.home b.start }) xs (above a f p stack) (shown on (one_tick w)) b.home) (stops Deep (shown on (one_tick w)))
            (meaning.at_home t methods meant budget next b xs (here_of a).alive (one_tick w) f b.home) (Stopped Deep (one_tick w)) l (λ l. at_home_so b xs b.home w0 (one_tick w) s known (more low) (omega (arith, enough, known.spent, alike.later.ticks)) behind l) (λ l. l))
