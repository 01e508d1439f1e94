-- The machine follows a doIt: the end of its run is that of its trees, in the same world.
use Rattle.std.proofs.Common.{◌≡◌, ◌∙◌, ap, sym, subst, refl, ℕ, zero, suc, ◌+◌, List, [], ◌∷◌, length, map, replicate, ◌-◌, slice_get, Bool, true, false, ◌||◌, arith, Option, Some, None, if◌then◌else◌}
use Rattle.s80_object.specs.Body.{BodyTree, cost, words_of, word_limit}
use Rattle.s80_object.specs.Body as body
use Rattle.s80_object.specs.Objects.{with_body}
use Rattle.s80_object.specs.declared.value.Value.{Value}
use Rattle.s80_meaning.proofs.Holding.{has_blocks}
use Rattle.s80_code.proofs.lemmas.TableLemmas.{value}
use Rattle.std.specs.Prelude.{nat_le}
use Rattle.s80_meaning.proofs.NaturalObjects.{words_image}
use Rattle.s80_meaning.proofs.Extends.{added_extends}
use Rattle.s80_object.specs.declared.value.Value.TheVariants as val
use Rattle.s80_prims.specs.declared.stop.End.{End}
use Rattle.s80_prims.specs.declared.stop.End.TheVariants as end
use Rattle.s80_meaning.specs.Agreement.{SameWorld, turns}
use Rattle.s80_prims.specs.declared.stop.Stop.TheVariants.{ObjectsFull}
use Rattle.s80_scope.specs.declared.fit.position.Position.TheVariants.{Effect}
use Rattle.s80_machine.specs.World.{World, first_world, doit, numbered, Activation, own, home, is_home_activation, number_in, with_objects}
use Rattle.s80_machine.specs.Turn.{Context, State, Goes, Ends, Stuck, deliver, return_home, stops}
use Rattle.s80_machine.specs.Step.{activated, with_home, without_home}
use Rattle.s80_meaning.specs.Tree.{RealBlock}
use Rattle.s80_meaning.specs.Meaning.{Out, Gives, Answers, Returns, Stopped, Unfinished, awaited, ends_home, is_alive, Evaluator}
use Rattle.s80_meaning.specs.Meaning as meaning
use Rattle.s80_meaning.proofs.Variables.{Alike, alike_by}
use Rattle.s80_meaning.proofs.KeysOnce as numbers
use Rattle.s80_meaning.proofs.Stays as stays
use Rattle.s80_meaning.proofs.Stays.{IsFine, place_in}
use Rattle.s80_meaning.proofs.BlockMade.{home_key}
use Rattle.s80_meaning.proofs.Corresponds.{Active, Came, Comes, Follows, IsPair, Known, Ready, Setting, facts, here_of, mark_of, shown, st}
use Rattle.s80_meaning.proofs.ReturnsFollow.{is_mine}
use Rattle.s80_meaning.proofs.ActivationsFollow.{unhoused}
use Rattle.s80_meaning.proofs.TicksFollow.{quiet_all, sims}

module _ (on : Setting) where
  open on use {table as t, methods, meant, codes, code, budget, starts}

  -- what the trees came to, and where the machine came to
  abbrev pub IsLast : Came → Out Value → Type 0
  IsLast ran o = (w : World) × (meaning.ended t methods meant budget o ≡ Some (ran.0, w)) × SameWorld starts w ran.1

  -- a turn that ends the run is the last
  ended_stays : (n : ℕ) (end : End) (w : World) → turns t codes code budget n (Ends end w) ≡ Ends end w
  ended_stays zero end w = refl
  ended_stays (suc n) end w = refl

  stuck_stays : (n : ℕ) → turns t codes code budget n Stuck ≡ Stuck
  stuck_stays zero = refl
  stuck_stays (suc n) = refl

  shown_same : (w : World) → SameWorld starts w (shown on w)
  shown_same w = record { transcript = refl; ticks = refl; words = words_image (place_in starts w) w.objects.bodies; keys = refl; objects = refl }

  -- both end alike
  ended_as : (end : End) (w : World) (o : Out Value) (ran : Came) → meaning.ended t methods meant budget o ≡ Some (end, w) → Comes on (Ends end (shown on w)) ran → IsLast ran o
  ended_as end w o ran is f =
      let last : Ends end (shown on w) ≡ Ends ran.0 ran.1 = sym (ended_stays f.0 end (shown on w)) ∙ f.1 in
      let same : end ≡ ran.0 = cc in
      let world : shown on w ≡ ran.1 = cc in
      (w, is ∙ ap (λ (end : End). Some (end, w)) same, subst (SameWorld starts w) world (shown_same w))

  whole_so : (b : Active on) (w : World) (s : State) (q : ℕ) (mine : Option ℕ) → b.below ≡ [] → ((h : ℕ) → is_home_activation h b.seen ≡ is_mine h mine) → (o : Out Value) → ((v : Value) (w1 : World) (g : Activation) → o ≡ Gives v w1 g → ⊥) → Follows b w s q (λ v. []) o
      → (ran : Came) → Comes on (Goes s) ran → IsLast ran (awaited (own []) mine o)
  whole_so b w s q mine below seen (Gives v w1 g) silent r ran comes = absurd (silent v w1 g refl)
  whole_so b w s q mine below seen (Answers v w1) silent r ran comes =
      ended_as (end.Answer v) w1 (Gives v w1 (own [])) ran refl (subst (λ l. Comes on (deliver v l (shown on w1)) ran) below (r.1.alone ran comes))
  whole_so b w s q mine below seen (Returns h v w1) silent r ran comes = by_mine mine is_mine_so
    where
      at_home_is : is_home_activation h b.seen ≡ true
      at_home_is = by_seen (is_home_activation h b.seen) (subst (λ (l : List Context). is_alive h (b.seen ∷ map mark_of l) ≡ true) below r.2)
        where
          by_seen : (x : Bool) → (x || false) ≡ true → x ≡ true
          by_seen true e = refl
          by_seen false e = e

      is_mine_so : is_mine h mine ≡ true
      is_mine_so = sym (seen h) ∙ at_home_is

      came : Comes on (Ends (end.Answer v) (shown on w1)) ran
      came = subst (λ l. Comes on (deliver v l (shown on w1)) ran) below (subst (λ x. Comes on (if x then deliver v b.below (shown on w1) else return_home h v b.below (shown on w1)) ran) at_home_is (r.1.alone ran comes))

      by_mine : (own_home : Option ℕ) → is_mine h own_home ≡ true → IsLast ran (ends_home (own []) h v w1 own_home)
      by_mine None e = cc
      by_mine (Some k) e =
          subst (λ x. IsLast ran (if x then Gives v w1 (own []) else Returns h v w1)) (sym e) (ended_as (end.Answer v) w1 (Gives v w1 (own [])) ran refl came)
  whole_so b w s q mine below seen (Stopped stop w1) silent r ran comes = ended_as (end.Stopped stop) w1 (Stopped stop w1) ran refl (r.alone ran comes)
  whole_so b w s q mine below seen Unfinished silent r ran comes =
      let f = r.alone ran comes in
      let wrong : Stuck ≡ Ends ran.0 ran.1 = sym (stuck_stays f.0) ∙ f.1 in
      cc

  module _ (ready : Ready on) where
    abbrev pub deepest : Evaluator
    deepest = meaning.evaluated t methods meant budget (suc budget)

    first_fine : IsFine (facts on) (first_world t)
    first_fine = record { placed = λ n whole b count e. cc; unique = λ n key e. cc; made = λ m k v e. cc; in_time = omega arith }

    abbrev w1 : World
    w1 = numbered (first_world t) doit

    abbrev doit_number : ℕ
    doit_number = number_in w1 doit

    doit_pair : IsPair on doit meant code
    doit_pair = ready.pairs doit meant code refl refl

    fine : IsFine (facts on) w1
    fine = (numbers.numbered_alike (facts on) (first_world t) doit first_fine).fine

    there : slice_get w1.keys doit_number ≡ Some doit
    there = numbers.number_there (first_world t) doit

    alone_told : (ts : List Value) → meant.blocks ≡ [] → (ran : Came) → Comes on (without_home t codes code budget doit val.Nil ts [] (shown on w1)) ran
        → IsLast ran (meaning.alone t methods meant budget deepest doit meant val.Nil ts [] w1 (own []))
    alone_told ts none ran comes =
        let b : Active on = record {
          key = doit;
          number = doit_number;
          receiver = val.Nil;
          seen = own [];
          below = [];
          of = code;
          means = meant;
          code_is = refl;
          means_is = refl;
          pair = doit_pair;
          housed = λ n tree e. unhoused meant n tree none e;
          from = 0;
        } in
        let known_b : Known b w1 (own ts) = record { number = there; seen = refl; fine = fine; home = λ h e. cc; spent = omega arith } in
        whole_so b w1 (st b (own ts) 0 [] w1) (length code.bytes) None refl (λ h. refl) (deepest meant.body (here_of b) w1 (own ts)) (quiet_all on (suc budget) meant.body doit_pair.ends (here_of b) w1 (own ts))
        (sims on ready (suc budget) 0 (omega arith) b (omega arith) meant.body Effect 0 (length code.bytes) doit_pair.at.body doit_pair.sent (own ts) [] w1 known_b) ran comes

    home_told : (ts : List Value) → (ran : Came) → Comes on (with_home t codes code budget doit val.Nil ts [] (shown on w1)) ran
        → IsLast ran (meaning.in_home t methods meant budget deepest doit meant val.Nil ts [] w1 (own []))
    home_told ts ran comes = by_room (nat_le (words_of w1.objects.bodies + cost body_of) word_limit) comes
      where
        body_of : BodyTree
        body_of = body.home doit_number val.Nil ts

        w2 : World
        w2 = with_objects w1 (with_body w1.objects body_of)

        more : Alike (facts on) w1 w2
        more = alike_by (facts on) w1 (with_body w1.objects body_of) fine (added_extends w1.objects body_of tt)

        b : Active on
        b = record {
          key = doit;
          number = doit_number;
          receiver = val.Nil;
          seen = home 0;
          below = [];
          of = code;
          means = meant;
          code_is = refl;
          means_is = refl;
          pair = doit_pair;
          housed = λ n tree e. (0, refl);
          from = 0;
        }

        known_b : Known b w2 (home 0)
        known_b = record { number = there; seen = refl; fine = more.fine; home = λ k e. subst (λ k. stays.key_of w2 (val.Object k) ≡ Some doit) (value e) (home_key w1 doit doit_number val.Nil ts there); spent = omega arith }

        by_room : (x : Bool) → Comes on (if x then Goes (st b (home 0) 0 [] w2) else stops (ObjectsFull (words_of w1.objects.bodies)) (shown on w1)) ran
            → IsLast ran (if x then awaited (own []) (Some 0) (deepest meant.body (here_of b) w2 (home 0)) else Stopped (ObjectsFull (words_of w1.objects.bodies)) w1)
        by_room true comes =
            whole_so b w2 (st b (home 0) 0 [] w2) (length code.bytes) (Some 0) refl (λ h. refl) (deepest meant.body (here_of b) w2 (home 0)) (quiet_all on (suc budget) meant.body doit_pair.ends (here_of b) w2 (home 0))
            (sims on ready (suc budget) 0 (omega arith) b (omega arith) meant.body Effect 0 (length code.bytes) doit_pair.at.body doit_pair.sent (home 0) [] w2 known_b) ran comes
        by_room false comes = let stop = ObjectsFull (words_of w1.objects.bodies) in ended_as (end.Stopped stop) w1 (Stopped stop w1) ran refl comes

    pub doit_ends : (ran : Came) → Comes on (activated t codes code budget doit code val.Nil [] [] (first_world t)) ran
        → IsLast ran (meaning.activated t methods meant budget deepest doit meant val.Nil [] [] (first_world t) (own []))
    doit_ends ran comes =
        by_blocks meant.blocks refl (replicate (meant.temporaries - 0) val.Nil)
        (subst (λ n. Comes on (if has_blocks meant.blocks then with_home t codes code budget doit val.Nil (replicate (n - 0) val.Nil) [] (shown on w1) else without_home t codes code budget doit val.Nil (replicate (n - 0) val.Nil) [] (shown on w1)) ran) doit_pair.temporaries
        (subst (λ x. Comes on (if x then with_home t codes code budget doit val.Nil (replicate (code.temporaries - 0) val.Nil) [] (shown on w1) else without_home t codes code budget doit val.Nil (replicate (code.temporaries - 0) val.Nil) [] (shown on w1)) ran) doit_pair.holds comes))
      where
        by_blocks : (bs : List RealBlock) → meant.blocks ≡ bs → (ts : List Value) → Comes on (if has_blocks bs then with_home t codes code budget doit val.Nil ts [] (shown on w1) else without_home t codes code budget doit val.Nil ts [] (shown on w1)) ran
            → IsLast ran (meaning.started t methods meant budget deepest bs doit meant val.Nil ts [] w1 (own []))
        by_blocks [] is ts comes = alone_told ts is ran comes
        by_blocks (b ∷ bs) is ts comes = home_told ts ran comes
