-- The machine follows activations of methods, with a home where the method has real blocks, and alone where it has none.
use Rattle.std.proofs.Common.{◌≡◌, ◌∙◌, ap, sym, subst, refl, ℕ, suc, ◌+◌, List, [], ◌∷◌, length, map, replicate, ◌++◌, ◌-◌, slice_get, ◌≤◌, nat_lt, arith, Some, None, if◌then◌else◌}
use Rattle.s80_code.specs.declared.code.Code.{Code}
use Rattle.s80_object.specs.Body.{BodyTree, cost, words_of, word_limit}
use Rattle.s80_object.specs.Body as body
use Rattle.s80_object.specs.Objects.{with_body}
use Rattle.s80_object.specs.declared.value.Value.{Value}
use Rattle.s80_class.specs.Lookup.{number}
use Rattle.s80_meaning.proofs.Holding.{has_blocks}
use Rattle.s80_meaning.specs.Image.{image, placed}
use Rattle.s80_code.proofs.lemmas.TableLemmas.{value}
use Rattle.std.specs.Prelude.{nat_le}
use Rattle.s80_meaning.proofs.NaturalObjects.{cost_placed, length_image, words_image}
use Rattle.s80_meaning.proofs.Extends.{added_extends}
use Rattle.s80_object.specs.declared.value.Value.TheVariants as val
use Rattle.s80_prims.specs.declared.stop.Stop.TheVariants.{Deep, ObjectsFull}
use Rattle.s80_scope.specs.declared.fit.position.Position.TheVariants.{Effect}
use Rattle.s80_machine.specs.World.{World, Key, numbered, Activation, own, home, number_in, with_objects}
use Rattle.s80_machine.specs.Turn.{State, Turn, Goes, stops}
use Rattle.s80_machine.specs.Shared.{depth_limit}
use Rattle.s80_machine.specs.Step.{activated, started, with_home, with_room, without_home, code_for}
use Rattle.s80_meaning.specs.Tree.{Meant, RealBlock}
use Rattle.s80_meaning.specs.Meaning.{Out, Stopped, awaited, with_room as in_room}
use Rattle.s80_meaning.specs.Meaning as meaning
use Rattle.std.proofs.lemmas.List.{length-map}
use Rattle.s80_meaning.proofs.Variables.{Alike, alike_by, alike_then, same_alike}
use Rattle.s80_meaning.proofs.KeysOnce as numbers
use Rattle.s80_meaning.proofs.Stays as stays
use Rattle.s80_meaning.proofs.Stays.{extends_placed, place_in}
use Rattle.s80_meaning.proofs.BlockMade.{home_key}
use Rattle.s80_meaning.proofs.Corresponds.{Active, Deeper, Follows, IsHoused, IsPair, Known, Leads, Setting, above, context, facts, here_of, mark_of, meant_for, shown, st}
use Rattle.s80_meaning.proofs.Following.{after_leads, by_test}
use Rattle.s80_meaning.proofs.ReturnsFollow.{ends_so}
use Rattle.s80_meaning.proofs.WorldsShown.{made_shown, numbered_shown}

pub unhoused : (m : Meant) (n : ℕ) (tree : RealBlock) → m.blocks ≡ [] → slice_get m.blocks n ≡ Some tree → {X : Type 0} → X
unhoused m n tree none e = let wrong : None ≡ Some tree = ap (λ (bs : List RealBlock). slice_get bs n) (sym none) ∙ e in cc

module _ {on : Setting} where
  open on use {table as t, methods, meant, codes, code, budget, starts}

  -- what others see of the activations from a on
  pub alive_so : (a : Active on) (f : Activation) (p : ℕ) (stack : List Value) (w : World) → Known a w f → map mark_of (above a f p stack) ≡ (here_of a).alive
  alive_so a f p stack w known = ap (λ x. x ∷ map mark_of a.below) known.seen

  pub room_so : {A : Type 0} (a : Active on) (w0 w : World) (s : State) (q : ℕ) (onto : A → List Value) (b : BodyTree) (go : World → Turn) (gone : World → Out A)
      → Leads on s (with_room (shown on w) (placed (place_in starts w) b) go)
      → (Leads on s (go (with_objects w (with_body (image (place_in starts w) w.objects) (placed (place_in starts w) b)))) → Follows a w0 s q onto (gone (with_objects w (with_body w.objects b))))
      → Follows a w0 s q onto (in_room w b gone)
  room_so a w0 w s q onto b go gone l h =
      let at = place_in starts w in
      by_test a w0 s q onto (nat_le (words_of w.objects.bodies + cost b) word_limit) (go (with_objects w (with_body (image at w.objects) (placed at b)))) (stops (ObjectsFull (words_of w.objects.bodies)) (shown on w))
      (gone (with_objects w (with_body w.objects b))) (Stopped (ObjectsFull (words_of w.objects.bodies)) w)
      (subst (λ n. Leads on s (if nat_le (n + cost b) word_limit then go (with_objects w (with_body (image at w.objects) (placed at b))) else stops (ObjectsFull n) (shown on w))) (words_image at w.objects.bodies)
      (subst (λ n. Leads on s (if nat_le (words_of (map (placed at) w.objects.bodies) + n) word_limit then go (with_objects w (with_body (image at w.objects) (placed at b))) else stops (ObjectsFull (words_of (map (placed at) w.objects.bodies))) (shown on w))) (cost_placed at b) l))
      h (λ l. l)

  module _ (deeper : Deeper on) (a : Active on) (enough : deeper.k ≤ a.from) (f : Activation) (p : ℕ) (stack : List Value) where
    open deeper use {ready, next, k, sim, quiet}

    -- a method above it
    abbrev pub callee : (key : Key) (m : Meant) (of : Code) → meant_for on key ≡ Some m → code_for codes code key ≡ Some of → Value → (seen : Activation) → ℕ → IsHoused on m seen → Active on
    callee key m of means_is code_is r seen number housed =
        record { key = key; number = number; receiver = r; seen = seen; below = above a f p stack; of = of; means = m; code_is = code_is; means_is = means_is; pair = ready.pairs key m of means_is code_is; housed = housed; from = suc k }

    alone_so : (key : Key) (m : Meant) (of : Code) (means_is : meant_for on key ≡ Some m) (code_is : code_for codes code key ≡ Some of) (r : Value) (ts : List Value) (w0 w : World) (s : State)
        → Known a w0 f → Alike (facts on) w0 w → suc k ≤ w.ticks → slice_get w.keys (number_in w key) ≡ Some key → m.blocks ≡ []
        → Leads on s (Goes (record { contexts = record { method = number_in w key; receiver = r; activation = own ts; place = 0; stack = [] } ∷ above a f p stack; world = shown on w }))
        → Follows a w0 s p (λ v. v ∷ stack) (meaning.alone t methods meant budget next key m r ts (here_of a).alive w f)
    alone_so key m of means_is code_is r ts w0 w s known alike late there none l =
        let b = callee key m of means_is code_is r (own []) (number_in w key) (λ n tree e. unhoused m n tree none e) in
        let known_b : Known b w (own ts) = record { number = there; seen = refl; fine = alike.fine; home = λ h e. cc; spent = late } in
        let run = sim b (omega arith) m.body Effect 0 (length of.bytes) b.pair.at.body b.pair.sent (own ts) [] w known_b in
        ends_so a f p stack b w0 w s (length of.bytes) None known refl (λ h. refl) alike
        (next m.body (record { key = key; receiver = r; alive = own [] ∷ (here_of a).alive }) w (own ts))
        (quiet m.body b.pair.ends (record { key = key; receiver = r; alive = own [] ∷ (here_of a).alive }) w (own ts))
        (after_leads b w w s (st b (own ts) 0 [] w) (length of.bytes) (λ v. []) (next m.body (record { key = key; receiver = r; alive = own [] ∷ (here_of a).alive }) w (own ts)) (same_alike (facts on) w alike.fine) l
        (subst (λ alive. Follows b w (st b (own ts) 0 [] w) (length of.bytes) (λ (v : Value). []) (next m.body (record { key = key; receiver = r; alive = own [] ∷ alive }) w (own ts))) (alive_so a f p stack w0 known) run))

    -- and one with a home
    home_so : (key : Key) (m : Meant) (of : Code) (means_is : meant_for on key ≡ Some m) (code_is : code_for codes code key ≡ Some of) (r : Value) (ts : List Value) (w0 w : World) (s : State)
        → Known a w0 f → Alike (facts on) w0 w → suc k ≤ w.ticks → slice_get w.keys (number_in w key) ≡ Some key
        → Leads on s (with_home t codes code budget key r ts (above a f p stack) (shown on w)) → Follows a w0 s p (λ v. v ∷ stack) (meaning.in_home t methods meant budget next key m r ts (here_of a).alive w f)
    home_so key m of means_is code_is r ts w0 w s known alike late there l =
        let h = length w.objects.bodies in
        let at = place_in starts w in
        let body_of = body.home (number_in w key) r ts in
        let w1 = with_objects w (with_body w.objects body_of) in
        let ext = added_extends w.objects body_of tt in
        let more = alike_by (facts on) w (with_body w.objects body_of) alike.fine ext in
        let b = callee key m of means_is code_is r (home h) (number_in w key) (λ n tree e. (h, refl)) in
        let known_b : Known b w1 (home h) = record { number = there; seen = refl; fine = more.fine; home = λ k e. subst (λ k. stays.key_of w1 (val.Object k) ≡ Some key) (value e) (home_key w key (number_in w key) r ts there); spent = late } in
        let run = sim b (omega arith) m.body Effect 0 (length of.bytes) b.pair.at.body b.pair.sent (home h) [] w1 known_b in
        let out = next m.body (record { key = key; receiver = r; alive = home h ∷ (here_of a).alive }) w1 (home h) in
        room_so a w0 w s p (λ v. v ∷ stack) body_of
        (λ w1. Goes (record { contexts = record { method = number_in w key; receiver = r; activation = home (length (map (placed at) w.objects.bodies)); place = 0; stack = [] } ∷ above a f p stack; world = w1 }))
        (λ w1. awaited f (Some h) (next m.body (record { key = key; receiver = r; alive = home h ∷ (here_of a).alive }) w1 (home h))) l
        (λ l.
        let begun : Leads on s (Goes (st b (home h) 0 [] w1)) =
        subst (λ x. Leads on s (Goes (record { contexts = context b (home h) 0 [] ∷ above a f p stack; world = x }))) (made_shown on w body_of more.later (extends_placed w (with_body w.objects body_of) ext alike.fine))
        (subst (λ n. Leads on s (Goes (record { contexts = context b (home n) 0 [] ∷ above a f p stack; world = with_objects w (with_body (image at w.objects) body_of) }))) (length_image at w.objects.bodies) l) in
        ends_so a f p stack b w0 w1 s (length of.bytes) (Some h) known refl (λ k. refl) (alike_then (facts on) w0 w w1 alike more) out
        (quiet m.body b.pair.ends (record { key = key; receiver = r; alive = home h ∷ (here_of a).alive }) w1 (home h))
        (after_leads b w1 w1 s (st b (home h) 0 [] w1) (length of.bytes) (λ v. []) out (same_alike (facts on) w1 more.fine) begun
        (subst (λ alive. Follows b w1 (st b (home h) 0 [] w1) (length of.bytes) (λ (v : Value). []) (next m.body (record { key = key; receiver = r; alive = home h ∷ alive }) w1 (home h))) (alive_so a f p stack w0 known) run)))

    -- an activation, where there may be one more
    pub activated_so : (key : Key) (m : Meant) (of : Code) (means_is : meant_for on key ≡ Some m) (code_is : code_for codes code key ≡ Some of) (r : Value) (xs : List Value) (w0 w : World) (s : State)
        → Known a w0 f → Alike (facts on) w0 w → suc k ≤ w.ticks
        → Leads on s (activated t codes code budget key of r xs (above a f p stack) (shown on w)) → Follows a w0 s p (λ v. v ∷ stack) (meaning.activated t methods meant budget next key m r xs (here_of a).alive w f)
    activated_so key m of means_is code_is r xs w0 w s known alike late l =
        by_test a w0 s p (λ v. v ∷ stack) (nat_lt (length (here_of a).alive) depth_limit) (started t codes code budget key of r (xs ++ replicate (of.temporaries - length xs) val.Nil) (above a f p stack) (numbered (shown on w) key)) (stops Deep (shown on w))
        (meaning.started t methods meant budget next m.blocks key m r (xs ++ replicate (m.temporaries - length xs) val.Nil) (here_of a).alive (numbered w key) f) (Stopped Deep w)
        (subst (λ n. Leads on s (if nat_lt n depth_limit then started t codes code budget key of r (xs ++ replicate (of.temporaries - length xs) val.Nil) (above a f p stack) (numbered (shown on w) key) else stops Deep (shown on w))) deep l)
        by_start (λ l. l)
      where
        pair : IsPair on key m of
        pair = ready.pairs key m of means_is code_is

        w1 : World
        w1 = numbered w key

        deep : length (above a f p stack) ≡ length (here_of a).alive
        deep = sym (length-map (above a f p stack) mark_of) ∙ ap length (alive_so a f p stack w0 known)

        by_blocks : (bs : List RealBlock) → m.blocks ≡ bs → (ts : List Value) → Leads on s (if has_blocks bs then with_home t codes code budget key r ts (above a f p stack) (shown on (numbered w key)) else without_home t codes code budget key r ts (above a f p stack) (shown on (numbered w key)))
            → Follows a w0 s p (λ v. v ∷ stack) (meaning.started t methods meant budget next bs key m r ts (here_of a).alive (numbered w key) f)
        by_blocks [] is ts l = alone_so key m of means_is code_is r ts w0 (numbered w key) s known (alike_then (facts on) w0 w (numbered w key) alike (numbers.numbered_alike (facts on) w key alike.fine)) late (numbers.number_there w key) is l
        by_blocks (b ∷ bs) is ts l = home_so key m of means_is code_is r ts w0 (numbered w key) s known (alike_then (facts on) w0 w (numbered w key) alike (numbers.numbered_alike (facts on) w key alike.fine)) late (numbers.number_there w key) l

        by_start : Leads on s (started t codes code budget key of r (xs ++ replicate (of.temporaries - length xs) val.Nil) (above a f p stack) (numbered (shown on w) key))
            → Follows a w0 s p (λ v. v ∷ stack) (meaning.started t methods meant budget next m.blocks key m r (xs ++ replicate (m.temporaries - length xs) val.Nil) (here_of a).alive (numbered w key) f)
        by_start l =
            by_blocks m.blocks refl (xs ++ replicate (m.temporaries - length xs) val.Nil)
            (subst (λ n. Leads on s (if has_blocks m.blocks then with_home t codes code budget key r (xs ++ replicate (n - length xs) val.Nil) (above a f p stack) (shown on (numbered w key)) else without_home t codes code budget key r (xs ++ replicate (n - length xs) val.Nil) (above a f p stack) (shown on (numbered w key)))) pair.temporaries
            (subst (λ x. Leads on s (if x then with_home t codes code budget key r (xs ++ replicate (of.temporaries - length xs) val.Nil) (above a f p stack) (shown on (numbered w key)) else without_home t codes code budget key r (xs ++ replicate (of.temporaries - length xs) val.Nil) (above a f p stack) (shown on (numbered w key)))) pair.holds
            (subst (λ x. Leads on s (started t codes code budget key of r (xs ++ replicate (of.temporaries - length xs) val.Nil) (above a f p stack) x)) (numbered_shown on w key alike.fine) l)))
