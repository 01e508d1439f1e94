-- The machine follows choices and loops: jumps ahead are free, and a jump back takes a tick.
use Rattle.std.proofs.Common.{◌≡◌, ◌∙◌, ap, sym, subst, refl, ℕ, suc, ◌+◌, ℤ, pos, ◌+ℤ◌, List, ◌∷◌, Bool, true, false, ◌<◌, ◌≤◌, negsuc, arith, if◌then◌else◌}
use Rattle.std.specs.Int.{is_negative}
use Rattle.std.proofs.Math.IntN.{+ℤ_assoc, +ℤ_idr, +ℤ_invl, pos-+ℤ-pos}
use Rattle.std.proofs.lemmas.Bool.Decides.{nat_tests}
use Rattle.s80_code.specs.declared.instruction.Instruction.{Instruction}
use Rattle.s80_code.specs.declared.instruction.Instruction.TheVariants as instruction
use Rattle.s80_code.specs.Entries.{entries_of}
use Rattle.s80_code.specs.Table.{Stands}
use Rattle.s80_code.specs.Spelling.{Written}
use Rattle.s80_object.specs.declared.value.Value.{Value}
use Rattle.s80_prims.specs.declared.stop.Stop.TheVariants.{Budget, NonBoolean}
use Rattle.s80_scope.specs.declared.fit.position.Position.{Position}
use Rattle.s80_scope.specs.declared.fit.position.Position.TheVariants.{Value as Wanted, Effect}
use Rattle.s80_compile.specs.Rows.{JumpsTo, JumpsOver, jump_unless, shortcut_number}
use Rattle.s80_machine.specs.World.{World, Activation, one_tick}
use Rattle.s80_machine.specs.Turn.{Goes, given, goes_on, place_at, stops, ticked}
use Rattle.s80_machine.specs.Shared.{decided}
use Rattle.s80_machine.specs.Step.{jump}
use Rattle.s80_meaning.specs.Tree.{Tree, repeat}
use Rattle.s80_meaning.specs.Meaning.{Out, Stopped, chosen, otherwise, ticked as ticks, Evaluator}
use Rattle.s80_verify.proofs.lemmas.PlaceLemmas.{goes_forward}
use Rattle.s80_meaning.proofs.Ahead.{ahead}
use Rattle.s80_meaning.proofs.Corresponds.{Active, CodeAt, Follows, Known, Leads, Setting, context, here_of, push, shown, st}
use Rattle.s80_meaning.proofs.Following.{after_leads, by_decision, by_tick, does, does_there, tick_alike}

-- ---- jumps ahead and back

no_minus : (n : ℕ) → is_negative (pos n) ≡ false
no_minus n = grind (arith, nat_tests)

forth : (q to n : ℕ) → pos to ≡ pos q +ℤ pos n → to ≡ q + n
forth q to n lands = same (lands ∙ pos-+ℤ-pos q n)
  where
    same : {m k : ℕ} → pos m ≡ pos k → m ≡ k
    same e = cc

back : (q to n : ℕ) → pos to ≡ pos q +ℤ negsuc n → to + suc n ≡ q
back q to n lands =
    same (sym (pos-+ℤ-pos to (suc n)) ∙ ap (λ z. z +ℤ pos (suc n)) lands ∙ +ℤ_assoc (pos q) (negsuc n) (pos (suc n)) ∙ ap (λ z. pos q +ℤ z) (+ℤ_invl (pos (suc n))) ∙ +ℤ_idr (pos q))
  where
    same : {m k : ℕ} → pos m ≡ pos k → m ≡ k
    same e = cc

goes_ahead : (q to : ℕ) (distance : ℤ) → pos to ≡ pos q +ℤ distance → q ≤ to → is_negative distance ≡ false
goes_ahead q to (pos n) lands up = no_minus n
goes_ahead q to (negsuc n) lands up = absurd (omega (arith, back q to n lands, up))

goes_back : (q to : ℕ) (distance : ℤ) → pos to ≡ pos q +ℤ distance → to < q → is_negative distance ≡ true
goes_back q to (pos n) lands down = absurd (omega (arith, forth q to n lands, down))
goes_back q to (negsuc n) lands down = refl

pub below_next : (bytes : List ℕ) (p : ℕ) (i : Instruction) (q : ℕ) → Written bytes p i q → p ≤ q
below_next bytes p i q r = omega (arith, goes_forward bytes p i q r.stands)

module _ {on : Setting} where
  open on use {table as t, codes, code, budget, starts}

  -- a jump lands where its row says
  landed : (a : Active on) (f : Activation) (distance : ℤ) (to place q : ℕ) (stack : List Value) (w : World) → pos to ≡ pos q +ℤ distance
      → jump t codes code budget distance (context a f place stack) q stack a.below w ≡ Goes (record { contexts = context a f to stack ∷ a.below; world = w })
  landed a f distance to place q stack w lands = ap (λ z. given (place_at z) (λ to. goes_on (context a f place stack) to stack a.below w)) (sym lands)

  -- a jump ahead
  passes_there : (a : Active on) (to p q : ℕ) (f : Activation) (stack : List Value) (w : World) → Known a w f → (distance : ℤ) → Stands a.of.bytes p (instruction.Jump distance) q → pos to ≡ pos q +ℤ distance → q ≤ to
      → Leads on (st a f p stack w) (Goes (st a f to stack w))
  passes_there a to p q f stack w known distance stands lands up =
      let s = st a f p stack w in
      let ahead : is_negative distance ≡ false = goes_ahead q to distance lands up in
      let l = does_there a f p stack w (instruction.Jump distance) q known stands in
      subst (Leads on s) (landed a f distance to p q stack (shown on w) lands)
      (subst (λ b. Leads on s (if b then ticked budget (shown on w) (jump t codes code budget distance (context a f p stack) q stack a.below) else jump t codes code budget distance (context a f p stack) q stack a.below (shown on w))) ahead l)

  pub passes : (a : Active on) (to p q : ℕ) (f : Activation) (stack : List Value) (w : World) → Known a w f → JumpsTo a.of.bytes instruction.Jump to p q → q ≤ to → Leads on (st a f p stack w) (Goes (st a f to stack w))
  passes a to p q f stack w known r up = passes_there a to p q f stack w known r.distance r.stands.stands r.lands up

  pub passes_over : (a : Active on) (to p q : ℕ) (f : Activation) (stack : List Value) (w : World) → Known a w f → JumpsOver a.of.bytes to p q → Leads on (st a f p stack w) (Goes (st a f to stack w))
  passes_over a to p q f stack w known r = passes_there a to p q f stack w known (pos r.distance) r.stands (ap pos r.lands ∙ sym (pos-+ℤ-pos q r.distance)) (omega (arith, r.lands))

  -- a choice by a jump: the machine goes on behind it, or where it leads
  pub chooses : {A : Type 0} (a : Active on) (wants : Bool) (to test behind q : ℕ) (onto : A → List Value) (f : Activation) (v : Value) (stack : List Value) (w : World) (wanted other : Out A) → Known a w f
      → JumpsTo a.of.bytes (jump_unless wants) to test behind → (Leads on (st a f test (v ∷ stack) w) (Goes (st a f behind stack w)) → Follows a w (st a f test (v ∷ stack) w) q onto wanted)
      → (Leads on (st a f test (v ∷ stack) w) (Goes (st a f to stack w)) → Follows a w (st a f test (v ∷ stack) w) q onto other) → Follows a w (st a f test (v ∷ stack) w) q onto (chosen wants v wanted other w)
  chooses a true to test behind q onto f v stack w wanted other known jumps h1 h2 =
      let s = st a f test (v ∷ stack) w in
      let l = does a f test (v ∷ stack) w (instruction.JumpOnFalse jumps.distance) behind known jumps.stands in
      by_decision a w s q onto v (Goes (st a f behind stack w)) (Goes (st a f to stack w)) (stops NonBoolean (shown on w)) wanted other (Stopped NonBoolean w)
      (subst (λ n. Leads on s (decided v (Goes (st a f behind stack w)) n (stops NonBoolean (shown on w)))) (landed a f jumps.distance to test behind stack (shown on w) jumps.lands) l)
      h1 h2 (λ l. l)
  chooses a false to test behind q onto f v stack w wanted other known jumps h1 h2 =
      let s = st a f test (v ∷ stack) w in
      let l = does a f test (v ∷ stack) w (instruction.JumpOnTrue jumps.distance) behind known jumps.stands in
      by_decision a w s q onto v (Goes (st a f to stack w)) (Goes (st a f behind stack w)) (stops NonBoolean (shown on w)) other wanted (Stopped NonBoolean w)
      (subst (λ n. Leads on s (decided v n (Goes (st a f behind stack w)) (stops NonBoolean (shown on w)))) (landed a f jumps.distance to test behind stack (shown on w) jumps.lands) l)
      h2 h1 (λ l. l)

  pub up_to : (a : Active on) (e : Tree) (position : Position) (p q : ℕ) → CodeAt a e position p q → p ≤ q
  up_to a e position p q r = ahead a.of.bytes (entries_of a.of.literals) a.means.blocks (starts a.key) e position p q r

  -- the constant of `and:` or `or:`
  pub shortcut_for : (a : Active on) (wants : Bool) (f : Activation) (p q : ℕ) (stack : List Value) (w : World) → Known a w f → Written a.of.bytes p (instruction.PushFixed (shortcut_number wants)) q
      → Leads on (st a f p stack w) (Goes (st a f q (otherwise wants ∷ stack) w))
  shortcut_for a true f p q stack w known r = does a f p stack w (instruction.PushFixed 2) q known r
  shortcut_for a false f p q stack w known r = does a f p stack w (instruction.PushFixed 1) q known r

  -- a jump back
  pub again : (next : Evaluator) (a : Active on) (e : Tree) (position : Position) (p q over done : ℕ) (stack : List Value) (w : World) (f : Activation) → Known a w f → JumpsTo a.of.bytes instruction.Jump p over done → p < done
      → ((w1 : World) → Known a w1 f → suc a.from ≤ w1.ticks → Follows a w1 (st a f p stack w1) q (λ v. push position v stack) (next e (here_of a) w1 f))
      → Follows a w (st a f over stack w) q (λ v. push position v stack) (ticks budget w (λ w1. next e (here_of a) w1 f))
  again next a e position p q over done stack w f known r down sim =
      let s = st a f over stack w in
      let c = context a f over stack in
      let back : is_negative r.distance ≡ true = goes_back done p r.distance r.lands down in
      let l = does a f over stack w (instruction.Jump r.distance) done known r.stands in
      by_tick a w s q (λ v. push position v stack) w.ticks (jump t codes code budget r.distance c done stack a.below (one_tick (shown on w))) (stops (Budget budget) (shown on w))
      (next e (here_of a) (one_tick w) f) (Stopped (Budget budget) w)
      (subst (λ b. Leads on s (if b then ticked budget (shown on w) (jump t codes code budget r.distance c done stack a.below) else jump t codes code budget r.distance c done stack a.below (shown on w))) back l)
      (λ low l. after_leads a w (one_tick w) s (st a f p stack (one_tick w)) q (λ v. push position v stack) (next e (here_of a) (one_tick w) f) (tick_alike w known.fine low) (subst (Leads on s) (landed a f r.distance p over done stack (one_tick (shown on w)) r.lands) l) (sim (one_tick w) (record { number = known.number; seen = known.seen; fine = record { placed = known.fine.placed; unique = known.fine.unique; made = known.fine.made; in_time = low }; home = known.home; spent = omega (arith, known.spent) }) (omega (arith, known.spent))))
      (λ l. l)

  pub repeat_down : (a : Active on) (wants : Bool) (c e : Tree) (position : Position) (p q : ℕ) (r : CodeAt a (repeat wants c e) position p q) → p < r.done
  repeat_down a wants c e position p q r =
      let x = up_to a c Wanted p r.test r.condition in
      let y = goes_forward a.of.bytes r.test (jump_unless wants r.unless.distance) r.body_at r.unless.stands.stands in
      let z = up_to a e Effect r.body_at r.over r.body in
      let u = goes_forward a.of.bytes r.over (instruction.Jump r.back.distance) r.done r.back.stands.stands in
      omega (arith, x, y, z, u)
