-- Facts that the machine follows, one behind another, and one instruction.
use Rattle.std.proofs.Common.{◌≡◌, ◌∙◌, ap, sym, subst, refl, ℕ, suc, List, ◌∷◌, Bool, true, false, ◌≤◌, nat_lt, arith, Some, option_and_then, if◌then◌else◌}
use Rattle.std.proofs.lemmas.Bool.Decides.{nat_tests}
use Rattle.s80_code.specs.declared.instruction.Instruction.{Instruction}
use Rattle.s80_code.specs.declared.instruction.Instruction.TheVariants as instruction
use Rattle.s80_code.specs.Table.{Stands}
use Rattle.s80_code.specs.Spelling.{Written}
use Rattle.s80_object.specs.declared.value.Value.{Value}
use Rattle.s80_object.specs.declared.value.Value.TheVariants as val
use Rattle.s80_scope.specs.declared.fit.position.Position.{Position}
use Rattle.s80_scope.specs.declared.fit.position.Position.TheVariants.{Value as Wanted, Effect}
use Rattle.s80_compile.specs.Rows.{Ends as EndsSo, NilFor}
use Rattle.s80_machine.specs.World.{World, Activation, one_tick}
use Rattle.s80_machine.specs.Turn.{State, Turn, Goes}
use Rattle.s80_machine.specs.Shared.{decided}
use Rattle.s80_machine.specs.Step.{act, code_at, code_for, turn_at, turn_of}
use Rattle.s80_meaning.specs.Meaning.{Out, Gives, Answers, Returns, Stopped, Unfinished, and_then, ticked as ticks}
use Rattle.s80_meaning.proofs.Variables.{Alike, alike_then, mark, same_alike}
use Rattle.s80_meaning.proofs.Stays as stays
use Rattle.s80_meaning.proofs.Stays.{IsFine}
use Rattle.s80_meaning.proofs.Corresponds.{Active, Follows, Known, Leads, Setting, chain, context, facts, no_step, one_step, push, shown, st}

-- ---- a tick

below_budget : (n budget : ℕ) → nat_lt n budget ≡ true → suc n ≤ budget
below_budget n budget e = grind (arith, nat_tests, e)

pub tick_alike : {facts : stays.Facts} (w : World) → IsFine facts w → suc w.ticks ≤ facts.budget → Alike facts w (one_tick w)
tick_alike w fine low = record { later = record { keys = λ n key e. e; homes = λ whole parts e. e; ticks = omega arith }; fine = record { placed = fine.placed; unique = fine.unique; made = fine.made; in_time = low } }

module _ {on : Setting} where
  open on use {table as t, codes, code, budget}

  pub known_later : (a : Active on) (w w1 : World) (f g : Activation) → Known a w f → Alike (facts on) w w1 → mark g ≡ a.seen → Known a w1 g
  known_later a w w1 f g known alike seen = record {
    number = alike.later.keys a.number a.key known.number;
    seen = seen;
    fine = alike.fine;
    home = λ h e. stays.key_stays w w1 alike.later (val.Object h) a.key (known.home h e);
    spent = omega (arith, known.spent, alike.later.ticks);
  }

  -- further on, from a state that comes behind
  pub after_leads : {A : Type 0} (a : Active on) (w0 w1 : World) (s u : State) (q : ℕ) (onto : A → List Value) (o : Out A) → Alike (facts on) w0 w1 → Leads on s (Goes u) → Follows a w1 u q onto o → Follows a w0 s q onto o
  after_leads a w0 w1 s u q onto (Gives x w f) k l r = (alike_then (facts on) w0 w1 w k r.0, r.1, chain l r.2)
  after_leads a w0 w1 s u q onto (Answers v w) k l r = (alike_then (facts on) w0 w1 w k r.0, chain l r.1)
  after_leads a w0 w1 s u q onto (Returns h v w) k l r = (alike_then (facts on) w0 w1 w k r.0, chain l r.1, r.2)
  after_leads a w0 w1 s u q onto (Stopped stop w) k l r = chain l r
  after_leads a w0 w1 s u q onto Unfinished k l r = chain l r

  -- one thing after another
  pub seq_with : {A B : Type 0} (a : Active on) (w0 : World) (f0 : Activation) (s : State) (q1 q : ℕ) (onto1 : A → List Value) (onto : B → List Value) (o : Out A) (go : A → World → Activation → Out B) → Known a w0 f0 → Follows a w0 s q1 onto1 o
      → ((x : A) (w : World) (f : Activation) → o ≡ Gives x w f → Known a w f → Follows a w (st a f q1 (onto1 x) w) q onto (go x w f)) → Follows a w0 s q onto (and_then o go)
  seq_with a w0 f0 s q1 q onto1 onto (Gives x w f) go known r k = after_leads a w0 w s (st a f q1 (onto1 x) w) q onto (go x w f) r.0 r.2 (k x w f refl (known_later a w0 w f0 f known r.0 r.1))
  seq_with a w0 f0 s q1 q onto1 onto (Answers v w) go known r k = r
  seq_with a w0 f0 s q1 q onto1 onto (Returns h v w) go known r k = r
  seq_with a w0 f0 s q1 q onto1 onto (Stopped stop w) go known r k = r
  seq_with a w0 f0 s q1 q onto1 onto Unfinished go known r k = r

  pub seq : {A B : Type 0} (a : Active on) (w0 : World) (f0 : Activation) (s : State) (q1 q : ℕ) (onto1 : A → List Value) (onto : B → List Value) (o : Out A) (go : A → World → Activation → Out B) → Known a w0 f0 → Follows a w0 s q1 onto1 o
      → ((x : A) (w : World) (f : Activation) → Known a w f → Follows a w (st a f q1 (onto1 x) w) q onto (go x w f)) → Follows a w0 s q onto (and_then o go)
  seq a w0 f0 s q1 q onto1 onto o go known r k = seq_with a w0 f0 s q1 q onto1 onto o go known r (λ x w f e known. k x w f known)

  -- further steps at the end
  pub onward : {A : Type 0} (a : Active on) (w0 : World) (f0 : Activation) (s : State) (q1 q : ℕ) (onto1 onto : A → List Value) (o : Out A) → Known a w0 f0 → Follows a w0 s q1 onto1 o
      → ((x : A) (w : World) (f : Activation) → Known a w f → Leads on (st a f q1 (onto1 x) w) (Goes (st a f q (onto x) w))) → Follows a w0 s q onto o
  onward a w0 f0 s q1 q onto1 onto (Gives x w f) known r k = (r.0, r.1, chain r.2 (k x w f (known_later a w0 w f0 f known r.0 r.1)))
  onward a w0 f0 s q1 q onto1 onto (Answers v w) known r k = r
  onward a w0 f0 s q1 q onto1 onto (Returns h v w) known r k = r
  onward a w0 f0 s q1 q onto1 onto (Stopped stop w) known r k = r
  onward a w0 f0 s q1 q onto1 onto Unfinished known r k = r

  -- nothing was changed
  pub gives : {A : Type 0} (a : Active on) (w : World) (f : Activation) (s : State) (q : ℕ) (onto : A → List Value) (x : A) → Known a w f → Leads on s (Goes (st a f q (onto x) w)) → Follows a w s q onto (Gives x w f)
  gives a w f s q onto x known l = (same_alike (facts on) w known.fine, known.seen, l)

  -- one instruction
  pub does_there : (a : Active on) (f : Activation) (p : ℕ) (stack : List Value) (w : World) (i : Instruction) (q : ℕ) → Known a w f → Stands a.of.bytes p i q
      → Leads on (st a f p stack w) (act t codes code budget a.of (context a f p stack) q a.below (shown on w) i)
  does_there a f p stack w i q known h =
      let c = context a f p stack in
      let code_there : code_at codes code (shown on w) a.number ≡ Some a.of = ap (option_and_then (code_for codes code)) known.number ∙ a.code_is in
      one_step on (st a f p stack w) (act t codes code budget a.of c q a.below (shown on w) i)
      (ap (turn_of t codes code budget c a.below (shown on w)) code_there ∙ ap (turn_at t codes code budget c a.below (shown on w) a.of) h.is_decoded
      ∙ ap (λ to. act t codes code budget a.of c to a.below (shown on w) i) (sym h.behind))

  pub does : (a : Active on) (f : Activation) (p : ℕ) (stack : List Value) (w : World) (i : Instruction) (q : ℕ) → Known a w f → Written a.of.bytes p i q
      → Leads on (st a f p stack w) (act t codes code budget a.of (context a f p stack) q a.below (shown on w) i)
  does a f p stack w i q known h = does_there a f p stack w i q known h.stands

  pub moved : (a : Active on) (f : Activation) (p q : ℕ) (stack : List Value) (w : World) → p ≡ q → Leads on (st a f p stack w) (Goes (st a f q stack w))
  moved a f p q stack w e = subst (λ x. Leads on (st a f p stack w) (Goes (st a f x stack w))) e (no_step on (st a f p stack w))

  pub finish : (a : Active on) (f : Activation) (position : Position) (p q : ℕ) (v : Value) (stack : List Value) (w : World) → Known a w f → EndsSo a.of.bytes position p q
      → Leads on (st a f p (v ∷ stack) w) (Goes (st a f q (push position v stack) w))
  finish a f Wanted p q v stack w known e = moved a f p q (v ∷ stack) w e
  finish a f Effect p q v stack w known e = does a f p (v ∷ stack) w instruction.Pop q known e

  -- nil, where it is wanted
  pub nil_for : (a : Active on) (f : Activation) (position : Position) (p q : ℕ) (stack : List Value) (w : World) → Known a w f → NilFor a.of.bytes position p q
      → Leads on (st a f p stack w) (Goes (st a f q (push position val.Nil stack) w))
  nil_for a f Wanted p q stack w known e = does a f p stack w (instruction.PushFixed 3) q known e
  nil_for a f Effect p q stack w known e = moved a f p q stack w e

  -- the same test on both sides
  pub by_test : {A : Type 0} (a : Active on) (w : World) (s : State) (q : ℕ) (onto : A → List Value) (b : Bool) (n1 n2 : Turn) (o1 o2 : Out A) → Leads on s (if b then n1 else n2) → (Leads on s n1 → Follows a w s q onto o1)
      → (Leads on s n2 → Follows a w s q onto o2) → Follows a w s q onto (if b then o1 else o2)
  by_test a w s q onto true n1 n2 o1 o2 l h1 h2 = h1 l
  by_test a w s q onto false n1 n2 o1 o2 l h1 h2 = h2 l

  pub by_tick : {A : Type 0} (a : Active on) (w : World) (s : State) (q : ℕ) (onto : A → List Value) (ticks : ℕ) (n1 n2 : Turn) (o1 o2 : Out A) → Leads on s (if nat_lt ticks budget then n1 else n2) → (suc ticks ≤ budget → Leads on s n1 → Follows a w s q onto o1)
      → (Leads on s n2 → Follows a w s q onto o2) → Follows a w s q onto (if nat_lt ticks budget then o1 else o2)
  by_tick {A} a w s q onto ticks n1 n2 o1 o2 l h1 h2 = by_low (nat_lt ticks budget) refl l
    where
      by_low : (low : Bool) → nat_lt ticks budget ≡ low → Leads on s (if low then n1 else n2) → Follows {A = A} a w s q onto (if low then o1 else o2)
      by_low true e l = h1 (below_budget ticks budget e) l
      by_low false e l = h2 l

  pub by_decision : {A : Type 0} (a : Active on) (w : World) (s : State) (q : ℕ) (onto : A → List Value) (v : Value) (n1 n2 n3 : Turn) (o1 o2 o3 : Out A) → Leads on s (decided v n1 n2 n3) → (Leads on s n1 → Follows a w s q onto o1)
      → (Leads on s n2 → Follows a w s q onto o2) → (Leads on s n3 → Follows a w s q onto o3) → Follows a w s q onto (decided v o1 o2 o3)
  by_decision a w s q onto val.True n1 n2 n3 o1 o2 o3 l h1 h2 h3 = h1 l
  by_decision a w s q onto val.False n1 n2 n3 o1 o2 o3 l h1 h2 h3 = h2 l
  by_decision a w s q onto _ n1 n2 n3 o1 o2 o3 l h1 h2 h3 = h3 l
