-- The machine follows each tree, by induction on it, where it follows all that a tick more is taken for.
use Rattle.std.proofs.Common.{ℕ, suc, List, [], ◌∷◌, slice_get, Bool, ◌≤◌, arith, Option, Some, None}
use Rattle.s80_code.specs.declared.instruction.Instruction.TheVariants as instruction
use Rattle.s80_object.specs.declared.value.Value.{Value}
use Rattle.s80_object.specs.declared.value.Value.TheVariants as val
use Rattle.s80_scope.specs.declared.fit.position.Position.TheVariants.{Value as Wanted, Effect}
use Rattle.s80_compile.specs.Rows.{shortcut_number}
use Rattle.s80_machine.specs.World.{World, Activation}
use Rattle.s80_machine.specs.Turn.{pushed_all, given, return_from}
use Rattle.s80_machine.specs.Shared.{fixed}
use Rattle.s80_machine.specs.Step.{sent}
use Rattle.s80_meaning.specs.Tree.{Tree, Trees, Sends, count, no_trees, trees, no_sends, sends, leaf, assign, value as inner, send, cascade, real, two_arms, one_arm, shortcut, repeat, nothing, before, answer, answer_fixed, leave}
use Rattle.s80_meaning.specs.Meaning.{Out, Gives, Answers, and_then, chosen, otherwise, returned, written, ticked as ticks, with_part, Here}
use Rattle.s80_meaning.specs.Meaning as meaning
use Rattle.s80_meaning.proofs.Variables.{same_alike}
use Rattle.s80_meaning.proofs.Counted.{AllSent, SendsSent}
use Rattle.s80_meaning.proofs.Ahead.{nil_ahead}
use Rattle.s80_meaning.proofs.Corresponds.{Active, AllCodeAt, Deeper, Follows, Known, Leads, SendsCodeAt, Setting, Sim, chain, facts, here_of, push, shown, st}
use Rattle.s80_meaning.proofs.Following.{after_leads, does, finish, gives, moved, nil_for, onward, seq, seq_with}
use Rattle.s80_meaning.proofs.ReturnsFollow.{returns}
use Rattle.s80_meaning.proofs.JumpsFollow.{again, below_next, chooses, passes, repeat_down, shortcut_for, up_to}
use Rattle.s80_meaning.proofs.VariablesFollow.{assigned, leaf_pushed}
use Rattle.s80_meaning.proofs.BlocksFollow.{real_so}
use Rattle.s80_meaning.proofs.MessagesFollow.{counted_all, message_so, put_first, sends_so}

module _ {on : Setting} (deeper : Deeper on) where
  open on use {table as t, methods, meant, budget}
  open deeper use {next, k, sim}

  abbrev evaluated : Tree → Here → World → Activation → Out Value
  evaluated = meaning.ev t methods meant budget next

  abbrev all_evaluated : Trees → Here → World → Activation → Out (List Value)
  all_evaluated = meaning.ev_all t methods meant budget next

  mutual
    pub follows : Sim on k evaluated
    follows a enough (leaf l) position p q r sent f stack w known =
        onward a w f (st a f p stack w) r.mid q (λ v. v ∷ stack) (λ v. push position v stack) (meaning.leaf_value t methods meant budget (here_of a) w f l)
        known (leaf_pushed a f p r.mid stack w l r.first.instruction known r.first.is r.first.stands) (λ v w1 f1 known1. finish a f1 position r.mid q v stack w1 known1 r.second)
    follows a enough (assign v e) position p q r sent f stack w known =
        seq a w f (st a f p stack w) r.mid q (λ v. v ∷ stack) (λ v. push position v stack) (evaluated e (here_of a) w f) (λ x w1 f1. with_part (written w1 f1 a.receiver v x) (λ p. Gives x p.0 p.1)) known
        (follows a enough e Wanted p r.mid r.first sent f stack w known) (λ x w1 f1 known1. assigned a position f1 r.mid q v x stack w1 known1 r.second)
    follows a enough (inner e) position p q r sent f stack w known =
        onward a w f (st a f p stack w) r.mid q (λ v. v ∷ stack) (λ v. push position v stack) (evaluated e (here_of a) w f) known (follows a enough e Wanted p r.mid r.first sent f stack w known)
        (λ v w1 f1 known1. finish a f1 position r.mid q v stack w1 known1 r.second)
    follows a enough (send x to_super s es) position p q r sent f stack w known =
        seq a w f (st a f p stack w) r.mid q (λ v. v ∷ stack) (λ v. push position v stack) (evaluated x (here_of a) w f)
        (λ v w1 f1. and_then (all_evaluated es (here_of a) w1 f1) (λ xs w2 f2. meaning.sent_to t methods meant budget next to_super s v xs (here_of a) w2 f2))
        known (follows a enough x Wanted p r.mid r.first sent.0 f stack w known)
        (λ v w1 f1 known1.
        seq_with a w1 f1 (st a f1 r.mid (v ∷ stack) w1) r.second.mid q (λ xs. pushed_all xs (v ∷ stack)) (λ v. push position v stack) (all_evaluated es (here_of a) w1 f1)
        (λ xs w2 f2. meaning.sent_to t methods meant budget next to_super s v xs (here_of a) w2 f2)
        known1 (follows_all a enough es r.mid r.second.mid r.second.first sent.1.0 f1 (v ∷ stack) w1 known1)
        (λ xs w2 f2 e known2.
        onward a w2 f2 (st a f2 r.second.mid (pushed_all xs (v ∷ stack)) w2) r.second.second.mid q (λ v. v ∷ stack) (λ v. push position v stack) (meaning.sent_to t methods meant budget next to_super s v xs (here_of a) w2 f2)
        known2 (sends_so deeper a enough f2 r.second.second.mid stack to_super s (count es) r.second.mid v xs w2 known2 (counted_all deeper es (here_of a) w1 f1 xs w2 f2 e) sent.1.1 r.second.second.first)
        (λ u w3 f3 known3. finish a f3 position r.second.second.mid q u stack w3 known3 r.second.second.second)))
    follows a enough (cascade x to_super ms) position p q r sent f stack w known =
        seq a w f (st a f p stack w) r.mid q (λ v. v ∷ stack) (λ v. push position v stack) (evaluated x (here_of a) w f)
        (λ v w1 f1. meaning.ev_sends t methods meant budget next ms to_super v (here_of a) w1 f1)
        known (follows a enough x Wanted p r.mid r.first sent.0 f stack w known)
        (λ v w1 f1 known1.
        onward a w1 f1 (st a f1 r.mid (v ∷ stack) w1) r.second.mid q (λ v. v ∷ stack) (λ v. push position v stack) (meaning.ev_sends t methods meant budget next ms to_super v (here_of a) w1 f1)
        known1 (follows_sends a enough ms to_super v r.mid r.second.mid r.second.first sent.1 f1 stack w1 known1)
        (λ u w2 f2 known2. finish a f2 position r.second.mid q u stack w2 known2 r.second.second))
    follows a enough (real n) position p q r sent f stack w known = real_so next a n position p q r f stack w known
    follows a enough (two_arms wants c x y) position p q r sent f stack w known =
        seq a w f (st a f p stack w) r.test q (λ v. v ∷ stack) (λ v. push position v stack) (evaluated c (here_of a) w f)
        (λ v w1 f1. chosen wants v (evaluated x (here_of a) w1 f1) (evaluated y (here_of a) w1 f1) w1)
        known (follows a enough c Wanted p r.test r.condition sent.0 f stack w known)
        (λ v w1 f1 known1.
        chooses a wants r.second_at r.test r.first_at q (λ v. push position v stack) f1 v stack w1 (evaluated x (here_of a) w1 f1) (evaluated y (here_of a) w1 f1) known1 r.unless
        (λ l. after_leads a w1 w1 (st a f1 r.test (v ∷ stack) w1) (st a f1 r.first_at stack w1) q (λ v. push position v stack) (evaluated x (here_of a) w1 f1) (same_alike (facts on) w1 known1.fine) l
        (onward a w1 f1 (st a f1 r.first_at stack w1) r.over q (λ v. push position v stack) (λ v. push position v stack) (evaluated x (here_of a) w1 f1)
        known1 (follows a enough x position r.first_at r.over r.first sent.1.0 f1 stack w1 known1) (λ u w2 f2 known2. passes a q r.over r.second_at f2 (push position u stack) w2 known2 r.past (up_to a y position r.second_at q r.second))))
        (λ l. after_leads a w1 w1 (st a f1 r.test (v ∷ stack) w1) (st a f1 r.second_at stack w1) q (λ v. push position v stack) (evaluated y (here_of a) w1 f1) (same_alike (facts on) w1 known1.fine) l
        (follows a enough y position r.second_at q r.second sent.1.1 f1 stack w1 known1)))
    follows a enough (one_arm wants c x) Wanted p q r sent f stack w known =
        seq a w f (st a f p stack w) r.test q (λ v. v ∷ stack) (λ v. v ∷ stack) (evaluated c (here_of a) w f)
        (λ v w1 f1. chosen wants v (evaluated x (here_of a) w1 f1) (Gives val.Nil w1 f1) w1)
        known (follows a enough c Wanted p r.test r.condition sent.0 f stack w known)
        (λ v w1 f1 known1.
        chooses a wants r.second_at r.test r.first_at q (λ v. v ∷ stack) f1 v stack w1 (evaluated x (here_of a) w1 f1) (Gives val.Nil w1 f1) known1 r.unless
        (λ l. after_leads a w1 w1 (st a f1 r.test (v ∷ stack) w1) (st a f1 r.first_at stack w1) q (λ v. v ∷ stack) (evaluated x (here_of a) w1 f1) (same_alike (facts on) w1 known1.fine) l
        (onward a w1 f1 (st a f1 r.first_at stack w1) r.over q (λ v. v ∷ stack) (λ v. v ∷ stack) (evaluated x (here_of a) w1 f1)
        known1 (follows a enough x Wanted r.first_at r.over r.first sent.1 f1 stack w1 known1) (λ u w2 f2 known2. passes a q r.over r.second_at f2 (u ∷ stack) w2 known2 r.past (nil_ahead a.of.bytes Wanted r.second_at q r.second))))
        (λ l. gives a w1 f1 (st a f1 r.test (v ∷ stack) w1) q (λ v. v ∷ stack) val.Nil known1 (chain l (nil_for a f1 Wanted r.second_at q stack w1 known1 r.second))))
    follows a enough (one_arm wants c x) Effect p q r sent f stack w known =
        seq a w f (st a f p stack w) r.test q (λ v. v ∷ stack) (λ v. stack) (evaluated c (here_of a) w f)
        (λ v w1 f1. chosen wants v (evaluated x (here_of a) w1 f1) (Gives val.Nil w1 f1) w1)
        known (follows a enough c Wanted p r.test r.condition sent.0 f stack w known)
        (λ v w1 f1 known1.
        chooses a wants q r.test r.arm_at q (λ v. stack) f1 v stack w1 (evaluated x (here_of a) w1 f1) (Gives val.Nil w1 f1) known1 r.unless
        (λ l. after_leads a w1 w1 (st a f1 r.test (v ∷ stack) w1) (st a f1 r.arm_at stack w1) q (λ v. stack) (evaluated x (here_of a) w1 f1) (same_alike (facts on) w1 known1.fine) l
        (follows a enough x Effect r.arm_at q r.arm sent.1 f1 stack w1 known1))
        (λ l. gives a w1 f1 (st a f1 r.test (v ∷ stack) w1) q (λ v. stack) val.Nil known1 l))
    follows a enough (shortcut wants c x) position p q s sent f stack w known =
        let r = s.first in
        seq a w f (st a f p stack w) r.test q (λ v. v ∷ stack) (λ v. push position v stack) (evaluated c (here_of a) w f)
        (λ v w1 f1. chosen wants v (evaluated x (here_of a) w1 f1) (Gives (otherwise wants) w1 f1) w1)
        known (follows a enough c Wanted p r.test r.condition sent.0 f stack w known)
        (λ v w1 f1 known1.
        chooses a wants r.second_at r.test r.first_at q (λ v. push position v stack) f1 v stack w1 (evaluated x (here_of a) w1 f1) (Gives (otherwise wants) w1 f1) known1 r.unless
        (λ l. after_leads a w1 w1 (st a f1 r.test (v ∷ stack) w1) (st a f1 r.first_at stack w1) q (λ v. push position v stack) (evaluated x (here_of a) w1 f1) (same_alike (facts on) w1 known1.fine) l
        (onward a w1 f1 (st a f1 r.first_at stack w1) r.over q (λ v. v ∷ stack) (λ v. push position v stack) (evaluated x (here_of a) w1 f1)
        known1 (follows a enough x Wanted r.first_at r.over r.first sent.1 f1 stack w1 known1)
        (λ u w2 f2 known2. chain (passes a s.mid r.over r.second_at f2 (u ∷ stack) w2 known2 r.past (below_next a.of.bytes r.second_at (instruction.PushFixed (shortcut_number wants)) s.mid r.second)) (finish a f2 position s.mid q u stack w2 known2 s.second))))
        (λ l. gives a w1 f1 (st a f1 r.test (v ∷ stack) w1) q (λ v. push position v stack) (otherwise wants) known1 (chain l (chain (shortcut_for a wants f1 r.second_at s.mid stack w1 known1 r.second) (finish a f1 position s.mid q (otherwise wants) stack w1 known1 s.second)))))
    follows a enough (repeat wants c e) position p q r sent f stack w known =
        seq a w f (st a f p stack w) r.test q (λ v. v ∷ stack) (λ v. push position v stack) (evaluated c (here_of a) w f)
        (λ v w1 f1. chosen wants v (and_then (evaluated e (here_of a) w1 f1) (λ x w2 f2. ticks budget w2 (λ w3. next (repeat wants c e) (here_of a) w3 f2))) (Gives val.Nil w1 f1) w1)
        known (follows a enough c Wanted p r.test r.condition sent.0 f stack w known)
        (λ v w1 f1 known1.
        chooses a wants r.done r.test r.body_at q (λ v. push position v stack) f1 v stack w1
        (and_then (evaluated e (here_of a) w1 f1) (λ x w2 f2. ticks budget w2 (λ w3. next (repeat wants c e) (here_of a) w3 f2))) (Gives val.Nil w1 f1) known1 r.unless
        (λ l. after_leads a w1 w1 (st a f1 r.test (v ∷ stack) w1) (st a f1 r.body_at stack w1) q (λ v. push position v stack)
        (and_then (evaluated e (here_of a) w1 f1) (λ x w2 f2. ticks budget w2 (λ w3. next (repeat wants c e) (here_of a) w3 f2))) (same_alike (facts on) w1 known1.fine) l
        (seq a w1 f1 (st a f1 r.body_at stack w1) r.over q (λ v. stack) (λ v. push position v stack) (evaluated e (here_of a) w1 f1)
        (λ x w2 f2. ticks budget w2 (λ w3. next (repeat wants c e) (here_of a) w3 f2))
        known1 (follows a enough e Effect r.body_at r.over r.body sent.1 f1 stack w1 known1)
        (λ x w2 f2 known2. again next a (repeat wants c e) position p q r.over r.done stack w2 f2 known2 r.back (repeat_down a wants c e position p q r) (λ w3 known3 late. sim (record a { from = suc k }) (omega arith) (repeat wants c e) position p q r sent f2 stack w3 (record { number = known3.number; seen = known3.seen; fine = known3.fine; home = known3.home; spent = omega (arith, enough, late) })))))
        (λ l. gives a w1 f1 (st a f1 r.test (v ∷ stack) w1) q (λ v. push position v stack) val.Nil known1 (chain l (nil_for a f1 position r.done q stack w1 known1 r.leaves))))
    follows a enough nothing position p q r sent f stack w known = gives a w f (st a f p stack w) q (λ v. push position v stack) val.Nil known (nil_for a f position p q stack w known r)
    follows a enough (before x y) position p q r sent f stack w known =
        seq a w f (st a f p stack w) r.mid q (λ v. stack) (λ v. push position v stack) (evaluated x (here_of a) w f) (λ v w1 f1. evaluated y (here_of a) w1 f1)
        known (follows a enough x Effect p r.mid r.first sent.0 f stack w known)
        (λ v w1 f1 known1. follows a enough y position r.mid q r.second sent.1 f1 stack w1 known1)
    follows a enough (answer e) position p q r sent f stack w known =
        seq a w f (st a f p stack w) r.mid q (λ v. v ∷ stack) (λ v. push position v stack) (evaluated e (here_of a) w f) (λ v w1 f1. returned f1 (here_of a).alive v w1)
        known (follows a enough e Wanted p r.mid r.first sent f stack w known)
        (λ v w1 f1 known1. returns a (st a f1 r.mid (v ∷ stack) w1) q (λ v. push position v stack) v w1 f1 known1 (does a f1 r.mid (v ∷ stack) w1 instruction.ReturnTop q known1 r.second))
    follows a enough (answer_fixed n) position p q r sent f stack w known =
        fixed_value (slice_get (fixed a.receiver) n) (does a f p stack w (instruction.ReturnFixed n) q known r)
      where
        fixed_value : (o : Option Value) → Leads on (st a f p stack w) (given o (λ v. return_from f v a.below (shown on w))) → Follows a w (st a f p stack w) q (λ (v : Value). push position v stack) (with_part o (λ v. returned {A = Value} f (here_of a).alive v w))
        fixed_value None l = l
        fixed_value (Some v) l = returns a (st a f p stack w) q (λ v. push position v stack) v w f known l
    follows a enough (leave e) position p q r sent f stack w known =
        seq a w f (st a f p stack w) r.mid q (λ v. v ∷ stack) (λ v. push position v stack) (evaluated e (here_of a) w f) (λ v w1 f1. Answers v w1)
        known (follows a enough e Wanted p r.mid r.first sent f stack w known)
        (λ v w1 f1 known1. (same_alike (facts on) w1 known1.fine, does a f1 r.mid (v ∷ stack) w1 instruction.ReturnFromBlock q known1 r.second))

    follows_all : (a : Active on) → k ≤ a.from → (es : Trees) (p q : ℕ) → AllCodeAt a es p q → AllSent es → (f : Activation) (stack : List Value) (w : World) → Known a w f
        → Follows a w (st a f p stack w) q (λ xs. pushed_all xs stack) (all_evaluated es (here_of a) w f)
    follows_all a enough no_trees p q r sent f stack w known = gives a w f (st a f p stack w) q (λ xs. pushed_all xs stack) [] known (moved a f p q stack w r)
    follows_all a enough (trees e es) p q r sent f stack w known =
        seq a w f (st a f p stack w) r.mid q (λ v. v ∷ stack) (λ xs. pushed_all xs stack) (evaluated e (here_of a) w f) (λ x w1 f1. and_then (all_evaluated es (here_of a) w1 f1) (λ xs w2 f2. Gives (x ∷ xs) w2 f2))
        known (follows a enough e Wanted p r.mid r.first sent.0 f stack w known)
        (λ x w1 f1 known1.
        put_first deeper a w1 (st a f1 r.mid (x ∷ stack) w1) q x stack (all_evaluated es (here_of a) w1 f1) (follows_all a enough es r.mid q r.second sent.1 f1 (x ∷ stack) w1 known1))

    follows_sends : (a : Active on) → k ≤ a.from → (ms : Sends) (to_super : Bool) (v : Value) (p q : ℕ) → SendsCodeAt a to_super ms p q → SendsSent ms → (f : Activation) (stack : List Value) (w : World) → Known a w f
        → Follows a w (st a f p (v ∷ stack) w) q (λ v. v ∷ stack) (meaning.ev_sends t methods meant budget next ms to_super v (here_of a) w f)
    follows_sends a enough no_sends to_super v p q r sent f stack w known = gives a w f (st a f p (v ∷ stack) w) q (λ v. v ∷ stack) v known (moved a f p q (v ∷ stack) w r)
    follows_sends a enough (sends s es ms) to_super v p q r sent f stack w known =
        message_so deeper a enough s es ms to_super v (λ p q r f stack w known. follows_all a enough es p q r sent.0.0 f stack w known)
        (λ p q r f stack w known. follows_sends a enough ms to_super v p q r sent.1 f stack w known) sent.0.1 p q r f stack w known
