-- The machine follows variables: what a leaf gives is pushed, and what is assigned is stored.
use Rattle.std.proofs.Common.{option_map, ◌≡◌, ◌∙◌, ap, subst, refl, ℕ, List, ◌∷◌, Option, Some, None, option_and_then}
use Rattle.s80_code.specs.declared.instruction.Instruction.{Instruction}
use Rattle.s80_code.specs.declared.instruction.Instruction.TheVariants as instruction
use Rattle.s80_core.specs.Core.{LeafTree, VariableTree}
use Rattle.s80_core.specs.Core as core
use Rattle.s80_core.specs.Measures.{fixed_number}
use Rattle.s80_code.specs.declared.instruction.Storage.{Storage}
use Rattle.s80_code.specs.Entries.{entries_of}
use Rattle.s80_code.specs.Spelling.{Written}
use Rattle.s80_object.specs.declared.value.Value.{Value}
use Rattle.s80_meaning.proofs.Extends.{field_extends}
use Rattle.s80_object.specs.declared.value.Value.TheVariants as val
use Rattle.s80_scope.specs.declared.fit.position.Position.{Position}
use Rattle.s80_scope.specs.declared.fit.position.Position.TheVariants.{Value as Wanted, Effect}
use Rattle.s80_compile.specs.Rows.{Holds, Pushes, Stores, One}
use Rattle.s80_machine.specs.World.{World, Activation, variable_named, with_receiver_variable, with_variable}
use Rattle.s80_machine.specs.Turn.{given, goes_on}
use Rattle.s80_machine.specs.Step.{act, store}
use Rattle.s80_meaning.specs.Meaning.{Gives, read, same_activation, written, with_part}
use Rattle.s80_meaning.specs.Meaning as meaning
use Rattle.s80_meaning.proofs.Variables.{read_shown, written_shown}
use Rattle.s80_meaning.proofs.NaturalWorld.{image_pair, written_image}
use Rattle.s80_meaning.proofs.Stays.{place_in}
use Rattle.s80_meaning.proofs.Corresponds.{Active, Follows, Known, Leads, Setting, context, facts, here_of, push, shown, st}
use Rattle.s80_meaning.proofs.Following.{does, gives}
use Rattle.s80_meaning.proofs.LiteralsFollow.{constant_pushed, given_pushed}

module _ {on : Setting} where
  open on use {table as t, methods, meant, codes, code, budget, starts}

  variable_pushed : (a : Active on) (f : Activation) (p mid : ℕ) (stack : List Value) (w : World) (v : VariableTree) (s : Storage) → Known a w f → Holds (entries_of a.of.literals) v s → Written a.of.bytes p (instruction.Push s) mid
      → Follows a w (st a f p stack w) mid (λ v. v ∷ stack) (with_part (read w f a.receiver v) (λ x. Gives x w f))
  variable_pushed a f p mid stack w v s known holds r =
      given_pushed a f p mid stack w (read w f a.receiver v) known
      (subst (λ o. Leads on (st a f p stack w) (given o (λ x. goes_on (context a f p stack) mid (x ∷ stack) a.below (shown on w)))) (read_shown starts w f a.receiver v)
      (subst (Leads on (st a f p stack w)) (by_variable v holds) (does a f p stack w (instruction.Push s) mid known r)))
    where
      by_variable : (v : VariableTree) → Holds (entries_of a.of.literals) v s
          → act t codes code budget a.of (context a f p stack) mid a.below (shown on w) (instruction.Push s) ≡ given (read (shown on w) f a.receiver v) (λ x. goes_on (context a f p stack) mid (x ∷ stack) a.below (shown on w))
      by_variable (core.temporary i) h = ap (λ s. act t codes code budget a.of (context a f p stack) mid a.below (shown on w) (instruction.Push s)) h
      by_variable (core.instance i) h = ap (λ s. act t codes code budget a.of (context a f p stack) mid a.below (shown on w) (instruction.Push s)) h
      by_variable (core.class_variable class name) (k, is, there) =
          ap (λ s. act t codes code budget a.of (context a f p stack) mid a.below (shown on w) (instruction.Push s)) is
          ∙ ap (λ o. given (option_and_then variable_named o) (λ u. goes_on (context a f p stack) mid ((shown on w).variables u ∷ stack) a.below (shown on w))) there
      by_variable (core.outer name) (k, is, there) =
          ap (λ s. act t codes code budget a.of (context a f p stack) mid a.below (shown on w) (instruction.Push s)) is
          ∙ ap (λ o. given (option_and_then variable_named o) (λ u. goes_on (context a f p stack) mid ((shown on w).variables u ∷ stack) a.below (shown on w))) there

  pub leaf_pushed : (a : Active on) (f : Activation) (p mid : ℕ) (stack : List Value) (w : World) (l : LeafTree) (i : Instruction) → Known a w f → Pushes (entries_of a.of.literals) l i → Written a.of.bytes p i mid
      → Follows a w (st a f p stack w) mid (λ v. v ∷ stack) (meaning.leaf_value t methods meant budget (here_of a) w f l)
  leaf_pushed a f p mid stack w (core.variable v) i known (s, is, holds) r = variable_pushed a f p mid stack w v s known holds (subst (λ i. Written a.of.bytes p i mid) is r)
  leaf_pushed a f p mid stack w (core.constant l) i known is r = constant_pushed a f p mid stack w l i (fixed_number l) known is r
  leaf_pushed a f p mid stack w core.receiver i known is r = gives a w f (st a f p stack w) mid (λ v. v ∷ stack) a.receiver known (does a f p stack w (instruction.PushFixed 0) mid known (subst (λ i. Written a.of.bytes p i mid) is r))
  leaf_pushed a f p mid stack w core.context i known it r = gives a w f (st a f p stack w) mid (λ v. v ∷ stack) val.Context known (does a f p stack w instruction.PushContext mid known (subst (λ i. Written a.of.bytes p i mid) it r))

  -- ---- assignments

  stored_so : (a : Active on) (f : Activation) (p mid : ℕ) (v : VariableTree) (storage : Storage) (x : Value) (left : List Value) (w : World) → Holds (entries_of a.of.literals) v storage
      → store t codes code budget a.of (context a f p left) mid a.below w storage x left ≡ given (written w f a.receiver v x) (λ q. goes_on (context a q.1 p left) mid left a.below q.0)
  stored_so a f p mid (core.temporary i) storage x left w h = ap (λ s. store t codes code budget a.of (context a f p left) mid a.below w s x left) h
  stored_so a f p mid (core.instance i) storage x left w h =
      ap (λ s. store t codes code budget a.of (context a f p left) mid a.below w s x left) h ∙ by_receiver (with_receiver_variable w a.receiver i x)
    where
      by_receiver : (o : Option World) → given o (goes_on (context a f p left) mid left a.below) ≡ given (option_map (same_activation f) o) (λ q. goes_on (context a q.1 p left) mid left a.below q.0)
      by_receiver None = refl
      by_receiver (Some w1) = refl
  stored_so a f p mid (core.class_variable class name) storage x left w (k, is, there) =
      ap (λ s. store t codes code budget a.of (context a f p left) mid a.below w s x left) is ∙ ap (λ o. given (option_and_then variable_named o) (λ u. goes_on (context a f p left) mid left a.below (with_variable w u x))) there
  stored_so a f p mid (core.outer name) storage x left w (k, is, there) =
      ap (λ s. store t codes code budget a.of (context a f p left) mid a.below w s x left) is ∙ ap (λ o. given (option_and_then variable_named o) (λ u. goes_on (context a f p left) mid left a.below (with_variable w u x))) there

  pub assigned : (a : Active on) (position : Position) (f : Activation) (p q : ℕ) (v : VariableTree) (x : Value) (stack : List Value) (w : World) → Known a w f → One a.of.bytes (Stores (entries_of a.of.literals) v position) p q
      → Follows a w (st a f p (x ∷ stack) w) q (λ v. push position v stack) (with_part (written w f a.receiver v x) (λ p. Gives x p.0 p.1))
  assigned a position f p q v x stack w known r = by_written (written w f a.receiver v x) refl
    where
      machine : (position : Position) → One a.of.bytes (Stores (entries_of a.of.literals) v position) p q
          → Leads on (st a f p (x ∷ stack) w) (given (written (shown on w) f a.receiver v x) (λ z. goes_on (context a z.1 p (push position x stack)) q (push position x stack) a.below z.0))
      machine Wanted r =
          subst (Leads on (st a f p (x ∷ stack) w)) (stored_so a f p q v r.is.0 x (x ∷ stack) (shown on w) r.is.2)
          (does a f p (x ∷ stack) w (instruction.Store r.is.0) q known (subst (λ i. Written a.of.bytes p i q) r.is.1 r.stands))
      machine Effect r =
          subst (Leads on (st a f p (x ∷ stack) w)) (stored_so a f p q v r.is.0 x stack (shown on w) r.is.2)
          (does a f p (x ∷ stack) w (instruction.PopInto r.is.0) q known (subst (λ i. Written a.of.bytes p i q) r.is.1 r.stands))

      by_written : (o : Option (World × Activation)) → written w f a.receiver v x ≡ o → Follows a w (st a f p (x ∷ stack) w) q (λ v. push position v stack) (with_part o (λ p. Gives x p.0 p.1))
      by_written None e =
          let none : written (shown on w) f a.receiver v x ≡ None = written_image (place_in starts w) w f a.receiver v x ∙ ap (option_map (image_pair (place_in starts w))) e in
          subst (λ o. Leads on (st a f p (x ∷ stack) w) (given o (λ z. goes_on (context a z.1 p (push position x stack)) q (push position x stack) a.below z.0))) none (machine position r)
      by_written (Some z) e =
          let both = written_shown starts (facts on) field_extends w f a.receiver v x z known.fine e in
          (both.1, both.2 ∙ known.seen, subst (λ o. Leads on (st a f p (x ∷ stack) w) (given o (λ z. goes_on (context a z.1 p (push position x stack)) q (push position x stack) a.below z.0))) both.0 (machine position r))
