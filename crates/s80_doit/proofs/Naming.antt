-- The code of a core tree names no more of the receiver's variables than the tree does.
use Rattle.std.proofs.Common.{◌≡◌, ◌∙◌, ap, sym, subst, refl, ℕ, zero, suc, ◌<◌, ℤ, pos, List, Bool, true, false, Option, Some, None}
use Rattle.s80_base.specs.Literal.{LiteralTree, small}
use Rattle.s80_code.specs.declared.instruction.Instruction.{Instruction}
use Rattle.s80_code.specs.declared.instruction.Instruction.TheVariants.{PopInto, PushFixed, ReturnFixed, ReturnTop, ReturnFromBlock, SendSpecial, Pop, Duplicate, PushContext, Jump}
use Rattle.s80_code.specs.declared.instruction.Storage.{Storage}
use Rattle.s80_code.specs.declared.instruction.Storage.TheVariants.{Temporary}
use Rattle.s80_code.specs.Entries.{EntryTree}
use Rattle.s80_code.specs.Table.{Stands}
use Rattle.s80_code.specs.Spelling.{Written}
use Rattle.s80_code.proofs.lemmas.TableLemmas.{value as same_value}
use Rattle.s80_scope.specs.declared.fit.position.Position.{Position}
use Rattle.s80_scope.specs.declared.fit.position.Position.TheVariants.{Value, Effect}
use Rattle.s80_core.specs.Core.{VariableTree, temporary, instance, class_variable, outer, LeafTree, variable, constant, receiver, context, CoreTree, CoreTrees, SendTrees, leaf, assign, value, send, cascade, real_block, two_arms, one_arm, shortcut, repeat, nothing, before, answer, answer_fixed, leave, no_cores, cores, no_sends, sends, count}
use Rattle.s80_core.specs.Measures.{fixed_number, sent_number}
use Rattle.s80_compile.specs.Rows.{Holds as HoldsVariable, PushesConstant, Pushes, Stores, send_of, SendsBy, SendsTo, jump_unless, One, Ends, NilFor, JumpsTo, JumpsOver, Takes, shortcut_number, At, AllAt, SendsAt}
use Rattle.s80_machine.specs.Sound.{of_receiver, receiver_variable_in}
use Rattle.s80_doit.proofs.Fields.{IsBelow, LeafIsBelow, AreBelow, AllBelow, SendsBelow}
use Rattle.s80_doit.proofs.Behind.{HoldsFrom, before_it}

-- an instruction names none of the receiver's variables but those below a number
abbrev pub NamesBelow : ℕ → Instruction → Type 0
NamesBelow v i = (k : ℕ) → receiver_variable_in i ≡ Some k → k < v

storage_below : (v : ℕ) (entries : List EntryTree) (x : VariableTree) (s : Storage) → IsBelow v x → HoldsVariable entries x s → (k : ℕ) → of_receiver s ≡ Some k → k < v
storage_below v entries (temporary number) s h is k e = absurd (let d : None ≡ Some k = sym (ap of_receiver is) ∙ e in cc)
storage_below v entries (instance place) s h is k e = let d : Some place ≡ Some k = sym (ap of_receiver is) ∙ e in subst (λ (n : ℕ). n < v) (same_value d) h
storage_below v entries (class_variable owner word) s h (n, is, found) k e = absurd (let d : None ≡ Some k = sym (ap of_receiver is) ∙ e in cc)
storage_below v entries (outer word) s h (n, is, found) k e = absurd (let d : None ≡ Some k = sym (ap of_receiver is) ∙ e in cc)

sent_plain : (to_super : Bool) (n number : ℕ) → receiver_variable_in (send_of to_super n number) ≡ None
sent_plain true n number = refl
sent_plain false n number = refl

sends_plain : (entries : List EntryTree) (to_super : Bool) (s : List ℕ) (n : ℕ) (by : Option ℕ) (i : Instruction) → SendsBy entries to_super s n by i → receiver_variable_in i ≡ None
sends_plain entries to_super s n (Some number) i is = ap receiver_variable_in is
sends_plain entries to_super s n None i (number, is, found) = ap receiver_variable_in is ∙ sent_plain to_super n number

constant_plain : (entries : List EntryTree) (c : LiteralTree) (fixed : Option ℕ) (i : Instruction) → PushesConstant entries c fixed i → receiver_variable_in i ≡ None
constant_plain entries c (Some number) i is = ap receiver_variable_in is
constant_plain entries c None i (n, is, found) = ap receiver_variable_in is

unless_plain : (on : Bool) (distance : ℤ) → receiver_variable_in (jump_unless on distance) ≡ None
unless_plain true distance = refl
unless_plain false distance = refl

module _ (bytes : List ℕ) (entries : List EntryTree) (v : ℕ) where
  -- from a place on
  abbrev pub From : ℕ → Type 0
  From p = HoldsFrom bytes (NamesBelow v) p

  here : (i : Instruction) (p q : ℕ) → NamesBelow v i → Stands bytes p i q → From q → From p
  here i p q below s from = λ n. before_it bytes (NamesBelow v) i p q below s from n

  plain_there : (i : Instruction) (p q : ℕ) → receiver_variable_in i ≡ None → Stands bytes p i q → From q → From p
  plain_there i p q none s from = here i p q (λ k some. absurd (let d : None ≡ Some k = sym none ∙ some in cc)) s from

  plain : (i : Instruction) (p q : ℕ) → receiver_variable_in i ≡ None → Written bytes p i q → From q → From p
  plain i p q none w from = plain_there i p q none w.stands from

  same_place : (p q : ℕ) → p ≡ q → From q → From p
  same_place p q e from = subst (λ (k : ℕ). From k) (sym e) from

  leaf_from : (l : LeafTree) (p q : ℕ) → LeafIsBelow v l → One bytes (Pushes entries l) p q → From q → From p
  leaf_from (variable x) p q h o from =
      let (s, is, holds) = o.is in
      here o.instruction p q (λ k e. storage_below v entries x s h holds k (sym (ap receiver_variable_in is) ∙ e)) o.stands.stands from
  leaf_from (constant c) p q h o from = plain o.instruction p q (constant_plain entries c (fixed_number c) o.instruction o.is) o.stands from
  leaf_from receiver p q h o from = plain o.instruction p q (ap receiver_variable_in o.is) o.stands from
  leaf_from context p q h o from = plain o.instruction p q (ap receiver_variable_in o.is) o.stands from

  store_from : (x : VariableTree) (position : Position) (p q : ℕ) → IsBelow v x → One bytes (Stores entries x position) p q → From q → From p
  store_from x Value p q h o from =
      let (s, is, holds) = o.is in
      here o.instruction p q (λ k e. storage_below v entries x s h holds k (sym (ap receiver_variable_in is) ∙ e)) o.stands.stands from
  store_from x Effect p q h o from =
      let (s, is, holds) = o.is in
      here o.instruction p q (λ k e. storage_below v entries x s h holds k (sym (ap receiver_variable_in is) ∙ e)) o.stands.stands from

  send_from : (to_super : Bool) (s : List ℕ) (n p q : ℕ) → One bytes (SendsTo entries to_super s n) p q → From q → From p
  send_from to_super s n p q o from = plain o.instruction p q (sends_plain entries to_super s n (sent_number to_super s) o.instruction o.is) o.stands from

  unless_from : (on : Bool) (to p q : ℕ) → JumpsTo bytes (jump_unless on) to p q → From q → From p
  unless_from on to p q j from = plain (jump_unless on j.distance) p q (unless_plain on j.distance) j.stands from

  jump_from : (to p q : ℕ) → JumpsTo bytes Jump to p q → From q → From p
  jump_from to p q j from = plain (Jump j.distance) p q refl j.stands from

  over_from : (to p q : ℕ) → JumpsOver bytes to p q → From q → From p
  over_from to p q j from = plain_there (Jump (pos j.distance)) p q refl j.stands from

  end_from : (position : Position) (p q : ℕ) → Ends bytes position p q → From q → From p
  end_from Value p q e from = same_place p q e from
  end_from Effect p q s from = plain Pop p q refl s from

  nil_from : (position : Position) (p q : ℕ) → NilFor bytes position p q → From q → From p
  nil_from Value p q s from = plain (PushFixed 3) p q refl s from
  nil_from Effect p q e from = same_place p q e from

  takes_from : (n first p q : ℕ) → Takes bytes first n p q → From q → From p
  takes_from zero first p q e from = same_place p q e from
  takes_from (suc n) first p q t from = takes_from n (suc first) p t.mid t.first (plain (PopInto (Temporary first)) t.mid q refl t.second from)

  mutual
    pub core_from : (c : CoreTree) (position : Position) (p q : ℕ) → AreBelow v c → At bytes entries c position p q → From q → From p
    core_from (leaf l) position p q h t from = leaf_from l p t.mid h t.first (end_from position t.mid q t.second from)
    core_from (assign x e) position p q h t from = core_from e Value p t.mid h.1 t.first (store_from x position t.mid q h.0 t.second from)
    core_from (value e) position p q h t from = core_from e Value p t.mid h t.first (end_from position t.mid q t.second from)
    core_from (send e to_super s es) position p q h t from =
        core_from e Value p t.mid h.0 t.first
        (all_from es t.mid t.second.mid h.1 t.second.first
        (send_from to_super s (count es) t.second.mid t.second.second.mid t.second.second.first (end_from position t.second.second.mid q t.second.second.second from)))
    core_from (cascade e to_super ms) position p q h t from =
        core_from e Value p t.mid h.0 t.first (sends_from ms to_super t.mid t.second.mid h.1 t.second.first (end_from position t.second.mid q t.second.second from))
    core_from (real_block first n e) position p q h t from =
        plain PushContext p t.push refl t.context
        (leaf_from (constant (small (pos n))) t.push t.copy tt t.parameters
        (plain (SendSpecial 24) t.copy t.jump refl t.copies
        (over_from t.after t.jump t.start t.over
        (takes_from n first t.start t.body_at t.takes (core_from e Effect t.body_at t.after h t.body (end_from position t.after q t.ending from))))))
    core_from (two_arms on c a b) position p q h t from =
        core_from c Value p t.test h.0 t.condition
        (unless_from on t.second_at t.test t.first_at t.unless
        (core_from a position t.first_at t.over h.1.0 t.first
        (jump_from q t.over t.second_at t.past (core_from b position t.second_at q h.1.1 t.second from))))
    core_from (one_arm on c a) Value p q h t from =
        core_from c Value p t.test h.0 t.condition
        (unless_from on t.second_at t.test t.first_at t.unless
        (core_from a Value t.first_at t.over h.1 t.first (jump_from q t.over t.second_at t.past (nil_from Value t.second_at q t.second from))))
    core_from (one_arm on c a) Effect p q h t from =
        core_from c Value p t.test h.0 t.condition (unless_from on q t.test t.arm_at t.unless (core_from a Effect t.arm_at q h.1 t.arm from))
    core_from (shortcut on c a) position p q h t from =
        core_from c Value p t.first.test h.0 t.first.condition
        (unless_from on t.first.second_at t.first.test t.first.first_at t.first.unless
        (core_from a Value t.first.first_at t.first.over h.1 t.first.first
        (jump_from t.mid t.first.over t.first.second_at t.first.past
        (plain (PushFixed (shortcut_number on)) t.first.second_at t.mid refl t.first.second (end_from position t.mid q t.second from)))))
    core_from (repeat on c e) position p q h t from =
        core_from c Value p t.test h.0 t.condition
        (unless_from on t.done t.test t.body_at t.unless
        (core_from e Effect t.body_at t.over h.1 t.body (jump_from p t.over t.done t.back (nil_from position t.done q t.leaves from))))
    core_from nothing position p q h t from = nil_from position p q t from
    core_from (before a b) position p q h t from = core_from a Effect p t.mid h.0 t.first (core_from b position t.mid q h.1 t.second from)
    core_from (answer e) position p q h t from = core_from e Value p t.mid h t.first (plain ReturnTop t.mid q refl t.second from)
    core_from (answer_fixed n) position p q h s from = plain (ReturnFixed n) p q refl s from
    core_from (leave e) position p q h t from = core_from e Value p t.mid h t.first (plain ReturnFromBlock t.mid q refl t.second from)

    all_from : (cs : CoreTrees) (p q : ℕ) → AllBelow v cs → AllAt bytes entries cs p q → From q → From p
    all_from no_cores p q h e from = same_place p q e from
    all_from (cores c cs) p q h t from = core_from c Value p t.mid h.0 t.first (all_from cs t.mid q h.1 t.second from)

    sends_from : (ms : SendTrees) (to_super : Bool) (p q : ℕ) → SendsBelow v ms → SendsAt bytes entries to_super ms p q → From q → From p
    sends_from no_sends to_super p q h e from = same_place p q e from
    sends_from (sends s es no_sends) to_super p q h t from = all_from es p t.mid h.0 t.first (send_from to_super s (count es) t.mid q t.second from)
    sends_from (sends s es (sends s2 es2 ms)) to_super p q h t from =
        plain Duplicate p t.mid refl t.first
        (all_from es t.mid t.second.mid h.0 t.second.first
        (send_from to_super s (count es) t.second.mid t.second.second.mid t.second.second.first
        (plain Pop t.second.second.mid t.second.second.second.mid refl t.second.second.second.first
        (sends_from (sends s2 es2 ms) to_super t.second.second.second.mid q h.1 t.second.second.second.second from))))
