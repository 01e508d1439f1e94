-- Code of a core tree takes at most as many bytes as its size says.
use Rattle.std.proofs.Common.{ap, ℕ, zero, suc, ◌+◌, ◌*◌, ◌≤◌, ℤ, pos, Bool, true, false, List, Option, Some, None, nat_le, cond, arith}
use Rattle.s80_base.specs.Literal.{LiteralTree, small}
use Rattle.s80_code.specs.declared.instruction.Storage.{Storage}
use Rattle.s80_code.specs.declared.instruction.Storage.TheVariants.{Temporary}
use Rattle.s80_code.specs.declared.instruction.Instruction.{Instruction}
use Rattle.s80_code.specs.declared.instruction.Instruction.TheVariants.{PopInto, PushFixed, ReturnFixed, ReturnTop, ReturnFromBlock, SendSpecial, Pop, Duplicate, PushContext, Jump}
use Rattle.s80_code.specs.Entries.{EntryTree}
use Rattle.s80_code.specs.Special.{block_copy}
use Rattle.s80_scope.specs.declared.fit.position.Position.{Position}
use Rattle.s80_scope.specs.declared.fit.position.Position.TheVariants.{Value, Effect}
use Rattle.s80_core.specs.Core.{VariableTree, LeafTree, variable, constant, receiver, context, CoreTree, CoreTrees, SendTrees, leaf, assign, value, send, cascade, real_block, two_arms, one_arm, shortcut, repeat, nothing, before, answer, answer_fixed, leave, no_cores, cores, no_sends, sends, count}
use Rattle.s80_core.specs.Measures.{fixed_number, sent_number, popped, count_width, nil_width, size, size_all, size_sends}
use Rattle.s80_compile.specs.Rows.{PushesConstant, Pushes, stored, Stores, send_of, SendsBy, SendsTo, jump_unless, One, Ends, NilFor, JumpsTo, Takes, shortcut_number, At, AllAt, SendsAt}
use Rattle.s80_compile.proofs.WidthTable.{most_bytes, narrow, narrow_there}

-- ---- instructions

constant_bytes : (entries : List EntryTree) (v : LiteralTree) (fixed : Option ℕ) (i : Instruction) → PushesConstant entries v fixed i → most_bytes i ≤ 2
constant_bytes entries v (Some number) i is = omega (arith, ap most_bytes is)
constant_bytes entries v None i (n, is, found) = omega (arith, ap most_bytes is)

pushed_bytes : (entries : List EntryTree) (l : LeafTree) (i : Instruction) → Pushes entries l i → most_bytes i ≤ 2
pushed_bytes entries (variable v) i (s, is, holds) = omega (arith, ap most_bytes is)
pushed_bytes entries (constant v) i is = constant_bytes entries v (fixed_number v) i is
pushed_bytes entries receiver i is = omega (arith, ap most_bytes is)
pushed_bytes entries context i is = omega (arith, ap most_bytes is)

-- the number of a block's parameters
count_bytes : (entries : List EntryTree) (n : ℕ) (i : Instruction) → Pushes entries (constant (small (pos n))) i → most_bytes i ≤ count_width n
count_bytes entries n i is = by_test (nat_le n 2) is
  where
    by_test : (few : Bool) → PushesConstant entries (small (pos n)) (cond few (Some (5 + n)) None) i → most_bytes i ≤ cond few 1 2
    by_test true is = omega (arith, ap most_bytes is)
    by_test false (number, is, found) = omega (arith, ap most_bytes is)

stored_bytes : (position : Position) (s : Storage) → most_bytes (stored position s) ≤ 2
stored_bytes Value s = omega arith
stored_bytes Effect s = omega arith

sent_bytes : (to_super : Bool) (n number : ℕ) → most_bytes (send_of to_super n number) ≤ 3
sent_bytes true n number = omega arith
sent_bytes false n number = omega arith

send_bytes : (entries : List EntryTree) (to_super : Bool) (s : List ℕ) (n : ℕ) (by : Option ℕ) (i : Instruction) → SendsBy entries to_super s n by i → most_bytes i ≤ 3
send_bytes entries to_super s n (Some number) i is = omega (arith, ap most_bytes is)
send_bytes entries to_super s n None i (number, is, found) = omega (arith, ap most_bytes is, sent_bytes to_super n number)

test_bytes : (on : Bool) (distance : ℤ) → most_bytes (jump_unless on distance) ≤ 2
test_bytes true distance = omega arith
test_bytes false distance = omega arith

-- ---- rows

module _ (bytes : List ℕ) where
  ends_width : (position : Position) (p q : ℕ) → Ends bytes position p q → q ≤ p + popped position
  ends_width Value p q e = omega (arith, e)
  ends_width Effect p q s = narrow bytes p q Pop s

  nil_for_width : (position : Position) (p q : ℕ) → NilFor bytes position p q → q ≤ p + nil_width position
  nil_for_width Value p q s = narrow bytes p q (PushFixed 3) s
  nil_for_width Effect p q e = omega (arith, e)

  test_width : (on : Bool) (to p q : ℕ) → JumpsTo bytes (jump_unless on) to p q → q ≤ p + 2
  test_width on to p q j = omega (arith, narrow bytes p q (jump_unless on j.distance) j.stands, test_bytes on j.distance)

  jump_width : (to p q : ℕ) → JumpsTo bytes Jump to p q → q ≤ p + 2
  jump_width to p q j = narrow bytes p q (Jump j.distance) j.stands

  takes_width : (n first p q : ℕ) → Takes bytes first n p q → q ≤ p + 2 * n
  takes_width zero first p q e = omega (arith, e)
  takes_width (suc n) first p q b = omega (arith, takes_width n (suc first) p b.mid b.first, narrow bytes b.mid q (PopInto (Temporary first)) b.second)

module _ (bytes : List ℕ) (entries : List EntryTree) where
  push_width : (l : LeafTree) (p q : ℕ) → One bytes (Pushes entries l) p q → q ≤ p + 2
  push_width l p q o = omega (arith, narrow bytes p q o.instruction o.stands, pushed_bytes entries l o.instruction o.is)

  count_push_width : (n p q : ℕ) → One bytes (Pushes entries (constant (small (pos n)))) p q → q ≤ p + count_width n
  count_push_width n p q o = omega (arith, narrow bytes p q o.instruction o.stands, count_bytes entries n o.instruction o.is)

  store_width : (v : VariableTree) (position : Position) (p q : ℕ) → One bytes (Stores entries v position) p q → q ≤ p + 2
  store_width v position p q o =
      omega (arith, narrow bytes p q o.instruction o.stands, ap most_bytes o.is.1, stored_bytes position o.is.0)

  send_width : (to_super : Bool) (s : List ℕ) (n p q : ℕ) → One bytes (SendsTo entries to_super s n) p q → q ≤ p + 3
  send_width to_super s n p q o =
      omega (arith, narrow bytes p q o.instruction o.stands, send_bytes entries to_super s n (sent_number to_super s) o.instruction o.is)

  mutual
    pub width : (c : CoreTree) (position : Position) (p q : ℕ) → At bytes entries c position p q → q ≤ p + size position c
    width (leaf l) position p q b = omega (arith, push_width l p b.mid b.first, ends_width bytes position b.mid q b.second)
    width (assign v e) position p q b = omega (arith, width e Value p b.mid b.first, store_width v position b.mid q b.second)
    width (value e) position p q b = omega (arith, width e Value p b.mid b.first, ends_width bytes position b.mid q b.second)
    width (send r to_super s es) position p q b =
        let rest = b.second in
        let last = rest.second in
        omega (
          arith,
          width r Value p b.mid b.first,
          all_width es b.mid rest.mid rest.first,
          send_width to_super s (count es) rest.mid last.mid last.first,
          ends_width bytes position last.mid q last.second,
        )
    width (cascade r to_super ms) position p q b =
        omega (arith, width r Value p b.mid b.first, sends_width to_super ms b.mid b.second.mid b.second.first, ends_width bytes position b.second.mid q b.second.second)
    width (real_block first n e) position p q m =
        omega (
          arith,
          narrow bytes p m.push PushContext m.context,
          count_push_width n m.push m.copy m.parameters,
          narrow bytes m.copy m.jump (SendSpecial block_copy) m.copies,
          narrow_there bytes m.jump m.start (Jump (pos m.over.distance)) m.over.stands,
          takes_width bytes n first m.start m.body_at m.takes,
          width e Effect m.body_at m.after m.body,
          ends_width bytes position m.after q m.ending,
        )
    width (two_arms on c a b) position p q h =
        omega (
          arith,
          width c Value p h.test h.condition,
          test_width bytes on h.second_at h.test h.first_at h.unless,
          width a position h.first_at h.over h.first,
          jump_width bytes q h.over h.second_at h.past,
          width b position h.second_at q h.second,
        )
    width (one_arm on c a) Value p q h =
        omega (
          arith,
          width c Value p h.test h.condition,
          test_width bytes on h.second_at h.test h.first_at h.unless,
          width a Value h.first_at h.over h.first,
          jump_width bytes q h.over h.second_at h.past,
          nil_for_width bytes Value h.second_at q h.second,
        )
    width (one_arm on c a) Effect p q h =
        omega (arith, width c Value p h.test h.condition, test_width bytes on q h.test h.arm_at h.unless, width a Effect h.arm_at q h.arm)
    width (shortcut on c a) position p q b =
        let h = b.first in
        omega (
          arith,
          width c Value p h.test h.condition,
          test_width bytes on h.second_at h.test h.first_at h.unless,
          width a Value h.first_at h.over h.first,
          jump_width bytes b.mid h.over h.second_at h.past,
          narrow bytes h.second_at b.mid (PushFixed (shortcut_number on)) h.second,
          ends_width bytes position b.mid q b.second,
        )
    width (repeat on c e) position p q h =
        omega (
          arith,
          width c Value p h.test h.condition,
          test_width bytes on h.done h.test h.body_at h.unless,
          width e Effect h.body_at h.over h.body,
          jump_width bytes p h.over h.done h.back,
          nil_for_width bytes position h.done q h.leaves,
        )
    width nothing position p q h = nil_for_width bytes position p q h
    width (before a b) position p q h = omega (arith, width a Effect p h.mid h.first, width b position h.mid q h.second)
    width (answer e) position p q h = omega (arith, width e Value p h.mid h.first, narrow bytes h.mid q ReturnTop h.second)
    width (answer_fixed n) position p q s = narrow bytes p q (ReturnFixed n) s
    width (leave e) position p q h = omega (arith, width e Value p h.mid h.first, narrow bytes h.mid q ReturnFromBlock h.second)

    pub all_width : (cs : CoreTrees) (p q : ℕ) → AllAt bytes entries cs p q → q ≤ p + size_all cs
    all_width no_cores p q e = omega (arith, e)
    all_width (cores c cs) p q b = omega (arith, width c Value p b.mid b.first, all_width cs b.mid q b.second)

    pub sends_width : (to_super : Bool) (ms : SendTrees) (p q : ℕ) → SendsAt bytes entries to_super ms p q → q ≤ p + size_sends ms
    sends_width to_super no_sends p q e = omega (arith, e)
    sends_width to_super (sends s es no_sends) p q b = omega (arith, all_width es p b.mid b.first, send_width to_super s (count es) b.mid q b.second)
    sends_width to_super (sends s es (sends t fs ms)) p q b =
        let one = b.second in
        let two = one.second in
        let three = two.second in
        omega (
          arith,
          narrow bytes p b.mid Duplicate b.first,
          all_width es b.mid one.mid one.first,
          send_width to_super s (count es) one.mid two.mid two.first,
          narrow bytes two.mid three.mid Pop three.first,
          sends_width to_super (sends t fs ms) three.mid q three.second,
        )
