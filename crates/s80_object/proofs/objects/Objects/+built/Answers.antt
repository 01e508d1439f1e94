use Rattle.std.proofs.Common.{rules}
use Rattle.s80_base.specs.declared.literal.Literal.{the_lemmas}
use Rattle.s80_object.specs.Body.{bytes}
use Rattle.s80_object.specs.Literal.{made, named, opaque_number}
use Rattle.s80_object.proofs.Building.{before_same, before_made, before_named, before_number, before_step, array_fits, begins, one_fits, goes_on, ends}
use Rattle.s80_object.proofs.objects.Objects.+built.Goals as goal

pub add_literal-add_array-requires : goal.add_literal-add_array-requires
add_literal-add_array-requires t c =
    array_fits c.args.string c.args.array c.args.l.now c.in-Array.elements c.args.self.now c.add_literals.new.self c.in_ok-items-in-Array.items.items c.in-Array.is c.requires c.in_ok-items-in-Array.ensures.ok

pub add_literal-returns-in-Small-clause-before : goal.add_literal-returns-in-Small-clause-before
add_literal-returns-in-Small-clause-before t c = before_same c.args.self.now

pub add_literal-returns-in-Character-clause-before : goal.add_literal-returns-in-Character-clause-before
add_literal-returns-in-Character-clause-before t c = before_same c.args.self.now

pub add_literal-returns-in-Str-clause-before : goal.add_literal-returns-in-Str-clause-before
add_literal-returns-in-Str-clause-before t c =
    before_step c.args.self.now c.add_string.new.self (made (bytes c.args.string c.in-Str.text) c.args.self.now) c.add_string.result (before_made _ c.args.self.now) c.add_string.ensures.ok c.add_string.ensures.err

pub add_literal-returns-in-Symbol-clause-before : goal.add_literal-returns-in-Symbol-clause-before
add_literal-returns-in-Symbol-clause-before t c =
    before_step c.args.self.now c.symbol.new.self (named c.in-Symbol.text c.args.self.now) c.symbol.result (before_named c.in-Symbol.text c.args.self.now) c.symbol.ensures.ok c.symbol.ensures.err

pub add_literal-returns-in-True-clause-before : goal.add_literal-returns-in-True-clause-before
add_literal-returns-in-True-clause-before t c = before_same c.args.self.now

pub add_literal-returns-in-False-clause-before : goal.add_literal-returns-in-False-clause-before
add_literal-returns-in-False-clause-before t c = before_same c.args.self.now

pub add_literal-returns-in-Nil-clause-before : goal.add_literal-returns-in-Nil-clause-before
add_literal-returns-in-Nil-clause-before t c = before_same c.args.self.now

pub add_literal-returns-in-Number-clause-before : goal.add_literal-returns-in-Number-clause-before
add_literal-returns-in-Number-clause-before t c =
    before_step c.args.self.now c.add_number.new.self (opaque_number c.in-Number.kind c.in-Number.text c.args.self.now) c.add_number.result (before_number c.in-Number.kind c.in-Number.text c.args.self.now)
    c.add_number.ensures.ok c.add_number.ensures.err

pub add_literals-loop-literal-init : goal.add_literals-loop-literal-init
add_literals-loop-literal-init t c =
    rw c.new-values.ensures.items (begins c.args.string c.args.array c.args.elements.now c.args.self.now c.deref-literal-items.result.now c.deref-literal-items.ensures.value c.requires)

pub add_literals-add_literal-requires : goal.add_literals-add_literal-requires
add_literals-add_literal-requires t c = (
  search (rules, the_lemmas),
  one_fits c.args.string c.args.array c.args.elements.now c.args.self.now c.deref-literal-items.result.now c.loop-literal.literal-index c.literal-item.result c.loop-literal-test.true c.literal-item.is
      c.loop-literal.self c.loop-literal.values.items c.loop-literal.invariant,
)

pub add_literals-loop-literal-preserved : goal.add_literals-loop-literal-preserved
add_literals-loop-literal-preserved t c =
    rw c.in_ok-push.ensures.items
    (goes_on c.args.string c.args.array c.args.elements.now c.args.self.now c.deref-literal-items.result.now c.loop-literal.literal-index c.literal-item.result c.loop-literal-test.true c.literal-item.is
    c.loop-literal.self c.loop-literal.values.items c.loop-literal.invariant c.add_literal.new.self c.in_ok-value.value c.in_ok-value.ensures.ok c.add_literal.ensures.before)

pub add_literals-returns-clause-ok : goal.add_literals-returns-clause-ok
add_literals-returns-clause-ok t c =
    ends c.args.string c.args.array c.args.elements.now c.args.self.now c.deref-literal-items.result.now c.loop-literal.literal-index c.loop-literal-test.false c.loop-literal.self c.loop-literal.values.items c.loop-literal.invariant

pub add_literals-returns-clause-before : goal.add_literals-returns-clause-before
add_literals-returns-clause-before t c = c.loop-literal.invariant.before
