use Rattle.std.proofs.Common.{arith}
use Rattle.std.proofs.lemmas.Result.{err_from_is_err_and}
use Rattle.s80_base.specs.Literal.{literal_of, literals_of}
use Rattle.s80_image.proofs.Elements.{byte_shorter, word_shorter, tag_fails, tagged, count_fails, array_fails, array_read, element_fails, element_read, elements_end}
use Rattle.s80_image.proofs.literals.+literal.Goals as goal

pub literal-returns-in_err-tag-clause-given : goal.literal-returns-in_err-tag-clause-given
literal-returns-in_err-tag-clause-given t c =
    let p = err_from_is_err_and c.from_residual.result c.from_residual.ensures.1 in
    rw (p.1, p.2) (tag_fails c.in_err-tag.field-0.0 c.args.bytes.now c.in_err-tag.ensures)

pub literal-returns-clause-given : goal.literal-returns-clause-given
literal-returns-clause-given t c =
    tagged (λ x. (literal_of x.0, x.1.now)) c.literal_behind.result c.args.bytes.now c.in_ok-tag.tag c.in_ok-tag.rest.now c.in_ok-tag.ensures (byte_shorter _ c.args.bytes.now (c.in_ok-tag.tag, c.in_ok-tag.rest.now) c.in_ok-tag.ensures) c.literal_behind.ensures.given

pub elements-returns-in_err-item-clause-given : goal.elements-returns-in_err-item-clause-given
elements-returns-in_err-item-clause-given t c =
    let p = err_from_is_err_and c.from_residual.result c.from_residual.ensures.1 in
    rw (p.1, p.2) (λ most lt. element_fails c.in_err-item.field-0.0 c.args.count c.loop.counter c.loop.rest.now most (literals_of c.loop.items) _ c.loop-test.true
    (c.in_err-item.ensures.given most (let s = c.loop.invariant.shorter in omega arith)) (c.loop.invariant.read most lt))

pub elements-loop-preserved : goal.elements-loop-preserved
elements-loop-preserved t c = record {
  read = λ most lt. element_read c.args.count c.loop.counter c.loop.rest.now most (literals_of c.loop.items) (literals_of c.push.new.self) (literal_of c.in_ok-item.item) c.in_ok-item.after.now _ c.loop-test.true
      (c.in_ok-item.ensures.given most (let s = c.loop.invariant.shorter in omega arith)) c.in_ok-push.ensures.ok (c.loop.invariant.read most lt);
  shorter = (let s = c.loop.invariant.shorter in let r = c.in_ok-item.ensures.shorter in omega arith);
}

pub elements-returns-clause-given : goal.elements-returns-clause-given
elements-returns-clause-given t c = λ most lt. elements_end c.args.count c.loop.counter c.loop.rest.now most (literals_of c.loop.items) _ c.loop-test.false (c.loop.invariant.read most lt)

pub literal_behind-returns-in_err-count-clause-given : goal.literal_behind-returns-in_err-count-clause-given
literal_behind-returns-in_err-count-clause-given t c =
    let p = err_from_is_err_and c.from_residual.result c.from_residual.ensures.1 in
    rw (p.1, p.2) (λ most _. count_fails c.in_err-count.field-0.0 c.args.tag c.args.bytes.now c.if-tag-ne4.false c.in_err-count.ensures most)

pub literal_behind-returns-in_err-items-clause-given : goal.literal_behind-returns-in_err-items-clause-given
literal_behind-returns-in_err-items-clause-given t c =
    let p = err_from_is_err_and c.from_residual-in_err-items.result c.from_residual-in_err-items.ensures.1 in
    rw (p.1, p.2) (λ most le. array_fails c.in_err-items.field-0.0 c.args.tag c.args.bytes.now c.in_ok-count.count c.in_ok-count.rest.now c.if-tag-ne4.false c.in_ok-count.ensures most
    (c.in_err-items.ensures.given most (let s = word_shorter c.args.bytes.now (c.in_ok-count.count, c.in_ok-count.rest.now) c.in_ok-count.ensures in omega arith)))

pub literal_behind-returns-clause-given : goal.literal_behind-returns-clause-given
literal_behind-returns-clause-given t c = λ most le.
    array_read c.args.tag c.args.bytes.now c.in_ok-count.count c.in_ok-count.rest.now (literals_of c.in_ok-items.items) c.in_ok-items.rest.now (literal_of c.array_of.result) c.if-tag-ne4.false c.in_ok-count.ensures most
    (c.in_ok-items.ensures.given most (let s = word_shorter c.args.bytes.now (c.in_ok-count.count, c.in_ok-count.rest.now) c.in_ok-count.ensures in omega arith)) c.array_of.ensures
