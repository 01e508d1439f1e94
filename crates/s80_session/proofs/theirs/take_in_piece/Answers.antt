use Rattle.std.proofs.Common.{rules, ◌∙◌, ◌≤◌, length, arith}
use Rattle.s80_session.proofs.TakingIn.{parts_all, parts_more, parts_start}
use Rattle.s80_session.proofs.theirs.take_in_piece.Goals as goal

pub loop-done-init : goal.loop-done-init
loop-done-init c = record {
  takes = λ state bytes items start. parts_start state bytes items c.args.piece.now c.args.given.now c.args.reader.now start;
  some = λ some. some;
  reading = c.requires.reading;
  within = omega arith;
  fed = omega arith;
  room = c.requires.room;
  opened = c.requires.open;
}

pub take_items-requires : goal.take_items-requires
take_items-requires c =
    let some = c.loop-done.invariant.reading in
    record { reading = (_, some.1, c.feed-count.ensures.read some.0 some.1 some.2) }

pub loop-done-preserved : goal.loop-done-preserved
loop-done-preserved c = record {
  takes = λ state bytes items start. parts_more state bytes items c.args.piece.now c.loop-done.given c.take_items.new.given c.loop-done.reader c.feed-count.new.self c.take_items.new.reader c.loop-done.done c.feed-count.result c.feed-count.ensures.read c.feed-count.ensures.open c.take_items.ensures.ended c.in_ok-take_items.ensures.taken (c.loop-done.invariant.takes state bytes items start);
  some = λ some. c.in_ok-take_items.ensures.some (c.loop-done.invariant.some some);
  reading = c.in_ok-take_items.ensures.reading;
  within = search rules;
  fed = search rules;
  room = c.in_ok-take_items.ensures.spent.1;
  opened = c.take_items.ensures.ended ∙ c.feed-count.ensures.open;
}

pub returns-clause-taken : goal.returns-clause-taken
returns-clause-taken c = λ state bytes items start none.
    let long : length c.args.piece.now ≤ c.loop-done.done = search rules in
    parts_all state bytes items c.args.piece.now c.loop-done.given c.loop-done.reader c.loop-done.done long c.loop-done.invariant.opened none (c.loop-done.invariant.takes state bytes items start)

pub returns-clause-some : goal.returns-clause-some
returns-clause-some c = c.loop-done.invariant.some
