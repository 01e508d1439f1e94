use Rattle.std.proofs.Common.{refl, ◌∙◌}
use Rattle.s80_session.proofs.TakingIn.{begins_within, reads_no_more, reads_on, took_all, took_item, took_some}
use Rattle.s80_session.proofs.theirs.take_items.Goals as goal

pub loop-item-init : goal.loop-item-init
loop-item-init c = record {
  takes = λ state bytes items start. begins_within c.args.given.now c.args.reader.now state bytes items start;
  some = λ some. some;
  reading = c.requires.reading;
  fed = refl;
  ended = refl;
}

pub loop-item-preserved : goal.loop-item-preserved
loop-item-preserved c = record {
  takes = λ state bytes items start. took_item c.loop-item.reader c.next_item.new.self c.in_ok-item.field-0 c.in_ok-item.ensures.item c.loop-item.given c.take.new.self c.in-Some.item c.in-Some.is c.in_ok-item.ensures.sound c.in_ok-take.ensures state bytes (c.loop-item.invariant.takes state bytes items start);
  some = λ some. took_some c.loop-item.reader c.next_item.new.self c.in_ok-item.field-0 c.in_ok-item.ensures.item c.loop-item.given c.take.new.self c.in-Some.item c.in-Some.is c.in_ok-item.ensures.sound c.in_ok-take.ensures c.loop-item.invariant.reading (c.loop-item.invariant.some some);
  reading = reads_on c.loop-item.reader c.next_item.new.self c.in_ok-item.field-0 c.in_ok-item.ensures.item c.in-Some.item c.in-Some.is c.loop-item.invariant.reading;
  fed = c.next_item.ensures.fed ∙ c.loop-item.invariant.fed;
  ended = c.next_item.ensures.ended ∙ c.loop-item.invariant.ended;
}

pub returns-clause-taken : goal.returns-clause-taken
returns-clause-taken c = λ state bytes items start. took_all c.loop-item.reader c.next_item.new.self c.in_ok-item.field-0 c.in_ok-item.ensures.item c.loop-item.given state bytes c.in_default.is c.in_ok-item.ensures.none c.next_item.ensures.ended (c.loop-item.invariant.takes state bytes items start)

pub returns-clause-some : goal.returns-clause-some
returns-clause-some c = c.loop-item.invariant.some

pub returns-clause-reading : goal.returns-clause-reading
returns-clause-reading c = reads_no_more c.loop-item.reader c.next_item.new.self c.in_ok-item.field-0 c.in_ok-item.ensures.item c.in_default.is c.loop-item.invariant.reading
