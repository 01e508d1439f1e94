use Rattle.std.proofs.Common.{◌<◌, length, None, rules}
use Rattle.std.specs.Prelude.{slice_index_or}
use Rattle.std.proofs.lemmas.Option.{slice_get-get_or}
use Rattle.s80_image.proofs.Linked.{ends_begin, ends_step, next_within}
use Rattle.s80_image.proofs.chains.has_end.Goals as goal

pub loop-init : goal.loop-init
loop-init c = ends_begin c.args.classes.now c.args.superclasses.now c.requires.linked c.args.class c.requires.class

pub offset_bounds-superclasses-at : goal.offset_bounds-superclasses-at
offset_bounds-superclasses-at c =
    let b : c.in-Some.at < length c.args.superclasses.now = next_within c.args.classes.now c.args.superclasses.now c.requires.linked c.in-Some.at c.loop.next c.in-Some.is c.loop.invariant.0 c.loop.invariant.1 in
    search rules

pub bounds-superclasses-at : goal.bounds-superclasses-at
bounds-superclasses-at c = next_within c.args.classes.now c.args.superclasses.now c.requires.linked c.in-Some.at c.loop.next c.in-Some.is c.loop.invariant.0 c.loop.invariant.1

pub loop-preserved : goal.loop-preserved
loop-preserved c =
    let b : c.in-Some.at < length c.args.superclasses.now = next_within c.args.classes.now c.args.superclasses.now c.requires.linked c.in-Some.at c.loop.next c.in-Some.is c.loop.invariant.0 c.loop.invariant.1 in
    ends_step c.args.classes.now c.args.superclasses.now c.requires.linked c.args.class (length c.args.classes.now) c.loop.counter c.in-Some.at c.loop.next (slice_index_or c.args.superclasses.now c.in-Some.at None) c.in-Some.is c.loop-test.true c.loop.invariant
    (slice_get-get_or c.args.superclasses.now c.in-Some.at None b)
