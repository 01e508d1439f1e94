use Rattle.std.proofs.Common.{◌∙◌, ◌++◌, ap, subst}
use Rattle.s80_class.specs.Table.{IsSuperclass}
use Rattle.s80_class.proofs.lemmas.Walks.{left, left_end, left_none}
use Rattle.s80_merge.specs.Touched.{line_keys}
use Rattle.s80_merge.proofs.LineKeys.{begins, comes_up, goes_up, keys_of, starts_live}
use Rattle.s80_merge.proofs.change_keys.line_keys.Goals as goal

pub loop-init : goal.loop-init
loop-init c = record {
  live = starts_live c.args.classes.now c.args.name.now c.find-next.result c.find-next.ensures.found;
  all = ap (λ keys. keys ++ keys_of (left c.args.classes.now c.count-end.result 0 c.find-next.result)) c.empty-keys.ensures ∙ begins c.args.classes.now c.count-end.result c.args.name.now c.find-next.result c.count-end.ensures.count c.find-next.ensures.found;
}

pub at-class-requires : goal.at-class-requires
at-class-requires c = subst (IsSuperclass c.args.classes.now.names) c.in-Some.is c.loop.invariant.live

pub loop-preserved : goal.loop-preserved
loop-preserved c = record {
  live = c.at-class.ensures.superclass;
  all = goes_up c.args.classes.now c.count-end.result c.loop.counter c.in-Some.number c.at-class.result.now c.loop.next c.loop.keys c.push_class.new.self (line_keys c.args.name.now c.args.classes.now.classes)
      c.loop-test.true c.at-class.ensures c.in-Some.is c.loop.invariant.all c.in_ok-push_class.ensures;
}

pub returns-in_default : goal.returns-in_default
returns-in_default c =
    comes_up c.args.classes.now c.count-end.result c.loop.counter c.loop.next c.loop.keys (line_keys c.args.name.now c.args.classes.now.classes)
    (ap (left c.args.classes.now c.count-end.result c.loop.counter) c.in_default.is ∙ left_none c.args.classes.now c.count-end.result c.loop.counter) c.loop.invariant.all

pub returns : goal.returns
returns c =
    comes_up c.args.classes.now c.count-end.result c.loop.counter c.loop.next c.loop.keys (line_keys c.args.name.now c.args.classes.now.classes)
    (left_end c.args.classes.now c.count-end.result c.loop.counter c.loop.next c.loop-test.false) c.loop.invariant.all
