use Rattle.std.proofs.Common.{◌+◌, ◌∙◌, All, Some, ap, rules, subst, sym}
use Rattle.std.proofs.lemmas.List.Elements.{All-push}
use Rattle.s80_class.specs.Classes.{lineage}
use Rattle.s80_class.specs.Table.{IsClass, IsSuperclass}
use Rattle.s80_class.proofs.lemmas.Walks.{left, left_none, left_end}
use Rattle.s80_method.proofs.Numbered.{starts, goes_up, ended, told}
use Rattle.s80_method.proofs.shape.line.Goals as goal

pub returns-in_default-clause-line : goal.returns-in_default-clause-line
returns-in_default-clause-line c = λ name is.
    let table = c.args.classes.now in
    let rest = left table c.count-end.result c.loop.counter c.loop.next in
    ended table c.loop.line.items rest (lineage table.classes name) (ap (left table c.count-end.result c.loop.counter) c.in_default.is ∙ left_none table c.count-end.result c.loop.counter)
    (c.loop.invariant.line name is)

pub loop-preserved : goal.loop-preserved
loop-preserved c =
    let table = c.args.classes.now in
    let class : IsClass table.names c.in-Some.number = subst (IsSuperclass table.names) c.in-Some.is c.loop.invariant.live in
    record {
      size = c.loop.invariant.size;
      live = c.at.ensures.superclass;
      classes = subst (All (IsClass table.names)) (sym c.in_ok-push.ensures.items) (All-push (IsClass table.names) c.loop.line.items c.in-Some.number c.loop.invariant.classes class);
      line = λ name is.
          ap (λ xs. told table xs (left table c.count-end.result (c.loop.counter + 1) c.at.result.now.superclass)) c.in_ok-push.ensures.items
          ∙ goes_up table c.count-end.result c.loop.counter c.in-Some.number c.at.result.now c.loop.line.items c.loop.next c.loop-test.true c.at.ensures c.in-Some.is
          ∙ c.loop.invariant.line name is;
    }

pub loop-init : goal.loop-init
loop-init c = record {
  size = c.count-end.ensures.count;
  live = c.requires;
  classes = search rules;
  line = λ name is. ap (λ xs. told c.args.classes.now xs (left c.args.classes.now c.count-end.result 0 (Some c.args.c))) c.new-line.ensures.items ∙ starts c.args.classes.now c.count-end.result c.args.c name c.count-end.ensures.count is;
}

pub returns-clause-line : goal.returns-clause-line
returns-clause-line c = λ name is.
    let table = c.args.classes.now in
    let rest = left table c.count-end.result c.loop.counter c.loop.next in
    ended table c.loop.line.items rest (lineage table.classes name) (left_end table c.count-end.result c.loop.counter c.loop.next c.loop-test.false) (c.loop.invariant.line name is)
