use Rattle.std.proofs.Common.{◌≡◌, ◌∙◌, ℕ, Option, ap, sym, subst, length, arith}
use Rattle.s80_class.specs.Table.{IsNumberOf, IsSuperclass}
use Rattle.s80_class.proofs.lemmas.Lines.{passes}
use Rattle.s80_class.proofs.lemmas.Walks.{left, walked, starts_above, left_none, passed_here, passed_on}
use Rattle.s80_class.proofs.tree.ClassTree.is_descendant.Goals as goal

pub loop-init : goal.loop-init
loop-init c =
    let count : c.len-end.result ≡ length c.self.inside.order.items = omega arith in
    let walk = walked c.self.inside.entries.items c.self.inside.order.items c.self.invariant.kept c.self.inside.spare c.args.self.now c.self.view_is c.len-end.result count in
    record {
      walk = walk;
      live = c.at.ensures.superclass;
      rest = λ name other is named. starts_above c.args.self.now c.len-end.result c.args.c c.at.result.now walk c.at.ensures name other is;
    }

pub returns-in_default : goal.returns-in_default
returns-in_default c = λ name other is named.
    let table = c.args.self.now in
    let end = c.len-end.result in
    sym (c.loop.invariant.rest name other is named ∙ ap (λ (next : Option ℕ). passes other (left table end c.loop.counter next)) c.in_default.is
    ∙ ap (passes other) (left_none table end c.loop.counter))

pub returns-then-number-of : goal.returns-then-number-of
returns-then-number-of c = λ name other is named.
    let table = c.args.self.now in
    let end = c.len-end.result in
    let class = subst (IsSuperclass table.names) c.in-Some.is c.loop.invariant.live in
    let here = subst (λ n. IsNumberOf table.names n other) (sym c.if-number-of.true) named in
    sym (c.loop.invariant.rest name other is named ∙ ap (λ (next : Option ℕ). passes other (left table end c.loop.counter next)) c.in-Some.is
    ∙ passed_here table end c.loop.counter c.in-Some.number other c.loop.invariant.walk class c.loop-test.true here)

pub loop-preserved : goal.loop-preserved
loop-preserved c =
    let table = c.args.self.now in
    let end = c.len-end.result in
    record {
      walk = c.loop.invariant.walk;
      live = c.at-in-loop.ensures.superclass;
      rest = λ name other is named.
          c.loop.invariant.rest name other is named ∙ ap (λ (next : Option ℕ). passes other (left table end c.loop.counter next)) c.in-Some.is
          ∙ passed_on table end c.loop.counter c.in-Some.number c.args.of c.at-in-loop.result.now other c.loop.invariant.walk c.loop-test.true c.at-in-loop.ensures named c.if-number-of.false;
    }
