use Rattle.std.proofs.Common.{refl, subst, ◌≡◌, None}
use Rattle.std.specs.FinMap as map
use Rattle.s80_class.specs.Table.{Table, IsNumberOf}
use Rattle.s80_class.proofs.Keeping.{names_rise, found_there, past_there, other_there}
use Rattle.s80_class.proofs.Calls.{found_one, found_none}
use Rattle.s80_class.proofs.tree.ClassTree.find.Goals as goal

pub place-at-requires : goal.place-at-requires
place-at-requires c = rw (c.deref.ensures.value, c.deref-2.ensures.value) (names_rise c.self.inside.entries.items c.self.inside.order.items c.self.invariant.kept)

pub returns-in_default-clause-found : goal.returns-in_default-clause-found
returns-in_default-clause-found c =
    let place = rw (c.deref.ensures.value, c.deref-2.ensures.value) at c.place-at.ensures in
    let h = c.in_default.ensures.lookup in
    subst (λ (t : Table). map.get t.classes c.args.name.now ≡ None) c.self.view_is
    (past_there c.self.inside.entries.items c.self.inside.order.items c.self.invariant.kept c.self.inside.entries.items c.deref-3.result.now c.args.name.now c.place-at.result
    refl c.deref-3.ensures.value c.args.name.now refl (rw c.deref-3.ensures.value place) h.3)

pub returns-then-eq-clause-found : goal.returns-then-eq-clause-found
returns-then-eq-clause-found c =
    let h = c.in-Some.ensures.lookup in
    subst (λ (t : Table). IsNumberOf t.names c.in-Some.field-0.now c.args.name.now) c.self.view_is
    (found_there c.self.inside.entries.items c.self.inside.order.items c.self.invariant.kept c.deref-4.result.now c.deref-3.result.now c.args.name.now c.place-at.result
    c.deref-4.ensures.value c.deref-3.ensures.value c.in-Some.field-0.now c.name_in.result.now c.args.name.now h.3.0 h.1 c.name_in.ensures refl c.if-eq.ensures)

pub returns-else-eq-clause-found : goal.returns-else-eq-clause-found
returns-else-eq-clause-found c =
    let place = rw (c.deref.ensures.value, c.deref-2.ensures.value) at c.place-at.ensures in
    let h = c.in-Some.ensures.lookup in
    subst (λ (t : Table). map.get t.classes c.args.name.now ≡ None) c.self.view_is
    (other_there c.self.inside.entries.items c.self.inside.order.items c.self.invariant.kept c.deref-4.result.now c.deref-3.result.now c.args.name.now c.place-at.result
    c.deref-4.ensures.value c.deref-3.ensures.value c.args.name.now refl (rw (c.deref-4.ensures.value, c.deref-3.ensures.value) place)
    c.in-Some.field-0.now c.name_in.result.now c.args.name.now h.3.0 h.1 c.name_in.ensures refl c.if-eq.ensures)

pub returns-in_default-clause-only : goal.returns-in_default-clause-only
returns-in_default-clause-only c = λ other named.
    found_none c.self.inside.entries.items c.self.inside.order.items c.self.invariant.kept c.self.inside.spare c.args.self.now c.self.view_is c.args.name.now other (returns-in_default-clause-found c) named

pub returns-then-eq-clause-only : goal.returns-then-eq-clause-only
returns-then-eq-clause-only c = λ other named.
    found_one c.self.inside.entries.items c.self.inside.order.items c.self.invariant.kept c.self.inside.spare c.args.self.now c.self.view_is c.args.name.now c.in-Some.field-0.now other
    (returns-then-eq-clause-found c) named

pub returns-else-eq-clause-only : goal.returns-else-eq-clause-only
returns-else-eq-clause-only c = λ other named.
    found_none c.self.inside.entries.items c.self.inside.order.items c.self.invariant.kept c.self.inside.spare c.args.self.now c.self.view_is c.args.name.now other (returns-else-eq-clause-found c) named
