use Rattle.std.proofs.Common.{◌≡◌, ◌∙◌, refl, sym, ap, length, Some, slice_get}
use Rattle.std.proofs.lemmas.Option.{slice_get_read}
use Rattle.s80_class.proofs.Subclassed.{told_by_pair, told_by_end}
use Rattle.s80_class.proofs.tree.ClassTree.has_subclass.Goals as goal

pub returns-in-Some : goal.returns-in-Some
returns-in-Some c = λ name named.
    let pairs = c.self.inside.subclasses.items in
    let first = c.place_below-first.result in
    let pair = c.in-Some.field-0.now in
    let read = c.in-Some.ensures.lookup in
    let there : slice_get pairs first ≡ Some pair =
    ap (λ ps. slice_get ps first) (sym c.deref-2.ensures.value) ∙ slice_get_read c.deref-2.result.now (length c.deref-2.result.now) first pair refl read.3.0 read.1 in
    told_by_pair c.self.inside.entries.items c.self.inside.order.items c.self.invariant.kept pairs c.self.invariant.indexed c.self.inside.spare c.args.self.now c.self.view_is
    c.args.c first (rw c.deref.ensures.value at c.place_below-first.ensures) name named pair c.eq.result there c.eq.ensures

pub returns-in-None : goal.returns-in-None
returns-in-None c = λ name named.
    let past = c.in-None.ensures.lookup.3 in
    told_by_end c.self.inside.entries.items c.self.inside.order.items c.self.invariant.kept c.self.inside.subclasses.items c.self.invariant.indexed c.self.inside.spare c.args.self.now c.self.view_is
    c.args.c c.place_below-first.result (rw c.deref.ensures.value at c.place_below-first.ensures) name named (rw c.deref-2.ensures.value at past)
