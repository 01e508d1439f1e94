use Rattle.std.proofs.Common.{◌∙◌, refl, sym, ap, subst}
use Rattle.std.specs.FinMap as map
use Rattle.std.proofs.lemmas.List.{take_all}
use Rattle.s80_class.specs.Family.{IsFamily, FindsFamily}
use Rattle.s80_class.proofs.Extents.{raised_by, raised_more, greatest_found}
use Rattle.s80_class.proofs.table.ClassTable.greatest_with.Goals as goal

pub loop-totals-init : goal.loop-totals-init
loop-totals-init c = c.none-greatest.ensures

pub loop-totals-preserved : goal.loop-totals-preserved
loop-totals-preserved c =
    c.raised-greatest.ensures
    ∙ raised_more c.deref-totals-items.result.now c.loop-totals.totals-index _ _ c.loop-totals.greatest c.loop-totals-test.true refl c.loop-totals.invariant

pub returns : goal.returns
returns c = λ name row named valid is_top.
    let items = c.deref-totals-items.result.now in
    let finds = subst (λ t. FindsFamily t c.args.c c.args.top c.family.new.found.items) c.self.view_is c.family.ensures.family in
    let family = subst (IsFamily c.args.self.now.names (map.insert c.args.self.now.classes name row) name) (sym c.deref-totals-items.ensures.value) (finds name row named valid is_top) in
    c.loop-totals.invariant
    ∙ ap raised_by (take_all c.loop-totals.totals-index items c.loop-totals-test.false)
    ∙ greatest_found c.args.self.now.names (map.insert c.args.self.now.classes name row) name items family
