use Rattle.std.proofs.Common.{◌∙◌, refl, sym, ap, subst}
use Rattle.std.proofs.lemmas.List.{take_all}
use Rattle.s80_class.specs.Family.{FindsFamily}
use Rattle.s80_class.proofs.Members.{numbers_of, numbers_more, are_members}
use Rattle.s80_class.proofs.table.ClassTable.family.Goals as goal

pub loop-number-preserved : goal.loop-number-preserved
loop-number-preserved c =
    c.in_ok-push.ensures.items ∙ numbers_more c.loop-number.family.items c.deref-number-items.result.now c.loop-number.number-index _ _ c.loop-number-test.true refl c.loop-number.invariant

pub returns : goal.returns
returns c = λ name named.
    let items = c.deref-number-items.result.now in
    let finds = subst (λ t. FindsFamily t c.args.c c.totals_of.result c.family.new.found.items) c.self.view_is c.family.ensures.family in
    let found = subst (FindsFamily c.args.self.now c.args.c c.totals_of.result) (sym c.deref-number-items.ensures.value) finds in
    are_members c.args.self.now c.count.ensures.known c.args.c c.totals_of.result items found name named (c.totals_of.ensures name named)
    c.loop-number.family.items (c.loop-number.invariant ∙ ap numbers_of (take_all c.loop-number.number-index items c.loop-number-test.false))
