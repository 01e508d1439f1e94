use Rattle.s80_dict.proofs.Sorting.{one_taken, one_passed}
use Rattle.s80_dict.proofs.dict.filled_selectors.Goals as goal

pub loop-selector-preserved-in-Continue-1 : goal.loop-selector-preserved-in-Continue-1
loop-selector-preserved-in-Continue-1 g c =
    rw c.in_ok-push.ensures.items
    (one_taken c.loop-selector.selectors.items c.loop-selector.yielded c.in-Some.selector c.in-Some.slot c.loop-selector.invariant c.as_slice.result c.as_slice.ensures.value c.if-is_some.ensures)

pub loop-selector-preserved : goal.loop-selector-preserved
loop-selector-preserved g c = one_passed c.loop-selector.selectors.items c.loop-selector.yielded c.in-Some.selector c.in-Some.slot c.loop-selector.invariant c.if-is_some.ensures
