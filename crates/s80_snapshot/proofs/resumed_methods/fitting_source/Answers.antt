use Rattle.std.proofs.Common.{◌∙◌, Ok, sym, true≢false}
use Rattle.s80_snapshot.proofs.resumed_methods.fitting_source.Goals as goal

pub returns-else-has_selector : goal.returns-else-has_selector
returns-else-has_selector c = λ fits.
    let same = c.one_check.ensures c.args.text c.in_ok-source.source.selector (Ok c.args.selector.now) c.in_ok-source.ensures.check fits.2 in
    absurd (true≢false (sym (c.has_selector.ensures.1 same) ∙ c.if-has_selector.false))
