use Rattle.std.proofs.Common.{◌∙◌, sym}
use Rattle.std.proofs.lemmas.List.{nil_from_length}
use Rattle.s80_joining.proofs.Accepted.{no_conflicts}
use Rattle.s80_joining.proofs.outcome.outcome_of.Goals as goal

pub returns-then-count-eq0-clause-outcome : goal.returns-then-count-eq0-clause-outcome
returns-then-count-eq0-clause-outcome c = λ base ours items has. no_conflicts base ours items c.args.theirs c.args.conflicts (nil_from_length c.args.conflicts (sym c.count.ensures ∙ c.if-count-eq0.true)) has
