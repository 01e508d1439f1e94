-- Each class has its dictionaries.
use Rattle.std.proofs.Common.{◌≡◌, length}
use Rattle.text_rows.proofs.lookups.worked.Given as goal

abbrev pub invariant-loop-step : goal.invariant-loop-step
invariant-loop-step l = length l.methods.sides ≡ length l.classes.names
