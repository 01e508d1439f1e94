-- Refusals, and the numbers by which they are known.
use Rattle.std.specs.Prelude.{ℕ}
use Rattle.s80_form.specs.declared.refusal.Refusal.{Refusal}
use Rattle.s80_form.specs.declared.refusal.Refusal.TheVariants.{Unended, Syntax, TooLarge, UnknownClass, KernelClass, HasSubclasses, Cycle, Duplicate, BadName, NoSelector, TooMany, LogFull, NoSection}

abbrev pub refusal_number : Refusal → ℕ
refusal_number Unended = 1
refusal_number (Syntax kind place) = 2
refusal_number (TooLarge kind count) = 3
refusal_number (UnknownClass name) = 4
refusal_number (KernelClass name) = 5
refusal_number (HasSubclasses name) = 6
refusal_number (Cycle name) = 7
refusal_number (Duplicate name) = 8
refusal_number (BadName name) = 9
refusal_number (NoSelector name side selector) = 10
refusal_number (TooMany kind count) = 11
refusal_number (LogFull count) = 12
refusal_number (NoSection text) = 13
