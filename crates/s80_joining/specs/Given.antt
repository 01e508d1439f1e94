-- A second change set, item by item: what its items come to so far.
use Rattle.std.specs.Prelude.{All, List, Err}
use Rattle.s80_change.specs.Block.{IsLawful}
use Rattle.s80_apply.specs.State.{State}
use Rattle.s80_model.specs.declared.item.SessionItem.{SessionItem}
use Rattle.s80_joining.specs.declared.given.Given.{Given}
use Rattle.s80_joining.specs.declared.given.Given.TheVariants.{Worked, Bad}
use Rattle.s80_joining.specs.declared.outcome.Outcome.{Outcome}
use Rattle.s80_joining.specs.declared.outcome.Outcome.TheVariants.{Refused, Conflicts, Joins}
use Rattle.s80_joining.specs.Theirs.{AreWorked, HasTaken}

-- it took in these items, from the state of a base
abbrev pub HasCome : Given → State → List SessionItem → Type 0
HasCome (Worked theirs) state items = HasTaken theirs state items
HasCome (Bad refusal) state items = AreWorked state items (Err refusal)

-- changes that are to be added are lawful
abbrev pub JoinsLawful : Outcome → Type 0
JoinsLawful (Refused refusal) = Unit {0}
JoinsLawful (Conflicts keys) = Unit {0}
JoinsLawful (Joins theirs) = All IsLawful theirs
