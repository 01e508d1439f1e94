-- The parts of a list that two change sets are merged by: the base from which both start, and ours.
use Rattle.std.specs.Prelude.{◌||◌, not, Bool, true, false, List, [], ◌∷◌, filter, map, if◌then◌else◌}
use Rattle.std.specs.List.{list_any}
use Rattle.s80_change.specs.declared.change.Change.{Change}
use Rattle.s80_change.specs.declared.change.Change.TheVariants.{DoIt}
use Rattle.s80_history.specs.Lists.{is_no_changes, set_of}

abbrev pub is_doit : Change → Bool
is_doit (DoIt text) = true
is_doit _ = false

-- the changes up to and with the last that passes; none where none does
abbrev pub up_to_last : (Change → Bool) → List Change → List Change
up_to_last passes [] = []
up_to_last passes (change ∷ changes) = if passes change || list_any passes changes then change ∷ up_to_last passes changes else []

-- the list up to and with the last change that begins a set, without its doIts
abbrev pub base_of : List Change → List Change
base_of changes = filter (λ change. not (is_doit change)) (up_to_last is_no_changes changes)

-- the change set
abbrev pub ours_of : List Change → List Change
ours_of changes = map (λ p. p.1) (set_of changes)
