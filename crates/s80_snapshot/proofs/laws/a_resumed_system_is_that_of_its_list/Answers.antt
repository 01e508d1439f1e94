use Rattle.s80_apply.specs.List.{state_of}
use Rattle.s80_apply.specs.Placed.{placed_of}
use Rattle.s80_snapshot.proofs.lemmas.ResumedState.{has_places, system_tied}
use Rattle.s80_snapshot.proofs.laws.a_resumed_system_is_that_of_its_list.Goals as goal

pub returns-clause-places : goal.returns-clause-places
returns-clause-places c = λ changes image system of resumed. has_places changes image system (c.classes_are_named.ensures changes) (c.places_are_of_the_state.ensures changes) of resumed

pub returns-clause-state : goal.returns-clause-state
returns-clause-state c = λ changes image system of resumed.
    let tied = c.places_are_of_the_state.ensures changes in
    system_tied system (placed_of changes) (state_of changes) tied (has_places changes image system (c.classes_are_named.ensures changes) tied of resumed)
