use Rattle.s80_keeper.proofs.ListBegins.{ListLaws, begins_as_front}
use Rattle.s80_keeper.proofs.laws.lists_begin_with_a_front.Goals as goal

pub returns : goal.returns
returns c = λ files mark changes stands image built.
    let laws : ListLaws = record {
      named = c.classes_are_named.ensures;
      tied = c.places_are_of_the_state.ensures;
      stand = c.sources_stand.ensures;
      verified = c.images_of_lists_are_lawful.ensures.verified;
      fit = c.sources_of_a_list_are_those_of_its_image.ensures;
    } in
    begins_as_front laws files mark changes stands built image
