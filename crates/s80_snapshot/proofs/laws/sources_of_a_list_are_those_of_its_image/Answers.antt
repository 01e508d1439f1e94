use Rattle.s80_apply.specs.List.{state_of}
use Rattle.s80_snapshot.proofs.FiledMethods.{method_sourced}
use Rattle.s80_snapshot.proofs.ListSources.{are_sources}
use Rattle.s80_snapshot.proofs.laws.sources_of_a_list_are_those_of_its_image.Goals as goal

pub returns : goal.returns
returns c = λ changes image list built of.
    are_sources changes image (c.classes_are_named.ensures changes) (c.places_are_of_the_state.ensures changes) of
    (λ name class side selector row there is.
    method_sourced (λ class on selector row is. (c.found_methods_are_those_named.ensures class on selector row).0 is) c.kernel_sources_are_plain.ensures c.kernel_sources_fit.ensures
    (state_of changes) (c.a_file_of_all_classes_folds_back.ensures.lawful changes list.lawful) name class there side selector row is)
