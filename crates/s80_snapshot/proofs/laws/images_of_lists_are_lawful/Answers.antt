use Rattle.std.proofs.Common.{◌<◌, List}
use Rattle.std.specs.List.{All}
use Rattle.std.proofs.lemmas.List.Elements.{recursion_from_All}
use Rattle.s80_change.specs.Block.{IsLawful}
use Rattle.s80_change.specs.declared.change.Change.{Change}
use Rattle.s80_apply.specs.List.{state_of}
use Rattle.s80_fileout.specs.Condensed.{filed}
use Rattle.s80_image.specs.Image.{image_bytes}
use Rattle.s80_snapshot.proofs.FiledMethods.{method_sourced}
use Rattle.s80_snapshot.proofs.LawfulClasses.{IsKnownList, ListLaws, all_verified}
use Rattle.s80_snapshot.proofs.LawfulImages.{image_lawful}
use Rattle.s80_snapshot.proofs.ListFacts.{class_good}
use Rattle.s80_snapshot.proofs.ListedChanges.{NamesLaws}
use Rattle.s80_snapshot.proofs.laws.images_of_lists_are_lawful.Goals as goal

laws : goal.After-kernel_sources_fit → ListLaws
laws c = record {
  code = record {
    related = c.related_code_is_verified.ensures;
    arms = c.messages_fit_their_selectors.ensures.arms;
    sent = c.trees_are_well_sent.ensures.method;
    verify = c.depths_verify.ensures;
  };
  instance = c.shapes_have_as_many_variables.ensures.instance;
  class = c.shapes_have_as_many_variables.ensures.class;
  selectors = c.sources_have_selectors.ensures;
}

filed_lawful : goal.After-kernel_sources_fit → (changes : List Change) → All IsLawful changes → All IsLawful (filed (state_of changes))
filed_lawful c changes lawful = c.a_file_of_all_classes_folds_back.ensures.lawful changes lawful

known : goal.After-kernel_sources_fit → (changes : List Change) → All IsLawful changes → IsKnownList changes
known c changes lawful = record {
  named = c.classes_are_named.ensures changes;
  tied = c.places_are_of_the_state.ensures changes;
  filed = filed_lawful c changes lawful;
  lasts = c.kernel_classes_last.ensures changes;
  sourced = λ name class side selector row there is.
      method_sourced (λ class on selector row is. (c.found_methods_are_those_named.ensures class on selector row).0 is) c.kernel_sources_are_plain.ensures c.kernel_sources_fit.ensures
      (state_of changes) (filed_lawful c changes lawful) name class there side selector row is;
}

names_laws : goal.After-kernel_sources_fit → NamesLaws
names_laws c = record {
  class = λ changes lawful name row there. class_good changes (filed_lawful c changes lawful) (c.kernel_classes_last.ensures changes) name row there;
  selectors = c.sources_have_selectors.ensures;
}

pub returns-clause-lawful : goal.returns-clause-lawful
returns-clause-lawful c = λ changes image list built of counted bytes.
    image_lawful (laws c) (names_laws c) c.lineage_is_the_line.ensures changes (known c changes list.lawful) (c.sources_stand.ensures changes) list built image of counted (recursion_from_All (λ b. b < 256) (image_bytes image) bytes)

pub returns-clause-verified : goal.returns-clause-verified
returns-clause-verified c = λ changes image list of. all_verified (laws c) changes (known c changes list.lawful) image of
