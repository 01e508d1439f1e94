-- The image of a list is lawful.
use Rattle.std.proofs.Common.{◌≡◌, ◌<◌, ◌≤◌, ◌^◌, ℕ, sym, subst, List, length, Some, arith}
use Rattle.std.specs.List.{All}
use Rattle.s80_change.specs.declared.change.Change.{Change}
use Rattle.s80_change.specs.Block.{IsList, blocks}
use Rattle.s80_class.specs.Classes.{Name, ClassRow, Classes, IsLine, lineage}
use Rattle.s80_apply.specs.List.{IsBuilt}
use Rattle.s80_apply.specs.Placed.{placed_of}
use Rattle.s80_apply.specs.Source.{AllStand}
use Rattle.s80_history.specs.Lists.{placed_from}
use Rattle.s80_image.specs.Classes.{classes}
use Rattle.s80_image.specs.Format.{pair, word64}
use Rattle.s80_image.specs.History.{VersionsView, all_versions, change_set}
use Rattle.s80_image.specs.Image.{HasLawfulFields, ImageView, contents, image_bytes, image_format, signature_bytes}
use Rattle.s80_image.specs.Together.{IsLawfulImage}
use Rattle.s80_snapshot.specs.OfList.{IsImageOf}
use Rattle.s80_snapshot.specs.Pictured.{IsCounted}
use Rattle.s80_snapshot.proofs.LawfulClasses.{IsKnownList, ListLaws, classes_pass}
use Rattle.s80_snapshot.proofs.LawfulHistories.{all_versions_pass, set_passes}
use Rattle.s80_snapshot.proofs.ListedChanges.{AreListed, NamesLaws, all_listed, few_changes}
use Rattle.s80_snapshot.proofs.PassingFormats.{AreBytes, Passes, back_bytes, pair_passes, word64_passes}
use Rattle.s80_snapshot.proofs.TogetherClasses.{together_right}

module _ (laws : ListLaws) (names_laws : NamesLaws)
    (line_is : (classes : Classes) (name : Name) (es : List (Name × ClassRow)) → IsLine classes (Some name) es → lineage classes name ≡ es)
    (changes : List Change) (known : IsKnownList changes) (stand : AllStand (blocks changes) (placed_of changes)) (list : IsList changes) (built : IsBuilt changes) (image : ImageView) (of : IsImageOf changes image) (counted : IsCounted image) where
  abbrev end : ℕ
  end = length (blocks changes)

  few : end ≤ 2 ^ 36
  few = list.within

  listed : AreListed end 0 (placed_from 0 changes)
  listed = all_listed names_laws changes list.lawful built

  versions_in_pass : Passes all_versions image.versions
  versions_in_pass =
      subst (λ vs. Passes all_versions vs) (sym of.versions)
      (all_versions_pass changes end few listed of.names of.put (subst (λ (vs : List VersionsView). length vs < 2 ^ 32) of.versions counted.versions)
      (subst (λ (vs : List VersionsView). All (λ (v : VersionsView). length v.places < 2 ^ 32) vs) of.versions counted.places))

  contents_pass : Passes contents image
  unfolding contents
  contents_pass =
      pair_passes word64 (λ _. pair classes (λ _. pair change_set (λ _. all_versions))) (image.count, (image.classes, (image.change_set, image.versions)))
      (word64_passes image.count (omega (arith, of.count, few_changes changes listed, few)))
      (pair_passes classes (λ _. pair change_set (λ _. all_versions)) (image.classes, (image.change_set, image.versions)) (classes_pass laws changes known image of few stand)
      (pair_passes change_set (λ _. all_versions) (image.change_set, image.versions) (set_passes changes end image.change_set few listed of.change_set counted.change_set) versions_in_pass))

  fields_lawful : AreBytes (image_bytes image) → HasLawfulFields image
  unfolding image_format
  fields_lawful bytes = contents_pass (back_bytes signature_bytes (contents.spell image) bytes)

  pub image_lawful : AreBytes (image_bytes image) → IsLawfulImage image
  image_lawful bytes = record { fields = fields_lawful bytes; together = together_right changes known line_is image of }
