-- A list that keeps versions is lawful, where the list was.
use Rattle.std.proofs.Common.{◌≢◌, inl, inr, ◌∙◌, ℕ, sym, ap, subst, List, [], ◌∷◌, filter, take}
use Rattle.std.specs.List.{All}
use Rattle.std.proofs.lemmas.List.Elements.{All-head, All-tail}
use Rattle.s80_form.specs.Name.{IsBrief}
use Rattle.s80_change.specs.declared.change.Change.{Change}
use Rattle.s80_change.specs.Block.{IsLawful}
use Rattle.s80_history.specs.Lists.{puts}
use Rattle.s80_apply.specs.List.{IsBuilt, state_of}
use Rattle.s80_fileout.specs.Condensed.{classified, condensed_with, first_category, last_category, newest, of_versions}
use Rattle.s80_fileout.proofs.Elements.{IsIn, filtered_in}
use Rattle.s80_fileout.proofs.Cells.{Cell}
use Rattle.s80_fileout.proofs.ManyCells.{CellRow, IsCell, cell_of}
use Rattle.s80_fileout.proofs.Brief.{brief_last}
use Rattle.s80_fileout.proofs.LawfulList.{AreSound, IsSound, sound_both}
use Rattle.s80_fileout.proofs.SoundParts.{category_brief, name_brief, sound_classified, sound_condensed, sound_made}
use Rattle.s80_fileout.proofs.Putting.{PutsCell, in_reversed, name_of, versions, versions_are}
use Rattle.s80_fileout.proofs.KeptVersions.{in_taken, version_puts}
use Rattle.s80_fileout.proofs.KeptOnce.{newest_are}
use Rattle.s80_fileout.proofs.KeptCategories.{IsUnder, built_under}

lawful_in : (cs : List Change) (x : Change) → All IsLawful cs → IsIn x cs → IsLawful x
lawful_in [] x lawful at = absurd at
lawful_in (c ∷ cs) x lawful (inl same) = subst IsLawful (sym same) (All-head IsLawful c cs lawful)
lawful_in (c ∷ cs) x lawful (inr more) = lawful_in cs x (All-tail IsLawful c cs lawful) more

-- a lawful change that puts a method is sound
put_sound : (c : Cell) (x : Change) → PutsCell c x → IsLawful x → IsSound x
put_sound c x p lawful = subst IsSound (sym p.is) (subst IsLawful p.is lawful)

module _ (count : ℕ) (cs : List Change) (built : IsBuilt cs) (lawful : All IsLawful cs) where
  newest_sound : (c : Cell) → AreSound (newest count cs (name_of c))
  newest_sound c x at =
      let there : IsIn x (versions cs c) = in_taken x count (versions cs c) (in_reversed x (take count (versions cs c)) (subst (IsIn x) (newest_are count cs c) at)) in
      put_sound c x (version_puts cs c x there) (lawful_in cs x lawful (filtered_in (puts (name_of c)) x cs (in_reversed x (filter (puts (name_of c)) cs) there)))

  of_versions_sound : (x : CellRow) → IsCell (state_of cs) x → AreSound (of_versions count cs x.0 x.1 x.2 x.3)
  of_versions_sound x cell =
      let c : Cell = cell_of x in
      sound_both (newest count cs (name_of c)) (classified x.0 x.1 x.2 (last_category cs (name_of c)) x.3.category) (newest_sound c)
      (sound_classified c (last_category cs (name_of c)) x.3.category (name_brief cs lawful x cell) (selector_brief (built_under cs built lawful c x.3 cell.row)) (category_brief cs lawful x cell))
    where
      selector_brief : IsUnder (cell_of x) (versions cs (cell_of x)) x.3.category → last_category cs (name_of (cell_of x)) ≢ x.3.category → IsBrief x.2
      selector_brief (inl same) differs = absurd (differs (ap first_category (versions_are cs (cell_of x)) ∙ same))
      selector_brief (inr brief) differs = brief

  pub kept_sound : AreSound (condensed_with (of_versions count cs) (state_of cs))
  kept_sound = sound_condensed (of_versions count cs) (state_of cs) (sound_made (state_of cs) (brief_last cs lawful) (of_versions count cs) of_versions_sound)
