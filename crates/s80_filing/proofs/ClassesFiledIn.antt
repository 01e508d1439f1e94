-- All classes, filed out and filed in behind an empty list.
use Rattle.std.proofs.Common.{◌≡◌, ◌∙◌, inl, inr, ℕ, All, List, [], ◌∷◌, ◌++◌, refl}
use Rattle.std.proofs.lemmas.List.Elements.{All-nil, All-cons}
use Rattle.s80_change.specs.declared.change.Change.{Change}
use Rattle.s80_change.specs.declared.change.Change.TheVariants.{Form, Method, DoIt}
use Rattle.s80_change.specs.Block.{IsLawful}
use Rattle.s80_apply.specs.List.{state_of, AreAccepted}
use Rattle.s80_apply.specs.State.{kernel_state}
use Rattle.s80_model.specs.Replies.{begun}
use Rattle.s80_model.specs.Settings.{Settings}
use Rattle.s80_fileout.specs.Condensed.{filed}
use Rattle.s80_fileout.specs.Items.{IsReadAs}
use Rattle.s80_fileout.specs.Moment.{IsMoment}
use Rattle.s80_fileout.proofs.LawfulList.{AreSound, IsSound}
use Rattle.s80_fileout.proofs.SoundParts.{filed_sound}
use Rattle.s80_filing.specs.Filing.{CanFile, FilesIn, HasRoom, IsNoDoIt, headed}
use Rattle.s80_filing.proofs.FiledIn.{OneAsk}
use Rattle.s80_filing.proofs.FileFiledIn.{bytes_filed_in, state_behind, OneReading}

-- ---- the file has no doIt

no_doit : (change : Change) → IsSound change → IsNoDoIt change
no_doit (Form form) sound = tt
no_doit (Method m) sound = tt
no_doit (DoIt text) sound = absurd sound

no_doits : (changes : List Change) → AreSound changes → All IsNoDoIt changes
no_doits [] sound = All-nil IsNoDoIt
no_doits (change ∷ changes) sound = All-cons IsNoDoIt change changes (no_doit change (sound change (inl refl))) (no_doits changes (λ x at. sound x (inr at)))

-- ---- it is filed in

-- what a law of files of all classes says of a list
pub record FoldsBack (changes : List Change) : Type 0 where
  pub accepted : AreAccepted kernel_state (filed (state_of changes))
  pub state : state_of (filed (state_of changes)) ≡ state_of changes
  pub lawful : All IsLawful (filed (state_of changes))

pub classes_filed_in : OneAsk → OneReading → (changes : List Change) (settings : Settings) (seconds : ℕ) (text moment : List ℕ) → All IsLawful changes → FoldsBack changes → IsMoment seconds moment
    → HasRoom [] (filed (state_of changes)) moment → IsReadAs text moment (filed (state_of changes)) → FilesIn (begun settings []) text (state_of changes)
classes_filed_in one sole changes settings seconds text moment lawful folds at room read =
    let can : CanFile (headed [] moment) (filed (state_of changes)) = record {
      lawful = folds.lawful;
      short = room.short;
      no_doit = no_doits (filed (state_of changes)) (filed_sound changes lawful);
      accepted = folds.accepted;
      within = room.within;
    } in
    (headed [] moment ++ filed (state_of changes), bytes_filed_in one sole (begun settings []) (filed (state_of changes)) seconds text moment refl at read can, state_behind [] (filed (state_of changes)) moment ∙ folds.state)
