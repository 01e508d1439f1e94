use Rattle.std.proofs.Common.{sym, subst, ◌++◌, All, ℕ, List, map as list_map}
use Rattle.s80_change.specs.declared.change.Change.{Change}
use Rattle.s80_change.specs.Block.{IsLawful}
use Rattle.s80_history.specs.Lists.{set_of}
use Rattle.s80_apply.specs.List.{state_of, IsBuilt}
use Rattle.s80_model.specs.declared.item.SessionItem.TheVariants.{Chunk}
use Rattle.s80_model.specs.Replies.{begun}
use Rattle.s80_model.specs.Settings.{Settings}
use Rattle.s80_fileout.specs.FileText.{changes_text, header}
use Rattle.s80_filing.specs.Filing.{FilesIn, HasRoom}
use Rattle.s80_filing.proofs.FiledIn.{OneAsk}
use Rattle.s80_filing.proofs.SetFolds.{set_files_in}
use Rattle.s80_filing.proofs.laws.a_change_set_files_in.Goals as goal

-- what is filed out of such a list is filed in
abbrev FilesAgain : Settings → List Change → List ℕ → List Change → Type 0
FilesAgain settings before moment list =
    let set = list_map (λ p. p.1) (set_of list) in
    IsBuilt list → All IsLawful list → HasRoom before set moment → FilesIn (begun settings before) (header moment ++ changes_text set) (state_of list)

pub returns : goal.returns
returns c = λ work settings before set seconds moment whole begins built kept at room.
    let one : OneAsk = λ w item ask other h k. c.one_ask.ensures.one w (Chunk item) ask other tt h k in
    let again : FilesAgain settings before moment (before ++ set) = λ is lawful. set_files_in one c.one_reading.ensures c.a_file_is_read_again.ensures settings before set seconds moment begins is lawful at in
    subst (FilesAgain settings before moment) (sym whole) again built kept.lawful room
