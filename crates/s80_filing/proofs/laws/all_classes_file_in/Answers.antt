use Rattle.std.proofs.Common.{◌++◌, refl}
use Rattle.s80_apply.specs.List.{state_of}
use Rattle.s80_model.specs.declared.item.SessionItem.TheVariants.{Chunk}
use Rattle.s80_fileout.specs.Condensed.{filed}
use Rattle.s80_fileout.specs.FileText.{changes_text, header}
use Rattle.s80_filing.proofs.FiledIn.{OneAsk}
use Rattle.s80_filing.proofs.ClassesFiledIn.{classes_filed_in, FoldsBack}
use Rattle.s80_filing.proofs.laws.all_classes_file_in.Goals as goal

pub returns : goal.returns
returns c = λ work settings seconds moment list at room.
    let one : OneAsk = λ w item ask other h k. c.one_ask.ensures.one w (Chunk item) ask other tt h k in
    let all = c.a_file_of_all_classes_folds_back.ensures in
    let folds : FoldsBack work.changes = record { accepted = all.accepted work.changes; state = all.state work.changes; lawful = all.lawful work.changes list.lawful } in
    let text = header moment ++ changes_text (filed (state_of work.changes)) in
    let read = c.a_file_is_read_again.ensures (filed (state_of work.changes)) seconds moment text folds.lawful room.short (record { at = at; whole = refl }) in
    classes_filed_in one c.one_reading.ensures work.changes settings seconds text moment list.lawful folds at room read
