use Rattle.s80_model.specs.declared.item.SessionItem.TheVariants.{Chunk}
use Rattle.s80_filing.proofs.FiledIn.{OneAsk}
use Rattle.s80_filing.proofs.FileFiledIn.{bytes_filed_in, state_behind}
use Rattle.s80_filing.proofs.laws.a_file_is_filed_in.Goals as goal

pub returns-clause-list : goal.returns-clause-list
returns-clause-list c = λ work changes seconds moment text top file can.
    let read = c.a_file_is_read_again.ensures changes seconds moment text can.lawful can.short file in
    let one : OneAsk = λ w item ask other h k. c.one_ask.ensures.one w (Chunk item) ask other tt h k in
    bytes_filed_in one c.one_reading.ensures work changes seconds text moment top file.at read can

pub returns-clause-state : goal.returns-clause-state
returns-clause-state c = state_behind
