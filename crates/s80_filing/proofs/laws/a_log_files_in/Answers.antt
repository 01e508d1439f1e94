use Rattle.s80_model.specs.declared.item.SessionItem.TheVariants.{Chunk}
use Rattle.s80_filing.proofs.FiledIn.{OneAsk}
use Rattle.s80_filing.proofs.LogFiledIn.{log_filed_in}
use Rattle.s80_filing.proofs.laws.a_log_files_in.Goals as goal

pub returns : goal.returns
returns c =
    let one : OneAsk = λ w item ask other h k. c.one_ask.ensures.one w (Chunk item) ask other tt h k in
    log_filed_in one c.one_reading.ensures
