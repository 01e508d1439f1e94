use Rattle.std.proofs.Common.{◌∙◌, sym}
use Rattle.std.proofs.lemmas.Bool.{false≢true}
use Rattle.std.proofs.lemmas.Slice.Eq.{bytes_eq-Decides}
use Rattle.s80_form.proofs.Reading.{found_same}
use Rattle.s80_form.proofs.read.read_form.Goals as goal

pub returns-else-eq : goal.returns-else-eq
returns-else-eq c = λ f h t.
    let same = found_same c.args.text.now c.in_ok-spelled.spelled c.in-Some.form f c.in_ok-form.field-0 c.in-Some.is (c.in_ok-form.ensures f h (c.bytes.ensures ∙ t)) c.in_ok-spelled.ensures t in
    false≢true (c.if-eq.ensures ∙ (bytes_eq-Decides c.bytes-2.result.now c.bytes-3.result.now).1 (c.bytes-2.ensures ∙ same ∙ sym c.bytes-3.ensures))
