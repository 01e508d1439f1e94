use Rattle.std.proofs.Common.{Ok, refl, subst}
use Rattle.std.proofs.lemmas.Result.{err_from_is_err_and}
use Rattle.s80_change.specs.declared.change.Change.TheVariants as changes
use Rattle.s80_model.specs.Asked.{AsksPlain, adds, condenses, snapshot_note}
use Rattle.s80_model.specs.Plain.{IsPlain}
use Rattle.s80_model.specs.declared.plain.Plain.{Plain}
use Rattle.s80_joining.proofs.Taking.{by_ask, plain_evaluated, plain_refused}
use Rattle.s80_joining.proofs.theirs.Theirs.work_text.Goals as goal

pub returns-in_err-form : goal.returns-in_err-form
returns-in_err-form c = λ worked at short.
    let p = err_from_is_err_and c.from_residual-in_err-form.result c.from_residual-in_err-form.ensures.1 in
    rw (p.1, p.2) (plain_refused c.args.text worked c.args.self.now c.in_err-form.field-0.0 c.in_err-form.ensures)

pub returns-in-Form : goal.returns-in-Form
returns-in-Form c = λ worked at short.
    let P : Plain → Type 0 = λ x. IsPlain c.args.text (Ok x) in
    by_ask (AsksPlain c.args.text) worked (adds (changes.Form c.in-Form.form)) c.work_change.new.self c.work_change.result (subst P c.in-Form.is c.in_ok-form.ensures) (c.work_change.ensures worked at)

pub returns-in-Snapshot : goal.returns-in-Snapshot
returns-in-Snapshot c = λ worked at short.
    let P : Plain → Type 0 = λ x. IsPlain c.args.text (Ok x) in
    (adds (changes.DoIt snapshot_note), subst P c.in-Snapshot.is c.in_ok-form.ensures, (worked, refl, at))

pub returns-in-Condense : goal.returns-in-Condense
returns-in-Condense c = λ worked at short.
    let P : Plain → Type 0 = λ x. IsPlain c.args.text (Ok x) in
    (condenses, subst P c.in-Condense.is c.in_ok-form.ensures, (worked, refl, at))

pub returns : goal.returns
returns c = λ worked at short.
    let P : Plain → Type 0 = λ x. IsPlain c.args.text (Ok x) in
    plain_evaluated c.args.text c.in-Evaluate.field-0 c.in-Evaluate.field-1 worked c.args.self.now (subst P c.in-Evaluate.is c.in_ok-form.ensures) at
