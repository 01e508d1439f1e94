use Rattle.s80_tree.specs.Tree.{doit_of}
use Rattle.s80_form.specs.TreeParts.{sending_of}
use Rattle.s80_form.specs.Shown.{Has, SaysSent, SaysOrganizing, recognised_as}
use Rattle.s80_form.proofs.lemmas.Sendings.{nothing, finds_same}
use Rattle.s80_form.proofs.lemmas.OneForm.{sent_has, has_sent, organizing_has, has_organizing, has_none}
use Rattle.s80_form.proofs.shown.form_shown.Goals as goal

pub returns-in-Some : goal.returns-in-Some
returns-in-Some c =
    finds_same recognised_as (SaysSent (sending_of c.in-Some.sending)) (Has (doit_of c.args.tree.now))
    (λ y. sent_has (doit_of c.args.tree.now) (sending_of c.in-Some.sending) y c.in-Some.ensures) (λ y. has_sent (doit_of c.args.tree.now) (sending_of c.in-Some.sending) y c.in-Some.ensures)
    c.sent.result c.sent.ensures

pub returns-in_err-only_organizing : goal.returns-in_err-only_organizing
returns-in_err-only_organizing c =
    nothing recognised_as (Has (doit_of c.args.tree.now)) c.from_residual.result c.from_residual.ensures
    (λ y. has_none (doit_of c.args.tree.now) y c.in_default.ensures c.in_err-only_organizing.ensures)

pub returns : goal.returns
returns c =
    finds_same recognised_as (SaysOrganizing (sending_of c.in_ok-only_organizing.field-0)) (Has (doit_of c.args.tree.now))
    (λ y. organizing_has (doit_of c.args.tree.now) (sending_of c.in_ok-only_organizing.field-0) y c.in_ok-only_organizing.ensures)
    (λ y. has_organizing (doit_of c.args.tree.now) (sending_of c.in_ok-only_organizing.field-0) y c.in_ok-only_organizing.ensures)
    c.classified.result c.classified.ensures
