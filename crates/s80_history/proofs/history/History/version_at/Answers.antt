use Rattle.std.proofs.Common.{◌∙◌, ap, reverse, slice_get, sym}
use Rattle.s80_history.specs.Lists.{MethodName}
use Rattle.s80_history.proofs.Continuing.{places_shown}
use Rattle.s80_history.proofs.history.History.version_at.Goals as goal

pub returns-clause-place : goal.returns-clause-place
returns-clause-place c =
    let name : MethodName = record { class_name = c.args.class_name.now; side = c.args.side; selector = c.args.selector.now } in
    c.newest.ensures
    ∙ ap (λ places. slice_get (reverse places) c.args.i) c.versions.ensures
    ∙ ap (λ places. slice_get places c.args.i) (sym (places_shown c.self.inside.members.items c.self.inside.classes.entries c.self.inside.next c.args.self.now name c.self.view_is))

pub returns-clause-of : goal.returns-clause-of
returns-clause-of c = λ changes is.
    let name : MethodName = record { class_name = c.args.class_name.now; side = c.args.side; selector = c.args.selector.now } in
    returns-clause-place c ∙ ap (λ places. slice_get places c.args.i) (is.versions name)
