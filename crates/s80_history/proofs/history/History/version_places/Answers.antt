use Rattle.std.proofs.Common.{◌∙◌, ap, reverse, sym}
use Rattle.std.proofs.lemmas.Result.{IfOk-weaker}
use Rattle.s80_history.specs.Lists.{MethodName}
use Rattle.s80_history.proofs.Continuing.{places_shown}
use Rattle.s80_history.proofs.history.History.version_places.Goals as goal

pub returns : goal.returns
returns c =
    let name : MethodName = record { class_name = c.args.class_name.now; side = c.args.side; selector = c.args.selector.now } in
    IfOk-weaker c.newest_first.result _ _
    (λ places is. is ∙ ap reverse c.versions.ensures
    ∙ sym (places_shown c.self.inside.members.items c.self.inside.classes.entries c.self.inside.next c.args.self.now name c.self.view_is))
    c.newest_first.ensures
