use Rattle.std.proofs.Common.{◌∙◌, ap, length, sym}
use Rattle.std.proofs.lemmas.List.{length-reverse}
use Rattle.s80_history.specs.Lists.{MethodName}
use Rattle.s80_history.specs.Traces.{versions_in}
use Rattle.s80_history.proofs.Continuing.{places_shown}
use Rattle.s80_history.proofs.history.History.version_count.Goals as goal

pub returns : goal.returns
returns c =
    let name : MethodName = record { class_name = c.args.class_name.now; side = c.args.side; selector = c.args.selector.now } in
    ap length c.versions.ensures
    ∙ sym (length-reverse (versions_in c.self.inside.classes.entries name))
    ∙ ap length (sym (places_shown c.self.inside.members.items c.self.inside.classes.entries c.self.inside.next c.args.self.now name c.self.view_is))
