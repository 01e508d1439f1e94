use Rattle.std.proofs.Common.{◌≡◌, ◌∙◌, ap, length, rules, sym}
use Rattle.std.proofs.lemmas.List.{length-map}
use Rattle.s80_history.specs.Keys.{key_name, names_in}
use Rattle.s80_history.proofs.Kept.{methods_shown, one_list}
use Rattle.s80_history.proofs.history.History.key_count.Goals as goal

pub returns : goal.returns
returns c = λ names are.
    let inside = c.self.inside in
    let own = methods_shown inside.members.items inside.classes.entries inside.next c.args.self.now inside.keys inside.next inside.next_key c.self.view_is c.self.invariant.1 in
    let counted : c.len.result ≡ length inside.keys.items = search rules in
    counted ∙ sym (length-map inside.keys.items key_name) ∙ ap length (one_list c.args.self.now (names_in inside.keys.items) names own are)
