use Rattle.std.proofs.Common.{◌∙◌, ap, slice_get}
use Rattle.s80_history.specs.Keys.{names_in}
use Rattle.s80_history.proofs.Kept.{methods_shown, one_list}
use Rattle.s80_history.proofs.history.History.key_at.Goals as goal

pub returns-clause-names : goal.returns-clause-names
returns-clause-names c =
    let inside = c.self.inside in
    (names_in inside.keys.items, methods_shown inside.members.items inside.classes.entries inside.next c.args.self.now inside.keys inside.next inside.next_key c.self.view_is c.self.invariant.1)

pub returns-clause-key : goal.returns-clause-key
returns-clause-key c = λ names are.
    let inside = c.self.inside in
    let own = methods_shown inside.members.items inside.classes.entries inside.next c.args.self.now inside.keys inside.next inside.next_key c.self.view_is c.self.invariant.1 in
    c.key_at.ensures ∙ ap (λ ks. slice_get (names_in ks) c.args.i) c.deref.ensures.value ∙ ap (λ ns. slice_get ns c.args.i) (one_list c.args.self.now (names_in inside.keys.items) names own are)
