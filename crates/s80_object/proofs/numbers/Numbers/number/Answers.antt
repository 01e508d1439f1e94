use Rattle.std.proofs.Common.{◌∙◌, ap, map}
use Rattle.std.proofs.lemmas.Result.{IfOk-weaker}
use Rattle.std.specs.List.{position_or_len}
use Rattle.std.specs.Str.{bytes_eq}
use Rattle.s80_object.specs.Literal.{added_once, is_opaque}
use Rattle.s80_object.specs.Seen.{number_of}
use Rattle.s80_object.proofs.lemmas.Kept.{number_place, number_added}
use Rattle.s80_object.proofs.numbers.Numbers.number.Goals as goal

pub returns-clause-number : goal.returns-clause-number
returns-clause-number c =
    let key = c.deref.ensures.value ∙ c.in_ok-key.ensures in
    IfOk-weaker c.number.result _ _
    (λ n is. is ∙ ap (λ k. position_or_len (bytes_eq k) c.self.inside.keys) key ∙ number_place c.args.kind c.args.text.now c.self.inside.keys c.self.invariant ∙ ap (position_or_len (is_opaque c.args.kind c.args.text.now)) c.self.view_is)
    c.number.ensures.number

pub returns-clause-ok : goal.returns-clause-ok
returns-clause-ok c =
    let key = c.deref.ensures.value ∙ c.in_ok-key.ensures in
    IfOk-weaker c.number.result _ _
    (λ n is. ap (map number_of) (is ∙ ap (λ k. added_once (bytes_eq k) k c.self.inside.keys) key) ∙ number_added c.args.kind c.args.text.now c.self.inside.keys c.self.invariant
    ∙ ap (added_once (is_opaque c.args.kind c.args.text.now) (record { kind = c.args.kind; text = c.args.text.now })) c.self.view_is)
    c.number.ensures.ok
