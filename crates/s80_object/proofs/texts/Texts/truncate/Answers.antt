use Rattle.std.proofs.Common.{◌∙◌, ap, sym, map, take}
use Rattle.std.proofs.lemmas.List.{take-map}
use Rattle.s80_object.proofs.texts.Texts.truncate.Goals as goal

pub returns : goal.returns
returns c = ap (map (λ k. k.items)) c.truncate.ensures.keys ∙ sym (take-map (λ k. k.items) c.args.count c.self.inside.texts.keys) ∙ ap (take c.args.count) c.self.view_is
