use Rattle.std.proofs.Common.{◌∙◌, ap, sym, map, take}
use Rattle.std.proofs.lemmas.List.{take-map}
use Rattle.s80_object.specs.Seen.{number_of}
use Rattle.s80_object.proofs.numbers.Numbers.truncate.Goals as goal

pub returns : goal.returns
returns c = ap (map number_of) c.truncate.ensures ∙ sym (take-map number_of c.args.count c.self.inside.keys) ∙ ap (take c.args.count) c.self.view_is
