use Rattle.std.proofs.Common.{◌∙◌}
use Rattle.s80_object.proofs.lemmas.Kept.{found_place, found_once, last_place, added_last, none_of}
use Rattle.s80_object.proofs.texts.Texts.number.Goals as goal

pub returns-in-Some-clause-number : goal.returns-in-Some-clause-number
returns-in-Some-clause-number c = found_place c.self.inside.texts.keys c.args.self.now c.self.view_is c.args.text.now c.in-Some.place c.in-Some.ensures.index

pub returns-in-Some-clause-ok : goal.returns-in-Some-clause-ok
returns-in-Some-clause-ok c = found_once c.self.inside.texts.keys c.args.self.now c.self.view_is c.args.text.now c.in-Some.ensures.found

pub returns-clause-number : goal.returns-clause-number
returns-clause-number c =
    c.in-Ok.ensures.1 ∙ c.len.ensures.len ∙ last_place c.self.inside.texts.keys c.args.self.now c.self.view_is c.args.text.now
    (none_of c.get_index_of.result c.in_default.not-Some ∙ c.get_index_of.ensures.found)

pub returns-clause-ok : goal.returns-clause-ok
returns-clause-ok c =
    added_last c.self.inside.texts.keys c.args.self.now c.self.view_is c.args.text.now c.in_ok-text.text (c.in_ok-text.ensures.items_if_clones_equal (λ x y same. same))
    c.insert.new.self.keys c.in_ok-insert.ensures.keys (none_of c.get_index_of.result c.in_default.not-Some ∙ c.get_index_of.ensures.found)
