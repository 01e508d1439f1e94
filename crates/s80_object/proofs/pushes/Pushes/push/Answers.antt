use Rattle.std.proofs.Common.{◌∙◌, ◌++◌, ◌∷◌, [], ap, ap₂, map, nat_eq}
use Rattle.std.proofs.lemmas.List.{map-append}
use Rattle.indexmap.proofs.CallerLemmas.{insert_entry-new}
use Rattle.s80_object.specs.Seen.{made_of}
use Rattle.s80_object.proofs.lemmas.Kept.{found, made_again}
use Rattle.s80_object.proofs.pushes.Pushes.push.Goals as goal

pub returns-clause-ok : goal.returns-clause-ok
returns-clause-ok c =
    let es = c.self.inside.values.entries in
    let absent = found c.args.method c.args.entry c.ranges.entry.fits c.key.result c.key.ensures es c.args.self.now c.self.view_is ∙ c.requires in
    ap (map made_of) (c.in_ok-insert.ensures.entries ∙ insert_entry-new nat_eq c.self.inside.values c.key.result c.args.value absent)
    ∙ map-append made_of es ((c.key.result, c.args.value) ∷ [])
    ∙ ap₂ (λ xs x. xs ++ x ∷ []) c.self.view_is (ap (λ k. made_of (k, c.args.value)) c.key.ensures ∙ made_again c.args.method c.args.entry c.ranges.entry.fits c.args.value)
