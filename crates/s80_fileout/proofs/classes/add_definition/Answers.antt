use Rattle.std.proofs.Common.{◌∙◌, ◌++◌, [], ◌∷◌, sym, ap}
use Rattle.std.proofs.lemmas.Result.{on_ok_weaker}
use Rattle.s80_form.specs.declared.definition.Definition.{Definition}
use Rattle.s80_form.specs.declared.form.Form.TheVariants.{Define}
use Rattle.s80_change.specs.declared.change.Change.TheVariants.{Form}
use Rattle.s80_class.specs.Table.{row_of}
use Rattle.s80_fileout.specs.Condensed.{defined}
use Rattle.s80_fileout.proofs.Systems.{named_above}
use Rattle.s80_fileout.proofs.classes.add_definition.Goals as goal

pub returns : goal.returns
returns c =
    let names = c.args.classes.now.names in
    let entry = c.args.entry.now in
    let above = named_above names entry.superclass c.in-Some.number c.at.result.now.class_name c.in-Some.is c.at.ensures.named in
    on_ok_weaker c.push.result
    (λ more. more ∙ ap (λ (d : Definition). c.args.changes.now ++ Form (Define d) ∷ []) (c.in_ok-definition.ensures names) ∙ ap (λ s. c.args.changes.now ++ defined entry.class_name (row_of names entry) s) (sym above))
    c.push.ensures.ok
