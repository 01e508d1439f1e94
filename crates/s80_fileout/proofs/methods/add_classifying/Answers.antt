use Rattle.std.proofs.Common.{◌≡◌, ◌∙◌, ◌++◌, [], ◌∷◌, false, sym, ap}
use Rattle.std.specs.Prelude.{if◌then◌else◌}
use Rattle.std.specs.Str.{bytes_eq}
use Rattle.std.proofs.lemmas.Result.{on_ok_weaker}
use Rattle.s80_form.specs.declared.form.Form.TheVariants.{Classify}
use Rattle.s80_change.specs.declared.change.Change.TheVariants.{Form}
use Rattle.s80_fileout.proofs.Looked.{texts_turned}
use Rattle.s80_fileout.proofs.methods.add_classifying.Goals as goal

pub returns : goal.returns
returns c =
    let listed = c.args.listed in
    let method = listed.method in
    let before = c.args.before.now in
    let differs : bytes_eq before method.category ≡ false = texts_turned before method.category ∙ ap (λ t. bytes_eq t before) (sym c.bytes.ensures) ∙ sym c.eq.ensures ∙ c.if-eq.false in
    on_ok_weaker c.push.result
    (λ more. more ∙ ap (λ b. c.args.changes.now ++ (if b then [] else (Form (Classify method.class_name method.side listed.selector method.category) ∷ []))) (sym differs))
    c.push.ensures.ok
