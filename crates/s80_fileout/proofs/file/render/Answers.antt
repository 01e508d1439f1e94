use Rattle.std.proofs.Common.{◌≡◌, ◌∙◌, ◌++◌, ap}
use Rattle.std.proofs.lemmas.Result.{IfOk-weaker}
use Rattle.s80_fileout.specs.FileText.{IsFile, changes_text}
use Rattle.s80_fileout.proofs.file.render.Goals as goal

pub returns : goal.returns
returns c =
    let changes = changes_text c.args.changes.now in
    let header = c.in_ok-header.ensures in
    IfOk-weaker c.with_changes.result (λ text. text ≡ c.in_ok-header.header ++ changes) (IsFile c.args.changes.now c.args.seconds)
    (λ text is. (header.0, record { at = header.1; whole = is ∙ ap (λ first. first ++ changes) header.2 }))
    c.with_changes.ensures
