use Rattle.std.proofs.Common.{◌∙◌, Option, false, ap}
use Rattle.std.specs.List.{list_any}
use Rattle.std.specs.Option.{option_map_or}
use Rattle.std.specs.Str.{bytes_eq}
use Rattle.std.proofs.lemmas.Result.{IfOk-weaker}
use Rattle.s80_apply.specs.Entries.{Entry}
use Rattle.s80_xref.specs.Links.{linked}
use Rattle.s80_xref.proofs.link.linked_by.Goals as goal

pub returns-in-Some : goal.returns-in-Some
returns-in-Some c =
    let link = c.args.link in
    let selector = c.args.selector.now in
    IfOk-weaker c.linked.result _ _
    (λ names is word.
    ap (list_any (bytes_eq word)) is ∙ ap (λ code. list_any (bytes_eq word) (linked link selector code)) c.code.ensures.code
    ∙ ap (λ (o : Option Entry). option_map_or (λ (e : Entry). list_any (bytes_eq word) (linked link selector e.code)) o false) c.in-Some.ensures.value)
    c.linked.ensures

pub returns-in-None : goal.returns-in-None
returns-in-None c = λ word.
    ap (list_any (bytes_eq word)) c.empty.ensures
    ∙ ap (λ (o : Option Entry). option_map_or (λ (e : Entry). list_any (bytes_eq word) (linked c.args.link c.args.selector.now e.code)) o false) c.in-None.ensures.value
