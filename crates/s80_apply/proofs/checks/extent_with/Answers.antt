use Rattle.std.proofs.Common.{◌≡◌, sym, ap, ◌∙◌, length, Option, option_map, unwrap_or, []}
use Rattle.std.specs.FinMap as map
use Rattle.std.proofs.lemmas.Result.{IfOk-weaker}
use Rattle.s80_class.specs.Classes.{ClassRow, extent_of}
use Rattle.s80_class.specs.Counted.{greatest_of}
use Rattle.s80_apply.specs.Accept.{row_of, define}
use Rattle.s80_apply.specs.Extent.{IsGreatest}
use Rattle.s80_apply.proofs.Refusing.{counted_top, valid_after, extent_new, extent_there}
use Rattle.s80_apply.proofs.checks.extent_with.Goals as goal

pub returns-in-Some : goal.returns-in-Some
returns-in-Some c =
    let d = c.args.definition.now in
    let classes = c.args.classes.now.classes in
    let side : c.count-side.result ≡ length (row_of d (map.get classes d.class_name)).class_side_vars =
    c.count-side.ensures ∙ sym (ap (λ (o : Option ClassRow). length (unwrap_or (option_map (λ (row : ClassRow). row.class_side_vars) o) [])) c.in-Some.ensures.found.row) in
    let top = c.totals_on.ensures ∙ counted_top d classes c.class_named.ensures.valid c.requires.superclass c.requires.acyclic _ _ c.totals_of-inherited.ensures side in
    IfOk-weaker c.greatest_with.result (λ g. g ≡ greatest_of (extent_of (define d classes) d.class_name)) (IsGreatest (extent_of (define d classes) d.class_name))
    (λ g is. extent_there d classes c.class_named.ensures.valid c.requires.superclass c.requires.acyclic c.requires.within c.requires.small _ c.in-Some.ensures.found.row g is)
    (c.greatest_with.ensures d.class_name (row_of d (map.get classes d.class_name)) c.in-Some.ensures.found.named (valid_after d classes c.class_named.ensures.valid c.requires.superclass c.requires.acyclic) top)

pub returns-in-None : goal.returns-in-None
returns-in-None c =
    let d = c.args.definition.now in
    let classes = c.args.classes.now.classes in
    let none : 0 ≡ length (row_of d (map.get classes d.class_name)).class_side_vars =
    sym (ap (λ (o : Option ClassRow). length (unwrap_or (option_map (λ (row : ClassRow). row.class_side_vars) o) [])) c.in-None.ensures.found) in
    let top = c.totals_on-in-None.ensures ∙ counted_top d classes c.class_named.ensures.valid c.requires.superclass c.requires.acyclic _ _ c.totals_of-inherited.ensures none in
    extent_new d classes c.class_named.ensures.valid c.requires.superclass c.requires.acyclic c.requires.within c.requires.small c.in-None.ensures.found _ _ top c.alone.ensures
