use Rattle.std.proofs.Common.{rules}
use Rattle.s80_form.proofs.Keywords.{kind_from}
use Rattle.s80_form.proofs.keyword.kind_of.Goals as goal

pub returns : goal.returns
returns c =
    kind_from c.kind_named.result c.args.selector.now c.as_slice-keywords.result.now c.in_ok-strip_suffix.field-0.now
    c.in_ok-strip_suffix.ensures.cases.0 c.in_ok-strip_suffix.ensures.cases.1 (search rules) c.kind_named.ensures
