use Rattle.std.proofs.Common.{Ok, subst, ◌∙◌}
use Rattle.s80_change.specs.Check.{IsCheckOf}
use Rattle.s80_fileout.proofs.Systems.{listed_is}
use Rattle.s80_fileout.proofs.methods.listed.Goals as goal

pub returns : goal.returns
returns c =
    let source = c.in_ok-parse.field-0 in
    let checked = subst (λ s. IsCheckOf s source.selector) c.in_ok-copy-3.ensures c.in_ok-parse.ensures.check in
    listed_is c.args.class_name.now c.args.side c.args.selector.now c.args.entry.now c.in_ok-copy.field-0 c.in_ok-copy-2.field-0 c.in_ok-selector.selector source c.in_ok-copy.ensures c.in_ok-copy-2.ensures c.in_ok-selector.ensures
    (c.in_ok-parse.ensures.text ∙ c.in_ok-copy-3.ensures) (c.one_check.ensures c.args.entry.now.source source.selector (Ok c.args.selector.now) checked c.requires.check)
