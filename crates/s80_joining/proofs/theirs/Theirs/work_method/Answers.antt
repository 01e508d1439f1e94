use Rattle.std.proofs.Common.{◌∙◌, ap, sym}
use Rattle.s80_joining.specs.Theirs.{after_source}
use Rattle.s80_joining.proofs.Taking.{by_method, method_outside}
use Rattle.s80_joining.proofs.theirs.Theirs.work_method.Goals as goal

pub returns-in_ok-method-in-Open : goal.returns-in_ok-method-in-Open
returns-in_ok-method-in-Open c = λ worked at short.
    let source = c.in_ok-source in
    by_method c.args.text source.source c.in-Open.head c.in_ok-method-in-Open.method worked c.args.self.now c.work_change.new.self c.work_change.result (source.ensures.text, source.ensures.check)
    c.in-Open.is c.in_ok-method-in-Open.ensures at (c.work_change.ensures worked at)

pub returns-in-Top : goal.returns-in-Top
returns-in-Top c = λ worked at short.
    let source = c.in_ok-source in
    method_outside c.args.text source.source worked c.args.self.now (source.ensures.text, source.ensures.check) (ap (λ s. after_source worked s source.source) (sym at.section ∙ c.in-Top.is)) at

pub returns-in-Refused : goal.returns-in-Refused
returns-in-Refused c = λ worked at short.
    let source = c.in_ok-source in
    method_outside c.args.text source.source worked c.args.self.now (source.ensures.text, source.ensures.check) (ap (λ s. after_source worked s source.source) (sym at.section ∙ c.in-Refused.is)) at
