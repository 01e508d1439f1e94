use Rattle.std.proofs.Common.{◌∙◌, ◌++◌, ap, refl, sym}
use Rattle.s80_joining.specs.declared.base.Base.{Base}
use Rattle.s80_joining.proofs.BaseRead.{change_begins, change_waits, doit_read}
use Rattle.s80_joining.proofs.base.Base.read.Goals as goal

pub returns-then-is_doit : goal.returns-then-is_doit
returns-then-is_doit c = λ changes at. doit_read c.args.self.now changes c.args.change (sym c.if-is_doit.true ∙ c.is_doit.ensures) at

pub returns-else-begins : goal.returns-else-begins
returns-else-begins c = λ changes at.
    let now : Base = record { base = c.args.self.now.base; since = c.push.new.self } in
    change_waits c.args.self.now now changes c.args.change (sym c.is_doit.ensures ∙ c.if-is_doit.false) at (sym c.is_no_changes-begins.ensures ∙ c.if-begins.false) refl c.in_ok-push.ensures.ok

pub returns-in_ok-take_since : goal.returns-in_ok-take_since
returns-in_ok-take_since c = λ changes at.
    change_begins c.args.self.now c.take_since.new.self changes c.args.change (sym c.is_doit.ensures ∙ c.if-is_doit.false) at (sym c.is_no_changes-begins.ensures ∙ c.if-begins.true)
    (c.in_ok-take_since.ensures.base ∙ ap (λ cs. c.args.self.now.base ++ cs) c.in_ok-push.ensures.ok) c.in_ok-take_since.ensures.none
