use Rattle.std.proofs.Common.{refl, subst, sym}
use Rattle.s80_syntax.specs.Faults.{IsDoItText}
use Rattle.s80_syntax.specs.Text.{IsFaultOf}
use Rattle.s80_syntax.specs.declared.fault.ParseFault.{ParseFault}
use Rattle.s80_form.specs.declared.refusal.Refusal.TheVariants.{NoSection}
use Rattle.s80_change.specs.Head.{IsHeadFault}
use Rattle.s80_change.specs.declared.head.HeadFault.{HeadFault}
use Rattle.s80_model.specs.Asked.{AsksHead, opens, refuses_head}
use Rattle.s80_joining.proofs.Taking.{by_ask, no_head, syntax_refused}
use Rattle.s80_joining.proofs.theirs.Theirs.work_head.Goals as goal

pub returns-in-Ok : goal.returns-in-Ok
returns-in-Ok c = λ worked at short. by_ask (AsksHead c.args.text) worked (opens c.in-Ok.head) c.open.new.self c.open.result c.in-Ok.ensures.head (c.open.ensures worked at)

pub returns-in_ok-syntax_refusal-in-Err-Syntax : goal.returns-in_ok-syntax_refusal-in-Err-Syntax
returns-in_ok-syntax_refusal-in-Err-Syntax c = λ worked at short.
    let P : HeadFault → Type 0 = λ f. IsHeadFault c.args.text f in
    let Q : ParseFault → Type 0 = λ f. IsFaultOf IsDoItText c.args.text f in
    let fault = subst P c.in-Err-Syntax.field-0-is c.in-Err-Syntax.ensures.fault in
    let why = c.in_ok-syntax_refusal-in-Err-Syntax in
    (refuses_head why.field-0, syntax_refused c.args.text why.field-0 (why.ensures.doit c.args.text (subst Q (sym c.in-Err-Syntax.fault-is) fault.1)), refl)

pub returns-in-Err-NoSection : goal.returns-in-Err-NoSection
returns-in-Err-NoSection c = λ worked at short.
    let P : HeadFault → Type 0 = λ f. IsHeadFault c.args.text f in
    (refuses_head (NoSection c.args.text), no_head c.args.text (subst P c.in-Err-NoSection.field-0-is c.in-Err-NoSection.ensures.fault), refl)
