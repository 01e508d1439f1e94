use Rattle.std.proofs.Common.{sym, subst}
use Rattle.std.proofs.lemmas.Result.{IfOk-weaker}
use Rattle.s80_syntax.specs.Faults.{IsDoItText}
use Rattle.s80_syntax.specs.declared.fault.ParseFault.{ParseFault}
use Rattle.s80_syntax.specs.Text.{IsFaultOf}
use Rattle.s80_change.specs.declared.head.HeadFault.{HeadFault}
use Rattle.s80_change.specs.Head.{IsHeadFault}
use Rattle.s80_model.specs.declared.reply.Answer.{Answer}
use Rattle.s80_model.specs.Asked.{Ask, AsksHead, opens}
use Rattle.s80_model.specs.Replies.{IsAnswer}
use Rattle.s80_model.proofs.Opening.{no_doit, no_head}
use Rattle.s80_model.proofs.section.head_answer.Goals as goal

pub returns-in-Ok-clause-answer : goal.returns-in-Ok-clause-answer
returns-in-Ok-clause-answer c = λ work same size.
    let P : Answer → Type 0 = λ answer. IsAnswer work (opens c.in-Ok.head) answer in
    let Q : Answer → Type 0 = λ answer. (ask : Ask) × AsksHead c.args.text ask × IsAnswer work ask answer in
    IfOk-weaker c.known_head.result P Q (λ answer h. (opens c.in-Ok.head, c.in-Ok.ensures.head, h)) (c.known_head.ensures work same)

pub returns-in_ok-syntax_refusal-in-Err-Syntax-clause-answer : goal.returns-in_ok-syntax_refusal-in-Err-Syntax-clause-answer
returns-in_ok-syntax_refusal-in-Err-Syntax-clause-answer c = λ work same size.
    let P : HeadFault → Type 0 = λ f. IsHeadFault c.args.text f in
    let Q : ParseFault → Type 0 = λ f. IsFaultOf IsDoItText c.args.text f in
    let fault = subst P c.in-Err-Syntax.field-0-is c.in-Err-Syntax.ensures.fault in
    no_doit work c.args.text c.in_ok-syntax_refusal-in-Err-Syntax.field-0 c.refused_head-in-Err-Syntax.result (c.in_ok-syntax_refusal-in-Err-Syntax.ensures.doit c.args.text (subst Q (sym c.in-Err-Syntax.fault-is) fault.1)) c.refused_head-in-Err-Syntax.ensures

pub returns-in-Err-NoSection-clause-answer : goal.returns-in-Err-NoSection-clause-answer
returns-in-Err-NoSection-clause-answer c = λ work same size.
    let P : HeadFault → Type 0 = λ f. IsHeadFault c.args.text f in
    no_head work c.args.text c.refused_head-in-Err-NoSection.result (subst P c.in-Err-NoSection.field-0-is c.in-Err-NoSection.ensures.fault) c.refused_head-in-Err-NoSection.ensures
