use Rattle.std.proofs.Common.{◌++◌, ◌∷◌, [], Err, subst}
use Rattle.s80_form.specs.declared.refusal.Refused.{Refused}
use Rattle.s80_joining.specs.declared.given.Given.{Given}
use Rattle.s80_joining.specs.Given.{HasCome}
use Rattle.s80_joining.specs.Theirs.{Takes}
use Rattle.s80_joining.proofs.Taking.{bad_stays}
use Rattle.s80_joining.proofs.given.Given.take.Goals as goal

pub returns-in-Bad : goal.returns-in-Bad
returns-in-Bad c = λ state items come given. bad_stays c.args.self.now c.in-Bad.field-0 state items c.args.item c.in-Bad.is come

pub returns-in-Ok : goal.returns-in-Ok
returns-in-Ok c = λ state items come given. c.in-Ok.ensures state items (subst (λ (g : Given). HasCome g state items) c.in-Worked.is come) given

pub returns : goal.returns
returns c = λ state items come given.
    let P : Refused → Type 0 = λ why. Takes c.take.new.self state (items ++ c.args.item ∷ []) (Err why) in
    subst P c.in-Err-Refusal.field-0-is (c.in-Err-Refusal.ensures state items (subst (λ (g : Given). HasCome g state items) c.in-Worked.is come) given)
