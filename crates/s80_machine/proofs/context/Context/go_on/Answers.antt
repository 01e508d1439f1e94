use Rattle.std.proofs.Common.{◌≡◌, ◌∙◌, ◌+◌, ap, false, refl, sym, Bool, Some, slice_get, true}
use Rattle.s80_machine.specs.Seen.{Given}
use Rattle.s80_machine.specs.Quick.{IsQuick}
use Rattle.s80_machine.specs.Stretch.{Tries, local}
use Rattle.s80_code.specs.declared.code.Code.{Code}
use Rattle.s80_machine.proofs.CameStretch.{KeepsOn, keeps_more}
use Rattle.s80_machine.proofs.KeptListings.{one_read}
use Rattle.s80_machine.proofs.context.Context.go_on.Goals.{After-advance}
use Rattle.s80_machine.proofs.context.Context.go_on.Goals as goal

-- one instruction more, or none
onward : (c : After-advance) (done : Bool)
    → ((on : Given) (code : Code) → IsQuick on c.args.quick.now → Tries on code c.in-Some-Some.instruction c.in-Some.next (local c.loop.self c.loop.objects c.loop.ticks) (local c.advance.new.self c.advance.new.objects c.advance.new.ticks) done)
    → KeepsOn c.args.quick.now c.args.entries.now (local c.args.self.now c.args.objects.now c.args.ticks.now) (local c.advance.new.self c.advance.new.objects c.advance.new.ticks)
onward c done tries =
    let at : c.self.inside.place ≡ c.loop.self.place = ap (λ k. k.place) c.self.view_is in
    let entry : slice_get c.args.entries.now c.self.inside.place ≡ Some (Some (c.in-Some-Some.instruction, c.in-Some-Some.width)) =
    one_read c.args.entries.now c.args.entries.now refl c.self.inside.place c.in-Some-Some.field-0.now c.in-Some-Some.ensures.lookup.1 c.in-Some-Some.ensures.lookup.3.0 ∙ ap Some c.in-Some-Some.field-0-is in
    keeps_more c.args.quick.now c.args.entries.now (local c.args.self.now c.args.objects.now c.args.ticks.now) (local c.loop.self c.loop.objects c.loop.ticks)
    (local c.advance.new.self c.advance.new.objects c.advance.new.ticks) c.loop.invariant
    c.in-Some-Some.instruction c.in-Some-Some.width c.in-Some.next (ap (slice_get c.args.entries.now) (sym at) ∙ entry) (c.in-Some.ensures.1 ∙ ap (λ n. n + c.in-Some-Some.width) at) c.advance.ensures.stays done tries

pub loop-preserved : goal.loop-preserved
loop-preserved c = onward (goal.at.loop-preserved c).After-advance true c.if-not-advance.ensures.tries

pub returns-then-not-advance-clause-goes : goal.returns-then-not-advance-clause-goes
returns-then-not-advance-clause-goes c = λ on code same listed. (onward (goal.at.returns-then-not-advance-clause-goes c).After-advance false c.if-not-advance.ensures.tries).goes on code same listed
