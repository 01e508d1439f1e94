use Rattle.std.proofs.Common.{◌≡◌, ◌<◌, ◌≤◌, arith}
use Rattle.s80_machine.specs.Turn.{Goes, State}
use Rattle.s80_machine.specs.Step.{turn}
use Rattle.s80_machine.specs.Run.{start}
use Rattle.s80_machine.specs.Sound.{IsSound, IsSoundTurn}
use Rattle.s80_machine.specs.Measure.{IsWithin, steps_left}
use Rattle.s80_machine.specs.Came.{given_of}
use Rattle.s80_machine.proofs.CameRuns.{IsAtTurn, IsOnItsWay, at_turn, begins, ends, left_in, less_left, never_stuck, no_more_left, on_its_way, still_on_its_way}
use Rattle.s80_machine.proofs.execution.finish.Goals.{After-each_step_leaves_less, After-go_on}
use Rattle.s80_machine.proofs.execution.finish.Goals as goal

first : (c : After-each_step_leaves_less) → IsAtTurn (given_of c.args.on.now) (start c.args.on.now.classes.now c.args.on.now.methods.now c.args.on.now.doit.now c.args.on.now.budget)
first c =
    let on = given_of c.args.on.now in
    begins on (c.verified_code_is_never_stuck.ensures.begins on.table on.methods on.code on.budget c.requires.setting) (c.each_step_leaves_less.ensures.begins on.table on.methods on.code on.budget)

steps_sound : (c : After-each_step_leaves_less) (s : State) → IsSound c.args.on.now.classes.now c.args.on.now.methods.now c.args.on.now.doit.now s
    → IsSoundTurn c.args.on.now.classes.now c.args.on.now.methods.now c.args.on.now.doit.now (turn c.args.on.now.classes.now c.args.on.now.methods.now c.args.on.now.doit.now c.args.on.now.budget s)
steps_sound c = c.verified_code_is_never_stuck.ensures.goes_on c.args.on.now.classes.now c.args.on.now.methods.now c.args.on.now.doit.now c.args.on.now.budget c.requires.setting

leaves_less : (c : After-each_step_leaves_less) (s next : State) → IsSound c.args.on.now.classes.now c.args.on.now.methods.now c.args.on.now.doit.now s → IsWithin c.args.on.now.budget s
    → turn c.args.on.now.classes.now c.args.on.now.methods.now c.args.on.now.doit.now c.args.on.now.budget s ≡ Goes next
    → IsWithin c.args.on.now.budget next × (steps_left c.args.on.now.budget next < steps_left c.args.on.now.budget s)
leaves_less c = c.each_step_leaves_less.ensures.goes_on c.args.on.now.classes.now c.args.on.now.methods.now c.args.on.now.doit.now c.args.on.now.budget

pub ended-requires : goal.ended-requires
ended-requires c =
    let on = given_of c.args.on.now in
    never_stuck on c.start.new.self (start on.table on.methods on.code on.budget) (first (goal.at.ended-requires c).After-each_step_leaves_less) c.in-Err.halt c.in-Err.ensures

pub returns-in-Err : goal.returns-in-Err
returns-in-Err c =
    let on = given_of c.args.on.now in
    ends on c.start.new.self (start on.table on.methods on.code on.budget) (first (goal.at.returns-in-Err c).After-each_step_leaves_less) c.ended.result c.in-Err.halt c.in-Err.ensures c.ended.ensures

pub loop-halt-init : goal.loop-halt-init
loop-halt-init c =
    let on = given_of c.args.on.now in
    on_its_way on c.start.new.self (start on.table on.methods on.code on.budget) (first (goal.at.loop-halt-init c).After-each_step_leaves_less) c.in_default.ensures

-- the machine after the instructions that need nothing but the active context
further : (c : After-go_on) → IsOnItsWay (given_of c.args.on.now) c.go_on.new.self
further c =
    let on = given_of c.args.on.now in
    let at = (goal.at.After-go_on c).After-each_step_leaves_less in
    let way = c.loop-halt.invariant in
    still_on_its_way on (steps_sound at) (leaves_less at) c.loop-halt.machine c.go_on.new.self way (c.go_on.ensures on way.state c.quick-quick.ensures way.shows)

no_more : (c : After-go_on) → left_in c.args.on.now.budget c.go_on.new.self ≤ left_in c.args.on.now.budget c.loop-halt.machine
no_more c =
    let on = given_of c.args.on.now in
    let at = (goal.at.After-go_on c).After-each_step_leaves_less in
    let way = c.loop-halt.invariant in
    no_more_left on (steps_sound at) (leaves_less at) c.loop-halt.machine c.go_on.new.self way (c.go_on.ensures on way.state c.quick-quick.ensures way.shows)

pub ended-requires-in-Err-step : goal.ended-requires-in-Err-step
ended-requires-in-Err-step c =
    let on = given_of c.args.on.now in
    let at = (goal.at.ended-requires-in-Err-step c).After-each_step_leaves_less in
    let way = further (goal.at.ended-requires-in-Err-step c).After-go_on in
    never_stuck on c.step.new.self (turn on.table on.methods on.code on.budget way.state) (at_turn on (steps_sound at) (leaves_less at) c.go_on.new.self way) c.in-Err-step.halt (c.in-Err-step.ensures way.state way.shows)

pub returns-in-Err-step : goal.returns-in-Err-step
returns-in-Err-step c =
    let on = given_of c.args.on.now in
    let at = (goal.at.returns-in-Err-step c).After-each_step_leaves_less in
    let way = further (goal.at.returns-in-Err-step c).After-go_on in
    ends on c.step.new.self (turn on.table on.methods on.code on.budget way.state) (at_turn on (steps_sound at) (leaves_less at) c.go_on.new.self way) c.ended-in-Err-step.result c.in-Err-step.halt
    (c.in-Err-step.ensures way.state way.shows) c.ended-in-Err-step.ensures

pub loop-halt-smaller : goal.loop-halt-smaller
loop-halt-smaller c =
    let at = (goal.at.loop-halt-smaller c).After-each_step_leaves_less in
    let way = further (goal.at.loop-halt-smaller c).After-go_on in
    let less = less_left (given_of c.args.on.now) (steps_sound at) (leaves_less at) c.go_on.new.self c.step.new.self way (c.in_default-step.ensures way.state way.shows) in
    let most = no_more (goal.at.loop-halt-smaller c).After-go_on in
    omega (arith, less, most)

pub loop-halt-preserved : goal.loop-halt-preserved
loop-halt-preserved c =
    let on = given_of c.args.on.now in
    let at = (goal.at.loop-halt-preserved c).After-each_step_leaves_less in
    let way = further (goal.at.loop-halt-preserved c).After-go_on in
    on_its_way on c.step.new.self (turn on.table on.methods on.code on.budget way.state) (at_turn on (steps_sound at) (leaves_less at) c.go_on.new.self way) (c.in_default-step.ensures way.state way.shows)

pub step-requires-clause-sound : goal.step-requires-clause-sound
step-requires-clause-sound c = let way = further (goal.at.step-requires-clause-sound c).After-go_on in (way.state, way.shows, way.sound)
