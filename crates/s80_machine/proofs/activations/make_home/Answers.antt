use Rattle.s80_machine.proofs.CameHomes.{one_set}
use Rattle.s80_machine.proofs.activations.make_home.Goals as goal

pub loop-i-preserved : goal.loop-i-preserved
loop-i-preserved c = λ few.
    one_set c.args.objects.now c.args.method c.args.receiver c.args.arguments.now c.args.count c.loop-i.i _ c.loop-i-test.true few c.loop-i.objects c.in_ok-home.home c.in-Ok.i
    (c.loop-i.invariant few) c.in_ok-home.ensures.0 c.in-Ok.ensures.1 c.set_field.new.self c.in_ok-set_field.ensures
