use Rattle.std.proofs.Common.{arith}
use Rattle.s80_machine.specs.Came.{given_of}
use Rattle.s80_machine.proofs.CameSteps.{short_copies, short_sends}
use Rattle.s80_machine.proofs.machine.Machine.send_short.Goals as goal

pub make_block-requires-clause-few : goal.make_block-requires-clause-few
make_block-requires-clause-few c = c.requires.few c.if-number-eq-BLOCK_COPY.true

pub returns-then-number-eq-BLOCK_COPY : goal.returns-then-number-eq-BLOCK_COPY
returns-then-number-eq-BLOCK_COPY c = λ code d rest w shows.
    let on = given_of c.args.on.now in
    short_copies on code c.args.number c.args.next d rest w c.make_block.new.self c.make_block.result c.if-number-eq-BLOCK_COPY.true
    (c.make_block.ensures on d rest w (omega (arith, c.requires.near)) shows)

pub returns-else-number-eq-BLOCK_COPY : goal.returns-else-number-eq-BLOCK_COPY
returns-else-number-eq-BLOCK_COPY c = λ code d rest w shows.
    short_sends (given_of c.args.on.now) code c.args.number c.args.next d rest w c.send_special.new.self c.send_special.result c.if-number-eq-BLOCK_COPY.false
    (c.send_special.ensures d rest w c.args.next shows)
