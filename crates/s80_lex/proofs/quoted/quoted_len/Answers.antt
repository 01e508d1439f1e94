use Rattle.std.proofs.Common.{true, false, ◌+◌}
use Rattle.s80_lex.specs.Spelling.{begins_with}
use Rattle.s80_lex.proofs.lemmas.Fronts.{at_rest}
use Rattle.s80_lex.proofs.lemmas.Quotes.{so_far_one, so_far_two, quoted_found}
use Rattle.s80_lex.proofs.quoted.quoted_len.Goals as goal

pub loop-length-preserved-then-bytes-length : goal.loop-length-preserved-then-bytes-length
loop-length-preserved-then-bytes-length c =
    so_far_one c.args.quote c.loop-length.length c.args.bytes.now c.loop-length-test.true c.if-bytes-length.true c.loop-length.invariant

pub loop-length-preserved : goal.loop-length-preserved
loop-length-preserved c =
    let next = at_rest (begins_with c.args.quote) c.args.bytes.now (c.loop-length.length + 1) true c.if-begins_with.ensures in
    so_far_two c.args.quote c.loop-length.length c.args.bytes.now c.loop-length-test.true c.if-bytes-length.false next c.loop-length.invariant

pub returns-else-begins_with : goal.returns-else-begins_with
returns-else-begins_with c =
    let next = at_rest (begins_with c.args.quote) c.args.bytes.now (c.loop-length.length + 1) false c.if-begins_with.ensures in
    quoted_found c.args.quote c.loop-length.length c.args.bytes.now c.loop-length-test.true c.if-bytes-length.false next c.loop-length.invariant
