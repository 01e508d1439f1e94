use Rattle.std.proofs.Common.{true, false}
use Rattle.s80_lex.specs.Spelling.{begins_with}
use Rattle.s80_lex.proofs.lemmas.Fronts.{at_rest}
use Rattle.s80_lex.proofs.lemmas.Signs.{assign_takes, colon_takes}
use Rattle.s80_lex.proofs.front.colon.Goals as goal

pub returns-then-begins_with : goal.returns-then-begins_with
returns-then-begins_with c = assign_takes c.args.bytes.now c.requires (at_rest (begins_with 61) c.args.bytes.now 1 true c.if-begins_with.ensures)

pub returns-else-begins_with : goal.returns-else-begins_with
returns-else-begins_with c = colon_takes c.args.bytes.now c.requires (at_rest (begins_with 61) c.args.bytes.now 1 false c.if-begins_with.ensures)
