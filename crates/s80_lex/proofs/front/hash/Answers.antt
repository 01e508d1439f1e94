use Rattle.s80_lex.proofs.lemmas.Standing.{other_stands}
use Rattle.s80_lex.proofs.front.hash.Goals as goal

pub returns-in-Some : goal.returns-in-Some
returns-in-Some c = other_stands c.in-Some.kind c.in-Some.length c.args.bytes.now c.in-Some.ensures (λ e. cc)
