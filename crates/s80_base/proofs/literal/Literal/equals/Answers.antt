use Rattle.s80_base.specs.Literal.{literal_of}
use Rattle.s80_base.proofs.Sameness.{equal_where_same}
use Rattle.s80_base.proofs.literal.Literal.equals.Goals as goal

pub returns-clause-equal : goal.returns-clause-equal
returns-clause-equal c = equal_where_same (literal_of c.args.self.now) (literal_of c.args.other.now) c.same_literal.result c.same_literal.ensures
