use Rattle.std.proofs.lemmas.Result.{IfOk-weaker}
use Rattle.s80_xref.proofs.NameLists.{unimplemented_are}
use Rattle.s80_xref.proofs.names.unimplemented.Goals as goal

pub returns : goal.returns
returns c = λ state is.
    IfOk-weaker c.without.result _ _
    (λ names are. unimplemented_are c.args.system.now state is c.in_ok-sent.sent c.in_ok-implemented.implemented (c.in_ok-sent.ensures state is) (c.in_ok-implemented.ensures state is) names are)
    c.without.ensures
