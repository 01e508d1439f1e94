use Rattle.std.proofs.Common.{◌∙◌}
use Rattle.s80_syntax.proofs.Parameters.{name_found, name_missing}
use Rattle.s80_syntax.proofs.Heads.{temporary_read, temporary_taken, temporaries_done, temporaries_unended}
use Rattle.s80_syntax.proofs.head.temporaries.Goals as goal

pub loop-names-preserved : goal.loop-names-preserved
loop-names-preserved c =
    let x = name_found _ _ _ _ c.in_ok-name.ensures c.in-Some.is in
    record {
      read = temporary_read _ _ _ _ _ _ _ c.loop-names.invariant.read x c.in_ok-push.ensures.ok;
      same = λ ps primitive. c.loop-names.invariant.same ps primitive ∙ temporary_taken _ _ _ _ _ _ x c.in_ok-push.ensures.ok ps primitive;
      slices = x.slices;
    }

pub returns-in-Some-after_sign : goal.returns-in-Some-after_sign
returns-in-Some-after_sign c = temporaries_done _ _ _ _ _ c.loop-names.invariant.read c.loop-names.invariant.same c.loop-names.invariant.slices c.in-Some-after_sign.ensures

pub returns : goal.returns
returns c = temporaries_unended _ _ _ _ _ c.loop-names.invariant.same (name_missing _ _ _ c.in_ok-name.ensures c.in_default.is) c.in-None.ensures c.place_of.ensures
