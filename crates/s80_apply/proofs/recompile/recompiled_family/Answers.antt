use Rattle.std.proofs.Common.{arith, sym, subst}
use Rattle.std.proofs.lemmas.Option.{slice_get-get_or}
use Rattle.s80_class.specs.Family.{AreFamily}
use Rattle.s80_apply.specs.System.{SystemState}
use Rattle.s80_apply.proofs.Recompiled.{class_of, compiling_all, compiling_more}
use Rattle.s80_apply.proofs.recompile.recompiled_family.Goals as goal

pub recompile_side-requires-clause-class : goal.recompile_side-requires-clause-class
recompile_side-requires-clause-class c =
    let numbers = c.deref-class-items.result.now in
    class_of c.args.classes.now c.requires.class.0 numbers c.loop-class.class-index _
    (subst (AreFamily c.args.classes.now c.requires.class.0) (sym c.deref-class-items.ensures.value) (c.in_ok-family.ensures c.requires.class.0 c.requires.class.1)) c.loop-class-test.true

pub recompile_side-requires-in-loop-class-clause-class : goal.recompile_side-requires-in-loop-class-clause-class
recompile_side-requires-in-loop-class-clause-class c =
    let numbers = c.deref-class-items.result.now in
    class_of c.args.classes.now c.requires.class.0 numbers c.loop-class.class-index _
    (subst (AreFamily c.args.classes.now c.requires.class.0) (sym c.deref-class-items.ensures.value) (c.in_ok-family.ensures c.requires.class.0 c.requires.class.1)) c.loop-class-test.true

pub loop-class-preserved : goal.loop-class-preserved
loop-class-preserved c =
    let system : SystemState = record { table = c.args.classes.now; methods = c.args.methods.now } in
    let numbers = c.deref-class-items.result.now in
    let family : AreFamily c.args.classes.now c.requires.class.0 numbers =
    subst (AreFamily c.args.classes.now c.requires.class.0) (sym c.deref-class-items.ensures.value) (c.in_ok-family.ensures c.requires.class.0 c.requires.class.1) in
    compiling_more system numbers c.loop-class.class-index _ c.loop-class.recompiled.items c.recompile_side.new.recompiled.items _ family.distinct (slice_get-get_or numbers c.loop-class.class-index 0 c.loop-class-test.true) c.loop-class.invariant
    c.in_ok-recompile_side.ensures c.in_ok-recompile_side-2.ensures

pub returns : goal.returns
returns c = λ name named.
    let system : SystemState = record { table = c.args.classes.now; methods = c.args.methods.now } in
    let numbers = c.deref-class-items.result.now in
    compiling_all system numbers c.loop-class.class-index name c.loop-class.recompiled.items
    (subst (AreFamily c.args.classes.now name) (sym c.deref-class-items.ensures.value) (c.in_ok-family.ensures name named)) (omega (arith, c.loop-class-test.false)) c.loop-class.invariant
