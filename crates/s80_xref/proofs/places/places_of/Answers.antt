use Rattle.std.proofs.Common.{◌≡◌, ◌≤◌, Some, length, refl, ap, arith}
use Rattle.std.specs.Prelude.{slice_get}
use Rattle.std.specs.FinMap as finmap
use Rattle.s80_base.specs.declared.names.Side.TheVariants.{Instance, Class}
use Rattle.s80_xref.specs.Links.{IsLink, places_of}
use Rattle.s80_xref.specs.Places.{places_on}
use Rattle.s80_xref.proofs.Those.{those_all, those_next}
use Rattle.s80_xref.proofs.places.places_of.Goals as goal

pub loop-i-preserved : goal.loop-i-preserved
loop-i-preserved c = λ state is.
    let class = c.at-class_name.result.now in
    let read : slice_get (finmap.keys state.classes) c.loop-i.i ≡ Some class = cc (c.at-class_name.ensures, c.in_ok-names.ensures, c.classes.ensures.table, is.classes) in
    those_next (IsLink c.args.link state c.args.word.now) (places_of state) (finmap.keys state.classes) c.loop-i.i class (places_on state class Instance) (places_on state class Class)
    c.loop-i.places c.add_places.new.places c.add_places-in-loop-i.new.places read refl (c.loop-i.invariant state is) (c.in_ok-add_places.ensures state is) (c.in_ok-add_places-2.ensures state is)

pub returns : goal.returns
returns c = λ state is.
    let names : c.in_ok-names.names ≡ finmap.keys state.classes = cc (c.in_ok-names.ensures, c.classes.ensures.table, is.classes) in
    let past : length (finmap.keys state.classes) ≤ c.loop-i.i = omega (arith, c.loop-i-test.false, c.count-i-end.ensures, ap length names) in
    those_all (IsLink c.args.link state c.args.word.now) (places_of state) (finmap.keys state.classes) c.loop-i.i c.loop-i.places past (c.loop-i.invariant state is)
