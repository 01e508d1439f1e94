use Rattle.std.proofs.Common.{◌≡◌, ◌≤◌, Some, length, refl, ap, arith}
use Rattle.std.specs.Prelude.{slice_get}
use Rattle.std.specs.FinMap as finmap
use Rattle.s80_base.specs.declared.names.Side.TheVariants.{Instance, Class}
use Rattle.s80_xref.specs.Links.{IsLink, places_of}
use Rattle.s80_xref.specs.Places.{places_on}
use Rattle.s80_xref.proofs.Gathering.{gathered_all, gathered_next}
use Rattle.s80_xref.proofs.words.linked_words.Goals as goal

pub loop-i-preserved : goal.loop-i-preserved
loop-i-preserved c = λ state is word.
    let class = c.at-class_name.result.now in
    let read : slice_get (finmap.keys state.classes) c.loop-i.i ≡ Some class = cc (c.at-class_name.ensures, c.in_ok-names.ensures, c.classes.ensures.table, is.classes) in
    gathered_next (IsLink c.args.link state) (places_of state) (finmap.keys state.classes) c.loop-i.i class (places_on state class Instance) (places_on state class Class)
    c.loop-i.words c.add_side.new.words c.add_side-in-loop-i.new.words read refl (c.loop-i.invariant state is) (c.in_ok-add_side.ensures state is) (c.in_ok-add_side-2.ensures state is) word

pub returns : goal.returns
returns c = λ state is.
    let names : c.in_ok-names.names ≡ finmap.keys state.classes = cc (c.in_ok-names.ensures, c.classes.ensures.table, is.classes) in
    let past : length (finmap.keys state.classes) ≤ c.loop-i.i = omega (arith, c.loop-i-test.false, c.count-i-end.ensures, ap length names) in
    gathered_all (IsLink c.args.link state) (places_of state) (finmap.keys state.classes) c.loop-i.i c.loop-i.words past (c.loop-i.invariant state is)
