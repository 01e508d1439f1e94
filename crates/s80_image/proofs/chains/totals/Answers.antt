use Rattle.std.proofs.Common.{◌≡◌, ◌<◌, ◌+◌, ◌-◌, ◌∙◌, length, None, refl, sym, ap, subst, rules}
use Rattle.std.specs.Prelude.{slice_index_or}
use Rattle.std.proofs.lemmas.Option.{slice_get-get_or, slice_get_read}
use Rattle.s80_class.specs.Counted.{over, own, own_of}
use Rattle.s80_image.specs.declared.image.ImageClass.{ImageClass}
use Rattle.s80_image.specs.Classes.{classes_of}
use Rattle.s80_image.specs.Together.{row_of}
use Rattle.s80_image.proofs.Linked.{CountsAs, counts_begin, counts_end, counts_step, next_here, next_within}
use Rattle.s80_image.proofs.chains.totals.Goals as goal

pub loop-init : goal.loop-init
loop-init c = counts_begin c.args.classes.now c.args.superclasses.now c.requires.linked c.args.class c.requires.class

pub returns-in_default : goal.returns-in_default
returns-in_default c = counts_end c.args.classes.now c.args.superclasses.now c.requires.linked c.args.class (length c.args.classes.now - c.loop.counter) c.loop.next c.loop.totals c.in_default.is c.loop.invariant

pub offset_bounds-classes-at : goal.offset_bounds-classes-at
offset_bounds-classes-at c =
    let b : c.in-Some.at < length c.args.classes.now = next_here c.args.classes.now c.args.superclasses.now c.requires.linked c.in-Some.at c.loop.next c.in-Some.is c.loop.invariant.name c.loop.invariant.goes in
    search rules

pub bounds-classes-at : goal.bounds-classes-at
bounds-classes-at c = next_here c.args.classes.now c.args.superclasses.now c.requires.linked c.in-Some.at c.loop.next c.in-Some.is c.loop.invariant.name c.loop.invariant.goes

pub offset_bounds-superclasses-at : goal.offset_bounds-superclasses-at
offset_bounds-superclasses-at c =
    let b : c.in-Some.at < length c.args.superclasses.now = next_within c.args.classes.now c.args.superclasses.now c.requires.linked c.in-Some.at c.loop.next c.in-Some.is c.loop.invariant.name c.loop.invariant.goes in
    search rules

pub bounds-superclasses-at : goal.bounds-superclasses-at
bounds-superclasses-at c = next_within c.args.classes.now c.args.superclasses.now c.requires.linked c.in-Some.at c.loop.next c.in-Some.is c.loop.invariant.name c.loop.invariant.goes

pub loop-preserved : goal.loop-preserved
loop-preserved c =
    let x = c.index-classes-at.result in
    let here : c.in-Some.at < length c.args.classes.now = next_here c.args.classes.now c.args.superclasses.now c.requires.linked c.in-Some.at c.loop.next c.in-Some.is c.loop.invariant.name c.loop.invariant.goes in
    let b : c.in-Some.at < length c.args.superclasses.now = next_within c.args.classes.now c.args.superclasses.now c.requires.linked c.in-Some.at c.loop.next c.in-Some.is c.loop.invariant.name c.loop.invariant.goes in
    let place = slice_index_or c.args.superclasses.now c.in-Some.at None in
    let of_class : c.own.result ≡ own_of (row_of x.heading) =
    c.own.ensures ∙ ap (λ (y : ImageClass). own y.heading.kind y.heading.variables.instance y.heading.variables.class_side) (sym c.index-classes-at.is) in
    subst (CountsAs (classes_of c.args.classes.now) c.args.class (length c.args.classes.now - (c.loop.counter + 1)) place) (sym (c.over-totals.ensures ∙ ap (over c.loop.totals) of_class))
    (counts_step c.args.classes.now c.args.superclasses.now c.requires.linked c.args.class (length c.args.classes.now) c.loop.counter c.in-Some.at c.loop.next place c.loop.totals x c.in-Some.is c.loop-test.true c.loop.invariant
    (slice_get_read c.args.classes.now (length c.args.classes.now) c.in-Some.at x refl here c.index-classes-at.is) (slice_get-get_or c.args.superclasses.now c.in-Some.at None b))
