use Rattle.std.proofs.Common.{◌∙◌, ◌++◌, ap, sym, subst, arith, List, [], ◌∷◌, Option, Some}
use Rattle.std.specs.FinMap as map
use Rattle.s80_class.specs.Classes.{Name, Classes}
use Rattle.s80_class.specs.Table.{IsSuperclass, row_of}
use Rattle.s80_apply.proofs.Booted.{booted_more, new_name, new_superclass, ordered, row_here}
use Rattle.s80_apply.proofs.Booting.{bare_none, bare_more, bare_all}
use Rattle.s80_apply.proofs.kernel.booted_classes.Goals as goal

pub loop-class-init : goal.loop-class-init
loop-class-init c = bare_none c.empty-classes.result c.empty-methods.result c.empty-classes.ensures.classes c.empty-classes.ensures.names c.empty-methods.ensures.sides

pub add-requires-clause-new : goal.add-requires-clause-new
add-requires-clause-new c =
    let items = c.class_rows-class-items.result.now in
    ap (λ (m : Classes). map.get m c.in_ok-entry.entry.class_name) c.reserve.ensures.classes
    ∙ new_name _ c.loop-class.class-index _ c.loop-class.classes c.in_ok-entry.entry (ordered items c.class_rows-class-items.ensures) (row_here items c.loop-class.class-index _ (omega arith)) c.loop-class.invariant.booted c.in_ok-entry.ensures

pub add-requires-clause-superclass : goal.add-requires-clause-superclass
add-requires-clause-superclass c =
    let items = c.class_rows-class-items.result.now in
    subst (λ (names : List (Option Name)). IsSuperclass names c.in_ok-entry.entry.superclass) (sym c.reserve.ensures.names)
    (new_superclass _ c.loop-class.class-index _ c.loop-class.classes c.in_ok-entry.entry (ordered items c.class_rows-class-items.ensures) (row_here items c.loop-class.class-index _ (omega arith)) c.loop-class.invariant.booted c.in_ok-entry.ensures)

pub loop-class-preserved : goal.loop-class-preserved
loop-class-preserved c =
    let items = c.class_rows-class-items.result.now in
    let entry = c.in_ok-entry.entry in
    let i = c.loop-class.class-index in
    let booted =
    booted_more _ i _ c.loop-class.classes entry (ordered items c.class_rows-class-items.ensures) (row_here items i _ (omega arith)) c.loop-class.invariant.booted c.in_ok-entry.ensures c.add.new.self
    (c.add.ensures.classes ∙ (λ j. map.insert (c.reserve.ensures.classes j) entry.class_name (row_of (c.reserve.ensures.names j) entry))) in
    bare_more c.loop-class.classes c.add.new.self c.loop-class.methods c.reserve-in-loop-class.new.self c.add-in-loop-class.new.self _ _ (Some entry.class_name) c.loop-class.invariant booted
    (c.add.ensures.names ∙ ap (λ (ns : List (Option Name)). ns ++ Some entry.class_name ∷ []) c.reserve.ensures.names)
    c.reserve-in-loop-class.ensures.sides c.add-in-loop-class.ensures.sides c.add-in-loop-class.ensures.methods

pub returns : goal.returns
returns c = bare_all c.class_rows-class-items.result.now c.loop-class.class-index c.loop-class.classes c.loop-class.methods c.class_rows-class-items.ensures (omega arith) c.loop-class.invariant
