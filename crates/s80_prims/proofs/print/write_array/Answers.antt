use Rattle.std.proofs.Common.{◌∙◌, sym, [], ◌∷◌, unwrap_or}
use Rattle.s80_object.specs.Objects.{items_at}
use Rattle.s80_prims.specs.Printed.{element}
use Rattle.s80_prims.proofs.PrintBodies.{array_ended, element_written, item_known}
use Rattle.s80_prims.proofs.PrintFront.{parts_past}
use Rattle.s80_prims.proofs.print.write_array.Goals as goal

pub returns-then-is_past : goal.returns-then-is_past
returns-then-is_past c =
    parts_past c.args.front.now c.loop-i.front 40 (element c.args.classes.now c.args.objects.now) (unwrap_or (items_at c.args.objects.now c.args.v) []) c.loop-i.i (41 ∷ [])
    c.loop-i.invariant (sym c.is_past.ensures ∙ c.if-is_past.true)

pub write_element-requires-clause-value : goal.write_element-requires-clause-value
write_element-requires-clause-value c =
    item_known c.args.classes.now c.args.objects.now c.args.v c.loop-i.i c.item_at-element.result c.requires.objects c.item_at-element.ensures

pub loop-i-preserved : goal.loop-i-preserved
loop-i-preserved c =
    element_written c.args.classes.now c.args.objects.now c.args.front.now c.loop-i.front c.write_element.new.front (unwrap_or (items_at c.args.objects.now c.args.v) []) c.loop-i.i
    c.item_at-element.result c.loop-i.invariant c.item_at-element.ensures c.in_ok-write_element.ensures

pub returns : goal.returns
returns c =
    array_ended c.args.classes.now c.args.objects.now c.write-2.result c.args.front.now c.loop-i.front c.write-2.new.self
    (unwrap_or (items_at c.args.objects.now c.args.v) []) c.loop-i.i c.item_count-count.result c.item_count-count.ensures c.loop-i-test.false c.loop-i.invariant c.write-2.ensures
