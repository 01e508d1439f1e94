use Rattle.std.proofs.Common.{List, ℕ, drop, subst, sym, arith, length-drop}
use Rattle.s80_code.proofs.lemmas.TableLemmas.{decodes}
use Rattle.s80_code.proofs.LineLemmas.{SoFar, begun, goes_on}
use Rattle.s80_code.proofs.listing.disassemble.Goals as goal

pub loop-width-init : goal.loop-width-init
loop-width-init c = subst (λ (text : List ℕ). SoFar c.args.code.now.bytes 0 text) (sym c.empty-text.ensures) (begun c.args.code.now.bytes)

pub overflow_add-next : goal.overflow_add-next
overflow_add-next c =
    let d = decodes (drop c.loop-width.at c.args.code.now.bytes) (c.in-Some.field-0-0, c.in-Some.width) (sym c.in-Some.ensures) in
    omega (arith, d.within, length-drop c.loop-width.at c.args.code.now.bytes)

pub loop-width-preserved : goal.loop-width-preserved
loop-width-preserved c =
    goes_on c.args.code.now.bytes c.bytes.result.now c.loop-width.text _ c.loop-width.at c.in-Some.field-0-0 c.in-Some.width
    c.loop-width.invariant c.in-Some.ensures c.bytes.ensures c.in_ok-append_line.ensures
