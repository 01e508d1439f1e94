use Rattle.std.proofs.Common.{◌+◌, ◌<◌, ◌∙◌, sym, arith}
use Rattle.s80_code.specs.Table.{Stands}
use Rattle.s80_verify.proofs.lemmas.PlaceLemmas.{ends_within}
use Rattle.s80_verify.proofs.PlacesLemmas.{no_places, more_places, all_places, stands_at}
use Rattle.s80_verify.proofs.places.places_of.Goals as goal

pub loop-width-init : goal.loop-width-init
loop-width-init c = no_places c.args.code.now.bytes

pub bounds-before-next : goal.bounds-before-next
bounds-before-next c =
    let s = stands_at c.args.code.now.bytes c.loop-width.at c.in-Some.width c.in-Some.field-0-0 (sym c.decode.ensures ∙ c.in-Some.is) in
    omega (arith, ends_within c.args.code.now.bytes c.loop-width.at c.in-Some.field-0-0 (c.loop-width.at + c.in-Some.width) s, c.requires)

pub loop-width-preserved : goal.loop-width-preserved
loop-width-preserved c =
    let s = stands_at c.args.code.now.bytes c.loop-width.at c.in-Some.width c.in-Some.field-0-0 (sym c.decode.ensures ∙ c.in-Some.is) in
    more_places c.args.code.now.bytes c.loop-width.before c.loop-width.at c.in-Some.field-0-0 (c.loop-width.at + c.in-Some.width) c.loop-width.invariant s
    (omega (arith, ends_within c.args.code.now.bytes c.loop-width.at c.in-Some.field-0-0 (c.loop-width.at + c.in-Some.width) s, c.requires, c.loop-width.invariant.long))

pub returns : goal.returns
returns c = all_places c.args.code.now.bytes c.loop-width.before c.loop-width.at c.loop-width.invariant (sym c.decode.ensures ∙ c.in_default.is)
