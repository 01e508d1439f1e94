use Rattle.std.proofs.Common.{◌<◌, length, Some, None, cond, ap, sym, ◌∙◌, arith}
use Rattle.std.specs.Str.{bytes_eq}
use Rattle.std.proofs.lemmas.Option.{get_or_from_slice_get}
use Rattle.s80_scope.proofs.lemmas.Places.{first_found, none_more}
use Rattle.s80_scope.proofs.names.nearest.Goals as goal

pub returns-then-eq : goal.returns-then-eq
returns-then-eq c =
    let within : c.loop-i.i < length c.args.variables.now = omega arith in
    let is = sym (get_or_from_slice_get c.args.variables.now c.loop-i.i c.at-binding.result.now c.at-binding.result.now c.at-binding.ensures) in
    let test = sym (c.eq.ensures ∙ ap (bytes_eq c.args.word.now) c.bytes.ensures) ∙ c.if-eq.true in
    sym (first_found (λ b. bytes_eq c.args.word.now b.name) c.args.variables.now c.loop-i.i c.at-binding.result.now within is c.loop-i.invariant test)

pub loop-i-preserved : goal.loop-i-preserved
loop-i-preserved c =
    let within : c.loop-i.i < length c.args.variables.now = omega arith in
    let is = sym (get_or_from_slice_get c.args.variables.now c.loop-i.i c.at-binding.result.now c.at-binding.result.now c.at-binding.ensures) in
    let test = sym (c.eq.ensures ∙ ap (bytes_eq c.args.word.now) c.bytes.ensures) ∙ c.if-eq.false in
    none_more (λ b. bytes_eq c.args.word.now b.name) c.args.variables.now c.loop-i.i c.at-binding.result.now within is c.loop-i.invariant (ap (λ b. cond b (Some c.at-binding.result.now) None) test)
