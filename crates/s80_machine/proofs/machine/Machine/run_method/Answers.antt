use Rattle.std.proofs.Common.{◌≡◌, ◌∙◌, ◌∷◌, ◌==◌, Some, None, ap, arith, false, length, subst, sym}
use Rattle.std.proofs.lemmas.Bool.Decides.{nat_tests}
use Rattle.s80_machine.specs.World.{method}
use Rattle.s80_machine.specs.Shared.{block_with}
use Rattle.s80_machine.specs.Seen.{IsBlock}
use Rattle.s80_machine.specs.Came.{given_of}
use Rattle.s80_machine.proofs.CameSends.{alive}
use Rattle.s80_machine.proofs.CameMethods.{method_activates_block, method_by_primitive, method_sends_none, method_without_block}
use Rattle.s80_machine.proofs.machine.Machine.run_method.Goals as goal

pub returns-in-Some : goal.returns-in-Some
returns-in-Some c = λ top rest w shows takes.
    let count : c.len.result ≡ length c.args.arguments.items = omega (arith, c.len.ensures, c.args.arguments.ok.0) in
    method_activates_block (given_of c.args.on.now) (method c.args.found.class c.args.found.side c.args.selector.now) c.args.found.entry.now.code c.args.receiver c.args.arguments.items (top ∷ rest) w c.activate_block.new.self
    c.activate_block.result (sym (ap (λ code. code.primitive) c.code.ensures.code) ∙ c.in-81.is) c.in-Some.block
    (subst (λ n. IsBlock (block_with w.objects c.args.receiver n) (Some c.in-Some.block)) count (subst (λ s. IsBlock (block_with s c.args.receiver c.len.result) (Some c.in-Some.block)) shows.world.objects c.in-Some.ensures))
    (c.activate_block.ensures (alive (top ∷ rest) w) shows)

pub returns-in-None : goal.returns-in-None
returns-in-None c = λ top rest w shows takes.
    let count : c.len.result ≡ length c.args.arguments.items = omega (arith, c.len.ensures, c.args.arguments.ok.0) in
    method_without_block (given_of c.args.on.now) (method c.args.found.class c.args.found.side c.args.selector.now) c.args.found.entry.now.code c.args.receiver c.args.arguments.items (top ∷ rest) w c.activate_found.new.self
    c.activate_found.result (sym (ap (λ code. code.primitive) c.code.ensures.code) ∙ c.in-81.is)
    (subst (λ n. IsBlock (block_with w.objects c.args.receiver n) None) count (subst (λ s. IsBlock (block_with s c.args.receiver c.len.result) None) shows.world.objects c.in-None.ensures))
    (c.activate_found.ensures (alive (top ∷ rest) w) shows takes)

pub returns-in-83 : goal.returns-in-83
returns-in-83 c = λ top rest w shows takes.
    method_sends_none (given_of c.args.on.now) (method c.args.found.class c.args.found.side c.args.selector.now) c.args.found.entry.now.code c.args.receiver c.args.arguments.items (top ∷ rest) w c.activate_found-in-83.new.self
    c.activate_found-in-83.result (sym (ap (λ code. code.primitive) c.code.ensures.code) ∙ c.in-83.is) (c.activate_found-in-83.ensures (alive (top ∷ rest) w) shows takes)

pub returns-in_default : goal.returns-in_default
returns-in_default c = λ top rest w shows takes.
    let same : c.code.result.now.primitive ≡ c.args.found.entry.now.code.primitive = ap (λ code. code.primitive) c.code.ensures.code in
    let no_block : (c.args.found.entry.now.code.primitive == 81) ≡ false = grind (arith, nat_tests) in
    let no_message : (c.args.found.entry.now.code.primitive == 83) ≡ false = grind (arith, nat_tests) in
    method_by_primitive (given_of c.args.on.now) (method c.args.found.class c.args.found.side c.args.selector.now) c.args.found.entry.now.code c.args.receiver c.args.arguments.items (top ∷ rest) w c.run_primitive.new.self
    c.run_primitive.result no_block no_message (c.run_primitive.ensures top rest w shows takes)
