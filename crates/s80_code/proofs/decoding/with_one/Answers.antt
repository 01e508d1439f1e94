use Rattle.std.proofs.Common.{◌∙◌, ap, sym, Some, w32, rules, arith}
use Rattle.std.proofs.lemmas.Int.{to_z-of_z}
use mir.Val.{SFits}
use Rattle.s80_code.specs.declared.instruction.Instruction.TheVariants.{Jump, JumpOnTrue, JumpOnFalse}
use Rattle.s80_code.proofs.lemmas.TableLemmas.{jump_at, true_at, false_at}
use Rattle.s80_code.proofs.decoding.with_one.Goals as goal

pub returns-in-160-to-167 : goal.returns-in-160-to-167
returns-in-160-to-167 c =
    let fits : SFits w32 c.long_distance.result = search rules in
    ap (λ z. Some (Jump z)) (to_z-of_z w32 c.long_distance.result fits ∙ c.long_distance.ensures)
    ∙ sym (jump_at c.args.byte c.args.next (omega arith) (omega arith))

pub returns-in-168-to-171 : goal.returns-in-168-to-171
returns-in-168-to-171 c =
    let fits : SFits w32 c.tested_distance.result = search rules in
    ap (λ z. Some (JumpOnTrue z)) (to_z-of_z w32 c.tested_distance.result fits ∙ c.tested_distance.ensures)
    ∙ sym (true_at c.args.byte c.args.next (omega arith) (omega arith))

pub returns-in-172-to-175 : goal.returns-in-172-to-175
returns-in-172-to-175 c =
    let fits : SFits w32 c.tested_distance-in-172-to-175.result = search rules in
    ap (λ z. Some (JumpOnFalse z)) (to_z-of_z w32 c.tested_distance-in-172-to-175.result fits ∙ c.tested_distance-in-172-to-175.ensures)
    ∙ sym (false_at c.args.byte c.args.next (omega arith) (omega arith))
