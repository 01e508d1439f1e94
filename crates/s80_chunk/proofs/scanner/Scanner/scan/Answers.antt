use Rattle.std.proofs.Common.{◌≡◌, ℕ, List, ◌++◌, ◌+◌, take, ◌∙◌, subst, rules, arith}
use Rattle.s80_chunk.specs.Entry.{HasTaken}
use Rattle.s80_chunk.proofs.Cutting.{take_on}
use Rattle.s80_chunk.proofs.scanner.Scanner.scan.Goals as goal

pub loop-done-preserved-then-byte-ne33-2 : goal.loop-done-preserved-then-byte-ne33-2
loop-done-preserved-then-byte-ne33-2 c = record {
  within = search rules;
  taken = λ taken h.
      let all = c.take_run-done.ensures.taken (taken ++ take c.loop-done.done c.args.bytes.now) (c.loop-done.invariant.taken taken h) in
      let count : ℕ = c.loop-done.done + c.take_run-done.result in
      let place : c.args.place + c.loop-done.done + c.take_run-done.result ≡ c.args.place + count = omega arith in
      subst (λ (k : ℕ). HasTaken c.take_run-done.new.self (taken ++ take count c.args.bytes.now) k) place
      (subst (λ (z : List ℕ). HasTaken c.take_run-done.new.self z (c.args.place + c.loop-done.done + c.take_run-done.result)) (take_on taken c.args.bytes.now c.loop-done.done c.take_run-done.result) all);
  section = c.take_run-done.ensures.section ∙ c.loop-done.invariant.section;
  bounded = search rules;
  same = λ e. let some = c.take_run-done.ensures.goes_on in absurd (omega arith);
  small = c.take_run-done.ensures.small;
}
