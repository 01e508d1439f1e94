use Rattle.std.proofs.Common.{◌≤◌, Ok, length, subst, sym}
use Rattle.s80_change.specs.Check.{IsCheckOf}
use Rattle.s80_method.specs.Code.{IsMethodCode}
use Rattle.s80_apply.proofs.recompile.recompiled_entry.Goals as goal

pub returns-clause-code : goal.returns-clause-code
returns-clause-code c = λ name selector named check.
    let same = sym c.in_ok-copy-2.ensures in
    record {
      short = subst (λ text. length text ≤ 65535) same c.requires.source.0;
      check = subst (λ text. IsCheckOf text (Ok selector)) same check;
      code = subst (λ text. IsMethodCode c.args.classes.now.classes name c.args.side selector text c.in_ok-code_of.field-0) same (c.in_ok-code_of.ensures name selector named check);
    }
