use Rattle.std.proofs.Common.{inl}
use Rattle.std.proofs.lemmas.Result.{IfOk-weaker}
use Rattle.s80_tree.specs.Tree.{method_of}
use Rattle.s80_change.specs.Check.{IsFitting}
use Rattle.s80_change.specs.Source.{IsParsedText}
use Rattle.s80_change.proofs.Checking.{fitting_is}
use Rattle.s80_change.proofs.source.parsed.Goals as goal

pub returns-in-Ok : goal.returns-in-Ok
returns-in-Ok c =
    IfOk-weaker c.fitting.result (IsFitting (method_of c.in-Ok.tree)) (IsParsedText c.args.text.now)
    (λ parsed h. fitting_is c.args.text.now (method_of c.in-Ok.tree) parsed c.in-Ok.ensures.tree h) c.fitting.ensures

pub returns-in_ok-syntax_refusal-in-Err : goal.returns-in_ok-syntax_refusal-in-Err
returns-in_ok-syntax_refusal-in-Err c = inl (c.in_ok-syntax_refusal-in-Err.ensures.method c.args.text.now c.in-Err.ensures.fault)
