use Rattle.std.proofs.Common.{map, sym, subst}
use Rattle.std.proofs.lemmas.Result.{IfOk-weaker}
use Rattle.clap.specs.Words.{app_of}
use Rattle.s80_line.specs.Rows.{IsOutcome}
use Rattle.s80_line.proofs.Outcomes.{accepted, refused_words}
use Rattle.s80_line.proofs.words.matched.Goals as goal

pub returns-in-Ok : goal.returns-in-Ok
returns-in-Ok c =
    accepted (map (λ s. s.now) c.args.words.now) c.in-Ok.matches (app_of c.in_ok-command.command) c.requires c.in_ok-command.ensures c.in-Ok.ensures.matches c.in-Ok.ensures.kinds

pub returns-in-Err : goal.returns-in-Err
returns-in-Err c =
    let words = map (λ s. s.now) c.args.words.now in
    IfOk-weaker c.refused.result _ _ (λ r h. subst (IsOutcome words) (sym h.1)
    (refused_words words c.in-Err.error (app_of c.in_ok-command.command) c.requires c.in_ok-command.ensures c.in-Err.ensures.kinds h.0)) c.refused.ensures
