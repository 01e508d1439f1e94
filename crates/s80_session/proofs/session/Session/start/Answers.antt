use Rattle.std.proofs.Common.{◌≡◌, ⊎_elim, ap, refl, sym, subst, ◌∙◌}
use Rattle.std.proofs.lemmas.Result.{err_from_is_err_and}
use Rattle.std.specs.Prelude.{IsTrue, MatchOption}
use Rattle.std.specs.Int.NonZero.{non_zero_u32_get}
use Rattle.s80_disk.specs.Shown.{Shown}
use Rattle.s80_log.specs.Log.{log_file}
use Rattle.s80_session.proofs.Knowing.{starts_written}
use Rattle.s80_session.proofs.Stepping.{starts_err}
use Rattle.s80_session.proofs.lemmas.Elsewhere.{no_mark}
use Rattle.s80_session.proofs.session.Session.start.Goals as goal

pub returns-in_err-keeper-clause-started : goal.returns-in_err-keeper-clause-started
returns-in_err-keeper-clause-started g c = λ settings changes put budget versions moment reads taken told.
    let p = err_from_is_err_and c.from_residual.result c.from_residual.ensures.1 in
    rw (p.1, p.2) (starts_err _ (g.O.Disk.may_leave c.start_keeper.new.outside) (g.O.Outside.shown c.start_keeper.new.outside) settings changes put (ap (λ (o : Shown). o.taken) c.start_keeper.ensures.shown ∙ taken) (c.in_err-keeper.ensures.started changes reads))

pub returns-clause-started : goal.returns-clause-started
returns-clause-started g c = λ settings changes put budget versions moment reads taken told.
    let keeps_so = subst (λ r. MatchOption r (c.args.keep ≡ 0) (λ n. non_zero_u32_get n ≡ c.args.keep)) c.unwrap.ensures c.new.ensures in record {
      keeps = c.in_ok-keeper.ensures.started changes reads;
      section = refl;
      brief = tt;
      budget = sym budget;
      kept_versions = keeps_so ∙ sym versions;
      moment = moment ∙ sym (ap (λ (o : Shown). o.seconds) c.start_keeper.ensures.shown);
      taken = ap (λ (o : Shown). o.taken) c.start_keeper.ensures.shown ∙ taken;
      told = ap (λ (o : Shown). o.told) c.start_keeper.ensures.shown ∙ told;
      held = c.none.ensures;
    }

-- ---- what is known stays known
pub returns-clause-known : goal.returns-clause-known
returns-clause-known g c = λ changes files told.
    let o = g.O.Outside.shown c.args.outside.now in
    let new = g.O.Outside.shown c.start_keeper.new.outside in
    let keeper = c.in_ok-keeper.keeper in
    let tells = subst IsTrue (ap (λ (s : Shown). s.tells) c.start_keeper.ensures.shown) told in
    let is = ⊎_elim (λ list. list) (λ sound. (changes, files, sound.knows changes files)) (c.in_ok-keeper.ensures.answer tells) in
    (tt, is.0, starts_written new.tells o.files new.files keeper is.0 is.1 is.2 (c.start_keeper.ensures.others (log_file keeper.log.number) (no_mark keeper.log.number)) (c.in_ok-keeper.ensures.whole tells))
