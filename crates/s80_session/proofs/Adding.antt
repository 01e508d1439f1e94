-- A change that a keeper prepares and keeps, and the model's list with it.
use Rattle.std.proofs.Common.{◌≡◌, ◌+◌, ◌≤◌, List, [], ◌∷◌, ◌++◌, length, refl, sym, ap, subst, ◌∙◌, Result, Ok, Err, Option, Some, None, arith}
use Rattle.std.proofs.lemmas.Bool.{le-leb}
use Rattle.s80_base.specs.declared.outside.Failed.{Failed}
use Rattle.s80_change.specs.declared.change.Change.{Change}
use Rattle.s80_form.specs.declared.refusal.Refusal.{Refusal}
use Rattle.s80_change.specs.Block.{block, blocks, log_limit, IsLawful}
use Rattle.s80_disk.specs.Image.{Image}
use Rattle.s80_apply.specs.Accept.{accept}
use Rattle.s80_apply.specs.List.{IsAccepted, state_of, refusal_to, added, add}
use Rattle.s80_apply.specs.State.{State}
use Rattle.s80_apply.specs.Placed.{placed_of}
use Rattle.s80_apply.specs.System.{HasPlaces, IsSystemOf}
use Rattle.s80_history.specs.History.{IsHistoryOf}
use Rattle.s80_disk.specs.Shown.{Shown}
use Rattle.s80_keeper.specs.Keeper.{Keeps}
use Rattle.s80_keeper.specs.Answers.{PreparedChange, IsFor}
use Rattle.s80_keeper.specs.Standing.{StandsFor}
use Rattle.s80_keeper.proofs.lemmas.Standing.{reads_so}
use Rattle.s80_model.specs.declared.reply.Reply.TheVariants.{Accepted, Refused}
use Rattle.s80_model.specs.Replies.{Work, reply_to_adding}
use Rattle.s80_session.specs.declared.session.Session.{Session}
use Rattle.s80_session.specs.Session.{budget_of, held_of, keeper_of, kept_versions_of, section_of}
use Rattle.s80_session.specs.Working.{Ground, IsAmid, IsLawfulFor, IsLost, adding}
use Rattle.s80_session.proofs.lemmas.Keeping.{keeps_prepared}

-- the model takes what is accepted and fits
add_takes : (changes : List Change) (change : Change) (after : State) → accept change (state_of changes) ≡ Ok after → length (blocks changes) + length (block change) ≤ log_limit → add changes change ≡ Ok (changes ++ change ∷ [])
add_takes changes change after accepted fits = rw (accepted, le-leb (length (blocks changes) + length (block change)) log_limit fits) refl

-- and refuses everything else
add_refuses : (changes : List Change) (change : Change) (refusal : Refusal) → refusal_to (state_of changes) (length (blocks changes)) change ≡ Some refusal → add changes change ≡ Err refusal
add_refuses changes change refusal is = ap (λ r. added r (changes ++ change ∷ [])) is

-- a keeper's log is as long as the blocks of its list
log_is : (may_leave : Image → Type 0) (o : Shown) (session : Session) (work : Work) (basis : Ground) → IsAmid may_leave o session work basis → (keeper_of session).log.end ≡ length (blocks work.changes)
log_is may_leave o session work basis h = h.keeps.holds.whole

-- a session before and after its keeper prepared a change
module _ (may_leave : Image → Type 0) (o : Shown) (before now : Session) (work : Work) (basis : Ground) (change : Change) (same : keeper_of now ≡ record (keeper_of before) { system = (keeper_of now).system; history = (keeper_of now).history }) (system : IsSystemOf (keeper_of now).system (state_of work.changes)) (places : HasPlaces (keeper_of now).system (placed_of work.changes)) (history : IsHistoryOf (keeper_of now).history work.changes) (rest : now ≡ record before { keeper = keeper_of now }) (at : IsAmid may_leave o before work basis) where
  pub still_at : IsAmid may_leave o now work basis
  still_at = record {
    keeps = keeps_prepared o.tells o.files may_leave (keeper_of before) basis.kept (keeper_of now) same system places history at.keeps;
    section = ap section_of rest ∙ at.section;
    brief = at.brief;
    budget = ap budget_of rest ∙ at.budget;
    kept_versions = ap kept_versions_of rest ∙ at.kept_versions;
    moment = at.moment;
    taken = at.taken;
    told = at.told;
    held = ap held_of rest ∙ at.held;
  }

  pub refused : (refusal : Refusal) → refusal_to (state_of work.changes) (keeper_of before).log.end change ≡ Some refusal → (Refused refusal ≡ reply_to_adding (add work.changes change)) × IsAmid may_leave o now (adding work change) basis
  refused refusal is =
      let end = log_is may_leave o before work basis at in
      let refuses = add_refuses work.changes change refusal (ap (λ n. refusal_to (state_of work.changes) n change) (sym end) ∙ is) in
      rw refuses (refl, still_at)

  module _ (prepared : PreparedChange) (is : prepared.change ≡ change) (is_for : IsFor (state_of work.changes) (keeper_of now).system prepared) where
    pub accepts : (after : State) × (accept change (state_of work.changes) ≡ Ok after)
    accepts =
        let makes = is_for.makes in
        (makes.0, ap (λ x. accept x (state_of work.changes)) (sym is) ∙ makes.1)

    pub takes : (keeper_of before).log.end + length (block change) ≤ log_limit → add work.changes change ≡ Ok (work.changes ++ change ∷ [])
    takes fits = let end = log_is may_leave o before work basis at in add_takes work.changes change accepts.0 accepts.1 (omega (arith, fits, end))

    pub lawful_on : IsLawfulFor work.changes change → IsLawful prepared.change
    lawful_on lawful =
        let P : Change → Type 0 = λ x. IsLawful x in
        let Q : Result State Refusal → Type 0 = λ r. IsAccepted r in
        subst P (sym is) (lawful (subst Q (sym accepts.1) tt))

-- a session whose keeper has kept or committed something stands on another basis, or at work behind another list
pub stands_on : (was may_leave : Image → Type 0) (o now : Shown) (before session : Session) (work : Work) (basis : Ground) (front all : List Change) → Keeps now.tells now.files may_leave (keeper_of session) front all → session ≡ record before { keeper = keeper_of session } → now ≡ record o { files = now.files } → IsAmid was o before work basis
    → IsAmid may_leave now session (record work { changes = all }) (record basis { kept = front })
stands_on was may_leave o now before session work basis front all keeps rest shown at = record {
  keeps = keeps;
  section = ap section_of rest ∙ at.section;
  brief = at.brief;
  budget = ap budget_of rest ∙ at.budget;
  kept_versions = ap kept_versions_of rest ∙ at.kept_versions;
  moment = at.moment ∙ sym (ap (λ (s : Shown). s.seconds) shown);
  taken = ap (λ (s : Shown). s.taken) shown ∙ at.taken;
  told = ap (λ (s : Shown). s.told) shown ∙ at.told;
  held = ap held_of rest ∙ at.held;
}

-- what was kept
pub kept : (was may_leave : Image → Type 0) (o now : Shown) (before session : Session) (work : Work) (basis : Ground) (change : Change) → add work.changes change ≡ Ok (work.changes ++ change ∷ []) → Keeps now.tells now.files may_leave (keeper_of session) basis.kept (work.changes ++ change ∷ []) → session ≡ record before { keeper = keeper_of session } → now ≡ record o { files = now.files } → IsAmid was o before work basis
    → (Accepted ≡ reply_to_adding (add work.changes change)) × IsAmid may_leave now session (adding work change) basis
kept was may_leave o now before session work basis change takes keeps rest shown at = rw takes (refl, stands_on was may_leave o now before session work basis basis.kept (work.changes ++ change ∷ []) keeps rest shown at)

-- a call of the disk failed as a change was to be kept: the disk goes on to stand for what is kept
pub lost_keeping : (was may_leave : Image → Type 0) (o now : Shown) (session : Session) (work : Work) (basis : Ground) → StandsFor now.tells now.files may_leave basis.kept → now ≡ record o { files = now.files } → IsAmid was o session work basis → IsLost may_leave now basis.put (λ list. list ≡ basis.kept)
lost_keeping was may_leave o now session work basis stands shown at = record {
  taken = ap (λ (s : Shown). s.taken) shown ∙ at.taken;
  list = basis.kept;
  is = refl;
  reads = reads_so now.tells now.files may_leave basis.kept stands;
}

-- no fault is met where one is
pub not_both : (o : Option Failed) (failed : Failed) → o ≡ None → o ≡ Some failed → ⊥
not_both None failed none some = cc some
not_both (Some other) failed none some = cc none
