-- What joining changes leaves: where one more was added, where it breaks off, at any moment, and behind all of it.
use Rattle.std.proofs.Common.{◌≡◌, ◌⊎◌, inl, inr, ⊎_elim, ℕ, List, [], ◌∷◌, ◌++◌, length, take, refl, sym, ap, subst, ◌∙◌, Option, Some, Result, Ok, Err, append_assoc, arith}
use Rattle.std.specs.Prelude.{◌≢◌, ◌||◌, None, false, is_some}
use Rattle.std.proofs.lemmas.List.{append-nil}
use Rattle.s80_apply.specs.List.{add, refusal_to, state_of, added as added_by}
use Rattle.s80_change.specs.Block.{blocks, IsLawful}
use Rattle.s80_change.specs.declared.change.Change.{Change}
use Rattle.s80_disk.specs.Image.{Image}
use Rattle.s80_disk.specs.Moments.{LeavesOnly}
use Rattle.s80_disk.specs.Shown.{Shown}
use Rattle.s80_disk.proofs.lemmas.Run.{started, joined as runs_on, weaker}
use Rattle.s80_form.specs.declared.refusal.Refusal.{Refusal}
use Rattle.s80_joining.specs.declared.outcome.Outcome.{Outcome}
use Rattle.s80_joining.specs.declared.outcome.Outcome.TheVariants as outcomes
use Rattle.s80_joining.specs.Answer.{merged_line, refusal_line_or, reply_text}
use Rattle.s80_joining.specs.Outcome.{Joined, is_trouble, joined, list_after_merging, with_joined}
use Rattle.s80_keeper.specs.Keeper.{KeeperState, Keeps}
use Rattle.s80_keeper.specs.Standing.{ReadsFor}
use Rattle.s80_model.specs.Replies.{Work, list_or, reply_to_adding}
use Rattle.s80_session.specs.declared.end.SessionEnd.{SessionEnd}
use Rattle.s80_session.specs.declared.end.SessionEnd.TheVariants as ends
use Rattle.s80_session.specs.declared.merge.MergeReply.{MergeReply}
use Rattle.s80_session.specs.declared.session.Session.{Session}
use Rattle.s80_session.specs.Ends.{reply_to_keeping}
use Rattle.s80_session.specs.Merging.{AddsChange, HasOutcome, IsDone, IsFrontOf, IsHalfDone, IsJoining, IsLostOnTheWay, IsOnTheWay, JoinBreaks, JoinEnds, JoinKeeps, Joins, JoinsOn, MergeKeeps, Merges, NoOutcome, behind, with_added}
use Rattle.s80_session.specs.Run.{HasKept}
use Rattle.s80_session.specs.Session.{Was, budget_of, held_of, keeper_of, kept_versions_of, last_run_of, section_of, troubled_of, was_of, HasSameRest}
use Rattle.s80_session.specs.Working.{Ground, EndsForMemory, Flushed, FlushLeaves, IsAmid, IsAt, IsLawfulFor, IsLost, Kept, Unworked, at_rest}
use Rattle.s80_session.proofs.Holding.{amid_alike}
use Rattle.s80_session.proofs.lemmas.Amid.{amid_leaves, amid_stands}

-- ---- what else a session holds

-- another keeper leaves it
pub rest_kept : (before now : Session) → now ≡ record before { keeper = keeper_of now } → HasSameRest before now
rest_kept before now is = record { section = ap section_of is; troubled = ap troubled_of is; budget = ap budget_of is; kept_versions = ap kept_versions_of is; last_run = ap last_run_of is }

pub rest_on : (before mid now : Session) → HasSameRest before mid → HasSameRest mid now → HasSameRest before now
rest_on before mid now one other = record { section = other.section ∙ one.section; troubled = other.troubled ∙ one.troubled; budget = other.budget ∙ one.budget; kept_versions = other.kept_versions ∙ one.kept_versions; last_run = other.last_run ∙ one.last_run }

pub rest_stays : (session : Session) → HasSameRest session session
rest_stays session = record { section = refl; troubled = refl; budget = refl; kept_versions = refl; last_run = refl }

-- ---- one change more

-- whether it was kept tells what adding it gives
why_kept : (list : List Change) (answer why : Option Refusal) → reply_to_keeping answer ≡ reply_to_adding (added_by why list) → why ≡ answer
why_kept list None None is = refl
why_kept list None (Some refusal) is = absurd (cc)
why_kept list (Some refusal) None is = absurd (cc)
why_kept list (Some refusal) (Some other) is = cc

add_gives : (changes : List Change) (change : Change) (answer : Option Refusal) → reply_to_keeping answer ≡ reply_to_adding (add changes change) → add changes change ≡ added_by answer (changes ++ change ∷ [])
add_gives changes change answer is =
    let list : List Change = changes ++ change ∷ [] in
    ap (λ o. added_by o list) (why_kept list answer (refusal_to (state_of changes) (length (blocks changes)) change) is)

module _ (changes theirs added waiting : List Change) (change : Change) (whole : joined changes theirs ≡ behind added (joined (changes ++ added) (change ∷ waiting))) where
  abbrev list_here : List Change
  list_here = changes ++ added

  abbrev joined_later : Joined
  joined_later = joined (list_here ++ change ∷ []) waiting

  whole_by : (r : Result (List Change) Refusal) → add list_here change ≡ r → joined changes theirs ≡ behind added (with_joined change r joined_later)
  whole_by r is = whole ∙ ap (λ x. behind added (with_joined change x joined_later)) is

  -- it is added
  more_joined : add list_here change ≡ Ok (list_here ++ change ∷ []) → joined changes theirs ≡ behind (added ++ change ∷ []) (joined (changes ++ (added ++ change ∷ [])) waiting)
  more_joined is =
      let made : List Change → Joined = λ l. record { changes = l; refusal = joined_later.refusal } in
      let on : List Change → Joined = λ l. behind (added ++ change ∷ []) (joined l waiting) in
      whole_by (Ok (list_here ++ change ∷ [])) is ∙ ap made (sym (append_assoc added (change ∷ []) joined_later.changes)) ∙ ap on (append_assoc changes added (change ∷ []))

  -- it is refused
  none_joined : (refusal : Refusal) → add list_here change ≡ Err refusal → joined changes theirs ≡ record { changes = added; refusal = Some refusal }
  none_joined refusal is =
      let made : List Change → Joined = λ l. record { changes = l; refusal = Some refusal } in
      whole_by (Err refusal) is ∙ ap made (append-nil added)

-- no more wait
all_joined : (changes theirs added : List Change) → joined changes theirs ≡ behind added (joined (changes ++ added) []) → joined changes theirs ≡ record { changes = added; refusal = None }
all_joined changes theirs added whole = let made : List Change → Joined = λ l. record { changes = l; refusal = None } in whole ∙ ap made (append-nil added)

-- ---- on the way

-- the list before it, and the list behind all of it
pub starts_on : (changes : List Change) (outcome : Outcome) → IsOnTheWay changes outcome changes
starts_on changes (outcomes.Refused refusal) = refl
starts_on changes (outcomes.Conflicts keys) = refl
starts_on changes (outcomes.Joins theirs) = ([], (joined changes theirs).changes, refl, sym (append-nil changes))

pub ends_on : (changes : List Change) (outcome : Outcome) → IsOnTheWay changes outcome (list_after_merging changes outcome)
ends_on changes (outcomes.Refused refusal) = refl
ends_on changes (outcomes.Conflicts keys) = refl
ends_on changes (outcomes.Joins theirs) = ((joined changes theirs).changes, [], sym (append-nil (joined changes theirs).changes), refl)

-- what was added so far, and a front of that
front_added : (changes theirs added waiting : List Change) → joined changes theirs ≡ behind added (joined (changes ++ added) waiting) → IsFrontOf changes theirs (changes ++ added)
front_added changes theirs added waiting whole = (added, (joined (changes ++ added) waiting).changes, ap (λ (j : Joined). j.changes) whole, refl)

front_early : (changes theirs added waiting early pending : List Change) → added ≡ early ++ pending → joined changes theirs ≡ behind added (joined (changes ++ added) waiting) → IsFrontOf changes theirs (changes ++ early)
front_early changes theirs added waiting early pending parts whole =
    let rest : List Change = (joined (changes ++ added) waiting).changes in
    (early, pending ++ rest, ap (λ (j : Joined). j.changes) whole ∙ ap (λ l. l ++ rest) parts ∙ append_assoc early pending rest, refl)

-- ---- where it breaks off

-- the list with these behind it is kept, and nothing is held
abbrev pub ground : Work → List ℕ → List Change → Ground
ground work put early = record { kept = work.changes ++ early; put = put; held = [] }

-- behind a flush
put_none : (may_leave : Image → Type 0) (now : Shown) (session : Session) (work : Work) (put : List ℕ) → IsAt may_leave now session work (put ++ []) → IsAt may_leave now session work put
put_none may_leave now session work put at = let P : List ℕ → Type 0 = λ l. IsAt may_leave now session work l in subst P (append-nil put) at

kept_none : (changes : List Change) (put : List ℕ) (told : ℕ) (c : Image) → HasKept changes (length (put ++ [])) told c → HasKept changes (length put) told c
kept_none changes put told c h = let P : List ℕ → Type 0 = λ l. HasKept changes (length l) told c in subst P (append-nil put) h

module _ (work : Work) (put : List ℕ) (outcome : Outcome) where
  -- the disk reads for this list
  lost_so : (may_leave : Image → Type 0) (now : Shown) (list into : List Change) → IsOnTheWay work.changes outcome into → now.taken ≡ Some put → list ≡ into → ReadsFor now.tells now.files may_leave list → IsLostOnTheWay may_leave now work put outcome
  lost_so may_leave now list into way taken is reads =
      let P : List Change → Type 0 = λ l. ReadsFor now.tells now.files may_leave l in
      record { list = into; so_far = way; reads = subst P is reads; taken = taken }

  -- in a flush with nothing held
  module _ (early : List Change) (early_so_far : IsOnTheWay work.changes outcome early) (there : Work) (so_far : IsOnTheWay work.changes outcome there.changes) where
    lost_flush : (may_leave : Image → Type 0) (now : Shown) → IsLost may_leave now put (λ list. (list ≡ early) ⊎ (list ≡ there.changes)) → IsLostOnTheWay may_leave now work put outcome
    lost_flush may_leave now h = ⊎_elim (λ e. lost_so may_leave now h.list early early_so_far h.taken e h.reads) (λ e. lost_so may_leave now h.list there.changes so_far h.taken e h.reads) h.is

    flush_breaks : (T : Type 0) (end : SessionEnd) (may_leave : Image → Type 0) (now : Shown) (session : Session) → Flushed {T = T} (Err end) may_leave now session there (record { kept = early; put = put; held = [] }) → JoinBreaks end may_leave now session work put outcome
    flush_breaks T (ends.Disk failed) may_leave now session h = lost_flush may_leave now h
    flush_breaks T (ends.Write failed) may_leave now session (n, short, at) = absurd (omega (arith, short))
    flush_breaks T ends.Memory may_leave now session h = absurd h
    flush_breaks T (ends.Read failed) may_leave now session h = absurd h
    flush_breaks T (ends.Damaged damage) may_leave now session h = absurd h
    flush_breaks T ends.TooLong may_leave now session h = absurd h

    flush_keeps : (told : ℕ) (c : Image) → FlushLeaves there (record { kept = early; put = put; held = [] }) told c → JoinKeeps work outcome put told c
    flush_keeps told c (inl h) = inl (early, early_so_far, h)
    flush_keeps told c (inr h) = inl (there.changes, so_far, kept_none there.changes put told c h)

-- ---- the changes so far

module _ (was_left : Image → Type 0) (mid : Shown) (at_work : Session) (work : Work) (put : List ℕ) (theirs added waiting : List Change) (j : IsJoining was_left mid at_work work put theirs added waiting) where
  abbrev outcome_then : Outcome
  outcome_then = outcomes.Joins theirs

  abbrev early_then : List Change
  early_then = work.changes ++ j.early

  way_early : IsFrontOf work.changes theirs early_then
  way_early = front_early work.changes theirs added waiting j.early j.pending j.parts j.whole

  way_then : IsFrontOf work.changes theirs (work.changes ++ added)
  way_then = front_added work.changes theirs added waiting j.whole

  -- memory is wanting
  pub joining_half : IsHalfDone was_left mid at_work work put outcome_then
  joining_half = record { early = early_then; early_so_far = way_early; behind = with_added work added; so_far = way_then; at = j.at }

  -- a flush
  joining_flushed : (may_leave : Image → Type 0) (now : Shown) (session : Session) → Flushed {T = Unit {0}} (Ok tt) may_leave now session (with_added work added) (ground work put j.early) → IsJoining may_leave now session work put theirs added waiting
  joining_flushed may_leave now session at = record { whole = j.whole; early = added; pending = []; parts = sym (append-nil added); at = put_none may_leave now session (with_added work added) put at }

  pub joining_flush : (r : Result (Unit {0}) SessionEnd) (may_leave : Image → Type 0) (now : Shown) (session : Session) → ((w : Work) (basis : Ground) → IsAmid was_left mid at_work w basis → Flushed r may_leave now session w basis) → JoinsOn r may_leave now session work put theirs added waiting
  joining_flush (Ok done) may_leave now session flushes = joining_flushed may_leave now session (flushes (with_added work added) (ground work put j.early) j.at)
  joining_flush (Err end) may_leave now session flushes =
      flush_breaks work put outcome_then early_then way_early (with_added work added) way_then (Unit {0}) end may_leave now session (flushes (with_added work added) (ground work put j.early) j.at)

  module _ {D : Type 0} (moment : D → ℕ) (left_since : D → ℕ → ℕ → Image → Type 0) where
    pub flush_lasts : (old here new : D) → LeavesOnly moment left_since old here (JoinKeeps work outcome_then put) → ((w : Work) (basis : Ground) → IsAmid was_left mid at_work w basis → LeavesOnly moment left_since here new (FlushLeaves w basis)) → LeavesOnly moment left_since old new (JoinKeeps work outcome_then put)
    flush_lasts old here new first second =
        runs_on moment left_since old here new (JoinKeeps work outcome_then put) (FlushLeaves (with_added work added) (ground work put j.early)) first (second (with_added work added) (ground work put j.early) j.at) (flush_keeps work put outcome_then early_then way_early (with_added work added) way_then)

    -- no call was made
    pub joining_still : (now : D) → ((told : ℕ) (c : Image) → left_since now (moment now) told c → was_left c × (told ≡ mid.told)) → LeavesOnly moment left_since now now (JoinKeeps work outcome_then put)
    joining_still now only = started moment left_since now (JoinKeeps work outcome_then put) (λ told c left.
        let x = only told c left in
        inl (early_then, way_early, record { no_more = omega (arith, j.at.told, x.1); files = amid_leaves was_left mid at_work (with_added work added) (ground work put j.early) j.at c x.0 }))

  -- all of it was done, and this is to be told
  pub done_so : (refusal : Option Refusal) (reply : MergeReply) → joined work.changes theirs ≡ record { changes = added; refusal = refusal } → reply.text ≡ merged_line (length added) ++ refusal_line_or refusal → reply.is_trouble ≡ is_some refusal → IsDone was_left mid at_work work put outcome_then reply
  done_so refusal reply is text trouble =
      let P : List Change → Type 0 = λ l. IsAmid was_left mid at_work (with_added work l) (ground work put j.early) in
      record {
        early = early_then;
        early_so_far = way_early;
        at = subst P (sym (ap (λ (o : Joined). o.changes) is)) j.at;
        text_is = text ∙ ap (λ (o : Joined). merged_line (length o.changes) ++ refusal_line_or o.refusal) (sym is);
        trouble_is = trouble ∙ ap (λ (o : Joined). is_some o.refusal) (sym is);
      }

-- one change more is kept
module _ (was_left : Image → Type 0) (mid : Shown) (at_work : Session) (work : Work) (put : List ℕ) (theirs added waiting : List Change) (change : Change) (j : IsJoining was_left mid at_work work put theirs added (change ∷ waiting)) where
  abbrev basis_then : Ground
  basis_then = ground work put j.early

  abbrev list_then : List Change
  list_then = work.changes ++ added

  way_kept : IsFrontOf work.changes theirs (work.changes ++ j.early)
  way_kept = front_early work.changes theirs added (change ∷ waiting) j.early j.pending j.parts j.whole

  kept_joins : (answer : Option Refusal) (may_leave : Image → Type 0) (now : Shown) (session : Session) → Kept (Ok answer) may_leave now session (with_added work added) basis_then change → AddsChange (Ok answer) may_leave now session work put theirs added change waiting
  kept_joins None may_leave now session (is, at) =
      let gives = add_gives list_then change None is in
      let P : List Change → Type 0 = λ l. IsAmid may_leave now session (record work { changes = l }) basis_then in
      record {
        whole = more_joined work.changes theirs added waiting change j.whole gives;
        early = j.early;
        pending = j.pending ++ change ∷ [];
        parts = ap (λ l. l ++ change ∷ []) j.parts ∙ append_assoc j.early j.pending (change ∷ []);
        at = subst P (ap (λ r. list_or r list_then) gives ∙ append_assoc work.changes added (change ∷ [])) at;
      }
  kept_joins (Some refusal) may_leave now session (is, at) =
      let gives = add_gives list_then change (Some refusal) is in
      let P : List Change → Type 0 = λ l. IsAmid may_leave now session (record work { changes = l }) basis_then in
      (none_joined work.changes theirs added waiting change j.whole refusal gives, record { whole = j.whole; early = j.early; pending = j.pending; parts = j.parts; at = subst P (ap (λ r. list_or r list_then) gives) at })

  unkept_breaks : (end : SessionEnd) (may_leave : Image → Type 0) (now : Shown) (session : Session) → Unworked end may_leave now session (with_added work added) basis_then → JoinBreaks end may_leave now session work put (outcomes.Joins theirs)
  unkept_breaks ends.Memory may_leave now session at = record { early = work.changes ++ j.early; early_so_far = way_kept; behind = with_added work added; so_far = front_added work.changes theirs added (change ∷ waiting) j.whole; at = at }
  unkept_breaks (ends.Disk failed) may_leave now session h = lost_so work put (outcomes.Joins theirs) may_leave now h.list (work.changes ++ j.early) way_kept h.taken h.is h.reads
  unkept_breaks (ends.Read failed) may_leave now session h = absurd h
  unkept_breaks (ends.Write failed) may_leave now session h = absurd h
  unkept_breaks (ends.Damaged damage) may_leave now session h = absurd h
  unkept_breaks ends.TooLong may_leave now session h = absurd h

  module _ (lawful : IsLawful change) where
    pub change_kept : (answer : Option Refusal) (may_leave : Image → Type 0) (now : Shown) (session : Session) → ((w : Work) (basis : Ground) → IsLawfulFor w.changes change → IsAmid was_left mid at_work w basis → Kept (Ok answer) may_leave now session w basis change) → AddsChange (Ok answer) may_leave now session work put theirs added change waiting
    change_kept answer may_leave now session keeps = kept_joins answer may_leave now session (keeps (with_added work added) basis_then (λ accepted. lawful) j.at)

    pub change_unkept : (end : SessionEnd) (may_leave : Image → Type 0) (now : Shown) (session : Session) → ((w : Work) (basis : Ground) → IsLawfulFor w.changes change → IsAmid was_left mid at_work w basis → Kept (Err end) may_leave now session w basis change) → JoinBreaks end may_leave now session work put (outcomes.Joins theirs)
    change_unkept end may_leave now session keeps = unkept_breaks end may_leave now session (keeps (with_added work added) basis_then (λ accepted. lawful) j.at)

    pub change_lasts : {D : Type 0} (moment : D → ℕ) (left_since : D → ℕ → ℕ → Image → Type 0) (old new : D) → ((w : Work) (basis : Ground) → IsLawfulFor w.changes change → IsAmid was_left mid at_work w basis → LeavesOnly moment left_since old new (HasKept basis.kept (length basis.put))) → LeavesOnly moment left_since old new (JoinKeeps work (outcomes.Joins theirs) put)
    change_lasts moment left_since old new keeps =
        weaker moment left_since old new (HasKept (work.changes ++ j.early) (length put)) (JoinKeeps work (outcomes.Joins theirs) put) (keeps (with_added work added) basis_then (λ accepted. lawful) j.at) (λ told c h. inl (work.changes ++ j.early, way_kept, h))

-- behind it some changes are added, and some wait
pub after_one : (answer : Option Refusal) (may_leave : Image → Type 0) (now : Shown) (session : Session) (work : Work) (put : List ℕ) (theirs added : List Change) (change : Change) (waiting : List Change) → AddsChange (Ok answer) may_leave now session work put theirs added change waiting
    → (so_far : List Change) × (left : List Change) × IsJoining may_leave now session work put theirs so_far left
after_one None may_leave now session work put theirs added change waiting h = (added ++ change ∷ [], waiting, h)
after_one (Some refusal) may_leave now session work put theirs added change waiting (is, h) = (added, change ∷ waiting, h)

-- and a flush leaves them so
pub flushed_one : (answer : Option Refusal) (was_left may_leave : Image → Type 0) (mid now : Shown) (at_work session : Session) (work : Work) (put : List ℕ) (theirs added : List Change) (change : Change) (waiting : List Change)
    → ((so_far left : List Change) → IsJoining was_left mid at_work work put theirs so_far left → IsJoining may_leave now session work put theirs so_far left)
    → AddsChange (Ok answer) was_left mid at_work work put theirs added change waiting → AddsChange (Ok answer) may_leave now session work put theirs added change waiting
flushed_one None was_left may_leave mid now at_work session work put theirs added change waiting moves h = moves (added ++ change ∷ []) waiting h
flushed_one (Some refusal) was_left may_leave mid now at_work session work put theirs added change waiting moves (is, h) = (is, moves added (change ∷ waiting) h)

-- ---- all changes

-- none is added yet
pub joining_none : (may_leave : Image → Type 0) (now : Shown) (session : Session) (work : Work) (put : List ℕ) (theirs : List Change) → IsAt may_leave now session work put → IsJoining may_leave now session work put theirs [] theirs
joining_none may_leave now session work put theirs at =
    let same : work.changes ≡ work.changes ++ [] = sym (append-nil work.changes) in
    let P : List Change → Type 0 = λ l. IsAmid may_leave now session (record work { changes = l }) (record { kept = l; put = put; held = [] }) in
    record { whole = ap (λ l. joined l theirs) same; early = []; pending = []; parts = refl; at = subst P same at }

pub joining_starts : {D : Type 0} (moment : D → ℕ) (left_since : D → ℕ → ℕ → Image → Type 0) (may_leave : Image → Type 0) (o : Shown) (session : Session) (now : D) (work : Work) (put : List ℕ) (outcome : Outcome) → ((told : ℕ) (c : Image) → left_since now (moment now) told c → may_leave c × (told ≡ o.told)) → IsAt may_leave o session work put
    → LeavesOnly moment left_since now now (JoinKeeps work outcome put)
joining_starts moment left_since may_leave o session now work put outcome only at = started moment left_since now (JoinKeeps work outcome put) (λ told c left.
    let x = only told c left in
    inl (work.changes, starts_on work.changes outcome, record { no_more = omega (arith, at.told, x.1); files = amid_leaves may_leave o session work (at_rest work put) at c x.0 }))

pub joining_on : {D : Type 0} (moment : D → ℕ) (left_since : D → ℕ → ℕ → Image → Type 0) (old mid new : D) (work : Work) (put : List ℕ) (outcome : Outcome) → LeavesOnly moment left_since old mid (JoinKeeps work outcome put) → LeavesOnly moment left_since mid new (JoinKeeps work outcome put) → LeavesOnly moment left_since old new (JoinKeeps work outcome put)
joining_on moment left_since old mid new work put outcome first second = runs_on moment left_since old mid new (JoinKeeps work outcome put) (JoinKeeps work outcome put) first second (λ told c h. h)

-- those that wait are these
pub joining_next : (may_leave : Image → Type 0) (now : Shown) (session : Session) (work : Work) (put : List ℕ) (theirs added waiting left : List Change) → waiting ≡ left → IsJoining may_leave now session work put theirs added waiting → IsJoining may_leave now session work put theirs added left
joining_next may_leave now session work put theirs added waiting left is j = let P : List Change → Type 0 = λ l. IsJoining may_leave now session work put theirs added l in subst P is j

-- one more is
pub joining_more : (answer : Option Refusal) (may_leave : Image → Type 0) (now : Shown) (session : Session) (work : Work) (put : List ℕ) (theirs added : List Change) (change : Change) (waiting : List Change) → ((refusal : Refusal) → answer ≡ Some refusal → ⊥) → AddsChange (Ok answer) may_leave now session work put theirs added change waiting
    → IsJoining may_leave now session work put theirs (added ++ change ∷ []) waiting
joining_more None may_leave now session work put theirs added change waiting unrefused h = h
joining_more (Some refusal) may_leave now session work put theirs added change waiting unrefused h = absurd (unrefused refusal refl)

-- so many are added, and the next is refused
pub done_refused : (may_leave : Image → Type 0) (now : Shown) (session : Session) (work : Work) (put : List ℕ) (theirs added : List Change) (change : Change) (waiting : List Change) (refusal : Refusal) (count : ℕ) (reply : MergeReply) → AddsChange (Ok (Some refusal)) may_leave now session work put theirs added change waiting → count ≡ length added → reply.text ≡ merged_line count ++ refusal_line_or (Some refusal) → reply.is_trouble ≡ is_some (Some refusal)
    → IsDone may_leave now session work put (outcomes.Joins theirs) reply
done_refused may_leave now session work put theirs added change waiting refusal count reply (is, j) counted text trouble =
    done_so may_leave now session work put theirs added (change ∷ waiting) j (Some refusal) reply is (text ∙ ap (λ n. merged_line n ++ refusal_line_or (Some refusal)) counted) trouble

-- all are
pub done_all : (may_leave : Image → Type 0) (now : Shown) (session : Session) (work : Work) (put : List ℕ) (theirs added waiting : List Change) (count : ℕ) (reply : MergeReply) → waiting ≡ [] → IsJoining may_leave now session work put theirs added waiting → count ≡ length added → reply.text ≡ merged_line count → reply.is_trouble ≡ false
    → IsDone may_leave now session work put (outcomes.Joins theirs) reply
done_all may_leave now session work put theirs added waiting count reply none j counted text trouble =
    let P : List Change → Type 0 = λ l. joined work.changes theirs ≡ behind added (joined (work.changes ++ added) l) in
    let all = all_joined work.changes theirs added (subst P none j.whole) in
    done_so may_leave now session work put theirs added waiting j None reply all (text ∙ ap merged_line counted ∙ sym (append-nil (merged_line (length added)))) trouble

-- nothing is to be added
pub done_at_rest : (may_leave : Image → Type 0) (now : Shown) (session : Session) (work : Work) (put : List ℕ) (outcome : Outcome) (reply : MergeReply) → list_after_merging work.changes outcome ≡ work.changes → IsAt may_leave now session work put → reply.text ≡ reply_text work.changes outcome → reply.is_trouble ≡ is_trouble work.changes outcome → IsDone may_leave now session work put outcome reply
done_at_rest may_leave now session work put outcome reply same at text trouble =
    let P : List Change → Type 0 = λ l. IsAmid may_leave now session (record work { changes = l }) (at_rest work put) in
    record { early = work.changes; early_so_far = starts_on work.changes outcome; at = subst P (sym same) at; text_is = text; trouble_is = trouble }

pub half_at_rest : (may_leave : Image → Type 0) (now : Shown) (session : Session) (work : Work) (put : List ℕ) (outcome : Outcome) → IsAt may_leave now session work put → IsHalfDone may_leave now session work put outcome
half_at_rest may_leave now session work put outcome at = record { early = work.changes; early_so_far = starts_on work.changes outcome; behind = work; so_far = starts_on work.changes outcome; at = at }

-- ---- it is told

module _ (was_left : Image → Type 0) (mid : Shown) (at_work : Session) (work : Work) (put : List ℕ) (outcome : Outcome) (reply : MergeReply) (d : IsDone was_left mid at_work work put outcome reply) (session : Session) (keeper : keeper_of session ≡ keeper_of at_work) (section : section_of session ≡ section_of at_work) (budget : budget_of session ≡ budget_of at_work) (versions : kept_versions_of session ≡ kept_versions_of at_work) where
  abbrev work_done : Work
  work_done = record work { changes = list_after_merging work.changes outcome }

  -- memory is wanting to hold the text
  pub done_half : held_of session ≡ held_of at_work → IsHalfDone was_left mid session work put outcome
  done_half held = record {
    early = d.early;
    early_so_far = d.early_so_far;
    behind = work_done;
    so_far = ends_on work.changes outcome;
    at = amid_alike was_left mid at_work session work_done (record { kept = d.early; put = put; held = [] }) keeper section budget versions held d.at;
  }

  -- it is held, and flushed
  module _ (held : held_of session ≡ reply_text work.changes outcome) where
    abbrev text_basis : Ground
    text_basis = record { kept = d.early; put = put; held = reply_text work.changes outcome }

    text_held : IsAmid was_left mid session work_done text_basis
    text_held = record {
      keeps = let P : KeeperState → Type 0 = λ k. Keeps mid.tells mid.files was_left k d.early (list_after_merging work.changes outcome) in subst P (sym keeper) d.at.keeps;
      section = section ∙ d.at.section;
      brief = d.at.brief;
      budget = budget ∙ d.at.budget;
      kept_versions = versions ∙ d.at.kept_versions;
      moment = d.at.moment;
      taken = d.at.taken;
      told = d.at.told;
      held = held;
    }

    text_put : (r : Result (Unit {0}) SessionEnd) (may_leave : Image → Type 0) (now : Shown) (last : Session) (was : Was) → troubled_of last ≡ (was.troubled || reply.is_trouble) → Flushed r may_leave now last work_done text_basis → Joins r may_leave now last was (was_of last) work put outcome
    text_put (Ok done) may_leave now last was noted at = (
      reply.is_trouble,
      noted,
      record {
        stands = amid_stands may_leave now last work_done (at_rest work_done (put ++ reply_text work.changes outcome)) at;
        taken = at.taken;
        trouble_is = d.trouble_is;
      },
    )
    text_put (Err (ends.Disk failed)) may_leave now last was noted h = lost_flush work put outcome d.early d.early_so_far work_done (ends_on work.changes outcome) may_leave now h
    text_put (Err (ends.Write failed)) may_leave now last was noted (n, short, at) = record {
      told = n;
      short = short;
      stands = amid_stands may_leave now last work_done (at_rest work_done (put ++ take n (reply_text work.changes outcome))) at;
      taken = at.taken;
    }
    text_put (Err ends.Memory) may_leave now last was noted h = absurd h
    text_put (Err (ends.Read failed)) may_leave now last was noted h = absurd h
    text_put (Err (ends.Damaged damage)) may_leave now last was noted h = absurd h
    text_put (Err ends.TooLong) may_leave now last was noted h = absurd h

    pub text_flushed : (r : Result (Unit {0}) SessionEnd) (may_leave : Image → Type 0) (now : Shown) (last : Session) (was : Was) → troubled_of last ≡ (was.troubled || reply.is_trouble) → ((w : Work) (basis : Ground) → IsAmid was_left mid session w basis → Flushed r may_leave now last w basis) → Joins r may_leave now last was (was_of last) work put outcome
    text_flushed r may_leave now last was noted flushes = text_put r may_leave now last was noted (flushes work_done text_basis text_held)

    text_keeps : (told : ℕ) (c : Image) → FlushLeaves work_done text_basis told c → JoinKeeps work outcome put told c
    text_keeps told c (inl h) = inl (d.early, d.early_so_far, h)
    text_keeps told c (inr h) = inr h

    pub text_lasts : {D : Type 0} (moment : D → ℕ) (left_since : D → ℕ → ℕ → Image → Type 0) (old here new : D) → LeavesOnly moment left_since old here (JoinKeeps work outcome put) → ((w : Work) (basis : Ground) → IsAmid was_left mid session w basis → LeavesOnly moment left_since here new (FlushLeaves w basis)) → LeavesOnly moment left_since old new (JoinKeeps work outcome put)
    text_lasts moment left_since old here new first second = runs_on moment left_since old here new (JoinKeeps work outcome put) (FlushLeaves work_done text_basis) first (second work_done text_basis text_held) text_keeps

-- what it is told is held alone
pub text_only : (held before bytes text told : List ℕ) → held ≡ before ++ bytes → before ≡ [] → bytes ≡ text → text ≡ told → held ≡ told
text_only held before bytes text told is none same said = is ∙ (λ i. none i ++ (same ∙ said) i)

-- ---- memory was wanting

-- what is pending is committed
module _ (was_left : Image → Type 0) (mid : Shown) (before : Session) (work : Work) (put : List ℕ) (outcome : Outcome) (h : IsHalfDone was_left mid before work put outcome) where
  abbrev half_basis : Ground
  half_basis = record { kept = h.early; put = put; held = [] }

  ended_so : (end : SessionEnd) (may_leave : Image → Type 0) (now : Shown) (session : Session) (was is : Was) → EndsForMemory end may_leave now session h.behind half_basis → JoinEnds {T = Unit {0}} (Err end) may_leave now was is work put outcome
  ended_so ends.Memory may_leave now session was is at = (h.behind.changes, h.so_far, amid_stands may_leave now session h.behind (at_rest h.behind (put ++ [])) at, at.taken ∙ ap Some (append-nil put))
  ended_so (ends.Disk failed) may_leave now session was is lost = lost_flush work put outcome h.early h.early_so_far h.behind h.so_far may_leave now lost
  ended_so (ends.Write failed) may_leave now session was is (n, short, at) = absurd (omega (arith, short))
  ended_so (ends.Read failed) may_leave now session was is none = absurd none
  ended_so (ends.Damaged damage) may_leave now session was is none = absurd none
  ended_so ends.TooLong may_leave now session was is none = absurd none

  pub half_ended : (end : SessionEnd) (may_leave : Image → Type 0) (now : Shown) (session : Session) (was is : Was) → ((w : Work) (basis : Ground) → IsAmid was_left mid before w basis → EndsForMemory end may_leave now session w basis) → JoinEnds {T = Unit {0}} (Err end) may_leave now was is work put outcome
  half_ended end may_leave now session was is ended = ended_so end may_leave now session was is (ended h.behind half_basis h.at)

  pub half_lasts : {D : Type 0} (moment : D → ℕ) (left_since : D → ℕ → ℕ → Image → Type 0) (old here new : D) → LeavesOnly moment left_since old here (JoinKeeps work outcome put) → ((w : Work) (basis : Ground) → IsAmid was_left mid before w basis → LeavesOnly moment left_since here new (FlushLeaves w basis)) → LeavesOnly moment left_since old new (JoinKeeps work outcome put)
  half_lasts moment left_since old here new first second =
      runs_on moment left_since old here new (JoinKeeps work outcome put) (FlushLeaves h.behind half_basis) first (second h.behind half_basis h.at) (flush_keeps work put outcome h.early h.early_so_far h.behind h.so_far)

-- it wasn't
pub broke_anyway : (end : SessionEnd) (may_leave : Image → Type 0) (now : Shown) (session : Session) (was is : Was) (work : Work) (put : List ℕ) (outcome : Outcome) → end ≢ ends.Memory → JoinBreaks end may_leave now session work put outcome → JoinEnds {T = Unit {0}} (Err end) may_leave now was is work put outcome
broke_anyway ends.Memory may_leave now session was is work put outcome not h = absurd (not refl)
broke_anyway (ends.Disk failed) may_leave now session was is work put outcome not h = h
broke_anyway (ends.Write failed) may_leave now session was is work put outcome not h = h
broke_anyway (ends.Read failed) may_leave now session was is work put outcome not h = absurd h
broke_anyway (ends.Damaged damage) may_leave now session was is work put outcome not h = absurd h
broke_anyway ends.TooLong may_leave now session was is work put outcome not h = absurd h

-- ---- an input is merged

-- it comes to nothing
pub unmerged : (T : Type 0) (end : SessionEnd) (may_leave : Image → Type 0) (now : Shown) (session : Session) (was is : Was) (work : Work) (input put : List ℕ) → NoOutcome end may_leave now session work input put → Merges {T = T} (Err end) may_leave now was is work input put
unmerged T ends.Memory may_leave now session was is work input put (come, at) = record { list = work.changes; so_far = inl refl; stands = amid_stands may_leave now session work (at_rest work put) at; taken = at.taken }
unmerged T (ends.Read failed) may_leave now session was is work input put (cut, at) = (cut, record { stands = amid_stands may_leave now session work (at_rest work put) at; taken = at.taken })
unmerged T ends.TooLong may_leave now session was is work input put (long, at) = (long, record { stands = amid_stands may_leave now session work (at_rest work put) at; taken = at.taken })
unmerged T (ends.Disk failed) may_leave now session was is work input put h = record { list = h.list; so_far = inl h.is; reads = h.reads; taken = h.taken }
unmerged T (ends.Write failed) may_leave now session was is work input put (none, at) = absurd none
unmerged T (ends.Damaged damage) may_leave now session was is work input put (none, at) = absurd none

pub unmerged_lasts : {D : Type 0} (moment : D → ℕ) (left_since : D → ℕ → ℕ → Image → Type 0) (old new : D) (work : Work) (input put : List ℕ) → LeavesOnly moment left_since old new (HasKept work.changes (length put)) → LeavesOnly moment left_since old new (MergeKeeps work input put)
unmerged_lasts moment left_since old new work input put run = weaker moment left_since old new (HasKept work.changes (length put)) (MergeKeeps work input put) run (λ told c h. inl h)

-- what it comes to is done
module _ (was_left : Image → Type 0) (mid : Shown) (before : Session) (work : Work) (input put : List ℕ) (outcome : Outcome) (h : HasOutcome was_left mid before work input put outcome) where
  pub merged_so : (r : Result (Unit {0}) SessionEnd) (may_leave : Image → Type 0) (now : Shown) (was middle is : Was) → middle.troubled ≡ was.troubled → now.left ≡ mid.left → JoinEnds r may_leave now middle is work put outcome → Merges r may_leave now was is work input put
  merged_so (Ok done) may_leave now was middle is calm left (trouble, noted, told) = (
    trouble,
    noted ∙ ap (λ b. b || trouble) calm,
    record {
      outcome = outcome;
      comes = h.comes;
      either_way = h.either_way;
      within = h.within;
      left = left ∙ h.left;
      stands = told.stands;
      taken = told.taken;
      troubled = sym told.trouble_is;
    },
  )
  merged_so (Err ends.Memory) may_leave now was middle is calm left (list, way, stands, taken) = record { list = list; so_far = inr (outcome, h.comes, way); stands = stands; taken = taken }
  merged_so (Err (ends.Disk failed)) may_leave now was middle is calm left lost = record { list = lost.list; so_far = inr (outcome, h.comes, lost.so_far); reads = lost.reads; taken = lost.taken }
  merged_so (Err (ends.Write failed)) may_leave now was middle is calm left half = record { outcome = outcome; comes = h.comes; told = half.told; short = half.short; stands = half.stands; taken = half.taken }
  merged_so (Err (ends.Read failed)) may_leave now was middle is calm left none = absurd none
  merged_so (Err (ends.Damaged damage)) may_leave now was middle is calm left none = absurd none
  merged_so (Err ends.TooLong) may_leave now was middle is calm left none = absurd none

  pub merged_lasts : {D : Type 0} (moment : D → ℕ) (left_since : D → ℕ → ℕ → Image → Type 0) (old here new : D) → LeavesOnly moment left_since old here (HasKept work.changes (length put)) → LeavesOnly moment left_since here new (JoinKeeps work outcome put) → LeavesOnly moment left_since old new (MergeKeeps work input put)
  merged_lasts moment left_since old here new first second =
      runs_on moment left_since old here new (MergeKeeps work input put) (JoinKeeps work outcome put) (unmerged_lasts moment left_since old here work input put first) second (λ told c leaves. inr (outcome, h.comes, leaves))
