-- The work on an item, with a flush where memory is wanting, and a step: an item at rest, and a flush behind it.
use Rattle.std.proofs.Common.{◌≡◌, ◌⊎◌, inl, inr, ⊎_elim, ℕ, Bool, true, false, List, [], ◌++◌, length, refl, sym, ap, subst, ◌∙◌, Result, Ok, Err, Option, Some, None, arith}
use Rattle.std.specs.Prelude.{IfErr, ◌||◌}
use Rattle.std.specs.Io.KnownBytes.{Appends}
use Rattle.std.proofs.lemmas.List.{append-nil}
use Rattle.s80_change.specs.declared.change.Change.{Change}
use Rattle.s80_disk.specs.Image.{Image}
use Rattle.s80_disk.specs.Shown.{Shown}
use Rattle.s80_disk.specs.Moments.{LeavesOnly}
use Rattle.s80_disk.proofs.lemmas.Run.{joined, weaker}
use Rattle.s80_model.specs.declared.item.SessionItem.{SessionItem}
use Rattle.s80_model.specs.declared.reply.Reply.TheVariants.{Silent}
use Rattle.s80_machine.specs.Came.{RanValue}
use Rattle.s80_model.specs.Asked.{Ask, evaluates}
use Rattle.s80_model.specs.Replies.{Work, AsksIn, is_trouble, kept, reply_text, reply_to, work_after}
use Rattle.s80_session.specs.declared.end.SessionEnd.{SessionEnd}
use Rattle.s80_session.specs.declared.end.SessionEnd.TheVariants as ends
use Rattle.s80_session.specs.declared.session.Session.{Session}
use Rattle.s80_session.specs.Ending.{IsFlushEnd, MeetsNoDamage}
use Rattle.s80_session.specs.LastRun.{RunBehind}
use Rattle.s80_session.specs.Run.{HasKept}
use Rattle.s80_session.specs.Session.{Was, held_of, last_run_of, troubled_of, HasHeld, TakesHeld, TroubleAfter}
use Rattle.s80_session.specs.Working.{Ground, IsAmid, IsAt, IsLost, IsPast, EndsForMemory, Flushed, ItemWorked, Stepped, Unreplied, Worked, at_rest, flushed, holding, FlushLeaves, StepLeaves, WorkLeaves}
use Rattle.s80_session.proofs.Stepping.{lost_among}
use Rattle.s80_session.proofs.lemmas.Grounds.{flush_again, more_told, longer}

-- ---- the end of an item that wasn't worked

-- what ended otherwise than for memory
pub worked_err : (end : SessionEnd) (may_leave : Image → Type 0) (now : Shown) (session : Session) (was : Was) (work : Work) (basis : Ground) (item : SessionItem) → (end ≡ ends.Memory → ⊥) → Unreplied end may_leave now session work basis item → Worked {T = Unit {0}} (Err end) may_leave now session was work basis item
worked_err ends.Memory may_leave now session was work basis item other h = absurd (other refl)
worked_err (ends.Disk failed) may_leave now session was work basis item other h = h
worked_err (ends.Write failed) may_leave now session was work basis item other h = (h.0, h.1, inl h.2)
worked_err (ends.Read failed) may_leave now session was work basis item other h = h
worked_err ends.TooLong may_leave now session was work basis item other h = h
worked_err (ends.Damaged damage) may_leave now session was work basis item other h = h

-- for memory: all is as it was, and flushed
memory_here : (end : SessionEnd) (may_leave : Image → Type 0) (now : Shown) (session : Session) (was : Was) (work : Work) (basis : Ground) (item : SessionItem) → EndsForMemory end may_leave now session work basis → Worked {T = Unit {0}} (Err end) may_leave now session was work basis item
memory_here ends.Memory may_leave now session was work basis item h = inl h
memory_here (ends.Disk failed) may_leave now session was work basis item h = inl (lost_among may_leave now basis.put (λ list. (list ≡ basis.kept) ⊎ (list ≡ work.changes)) (λ list. (list ≡ basis.kept) ⊎ IsPast work item list) (λ list. ⊎_elim (λ same. inl same) (λ same. inr (inl same))) h)
memory_here (ends.Write failed) may_leave now session was work basis item h = (h.0, h.1, inl h.2)
memory_here (ends.Read failed) may_leave now session was work basis item h = h
memory_here ends.TooLong may_leave now session was work basis item h = h
memory_here (ends.Damaged damage) may_leave now session was work basis item h = h

-- or it was flushed before
memory_behind : (end : SessionEnd) (may_leave : Image → Type 0) (now : Shown) (session : Session) (was : Was) (work : Work) (basis : Ground) (item : SessionItem) → EndsForMemory end may_leave now session work (flushed work basis) → Worked {T = Unit {0}} (Err end) may_leave now session was work basis item
memory_behind ends.Memory may_leave now session was work basis item h = inl (let P : List ℕ → Type 0 = λ l. IsAt may_leave now session work l in subst P (append-nil (basis.put ++ basis.held)) h)
memory_behind (ends.Disk failed) may_leave now session was work basis item h = inr (lost_among may_leave now (basis.put ++ basis.held) (λ list. (list ≡ work.changes) ⊎ (list ≡ work.changes)) (IsPast work item) (λ list. ⊎_elim (λ same. inl same) (λ same. inl same)) h)
memory_behind (ends.Write failed) may_leave now session was work basis item h = absurd (omega (arith, h.1))
memory_behind (ends.Read failed) may_leave now session was work basis item h = h
memory_behind ends.TooLong may_leave now session was work basis item h = h
memory_behind (ends.Damaged damage) may_leave now session was work basis item h = h

-- or a doIt was kept that wasn't evaluated
memory_unevaluated : (end : SessionEnd) (may_leave : Image → Type 0) (now : Shown) (session : Session) (was : Was) (work : Work) (basis : Ground) (item : SessionItem) (text told : List ℕ) (stopped : Bool) → AsksIn work item (evaluates text told stopped) → EndsForMemory end may_leave now session (kept work (evaluates text told stopped)) basis → Worked {T = Unit {0}} (Err end) may_leave now session was work basis item
memory_unevaluated ends.Memory may_leave now session was work basis item text told stopped asks h = inr (text, told, stopped, asks, h)
memory_unevaluated (ends.Disk failed) may_leave now session was work basis item text told stopped asks h =
    let w = kept work (evaluates text told stopped) in
    inl (lost_among may_leave now basis.put (λ list. (list ≡ basis.kept) ⊎ (list ≡ w.changes)) (λ list. (list ≡ basis.kept) ⊎ IsPast work item list) (λ list. ⊎_elim (λ same. inl same) (λ same. inr (inr (evaluates text told stopped, asks, same)))) h)
memory_unevaluated (ends.Write failed) may_leave now session was work basis item text told stopped asks h = (h.0, h.1, inr (text, told, stopped, asks, h.2))
memory_unevaluated (ends.Read failed) may_leave now session was work basis item text told stopped asks h = h
memory_unevaluated ends.TooLong may_leave now session was work basis item text told stopped asks h = h
memory_unevaluated (ends.Damaged damage) may_leave now session was work basis item text told stopped asks h = h

pub worked_memory : (end : SessionEnd) (was_left may_leave : Image → Type 0) (mid now : Shown) (before session : Session) (was : Was) (work : Work) (basis : Ground) (item : SessionItem) → ((w : Work) (g : Ground) → IsAmid was_left mid before w g → EndsForMemory end may_leave now session w g) → Unreplied ends.Memory was_left mid before work basis item → Worked {T = Unit {0}} (Err end) may_leave now session was work basis item
worked_memory end was_left may_leave mid now before session was work basis item flush (inl (inl here)) = memory_here end may_leave now session was work basis item (flush work basis here)
worked_memory end was_left may_leave mid now before session was work basis item flush (inl (inr behind)) = memory_behind end may_leave now session was work basis item (flush work (flushed work basis) behind)
worked_memory end was_left may_leave mid now before session was work basis item flush (inr (text, told, stopped, asks, at)) = memory_unevaluated end may_leave now session was work basis item text told stopped asks (flush (kept work (evaluates text told stopped)) basis at)

-- what a crash leaves while that is flushed
unevaluated_flush : (work : Work) (basis : Ground) (item : SessionItem) (text told_text : List ℕ) (stopped : Bool) (told : ℕ) (c : Image) → AsksIn work item (evaluates text told_text stopped) → FlushLeaves (kept work (evaluates text told_text stopped)) basis told c → WorkLeaves work basis item told c
unevaluated_flush work basis item text told_text stopped told c asks (inl h) = inl (inl h)
unevaluated_flush work basis item text told_text stopped told c asks (inr h) = inr (evaluates text told_text stopped, asks, h)

module _ {D : Type 0} (moment : D → ℕ) (left_since : D → ℕ → ℕ → Image → Type 0) where
  pub memory_lasts : (old mid new : D) (was_left : Image → Type 0) (o : Shown) (before : Session) (work : Work) (basis : Ground) (item : SessionItem) → LeavesOnly moment left_since old mid (WorkLeaves work basis item) → ((w : Work) (g : Ground) → IsAmid was_left o before w g → LeavesOnly moment left_since mid new (FlushLeaves w g)) → Unreplied ends.Memory was_left o before work basis item → LeavesOnly moment left_since old new (WorkLeaves work basis item)
  memory_lasts old mid new was_left o before work basis item first flush (inl (inl here)) = joined moment left_since old mid new (WorkLeaves work basis item) (FlushLeaves work basis) first (flush work basis here) (λ told c h. inl h)
  memory_lasts old mid new was_left o before work basis item first flush (inl (inr behind)) = joined moment left_since old mid new (WorkLeaves work basis item) (FlushLeaves work (flushed work basis)) first (flush work (flushed work basis) behind) (λ told c h. inl (flush_again work basis told c h))
  memory_lasts old mid new was_left o before work basis item first flush (inr (text, told_text, stopped, asks, at)) = joined moment left_since old mid new (WorkLeaves work basis item) (FlushLeaves (kept work (evaluates text told_text stopped)) basis) first (flush (kept work (evaluates text told_text stopped)) basis at) (λ told c h. unevaluated_flush work basis item text told_text stopped told c asks h)

-- an item that was worked and whose reply is held
pub worked_ok : (may_leave : Image → Type 0) (now : Shown) (session : Session) (was : Was) (work : Work) (basis : Ground) (item : SessionItem) → ItemWorked {T = Unit {0}} (Ok tt) may_leave now session was work basis item → Worked {T = Unit {0}} (Ok tt) may_leave now session was work basis item
worked_ok may_leave now session was work basis item h = h

-- ---- a step

-- at rest nothing else is put
at_end : (may_leave : Image → Type 0) (now : Shown) (session : Session) (work : Work) (put : List ℕ) → IsAt may_leave now session work (put ++ []) → IsAt may_leave now session work put
at_end may_leave now session work put h = let P : List ℕ → Type 0 = λ l. IsAt may_leave now session work l in subst P (append-nil put) h

-- the work broke off
pub stepped_err : (end : SessionEnd) (may_leave : Image → Type 0) (now : Shown) (session : Session) (was : Was) (work : Work) (put : List ℕ) (item : SessionItem) → Worked {T = Unit {0}} (Err end) may_leave now session was work (at_rest work put) item → Stepped {T = Unit {0}} (Err end) may_leave now session was work put item
stepped_err ends.Memory may_leave now session was work put item h =
    ⊎_elim (λ here. inl (at_end may_leave now session work put here)) (λ u. inr (u.0, u.1, u.2, u.3, at_end may_leave now session (kept work (evaluates u.0 u.1 u.2)) put u.4)) h
stepped_err (ends.Disk failed) may_leave now session was work put item h =
    let P : List ℕ → Type 0 = λ l. IsLost may_leave now l (IsPast work item) in
    ⊎_elim (lost_among may_leave now put (λ list. (list ≡ work.changes) ⊎ IsPast work item list) (IsPast work item) (λ list. ⊎_elim (λ same. inl same) (λ past. past))) (λ behind. subst P (append-nil put) behind) h
stepped_err (ends.Write failed) may_leave now session was work put item h = absurd (omega (arith, h.1))
stepped_err (ends.Read failed) may_leave now session was work put item h = h
stepped_err ends.TooLong may_leave now session was work put item h = h
stepped_err (ends.Damaged damage) may_leave now session was work put item h = h

-- the reply alone is flushed, with what it answers pending or kept
stepped_held : (r : Result (Unit {0}) SessionEnd) (may_leave : Image → Type 0) (now : Shown) (session : Session) (was : Was) (work : Work) (put : List ℕ) (item : SessionItem) (ask : Ask) (front : List Change) → AsksIn work item ask → troubled_of session ≡ (was.troubled || is_trouble (reply_to work ask)) → RunBehind work ask was.last_run (last_run_of session) → (front ≡ work.changes) ⊎ (front ≡ (work_after work ask).changes)
    → Flushed r may_leave now session (work_after work ask) (record { kept = front; put = put; held = reply_text (reply_to work ask) }) → Stepped r may_leave now session was work put item
stepped_held (Ok done) may_leave now session was work put item ask front asks troubled run is h = (ask, asks, troubled, run, h)
stepped_held (Err (ends.Disk failed)) may_leave now session was work put item ask front asks troubled run is h =
    lost_among may_leave now put (λ list. (list ≡ front) ⊎ (list ≡ (work_after work ask).changes)) (IsPast work item) (λ list. ⊎_elim (λ same. ⊎_elim (λ e. inl (same ∙ e)) (λ e. inr (ask, asks, same ∙ e)) is) (λ same. inr (ask, asks, same))) h
stepped_held (Err (ends.Write failed)) may_leave now session was work put item ask front asks troubled run is h = (ask, asks, h.0, h.2)
stepped_held (Err ends.Memory) may_leave now session was work put item ask front asks troubled run is h = absurd h
stepped_held (Err (ends.Read failed)) may_leave now session was work put item ask front asks troubled run is h = absurd h
stepped_held (Err ends.TooLong) may_leave now session was work put item ask front asks troubled run is h = absurd h
stepped_held (Err (ends.Damaged damage)) may_leave now session was work put item ask front asks troubled run is h = absurd h

pub stepped_ok : (r : Result (Unit {0}) SessionEnd) (was_left may_leave : Image → Type 0) (mid now : Shown) (before session : Session) (was : Was) (work : Work) (put : List ℕ) (item : SessionItem) → troubled_of session ≡ troubled_of before → last_run_of session ≡ last_run_of before → ((w : Work) (g : Ground) → IsAmid was_left mid before w g → Flushed r may_leave now session w g)
    → Worked {T = Unit {0}} (Ok tt) was_left mid before was work (at_rest work put) item → Stepped r may_leave now session was work put item
stepped_ok r was_left may_leave mid now before session was work put item calm same flush (ask, asks, troubled, run, inl here) =
    let P : Option RanValue → Type 0 = λ o. RunBehind work ask was.last_run o in
    stepped_held r may_leave now session was work put item ask work.changes asks (calm ∙ troubled) (subst P (sym same) run) (inl refl) (flush (work_after work ask) (holding (at_rest work put) (reply_text (reply_to work ask))) here)
stepped_ok r was_left may_leave mid now before session was work put item calm same flush (ask, asks, troubled, run, inr behind) =
    let P : Option RanValue → Type 0 = λ o. RunBehind work ask was.last_run o in
    let line : List ℕ = reply_text (reply_to work ask) in
    let Q : List ℕ → Type 0 = λ l. Flushed r may_leave now session (work_after work ask) (record { kept = (work_after work ask).changes; put = l; held = line }) in
    stepped_held r may_leave now session was work put item ask (work_after work ask).changes asks (calm ∙ troubled) (subst P (sym same) run) (inr refl) (subst Q (append-nil put) (flush (work_after work ask) (holding (flushed (work_after work ask) (at_rest work put)) line) behind))

-- what a crash leaves
work_steps : (work : Work) (put : List ℕ) (item : SessionItem) (told : ℕ) (c : Image) → WorkLeaves work (at_rest work put) item told c → StepLeaves work put item told c
work_steps work put item told c (inl (inl h)) = inl h
work_steps work put item told c (inl (inr h)) = inl (let P : List ℕ → Type 0 = λ l. HasKept work.changes (length l) told c in subst P (append-nil put) h)
work_steps work put item told c (inr (ask, asks, h)) =
    let P : List ℕ → Type 0 = λ l. HasKept (work_after work ask).changes (length l) told c in
    inr (ask, asks, more_told (work_after work ask).changes (length put) (length (put ++ reply_text (reply_to work ask))) told c (longer put (reply_text (reply_to work ask))) (subst P (append-nil put) h))

flush_steps : (work : Work) (put : List ℕ) (item : SessionItem) (ask : Ask) (told : ℕ) (c : Image) → AsksIn work item ask → FlushLeaves (work_after work ask) (holding (at_rest work put) (reply_text (reply_to work ask))) told c → StepLeaves work put item told c
flush_steps work put item ask told c asks (inl h) = inl h
flush_steps work put item ask told c asks (inr h) = inr (ask, asks, h)

put_steps : (work : Work) (put : List ℕ) (item : SessionItem) (ask : Ask) (told : ℕ) (c : Image) → AsksIn work item ask → FlushLeaves (work_after work ask) (record { kept = (work_after work ask).changes; put = put; held = reply_text (reply_to work ask) }) told c → StepLeaves work put item told c
put_steps work put item ask told c asks (inl h) = inr (ask, asks, more_told (work_after work ask).changes (length put) (length (put ++ reply_text (reply_to work ask))) told c (longer put (reply_text (reply_to work ask))) h)
put_steps work put item ask told c asks (inr h) = inr (ask, asks, h)

module _ {D : Type 0} (moment : D → ℕ) (left_since : D → ℕ → ℕ → Image → Type 0) where
  pub work_lasts : (old new : D) (work : Work) (put : List ℕ) (item : SessionItem) → LeavesOnly moment left_since old new (WorkLeaves work (at_rest work put) item) → LeavesOnly moment left_since old new (StepLeaves work put item)
  work_lasts old new work put item run = weaker moment left_since old new (WorkLeaves work (at_rest work put) item) (StepLeaves work put item) run (work_steps work put item)

  pub step_lasts : (old mid new : D) (was_left : Image → Type 0) (o : Shown) (before : Session) (was : Was) (work : Work) (put : List ℕ) (item : SessionItem) → LeavesOnly moment left_since old mid (WorkLeaves work (at_rest work put) item) → ((w : Work) (g : Ground) → IsAmid was_left o before w g → LeavesOnly moment left_since mid new (FlushLeaves w g)) → Worked {T = Unit {0}} (Ok tt) was_left o before was work (at_rest work put) item
      → LeavesOnly moment left_since old new (StepLeaves work put item)
  step_lasts old mid new was_left o before was work put item first flush (ask, asks, troubled, run, inl here) =
      let basis : Ground = holding (at_rest work put) (reply_text (reply_to work ask)) in
      joined moment left_since old mid new (StepLeaves work put item) (FlushLeaves (work_after work ask) basis) (work_lasts old mid work put item first) (flush (work_after work ask) basis here) (λ told c h. flush_steps work put item ask told c asks h)
  step_lasts old mid new was_left o before was work put item first flush (ask, asks, troubled, run, inr behind) =
      let line : List ℕ = reply_text (reply_to work ask) in
      let basis : List ℕ → Ground = λ l. record { kept = (work_after work ask).changes; put = l; held = line } in
      let Q : List ℕ → Type 0 = λ l. LeavesOnly moment left_since mid new (FlushLeaves (work_after work ask) (basis l)) in
      joined moment left_since old mid new (StepLeaves work put item) (FlushLeaves (work_after work ask) (basis put)) (work_lasts old mid work put item first) (subst Q (append-nil put) (flush (work_after work ask) (holding (flushed (work_after work ask) (at_rest work put)) line) behind)) (λ told c h. put_steps work put item ask told c asks h)

-- ---- trouble

-- a reply that was held at rest is put
pub put_trouble : (r : Result (Unit {0}) SessionEnd) (taken_before taken_mid taken_now : Option (List ℕ)) (before mid now : Session) → held_of before ≡ [] → taken_mid ≡ taken_before → troubled_of now ≡ troubled_of mid → TakesHeld r taken_mid taken_now (held_of mid) → HasHeld before mid → TroubleAfter r taken_before taken_now before now
put_trouble r taken_before taken_mid taken_now before mid now none same calm takes (reply, held, troubled) =
    let line : held_of mid ≡ reply_text reply = ⊎_elim (λ e. e ∙ ap (λ l. l ++ reply_text reply) none) (λ e. e) held in
    let P : List ℕ → Option (List ℕ) → Type 0 = λ l o. TakesHeld r o taken_now l in
    by_end r (subst (λ o. P (reply_text reply) o) same (subst (λ l. P l taken_mid) line takes))
  where
    by_end : (r : Result (Unit {0}) SessionEnd) → TakesHeld r taken_before taken_now (reply_text reply) → TroubleAfter r taken_before taken_now before now
    by_end (Ok done) takes = (reply, takes, calm ∙ troubled)
    by_end (Err (ends.Write failed)) takes = (reply, (takes.0, takes.2), calm ∙ troubled)
    by_end (Err (ends.Disk failed)) takes = (takes, (reply, calm ∙ troubled))
    by_end (Err ends.Memory) takes = absurd takes
    by_end (Err (ends.Read failed)) takes = absurd takes
    by_end (Err ends.TooLong) takes = absurd takes
    by_end (Err (ends.Damaged damage)) takes = absurd takes

append_same : (before now : Option (List ℕ)) → now ≡ before → Appends before now []
append_same None now same = tt
append_same (Some bytes) now same =
    let P : Option (List ℕ) → Type 0 = λ o. Appends (Some bytes) o [] in
    subst P (sym same) (sym (append-nil bytes))

or_false : (b : Bool) → b ≡ (b || false)
or_false true = refl
or_false false = refl

-- work that breaks off at rest
pub broken_trouble : (end : SessionEnd) (taken_before taken_now : Option (List ℕ)) (before now : Session) → taken_now ≡ taken_before → troubled_of now ≡ troubled_of before → TroubleAfter {T = Unit {0}} (Err end) taken_before taken_now before now
broken_trouble ends.Memory taken_before taken_now before now same calm = calm
broken_trouble (ends.Read failed) taken_before taken_now before now same calm = calm
broken_trouble (ends.Disk failed) taken_before taken_now before now same calm = (same, (Silent, calm ∙ or_false (troubled_of before)))
broken_trouble (ends.Write failed) taken_before taken_now before now same calm = (Silent, (0, append_same taken_before taken_now same), calm ∙ or_false (troubled_of before))
broken_trouble (ends.Damaged damage) taken_before taken_now before now same calm = calm
broken_trouble ends.TooLong taken_before taken_now before now same calm = calm

-- ---- damage

-- a flush meets none
pub flush_whole : (r : Result (Unit {0}) SessionEnd) → IfErr r IsFlushEnd → MeetsNoDamage r
flush_whole (Ok done) is = tt
flush_whole (Err (ends.Disk failed)) is = tt
flush_whole (Err (ends.Write failed)) is = tt
flush_whole (Err ends.Memory) is = tt
flush_whole (Err (ends.Read failed)) is = tt
flush_whole (Err (ends.Damaged damage)) is = absurd is
flush_whole (Err ends.TooLong) is = tt
