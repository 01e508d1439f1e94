-- The status of work that ended so.
use Rattle.std.proofs.Common.{◌≡◌, ◌≢◌, inl, inr, ℕ, List, ◌++◌, sym, ap, subst, ◌∙◌, Result, Ok, Err, Option, None, Some, Bool, true, false}
use Rattle.std.proofs.lemmas.List.{append-nil}
use Rattle.std.specs.Prelude.{◌||◌, IsTrue}
use Rattle.s80_chunk.specs.declared.item.Item.TheVariants as items
use Rattle.s80_disk.specs.Image.{Image}
use Rattle.s80_disk.specs.Shown.{Shown, Faults}
use Rattle.s80_session.specs.declared.end.SessionEnd.{SessionEnd}
use Rattle.s80_session.specs.declared.end.SessionEnd.TheVariants as ends
use Rattle.s80_machine.specs.Came.{RanValue}
use Rattle.s80_model.specs.declared.item.SessionItem.{SessionItem}
use Rattle.s80_model.specs.declared.item.SessionItem.TheVariants.{Chunk, Unended, Query}
use Rattle.s80_model.specs.Asked.{Ask, evaluates}
use Rattle.s80_session.specs.Ending.{HasReason, EndsForReason, EndsForReasonOrDamage, StartsForReason, Counts, CountsFor, MeetsNoDamage, SourceCounts, TextCounts}
use Rattle.s80_session.specs.Known.{StaysKnowing}
use Rattle.s80_model.specs.declared.item.Filed.TheVariants as filed
use Rattle.s80_model.specs.declared.item.Query.TheVariants as queries
use Rattle.s80_model.specs.Replies.{AsksIn, Work, is_trouble, reply_text, reply_to, work_after}
use Rattle.s80_session.specs.Session.{Was, keeper_of, troubled_of}
use Rattle.s80_session.specs.Making.{Made, Makes}
use Rattle.s80_session.specs.Merging.{Merged, Merges}
use Rattle.s80_session.specs.Run.{Ends, Finished}
use Rattle.s80_session.specs.Working.{IsAt, Stepped}
use Rattle.s80_session.specs.declared.session.Session.{Session}
use Rattle.s80_session.proofs.lemmas.Keeping.{keeps_stands}
use Rattle.s80_program.specs.declared.status.Status.TheVariants as status
use Rattle.s80_program.specs.Ending.{IsDiskEnd, StatusHasReason, status_after}
use Rattle.s80_program.specs.Leaves.{IsAnswered, ItemLeaves, MakeLeaves, MergeLeaves, RunLeaves, TellsDamage}

-- a run that came to its end
done_so : (may_leave : Image → Type 0) (now : Shown) (troubled : Bool) (ran : Option RanValue) (work : Work) (input before : List ℕ) → Finished may_leave now work input before troubled None ran → RunLeaves (status_after (Ok troubled)) may_leave now work input before
done_so may_leave now true ran work input before h = (ran, h)
done_so may_leave now false ran work input before h = (ran, h)

pub run_done : {T : Type 0} (done : T) (may_leave : Image → Type 0) (now : Shown) (was is_now : Was) (work : Work) (input before : List ℕ) → was.troubled ≡ false → was.last_run ≡ None → Ends (Ok done) may_leave now was is_now work input before → RunLeaves (status_after (Ok is_now.troubled)) may_leave now work input before
run_done done may_leave now was is_now work input before calm no_run h =
    let P : Bool → Type 0 = λ b. Finished may_leave now work input before b was.last_run is_now.last_run in
    let Q : Option RanValue → Type 0 = λ o. Finished may_leave now work input before is_now.troubled o is_now.last_run in
    let same : is_now.troubled ≡ h.0 = h.1 ∙ ap (λ b. b || h.0) calm in
    done_so may_leave now is_now.troubled is_now.last_run work input before (subst Q no_run (subst P (sym same) h.2))

-- a run that broke off
pub run_ended : (T : Type 0) (end : SessionEnd) (may_leave : Image → Type 0) (now : Shown) (was is_now : Was) (work : Work) (input before : List ℕ) → Ends {T = T} (Err end) may_leave now was is_now work input before → RunLeaves (status_after (Err end)) may_leave now work input before
run_ended T ends.Memory may_leave now was is_now work input before h = h
run_ended T (ends.Read failed) may_leave now was is_now work input before h = h
run_ended T (ends.Write failed) may_leave now was is_now work input before h = h
run_ended T (ends.Disk failed) may_leave now was is_now work input before h = h
run_ended T (ends.Damaged damage) may_leave now was is_now work input before h = absurd h
run_ended T ends.TooLong may_leave now was is_now work input before h = h

-- classes that were made
made_so : (may_leave : Image → Type 0) (now : Shown) (troubled : Bool) (ran : Option RanValue) (work : Work) (count : ℕ) (before : List ℕ) → Made may_leave now work count before troubled None ran → MakeLeaves (status_after (Ok troubled)) may_leave now work count before
made_so may_leave now true ran work count before h = (ran, h)
made_so may_leave now false ran work count before h = (ran, h)

pub make_done : {T : Type 0} (done : T) (may_leave : Image → Type 0) (now : Shown) (was is_now : Was) (work : Work) (count : ℕ) (before : List ℕ) → was.troubled ≡ false → was.last_run ≡ None → Makes (Ok done) may_leave now was is_now work count before → MakeLeaves (status_after (Ok is_now.troubled)) may_leave now work count before
make_done done may_leave now was is_now work count before calm no_run h =
    let P : Bool → Type 0 = λ b. Made may_leave now work count before b was.last_run is_now.last_run in
    let Q : Option RanValue → Type 0 = λ o. Made may_leave now work count before is_now.troubled o is_now.last_run in
    let same : is_now.troubled ≡ h.0 = h.1 ∙ ap (λ b. b || h.0) calm in
    made_so may_leave now is_now.troubled is_now.last_run work count before (subst Q no_run (subst P (sym same) h.2))

-- making that broke off
pub make_ended : (T : Type 0) (end : SessionEnd) (may_leave : Image → Type 0) (now : Shown) (was is_now : Was) (work : Work) (count : ℕ) (before : List ℕ) → Makes {T = T} (Err end) may_leave now was is_now work count before → MakeLeaves (status_after (Err end)) may_leave now work count before
make_ended T ends.Memory may_leave now was is_now work count before h = h
make_ended T (ends.Read failed) may_leave now was is_now work count before h = absurd h
make_ended T (ends.Write failed) may_leave now was is_now work count before h = h
make_ended T (ends.Disk failed) may_leave now was is_now work count before h = h
make_ended T (ends.Damaged damage) may_leave now was is_now work count before h = absurd h
make_ended T ends.TooLong may_leave now was is_now work count before h = absurd h

-- an input that was merged
merged_so : (may_leave : Image → Type 0) (now : Shown) (troubled : Bool) (work : Work) (input before : List ℕ) → Merged may_leave now work input before troubled → MergeLeaves (status_after (Ok troubled)) may_leave now work input before
merged_so may_leave now true work input before h = h
merged_so may_leave now false work input before h = h

pub merge_done : {T : Type 0} (done : T) (may_leave : Image → Type 0) (now : Shown) (was is_now : Was) (work : Work) (input before : List ℕ) → was.troubled ≡ false → Merges (Ok done) may_leave now was is_now work input before → MergeLeaves (status_after (Ok is_now.troubled)) may_leave now work input before
merge_done done may_leave now was is_now work input before calm h =
    let P : Bool → Type 0 = λ b. Merged may_leave now work input before b in
    let same : is_now.troubled ≡ h.0 = h.1 ∙ ap (λ b. b || h.0) calm in
    merged_so may_leave now is_now.troubled work input before (subst P (sym same) h.2)

-- merging that broke off
pub merge_ended : (T : Type 0) (end : SessionEnd) (may_leave : Image → Type 0) (now : Shown) (was is_now : Was) (work : Work) (input before : List ℕ) → Merges {T = T} (Err end) may_leave now was is_now work input before → MergeLeaves (status_after (Err end)) may_leave now work input before
merge_ended T ends.Memory may_leave now was is_now work input before h = h
merge_ended T (ends.Read failed) may_leave now was is_now work input before h = h
merge_ended T (ends.Write failed) may_leave now was is_now work input before h = h
merge_ended T (ends.Disk failed) may_leave now was is_now work input before h = h
merge_ended T (ends.Damaged damage) may_leave now was is_now work input before h = absurd h
merge_ended T ends.TooLong may_leave now was is_now work input before h = h

answered_ask : (may_leave : Image → Type 0) (now : Shown) (session : Session) (work : Work) (ask : Ask) (before : List ℕ) → IsAt may_leave now session (work_after work ask) (before ++ reply_text (reply_to work ask)) → IsAnswered may_leave now work ask before
answered_ask may_leave now session work ask before h = record {
  stands = keeps_stands now.tells now.files may_leave (keeper_of session) (work_after work ask).changes h.keeps;
  taken = h.taken ∙ ap (λ (l : List ℕ). Some (before ++ l)) (sym (append-nil (reply_text (reply_to work ask))));
}

-- what an item asked was worked and answered
ask_done : (may_leave : Image → Type 0) (now : Shown) (session : Session) (was troubled : Bool) (work : Work) (item : SessionItem) (ask : Ask) (before : List ℕ) → AsksIn work item ask → troubled ≡ (was || is_trouble (reply_to work ask)) → IsAt may_leave now session (work_after work ask) (before ++ reply_text (reply_to work ask)) → was ≡ false → ItemLeaves (status_after (Ok troubled)) may_leave now work item before
ask_done may_leave now session was true work item ask before asked is h calm = (ask, asked, answered_ask may_leave now session work ask before h, let P : Bool → Type 0 = λ b. true ≡ (b || is_trouble (reply_to work ask)) in sym (subst P calm is))
ask_done may_leave now session was false work item ask before asked is h calm = (ask, asked, answered_ask may_leave now session work ask before h, let P : Bool → Type 0 = λ b. false ≡ (b || is_trouble (reply_to work ask)) in sym (subst P calm is))

pub item_done : (may_leave : Image → Type 0) (now : Shown) (session : Session) (was : Was) (work : Work) (item : SessionItem) (before : List ℕ) → Stepped {T = Unit {0}} (Ok tt) may_leave now session was work before item → was.troubled ≡ false → ItemLeaves (status_after (Ok (troubled_of session))) may_leave now work item before
item_done may_leave now session was work item before h calm = ask_done may_leave now session was.troubled (troubled_of session) work item h.0 before h.1 h.2 h.4 calm

-- an item that broke off
pub item_ended : (T : Type 0) (end : SessionEnd) (may_leave : Image → Type 0) (now : Shown) (session : Session) (was : Was) (work : Work) (item : SessionItem) (before : List ℕ) → Stepped {T = T} (Err end) may_leave now session was work before item → ItemLeaves (status_after (Err end)) may_leave now work item before
item_ended T ends.Memory may_leave now session was work item before (inl h) = inl (record { stands = keeps_stands now.tells now.files may_leave (keeper_of session) work.changes h.keeps; taken = h.taken ∙ ap Some (sym (append-nil before)) })
item_ended T ends.Memory may_leave now session was work item before (inr (text, told, stopped, asked, h)) =
    inr (text, told, stopped, asked, keeps_stands now.tells now.files may_leave (keeper_of session) (work_after work (evaluates text told stopped)).changes h.keeps, h.taken)
item_ended T (ends.Disk failed) may_leave now session was work item before h = h
item_ended T (ends.Write failed) may_leave now session was work item before (ask, asked, count, h) = (ask, asked, count, keeps_stands now.tells now.files may_leave (keeper_of session) (work_after work ask).changes h.keeps, h.taken)
item_ended T (ends.Read failed) may_leave now session was work item before h = absurd h
item_ended T (ends.Damaged damage) may_leave now session was work item before h = absurd h
item_ended T ends.TooLong may_leave now session was work item before h = absurd h

-- ---- reasons

or_damage : (T U : Type 0) (end : SessionEnd) (before now : Faults) → EndsForReason {T = T} before now (Err end) → EndsForReasonOrDamage {T = U} before now (Err end)
or_damage T U ends.Memory before now h = h
or_damage T U (ends.Read failed) before now h = h
or_damage T U (ends.Write failed) before now h = h
or_damage T U (ends.Disk failed) before now h = h
or_damage T U (ends.Damaged damage) before now h = absurd h
or_damage T U ends.TooLong before now h = h

any_value : (T U : Type 0) (end : SessionEnd) (before now : Faults) → EndsForReasonOrDamage {T = T} before now (Err end) → EndsForReasonOrDamage {T = U} before now (Err end)
any_value T U ends.Memory before now h = h
any_value T U (ends.Read failed) before now h = h
any_value T U (ends.Write failed) before now h = h
any_value T U (ends.Disk failed) before now h = h
any_value T U (ends.Damaged damage) before now h = h
any_value T U ends.TooLong before now h = h

-- counts of what meets no damage are those of what may meet one
run_counts : (T : Type 0) (r : Result T SessionEnd) (before now : Faults) → Counts before now r → SourceCounts before now r
run_counts T (Ok done) before now h = record { later = h.later; reason = h.reason }
run_counts T (Err end) before now h = record { later = h.later; reason = or_damage T T end before now h.reason }

-- a plain text may meet one where it asks to condense
text_counts : (T : Type 0) (text : List ℕ) (r : Result T SessionEnd) (before now : Faults) → TextCounts text before now r → SourceCounts before now r
text_counts T text r before now (inl h) = run_counts T r before now h
text_counts T text r before now (inr h) = h.1

-- so are the counts of an item
pub item_counts : (T : Type 0) (item : SessionItem) (r : Result T SessionEnd) (before now : Faults) → CountsFor item before now r → SourceCounts before now r
item_counts T (Query (queries.Source spec selector)) r before now h = h
item_counts T (Query queries.Recover) r before now h = run_counts T r before now h
item_counts T (Query queries.Classes) r before now h = run_counts T r before now h
item_counts T (Query (queries.Browse name)) r before now h = run_counts T r before now h
item_counts T (Query (queries.Versions spec selector)) r before now h = h
item_counts T (Query queries.Changes) r before now h = h
item_counts T (Query (queries.FileOut filed.All)) r before now h = run_counts T r before now h
item_counts T (Query (queries.FileOut (filed.Class name))) r before now h = run_counts T r before now h
item_counts T (Query (queries.FileOut filed.Set)) r before now h = h
item_counts T (Query (queries.Senders selector)) r before now h = run_counts T r before now h
item_counts T (Query (queries.Implementors selector)) r before now h = run_counts T r before now h
item_counts T (Query (queries.References name)) r before now h = run_counts T r before now h
item_counts T (Query queries.Undeclared) r before now h = run_counts T r before now h
item_counts T (Query queries.Unimplemented) r before now h = run_counts T r before now h
item_counts T (Query queries.Unsent) r before now h = run_counts T r before now h
item_counts T (Query queries.Snapshot) r before now h = run_counts T r before now h
item_counts T (Query queries.Condense) r before now h = h
item_counts T (Chunk (items.Plain text)) r before now h = text_counts T text r before now h
item_counts T (Chunk (items.Head text)) r before now h = run_counts T r before now h
item_counts T (Chunk (items.Method text)) r before now h = run_counts T r before now h
item_counts T (Chunk items.SectionEnd) r before now h = run_counts T r before now h
item_counts T (Chunk (items.TooLong role length)) r before now h = run_counts T r before now h
item_counts T Unended r before now h = run_counts T r before now h

pub item_counts_ok : (T U : Type 0) (done : T) (value : U) (before now : Faults) → SourceCounts before now (Ok done) → SourceCounts before now (Ok value)
item_counts_ok T U done value before now h = record { later = h.later; reason = h.reason }

pub item_counts_err : (T U : Type 0) (end : SessionEnd) (before now : Faults) → SourceCounts {T = T} before now (Err end) → SourceCounts {T = U} before now (Err end)
item_counts_err T U end before now h = record { later = h.later; reason = any_value T U end before now h.reason }

pub no_damage_err : (T U : Type 0) (end : SessionEnd) → MeetsNoDamage {T = T} (Err end) → MeetsNoDamage {T = U} (Err end)
no_damage_err T U ends.Memory h = tt
no_damage_err T U (ends.Read failed) h = tt
no_damage_err T U (ends.Write failed) h = tt
no_damage_err T U (ends.Disk failed) h = tt
no_damage_err T U (ends.Damaged damage) h = h
no_damage_err T U ends.TooLong h = tt

-- what is known of a run that broke off: no damage was met, where the disk tells what it holds
pub still_known : (o : Shown) (session : Session) (end : SessionEnd) → IsTrue o.tells → StaysKnowing {T = Unit {0}} (Err end) o session → MeetsNoDamage {T = Bool} (Err end)
still_known o session ends.Memory tells h = tt
still_known o session (ends.Read failed) tells h = tt
still_known o session (ends.Write failed) tells h = tt
still_known o session (ends.Disk failed) tells h = tt
still_known o session (ends.Damaged damage) tells h = h tells
still_known o session ends.TooLong tells h = tt

pub reason_err : (end : SessionEnd) (before now : Faults) → HasReason before now end → StatusHasReason before now (status_after (Err end))
reason_err ends.Memory before now h = h
reason_err (ends.Read failed) before now h = h
reason_err (ends.Write failed) before now h = h
reason_err (ends.Disk failed) before now h = h
reason_err (ends.Damaged damage) before now h = absurd h
reason_err ends.TooLong before now h = h

pub undamaged : (r : Result Bool SessionEnd) → MeetsNoDamage r → status_after r ≡ status.Damaged → ⊥
undamaged (Ok false) h is = cc is
undamaged (Ok true) h is = cc is
undamaged (Err ends.Memory) h is = cc is
undamaged (Err (ends.Read failed)) h is = cc is
undamaged (Err (ends.Write failed)) h is = cc is
undamaged (Err (ends.Disk failed)) h is = cc is
undamaged (Err (ends.Damaged damage)) h is = h
undamaged (Err ends.TooLong) h is = cc is

pub never_usage : (r : Result Bool SessionEnd) → status_after r ≢ status.Usage
never_usage (Ok false) is = cc is
never_usage (Ok true) is = cc is
never_usage (Err ends.Memory) is = cc is
never_usage (Err (ends.Read failed)) is = cc is
never_usage (Err (ends.Write failed)) is = cc is
never_usage (Err (ends.Disk failed)) is = cc is
never_usage (Err (ends.Damaged damage)) is = cc is
never_usage (Err ends.TooLong) is = cc is

-- a fault of the disk alone
pub disk_undamaged : (end : SessionEnd) → IsDiskEnd end → status_after (Err end) ≡ status.Damaged → ⊥
disk_undamaged (ends.Disk failed) disk is = cc is
disk_undamaged ends.Memory disk is = disk
disk_undamaged (ends.Read failed) disk is = disk
disk_undamaged (ends.Write failed) disk is = disk
disk_undamaged (ends.Damaged damage) disk is = disk
disk_undamaged ends.TooLong disk is = disk

pub disk_tells : (end : SessionEnd) → IsDiskEnd end → TellsDamage (status_after (Err end))
disk_tells (ends.Disk failed) disk = tt
disk_tells ends.Memory disk = absurd disk
disk_tells (ends.Read failed) disk = absurd disk
disk_tells (ends.Write failed) disk = absurd disk
disk_tells (ends.Damaged damage) disk = absurd disk
disk_tells ends.TooLong disk = absurd disk

started_reason : (end : SessionEnd) (before now : Faults) → StartsForReason {T = Session} before now (Err end) → StatusHasReason before now (status_after (Err end))
started_reason ends.Memory before now h = h
started_reason (ends.Disk failed) before now h = h
started_reason (ends.Damaged damage) before now h = h
started_reason (ends.Read failed) before now h = absurd h
started_reason (ends.Write failed) before now h = absurd h
started_reason ends.TooLong before now h = absurd h

ended_reason : (r : Result Bool SessionEnd) (before now : Faults) → EndsForReasonOrDamage before now r → StatusHasReason before now (status_after r)
ended_reason (Ok false) before now h = h
ended_reason (Ok true) before now h = h
ended_reason (Err ends.Memory) before now h = h
ended_reason (Err (ends.Read failed)) before now h = h
ended_reason (Err (ends.Write failed)) before now h = h
ended_reason (Err (ends.Disk failed)) before now h = h
ended_reason (Err (ends.Damaged damage)) before now h = h
ended_reason (Err ends.TooLong) before now h = h

-- reasons since an earlier moment, after which no call had failed
pub starts_reason : (end : SessionEnd) (first before now : Faults) → before ≡ first → StartsForReason {T = Session} before now (Err end) → StatusHasReason first now (status_after (Err end))
starts_reason end first before now same h =
    let P : Faults → Type 0 = λ f. StatusHasReason f now (status_after (Err end)) in
    subst P same (started_reason end before now h)

pub later_reason : (r : Result Bool SessionEnd) (first before now : Faults) → before ≡ first → EndsForReasonOrDamage before now r → StatusHasReason first now (status_after r)
later_reason r first before now same h =
    let P : Faults → Type 0 = λ f. StatusHasReason f now (status_after r) in
    subst P same (ended_reason r before now h)
