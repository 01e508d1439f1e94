-- The beginning of a command: the folder is chosen, and a session starts.
use Rattle.std.proofs.Common.{◌≡◌, ◌⊎◌, inl, inr, ⊎_elim, ℕ, ◌≤◌, List, [], length, refl, sym, ap, subst, ◌∙◌, Err, Some, Bool, arith}
use Rattle.std.proofs.lemmas.List.{append-nil}
use Rattle.s80_chunk.specs.Chunks.Reads.{stop}
use Rattle.s80_change.specs.declared.change.Change.{Change}
use Rattle.s80_disk.specs.Image.{Image}
use Rattle.s80_disk.specs.Moments.{LeavesOnly}
use Rattle.s80_disk.proofs.lemmas.Run.{joined, started, weaker}
use Rattle.s80_disk.specs.Shown.{Shown}
use Rattle.s80_keeper.specs.declared.start.Damage.{Damage}
use Rattle.s80_mark.specs.declared.mark.MarkState.{MarkState}
use Rattle.s80_disk.specs.declared.disk.FileId.{FileId}
use Rattle.s80_keeper.specs.Imaged.{KeepsImage}
use Rattle.s80_keeper.specs.Standing.{FilesStandFor, LeavesEither, StandsFor, ReadsFor}
use Rattle.s80_keeper.specs.Start.{IsDamage, StartLeaves}
use Rattle.s80_keeper.proofs.lemmas.Damages.{damaged_has_log}
use Rattle.s80_keeper.proofs.OneList.{some_log}
use Rattle.s80_keeper.proofs.lemmas.Standing.{stands_leaves}
use Rattle.s80_session.specs.declared.end.SessionEnd.{SessionEnd}
use Rattle.s80_session.specs.declared.end.SessionEnd.TheVariants as ends
use Rattle.s80_session.specs.Putting.{IsAsBefore}
use Rattle.s80_model.specs.Replies.{Work, begun}
use Rattle.s80_model.specs.Settings.{Settings}
use Rattle.s80_session.specs.declared.session.Session.{Session}
use Rattle.s80_session.specs.Session.{keeper_of}
use Rattle.s80_session.specs.Making.{FirstMakeAsks}
use Rattle.s80_session.specs.Run.{HasKept}
use Rattle.s80_session.specs.Working.{IsAt, Starts, IsSessionStart}
use Rattle.s80_session.proofs.lemmas.Keeping.{keeps_stands}
use Rattle.s80_session.proofs.lemmas.Lasting.{keeps_at_start}
use Rattle.s80_program.specs.declared.status.Status.TheVariants as status
use Rattle.s80_program.specs.Command.{Job, Takes, Merges, Works, Makes}
use Rattle.s80_program.specs.Ending.{IsDiskEnd, status_after}
use Rattle.s80_program.specs.Leaves.{AreDamaged, StartsWith, LeavesFor, KeepsFor, TellsDamage}

-- a call that shows nothing new, and after which a crash leaves no more
module _ (old now : Shown) (same : now ≡ old) (was may_leave : Image → Type 0) (less : (c : Image) → may_leave c → was c) (changes : List Change) where
  image_on : {mark : MarkState} → KeepsImage old.files was mark changes → KeepsImage old.files may_leave mark changes
  image_on h = record { has = h.has; stays = λ named c left. h.stays named c (less c left) }

  pub stands_on : StandsFor old.tells old.files was changes → StandsFor now.tells now.files may_leave changes
  stands_on h = let P : Shown → Type 0 = λ o. StandsFor o.tells o.files may_leave changes in subst P (sym same) (record {
    told = h.told;
    stands = ⊎_elim (λ empty. inl (empty.0, record { log0 = λ c left. empty.1.log0 c (less c left); log1 = λ c left. empty.1.log1 c (less c left) }, empty.2)) (λ marked. inr (
      marked.0,
      record { told = marked.1.told; files = marked.1.files; mark_stays = λ c left. marked.1.mark_stays c (less c left); log_stays = λ c left. marked.1.log_stays c (less c left) },
      image_on marked.2,
      marked.3,
    )) h.stands;
  })

  pub reads_on : ReadsFor old.tells old.files was changes → ReadsFor now.tells now.files may_leave changes
  reads_on h = let P : Shown → Type 0 = λ o. ReadsFor o.tells o.files may_leave changes in subst P (sym same) (record {
    told = h.told;
    stands = ⊎_elim (λ empty. inl empty) (λ marked. inr (marked.0, marked.1, image_on marked.2, marked.3, λ c left. marked.4 c (less c left))) h.stands;
  })

  pub starts_on : (input before : List ℕ) → StartsWith was old changes input before → StartsWith may_leave now changes input before
  starts_on input before h = record {
    reads = reads_on h.reads;
    left = ap (λ (o : Shown). o.left) same ∙ h.left;
    taken = ap (λ (o : Shown). o.taken) same ∙ h.taken;
    told = ap (λ (o : Shown). o.told) same ∙ h.told;
  }

-- no item of those to be made is worked yet
none_made : (work : Work) (count : ℕ) → FirstMakeAsks work count []
none_made work count = (0, tt)

-- the disk fails before the first item
pub lost_at_start : (job : Job) (end : SessionEnd) (may_leave : Image → Type 0) (now : Shown) (work : Work) (input before : List ℕ) → IsDiskEnd end → ReadsFor now.tells now.files may_leave work.changes → now.left ≡ Some input → now.taken ≡ Some before → LeavesFor job (status_after (Err end)) may_leave now work input before
lost_at_start Takes (ends.Disk failed) may_leave now work input before is reads left taken = record {
  asks = [];
  more = [];
  first = ([], inl ([], input, stop refl refl, refl), tt);
  taken = taken ∙ ap Some (sym (append-nil before));
  reads = reads;
}
lost_at_start Merges (ends.Disk failed) may_leave now work input before is reads left taken = record { list = work.changes; so_far = inl refl; reads = reads; taken = taken }
lost_at_start (Works item) (ends.Disk failed) may_leave now work input before is reads left taken = (record { taken = taken; list = work.changes; is = inl refl; reads = reads }, left)
lost_at_start (Makes count) (ends.Disk failed) may_leave now work input before is reads left taken = (record { asks = []; first = none_made work count; reads = reads; taken = taken }, left)
lost_at_start job ends.Memory may_leave now work input before is reads left taken = absurd is
lost_at_start job (ends.Read failed) may_leave now work input before is reads left taken = absurd is
lost_at_start job (ends.Write failed) may_leave now work input before is reads left taken = absurd is
lost_at_start job (ends.Damaged damage) may_leave now work input before is reads left taken = absurd is
lost_at_start job ends.TooLong may_leave now work input before is reads left taken = absurd is

-- the session doesn't start
pub no_session : (job : Job) (end : SessionEnd) (may_leave : Image → Type 0) (now : Shown) (settings : Settings) (changes : List Change) (input before : List ℕ) → Starts (Err end) may_leave now settings changes before → now.left ≡ Some input → now.taken ≡ Some before → LeavesFor job (status_after (Err end)) may_leave now (begun settings changes) input before
no_session Takes ends.Memory may_leave now settings changes input before h left taken = inl (record {
  asks = [];
  first = ([], inl ([], input, stop refl refl, refl), tt);
  answered = record { stands = h; taken = taken ∙ ap Some (sym (append-nil before)) };
})
no_session Merges ends.Memory may_leave now settings changes input before h left taken = record { list = changes; so_far = inl refl; stands = h; taken = taken }
no_session (Works item) ends.Memory may_leave now settings changes input before h left taken = (inl (record { stands = h; taken = taken ∙ ap Some (sym (append-nil before)) }), left)
no_session (Makes count) ends.Memory may_leave now settings changes input before h left taken = (record { asks = []; first = none_made (begun settings changes) count; stands = h; taken = taken }, left)
no_session job (ends.Disk failed) may_leave now settings changes input before h left taken =
    let P : List Change → Type 0 = λ l. ReadsFor now.tells now.files may_leave l in
    lost_at_start job (ends.Disk failed) may_leave now (begun settings changes) input before tt (subst P h.is h.reads) left taken
no_session job (ends.Read failed) may_leave now settings changes input before h left taken = absurd h
no_session job (ends.Write failed) may_leave now settings changes input before h left taken = absurd h
no_session job (ends.Damaged damage) may_leave now settings changes input before h left taken = absurd h
no_session job ends.TooLong may_leave now settings changes input before h left taken = absurd h

-- memory is wanting before the first item
pub no_memory : (job : Job) (may_leave : Image → Type 0) (now : Shown) (session : Session) (settings : Settings) (changes : List Change) (input before : List ℕ) → IsAt may_leave now session (begun settings changes) before → now.left ≡ Some input → LeavesFor job (status_after (Err ends.Memory)) may_leave now (begun settings changes) input before
no_memory job may_leave now session settings changes input before at left =
    no_session job ends.Memory may_leave now settings changes input before (keeps_stands now.tells now.files may_leave (keeper_of session) changes at.keeps) left at.taken

-- what is kept before the first item
pub kept_at_start : (job : Job) (work : Work) (input before : List ℕ) (told : ℕ) (c : Image) → HasKept work.changes (length before) told c → KeepsFor job work input before told c
kept_at_start Takes work input before told c h = keeps_at_start work input before told c h
kept_at_start Merges work input before told c h = inl h
kept_at_start (Works item) work input before told c h = inl h
kept_at_start (Makes count) work input before told c h = inl ([], none_made work count, h)

-- no call was made
pub as_before : {D : Type 0} (moment : D → ℕ) (left_since : D → ℕ → ℕ → Image → Type 0) (may_leave : Image → Type 0) (told : ℕ) (now : D) → ((n : ℕ) (c : Image) → left_since now (moment now) n c → may_leave c × (n ≡ told)) → LeavesOnly moment left_since now now (IsAsBefore may_leave told 0)
as_before moment left_since may_leave told now only = started moment left_since now (IsAsBefore may_leave told 0) (λ n c left. let x = only n c left in record { no_fewer = omega (arith, x.1); no_more = omega (arith, x.1); was = x.0 })

module _ {D : Type 0} (moment : D → ℕ) (left_since : D → ℕ → ℕ → Image → Type 0) (job : Job) (work : Work) (input before : List ℕ) where
  abbrev P : ℕ → Image → Type 0
  P = KeepsFor job work input before

  -- the folder is chosen
  pub chosen : (tells : Bool) (reads : Image) (may_leave : Image → Type 0) (told : ℕ) (old new : D) → StandsFor tells reads may_leave work.changes → told ≡ length before → LeavesOnly moment left_since old new (IsAsBefore may_leave told 0) → LeavesOnly moment left_since old new P
  chosen tells reads may_leave told old new stands is run = weaker moment left_since old new (IsAsBefore may_leave told 0) P run (λ n c h. kept_at_start job work input before n c (record { no_more = omega (arith, h.no_more, is); files = stands_leaves tells reads may_leave work.changes stands c h.was }))

  -- a session starts
  pub session_begins : (told : ℕ) (old new : D) → told ≡ length before → LeavesOnly moment left_since old new (HasKept work.changes told) → LeavesOnly moment left_since old new P
  session_begins told old new is run = weaker moment left_since old new (HasKept work.changes told) P run (λ n c h. kept_at_start job work input before n c (record { no_more = omega (arith, h.no_more, is); files = h.files }))

  pub goes_on : (old mid new : D) → LeavesOnly moment left_since old mid P → LeavesOnly moment left_since mid new P → LeavesOnly moment left_since old new P
  goes_on old mid new first second = joined moment left_since old mid new P P first second (λ n c h. h)

-- behind a run that was killed: a crash leaves the list that is read, or one before it, until more is told
module _ {D : Type 0} (moment : D → ℕ) (left_since : D → ℕ → ℕ → Image → Type 0) (job : Job) (work : Work) (was : List Change) (input before : List ℕ) where
  abbrev Q : ℕ → Image → Type 0
  Q told c = HasKept was (length before) told c ⊎ KeepsFor job work input before told c

  either_kept : (told : ℕ) (c : Image) → told ≤ length before → FilesStandFor c work.changes ⊎ FilesStandFor c was → Q told c
  either_kept told c within = ⊎_elim (λ files. inr (kept_at_start job work input before told c (record { no_more = within; files = files }))) (λ files. inl (record { no_more = within; files = files }))

  -- the folder is chosen
  pub chosen_either : (may_leave : Image → Type 0) (told : ℕ) (old new : D) → ((c : Image) → may_leave c → FilesStandFor c work.changes ⊎ FilesStandFor c was) → told ≡ length before → LeavesOnly moment left_since old new (IsAsBefore may_leave told 0) → LeavesOnly moment left_since old new Q
  chosen_either may_leave told old new either is run = weaker moment left_since old new (IsAsBefore may_leave told 0) Q run (λ n c h. either_kept n c (omega (arith, h.no_more, is)) (either c h.was))

  -- a session starts
  pub begins_either : (told : ℕ) (old mid new : D) → told ≡ length before → LeavesOnly moment left_since old mid Q → LeavesOnly moment left_since mid new (LeavesEither told work.changes was) → LeavesOnly moment left_since old new Q
  begins_either told old mid new is first second = joined moment left_since old mid new Q (LeavesEither told work.changes was) first second (λ n c h. either_kept n c (omega (arith, h.told_is, is)) h.files)

  -- and the command is done
  pub goes_on_either : (old mid new : D) → LeavesOnly moment left_since old mid Q → LeavesOnly moment left_since mid new (KeepsFor job work input before) → LeavesOnly moment left_since old new Q
  goes_on_either old mid new first second = joined moment left_since old mid new Q (KeepsFor job work input before) first second (λ n c h. inr h)

-- a log holds something where files are damaged, so a crash leaves what it might have left before, while a session starts on them
pub damaged_lasts : {D : Type 0} (moment : D → ℕ) (left_since : D → ℕ → ℕ → Image → Type 0) (files : Image) (damage : Damage) (before mid_leaves : Image → Type 0) (told_before told_mid : ℕ) (old mid new : D) → IsDamage files damage → ((c : Image) → mid_leaves c → before c) → told_mid ≡ told_before
    → LeavesOnly moment left_since old mid (IsAsBefore before told_before 0) → LeavesOnly moment left_since mid new (StartLeaves files mid_leaves told_mid) → LeavesOnly moment left_since old new (IsAsBefore before told_before 0)
damaged_lasts moment left_since files damage before mid_leaves told_before told_mid old mid new damaged less same first second =
    joined moment left_since old mid new (IsAsBefore before told_before 0) (StartLeaves files mid_leaves told_mid) first second (λ told c h. record {
      no_fewer = omega (arith, h.told_is, same);
      no_more = omega (arith, h.told_is, same);
      was = ⊎_elim (λ was. less c was) (λ empty. absurd (some_log files empty.0 (damaged_has_log files damage damaged))) h.files;
    })

-- a session that doesn't start on damaged files
pub tells_damage : (files : Image) (end : SessionEnd) → IsSessionStart files (Err end) → TellsDamage (status_after (Err end))
tells_damage files ends.Memory h = tt
tells_damage files (ends.Disk failed) h = tt
tells_damage files (ends.Damaged damage) h = tt
tells_damage files (ends.Read failed) h = absurd h
tells_damage files (ends.Write failed) h = absurd h
tells_damage files ends.TooLong h = absurd h

pub damage_found : (files : Image) (end : SessionEnd) → status_after (Err end) ≡ status.Damaged → IsSessionStart files (Err end) → AreDamaged files
damage_found files (ends.Damaged damage) is h = inl (damage, h)
damage_found files ends.Memory is h = cc is
damage_found files (ends.Disk failed) is h = cc is
damage_found files (ends.Read failed) is h = absurd h
damage_found files (ends.Write failed) is h = absurd h
damage_found files ends.TooLong is h = absurd h

-- where each file reads as before, nothing that is shown changes
pub unchanged : (old mid now : Shown) → mid ≡ old → now ≡ record mid { files = now.files } → ((file : FileId) → now.files file ≡ mid.files file) → now ≡ old
unchanged old mid now chosen is same = is ∙ (λ i. record mid { files = λ file. same file i }) ∙ chosen
