-- What making classes leaves: where an item more was worked and counted, where it breaks off, and at any moment.
use Rattle.std.proofs.Common.{◌≡◌, ◌⊎◌, inl, inr, ⊎_elim, ℕ, ◌+◌, ◌*◌, ◌≤◌, List, [], ◌∷◌, ◌++◌, length, slice_get, take, refl, sym, ap, subst, ◌∙◌, Option, Some, Bool, Result, Ok, Err, append_assoc, arith}
use Rattle.std.specs.Prelude.{◌≢◌, ◌||◌, ℤ, None, false, true}
use Rattle.std.proofs.lemmas.List.{append-nil, take_more}
use Rattle.std.proofs.lemmas.Option.{get_or_from_slice_get, slice_get_within}
use Rattle.s80_apply.specs.List.{add, state_of}
use Rattle.s80_apply.specs.State.{State}
use Rattle.s80_apply.specs.System.{IsSystemOf, SystemState}
use Rattle.s80_change.specs.declared.change.Change.{Change}
use Rattle.s80_change.specs.declared.change.Change.TheVariants.{DoIt}
use Rattle.s80_change.specs.Source.{SourceParts}
use Rattle.s80_chunk.specs.declared.item.Item.{Item}
use Rattle.s80_chunk.specs.declared.item.Item.TheVariants as items
use Rattle.s80_chunk.specs.declared.item.Role.{Role}
use Rattle.s80_chunk.specs.declared.item.Role.TheVariants as roles
use Rattle.s80_chunk.specs.Chunks.{IsSound}
use Rattle.s80_disk.specs.Image.{Image}
use Rattle.s80_disk.specs.Moments.{LeavesOnly}
use Rattle.s80_disk.specs.Shown.{Shown}
use Rattle.s80_disk.proofs.lemmas.Run.{started, joined, weaker}
use Rattle.s80_doit.specs.Answer.{AnswersSmall}
use Rattle.s80_doit.specs.DoIt.{AreGiven, IsRunOf, is_stopped}
use Rattle.s80_form.specs.declared.refusal.Refusal.{Refusal}
use Rattle.s80_keeper.specs.Keeper.{KeeperState, Keeps}
use Rattle.s80_keeper.specs.Standing.{ReadsFor}
use Rattle.s80_machine.specs.Came.{RanValue}
use Rattle.s80_make.specs.declared.tally.Tally.{Tally}
use Rattle.s80_make.specs.Items.{items_each, make_items}
use Rattle.s80_make.specs.Tally.{Counts, CountsAdded, CountsAll, made_line, nothing, small_in, with_doit, with_reply}
use Rattle.s80_make.proofs.lemmas.Made.{all_items, condense_at}
use Rattle.s80_model.specs.declared.item.Filed.{Filed}
use Rattle.s80_model.specs.declared.item.Query.{Query as SessionQuery}
use Rattle.s80_model.specs.declared.item.Query.TheVariants.{Condense}
use Rattle.s80_model.specs.declared.item.SessionItem.{SessionItem}
use Rattle.s80_model.specs.declared.item.SessionItem.TheVariants.{Chunk, Query}
use Rattle.s80_model.specs.declared.reply.Answer.{Answer}
use Rattle.s80_model.specs.declared.reply.Reply.{Reply}
use Rattle.s80_model.specs.declared.section.Section.{Section}
use Rattle.s80_model.specs.declared.section.Section.TheVariants as sections
use Rattle.s80_model.specs.Asked.{Ask, refuses, adds, evaluates, condenses, opens, refuses_head, adds_source, refuses_source, closes, tells, files, seeks, ask_of_too_long, Asks}
use Rattle.s80_model.specs.Replies.{AllAsk, AsksIn, IsAnswer, Work, any_trouble, condensed, is_trouble, kept, list_after_all, method_in, refusal_of_head, reply_in_section, reply_to, reply_to_adding, reply_to_evaluating, reply_to_head, reply_to_source, work_after, work_after_all}
use Rattle.s80_model.specs.Section.{section_or}
use Rattle.s80_model.specs.Settings.{Settings}
use Rattle.s80_print.specs.Outcome.{outcome_text}
use Rattle.s80_session.specs.declared.end.SessionEnd.{SessionEnd}
use Rattle.s80_session.specs.declared.end.SessionEnd.TheVariants as ends
use Rattle.s80_session.specs.declared.session.Session.{Session}
use Rattle.s80_session.specs.Known.{IsKnowing}
use Rattle.s80_session.specs.LastRun.{RunBehind, RunBehindAll, RunBehindAdding}
use Rattle.s80_session.specs.Making.{FirstMakeAsks, IsMaking, IsStalled, MadeAsk, MakeAsks, MakeBreaks, MakeKeeps, MakeLost, Makes, MakesAll, MakesItem}
use Rattle.s80_session.specs.Run.{HasKept, ShownFor}
use Rattle.s80_session.specs.Session.{Was, budget_of, held_of, keeper_of, kept_versions_of, last_run_of, section_of, troubled_of, was_of, HasSameRest, IsFaultless, RunAfterWork, RunSince}
use Rattle.s80_session.specs.Working.{at_rest, Answers, EndsForMemory, Flushed, FlushLeaves, flushed, GoesOn, Ground, IsAmid, IsAt, IsLost, IsLostAt, IsPast, IsReadable, staying, Unreplied, WorkedAlone, WorkLeaves}
use Rattle.s80_session.proofs.Answering.{asks_more, readable, run_by_now, troubled_by_now}
use Rattle.s80_session.proofs.Brief.{brief_after}
use Rattle.s80_session.proofs.Grouping.{work_after_more}
use Rattle.s80_session.proofs.Holding.{amid_alike, held_run}
use Rattle.s80_session.proofs.Knowing.{knows_alike}
use Rattle.s80_session.proofs.Marking.{run_of_item}
use Rattle.s80_session.proofs.lemmas.Amid.{amid_leaves, amid_stands}

-- ---- replies are counted

-- the run of a doIt's code answers the SmallInteger that its tree does
abbrev pub AnswersAlike : Type 0
AnswersAlike = (system : SystemState) (state : State) (text : List ℕ) (budget : ℕ) (ran : RanValue) → AreGiven system → IsSystemOf system state → IsRunOf system text budget ran
    → AnswersSmall state text budget (outcome_text system.table ran.outcome) (is_stopped ran.outcome.end) (small_in (Some ran))

-- what is no query's
abbrev IsUntold : Ask → Type 0
IsUntold (tells query) = ⊥
IsUntold (files filed moment) = ⊥
IsUntold (seeks query lines) = ⊥
IsUntold (refuses refusal) = Unit {0}
IsUntold (adds change) = Unit {0}
IsUntold (evaluates text told stopped) = Unit {0}
IsUntold condenses = Unit {0}
IsUntold (opens head) = Unit {0}
IsUntold (refuses_head refusal) = Unit {0}
IsUntold (adds_source source) = Unit {0}
IsUntold (refuses_source refusal) = Unit {0}
IsUntold closes = Unit {0}

long_untold : (role : Role) (n : ℕ) → IsUntold (ask_of_too_long role n)
long_untold roles.Plain n = tt
long_untold roles.Head n = tt
long_untold roles.Method n = tt

tells_not : (item : Item) (query : SessionQuery) → Asks (Chunk item) (tells query) → ⊥
tells_not (items.Plain text) query h = h
tells_not (items.Head text) query h = h
tells_not (items.Method text) query h = h
tells_not items.SectionEnd query h = subst IsUntold (sym h) tt
tells_not (items.TooLong role n) query h = subst IsUntold (sym h) (long_untold role n)

files_not : (item : Item) (filed : Filed) (moment : List ℕ) → Asks (Chunk item) (files filed moment) → ⊥
files_not (items.Plain text) filed moment h = h
files_not (items.Head text) filed moment h = h
files_not (items.Method text) filed moment h = h
files_not items.SectionEnd filed moment h = subst IsUntold (sym h) tt
files_not (items.TooLong role n) filed moment h = subst IsUntold (sym h) (long_untold role n)

seeks_not : (item : Item) (query : SessionQuery) (lines : List ℕ) → Asks (Chunk item) (seeks query lines) → ⊥
seeks_not (items.Plain text) query lines h = h
seeks_not (items.Head text) query lines h = h
seeks_not (items.Method text) query lines h = h
seeks_not items.SectionEnd query lines h = subst IsUntold (sym h) tt
seeks_not (items.TooLong role n) query lines h = subst IsUntold (sym h) (long_untold role n)

chunk_untold : (item : Item) (ask : Ask) → Asks (Chunk item) ask → IsUntold ask
chunk_untold item (tells query) h = tells_not item query h
chunk_untold item (files filed moment) h = files_not item filed moment h
chunk_untold item (seeks query lines) h = seeks_not item query lines h
chunk_untold item (refuses refusal) h = tt
chunk_untold item (adds change) h = tt
chunk_untold item (evaluates text told stopped) h = tt
chunk_untold item condenses h = tt
chunk_untold item (opens head) h = tt
chunk_untold item (refuses_head refusal) h = tt
chunk_untold item (adds_source source) h = tt
chunk_untold item (refuses_source refusal) h = tt
chunk_untold item closes h = tt

-- a reply to what isn't evaluated counts whatever was run
adding_counts : (r : Result (List Change) Refusal) (small : Option ℤ) (t : Tally) → with_reply (reply_to_adding r) small t ≡ with_reply (reply_to_adding r) None t
adding_counts (Ok changes) small t = refl
adding_counts (Err refusal) small t = refl

head_counts : (r : Option Refusal) (small : Option ℤ) (t : Tally) → with_reply (reply_to_head r) small t ≡ with_reply (reply_to_head r) None t
head_counts None small t = refl
head_counts (Some refusal) small t = refl

source_counts : (changes : List Change) (section : Section) (source : SourceParts) (small : Option ℤ) (t : Tally) → with_reply (reply_to_source changes section source) small t ≡ with_reply (reply_to_source changes section source) None t
source_counts changes sections.Top source small t = refl
source_counts changes (sections.Open head) source small t = adding_counts (add changes (method_in head source)) small t
source_counts changes sections.Refused source small t = refl

section_counts : (section : Section) (refusal : Refusal) (small : Option ℤ) (t : Tally) → with_reply (reply_in_section section refusal) small t ≡ with_reply (reply_in_section section refusal) None t
section_counts sections.Top refusal small t = refl
section_counts (sections.Open head) refusal small t = refl
section_counts sections.Refused refusal small t = refl

-- a doIt's counts by what its tree answers
doit_counts : AnswersAlike → (r : Result (List Change) Refusal) (text : List ℕ) (settings : Settings) (told : List ℕ) (stopped : Bool) (past run : Option RanValue) (before now : Tally) → RunBehindAdding r text settings told stopped past run → now ≡ with_reply (reply_to_evaluating r told stopped) (small_in run) before → CountsAdded r text settings told stopped before now
doit_counts alike (Ok changes) text settings told stopped past run before now (ran, here, is) counted =
    let small : Option ℤ = small_in (Some ran) in
    let answers = alike here.system (state_of changes) text settings.budget ran here.given here.is here.run in
    let P : List ℕ → Type 0 = λ t. AnswersSmall (state_of changes) text settings.budget t (is_stopped ran.outcome.end) small in
    let Q : Bool → Type 0 = λ b. AnswersSmall (state_of changes) text settings.budget told b small in
    (small, subst Q (sym here.stopped_is) (subst P (sym here.told_is) answers), counted ∙ ap (λ o. with_doit stopped (small_in o) before) is)
doit_counts alike (Err refusal) text settings told stopped past run before now same counted = counted

by_ask : AnswersAlike → (work : Work) (ask : Ask) (past run : Option RanValue) (before now : Tally) → IsUntold ask → RunBehind work ask past run → now ≡ with_reply (reply_to work ask) (small_in run) before → Counts work ask before now
by_ask alike work (refuses refusal) past run before now untold behind counted = counted
by_ask alike work (adds change) past run before now untold behind counted = counted ∙ adding_counts (add work.changes change) (small_in run) before
by_ask alike work (evaluates text told stopped) past run before now untold behind counted = doit_counts alike (add work.changes (DoIt text)) text work.settings told stopped past run before now behind counted
by_ask alike work condenses past run before now untold behind counted = counted ∙ adding_counts (condensed work.changes work.settings.kept_versions) (small_in run) before
by_ask alike work (opens head) past run before now untold behind counted = counted ∙ head_counts (refusal_of_head work.changes head) (small_in run) before
by_ask alike work (refuses_head refusal) past run before now untold behind counted = counted
by_ask alike work (adds_source source) past run before now untold behind counted = counted ∙ source_counts work.changes work.section source (small_in run) before
by_ask alike work (refuses_source refusal) past run before now untold behind counted = counted ∙ section_counts work.section refusal (small_in run) before
by_ask alike work closes past run before now untold behind counted = counted
by_ask alike work (tells query) past run before now untold behind counted = absurd untold
by_ask alike work (files filed moment) past run before now untold behind counted = absurd untold
by_ask alike work (seeks query lines) past run before now untold behind counted = absurd untold

-- what a chunk asks counts by its reply, and by the run that came last
chunk_counted : AnswersAlike → (work : Work) (item : Item) (ask : Ask) (reply : Reply) (past run : Option RanValue) (before now : Tally) → Asks (Chunk item) ask → reply ≡ reply_to work ask → RunBehind work ask past run → now ≡ with_reply reply (small_in run) before → Counts work ask before now
chunk_counted alike work item ask reply past run before now asks is behind counted =
    by_ask alike work ask past run before now (chunk_untold item ask asks) behind (counted ∙ ap (λ r. with_reply r (small_in run) before) is)

-- and so does condensing
condense_counted : (work : Work) (reply : Reply) (run : Option RanValue) (before now : Tally) → reply ≡ reply_to work condenses → now ≡ with_reply reply (small_in run) before → Counts work condenses before now
condense_counted work reply run before now is counted =
    counted ∙ ap (λ r. with_reply r (small_in run) before) is ∙ adding_counts (condensed work.changes work.settings.kept_versions) (small_in run) before

-- one ask more is counted
counts_more : (work : Work) (asks : List Ask) (ask : Ask) (before mid now : Tally) → CountsAll work asks before mid → Counts (work_after_all work asks) ask mid now → CountsAll work (asks ++ ask ∷ []) before now
counts_more work [] ask before mid now all one = (now, (let P : Tally → Type 0 = λ t. Counts work ask t now in subst P all one), refl)
counts_more work (first ∷ asks) ask before mid now all one = (all.0, all.1, counts_more (work_after work first) asks ask all.0 mid now all.2 one)

-- ---- what is asked

-- one item more
item_more : (work : Work) (count done : ℕ) (asks : List Ask) (item : SessionItem) (ask : Ask) → slice_get (make_items count) done ≡ Some item → MadeAsk work count done asks → AsksIn (work_after_all work asks) item ask → MadeAsk work count (done + 1) (asks ++ ask ∷ [])
item_more work count done asks item ask is asked one =
    let all : List SessionItem = make_items count in
    let more : take (done + 1) all ≡ take done all ++ item ∷ [] = take_more all done item (slice_get_within all done item is) ∙ ap (λ i. take done all ++ i ∷ []) (get_or_from_slice_get all done item item is) in
    let P : List SessionItem → Type 0 = λ l. AllAsk work l (asks ++ ask ∷ []) in
    subst P (sym more) (asks_more work (take done all) asks item ask asked one)

-- condensing, behind all of them
all_more : (work : Work) (count : ℕ) (asks : List Ask) (ask : Ask) → MadeAsk work count (items_each * count) asks → AsksIn (work_after_all work asks) (Query Condense) ask → MakeAsks work count (asks ++ ask ∷ [])
all_more work count asks ask asked one =
    let P : List SessionItem → Type 0 = λ l. AllAsk work l (asks ++ ask ∷ []) in
    subst P (all_items count) (item_more work count (items_each * count) asks (Query Condense) ask (condense_at count) asked one)

-- all of it is a front of it
all_first : (work : Work) (count : ℕ) (asks : List Ask) → MakeAsks work count asks → FirstMakeAsks work count asks
all_first work count asks asked =
    let P : List SessionItem → Type 0 = λ l. AllAsk work l asks in
    (items_each * count + 1, subst P (sym (all_items count)) asked)

-- the list behind one ask more
list_more : (work : Work) (asks : List Ask) (ask : Ask) → (work_after (work_after_all work asks) ask).changes ≡ list_after_all work (asks ++ ask ∷ [])
list_more work asks ask = ap (λ (w : Work). w.changes) (sym (work_after_more work asks ask))

-- ---- where it breaks off

-- the list behind these asks is kept, and nothing is held
abbrev pub ground : Work → List ℕ → List Ask → Ground
ground work put early = record { kept = list_after_all work early; put = put; held = [] }

-- behind a flush
at_put : (may_leave : Image → Type 0) (now : Shown) (session : Session) (behind : Work) (put : List ℕ) → IsAt may_leave now session behind (put ++ []) → IsAt may_leave now session behind put
at_put may_leave now session behind put at = let P : List ℕ → Type 0 = λ l. IsAt may_leave now session behind l in subst P (append-nil put) at

kept_put : (changes : List Change) (put : List ℕ) (told : ℕ) (c : Image) → HasKept changes (length (put ++ [])) told c → HasKept changes (length put) told c
kept_put changes put told c h = let P : List ℕ → Type 0 = λ l. HasKept changes (length l) told c in subst P (append-nil put) h

module _ (work : Work) (put : List ℕ) (count : ℕ) (early asks : List Ask) (early_first : FirstMakeAsks work count early) (first : FirstMakeAsks work count asks) where
  -- for want of memory
  pub stalls : (may_leave : Image → Type 0) (now : Shown) (session : Session) (behind : Work) → behind.changes ≡ list_after_all work asks → GoesOn may_leave now session behind (ground work put early) → IsStalled may_leave now session work put count
  stalls may_leave now session behind is (inl at) = record { asks = asks; first = first; early = early; kept_first = early_first; behind = behind; list_is = is; at = at }
  stalls may_leave now session behind is (inr at) =
      let P : List Change → Type 0 = λ l. IsAmid may_leave now session behind (record { kept = l; put = put; held = [] }) in
      record { asks = asks; first = first; early = asks; kept_first = first; behind = behind; list_is = is; at = subst P is (at_put may_leave now session behind put at) }

  -- by a fault of the disk, which reads for this list
  lost_so : (may_leave : Image → Type 0) (now : Shown) (list : List Change) (into : List Ask) → FirstMakeAsks work count into → now.taken ≡ Some put → list ≡ list_after_all work into → ReadsFor now.tells now.files may_leave list → MakeLost may_leave now work count put
  lost_so may_leave now list into begins taken is reads =
      let P : List Change → Type 0 = λ l. ReadsFor now.tells now.files may_leave l in
      record { asks = into; first = begins; reads = subst P is reads; taken = taken }

  -- in a flush
  pub lost_flush : (may_leave : Image → Type 0) (now : Shown) (behind : Work) → behind.changes ≡ list_after_all work asks → IsLost may_leave now put (λ list. (list ≡ list_after_all work early) ⊎ (list ≡ behind.changes)) → MakeLost may_leave now work count put
  lost_flush may_leave now behind is h = ⊎_elim (λ e. lost_so may_leave now h.list early early_first h.taken e h.reads) (λ e. lost_so may_leave now h.list asks first h.taken (e ∙ is) h.reads) h.is

  pub flush_breaks : (T : Type 0) (end : SessionEnd) (may_leave : Image → Type 0) (now : Shown) (session : Session) → Flushed {T = T} (Err end) may_leave now session (work_after_all work asks) (ground work put early) → MakeBreaks end may_leave now session work count put
  flush_breaks T (ends.Disk failed) may_leave now session h = lost_flush may_leave now (work_after_all work asks) refl h
  flush_breaks T (ends.Write failed) may_leave now session (n, short, at) = absurd (omega (arith, short))
  flush_breaks T ends.Memory may_leave now session h = absurd h
  flush_breaks T (ends.Read failed) may_leave now session h = absurd h
  flush_breaks T (ends.Damaged damage) may_leave now session h = absurd h
  flush_breaks T ends.TooLong may_leave now session h = absurd h

  -- what a crash leaves meanwhile
  pub flush_keeps : (behind : Work) → behind.changes ≡ list_after_all work asks → (told : ℕ) (c : Image) → FlushLeaves behind (ground work put early) told c → MakeKeeps work count put told c
  flush_keeps behind is told c (inl h) = inl (early, early_first, h)
  flush_keeps behind is told c (inr h) = let P : List Change → Type 0 = λ l. HasKept l (length put) told c in inl (asks, first, subst P is (kept_put behind.changes put told c h))

  -- in the work on an item
  module _ (item : SessionItem) (grows : (ask : Ask) → AsksIn (work_after_all work asks) item ask → FirstMakeAsks work count (asks ++ ask ∷ [])) where
    past_so : (list : List Change) → IsPast (work_after_all work asks) item list → (into : List Ask) × FirstMakeAsks work count into × (list ≡ list_after_all work into)
    past_so list (inl e) = (asks, first, e)
    past_so list (inr (ask, one, e)) = (asks ++ ask ∷ [], grows ask one, e ∙ list_more work asks ask)

    lost_past : (may_leave : Image → Type 0) (now : Shown) (list : List Change) → now.taken ≡ Some put → ReadsFor now.tells now.files may_leave list → IsPast (work_after_all work asks) item list → MakeLost may_leave now work count put
    lost_past may_leave now list taken reads p = let x = past_so list p in lost_so may_leave now list x.0 x.1 taken x.2 reads

    lost_item : (may_leave : Image → Type 0) (now : Shown) → IsLostAt may_leave now (work_after_all work asks) (ground work put early) item → MakeLost may_leave now work count put
    lost_item may_leave now (inl h) = ⊎_elim (λ e. lost_so may_leave now h.list early early_first h.taken e h.reads) (λ p. lost_past may_leave now h.list h.taken h.reads p) h.is
    lost_item may_leave now (inr h) = lost_past may_leave now h.list (h.taken ∙ ap Some (append-nil put)) h.reads h.is

    pub item_breaks : (end : SessionEnd) (may_leave : Image → Type 0) (now : Shown) (session : Session) → Unreplied end may_leave now session (work_after_all work asks) (ground work put early) item → MakeBreaks end may_leave now session work count put
    item_breaks ends.Memory may_leave now session (inl goes) = stalls may_leave now session (work_after_all work asks) refl goes
    item_breaks ends.Memory may_leave now session (inr (text, told, stopped, one, at)) =
        let ask = evaluates text told stopped in
        record { asks = asks ++ ask ∷ []; first = grows ask one; early = early; kept_first = early_first; behind = kept (work_after_all work asks) ask; list_is = list_more work asks ask; at = at }
    item_breaks (ends.Disk failed) may_leave now session h = lost_item may_leave now h
    item_breaks (ends.Write failed) may_leave now session (n, short, at) = absurd (omega (arith, short))
    item_breaks (ends.Read failed) may_leave now session h = absurd h
    item_breaks (ends.Damaged damage) may_leave now session h = absurd h
    item_breaks ends.TooLong may_leave now session h = absurd h

    pub alone_breaks : (end : SessionEnd) (may_leave : Image → Type 0) (now : Shown) (session : Session) (ask : Ask) → WorkedAlone (Err end) may_leave now session (work_after_all work asks) (ground work put early) item ask → MakeBreaks end may_leave now session work count put
    alone_breaks ends.Memory may_leave now session ask goes = stalls may_leave now session (work_after_all work asks) refl goes
    alone_breaks (ends.Disk failed) may_leave now session ask h = lost_item may_leave now h
    alone_breaks (ends.Write failed) may_leave now session ask (n, short, at) = absurd (omega (arith, short))
    alone_breaks (ends.Read failed) may_leave now session ask h = absurd h
    alone_breaks (ends.Damaged damage) may_leave now session ask h = absurd h
    alone_breaks ends.TooLong may_leave now session ask h = absurd h

    pub item_keeps : (told : ℕ) (c : Image) → WorkLeaves (work_after_all work asks) (ground work put early) item told c → MakeKeeps work count put told c
    item_keeps told c (inl h) = flush_keeps (work_after_all work asks) refl told c h
    item_keeps told c (inr (ask, one, h)) =
        let P : List Change → Type 0 = λ l. HasKept l (length put) told c in
        inl (asks ++ ask ∷ [], grows ask one, subst P (list_more work asks ask) (kept_put (work_after (work_after_all work asks) ask).changes put told c h))

-- ---- what is noted

-- of a session whose trouble alone is noted
module _ (mid session : Session) (rest : session ≡ record mid { troubled = troubled_of session }) where
  pub faultless_noted : IsFaultless mid → IsFaultless session
  faultless_noted calm = ap (λ (s : Session). (keeper_of s).fault) rest ∙ calm

  pub run_noted : RunSince mid session
  run_noted = record { budget = ap budget_of rest; last_run = inl (ap last_run_of rest) }

  pub held_noted : held_of session ≡ held_of mid
  held_noted = ap held_of rest

  pub amid_noted : (may_leave : Image → Type 0) (now : Shown) (work : Work) (basis : Ground) → IsAmid may_leave now mid work basis → IsAmid may_leave now session work basis
  amid_noted may_leave now work basis at = amid_alike may_leave now mid session work basis (ap keeper_of rest) (ap section_of rest) (ap budget_of rest) (ap kept_versions_of rest) (ap held_of rest) at

  -- and whose line is held then
  pub knows_noted : (o : Shown) (later : Session) → keeper_of later ≡ keeper_of session → section_of later ≡ section_of session → IsKnowing o mid → IsKnowing o later
  knows_noted o later keeper section knows = knows_alike o mid later (keeper ∙ ap keeper_of rest) (section ∙ ap section_of rest) knows

-- the section is entered that an answer names, and trouble is noted
pub record IsEntered (section : Option Section) (mid session : Session) : Type 0 where
  pub keeper : keeper_of session ≡ keeper_of mid
  pub section_is : section_of session ≡ section_or section (section_of mid)
  pub budget : budget_of session ≡ budget_of mid
  pub kept_versions : kept_versions_of session ≡ kept_versions_of mid
  pub held : held_of session ≡ held_of mid
  pub last_run : last_run_of session ≡ last_run_of mid

pub entered_noted : (section : Option Section) (mid here session : Session) → section_of here ≡ section_or section (section_of mid) → here ≡ record mid { section = section_of here } → session ≡ record here { troubled = troubled_of session } → IsEntered section mid session
entered_noted section mid here session is rest noted = record {
  keeper = ap keeper_of noted ∙ ap keeper_of rest;
  section_is = ap section_of noted ∙ is;
  budget = ap budget_of noted ∙ ap budget_of rest;
  kept_versions = ap kept_versions_of noted ∙ ap kept_versions_of rest;
  held = ap held_of noted ∙ ap held_of rest;
  last_run = ap last_run_of noted ∙ ap last_run_of rest;
}

-- ---- an item more

-- it was worked, and its section is entered
entered : (may_leave : Image → Type 0) (now : Shown) (mid session : Session) (work : Work) (item : SessionItem) (ask : Ask) (answer : Answer) (basis : Ground) → IsEntered answer.section mid session → AsksIn work item ask → IsAnswer work ask answer → IsAmid may_leave now mid (staying work ask) basis → IsAmid may_leave now session (work_after work ask) basis
entered may_leave now mid session work item ask answer basis e asks is h = record {
  keeps = let P : KeeperState → Type 0 = λ k. Keeps now.tells now.files may_leave k basis.kept (work_after work ask).changes in subst P (sym e.keeper) h.keeps;
  section = e.section_is ∙ ap (section_or answer.section) h.section ∙ is.1;
  brief = brief_after work item ask asks.0 h.brief;
  budget = e.budget ∙ h.budget;
  kept_versions = e.kept_versions ∙ h.kept_versions;
  moment = h.moment;
  taken = h.taken;
  told = h.told;
  held = e.held ∙ h.held;
}

-- what it becomes of a session whose last run and trouble are noted
module _ (may_leave : Image → Type 0) (now : Shown) (session : Session) (was : Was) (work : Work) (put : List ℕ) (count : ℕ) where
  making_so : (done : ℕ) (tally : Tally) (early pending asks : List Ask) (early_done : ℕ) → asks ≡ early ++ pending → early_done ≤ done → MadeAsk work count early_done early → MadeAsk work count done asks → CountsAll work asks nothing tally → IsAmid may_leave now session (work_after_all work asks) (ground work put early) → troubled_of session ≡ (was.troubled || any_trouble work asks) → RunBehindAll work asks was.last_run (last_run_of session)
      → IsMaking may_leave now session was work put count done tally
  making_so done tally early pending asks early_done is no_more early_asked asked counted at troubled run =
      let P : List Ask → Type 0 = λ l. MadeAsk work count done l × CountsAll work l nothing tally × IsAmid may_leave now session (work_after_all work l) (ground work put early) × (troubled_of session ≡ (was.troubled || any_trouble work l)) × RunBehindAll work l was.last_run (last_run_of session) in
      let h = subst P is (asked, counted, at, troubled, run) in
      record { early = early; pending = pending; early_done = early_done; no_more = no_more; early_asked = early_asked; asked = h.0; counted = h.1; at = h.2; troubled = h.3; last_run = h.4 }

  -- one ask more
  more_made : (was_left : Image → Type 0) (mid : Shown) (at_work : Session) (done : ℕ) (before tally : Tally) (item : Item) (ask : Ask) (m : IsMaking was_left mid at_work was work put count done before) → slice_get (make_items count) done ≡ Some (Chunk item) → AsksIn (work_after_all work (m.early ++ m.pending)) (Chunk item) ask → Counts (work_after_all work (m.early ++ m.pending)) ask before tally
      → troubled_of session ≡ (troubled_of at_work || is_trouble (reply_to (work_after_all work (m.early ++ m.pending)) ask)) → RunBehind (work_after_all work (m.early ++ m.pending)) ask (last_run_of at_work) (last_run_of session) → GoesOn may_leave now session (work_after (work_after_all work (m.early ++ m.pending)) ask) (ground work put m.early) → IsMaking may_leave now session was work put count (done + 1) tally
  more_made was_left mid at_work done before tally item ask m is one counted troubled run goes =
      let asks : List Ask = m.early ++ m.pending in
      let all : List Ask = asks ++ ask ∷ [] in
      let behind : Work = work_after (work_after_all work asks) ask in
      let asked = item_more work count done asks (Chunk item) ask is m.asked one in
      let counts = counts_more work asks ask nothing before tally m.counted counted in
      let trouble = troubled_by_now was.troubled work asks ask (troubled_of at_work) (troubled_of session) m.troubled troubled in
      let last = run_by_now work asks ask was.last_run (last_run_of at_work) (last_run_of session) m.last_run run in
      let Here : Work → Type 0 = λ w. IsAmid may_leave now session w (ground work put m.early) in
      let There : Work → Type 0 = λ w. IsAt may_leave now session w put in
      ⊎_elim
      (λ at. making_so (done + 1) tally m.early (m.pending ++ ask ∷ []) all m.early_done (append_assoc m.early m.pending (ask ∷ [])) (omega (arith, m.no_more)) m.early_asked asked counts (subst Here (sym (work_after_more work asks ask)) at) trouble last)
      (λ at. making_so (done + 1) tally all [] all (done + 1) (sym (append-nil all)) (omega arith) asked asked counts (subst There (sym (work_after_more work asks ask)) (at_put may_leave now session behind put at)) trouble last)
      goes

  -- all that is pending was committed
  making_flushed : (was_left : Image → Type 0) (mid : Shown) (at_work : Session) (done : ℕ) (tally : Tally) (m : IsMaking was_left mid at_work was work put count done tally) → Flushed {T = Unit {0}} (Ok tt) may_leave now session (work_after_all work (m.early ++ m.pending)) (ground work put m.early) → HasSameRest at_work session → IsMaking may_leave now session was work put count done tally
  making_flushed was_left mid at_work done tally m at same =
      let asks : List Ask = m.early ++ m.pending in
      let P : Option RanValue → Type 0 = λ o. RunBehindAll work asks was.last_run o in
      making_so done tally asks [] asks done (sym (append-nil asks)) (omega arith) m.asked m.asked m.counted (at_put may_leave now session (work_after_all work asks) put at) (same.troubled ∙ m.troubled) (subst P (sym same.last_run) m.last_run)

or_none : (b : Bool) → b ≡ (b || false)
or_none true = refl
or_none false = refl

-- no item
pub making_none : (may_leave : Image → Type 0) (o : Shown) (session : Session) (work : Work) (put : List ℕ) (count : ℕ) (tally : Tally) → tally ≡ nothing → IsAt may_leave o session work put → IsMaking may_leave o session (was_of session) work put count 0 tally
making_none may_leave o session work put count tally none at = record { early = []; pending = []; early_done = 0; no_more = omega arith; early_asked = tt; asked = tt; counted = none; at = at; troubled = or_none (troubled_of session); last_run = refl }

-- as many items as there are
pub making_all : (may_leave : Image → Type 0) (o : Shown) (session : Session) (was : Was) (work : Work) (put : List ℕ) (count done all : ℕ) (tally : Tally) → done ≡ all → IsMaking may_leave o session was work put count done tally → IsMaking may_leave o session was work put count all tally
making_all may_leave o session was work put count done all tally is m = let P : ℕ → Type 0 = λ n. IsMaking may_leave o session was work put count n tally in subst P is m

-- the fronts of what was asked
module _ (was_left : Image → Type 0) (mid : Shown) (at_work : Session) (was : Was) (work : Work) (put : List ℕ) (count done : ℕ) (before : Tally) (m : IsMaking was_left mid at_work was work put count done before) where
  abbrev so_far : List Ask
  so_far = m.early ++ m.pending

  first_early : FirstMakeAsks work count m.early
  first_early = (m.early_done, m.early_asked)

  first_done : FirstMakeAsks work count so_far
  first_done = (done, m.asked)

  -- a flush behind it
  making_breaks : (T : Type 0) (end : SessionEnd) (may_leave : Image → Type 0) (now : Shown) (session : Session) → ((w : Work) (basis : Ground) → IsAmid was_left mid at_work w basis → Flushed {T = T} (Err end) may_leave now session w basis) → MakeBreaks end may_leave now session work count put
  making_breaks T end may_leave now session broke = flush_breaks work put count m.early so_far first_early first_done T end may_leave now session (broke (work_after_all work so_far) (ground work put m.early) m.at)

  pub making_flush : (r : Result (Unit {0}) SessionEnd) (may_leave : Image → Type 0) (now : Shown) (session : Session) → HasSameRest at_work session → ((w : Work) (basis : Ground) → IsAmid was_left mid at_work w basis → Flushed r may_leave now session w basis) → MakesItem r may_leave now session was work put count done before
  making_flush (Ok value) may_leave now session same flushes = making_flushed may_leave now session was work put count was_left mid at_work done before m (flushes (work_after_all work so_far) (ground work put m.early) m.at) same
  making_flush (Err end) may_leave now session same flushes = making_breaks (Unit {0}) end may_leave now session flushes

  -- memory is wanting
  pub making_stalls : IsStalled was_left mid at_work work put count
  making_stalls = stalls work put count m.early so_far first_early first_done was_left mid at_work (work_after_all work so_far) refl (inl m.at)

  module _ {D : Type 0} (moment : D → ℕ) (left_since : D → ℕ → ℕ → Image → Type 0) where
    pub flush_lasts : (old here new : D) → LeavesOnly moment left_since old here (MakeKeeps work count put) → ((w : Work) (basis : Ground) → IsAmid was_left mid at_work w basis → LeavesOnly moment left_since here new (FlushLeaves w basis)) → LeavesOnly moment left_since old new (MakeKeeps work count put)
    flush_lasts old here new first second =
        joined moment left_since old here new (MakeKeeps work count put) (FlushLeaves (work_after_all work so_far) (ground work put m.early)) first (second (work_after_all work so_far) (ground work put m.early) m.at) (flush_keeps work put count m.early so_far first_early first_done (work_after_all work so_far) refl)

-- an item is worked
module _ (was_left : Image → Type 0) (mid : Shown) (at_work : Session) (was : Was) (work : Work) (put : List ℕ) (count done : ℕ) (before : Tally) (item : Item) (sound : IsSound item) (is : slice_get (make_items count) done ≡ Some (Chunk item)) (m : IsMaking was_left mid at_work was work put count done before) where
  abbrev asked_then : List Ask
  asked_then = m.early ++ m.pending

  abbrev basis_then : Ground
  basis_then = ground work put m.early

  begins_early : FirstMakeAsks work count m.early
  begins_early = first_early was_left mid at_work was work put count done before m

  begins_then : FirstMakeAsks work count asked_then
  begins_then = first_done was_left mid at_work was work put count done before m

  grows_then : (ask : Ask) → AsksIn (work_after_all work asked_then) (Chunk item) ask → FirstMakeAsks work count (asked_then ++ ask ∷ [])
  grows_then ask one = (done + 1, item_more work count done asked_then (Chunk item) ask is m.asked one)

  -- it breaks off
  pub item_broke : (end : SessionEnd) (may_leave : Image → Type 0) (now : Shown) (session : Session) → ((w : Work) (basis : Ground) → IsReadable (Chunk item) → IsAmid was_left mid at_work w basis → Unreplied end may_leave now session w basis (Chunk item)) → MakeBreaks end may_leave now session work count put
  item_broke end may_leave now session broke =
      item_breaks work put count m.early asked_then begins_early begins_then (Chunk item) grows_then end may_leave now session (broke (work_after_all work asked_then) basis_then (readable item sound) m.at)

  pub item_lasts : {D : Type 0} (moment : D → ℕ) (left_since : D → ℕ → ℕ → Image → Type 0) (old new : D) → ((w : Work) (basis : Ground) → IsReadable (Chunk item) → IsAmid was_left mid at_work w basis → LeavesOnly moment left_since old new (WorkLeaves w basis (Chunk item))) → LeavesOnly moment left_since old new (MakeKeeps work count put)
  item_lasts moment left_since old new run =
      weaker moment left_since old new (WorkLeaves (work_after_all work asked_then) basis_then (Chunk item)) (MakeKeeps work count put) (run (work_after_all work asked_then) basis_then (readable item sound) m.at) (item_keeps work put count m.early asked_then begins_early begins_then (Chunk item) grows_then)

  -- it is worked, and its section entered
  module _ (may_leave : Image → Type 0) (now : Shown) (replied session : Session) (answer : Answer) (e : IsEntered answer.section replied session) (answers : (w : Work) (basis : Ground) → IsReadable (Chunk item) → IsAmid was_left mid at_work w basis → Answers (Ok answer) may_leave now replied (was_of at_work) w basis (Chunk item)) where
    abbrev answered : Answers (Ok answer) may_leave now replied (was_of at_work) (work_after_all work asked_then) basis_then (Chunk item)
    answered = answers (work_after_all work asked_then) basis_then (readable item sound) m.at

    goes_entered : GoesOn may_leave now session (work_after (work_after_all work asked_then) answered.0) basis_then
    goes_entered =
        let w : Work = work_after_all work asked_then in
        let ask : Ask = answered.0 in
        ⊎_elim (λ at. inl (entered may_leave now replied session w (Chunk item) ask answer basis_then e answered.1 answered.2 at)) (λ at. inr (entered may_leave now replied session w (Chunk item) ask answer (flushed (staying w ask) basis_then) e answered.1 answered.2 at)) answered.4

    -- memory is wanting to count it
    pub item_stalls : IsStalled may_leave now session work put count
    item_stalls =
        let ask : Ask = answered.0 in
        stalls work put count m.early (asked_then ++ ask ∷ []) begins_early (grows_then ask answered.1) may_leave now session (work_after (work_after_all work asked_then) ask) (list_more work asked_then ask) goes_entered

    pub item_made : AnswersAlike → (tally : Tally) → troubled_of replied ≡ troubled_of at_work → troubled_of session ≡ (troubled_of replied || is_trouble answer.reply) → tally ≡ with_reply answer.reply (small_in (last_run_of session)) before → IsMaking may_leave now session was work put count (done + 1) tally
    item_made alike tally calm troubled counted =
        let w : Work = work_after_all work asked_then in
        let ask : Ask = answered.0 in
        let P : Option RanValue → Type 0 = λ o. RunBehind w ask (last_run_of at_work) o in
        let run = subst P (sym e.last_run) answered.3 in
        more_made may_leave now session was work put count was_left mid at_work done before tally item ask m is answered.1 (chunk_counted alike w item ask answer.reply (last_run_of at_work) (last_run_of session) before tally answered.1.0 answered.2.0 run counted) (troubled ∙ (λ i. calm i || is_trouble (answered.2.0 i))) run goes_entered

-- ---- what a crash leaves while items are worked

module _ {D : Type 0} (moment : D → ℕ) (left_since : D → ℕ → ℕ → Image → Type 0) where
  -- no call was made
  pub making_still : (may_leave : Image → Type 0) (o : Shown) (session : Session) (now : D) (was : Was) (work : Work) (put : List ℕ) (count done : ℕ) (tally : Tally) → ((told : ℕ) (c : Image) → left_since now (moment now) told c → may_leave c × (told ≡ o.told)) → IsMaking may_leave o session was work put count done tally → LeavesOnly moment left_since now now (MakeKeeps work count put)
  making_still may_leave o session now was work put count done tally only m =
      started moment left_since now (MakeKeeps work count put) (λ told c left.
      let x = only told c left in
      inl (m.early, first_early may_leave o session was work put count done tally m, record { no_more = omega (arith, m.at.told, x.1); files = amid_leaves may_leave o session (work_after_all work (m.early ++ m.pending)) (ground work put m.early) m.at c x.0 }))

  -- before any item
  pub making_starts : (may_leave : Image → Type 0) (o : Shown) (session : Session) (now : D) (work : Work) (count : ℕ) (put : List ℕ) → ((told : ℕ) (c : Image) → left_since now (moment now) told c → may_leave c × (told ≡ o.told)) → IsAt may_leave o session work put → LeavesOnly moment left_since now now (MakeKeeps work count put)
  making_starts may_leave o session now work count put only at =
      started moment left_since now (MakeKeeps work count put) (λ told c left.
      let x = only told c left in
      inl ([], (0, tt), record { no_more = omega (arith, at.told, x.1); files = amid_leaves may_leave o session work (at_rest work put) at c x.0 }))

  pub making_on : (old mid new : D) (work : Work) (count : ℕ) (put : List ℕ) → LeavesOnly moment left_since old mid (MakeKeeps work count put) → LeavesOnly moment left_since mid new (MakeKeeps work count put) → LeavesOnly moment left_since old new (MakeKeeps work count put)
  making_on old mid new work count put first second = joined moment left_since old mid new (MakeKeeps work count put) (MakeKeeps work count put) first second (λ told c h. h)

-- ---- the last run

-- the trouble of a reply, where the section was entered before
pub noted_trouble : (before mid now : Session) (reply : Reply) → mid ≡ record before { section = section_of mid } → troubled_of now ≡ (troubled_of mid || is_trouble reply) → troubled_of now ≡ (troubled_of before || is_trouble reply)
noted_trouble before mid now reply rest h = h ∙ ap (λ (s : Session). troubled_of s || is_trouble reply) rest

pub noted_count : (mid now : Session) (reply : Reply) (before tally : Tally) → now ≡ record mid { troubled = troubled_of now } → tally ≡ with_reply reply (small_in (last_run_of mid)) before → tally ≡ with_reply reply (small_in (last_run_of now)) before
noted_count mid now reply before tally rest h = h ∙ ap (λ (s : Session). with_reply reply (small_in (last_run_of s)) before) (sym rest)

-- behind an item that was answered
pub answered_run : (answer : Answer) (item : SessionItem) (before mid session : Session) → IsEntered answer.section mid session → budget_of mid ≡ budget_of before → RunAfterWork (Ok answer) item before mid → RunSince before session
answered_run answer item before mid session e same h =
    run_of_item (Unit {0}) (Ok tt) item before session (e.budget ∙ same) (held_run answer.reply item before mid session e.keeper e.budget e.last_run h)

-- it stays
pub run_same : (before now : Session) → budget_of now ≡ budget_of before → last_run_of now ≡ last_run_of before → RunSince before now
run_same before now budget last = record { budget = budget; last_run = inl last }

-- ---- behind all items

-- all was worked and condensed, and is counted so
pub record IsMade (may_leave : Image → Type 0) (o : Shown) (session : Session) (was : Was) (work : Work) (put : List ℕ) (count : ℕ) (tally : Tally) : Type 0 where
  pub asks : List Ask
  pub all : MakeAsks work count asks
  pub counted : CountsAll work asks nothing tally
  pub at : IsAt may_leave o session (work_after_all work asks) put
  pub troubled : troubled_of session ≡ (was.troubled || any_trouble work asks)
  pub last_run : RunBehindAll work asks was.last_run (last_run_of session)

-- it condenses
module _ (was_left : Image → Type 0) (mid : Shown) (at_work : Session) (was : Was) (work : Work) (put : List ℕ) (count : ℕ) (before : Tally) (m : IsMaking was_left mid at_work was work put count (items_each * count) before) where
  abbrev all_asked : List Ask
  all_asked = m.early ++ m.pending

  abbrev all_basis : Ground
  all_basis = ground work put m.early

  begins_kept : FirstMakeAsks work count m.early
  begins_kept = first_early was_left mid at_work was work put count (items_each * count) before m

  begins_all : FirstMakeAsks work count all_asked
  begins_all = first_done was_left mid at_work was work put count (items_each * count) before m

  grows_all : (ask : Ask) → AsksIn (work_after_all work all_asked) (Query Condense) ask → FirstMakeAsks work count (all_asked ++ ask ∷ [])
  grows_all ask one = all_first work count (all_asked ++ ask ∷ []) (all_more work count all_asked ask m.asked one)

  -- it breaks off
  pub condense_broke : (end : SessionEnd) (may_leave : Image → Type 0) (now : Shown) (session : Session) → ((w : Work) (basis : Ground) (item : SessionItem) → Asks item condenses → IsAmid was_left mid at_work w basis → WorkedAlone (Err end) may_leave now session w basis item condenses) → MakeBreaks end may_leave now session work count put
  condense_broke end may_leave now session broke =
      alone_breaks work put count m.early all_asked begins_kept begins_all (Query Condense) grows_all end may_leave now session condenses (broke (work_after_all work all_asked) all_basis (Query Condense) refl m.at)

  pub condense_lasts : {D : Type 0} (moment : D → ℕ) (left_since : D → ℕ → ℕ → Image → Type 0) (old here new : D) → LeavesOnly moment left_since old here (MakeKeeps work count put) → ((w : Work) (basis : Ground) (item : SessionItem) → Asks item condenses → IsAmid was_left mid at_work w basis → LeavesOnly moment left_since here new (WorkLeaves w basis item)) → LeavesOnly moment left_since old new (MakeKeeps work count put)
  condense_lasts moment left_since old here new first second =
      joined moment left_since old here new (MakeKeeps work count put) (WorkLeaves (work_after_all work all_asked) all_basis (Query Condense)) first (second (work_after_all work all_asked) all_basis (Query Condense) refl m.at) (item_keeps work put count m.early all_asked begins_kept begins_all (Query Condense) grows_all)

  module _ (may_leave : Image → Type 0) (now : Shown) (session : Session) (reply : Reply) (condensed_so : (w : Work) (basis : Ground) (item : SessionItem) → Asks item condenses → IsAmid was_left mid at_work w basis → WorkedAlone (Ok reply) may_leave now session w basis item condenses) where
    abbrev condensed_then : WorkedAlone (Ok reply) may_leave now session (work_after_all work all_asked) all_basis (Query Condense) condenses
    condensed_then = condensed_so (work_after_all work all_asked) all_basis (Query Condense) refl m.at

    at_all : IsAt may_leave now session (work_after_all work (all_asked ++ condenses ∷ [])) put
    at_all =
        let w : Work = work_after_all work all_asked in
        let P : Work → Type 0 = λ x. IsAt may_leave now session x put in
        subst P (sym (work_after_more work all_asked condenses)) (at_put may_leave now session (work_after w condenses) put condensed_then.1)

    pub all_stalls : IsStalled may_leave now session work put count
    all_stalls =
        let asks : List Ask = all_asked ++ condenses ∷ [] in
        let first : FirstMakeAsks work count asks = grows_all condenses (refl, tt) in
        stalls work put count asks asks first first may_leave now session (work_after_all work asks) refl (inl at_all)

    -- its reply is counted
    pub all_made : (later : Session) (tally : Tally) → later ≡ record session { troubled = troubled_of later } → troubled_of session ≡ troubled_of at_work → last_run_of session ≡ last_run_of at_work → troubled_of later ≡ (troubled_of session || is_trouble reply) → tally ≡ with_reply reply (small_in (last_run_of session)) before → IsMade may_leave now later was work put count tally
    all_made later tally rest calm run troubled counted =
        let w : Work = work_after_all work all_asked in
        let asks : List Ask = all_asked ++ condenses ∷ [] in
        record {
          asks = asks;
          all = all_more work count all_asked condenses m.asked (refl, tt);
          counted = counts_more work all_asked condenses nothing before tally m.counted (condense_counted w reply (last_run_of session) before tally condensed_then.0 counted);
          at = amid_noted session later rest may_leave now (work_after_all work asks) (at_rest (work_after_all work asks) put) at_all;
          troubled = troubled_by_now was.troubled work all_asked condenses (troubled_of at_work) (troubled_of later) m.troubled (troubled ∙ (λ i. calm i || is_trouble (condensed_then.0 i)));
          last_run = run_by_now work all_asked condenses was.last_run (last_run_of at_work) (last_run_of later) m.last_run (ap last_run_of rest ∙ run);
        }

-- a line is held alone
pub line_only : (held before text line : List ℕ) → held ≡ before ++ text → before ≡ [] → text ≡ line → held ≡ line
line_only held before text line is none same = is ∙ (λ i. none i ++ same i)

-- its line is held, and flushed
module _ (was_left : Image → Type 0) (mid : Shown) (at_work : Session) (was : Was) (work : Work) (put : List ℕ) (count : ℕ) (tally : Tally) (m : IsMade was_left mid at_work was work put count tally) (session : Session) (keeper : keeper_of session ≡ keeper_of at_work) (section : section_of session ≡ section_of at_work) (budget : budget_of session ≡ budget_of at_work) (versions : kept_versions_of session ≡ kept_versions_of at_work) (held : held_of session ≡ made_line count tally) where
  abbrev line_basis : Ground
  line_basis = record { kept = list_after_all work m.asks; put = put; held = made_line count tally }

  asked_first : FirstMakeAsks work count m.asks
  asked_first = all_first work count m.asks m.all

  line_held : IsAmid was_left mid session (work_after_all work m.asks) line_basis
  line_held = record {
    keeps = let P : KeeperState → Type 0 = λ k. Keeps mid.tells mid.files was_left k (list_after_all work m.asks) (list_after_all work m.asks) in subst P (sym keeper) m.at.keeps;
    section = section ∙ m.at.section;
    brief = m.at.brief;
    budget = budget ∙ m.at.budget;
    kept_versions = versions ∙ m.at.kept_versions;
    moment = m.at.moment;
    taken = m.at.taken;
    told = m.at.told;
    held = held;
  }

  line_put : (r : Result (Unit {0}) SessionEnd) (may_leave : Image → Type 0) (now : Shown) (last : Session) → troubled_of last ≡ troubled_of at_work → last_run_of last ≡ last_run_of at_work → Flushed r may_leave now last (work_after_all work m.asks) line_basis → MakesAll r may_leave now last was (was_of last) work count put
  line_put (Ok done) may_leave now last calm run at =
      let w : Work = work_after_all work m.asks in
      let P : Option RanValue → Type 0 = λ o. RunBehindAll work m.asks was.last_run o in (
        any_trouble work m.asks,
        calm ∙ m.troubled,
        record {
          asks = m.asks;
          all = m.all;
          tally = tally;
          counted = m.counted;
          stands = amid_stands may_leave now last w (at_rest w (put ++ made_line count tally)) at;
          taken = at.taken;
          troubled = refl;
          last_run = subst P (sym run) m.last_run;
        },
      )
  line_put (Err (ends.Disk failed)) may_leave now last calm run h = lost_flush work put count m.asks m.asks asked_first asked_first may_leave now (work_after_all work m.asks) refl h
  line_put (Err (ends.Write failed)) may_leave now last calm run (n, short, at) =
      let w : Work = work_after_all work m.asks in
      record {
        asks = m.asks;
        all = m.all;
        tally = tally;
        counted = m.counted;
        stands = amid_stands may_leave now last w (at_rest w (put ++ take n (made_line count tally))) at;
        told = n;
        short = short;
        taken = at.taken;
      }
  line_put (Err ends.Memory) may_leave now last calm run h = absurd h
  line_put (Err (ends.Read failed)) may_leave now last calm run h = absurd h
  line_put (Err (ends.Damaged damage)) may_leave now last calm run h = absurd h
  line_put (Err ends.TooLong) may_leave now last calm run h = absurd h

  pub line_flushed : (r : Result (Unit {0}) SessionEnd) (may_leave : Image → Type 0) (now : Shown) (last : Session) → troubled_of last ≡ troubled_of at_work → last_run_of last ≡ last_run_of at_work → ((w : Work) (basis : Ground) → IsAmid was_left mid session w basis → Flushed r may_leave now last w basis) → MakesAll r may_leave now last was (was_of last) work count put
  line_flushed r may_leave now last calm run flushes = line_put r may_leave now last calm run (flushes (work_after_all work m.asks) line_basis line_held)

  line_keeps : (told : ℕ) (c : Image) → FlushLeaves (work_after_all work m.asks) line_basis told c → MakeKeeps work count put told c
  line_keeps told c (inl h) = inl (m.asks, asked_first, h)
  line_keeps told c (inr h) = inr (m.asks, tally, m.all, m.counted, h)

  pub line_lasts : {D : Type 0} (moment : D → ℕ) (left_since : D → ℕ → ℕ → Image → Type 0) (old here new : D) → LeavesOnly moment left_since old here (MakeKeeps work count put) → ((w : Work) (basis : Ground) → IsAmid was_left mid session w basis → LeavesOnly moment left_since here new (FlushLeaves w basis)) → LeavesOnly moment left_since old new (MakeKeeps work count put)
  line_lasts moment left_since old here new first second =
      joined moment left_since old here new (MakeKeeps work count put) (FlushLeaves (work_after_all work m.asks) line_basis) first (second (work_after_all work m.asks) line_basis line_held) line_keeps

-- ---- memory was wanting

-- where the session is amid the same
stalled_at : (may_leave : Image → Type 0) (now : Shown) (mid session : Session) (work : Work) (put : List ℕ) (count : ℕ) → ((w : Work) (basis : Ground) → IsAmid may_leave now mid w basis → IsAmid may_leave now session w basis) → IsStalled may_leave now mid work put count → IsStalled may_leave now session work put count
stalled_at may_leave now mid session work put count moves s = record {
  asks = s.asks;
  first = s.first;
  early = s.early;
  kept_first = s.kept_first;
  behind = s.behind;
  list_is = s.list_is;
  at = moves s.behind (ground work put s.early) s.at;
}

-- its trouble is noted
pub stalled_noted : (may_leave : Image → Type 0) (now : Shown) (mid session : Session) (work : Work) (put : List ℕ) (count : ℕ) → session ≡ record mid { troubled = troubled_of session } → IsStalled may_leave now mid work put count → IsStalled may_leave now session work put count
stalled_noted may_leave now mid session work put count rest s = stalled_at may_leave now mid session work put count (amid_noted mid session rest may_leave now) s

-- a line isn't held
pub stalled_unheld : (may_leave : Image → Type 0) (now : Shown) (mid session : Session) (work : Work) (put : List ℕ) (count : ℕ) → keeper_of session ≡ keeper_of mid → section_of session ≡ section_of mid → budget_of session ≡ budget_of mid → kept_versions_of session ≡ kept_versions_of mid → held_of session ≡ held_of mid → IsStalled may_leave now mid work put count → IsStalled may_leave now session work put count
stalled_unheld may_leave now mid session work put count keeper section budget versions held s = stalled_at may_leave now mid session work put count (λ w basis at. amid_alike may_leave now mid session w basis keeper section budget versions held at) s

-- what is pending is committed
module _ (was_left : Image → Type 0) (mid : Shown) (before : Session) (work : Work) (put : List ℕ) (count : ℕ) (s : IsStalled was_left mid before work put count) where
  ended_so : (end : SessionEnd) (may_leave : Image → Type 0) (now : Shown) (session : Session) (was is : Was) → EndsForMemory end may_leave now session s.behind (ground work put s.early) → Makes {T = Unit {0}} (Err end) may_leave now was is work count put
  ended_so ends.Memory may_leave now session was is at =
      let P : List Change → Type 0 = λ l. ShownFor may_leave now l in
      record { asks = s.asks; first = s.first; stands = subst P s.list_is (amid_stands may_leave now session s.behind (at_rest s.behind (put ++ [])) at); taken = at.taken ∙ ap Some (append-nil put) }
  ended_so (ends.Disk failed) may_leave now session was is h = lost_flush work put count s.early s.asks s.kept_first s.first may_leave now s.behind s.list_is h
  ended_so (ends.Write failed) may_leave now session was is (n, short, at) = absurd (omega (arith, short))
  ended_so (ends.Read failed) may_leave now session was is h = absurd h
  ended_so (ends.Damaged damage) may_leave now session was is h = absurd h
  ended_so ends.TooLong may_leave now session was is h = absurd h

  pub ended_stalled : (end : SessionEnd) (may_leave : Image → Type 0) (now : Shown) (session : Session) (was is : Was) → ((w : Work) (basis : Ground) → IsAmid was_left mid before w basis → EndsForMemory end may_leave now session w basis) → Makes {T = Unit {0}} (Err end) may_leave now was is work count put
  ended_stalled end may_leave now session was is ended = ended_so end may_leave now session was is (ended s.behind (ground work put s.early) s.at)

  pub stalled_lasts : {D : Type 0} (moment : D → ℕ) (left_since : D → ℕ → ℕ → Image → Type 0) (old here new : D) → LeavesOnly moment left_since old here (MakeKeeps work count put) → ((w : Work) (basis : Ground) → IsAmid was_left mid before w basis → LeavesOnly moment left_since here new (FlushLeaves w basis)) → LeavesOnly moment left_since old new (MakeKeeps work count put)
  stalled_lasts moment left_since old here new first second =
      joined moment left_since old here new (MakeKeeps work count put) (FlushLeaves s.behind (ground work put s.early)) first (second s.behind (ground work put s.early) s.at) (flush_keeps work put count s.early s.asks s.kept_first s.first s.behind s.list_is)

-- it wasn't
pub broke_anyway : (end : SessionEnd) (may_leave : Image → Type 0) (now : Shown) (session : Session) (was is : Was) (work : Work) (count : ℕ) (put : List ℕ) → end ≢ ends.Memory → MakeBreaks end may_leave now session work count put → Makes {T = Unit {0}} (Err end) may_leave now was is work count put
broke_anyway ends.Memory may_leave now session was is work count put not h = absurd (not refl)
broke_anyway (ends.Disk failed) may_leave now session was is work count put not h = h
broke_anyway (ends.Write failed) may_leave now session was is work count put not h = h
broke_anyway (ends.Read failed) may_leave now session was is work count put not h = absurd h
broke_anyway (ends.Damaged damage) may_leave now session was is work count put not h = absurd h
broke_anyway ends.TooLong may_leave now session was is work count put not h = absurd h
