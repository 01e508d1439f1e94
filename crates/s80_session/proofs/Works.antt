-- What the work on an input has come to, with what a crash leaves since it began.
use Rattle.std.proofs.Common.{◌≡◌, ℕ, ◌+◌, ◌-◌, ◌≤◌, List, [], ◌∷◌, ◌++◌, length, take, drop, refl, sym, ap, subst, ◌∙◌, Ok, Err, Option, Some, None, Bool, false, append_assoc, arith, IfSome, IfNone}
use Rattle.std.specs.Prelude.{option_to_list}
use Rattle.std.proofs.lemmas.List.{append-nil, length-drop, take_all, take_rest}
use Rattle.std.proofs.Math.Seq.{take-add}
use Rattle.s80_chunk.specs.declared.item.Item.{Item}
use Rattle.s80_chunk.specs.Chunks.{IsSound}
use Rattle.s80_chunk.specs.Held.{Held, HasRead, HoldsNoMore, fed}
use Rattle.s80_disk.specs.Image.{Image}
use Rattle.s80_disk.specs.Shown.{Shown}
use Rattle.s80_disk.specs.Moments.{LeavesOnly}
use Rattle.s80_model.specs.declared.item.SessionItem.TheVariants.{Chunk}
use Rattle.s80_model.specs.Asked.{Ask}
use Rattle.s80_model.specs.Replies.{Work, AsksIn, work_after_all}
use Rattle.s80_session.specs.declared.session.Session.{Session}
use Rattle.s80_session.specs.declared.end.SessionEnd.{SessionEnd}
use Rattle.s80_session.specs.Putting.{IsAsBefore}
use Rattle.s80_session.specs.Run.{FirstAsksOf, Ends, Keeps, input_limit}
use Rattle.s80_session.specs.Session.{Was, HasLittle, HasSameRest, was_of}
use Rattle.s80_session.specs.Working.{AnswersLeave, AtEnd, BeginsAsking, BreaksOff, EndsForMemory, Flushed, FlushLeaves, Ground, IsAmid, IsDone, IsReadable, IsWorking, PieceWorked, Takes, Worked, WorkLeaves, WorksAll}
use Rattle.s80_session.proofs.Answering.{begins, begins_so, done_on, flushed_on, grows, holds_none, read_none, read_some, readable_some, worked_on}
use Rattle.s80_session.proofs.Fronts.{begins_front, first_front}
use Rattle.s80_session.proofs.Grouping.{broke_by_flush, broke_by_work, broke_for_memory}
use Rattle.s80_session.proofs.OneGroup.{group_little}
use Rattle.s80_session.proofs.Taking.{breaks, ends_taking, fed_on, first_asks, IsTaken, IsTaking, no_more, still_open, taken_more, takes_first, taking_on}
use Rattle.s80_session.proofs.lemmas.Groups.{answers_last, group_flushed, group_quiet, group_starts, group_worked, keeps_on}

-- ---- items

-- the items that a reader gave are worked
pub record Works {D : Type 0} (moment : D → ℕ) (left_since : D → ℕ → ℕ → Image → Type 0) (may_leave : D → Image → Type 0) (shown : D → Shown) (begun now : D) (session : Session) (reader : Held) (ended : Bool) (was : Was) (work : Work) (before bytes : List ℕ) : Type 0 where
  pub given : List Item
  pub working : IsWorking (may_leave now) (shown now) session reader was work before bytes given
  pub ended_is : reader.ended ≡ ended
  pub run : LeavesOnly moment left_since begun now (AnswersLeave ended work before bytes)

module _ {D : Type 0} (moment : D → ℕ) (left_since : D → ℕ → ℕ → Image → Type 0) (may_leave : D → Image → Type 0) (shown : D → Shown) (begun : D) (ended : Bool) (was : Was) (work : Work) (before bytes : List ℕ) where
  abbrev WorksAt : D → Session → Held → Type 0
  WorksAt now session reader = Works moment left_since may_leave shown begun now session reader ended was work before bytes

  abbrev Leave : ℕ → Image → Type 0
  Leave = AnswersLeave ended work before bytes

  pub works_start : (session : Session) (reader : Held) (given : List Item) → ((told : ℕ) (c : Image) → left_since begun (moment begun) told c → may_leave begun c × (told ≡ (shown begun).told)) → reader.ended ≡ ended → IsWorking (may_leave begun) (shown begun) session reader was work before bytes given → Works moment left_since may_leave shown begun begun session reader ended was work before bytes
  works_start session reader given only ended_is w = record {
    given = given;
    working = w;
    ended_is = ended_is;
    run = group_starts moment left_since (BeginsAsking work ended bytes) (begins_front work ended bytes) work before w.asks w.basis (begins_so reader ended work bytes given w.asks ended_is w.read w.asked) w.behind (may_leave begun) (shown begun) session begun only w.at;
  }

  -- a call that leaves all as it was
  pub works_same : (old mid : D) (session self : Session) (reader : Held) → Works moment left_since may_leave shown begun old session reader ended was work before bytes → (self ≡ session) × (mid ≡ old) → Works moment left_since may_leave shown begun mid self reader ended was work before bytes
  works_same old mid session self reader x same =
      let P : Session → Type 0 = λ s. WorksAt mid s reader in
      let Q : D → Type 0 = λ o. WorksAt o session reader in
      subst P (sym same.0) (subst Q (sym same.1) x)

  -- a flush
  module _ (mid now : D) (session self : Session) (reader : Held) (x : Works moment left_since may_leave shown begun mid session reader ended was work before bytes) where
    pub flush_run : ((w : Work) (basis : Ground) → IsAmid (may_leave mid) (shown mid) session w basis → LeavesOnly moment left_since mid now (FlushLeaves w basis)) → LeavesOnly moment left_since begun now (AnswersLeave ended work before bytes)
    flush_run leaves =
        let w = x.working in
        group_flushed moment left_since (BeginsAsking work ended bytes) (begins_front work ended bytes) work before w.asks w.basis (begins_so reader ended work bytes x.given w.asks x.ended_is w.read w.asked) w.behind begun mid now x.run (leaves (work_after_all work w.asks) w.basis w.at)

    pub works_flushed : ((w : Work) (basis : Ground) → IsAmid (may_leave mid) (shown mid) session w basis → Flushed {T = Unit {0}} (Ok tt) (may_leave now) (shown now) self w basis) → ((w : Work) (basis : Ground) → IsAmid (may_leave mid) (shown mid) session w basis → LeavesOnly moment left_since mid now (FlushLeaves w basis)) → HasSameRest session self
        → Works moment left_since may_leave shown begun now self reader ended was work before bytes
    works_flushed flushed leaves same =
        let w = x.working in
        let done = flushed_on (may_leave mid) (may_leave now) (shown mid) (shown now) session self reader was work before bytes x.given w (flushed (work_after_all work w.asks) w.basis w.at) same in
        record { given = x.given; working = done_on (may_leave now) (shown now) self reader was work before bytes x.given done; ended_is = x.ended_is; run = flush_run leaves }

    pub flush_breaks : (T : Type 0) (end : SessionEnd) (b : Bool) → b ≡ ended → ((w : Work) (basis : Ground) → IsAmid (may_leave mid) (shown mid) session w basis → Flushed {T = T} (Err end) (may_leave now) (shown now) self w basis) → BreaksOff end (may_leave now) (shown now) self (BeginsAsking work b bytes) work before
    flush_breaks T end b is broke =
        let w = x.working in
        broke_by_flush (BeginsAsking work b bytes) (begins_front work b bytes) work before w.asks w.basis (begins_so reader b work bytes x.given w.asks (x.ended_is ∙ sym is) w.read w.asked) w.behind w.group T end (may_leave now) (shown now) self (broke (work_after_all work w.asks) w.basis w.at)

    pub memory_breaks : (end : SessionEnd) (b : Bool) → b ≡ ended → ((w : Work) (basis : Ground) → IsAmid (may_leave mid) (shown mid) session w basis → EndsForMemory end (may_leave now) (shown now) self w basis) → BreaksOff end (may_leave now) (shown now) self (BeginsAsking work b bytes) work before
    memory_breaks end b is broke =
        let w = x.working in
        broke_for_memory (BeginsAsking work b bytes) (begins_front work b bytes) work before w.asks w.basis (begins_so reader b work bytes x.given w.asks (x.ended_is ∙ sym is) w.read w.asked) w.behind w.group end (may_leave now) (shown now) self (broke (work_after_all work w.asks) w.basis w.at)

  -- what the reader gives next
  module _ (mid : D) (session : Session) (had reader : Held) (x : Works moment left_since may_leave shown begun mid session had ended was work before bytes) (little : HasLittle session) (found : Option Item) (gives : (fed : List ℕ) (items : List Item) → HasRead had fed items → HasRead reader fed (items ++ option_to_list found)) (same_ended : reader.ended ≡ had.ended) where
    -- no item
    pub works_all : found ≡ None → IfNone found ((fed : List ℕ) (items : List Item) → HasRead had fed items → HoldsNoMore had.ended fed items) → WorksAll {T = Unit {0}} (Ok tt) (may_leave mid) (shown mid) session reader was work before bytes
    works_all is none =
        let w = x.working in (
          x.given,
          record { asks = w.asks; read = read_none reader bytes x.given found is (gives bytes x.given w.read); asked = w.asked; basis = w.basis; behind = w.behind; group = w.group; at = w.at; troubled = w.troubled; last_run = w.last_run },
          holds_none found had reader.ended bytes x.given is none w.read same_ended,
        )

    -- an item, which is worked
    module _ (now : D) (self : Session) (item : Item) (is : found ≡ Some item) (sound : IfSome found (λ i. (fed : List ℕ) (items : List Item) → HasRead had fed items → IsSound i)) where
      given_read : HasRead reader bytes (x.given ++ item ∷ [])
      given_read = read_some reader bytes x.given found item is (gives bytes x.given x.working.read)

      given_readable : IsReadable (Chunk item)
      given_readable = readable_some found item had bytes x.given is sound x.working.read

      grows_at : (b : Bool) → b ≡ ended → (ask : Ask) → AsksIn (work_after_all work x.working.asks) (Chunk item) ask → BeginsAsking work b bytes (x.working.asks ++ ask ∷ [])
      grows_at b same = grows b work bytes x.given x.working.asks item x.working.asked (begins reader b bytes (x.given ++ item ∷ []) (same_ended ∙ x.ended_is ∙ sym same) given_read)

      pub work_run : ((w : Work) (basis : Ground) → IsReadable (Chunk item) → IsAmid (may_leave mid) (shown mid) session w basis → LeavesOnly moment left_since mid now (WorkLeaves w basis (Chunk item))) → LeavesOnly moment left_since begun now (AnswersLeave ended work before bytes)
      work_run leaves =
          let w = x.working in
          group_worked moment left_since (BeginsAsking work ended bytes) (begins_front work ended bytes) work before w.asks w.basis (begins_so had ended work bytes x.given w.asks x.ended_is w.read w.asked) w.behind begun mid now (Chunk item) (grows_at ended refl) x.run (leaves (work_after_all work w.asks) w.basis given_readable w.at)

      pub works_item : ((w : Work) (basis : Ground) → IsReadable (Chunk item) → IsAmid (may_leave mid) (shown mid) session w basis → Worked {T = Unit {0}} (Ok tt) (may_leave now) (shown now) self (was_of session) w basis (Chunk item))
          → ((w : Work) (basis : Ground) → IsReadable (Chunk item) → IsAmid (may_leave mid) (shown mid) session w basis → LeavesOnly moment left_since mid now (WorkLeaves w basis (Chunk item))) → Works moment left_since may_leave shown begun now self reader ended was work before bytes
      works_item worked leaves =
          let w = x.working in
          record {
            given = x.given ++ item ∷ [];
            working = worked_on (may_leave mid) (may_leave now) (shown mid) (shown now) session self had reader was work before bytes x.given item w little given_read (worked (work_after_all work w.asks) w.basis given_readable w.at);
            ended_is = same_ended ∙ x.ended_is;
            run = work_run leaves;
          }

      pub work_breaks : (T : Type 0) (end : SessionEnd) (b : Bool) → b ≡ ended → ((w : Work) (basis : Ground) → IsReadable (Chunk item) → IsAmid (may_leave mid) (shown mid) session w basis → Worked {T = T} (Err end) (may_leave now) (shown now) self (was_of session) w basis (Chunk item)) → BreaksOff end (may_leave now) (shown now) self (BeginsAsking work b bytes) work before
      work_breaks T end b same broke =
          let w = x.working in
          broke_by_work (BeginsAsking work b bytes) (begins_front work b bytes) work before w.asks w.basis (begins_so had b work bytes x.given w.asks (x.ended_is ∙ sym same) w.read w.asked) w.behind (Chunk item) (grows_at b same) (group_little (may_leave mid) (shown mid) session work before w.asks w.basis w.behind w.at little) T end (may_leave now) (shown now) self (was_of session) (broke (work_after_all work w.asks) w.basis given_readable w.at)

-- ---- the parts of a piece

-- what the front of the input asks that was worked
pub front_first : (may_leave : Image → Type 0) (o : Shown) (session : Session) (reader : Held) (was : Was) (work : Work) (before bytes : List ℕ) (given : List Item) (input left : List ℕ) → (w : IsWorking may_leave o session reader was work before bytes given) → input ≡ bytes ++ left → reader.ended ≡ false → FirstAsksOf work input w.asks
front_first may_leave o session reader was work before bytes given input left w is opened = first_asks reader.ended work bytes left input w.asks (begins_so reader reader.ended work bytes given w.asks refl w.read w.asked) is (still_open reader.ended left opened)

-- these parts of a piece were fed, and what is whole of them is worked
pub record Feeds {D : Type 0} (moment : D → ℕ) (left_since : D → ℕ → ℕ → Image → Type 0) (may_leave : D → Image → Type 0) (shown : D → Shown) (begun now : D) (session : Session) (reader : Held) (was : Was) (work : Work) (before bytes : List ℕ) (first : List Item) (piece : List ℕ) (done : ℕ) : Type 0 where
  pub given : List Item
  pub working : IsWorking (may_leave now) (shown now) session reader was work before (bytes ++ take done piece) given
  pub none : HoldsNoMore false bytes first → HoldsNoMore false (bytes ++ take done piece) given
  pub run : (input left : List ℕ) → input ≡ (bytes ++ piece) ++ left → LeavesOnly moment left_since begun now (Keeps work input before)

-- the parts that were fed, and then the rest of the piece
rest_left : (bytes piece left input : List ℕ) (n : ℕ) → input ≡ (bytes ++ piece) ++ left → (rest : List ℕ) × (input ≡ (bytes ++ take n piece) ++ rest)
rest_left bytes piece left input n is = (drop n piece ++ left, is ∙ ap (λ l. (bytes ++ l) ++ left) cut ∙ ap (λ l. l ++ left) (sym (append_assoc bytes (take n piece) (drop n piece))) ∙ append_assoc (bytes ++ take n piece) (drop n piece) left)
  where
    cut : piece ≡ take n piece ++ drop n piece
    cut = sym (take_all (n + length piece) piece (omega arith)) ∙ take-add n (length piece) piece ∙ ap (λ l. take n piece ++ l) (take_all (length piece) (drop n piece) (omega (arith, length-drop n piece)))

pub next_part : (bytes piece : List ℕ) (done count : ℕ) → (bytes ++ take done piece) ++ take count (take (length piece - done) (drop done piece)) ≡ bytes ++ take (done + count) piece
next_part bytes piece done count = append_assoc bytes (take done piece) _ ∙ ap (λ l. bytes ++ (take done piece ++ take count l)) (take_rest piece done) ∙ ap (λ l. bytes ++ l) (sym (take-add done count piece))

module _ {D : Type 0} (moment : D → ℕ) (left_since : D → ℕ → ℕ → Image → Type 0) (may_leave : D → Image → Type 0) (shown : D → Shown) (begun : D) (was : Was) (work : Work) (before bytes : List ℕ) (first : List Item) (piece : List ℕ) where
  pub feeds_start : (session : Session) (reader : Held) → ((told : ℕ) (c : Image) → left_since begun (moment begun) told c → may_leave begun c × (told ≡ (shown begun).told)) → reader.ended ≡ false → IsWorking (may_leave begun) (shown begun) session reader was work before bytes first
      → Feeds moment left_since may_leave shown begun begun session reader was work before bytes first piece 0
  feeds_start session reader only opened w =
      let P : List ℕ → Type 0 = λ l. IsWorking (may_leave begun) (shown begun) session reader was work before l first in
      let Q : List ℕ → Type 0 = λ l. HoldsNoMore false l first in
      record {
        given = first;
        working = subst P (sym (append-nil bytes)) w;
        none = λ none. subst Q (sym (append-nil bytes)) none;
        run = λ input left is.
            let firsts = front_first (may_leave begun) (shown begun) session reader was work before bytes first input (piece ++ left) w (is ∙ append_assoc bytes piece left) opened in
            group_starts moment left_since (FirstAsksOf work input) (first_front work input) work before w.asks w.basis firsts w.behind (may_leave begun) (shown begun) session begun only w.at;
      }

  -- a part more
  module _ (mid now : D) (session self : Session) (had fed_reader reader : Held) (done count : ℕ) (x : Feeds moment left_since may_leave shown begun mid session had was work before bytes first piece done) (feeds : (fed : List ℕ) (items : List Item) → HasRead had fed items → HasRead fed_reader (fed ++ take count (take (length piece - done) (drop done piece))) items) where
    part_fed : IsWorking (may_leave mid) (shown mid) session fed_reader was work before (bytes ++ take (done + count) piece) x.given
    part_fed =
        let P : List ℕ → Type 0 = λ l. HasRead fed_reader l x.given in
        fed_on (may_leave mid) (shown mid) session had fed_reader was work before (bytes ++ take done piece) (bytes ++ take (done + count) piece) x.given x.working (subst P (next_part bytes piece done count) (feeds (bytes ++ take done piece) x.given x.working.read))

    pub part_run : fed_reader.ended ≡ false → ((w : Was) (v : Work) (before_it fed : List ℕ) (items : List Item) → IsWorking (may_leave mid) (shown mid) session fed_reader w v before_it fed items → LeavesOnly moment left_since mid now (AnswersLeave fed_reader.ended v before_it fed))
        → (input left : List ℕ) → input ≡ (bytes ++ piece) ++ left → LeavesOnly moment left_since begun now (Keeps work input before)
    part_run opened leaves input left is =
        let rest = rest_left bytes piece left input (done + count) is in
        keeps_on moment left_since begun mid now work input before (x.run input left is)
        (answers_last moment left_since mid now fed_reader.ended work before (bytes ++ take (done + count) piece) rest.0 input rest.1 (still_open fed_reader.ended rest.0 opened) (leaves was work before (bytes ++ take (done + count) piece) x.given part_fed))

    pub feeds_part : fed_reader.ended ≡ false → reader.ended ≡ fed_reader.ended → ((w : Was) (v : Work) (before_it fed : List ℕ) (items : List Item) → IsWorking (may_leave mid) (shown mid) session fed_reader w v before_it fed items → WorksAll {T = Unit {0}} (Ok tt) (may_leave now) (shown now) self reader w v before_it fed)
        → ((w : Was) (v : Work) (before_it fed : List ℕ) (items : List Item) → IsWorking (may_leave mid) (shown mid) session fed_reader w v before_it fed items → LeavesOnly moment left_since mid now (AnswersLeave fed_reader.ended v before_it fed))
        → Feeds moment left_since may_leave shown begun now self reader was work before bytes first piece (done + count)
    feeds_part opened same worked leaves =
        let all = worked was work before (bytes ++ take (done + count) piece) x.given part_fed in
        let P : Bool → Type 0 = λ b. HoldsNoMore b (bytes ++ take (done + count) piece) all.0 in
        record { given = all.0; working = all.1; none = λ none. subst P (same ∙ opened) all.2; run = part_run opened leaves }

    pub part_breaks : (T : Type 0) (end : SessionEnd) (is_now : Was) → fed_reader.ended ≡ false → reader.ended ≡ fed_reader.ended → ((w : Was) (v : Work) (before_it fed : List ℕ) (items : List Item) → IsWorking (may_leave mid) (shown mid) session fed_reader w v before_it fed items → BreaksOff end (may_leave now) (shown now) self (BeginsAsking v reader.ended fed) v before_it)
        → (input left : List ℕ) → input ≡ (bytes ++ piece) ++ left → Ends {T = T} (Err end) (may_leave now) (shown now) was is_now work input before
    part_breaks T end is_now opened same broke input left is =
        let rest = rest_left bytes piece left input (done + count) is in
        breaks T end (may_leave now) (shown now) self (BeginsAsking work reader.ended (bytes ++ take (done + count) piece)) was is_now work before input (λ asks begin. first_asks reader.ended work (bytes ++ take (done + count) piece) rest.0 input asks begin rest.1 (still_open reader.ended rest.0 (same ∙ opened)))
        (broke was work before (bytes ++ take (done + count) piece) x.given part_fed)

  -- the whole piece
  pub feeds_all : (now : D) (session : Session) (reader : Held) (done : ℕ) (input left : List ℕ) → Feeds moment left_since may_leave shown begun now session reader was work before bytes first piece done → length piece ≤ done → HoldsNoMore false bytes first → PieceWorked {T = Unit {0}} (Ok tt) (may_leave now) (shown now) session reader was work input before (bytes ++ piece)
  feeds_all now session reader done input left x long none =
      let P : List ℕ → Type 0 = λ l. (given : List Item) × IsWorking (may_leave now) (shown now) session reader was work before (bytes ++ l) given × HoldsNoMore false (bytes ++ l) given in
      subst P (take_all done piece long) (x.given, x.working, x.none none)

-- ---- the pieces of the input

-- a front of the input was taken, and what is whole of it is answered
pub record TakesOn {D : Type 0} (moment : D → ℕ) (left_since : D → ℕ → ℕ → Image → Type 0) (may_leave : D → Image → Type 0) (shown : D → Shown) (begun now : D) (session : Session) (reader : Held) (was : Was) (work : Work) (input before : List ℕ) : Type 0 where
  pub taking : IsTaking (may_leave now) (shown now) session reader was work input before
  pub opened : reader.ended ≡ false
  pub run : LeavesOnly moment left_since begun now (Keeps work input before)

taking_first : (may_leave : Image → Type 0) (o : Shown) (session : Session) (reader : Held) (was : Was) (work : Work) (input before : List ℕ) → (h : IsTaking may_leave o session reader was work input before) → reader.ended ≡ false → FirstAsksOf work input h.done.asks
taking_first may_leave o session reader was work input before h opened =
    front_first may_leave o session reader was work before h.bytes h.given input h.left (done_on may_leave o session reader was work before h.bytes h.given h.done) h.input_is opened

module _ {D : Type 0} (moment : D → ℕ) (left_since : D → ℕ → ℕ → Image → Type 0) (may_leave : D → Image → Type 0) (shown : D → Shown) (begun : D) (was : Was) (work : Work) (input before : List ℕ) where
  pub takes_start : (session : Session) (reader : Held) → ((told : ℕ) (c : Image) → left_since begun (moment begun) told c → may_leave begun c × (told ≡ (shown begun).told)) → reader.ended ≡ false → (shown begun).left ≡ Some input → IsDone (may_leave begun) (shown begun) session reader was work before [] []
      → TakesOn moment left_since may_leave shown begun begun session reader was work input before
  takes_start session reader only opened left_is done =
      let taking = takes_first (may_leave begun) (shown begun) session reader was work input before left_is done in
      let w = done_on (may_leave begun) (shown begun) session reader was work before [] [] done in
      record {
        taking = taking;
        opened = opened;
        run = group_starts moment left_since (FirstAsksOf work input) (first_front work input) work before w.asks w.basis (taking_first (may_leave begun) (shown begun) session reader was work input before taking opened) w.behind (may_leave begun) (shown begun) session begun only w.at;
      }

  module _ (old mid : D) (session : Session) (reader : Held) (x : TakesOn moment left_since may_leave shown begun old session reader was work input before) where
    -- a piece is taken
    pub take_run : LeavesOnly moment left_since old mid (IsAsBefore (may_leave old) (shown old).told 0) → LeavesOnly moment left_since begun mid (Keeps work input before)
    take_run quiet =
        let h = x.taking in
        let w = done_on (may_leave old) (shown old) session reader was work before h.bytes h.given h.done in
        group_quiet moment left_since (FirstAsksOf work input) (first_front work input) work before w.asks w.basis (taking_first (may_leave old) (shown old) session reader was work input before h x.opened) w.behind (may_leave old) (shown old) session begun old mid w.at x.run quiet

    -- or none came
    pub take_ends : (T : Type 0) (end : SessionEnd) (is_now : Was) (buf : List ℕ) (n : ℕ) → fed reader ≡ n → shown mid ≡ record (shown old) { left = (shown mid).left } → ((c : Image) → may_leave mid c → may_leave old c) → ((left : List ℕ) → (shown old).left ≡ Some left → Takes (Err end) (shown mid) n buf left) → Ends {T = T} (Err end) (may_leave mid) (shown mid) was is_now work input before
    take_ends T end is_now buf n counted same fewer took =
        let h = x.taking in
        no_more T end (may_leave old) (may_leave mid) (shown old) (shown mid) session was is_now reader work input before buf h x.opened same fewer n counted (took h.left h.left_is)

    module _ (buf : List ℕ) (n count : ℕ) (same : shown mid ≡ record (shown old) { left = (shown mid).left }) (fewer : (c : Image) → may_leave mid c → may_leave old c) (took : (left : List ℕ) → (shown old).left ≡ Some left → Takes (Ok count) (shown mid) n buf left) where
      taken : IsTaken (may_leave mid) (shown mid) session reader was work input before (take count buf) count
      taken = taken_more (may_leave old) (may_leave mid) (shown old) (shown mid) session reader was work input before buf n count x.taking same fewer (took x.taking.left x.taking.left_is)

      taken_working : IsWorking (may_leave mid) (shown mid) session reader was work before taken.bytes taken.given
      taken_working = done_on (may_leave mid) (shown mid) session reader was work before taken.bytes taken.given taken.done

      -- the input is at its end
      pub take_last : (now_reader : Held) → count ≡ 0 → fed reader ≤ input_limit → ((fed : List ℕ) (items : List Item) → HasRead reader fed items → HasRead now_reader fed items) → AtEnd (may_leave mid) (shown mid) session now_reader was work input before
      take_last now_reader none within reads = ends_taking (may_leave mid) (shown mid) session reader now_reader was work input before buf count taken none within (reads taken.bytes taken.given taken.done.read)

      -- the piece is worked
      module _ (now : D) (self : Session) (now_reader : Held) (leaves : (w : Was) (v : Work) (before_it fed : List ℕ) (items : List Item) → IsWorking (may_leave mid) (shown mid) session reader w v before_it fed items → (whole left : List ℕ) → whole ≡ (fed ++ take count buf) ++ left → LeavesOnly moment left_since mid now (Keeps v whole before_it)) where
        pub piece_run : LeavesOnly moment left_since old mid (IsAsBefore (may_leave old) (shown old).told 0) → LeavesOnly moment left_since begun now (Keeps work input before)
        piece_run quiet = keeps_on moment left_since begun mid now work input before (take_run quiet) (leaves was work before taken.bytes taken.given taken_working input taken.left taken.input_is)

        pub piece_ends : (end : SessionEnd) → ((w : Was) (v : Work) (before_it fed : List ℕ) (items : List Item) → IsWorking (may_leave mid) (shown mid) session reader w v before_it fed items → HoldsNoMore false fed items → (whole left : List ℕ) → whole ≡ (fed ++ take count buf) ++ left → Ends {T = Unit {0}} (Err end) (may_leave now) (shown now) w (was_of self) v whole before_it)
            → Ends {T = Unit {0}} (Err end) (may_leave now) (shown now) was (was_of self) work input before
        piece_ends end broke = broke was work before taken.bytes taken.given taken_working taken.none input taken.left taken.input_is

        module _ (worked : (w : Was) (v : Work) (before_it fed : List ℕ) (items : List Item) → IsWorking (may_leave mid) (shown mid) session reader w v before_it fed items → HoldsNoMore false fed items → (whole left : List ℕ) → whole ≡ (fed ++ take count buf) ++ left → PieceWorked {T = Unit {0}} (Ok tt) (may_leave now) (shown now) self now_reader w v whole before_it (fed ++ take count buf)) (opened : now_reader.ended ≡ false) where
          piece_worked : PieceWorked {T = Unit {0}} (Ok tt) (may_leave now) (shown now) self now_reader was work input before (taken.bytes ++ take count buf)
          piece_worked = worked was work before taken.bytes taken.given taken_working taken.none input taken.left taken.input_is

          piece_first : FirstAsksOf work input piece_worked.1.asks
          piece_first = front_first (may_leave now) (shown now) self now_reader was work before (taken.bytes ++ take count buf) piece_worked.0 input taken.left piece_worked.1 taken.input_is opened

          -- and flushed
          module _ (end_of : D) (last : Session) (flush_leaves : (w : Work) (basis : Ground) → IsAmid (may_leave now) (shown now) self w basis → LeavesOnly moment left_since now end_of (FlushLeaves w basis)) where
            pub piece_flush_run : LeavesOnly moment left_since old mid (IsAsBefore (may_leave old) (shown old).told 0) → LeavesOnly moment left_since begun end_of (Keeps work input before)
            piece_flush_run quiet =
                let w = piece_worked.1 in
                group_flushed moment left_since (FirstAsksOf work input) (first_front work input) work before w.asks w.basis piece_first w.behind begun now end_of (piece_run quiet) (flush_leaves (work_after_all work w.asks) w.basis w.at)

            pub piece_flush_ends : (T : Type 0) (end : SessionEnd) (is_now : Was) → ((w : Work) (basis : Ground) → IsAmid (may_leave now) (shown now) self w basis → Flushed {T = T} (Err end) (may_leave end_of) (shown end_of) last w basis) → Ends {T = T} (Err end) (may_leave end_of) (shown end_of) was is_now work input before
            piece_flush_ends T end is_now broke =
                let w = piece_worked.1 in
                breaks T end (may_leave end_of) (shown end_of) last (FirstAsksOf work input) was is_now work before input (λ asks first. first)
                (broke_by_flush (FirstAsksOf work input) (first_front work input) work before w.asks w.basis piece_first w.behind w.group T end (may_leave end_of) (shown end_of) last (broke (work_after_all work w.asks) w.basis w.at))

            pub takes_piece : ((w : Work) (basis : Ground) → IsAmid (may_leave now) (shown now) self w basis → Flushed {T = Unit {0}} (Ok tt) (may_leave end_of) (shown end_of) last w basis) → HasSameRest self last → (shown now).left ≡ (shown mid).left → (shown end_of).left ≡ (shown now).left → LeavesOnly moment left_since old mid (IsAsBefore (may_leave old) (shown old).told 0)
                → TakesOn moment left_since may_leave shown begun end_of last now_reader was work input before
            takes_piece flushed rest now_left last_left quiet =
                let w = piece_worked.1 in
                record {
                  taking = taking_on (may_leave now) (may_leave end_of) (shown mid) (shown now) (shown end_of) self last now_reader was work input before (taken.bytes ++ take count buf) taken.left taken.input_is taken.left_is now_left last_left piece_worked (flushed (work_after_all work w.asks) w.basis w.at) rest;
                  opened = opened;
                  run = piece_flush_run quiet;
                }
