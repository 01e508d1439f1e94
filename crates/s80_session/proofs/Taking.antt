-- The input, taken piece by piece and worked as far as it is whole.
use Rattle.std.proofs.Common.{◌≡◌, inl, inr, ℕ, ◌≤◌, List, [], ◌∷◌, ◌++◌, length, take, refl, sym, ap, subst, ◌∙◌, Ok, Err, Some, Bool, true, false, append_assoc, arith}
use Rattle.std.specs.Prelude.{◌||◌}
use Rattle.std.proofs.lemmas.List.{append-nil}
use Rattle.std.proofs.lemmas.Bool.{true≢false}
use Rattle.s80_chunk.specs.declared.item.Item.{Item}
use Rattle.s80_chunk.specs.Chunks.{IsEnd, Reads}
use Rattle.s80_chunk.specs.Chunks.Reads.{stop, take as takes}
use Rattle.s80_chunk.specs.Held.{Held, HasRead, HoldsNoMore, fed}
use Rattle.s80_chunk.proofs.lemmas.Reading.{reads_more, reads_ended}
use Rattle.s80_disk.specs.Image.{Image}
use Rattle.s80_disk.specs.Shown.{Shown}
use Rattle.s80_session.specs.declared.session.Session.{Session}
use Rattle.s80_session.specs.declared.end.SessionEnd.{SessionEnd}
use Rattle.s80_session.specs.declared.end.SessionEnd.TheVariants as ends
use Rattle.s80_model.specs.Asked.{Ask, evaluates}
use Rattle.s80_model.specs.Replies.{Work, AllAsk, work_after, work_after_all, replies}
use Rattle.s80_session.specs.Run.{ShownFor, chunks, FirstItemsOf, FirstAsksOf, WholeAsksOf, Answered, BrokeOff, Ends, input_limit}
use Rattle.s80_session.specs.Session.{Was, HasSameRest, troubled_of, was_of}
use Rattle.s80_session.specs.Working.{at_rest, AtEnd, BeginsAsking, BeginsWith, BreaksOff, Flushed, IsAt, IsDone, IsWorking, PieceWorked, Takes}
use Rattle.s80_session.proofs.Answering.{flushed_on}
use Rattle.s80_session.proofs.Grouping.{work_after_more}
use Rattle.s80_session.proofs.lemmas.Amid.{amid_later, amid_stands}

-- ---- a front of the input

-- what a front of the input reads as is what the input begins with
pub first_of : (ended : Bool) (bytes left input : List ℕ) (given : List Item) → BeginsWith ended bytes given → input ≡ bytes ++ left → (ended ≡ true → left ≡ []) → FirstItemsOf input (chunks given)
first_of false bytes left input given h is none =
    let P : List ℕ → Type 0 = λ l. Reads true false l given (h.0 ++ left) in
    inl (given, h.0 ++ left, subst P (sym is) (reads_ended false (bytes ++ left) given (h.0 ++ left) (reads_more false bytes left given h.0 h.1)), refl)
first_of true bytes left input given h is none =
    let P : List ℕ → Type 0 = λ l. Reads true false l given h.0 in
    inl (given, h.0, subst P (sym (is ∙ ap (λ (l : List ℕ). bytes ++ l) (none refl) ∙ append-nil bytes)) h.1, refl)

-- and asks what the front does
pub first_asks : (ended : Bool) (work : Work) (bytes left input : List ℕ) (asks : List Ask) → BeginsAsking work ended bytes asks → input ≡ bytes ++ left → (ended ≡ true → left ≡ []) → FirstAsksOf work input asks
first_asks ended work bytes left input asks h is none = (chunks h.0, first_of ended bytes left input h.0 h.1 is none, h.2)

pub still_open : (b : Bool) (left : List ℕ) → b ≡ false → b ≡ true → left ≡ []
still_open b left is not = cc

-- no bytes hold no item
no_end : (front after : List ℕ) → [] ≡ front ++ after → IsEnd false after → ⊥
no_end [] [] e end = true≢false (sym end)
no_end [] (b ∷ after) e end = cc
no_end (b ∷ front) after e end = cc

reads_nothing : (section : Bool) (given : List Item) (rest : List ℕ) → Reads false section [] given rest → given ≡ []
reads_nothing section given rest (stop e n) = n
reads_nothing section given rest (takes front after first others t w f m r) = absurd (no_end front after f w)

pub none_held : HoldsNoMore false [] []
none_held item rest reads = absurd (let e = reads_nothing false (item ∷ []) rest reads in cc)

-- ---- where a run ends

pub answered_all : (may_leave : Image → Type 0) (now : Shown) (session : Session) (work : Work) (before : List ℕ) (asks : List Ask) → IsAt may_leave now session (work_after_all work asks) (before ++ replies work asks) → Answered may_leave now work before asks
answered_all may_leave now session work before asks h = record { stands = amid_stands may_leave now session (work_after_all work asks) (at_rest (work_after_all work asks) (before ++ replies work asks)) h; taken = h.taken }

-- where the work breaks off, the run does
pub breaks : (T : Type 0) (end : SessionEnd) (may_leave : Image → Type 0) (now : Shown) (session : Session) (Begins : List Ask → Type 0) (was is_now : Was) (work : Work) (before input : List ℕ) → ((asks : List Ask) → Begins asks → FirstAsksOf work input asks) → BreaksOff end may_leave now session Begins work before → Ends {T = T} (Err end) may_leave now was is_now work input before
breaks T ends.Memory may_leave now session Begins was is_now work before input firsts (inl h) = inl (record {
  asks = h.0;
  first = firsts h.0 h.1;
  answered = answered_all may_leave now session work before h.0 h.2;
})
breaks T ends.Memory may_leave now session Begins was is_now work before input firsts (inr (asks, text, told, stopped, begins, at)) =
    let last = evaluates text told stopped in
    let behind = work_after (work_after_all work asks) last in
    let P : Work → Type 0 = λ w. ShownFor may_leave now w.changes in
    inr (record {
      asks = asks;
      text = text;
      told = told;
      stopped = stopped;
      first = firsts (asks ++ last ∷ []) begins;
      stands = subst P (sym (work_after_more work asks last)) (amid_stands may_leave now session behind (at_rest behind (before ++ replies work asks)) at);
      taken = at.taken;
    })
breaks T (ends.Disk failed) may_leave now session Begins was is_now work before input firsts h = record {
  asks = h.0;
  more = h.1;
  first = firsts (h.0 ++ h.1) h.2;
  taken = h.3.taken;
  reads = h.3.reads;
}
breaks T (ends.Write failed) may_leave now session Begins was is_now work before input firsts h = record {
  asks = h.0;
  count = h.1;
  short = h.2;
  group = h.5;
  first = firsts h.0 h.3;
  stands = amid_stands may_leave now session (work_after_all work h.0) (at_rest (work_after_all work h.0) (before ++ take h.1 (replies work h.0))) h.4;
  taken = h.4.taken;
}
breaks T (ends.Read failed) may_leave now session Begins was is_now work before input firsts h = absurd h
breaks T ends.TooLong may_leave now session Begins was is_now work before input firsts h = absurd h
breaks T (ends.Damaged damage) may_leave now session Begins was is_now work before input firsts h = absurd h

-- ---- a part of a piece

-- more bytes are fed
pub fed_on : (may_leave : Image → Type 0) (o : Shown) (session : Session) (held reader : Held) (was : Was) (work : Work) (before bytes more : List ℕ) (given : List Item) → IsWorking may_leave o session held was work before bytes given → HasRead reader more given → IsWorking may_leave o session reader was work before more given
fed_on may_leave o session held reader was work before bytes more given w read = record { asks = w.asks; read = read; asked = w.asked; basis = w.basis; behind = w.behind; group = w.group; at = w.at; troubled = w.troubled; last_run = w.last_run }

-- ---- a piece

-- a front of the input was taken, and what is whole of it is answered
pub record IsTaking (may_leave : Image → Type 0) (now : Shown) (session : Session) (reader : Held) (was : Was) (work : Work) (input before : List ℕ) : Type 0 where
  pub bytes : List ℕ
  pub left : List ℕ
  pub given : List Item
  pub input_is : input ≡ bytes ++ left
  pub left_is : now.left ≡ Some left
  pub done : IsDone may_leave now session reader was work before bytes given
  pub none : HoldsNoMore false bytes given

-- before the first piece
abbrev pub takes_first : (may_leave : Image → Type 0) (now : Shown) (session : Session) (reader : Held) (was : Was) (work : Work) (input before : List ℕ) → now.left ≡ Some input → IsDone may_leave now session reader was work before [] [] → IsTaking may_leave now session reader was work input before
takes_first may_leave now session reader was work input before left_is done = record { bytes = []; left = input; given = []; input_is = refl; left_is = left_is; done = done; none = none_held }

whole_of : (reader : Held) (work : Work) (bytes : List ℕ) (given : List Item) (asks : List Ask) → reader.ended ≡ false → HasRead reader bytes given → AllAsk work (chunks given) asks → HoldsNoMore false bytes given → WholeAsksOf work bytes asks
whole_of reader work bytes given asks opened read asked none =
    let P : Bool → Type 0 = λ b. Reads b false bytes given read.rest in
    (chunks given, (given, read.rest, subst P opened read.reads, none, refl), asked)

-- taking input leaves what the disk stands for, and what was put
done_later : (was_left may_leave : Image → Type 0) (mid now : Shown) (session : Session) (reader : Held) (was : Was) (work : Work) (before bytes : List ℕ) (given : List Item) → now ≡ record mid { left = now.left } → ((c : Image) → may_leave c → was_left c) → IsDone was_left mid session reader was work before bytes given → IsDone may_leave now session reader was work before bytes given
done_later was_left may_leave mid now session reader was work before bytes given same fewer d = record {
  asks = d.asks;
  read = d.read;
  asked = d.asked;
  at = amid_later was_left may_leave mid now session (work_after_all work d.asks) (at_rest (work_after_all work d.asks) (before ++ replies work d.asks)) same fewer d.at;
  troubled = d.troubled;
  last_run = d.last_run;
}

-- a run to which no more input came
pub no_more : (T : Type 0) (end : SessionEnd) (was_left may_leave : Image → Type 0) (mid now : Shown) (session : Session) (was is_now : Was) (reader : Held) (work : Work) (input before buf : List ℕ) → (h : IsTaking was_left mid session reader was work input before) → reader.ended ≡ false → now ≡ record mid { left = now.left } → ((c : Image) → may_leave c → was_left c) → (n : ℕ) → fed reader ≡ n → Takes (Err end) now n buf h.left → Ends {T = T} (Err end) may_leave now was is_now work input before
no_more T (ends.Read failed) was_left may_leave mid now session was is_now reader work input before buf h opened same fewer n counted t =
    let d = done_later was_left may_leave mid now session reader was work before h.bytes h.given same fewer h.done in
    record {
      asks = d.asks;
      got = h.bytes;
      left = h.left;
      input_is = h.input_is;
      left_is = t;
      whole = whole_of reader work h.bytes h.given d.asks opened d.read d.asked h.none;
      answered = answered_all may_leave now session work before d.asks d.at;
    }
no_more T ends.TooLong was_left may_leave mid now session was is_now reader work input before buf h opened same fewer n counted t =
    let d = done_later was_left may_leave mid now session reader was work before h.bytes h.given same fewer h.done in
    record {
      asks = d.asks;
      got = h.bytes;
      next = t.0;
      left = t.1;
      input_is = h.input_is ∙ ap (λ (l : List ℕ). h.bytes ++ l) t.2;
      limit = sym d.read.counted ∙ counted ∙ t.4;
      left_is = t.3;
      whole = whole_of reader work h.bytes h.given d.asks opened d.read d.asked h.none;
      answered = answered_all may_leave now session work before d.asks d.at;
    }
no_more T ends.Memory was_left may_leave mid now session was is_now reader work input before buf h opened same fewer n counted t = absurd t
no_more T (ends.Damaged damage) was_left may_leave mid now session was is_now reader work input before buf h opened same fewer n counted t = absurd t
no_more T (ends.Write failed) was_left may_leave mid now session was is_now reader work input before buf h opened same fewer n counted t = absurd t
no_more T (ends.Disk failed) was_left may_leave mid now session was is_now reader work input before buf h opened same fewer n counted t = absurd t

-- a piece more was taken
pub record IsTaken (may_leave : Image → Type 0) (now : Shown) (session : Session) (reader : Held) (was : Was) (work : Work) (input before piece : List ℕ) (count : ℕ) : Type 0 where
  pub bytes : List ℕ
  pub left : List ℕ
  pub given : List Item
  pub input_is : input ≡ (bytes ++ piece) ++ left
  pub left_is : now.left ≡ Some left
  pub done : IsDone may_leave now session reader was work before bytes given
  pub none : HoldsNoMore false bytes given
  pub at_end : count ≡ 0 → left ≡ []

pub taken_more : (was_left may_leave : Image → Type 0) (mid now : Shown) (session : Session) (reader : Held) (was : Was) (work : Work) (input before buf : List ℕ) (n count : ℕ) → (h : IsTaking was_left mid session reader was work input before) → now ≡ record mid { left = now.left } → ((c : Image) → may_leave c → was_left c) → Takes (Ok count) now n buf h.left → IsTaken may_leave now session reader was work input before (take count buf) count
taken_more was_left may_leave mid now session reader was work input before buf n count h same fewer t = record {
  bytes = h.bytes;
  left = t.0;
  given = h.given;
  input_is = h.input_is ∙ ap (λ (l : List ℕ). h.bytes ++ l) t.1 ∙ sym (append_assoc h.bytes (take count buf) t.0);
  left_is = t.2;
  done = done_later was_left may_leave mid now session reader was work before h.bytes h.given same fewer h.done;
  none = h.none;
  at_end = t.3;
}

-- what is whole of it is worked, and all of that is flushed
pub taking_on : (was_left may_leave : Image → Type 0) (old mid now : Shown) (at_work session : Session) (reader : Held) (was : Was) (work : Work) (input before bytes left : List ℕ) → input ≡ bytes ++ left → old.left ≡ Some left → mid.left ≡ old.left → now.left ≡ mid.left → (p : PieceWorked {T = Unit {0}} (Ok tt) was_left mid at_work reader was work input before bytes)
    → Flushed {T = Unit {0}} (Ok tt) may_leave now session (work_after_all work p.1.asks) p.1.basis → HasSameRest at_work session → IsTaking may_leave now session reader was work input before
taking_on was_left may_leave old mid now at_work session reader was work input before bytes left is left_is mid_same now_same p flushed same = record {
  bytes = bytes;
  left = left;
  given = p.0;
  input_is = is;
  left_is = now_same ∙ mid_same ∙ left_is;
  done = flushed_on was_left may_leave mid now at_work session reader was work before bytes p.0 p.1 flushed same;
  none = p.2;
}

-- the input is at its end
pub ends_taking : (may_leave : Image → Type 0) (now : Shown) (session : Session) (held reader : Held) (was : Was) (work : Work) (input before buf : List ℕ) (count : ℕ) → (h : IsTaken may_leave now session held was work input before (take count buf) count) → count ≡ 0 → fed held ≤ input_limit → HasRead reader h.bytes h.given → AtEnd may_leave now session reader was work input before
ends_taking may_leave now session held reader was work input before buf count h none within read =
    let nothing : (h.bytes ++ take count buf) ++ h.left ≡ (h.bytes ++ []) ++ [] = ap (λ (n : ℕ). (h.bytes ++ take n buf) ++ h.left) none ∙ ap (λ (l : List ℕ). (h.bytes ++ []) ++ l) (h.at_end none) in
    let input_is : input ≡ h.bytes = h.input_is ∙ nothing ∙ append-nil (h.bytes ++ []) ∙ append-nil h.bytes in
    let P : List ℕ → Type 0 = λ l. HasRead reader l h.given in
    let size : length input ≡ fed held = ap length input_is ∙ sym h.done.read.counted in
    record {
      given = h.given;
      done = record { asks = h.done.asks; read = subst P (sym input_is) read; asked = h.done.asked; at = h.done.at; troubled = h.done.troubled; last_run = h.done.last_run };
      left = h.left_is ∙ ap Some (h.at_end none);
      within = omega (arith, size, within);
    }

-- ---- before any item

or_false : (b : Bool) → b ≡ (b || false)
or_false true = refl
or_false false = refl

pub starts_done : (may_leave : Image → Type 0) (o : Shown) (session : Session) (reader : Held) (work : Work) (before : List ℕ) → HasRead reader [] [] → IsAt may_leave o session work before → IsDone may_leave o session reader (was_of session) work before [] []
starts_done may_leave o session reader work before read h =
    let P : List ℕ → Type 0 = λ l. IsAt may_leave o session work l in
    record { asks = []; read = read; asked = tt; at = subst P (sym (append-nil before)) h; troubled = or_false (troubled_of session); last_run = refl }

pub broke_at_start : (may_leave : Image → Type 0) (now : Shown) (session : Session) (work : Work) (input before : List ℕ) → IsAt may_leave now session work before → BrokeOff may_leave now work input before
broke_at_start may_leave now session work input before h = record {
  asks = [];
  first = ([], inl ([], input, stop refl refl, refl), tt);
  answered = record { stands = amid_stands may_leave now session work (at_rest work before) h; taken = h.taken ∙ ap Some (sym (append-nil before)) };
}
