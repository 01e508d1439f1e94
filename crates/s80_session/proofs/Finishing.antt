-- The end of an input.
use Rattle.std.proofs.Common.{arith, ◌≡◌, inl, inr, ℕ, ◌≤◌, List, [], ◌∷◌, ◌++◌, length, refl, sym, subst, ◌∙◌, Result, Ok, Err, Option, Some}
use Rattle.s80_chunk.specs.declared.item.Item.{Item}
use Rattle.s80_chunk.specs.declared.rest.Rest.{Rest}
use Rattle.s80_chunk.specs.declared.rest.Rest.TheVariants as rests
use Rattle.s80_chunk.specs.Held.{Held, EndsWith}
use Rattle.s80_chunk.proofs.lemmas.Spelling.{blank_only}
use Rattle.s80_disk.specs.Image.{Image}
use Rattle.s80_disk.specs.Shown.{Shown}
use Rattle.s80_machine.specs.Came.{RanValue}
use Rattle.s80_session.specs.declared.session.Session.{Session}
use Rattle.s80_model.specs.declared.item.SessionItem.TheVariants.{Unended}
use Rattle.s80_session.specs.declared.end.SessionEnd.{SessionEnd}
use Rattle.s80_model.specs.Asked.{Ask}
use Rattle.s80_model.specs.Replies.{Work, AllAsk, AsksIn, work_after_all, any_trouble}
use Rattle.s80_session.specs.LastRun.{RunBehindAll}
use Rattle.s80_session.specs.Run.{chunks, ItemsOf, FirstAsksOf, Ends, input_limit}
use Rattle.s80_session.specs.Session.{Was, HasLittle, HasSameRest, last_run_of, troubled_of, was_of}
use Rattle.s80_session.specs.Working.{Finishes, Flushed, IsAt, IsFinished, IsWorking, Worked}
use Rattle.s80_session.proofs.Answering.{asks_more, run_by_now, troubled_by_now}
use Rattle.s80_session.proofs.Fronts.{first_front, first_of_all}
use Rattle.s80_session.proofs.Grouping.{broke_by_flush, broke_by_work, stands_more}
use Rattle.s80_session.proofs.OneGroup.{group_little}
use Rattle.s80_session.proofs.Taking.{answered_all, breaks}

-- behind the last item stand separators alone
clean_end : (may_leave : Image → Type 0) (now : Shown) (session : Session) (reader : Held) (was : Was) (work : Work) (input before : List ℕ) (given : List Item) → EndsWith rests.Clean input given → IsWorking may_leave now session reader was work before input given → now.left ≡ Some [] → length input ≤ input_limit → IsFinished may_leave now session was work input before
clean_end may_leave now session reader was work input before given h w left within = record {
  asks = w.asks;
  all = (chunks given, (given, h.0, h.1, inl (h.2, refl)), w.asked);
  within = within;
  left = left;
  basis = w.basis;
  behind = w.behind;
  group = w.group;
  at = w.at;
  troubled = w.troubled;
  last_run = w.last_run;
}

pub finished_clean : (rest : Rest) (may_leave : Image → Type 0) (now : Shown) (session : Session) (reader : Held) (was : Was) (work : Work) (input before : List ℕ) (given : List Item) → rest ≡ rests.Clean → EndsWith rest input given → IsWorking may_leave now session reader was work before input given → now.left ≡ Some [] → length input ≤ input_limit → IsFinished may_leave now session was work input before
finished_clean rest may_leave now session reader was work input before given is h = let P : Rest → Type 0 = λ r. EndsWith r input given in clean_end may_leave now session reader was work input before given (subst P is h)

-- within an item
pub unended_items : (input : List ℕ) (given : List Item) (place : ℕ) → EndsWith (rests.Unended place) input given → ItemsOf input (chunks given ++ Unended ∷ [])
unended_items input given place h = (given, h.0, h.1, inr (λ blank. blank_only h.0 h.2.blank h.2.first h.2.others blank h.2.is_none h.2.whole, refl))

-- what the items before an unended one ask, and what it asks behind them
pub record IsUnendedInput (work : Work) (input : List ℕ) (given : List Item) (asks : List Ask) : Type 0 where
  pub first : FirstAsksOf work input asks
  pub items : ItemsOf input (chunks given ++ Unended ∷ [])
  pub grows : (ask : Ask) → AsksIn (work_after_all work asks) Unended ask → FirstAsksOf work input (asks ++ ask ∷ [])

pub unended_input : (rest : Rest) (work : Work) (input : List ℕ) (given : List Item) (asks : List Ask) (place : ℕ) → rest ≡ rests.Unended place → EndsWith rest input given → AllAsk work (chunks given) asks → IsUnendedInput work input given asks
unended_input rest work input given asks place is h asked =
    let P : Rest → Type 0 = λ x. EndsWith x input given in
    let e = subst P is h in
    let items = unended_items input given place e in
    record {
      first = (chunks given, inl (given, e.0, e.1.reads, refl), asked);
      items = items;
      grows = λ ask one. (chunks given ++ Unended ∷ [], inr items, asks_more work (chunks given) asks Unended ask asked one);
    }

pub finished_unended : {T : Type 0} (r : Result T SessionEnd) (was_left may_leave : Image → Type 0) (mid now : Shown) (at_work session : Session) (reader : Held) (was : Was) (work : Work) (input before : List ℕ) (given : List Item) → (w : IsWorking was_left mid at_work reader was work before input given) → HasLittle at_work → IsUnendedInput work input given w.asks
    → Worked r may_leave now session (was_of at_work) (work_after_all work w.asks) w.basis Unended → now.left ≡ Some [] → length input ≤ input_limit → Finishes r may_leave now session was work input before
finished_unended (Ok done) was_left may_leave mid now at_work session reader was work input before given w little u h left within =
    let group = group_little was_left mid at_work work before w.asks w.basis w.behind w.at little (h.0 ∷ []) (omega arith) in
    let stands = stands_more work before w.asks h.0 w.basis w.behind may_leave now session group h.4 in
    record {
      asks = w.asks ++ h.0 ∷ [];
      all = (chunks given ++ Unended ∷ [], u.items, asks_more work (chunks given) w.asks Unended h.0 w.asked h.1);
      within = within;
      left = left;
      basis = stands.0;
      behind = stands.2;
      group = stands.3;
      at = stands.1;
      troubled = troubled_by_now was.troubled work w.asks h.0 (troubled_of at_work) (troubled_of session) w.troubled h.2;
      last_run = run_by_now work w.asks h.0 was.last_run (last_run_of at_work) (last_run_of session) w.last_run h.3;
    }
finished_unended (Err end) was_left may_leave mid now at_work session reader was work input before given w little u h left within =
    breaks (Unit {0}) end may_leave now session (FirstAsksOf work input) was (was_of session) work before input (λ asks first. first)
    (broke_by_work (FirstAsksOf work input) (first_front work input) work before w.asks w.basis u.first w.behind Unended u.grows (group_little was_left mid at_work work before w.asks w.basis w.behind w.at little) (Unit {0}) end may_leave now session (was_of at_work) h)

-- all of it is flushed
pub finished_ends : {T : Type 0} (r : Result T SessionEnd) (was_left may_leave : Image → Type 0) (mid now : Shown) (at_work session : Session) (was : Was) (work : Work) (input before : List ℕ) → (f : IsFinished was_left mid at_work was work input before) → Flushed r may_leave now session (work_after_all work f.asks) f.basis → HasSameRest at_work session → now.left ≡ mid.left
    → Ends r may_leave now was (was_of session) work input before
finished_ends (Ok done) was_left may_leave mid now at_work session was work input before f h same left =
    let P : List ℕ → Type 0 = λ l. IsAt may_leave now session (work_after_all work f.asks) l in
    let Q : Option RanValue → Type 0 = λ o. RunBehindAll work f.asks was.last_run o in (
      any_trouble work f.asks,
      same.troubled ∙ f.troubled,
      record {
        asks = f.asks;
        all = f.all;
        within = f.within;
        left = left ∙ f.left;
        answered = answered_all may_leave now session work before f.asks (subst P f.behind.held h);
        troubled = refl;
        last_run = subst Q (sym same.last_run) f.last_run;
      },
    )
finished_ends (Err end) was_left may_leave mid now at_work session was work input before f h same left =
    breaks (Unit {0}) end may_leave now session (FirstAsksOf work input) was (was_of session) work before input (λ asks first. first)
    (broke_by_flush (FirstAsksOf work input) (first_front work input) work before f.asks f.basis (first_of_all work input f.asks f.all) f.behind f.group (Unit {0}) end may_leave now session h)
