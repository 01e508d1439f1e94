-- The items that a reader holds, worked one after another, and their groups.
use Rattle.std.proofs.Common.{◌≡◌, inl, ℕ, List, [], ◌∷◌, ◌++◌, refl, sym, ap, subst, ◌∙◌, Ok, Option, Some, Bool, arith, IfSome, IfNone}
use Rattle.std.specs.Prelude.{◌||◌, false, true, option_to_list, None}
use Rattle.std.proofs.lemmas.List.{append-nil}
use Rattle.s80_chunk.specs.declared.item.Item.{Item}
use Rattle.s80_chunk.specs.declared.item.Item.TheVariants as items
use Rattle.s80_chunk.specs.Chunks.{IsSound}
use Rattle.s80_chunk.specs.Held.{Held, HasRead, HoldsNoMore}
use Rattle.s80_disk.specs.Image.{Image}
use Rattle.s80_disk.specs.Shown.{Shown, Faults}
use Rattle.s80_session.specs.declared.session.Session.{Session}
use Rattle.s80_model.specs.declared.item.SessionItem.{SessionItem}
use Rattle.s80_model.specs.declared.item.SessionItem.TheVariants.{Chunk}
use Rattle.s80_session.specs.Ending.{NoFewer}
use Rattle.s80_model.specs.Asked.{Ask}
use Rattle.s80_model.specs.Replies.{Work, AsksIn, AllAsk, reply_to, is_trouble, work_after, work_after_all, replies, any_trouble}
use Rattle.s80_machine.specs.Came.{RanValue}
use Rattle.s80_session.specs.LastRun.{RunBehind, RunBehindAll}
use Rattle.s80_session.specs.Run.{chunks}
use Rattle.s80_session.specs.Session.{Was, HasLittle, HasSameRest, last_run_of, RunSince, troubled_of, was_of}
use Rattle.s80_session.specs.Working.{at_rest, BeginsAsking, BeginsWith, Flushed, IsAt, IsDone, IsReadable, IsWorking, Worked}
use Rattle.s80_session.proofs.Grouping.{behind_done, stands_more}
use Rattle.s80_session.proofs.OneGroup.{group_done, group_little}

-- one item more, in the work behind the others
pub asks_more : (work : Work) (items : List SessionItem) (asks : List Ask) (item : SessionItem) (ask : Ask) → AllAsk work items asks → AsksIn (work_after_all work asks) item ask → AllAsk work (items ++ item ∷ []) (asks ++ ask ∷ [])
asks_more work [] [] item ask all one = (one, tt)
asks_more work [] (other ∷ asks) item ask all one = absurd all
asks_more work (first ∷ items) [] item ask all one = absurd all
asks_more work (first ∷ items) (other ∷ asks) item ask all one = (all.0, asks_more (work_after work other) items asks item ask all.1 one)

pub given_asks_more : (work : Work) (given : List Item) (asks : List Ask) (item : Item) (ask : Ask) → AllAsk work (chunks given) asks → AsksIn (work_after_all work asks) (Chunk item) ask → AllAsk work (chunks (given ++ item ∷ [])) (asks ++ ask ∷ [])
given_asks_more work [] [] item ask all one = (one, tt)
given_asks_more work [] (other ∷ asks) item ask all one = absurd all
given_asks_more work (first ∷ given) [] item ask all one = absurd all
given_asks_more work (first ∷ given) (other ∷ asks) item ask all one = (all.0, given_asks_more (work_after work other) given asks item ask all.1 one)

or_false : (a : Bool) → (a || false) ≡ a
or_false true = refl
or_false false = refl

or_assoc : (a b c : Bool) → (a || (b || c)) ≡ ((a || b) || c)
or_assoc true b c = refl
or_assoc false b c = refl

pub trouble_more : (work : Work) (asks : List Ask) (ask : Ask) → any_trouble work (asks ++ ask ∷ []) ≡ (any_trouble work asks || is_trouble (reply_to (work_after_all work asks) ask))
trouble_more work [] ask = or_false (is_trouble (reply_to work ask))
trouble_more work (first ∷ asks) ask =
    ap (λ b. is_trouble (reply_to work first) || b) (trouble_more (work_after work first) asks ask)
    ∙ or_assoc (is_trouble (reply_to work first)) (any_trouble (work_after work first) asks) (is_trouble (reply_to (work_after_all (work_after work first) asks) ask))

-- whether something was refused or stopped by then
pub troubled_by_now : (past : Bool) (work : Work) (asks : List Ask) (ask : Ask) (was troubled : Bool) → was ≡ (past || any_trouble work asks) → troubled ≡ (was || is_trouble (reply_to (work_after_all work asks) ask)) → troubled ≡ (past || any_trouble work (asks ++ ask ∷ []))
troubled_by_now past work asks ask was troubled before is =
    let trouble = is_trouble (reply_to (work_after_all work asks) ask) in
    is ∙ ap (λ b. b || trouble) before ∙ sym (or_assoc past (any_trouble work asks) trouble) ∙ ap (λ b. past || b) (sym (trouble_more work asks ask))

-- the last run by then
pub run_by_now : (work : Work) (asks : List Ask) (ask : Ask) (before mid now : Option RanValue) → RunBehindAll work asks before mid → RunBehind (work_after_all work asks) ask mid now → RunBehindAll work (asks ++ ask ∷ []) before now
run_by_now work [] ask before mid now all one = (now, (let P : Option RanValue → Type 0 = λ o. RunBehind work ask o now in subst P all one), refl)
run_by_now work (first ∷ asks) ask before mid now all one = (all.0, all.1, run_by_now (work_after work first) asks ask all.0 mid now all.2 one)

-- an item more that a reader gave is worked
pub worked_on : (was_left may_leave : Image → Type 0) (mid now : Shown) (at_work session : Session) (had reader : Held) (was : Was) (work : Work) (before bytes : List ℕ) (given : List Item) (item : Item) → (w : IsWorking was_left mid at_work had was work before bytes given) → HasLittle at_work → HasRead reader bytes (given ++ item ∷ [])
    → Worked {T = Unit {0}} (Ok tt) may_leave now session (was_of at_work) (work_after_all work w.asks) w.basis (Chunk item)
    → IsWorking may_leave now session reader was work before bytes (given ++ item ∷ [])
worked_on was_left may_leave mid now at_work session had reader was work before bytes given item w little read h =
    let group = group_little was_left mid at_work work before w.asks w.basis w.behind w.at little (h.0 ∷ []) (omega arith) in
    let stands = stands_more work before w.asks h.0 w.basis w.behind may_leave now session group h.4 in
    record {
      asks = w.asks ++ h.0 ∷ [];
      read = read;
      asked = given_asks_more work given w.asks item h.0 w.asked h.1;
      basis = stands.0;
      behind = stands.2;
      group = stands.3;
      at = stands.1;
      troubled = troubled_by_now was.troubled work w.asks h.0 (troubled_of at_work) (troubled_of session) w.troubled h.2;
      last_run = run_by_now work w.asks h.0 was.last_run (last_run_of at_work) (last_run_of session) w.last_run h.3;
    }

-- all that was worked is flushed
pub flushed_on : (was_left may_leave : Image → Type 0) (mid now : Shown) (at_work session : Session) (reader : Held) (was : Was) (work : Work) (before bytes : List ℕ) (given : List Item) → (w : IsWorking was_left mid at_work reader was work before bytes given) → Flushed {T = Unit {0}} (Ok tt) may_leave now session (work_after_all work w.asks) w.basis → HasSameRest at_work session
    → IsDone may_leave now session reader was work before bytes given
flushed_on was_left may_leave mid now at_work session reader was work before bytes given w h same =
    let P : List ℕ → Type 0 = λ l. IsAt may_leave now session (work_after_all work w.asks) l in
    let Q : Option RanValue → Type 0 = λ o. RunBehindAll work w.asks was.last_run o in
    record { asks = w.asks; read = w.read; asked = w.asked; at = subst P w.behind.held h; troubled = same.troubled ∙ w.troubled; last_run = subst Q (sym same.last_run) w.last_run }

-- and more may be worked
abbrev pub done_on : (may_leave : Image → Type 0) (o : Shown) (session : Session) (reader : Held) (was : Was) (work : Work) (before bytes : List ℕ) (given : List Item) → IsDone may_leave o session reader was work before bytes given → IsWorking may_leave o session reader was work before bytes given
done_on may_leave o session reader was work before bytes given d = record {
  asks = d.asks;
  read = d.read;
  asked = d.asked;
  basis = at_rest (work_after_all work d.asks) (before ++ replies work d.asks);
  behind = behind_done work before d.asks;
  group = group_done work d.asks;
  at = d.at;
  troubled = d.troubled;
  last_run = d.last_run;
}

pub begins : (reader : Held) (ended : Bool) (bytes : List ℕ) (given : List Item) → reader.ended ≡ ended → HasRead reader bytes given → BeginsWith ended bytes given
begins reader ended bytes given is h = let P : Bool → Type 0 = λ b. BeginsWith b bytes given in subst P is (h.rest, h.reads)

-- and what they ask
pub begins_so : (reader : Held) (ended : Bool) (work : Work) (bytes : List ℕ) (given : List Item) (asks : List Ask) → reader.ended ≡ ended → HasRead reader bytes given → AllAsk work (chunks given) asks → BeginsAsking work ended bytes asks
begins_so reader ended work bytes given asks is h asked = (given, begins reader ended bytes given is h, asked)

-- one item more asks one thing more
pub grows : (ended : Bool) (work : Work) (bytes : List ℕ) (given : List Item) (asks : List Ask) (item : Item) → AllAsk work (chunks given) asks → BeginsWith ended bytes (given ++ item ∷ []) → (ask : Ask) → AsksIn (work_after_all work asks) (Chunk item) ask → BeginsAsking work ended bytes (asks ++ ask ∷ [])
grows ended work bytes given asks item asked has ask one = (given ++ item ∷ [], has, given_asks_more work given asks item ask asked one)

-- an item that a reader gave
pub read_some : (reader : Held) (bytes : List ℕ) (given : List Item) (o : Option Item) (item : Item) → o ≡ Some item → HasRead reader bytes (given ++ option_to_list o) → HasRead reader bytes (given ++ item ∷ [])
read_some reader bytes given o item is h = let P : Option Item → Type 0 = λ x. HasRead reader bytes (given ++ option_to_list x) in subst P is h

-- a session works what a reader gives
pub readable : (item : Item) → IsSound item → IsReadable (Chunk item)
readable (items.Plain text) h = (h.0, h.2)
readable (items.Head text) h = h
readable (items.Method text) h = h
readable items.SectionEnd h = h
readable (items.TooLong role n) h = h

pub readable_some : (o : Option Item) (item : Item) (held : Held) (bytes : List ℕ) (given : List Item) → o ≡ Some item → IfSome o (λ found. (fed : List ℕ) (items : List Item) → HasRead held fed items → IsSound found) → HasRead held bytes given → IsReadable (Chunk item)
readable_some o item held bytes given is h read = readable item ((let P : Option Item → Type 0 = λ x. IfSome x (λ found. (fed : List ℕ) (items : List Item) → HasRead held fed items → IsSound found) in subst P is h) bytes given read)

pub read_none : (reader : Held) (bytes : List ℕ) (given : List Item) (o : Option Item) → o ≡ None → HasRead reader bytes (given ++ option_to_list o) → HasRead reader bytes given
read_none reader bytes given o is h =
    let P : Option Item → Type 0 = λ x. HasRead reader bytes (given ++ option_to_list x) in
    let Q : List Item → Type 0 = λ l. HasRead reader bytes l in
    subst Q (append-nil given) (subst P is h)

pub holds_none : (o : Option Item) (held : Held) (ended : Bool) (bytes : List ℕ) (given : List Item) → o ≡ None → IfNone o ((fed : List ℕ) (items : List Item) → HasRead held fed items → HoldsNoMore held.ended fed items) → HasRead held bytes given → ended ≡ held.ended → HoldsNoMore ended bytes given
holds_none o held ended bytes given is h read same =
    let P : Option Item → Type 0 = λ x. IfNone x ((fed : List ℕ) (items : List Item) → HasRead held fed items → HoldsNoMore held.ended fed items) in
    let Q : Bool → Type 0 = λ b. HoldsNoMore b bytes given in
    subst Q (sym same) (subst P is h bytes given read)

pub no_fewer_on : (a b c : Faults) → NoFewer a b → NoFewer b c → NoFewer a c
no_fewer_on a b c p q = record { read = omega (arith, p.read, q.read); write = omega (arith, p.write, q.write); disk = omega (arith, p.disk, q.disk) }

-- what leaves the last run and the budget
pub run_of_rest : (before now : Session) → HasSameRest before now → RunSince before now
run_of_rest before now same = record { budget = same.budget; last_run = inl same.last_run }
