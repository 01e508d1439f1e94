-- What is worked behind the last flush is one group.
use Rattle.std.proofs.Common.{◌≡◌, ℕ, ◌+◌, ◌<◌, ◌≤◌, List, [], ◌++◌, length, Bool, true, false, true≢false, Result, Ok, Err, refl, sym, ap, subst, ◌∙◌, length-append, arith}
use Rattle.std.specs.Prelude.{◌||◌, nat_le, OnOk}
use Rattle.std.proofs.lemmas.Bool.{leb-false}
use Rattle.std.proofs.lemmas.List.{append-nil}
use Rattle.s80_change.specs.Block.{blocks}
use Rattle.s80_disk.specs.Image.{Image}
use Rattle.s80_disk.specs.Shown.{Shown}
use Rattle.s80_keeper.specs.Keeper.{pending_of}
use Rattle.s80_model.specs.Asked.{Ask}
use Rattle.s80_model.specs.Replies.{Work, work_after_all, list_after_all, replies}
use Rattle.s80_session.specs.declared.end.SessionEnd.{SessionEnd}
use Rattle.s80_session.specs.declared.session.Session.{Session}
use Rattle.s80_session.specs.Run.{IsOneGroup}
use Rattle.s80_session.specs.Session.{group_limit, held_of, keeper_of, HasLittle, IsResting}
use Rattle.s80_session.specs.Working.{Ground, IsAmid, IsBehind}

-- as much was put, or more
pub group_more : (work : Work) (asks : List Ask) (put now : ℕ) → put ≤ now → IsOneGroup work asks put → IsOneGroup work asks now
group_more work asks put now longer g = record {
  answered = g.answered;
  more = g.more;
  waiting = g.waiting;
  last = g.last;
  all = g.all;
  early = g.early;
  one = g.one;
  whole = omega (arith, g.whole, longer);
  few_replies = g.few_replies;
  few_blocks = g.few_blocks;
}

no_more_asks : (asks : List Ask) → (asks ++ []) ++ [] ≡ asks
no_more_asks asks = append-nil (asks ++ []) ∙ append-nil asks

-- behind what was answered one ask waits, or none
pub group_last : (work : Work) (asks last : List Ask) → length last ≤ 1 → IsOneGroup work (asks ++ last) (length (replies work asks))
group_last work asks last one = record {
  answered = asks;
  more = [];
  waiting = [];
  last = last;
  all = ap (λ l. l ++ last) (sym (no_more_asks asks));
  early = omega arith;
  one = one;
  whole = omega arith;
  few_replies = let same = ap (λ l. length (replies work l)) (no_more_asks asks) in omega (arith, same);
  few_blocks = let same = ap (λ l. length (blocks (list_after_all work l))) (append-nil (asks ++ [])) in omega (arith, same);
}

-- all is answered
pub group_done : (work : Work) (asks : List Ask) → IsOneGroup work asks (length (replies work asks))
group_done work asks = let P : List Ask → Type 0 = λ l. IsOneGroup work l (length (replies work asks)) in subst P (append-nil asks) (group_last work asks [] (omega arith))

-- little waits, and one ask more, or none
module _ (may_leave : Image → Type 0) (o : Shown) (session : Session) (work : Work) (before : List ℕ) (asks : List Ask) (basis : Ground) (b : IsBehind work before asks basis) (at : IsAmid may_leave o session (work_after_all work asks) basis) (little : HasLittle session) where
  held_little : length (replies work ((b.answered ++ b.more) ++ b.pending)) < length (replies work b.answered) + group_limit
  held_little =
      let same = ap (λ l. length (replies work l)) b.all in
      let held = ap length at.held in
      let whole = ap length b.held in
      let put = ap length b.put in
      omega (arith, same, held, whole, put, little.held, length-append basis.put basis.held, length-append before (replies work asks), length-append before (replies work b.answered))

  pending_little : length (blocks (list_after_all work ((b.answered ++ b.more) ++ b.pending))) < length (blocks (list_after_all work (b.answered ++ b.more))) + group_limit
  pending_little =
      let holds = at.keeps.holds in
      let same = ap (λ l. length (blocks (list_after_all work l))) b.all in
      let kept = ap (λ l. length (blocks l)) b.kept in
      omega (arith, same, kept, holds.whole, holds.stands.files.whole, little.pending)

  pub group_little : (last : List Ask) → length last ≤ 1 → IsOneGroup work (asks ++ last) (length (replies work b.answered))
  group_little last one = record {
    answered = b.answered;
    more = b.more;
    waiting = b.pending;
    last = last;
    all = ap (λ l. l ++ last) b.all;
    early = b.early;
    one = one;
    whole = omega arith;
    few_replies = held_little;
    few_blocks = pending_little;
  }

-- ---- a session that holds little

pub little_at_rest : (session : Session) → IsResting session → HasLittle session
little_at_rest session resting = let silent = ap length resting.silent in record { pending = omega (arith, resting.settled); held = omega (arith, silent) }

pub flush_little : {T : Type 0} (r : Result T SessionEnd) (session : Session) → OnOk r (IsResting session) → OnOk r (HasLittle session)
flush_little (Ok value) session resting = little_at_rest session resting
flush_little (Err end) session resting = resting

both_false : (x y : Bool) → (x || y) ≡ false → (x ≡ false) × (y ≡ false)
both_false true y e = absurd (true≢false e)
both_false false y e = (refl, e)

pub little_below : (b : Bool) (session : Session) → b ≡ (nat_le group_limit (pending_of (keeper_of session)) || nat_le group_limit (length (held_of session))) → b ≡ false → HasLittle session
little_below b session is not =
    let parts = both_false (nat_le group_limit (pending_of (keeper_of session))) (nat_le group_limit (length (held_of session))) (sym is ∙ not) in
    record { pending = leb-false group_limit (pending_of (keeper_of session)) parts.0; held = leb-false group_limit (length (held_of session)) parts.1 }

pub little_same : (before now : Session) → now ≡ before → HasLittle before → HasLittle now
little_same before now same little = subst HasLittle (sym same) little
