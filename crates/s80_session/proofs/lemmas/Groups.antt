-- What a crash leaves at each moment while the items of an input are worked in groups.
use Rattle.std.proofs.Common.{◌≡◌, inl, ℕ, List, [], ◌∷◌, ◌++◌, length, refl, ap, Bool, true, arith}
use Rattle.std.proofs.lemmas.List.{append-nil}
use Rattle.s80_chunk.specs.Chunks.Reads.{stop}
use Rattle.s80_disk.specs.Image.{Image}
use Rattle.s80_disk.specs.Shown.{Shown}
use Rattle.s80_disk.specs.Moments.{LeavesOnly}
use Rattle.s80_disk.proofs.lemmas.Run.{started, joined, weaker}
use Rattle.s80_model.specs.declared.item.SessionItem.{SessionItem}
use Rattle.s80_model.specs.Asked.{Ask}
use Rattle.s80_model.specs.Replies.{Work, AsksIn, work_after_all}
use Rattle.s80_session.specs.declared.session.Session.{Session}
use Rattle.s80_session.specs.Putting.{IsAsBefore}
use Rattle.s80_session.specs.Run.{Keeps}
use Rattle.s80_session.specs.Working.{at_rest, AnswersLeave, FlushLeaves, Ground, IsAmid, IsAt, IsBehind, WorkLeaves}
use Rattle.s80_session.proofs.Grouping.{flush_leaves, ground_leaves, Leaves, work_leaves}
use Rattle.s80_session.proofs.Taking.{first_asks}
use Rattle.s80_session.proofs.lemmas.Amid.{amid_leaves}

module _ {D : Type 0} (moment : D → ℕ) (left_since : D → ℕ → ℕ → Image → Type 0) where
  module _ (Begins : List Ask → Type 0) (fronts : (first more : List Ask) → Begins (first ++ more) → Begins first) (work : Work) (before : List ℕ) (asks : List Ask) (basis : Ground) (begins : Begins asks) (b : IsBehind work before asks basis) where
    -- no call was made
    pub group_starts : (may_leave : Image → Type 0) (o : Shown) (session : Session) (now : D) → ((told : ℕ) (c : Image) → left_since now (moment now) told c → may_leave c × (told ≡ o.told)) → IsAmid may_leave o session (work_after_all work asks) basis → LeavesOnly moment left_since now now (Leaves Begins work before)
    group_starts may_leave o session now only at =
        started moment left_since now (Leaves Begins work before) (λ told c left. let x = only told c left in ground_leaves Begins fronts work before asks basis begins b told c (record { no_more = omega (arith, at.told, x.1); files = amid_leaves may_leave o session (work_after_all work asks) basis at c x.0 }))

    -- a call that puts nothing and leaves the files
    pub group_quiet : (may_leave : Image → Type 0) (o : Shown) (session : Session) (old mid new : D) → IsAmid may_leave o session (work_after_all work asks) basis → LeavesOnly moment left_since old mid (Leaves Begins work before) → LeavesOnly moment left_since mid new (IsAsBefore may_leave o.told 0) → LeavesOnly moment left_since old new (Leaves Begins work before)
    group_quiet may_leave o session old mid new at first second =
        joined moment left_since old mid new (Leaves Begins work before) (IsAsBefore may_leave o.told 0) first second (λ told c was. ground_leaves Begins fronts work before asks basis begins b told c (record { no_more = omega (arith, at.told, was.no_more); files = amid_leaves may_leave o session (work_after_all work asks) basis at c was.was }))

    -- a flush
    pub group_flushed : (old mid new : D) → LeavesOnly moment left_since old mid (Leaves Begins work before) → LeavesOnly moment left_since mid new (FlushLeaves (work_after_all work asks) basis) → LeavesOnly moment left_since old new (Leaves Begins work before)
    group_flushed old mid new first second =
        joined moment left_since old mid new (Leaves Begins work before) (FlushLeaves (work_after_all work asks) basis) first second (flush_leaves Begins fronts work before asks basis begins b)

    -- the work on an item
    pub group_worked : (old mid new : D) (item : SessionItem) → ((ask : Ask) → AsksIn (work_after_all work asks) item ask → Begins (asks ++ ask ∷ [])) → LeavesOnly moment left_since old mid (Leaves Begins work before) → LeavesOnly moment left_since mid new (WorkLeaves (work_after_all work asks) basis item) → LeavesOnly moment left_since old new (Leaves Begins work before)
    group_worked old mid new item grows first second =
        joined moment left_since old mid new (Leaves Begins work before) (WorkLeaves (work_after_all work asks) basis item) first second (work_leaves Begins fronts work before asks basis begins b item grows)

  pub flush_starts : (may_leave : Image → Type 0) (o : Shown) (session : Session) (now : D) (work : Work) (basis : Ground) → ((told : ℕ) (c : Image) → left_since now (moment now) told c → may_leave c × (told ≡ o.told)) → IsAmid may_leave o session work basis → LeavesOnly moment left_since now now (FlushLeaves work basis)
  flush_starts may_leave o session now work basis only at =
      started moment left_since now (FlushLeaves work basis) (λ told c left. let x = only told c left in inl (record { no_more = omega (arith, at.told, x.1); files = amid_leaves may_leave o session work basis at c x.0 }))

  -- what is kept while the items of a front of the input are worked is kept of the input
  pub answers_last : (old new : D) (ended : Bool) (work : Work) (before bytes left input : List ℕ) → input ≡ bytes ++ left → (ended ≡ true → left ≡ []) → LeavesOnly moment left_since old new (AnswersLeave ended work before bytes) → LeavesOnly moment left_since old new (Keeps work input before)
  answers_last old new ended work before bytes left input is none run = weaker moment left_since old new (AnswersLeave ended work before bytes) (Keeps work input before) run (λ told c h. (h.0, first_asks ended work bytes left input h.0 h.1 is none, h.2))

  pub keeps_on : (old mid new : D) (work : Work) (input before : List ℕ) → LeavesOnly moment left_since old mid (Keeps work input before) → LeavesOnly moment left_since mid new (Keeps work input before) → LeavesOnly moment left_since old new (Keeps work input before)
  keeps_on old mid new work input before first second = joined moment left_since old mid new (Keeps work input before) (Keeps work input before) first second (λ told c h. h)

  -- before any item
  pub run_starts : (may_leave : Image → Type 0) (o : Shown) (session : Session) (now : D) (work : Work) (input before : List ℕ) → ((told : ℕ) (c : Image) → left_since now (moment now) told c → may_leave c × (told ≡ o.told)) → IsAt may_leave o session work before → LeavesOnly moment left_since now now (Keeps work input before)
  run_starts may_leave o session now work input before only at =
      started moment left_since now (Keeps work input before) (λ told c left.
      let x = only told c left in
      ([], ([], inl ([], input, stop refl refl, refl), tt), record { no_more = omega (arith, at.told, x.1, ap length (append-nil before)); files = amid_leaves may_leave o session work (at_rest work before) at c x.0 }))
