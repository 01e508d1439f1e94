-- What a crash leaves while a session works, by the basis on which it stands.
use Rattle.std.proofs.Common.{◌≡◌, inl, inr, ℕ, ◌+◌, ◌≤◌, List, ◌++◌, length, subst, arith, length-append}
use Rattle.std.proofs.lemmas.List.{append-nil}
use Rattle.s80_change.specs.declared.change.Change.{Change}
use Rattle.s80_disk.specs.Image.{Image}
use Rattle.s80_disk.specs.Shown.{Shown}
use Rattle.s80_disk.specs.Moments.{LeavesOnly}
use Rattle.s80_disk.proofs.lemmas.Run.{started, joined, weaker}
use Rattle.s80_model.specs.declared.item.SessionItem.{SessionItem}
use Rattle.s80_model.specs.Replies.{Work, work_after}
use Rattle.s80_session.specs.declared.session.Session.{Session}
use Rattle.s80_session.specs.Putting.{IsAsBefore}
use Rattle.s80_session.specs.Run.{HasKept}
use Rattle.s80_session.specs.Session.{keeper_of}
use Rattle.s80_session.specs.Working.{Ground, IsAmid, flushed, CommitLeaves, FlushLeaves, WorkLeaves}
use Rattle.s80_session.proofs.lemmas.Keeping.{keeps_leaves}

-- no byte is put, or some of these
putting : (may_leave : Image → Type 0) (o : Shown) (session : Session) (work : Work) (basis : Ground) (more told : ℕ) (c : Image) → IsAmid may_leave o session work basis → told ≤ o.told + more → may_leave c → HasKept basis.kept (length basis.put + more) told c
putting may_leave o session work basis more told c h most left = record {
  no_more = omega (arith, h.told, most);
  files = keeps_leaves o.tells o.files may_leave (keeper_of session) basis.kept h.keeps c left;
}

-- more bytes may be told
pub more_told : (changes : List Change) (few most told : ℕ) (c : Image) → few ≤ most → HasKept changes few told c → HasKept changes most told c
more_told changes few most told c less h = record { no_more = omega (arith, h.no_more, less); files = h.files }

pub longer : (put held : List ℕ) → length put ≤ length (put ++ held)
longer put held = let size = length-append put held in omega (arith, size)

-- a flush behind one that left nothing leaves what that one leaves
pub flush_again : (work : Work) (basis : Ground) (told : ℕ) (c : Image) → FlushLeaves work (flushed work basis) told c → FlushLeaves work basis told c
flush_again work basis told c (inl h) = inr h
flush_again work basis told c (inr h) = inr (let P : List ℕ → Type 0 = λ l. HasKept work.changes (length l) told c in subst P (append-nil (basis.put ++ basis.held)) h)

-- so does the work of an item behind a flush
pub work_again : (work : Work) (basis : Ground) (item : SessionItem) (told : ℕ) (c : Image) → WorkLeaves work (flushed work basis) item told c → WorkLeaves work basis item told c
work_again work basis item told c (inl h) = inl (flush_again work basis told c h)
work_again work basis item told c (inr (ask, asks, h)) = inr (ask, asks, let P : List ℕ → Type 0 = λ l. HasKept (work_after work ask).changes (length l) told c in subst P (append-nil (basis.put ++ basis.held)) h)

-- what is committed and not put yet
pub commit_flushes : (work : Work) (basis : Ground) (told : ℕ) (c : Image) → CommitLeaves work basis told c → FlushLeaves work basis told c
commit_flushes work basis told c (inl h) = inl h
commit_flushes work basis told c (inr h) = inr (more_told work.changes (length basis.put) (length (basis.put ++ basis.held)) told c (longer basis.put basis.held) h)

module _ {D : Type 0} (moment : D → ℕ) (left_since : D → ℕ → ℕ → Image → Type 0) where
  -- no call was made
  pub nothing_happens : (may_leave : Image → Type 0) (o : Shown) (session : Session) (now : D) (work : Work) (basis : Ground) → ((told : ℕ) (c : Image) → left_since now (moment now) told c → may_leave c × (told ≡ o.told)) → IsAmid may_leave o session work basis → LeavesOnly moment left_since now now (HasKept basis.kept (length basis.put))
  nothing_happens may_leave o session now work basis only h =
      started moment left_since now (HasKept basis.kept (length basis.put)) (λ told c left.
      let x = only told c left in
      more_told basis.kept (length basis.put + 0) (length basis.put) told c (omega arith) (putting may_leave o session work basis 0 told c h (omega (arith, x.1)) x.0))

  -- calls that put nothing and leave the files
  pub quiet_last : (may_leave : Image → Type 0) (o : Shown) (session : Session) (old new : D) (work : Work) (basis : Ground) → IsAmid may_leave o session work basis → LeavesOnly moment left_since old new (IsAsBefore may_leave o.told 0) → LeavesOnly moment left_since old new (HasKept basis.kept (length basis.put))
  quiet_last may_leave o session old new work basis h run = weaker moment left_since old new (IsAsBefore may_leave o.told 0) (HasKept basis.kept (length basis.put)) run (λ told c was.
      more_told basis.kept (length basis.put + 0) (length basis.put) told c (omega arith) (putting may_leave o session work basis 0 told c h was.no_more was.was))

  -- what is held is put, behind a commit
  pub put_last : (may_leave : Image → Type 0) (o : Shown) (session : Session) (old new : D) (work : Work) (basis : Ground) → IsAmid may_leave o session work basis → LeavesOnly moment left_since old new (IsAsBefore may_leave o.told (length basis.held)) → LeavesOnly moment left_since old new (HasKept basis.kept (length (basis.put ++ basis.held)))
  put_last may_leave o session old new work basis h run =
      let size = length-append basis.put basis.held in
      weaker moment left_since old new (IsAsBefore may_leave o.told (length basis.held)) (HasKept basis.kept (length (basis.put ++ basis.held))) run (λ told c was.
      more_told basis.kept (length basis.put + length basis.held) (length (basis.put ++ basis.held)) told c (omega (arith, size)) (putting may_leave o session work basis (length basis.held) told c h was.no_more was.was))

  -- work that keeps what is kept
  pub work_still : (old new : D) (work : Work) (basis : Ground) (item : SessionItem) → LeavesOnly moment left_since old new (HasKept basis.kept (length basis.put)) → LeavesOnly moment left_since old new (WorkLeaves work basis item)
  work_still old new work basis item run = weaker moment left_since old new (HasKept basis.kept (length basis.put)) (WorkLeaves work basis item) run (λ told c h. inl (inl h))

  -- a flush alone
  pub flush_works : (old new : D) (work : Work) (basis : Ground) (item : SessionItem) → LeavesOnly moment left_since old new (FlushLeaves work basis) → LeavesOnly moment left_since old new (WorkLeaves work basis item)
  flush_works old new work basis item run = weaker moment left_since old new (FlushLeaves work basis) (WorkLeaves work basis item) run (λ told c h. inl h)

  -- and work behind it
  pub flushed_works : (old mid new : D) (work : Work) (basis : Ground) (item : SessionItem) → LeavesOnly moment left_since old mid (FlushLeaves work basis) → LeavesOnly moment left_since mid new (WorkLeaves work (flushed work basis) item) → LeavesOnly moment left_since old new (WorkLeaves work basis item)
  flushed_works old mid new work basis item first second = joined moment left_since old mid new (WorkLeaves work basis item) (WorkLeaves work (flushed work basis) item) (flush_works old mid work basis item first) second (work_again work basis item)
