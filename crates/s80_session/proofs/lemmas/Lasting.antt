-- What a crash leaves at each moment of a run.
use Rattle.std.proofs.Common.{◌≡◌, inl, ℕ, List, [], length, refl, sym, subst, arith}
use Rattle.std.proofs.lemmas.List.{append-nil}
use Rattle.s80_chunk.specs.Chunks.Reads.{stop}
use Rattle.s80_disk.specs.Image.{Image}
use Rattle.s80_disk.specs.Shown.{Shown}
use Rattle.s80_session.specs.declared.session.Session.{Session}
use Rattle.s80_disk.specs.Moments.{LeavesOnly}
use Rattle.s80_disk.proofs.lemmas.Run.{started, weaker}
use Rattle.s80_model.specs.Replies.{Work}
use Rattle.s80_session.specs.Putting.{IsAsBefore}
use Rattle.s80_session.specs.Run.{HasKept, Keeps}
use Rattle.s80_session.specs.Session.{keeper_of}
use Rattle.s80_session.specs.Working.{IsAt}
use Rattle.s80_session.proofs.lemmas.Keeping.{keeps_leaves}

-- the same where no byte is put
pub as_it_was : (may_leave : Image → Type 0) (o : Shown) (session : Session) (work : Work) (put : List ℕ) (told : ℕ) (c : Image) → IsAt may_leave o session work put → may_leave c → told ≡ o.told → HasKept work.changes (length put) told c
as_it_was may_leave o session work put told c h left is = record {
  no_more = omega (arith, h.told, is);
  files = keeps_leaves o.tells o.files may_leave (keeper_of session) work.changes h.keeps c left;
}

pub quietly : (may_leave : Image → Type 0) (o : Shown) (session : Session) (work : Work) (put : List ℕ) (told : ℕ) (c : Image) → IsAt may_leave o session work put → IsAsBefore may_leave o.told 0 told c → HasKept work.changes (length put) told c
quietly may_leave o session work put told c h was = record {
  no_more = omega (arith, h.told, was.no_more);
  files = keeps_leaves o.tells o.files may_leave (keeper_of session) work.changes h.keeps c was.was;
}

-- before any item
pub keeps_at_start : (work : Work) (input before : List ℕ) (told : ℕ) (c : Image) → HasKept work.changes (length before) told c → Keeps work input before told c
keeps_at_start work input before told c h =
    let P : List ℕ → Type 0 = λ l. HasKept work.changes (length l) told c in
    ([], ([], inl ([], input, stop refl refl, refl), tt), subst P (sym (append-nil before)) h)

module _ {D : Type 0} (moment : D → ℕ) (left_since : D → ℕ → ℕ → Image → Type 0) where
  -- no call was made
  pub nothing_happens : (may_leave : Image → Type 0) (o : Shown) (session : Session) (now : D) (work : Work) (put : List ℕ) → ((told : ℕ) (c : Image) → left_since now (moment now) told c → may_leave c × (told ≡ o.told)) → IsAt may_leave o session work put → LeavesOnly moment left_since now now (HasKept work.changes (length put))
  nothing_happens may_leave o session now work put only h = started moment left_since now (HasKept work.changes (length put)) (λ told c left. let x = only told c left in as_it_was may_leave o session work put told c h x.0 x.1)

  pub start_keeps : (now : D) (work : Work) (input before : List ℕ) → LeavesOnly moment left_since now now (HasKept work.changes (length before)) → LeavesOnly moment left_since now now (Keeps work input before)
  start_keeps now work input before run = weaker moment left_since now now (HasKept work.changes (length before)) (Keeps work input before) run (λ told c h. keeps_at_start work input before told c h)
