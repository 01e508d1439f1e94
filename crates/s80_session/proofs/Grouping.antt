-- What a session stands on behind what was asked, while replies are held until their group is kept.
use Rattle.std.proofs.Common.{◌≡◌, ◌⊎◌, inl, inr, ⊎_elim, ℕ, ◌+◌, ◌<◌, ◌≤◌, List, [], ◌∷◌, ◌++◌, length, take, refl, sym, ap, subst, ◌∙◌, Err, Some, append_assoc, length-append, arith}
use Rattle.std.proofs.lemmas.List.{append-nil, append_cancel_left, take-append-le}
use Rattle.std.proofs.Math.Seq.{take-append-add}
use Rattle.s80_change.specs.declared.change.Change.{Change}
use Rattle.s80_disk.specs.Image.{Image}
use Rattle.s80_disk.specs.Shown.{Shown}
use Rattle.s80_keeper.specs.Standing.{FilesStandFor, ReadsFor}
use Rattle.s80_model.specs.declared.item.SessionItem.{SessionItem}
use Rattle.s80_model.specs.Asked.{Ask, evaluates}
use Rattle.s80_model.specs.Replies.{Work, AsksIn, kept, reply_to, reply_text, work_after, work_after_all, list_after_all, replies}
use Rattle.s80_session.specs.declared.session.Session.{Session}
use Rattle.s80_session.specs.declared.end.SessionEnd.{SessionEnd}
use Rattle.s80_session.specs.declared.end.SessionEnd.TheVariants as ends
use Rattle.s80_session.specs.Run.{HasKept, IsOneGroup}
use Rattle.s80_session.specs.Session.{Was}
use Rattle.s80_session.specs.Working.{at_rest, BreaksOff, EndsForMemory, Flushed, FlushLeaves, Ground, holding, Holds, IsAmid, IsAt, IsBehind, IsLost, IsLostAt, IsLostBehind, IsPast, Worked, WorkLeaves}
use Rattle.s80_session.proofs.OneGroup.{group_last, group_more}

-- ---- the work behind two lists of asks

pub work_after_both : (work : Work) (asks others : List Ask) → work_after_all work (asks ++ others) ≡ work_after_all (work_after_all work asks) others
work_after_both work [] others = refl
work_after_both work (first ∷ asks) others = work_after_both (work_after work first) asks others

pub work_after_more : (work : Work) (asks : List Ask) (ask : Ask) → work_after_all work (asks ++ ask ∷ []) ≡ work_after (work_after_all work asks) ask
work_after_more work asks ask = work_after_both work asks (ask ∷ [])

replies_both : (work : Work) (asks others : List Ask) → replies work (asks ++ others) ≡ replies work asks ++ replies (work_after_all work asks) others
replies_both work [] others = refl
replies_both work (first ∷ asks) others =
    ap (λ l. reply_text (reply_to work first) ++ l) (replies_both (work_after work first) asks others)
    ∙ sym (append_assoc (reply_text (reply_to work first)) (replies (work_after work first) asks) (replies (work_after_all (work_after work first) asks) others))

pub replies_more : (work : Work) (asks : List Ask) (ask : Ask) → replies work (asks ++ ask ∷ []) ≡ replies work asks ++ reply_text (reply_to (work_after_all work asks) ask)
replies_more work asks ask = replies_both work asks (ask ∷ []) ∙ ap (λ l. replies work asks ++ l) (append-nil (reply_text (reply_to (work_after_all work asks) ask)))

-- the replies to more are no shorter
put_longer : (work : Work) (before : List ℕ) (asks others : List Ask) → length (before ++ replies work asks) ≤ length (before ++ replies work (asks ++ others))
put_longer work before asks others =
    let more = ap length (replies_both work asks others) in
    omega (arith, more, length-append (replies work asks) (replies (work_after_all work asks) others), length-append before (replies work asks), length-append before (replies work (asks ++ others)))

-- ---- what the session stands on

-- at rest
abbrev pub behind_done : (work : Work) (before : List ℕ) (asks : List Ask) → IsBehind work before asks (at_rest (work_after_all work asks) (before ++ replies work asks))
behind_done work before asks = record {
  answered = asks;
  more = [];
  pending = [];
  all = sym (append-nil (asks ++ []) ∙ append-nil asks);
  kept = ap (list_after_all work) (sym (append-nil asks));
  put = refl;
  held = append-nil (before ++ replies work asks);
  early = omega arith;
}

module _ (work : Work) (before : List ℕ) (asks : List Ask) (ask : Ask) (basis : Ground) (b : IsBehind work before asks basis) where
  abbrev line : List ℕ
  line = reply_text (reply_to (work_after_all work asks) ask)

  put_more : (basis.put ++ basis.held) ++ line ≡ before ++ replies work (asks ++ ask ∷ [])
  put_more = ap (λ l. l ++ line) b.held ∙ append_assoc before (replies work asks) line ∙ ap (λ l. before ++ l) (sym (replies_more work asks ask))

  -- a reply more is held
  abbrev behind_held : IsBehind work before (asks ++ ask ∷ []) (holding basis line)
  behind_held = record {
    answered = b.answered;
    more = b.more;
    pending = b.pending ++ ask ∷ [];
    all = ap (λ l. l ++ ask ∷ []) b.all ∙ append_assoc (b.answered ++ b.more) b.pending (ask ∷ []);
    kept = b.kept;
    put = b.put;
    held = sym (append_assoc basis.put basis.held line) ∙ put_more;
    early = b.early;
  }

  -- behind a flush
  abbrev behind_flushed : IsBehind work before (asks ++ ask ∷ []) (holding (at_rest (work_after (work_after_all work asks) ask) (basis.put ++ basis.held)) line)
  behind_flushed = record {
    answered = asks;
    more = ask ∷ [];
    pending = [];
    all = sym (append-nil (asks ++ ask ∷ []));
    kept = ap (λ (w : Work). w.changes) (sym (work_after_more work asks ask));
    put = b.held;
    held = put_more;
    early = omega arith;
  }

  -- one ask more was worked, and its reply is held; before it little waited
  pub stands_more : (may_leave : Image → Type 0) (now : Shown) (session : Session) → IsOneGroup work (asks ++ ask ∷ []) (length (replies work b.answered)) → Holds may_leave now session (work_after (work_after_all work asks) ask) basis line
      → (g : Ground) × IsAmid may_leave now session (work_after_all work (asks ++ ask ∷ [])) g × (behind : IsBehind work before (asks ++ ask ∷ []) g) × IsOneGroup work (asks ++ ask ∷ []) (length (replies work behind.answered))
  stands_more may_leave now session group (inl at) =
      let P : Work → Type 0 = λ w. IsAmid may_leave now session w (holding basis line) in
      (holding basis line, subst P (sym (work_after_more work asks ask)) at, behind_held, group)
  stands_more may_leave now session group (inr at) =
      let g = holding (at_rest (work_after (work_after_all work asks) ask) (basis.put ++ basis.held)) line in
      let P : Work → Type 0 = λ w. IsAmid may_leave now session w g in
      (g, subst P (sym (work_after_more work asks ask)) at, behind_flushed, group_last work asks (ask ∷ []) (omega arith))

-- ---- where the work breaks off

-- a front of what was held is put behind what was put
pub part_put : (before answered all put held : List ℕ) (count : ℕ) → put ≡ before ++ answered → put ++ held ≡ before ++ all → count < length held → (put ++ take count held ≡ before ++ take (length answered + count) all) × (length answered + count < length all)
part_put before answered all put held count put_is held_is short =
    let whole : answered ++ held ≡ all = append_cancel_left before (answered ++ held) all (sym (append_assoc before answered held) ∙ ap (λ l. l ++ held) (sym put_is) ∙ held_is) in
    let part : answered ++ take count held ≡ take (length answered + count) all = sym (take-append-add answered held count) ∙ ap (take (length answered + count)) whole in
    let size : length answered + length held ≡ length all = sym (length-append answered held) ∙ ap length whole in
    (ap (λ l. l ++ take count held) put_is ∙ append_assoc before answered (take count held) ∙ ap (λ l. before ++ l) part, omega (arith, short, size))

-- a crash leaves files for the list behind what was asked, of which Begins holds, as far as is answered at least
abbrev pub Leaves : (List Ask → Type 0) → Work → List ℕ → ℕ → Image → Type 0
Leaves Begins work before told c = (asks : List Ask) × Begins asks × HasKept (list_after_all work asks) (length (before ++ replies work asks)) told c

module _ (Begins : List Ask → Type 0) (fronts : (first more : List Ask) → Begins (first ++ more) → Begins first) (work : Work) (before : List ℕ) (asks : List Ask) (basis : Ground) (begins : Begins asks) (b : IsBehind work before asks basis) where
  begins_kept : Begins (b.answered ++ b.more)
  begins_kept = fronts (b.answered ++ b.more) b.pending (subst Begins b.all begins)

  behind_all : asks ≡ b.answered ++ (b.more ++ b.pending)
  behind_all = b.all ∙ append_assoc b.answered b.more b.pending

  -- after a fault of the disk it reads for the list behind those whose replies are put, and more
  lost_at : (may_leave : Image → Type 0) (now : Shown) (put : List ℕ) (list : List Change) (first more : List Ask) → now.taken ≡ Some put → ReadsFor now.tells now.files may_leave list → put ≡ before ++ replies work first → list ≡ list_after_all work (first ++ more) → Begins (first ++ more)
      → (x : List Ask) × (y : List Ask) × Begins (x ++ y) × IsLostBehind may_leave now work before x y
  lost_at may_leave now put list first more taken reads put_is list_is begin =
      let P : List Change → Type 0 = λ l. ReadsFor now.tells now.files may_leave l in
      (first, more, begin, record { taken = taken ∙ ap Some put_is; reads = subst P list_is reads })

  lost_flush : (may_leave : Image → Type 0) (now : Shown) → IsLost may_leave now basis.put (λ list. (list ≡ basis.kept) ⊎ (list ≡ list_after_all work asks)) → (x : List Ask) × (y : List Ask) × Begins (x ++ y) × IsLostBehind may_leave now work before x y
  lost_flush may_leave now h =
      ⊎_elim (λ e. lost_at may_leave now basis.put h.list b.answered b.more h.taken h.reads b.put (e ∙ b.kept) begins_kept)
      (λ e. lost_at may_leave now basis.put h.list b.answered (b.more ++ b.pending) h.taken h.reads b.put (e ∙ ap (list_after_all work) behind_all) (subst Begins behind_all begins))
      h.is

  -- the output failed within the replies that were held
  part_broke : IsOneGroup work asks (length (replies work b.answered)) → (may_leave : Image → Type 0) (now : Shown) (session : Session) (count : ℕ) → count < length basis.held → IsAt may_leave now session (work_after_all work asks) (basis.put ++ take count basis.held)
      → (x : List Ask) × (n : ℕ) × (n < length (replies work x)) × Begins x × IsAt may_leave now session (work_after_all work x) (before ++ take n (replies work x)) × IsOneGroup work x n
  part_broke group may_leave now session count short at =
      let part = part_put before (replies work b.answered) (replies work asks) basis.put basis.held count b.put b.held short in
      let P : List ℕ → Type 0 = λ l. IsAt may_leave now session (work_after_all work asks) l in
      let n = length (replies work b.answered) in
      (asks, n + count, part.1, begins, subst P part.0 at, group_more work asks n (n + count) (omega arith) group)

  -- and so it did behind a doIt that was kept
  part_kept : (may_leave : Image → Type 0) (now : Shown) (session : Session) (ask : Ask) (count : ℕ) → IsOneGroup work (asks ++ ask ∷ []) (length (replies work b.answered)) → count < length basis.held → Begins (asks ++ ask ∷ []) → IsAt may_leave now session (work_after (work_after_all work asks) ask) (basis.put ++ take count basis.held)
      → (x : List Ask) × (n : ℕ) × (n < length (replies work x)) × Begins x × IsAt may_leave now session (work_after_all work x) (before ++ take n (replies work x)) × IsOneGroup work x n
  part_kept may_leave now session ask count group short begin at =
      let first = length (replies work b.answered) in
      let n = first + count in
      let line = reply_text (reply_to (work_after_all work asks) ask) in
      let part = part_put before (replies work b.answered) (replies work asks) basis.put basis.held count b.put b.held short in
      let same : take n (replies work asks) ≡ take n (replies work (asks ++ ask ∷ [])) =
      sym (take-append-le n (replies work asks) line (omega (arith, part.1))) ∙ ap (take n) (sym (replies_more work asks ask)) in
      let size : length (replies work (asks ++ ask ∷ [])) ≡ length (replies work asks) + length line = ap length (replies_more work asks ask) ∙ length-append (replies work asks) line in
      let P : List ℕ → Type 0 = λ l. IsAt may_leave now session (work_after_all work (asks ++ ask ∷ [])) l in
      let Q : Work → Type 0 = λ w. IsAt may_leave now session w (basis.put ++ take count basis.held) in
      (asks ++ ask ∷ [], n, omega (arith, part.1, size), begin, subst P (part.0 ∙ ap (λ l. before ++ l) same) (subst Q (sym (work_after_more work asks ask)) at), group_more work (asks ++ ask ∷ []) first n (omega arith) group)

  -- by a flush
  pub broke_by_flush : IsOneGroup work asks (length (replies work b.answered)) → (T : Type 0) (end : SessionEnd) (may_leave : Image → Type 0) (now : Shown) (session : Session) → Flushed {T = T} (Err end) may_leave now session (work_after_all work asks) basis → BreaksOff end may_leave now session Begins work before
  broke_by_flush group T (ends.Disk failed) may_leave now session h = lost_flush may_leave now h
  broke_by_flush group T (ends.Write failed) may_leave now session h = part_broke group may_leave now session h.0 h.1 h.2
  broke_by_flush group T ends.Memory may_leave now session h = absurd h
  broke_by_flush group T (ends.Read failed) may_leave now session h = absurd h
  broke_by_flush group T (ends.Damaged damage) may_leave now session h = absurd h
  broke_by_flush group T ends.TooLong may_leave now session h = absurd h

  -- for want of memory
  pub broke_for_memory : IsOneGroup work asks (length (replies work b.answered)) → (end : SessionEnd) (may_leave : Image → Type 0) (now : Shown) (session : Session) → EndsForMemory end may_leave now session (work_after_all work asks) basis → BreaksOff end may_leave now session Begins work before
  broke_for_memory group ends.Memory may_leave now session at =
      let P : List ℕ → Type 0 = λ l. IsAt may_leave now session (work_after_all work asks) l in
      inl (asks, begins, subst P b.held at)
  broke_for_memory group (ends.Disk failed) may_leave now session h = lost_flush may_leave now h
  broke_for_memory group (ends.Write failed) may_leave now session h = part_broke group may_leave now session h.0 h.1 h.2
  broke_for_memory group (ends.Read failed) may_leave now session h = absurd h
  broke_for_memory group (ends.Damaged damage) may_leave now session h = absurd h
  broke_for_memory group ends.TooLong may_leave now session h = absurd h

  -- what a crash leaves of the basis, and while it is flushed
  pub ground_leaves : (told : ℕ) (c : Image) → HasKept basis.kept (length basis.put) told c → Leaves Begins work before told c
  ground_leaves told c h =
      let P : List Change → Type 0 = λ l. FilesStandFor c l in
      (b.answered ++ b.more, begins_kept, record { no_more = omega (arith, h.no_more, ap length b.put, put_longer work before b.answered b.more); files = subst P b.kept h.files })

  pub flush_leaves : (told : ℕ) (c : Image) → FlushLeaves (work_after_all work asks) basis told c → Leaves Begins work before told c
  flush_leaves told c (inl h) = ground_leaves told c h
  flush_leaves told c (inr h) = (asks, begins, record { no_more = omega (arith, h.no_more, ap length b.held); files = h.files })

  module _ (item : SessionItem) (grows : (ask : Ask) → AsksIn (work_after_all work asks) item ask → Begins (asks ++ ask ∷ [])) where
    lost_past : (may_leave : Image → Type 0) (now : Shown) (put : List ℕ) (list : List Change) (first more : List Ask) → asks ≡ first ++ more → now.taken ≡ Some put → ReadsFor now.tells now.files may_leave list → put ≡ before ++ replies work first → IsPast (work_after_all work asks) item list
        → (x : List Ask) × (y : List Ask) × Begins (x ++ y) × IsLostBehind may_leave now work before x y
    lost_past may_leave now put list first more is taken reads put_is (inl e) = lost_at may_leave now put list first more taken reads put_is (e ∙ ap (list_after_all work) is) (subst Begins is begins)
    lost_past may_leave now put list first more is taken reads put_is (inr (ask, one, e)) =
        let longer : asks ++ ask ∷ [] ≡ first ++ (more ++ ask ∷ []) = ap (λ l. l ++ ask ∷ []) is ∙ append_assoc first more (ask ∷ []) in
        let behind : list ≡ list_after_all work (asks ++ ask ∷ []) = e ∙ ap (λ (w : Work). w.changes) (sym (work_after_more work asks ask)) in
        lost_at may_leave now put list first (more ++ ask ∷ []) taken reads put_is (behind ∙ ap (list_after_all work) longer) (subst Begins longer (grows ask one))

    lost_work : (may_leave : Image → Type 0) (now : Shown) → IsLostAt may_leave now (work_after_all work asks) basis item → (x : List Ask) × (y : List Ask) × Begins (x ++ y) × IsLostBehind may_leave now work before x y
    lost_work may_leave now (inl h) =
        ⊎_elim (λ e. lost_at may_leave now basis.put h.list b.answered b.more h.taken h.reads b.put (e ∙ b.kept) begins_kept)
        (λ past. lost_past may_leave now basis.put h.list b.answered (b.more ++ b.pending) behind_all h.taken h.reads b.put past) h.is
    lost_work may_leave now (inr h) = lost_past may_leave now (basis.put ++ basis.held) h.list asks [] (sym (append-nil asks)) h.taken h.reads b.held h.is

    -- by the work on an item
    pub broke_by_work : ((last : List Ask) → length last ≤ 1 → IsOneGroup work (asks ++ last) (length (replies work b.answered))) → (T : Type 0) (end : SessionEnd) (may_leave : Image → Type 0) (now : Shown) (session : Session) (was : Was) → Worked {T = T} (Err end) may_leave now session was (work_after_all work asks) basis item → BreaksOff end may_leave now session Begins work before
    broke_by_work group T ends.Memory may_leave now session was (inl at) =
        let P : List ℕ → Type 0 = λ l. IsAt may_leave now session (work_after_all work asks) l in
        inl (asks, begins, subst P b.held at)
    broke_by_work group T ends.Memory may_leave now session was (inr (text, told, stopped, one, at)) =
        let P : List ℕ → Type 0 = λ l. IsAt may_leave now session (kept (work_after_all work asks) (evaluates text told stopped)) l in
        inr (asks, text, told, stopped, grows (evaluates text told stopped) one, subst P b.held at)
    broke_by_work group T (ends.Disk failed) may_leave now session was h = lost_work may_leave now h
    broke_by_work group T (ends.Write failed) may_leave now session was (count, short, inl at) =
        let P : List Ask → Type 0 = λ l. IsOneGroup work l (length (replies work b.answered)) in
        part_broke (subst P (append-nil asks) (group [] (omega arith))) may_leave now session count short at
    broke_by_work group T (ends.Write failed) may_leave now session was (count, short, inr (text, told, stopped, one, at)) =
        part_kept may_leave now session (evaluates text told stopped) count (group (evaluates text told stopped ∷ []) (omega arith)) short (grows (evaluates text told stopped) one) at
    broke_by_work group T (ends.Read failed) may_leave now session was h = absurd h
    broke_by_work group T (ends.Damaged damage) may_leave now session was h = absurd h
    broke_by_work group T ends.TooLong may_leave now session was h = absurd h

    -- what a crash leaves while an item is worked
    pub work_leaves : (told : ℕ) (c : Image) → WorkLeaves (work_after_all work asks) basis item told c → Leaves Begins work before told c
    work_leaves told c (inl h) = flush_leaves told c h
    work_leaves told c (inr (ask, one, h)) =
        let P : Work → Type 0 = λ w. FilesStandFor c w.changes in
        (asks ++ ask ∷ [], grows ask one, record { no_more = omega (arith, h.no_more, ap length b.held, put_longer work before asks (ask ∷ [])); files = subst P (sym (work_after_more work asks ask)) h.files })
