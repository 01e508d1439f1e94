-- A disk in memory after one more call.
use Rattle.std.proofs.Common.{◌≡◌, ℕ, ◌+◌, ◌≤◌, true, IsTrue, List, [], ◌∷◌, ◌++◌, length, take, drop, map, reverse, refl, ◌∙◌, ap, arith, length-append}
use Rattle.std.specs.Prelude.{nat_le}
use Rattle.std.specs.List.{list_all}
use Rattle.std.proofs.lemmas.Bool.{leb-true, le-leb, and_parts, and_from}
use Rattle.std.proofs.lemmas.List.{map_push, reverse-append, drop-append-le, take-append-le, take_all, drop_at, length-drop}
use Rattle.std.proofs.lemmas.List.Folds.{list_all-append}
use Rattle.s80_disk.specs.declared.disk.FileId.{FileId}
use Rattle.s80_disk.specs.declared.recorded.Recorded.{Recorded}
use Rattle.s80_disk.specs.declared.recorded.Recorded.TheVariants.{Write, Cut, Sync, Told}
use Rattle.s80_disk.specs.Image.{Image, Follows}
use Rattle.s80_disk.specs.History.{event_of, history, is_within}
use Rattle.s80_disk.specs.History.Event.{PieceAt}

-- a call more is the newest event
pub history-push : (pieces : List ℕ) (calls : List Recorded) (call : Recorded) → history pieces (calls ++ call ∷ []) ≡ event_of pieces call ∷ history pieces calls
history-push pieces calls call = ap reverse (map_push (event_of pieces) calls call) ∙ reverse-append (map (event_of pieces) calls) (event_of pieces call ∷ [])

same_piece : (pieces more : List ℕ) (from size : ℕ) → from + size ≤ length pieces → take size (drop from (pieces ++ more)) ≡ take size (drop from pieces)
same_piece pieces more from size fits =
    ap (λ (l : List ℕ). take size l) (drop-append-le from pieces more (omega arith))
    ∙ take-append-le size (drop from pieces) more (omega (arith, length-drop from pieces))

-- further bytes change no earlier event
same_event : (pieces more : List ℕ) (room : ℕ) (call : Recorded) → IsTrue (is_within (length pieces) room call) → event_of (pieces ++ more) call ≡ event_of pieces call
same_event pieces more room (Write file at from size) h = ap (PieceAt file at) (same_piece pieces more from size (leb-true (from + size) (length pieces) (and_parts (nat_le (from + size) (length pieces)) (nat_le (at + size) room) h).0))
same_event pieces more room (Cut file to) h = refl
same_event pieces more room (Sync file) h = refl
same_event pieces more room (Told count) h = refl

same_events : (pieces more : List ℕ) (room : ℕ) (calls : List Recorded) → IsTrue (list_all (is_within (length pieces) room) calls) → map (event_of (pieces ++ more)) calls ≡ map (event_of pieces) calls
same_events pieces more room [] h = refl
same_events pieces more room (call ∷ calls) h =
    let parts = and_parts (is_within (length pieces) room call) (list_all (is_within (length pieces) room) calls) h in
    λ i. same_event pieces more room call parts.0 i ∷ same_events pieces more room calls parts.1 i

pub history-write : (pieces piece : List ℕ) (room : ℕ) (calls : List Recorded) (file : FileId) (at : ℕ) → IsTrue (list_all (is_within (length pieces) room) calls) → history (pieces ++ piece) (calls ++ Write file at (length pieces) (length piece) ∷ []) ≡ PieceAt file at piece ∷ history pieces calls
history-write pieces piece room calls file at h =
    history-push (pieces ++ piece) calls (Write file at (length pieces) (length piece))
    ∙ λ i. PieceAt file at (whole i) ∷ reverse (same_events pieces piece room calls h i)
  where
    whole : take (length piece) (drop (length pieces) (pieces ++ piece)) ≡ piece
    whole = ap (λ (l : List ℕ). take (length piece) l) (drop_at pieces piece (length pieces) refl) ∙ take_all (length piece) piece (omega arith)

still_within : (used more room : ℕ) (call : Recorded) → used ≤ more → IsTrue (is_within used room call) → IsTrue (is_within more room call)
still_within used more room (Write file at from size) le h =
    let parts = and_parts (nat_le (from + size) used) (nat_le (at + size) room) h in
    let fits : from + size ≤ used = leb-true (from + size) used parts.0 in
    and_from (nat_le (from + size) more) (nat_le (at + size) room) (le-leb (from + size) more (omega arith)) parts.1
still_within used more room (Cut file to) le h = refl
still_within used more room (Sync file) le h = refl
still_within used more room (Told count) le h = refl

all_within : (used more room : ℕ) (calls : List Recorded) → used ≤ more → IsTrue (list_all (is_within used room) calls) → IsTrue (list_all (is_within more room) calls)
all_within used more room [] le h = refl
all_within used more room (call ∷ calls) le h =
    let parts = and_parts (is_within used room call) (list_all (is_within used room) calls) h in
    and_from (is_within more room call) (list_all (is_within more room) calls) (still_within used more room call le parts.0) (all_within used more room calls le parts.1)

-- a call more is within, if it is
pub within-push : (used room : ℕ) (calls : List Recorded) (call : Recorded) → IsTrue (list_all (is_within used room) calls) → IsTrue (is_within used room call) → IsTrue (list_all (is_within used room) (calls ++ call ∷ []))
within-push used room calls call h k =
    list_all-append (is_within used room) calls (call ∷ []) ∙ and_from (list_all (is_within used room) calls) (list_all (is_within used room) (call ∷ [])) h (and_from (is_within used room call) true k refl)

pub within-write : (pieces piece : List ℕ) (room : ℕ) (calls : List Recorded) (file : FileId) (at : ℕ) → at + length piece ≤ room → IsTrue (list_all (is_within (length pieces) room) calls) → IsTrue (list_all (is_within (length (pieces ++ piece)) room) (calls ++ Write file at (length pieces) (length piece) ∷ []))
within-write pieces piece room calls file at fits h =
    let used : ℕ = length (pieces ++ piece) in
    within-push used room calls (Write file at (length pieces) (length piece)) (all_within (length pieces) used room calls (omega (arith, length-append pieces piece)) h)
    (and_from (nat_le (length pieces + length piece) used) (nat_le (at + length piece) room) (le-leb (length pieces + length piece) used (omega (arith, length-append pieces piece))) (le-leb (at + length piece) room fits))

-- a call that did nothing
pub followed_by_itself : (file : FileId) (change : List ℕ → List ℕ → Type 0) (may_leave : Image → Type 0) → ((bytes : List ℕ) → change bytes bytes) → Follows file change may_leave may_leave
followed_by_itself file change may_leave stays c left = (c, left, record { here = stays (c file); others = λ other ne. refl })
