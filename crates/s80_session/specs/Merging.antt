-- A session merges a second change set with its own.
use Rattle.std.specs.Prelude.{◌≡◌, ◌⊎◌, ◌<◌, ◌≤◌, ◌||◌, ℕ, Bool, All, List, [], ◌∷◌, ◌++◌, length, take, IsTrue, Option, None, Some, Result, Ok, Err}
use Rattle.s80_change.specs.declared.change.Change.{Change}
use Rattle.s80_change.specs.Block.{blocks}
use Rattle.s80_disk.specs.Image.{Image}
use Rattle.s80_disk.specs.Shown.{Shown}
use Rattle.s80_apply.specs.List.{state_of}
use Rattle.s80_apply.specs.State.{State}
use Rattle.s80_joining.specs.declared.given.Given.{Given}
use Rattle.s80_joining.specs.declared.outcome.Outcome.{Outcome}
use Rattle.s80_joining.specs.declared.outcome.Outcome.TheVariants as outcomes
use Rattle.s80_joining.specs.Answer.{reply_text}
use Rattle.s80_joining.specs.Given.{HasCome}
use Rattle.s80_joining.specs.Outcome.{Joined, MayMerge, MergesTo, is_trouble, joined, list_after_merging}
use Rattle.s80_joining.specs.Parts.{base_of, ours_of}
use Rattle.s80_joining.specs.Theirs.{IsGiven}
use Rattle.s80_form.specs.declared.refusal.Refusal.{Refusal}
use Rattle.s80_keeper.specs.Keeper.{Knows}
use Rattle.s80_keeper.specs.Standing.{ReadsFor}
use Rattle.s80_model.specs.declared.item.SessionItem.{SessionItem}
use Rattle.s80_model.specs.Replies.{Work}
use Rattle.s80_session.specs.declared.end.SessionEnd.{SessionEnd}
use Rattle.s80_session.specs.declared.end.SessionEnd.TheVariants as ends
use Rattle.s80_session.specs.declared.merge.MergeReply.{MergeReply}
use Rattle.s80_session.specs.declared.session.Session.{Session}
use Rattle.s80_session.specs.Run.{HasKept, ItemsOf, ShownFor, chunks, input_limit}
use Rattle.s80_session.specs.Session.{Was, keeper_of}
use Rattle.s80_session.specs.Working.{IsAmid, IsAt, IsLost}
use Rattle.s80_chunk.specs.declared.item.Item.{Item}
use Rattle.s80_chunk.specs.Held.{Held, HasRead, HoldsNoMore}

-- what merging the items of an input with a list comes to
abbrev pub InputMergesTo : List Change → List ℕ → Outcome → Type 0
InputMergesTo changes input outcome = (items : List SessionItem) × ItemsOf input items × MergesTo changes items outcome

-- ---- the list

-- the list with a front of those of the changes that are accepted behind it
abbrev pub IsFrontOf : List Change → List Change → List Change → Type 0
IsFrontOf changes theirs list = (front : List Change) × (rest : List Change) × ((joined changes theirs).changes ≡ front ++ rest) × (list ≡ changes ++ front)

-- while what merging comes to is done: the list stays, but where changes are added
abbrev pub IsOnTheWay : List Change → Outcome → List Change → Type 0
IsOnTheWay changes (outcomes.Refused refusal) list = list ≡ changes
IsOnTheWay changes (outcomes.Conflicts keys) list = list ≡ changes
IsOnTheWay changes (outcomes.Joins theirs) list = IsFrontOf changes theirs list

-- while an input is merged
abbrev pub IsMergedSoFar : List Change → List ℕ → List Change → Type 0
IsMergedSoFar changes input list = (list ≡ changes) ⊎ ((outcome : Outcome) × InputMergesTo changes input outcome × IsOnTheWay changes outcome list)

-- ---- how it ends

-- all was merged and answered; without conflicts either set might have come first
pub record Merged (may_leave : Image → Type 0) (now : Shown) (work : Work) (input put : List ℕ) (trouble : Bool) : Type 0 where
  pub outcome : Outcome
  pub comes : InputMergesTo work.changes input outcome
  pub either_way : MayMerge (base_of work.changes) (ours_of work.changes) outcome
  pub within : length input ≤ input_limit
  pub left : now.left ≡ Some []
  pub stands : ShownFor may_leave now (list_after_merging work.changes outcome)
  pub taken : now.taken ≡ Some (put ++ reply_text work.changes outcome)
  pub troubled : is_trouble work.changes outcome ≡ trouble

-- no more of the input came than this
pub record IsCutOff (now : Shown) (input : List ℕ) : Type 0 where
  pub got : List ℕ
  pub left : List ℕ
  pub input_is : input ≡ got ++ left
  pub left_is : now.left ≡ Some left

-- the limit of the input was reached, and one byte came behind it
pub record IsTooLong (now : Shown) (input : List ℕ) : Type 0 where
  pub got : List ℕ
  pub next : ℕ
  pub left : List ℕ
  pub input_is : input ≡ got ++ next ∷ left
  pub limit : length got ≡ input_limit
  pub left_is : now.left ≡ Some left

-- nothing is merged, and nothing is put
pub record IsUnmerged (may_leave : Image → Type 0) (now : Shown) (work : Work) (put : List ℕ) : Type 0 where
  pub stands : ShownFor may_leave now work.changes
  pub taken : now.taken ≡ Some put

-- memory was wanting: the disk stands for the list so far, and nothing is put
pub record MergeStopped (may_leave : Image → Type 0) (now : Shown) (work : Work) (input put : List ℕ) : Type 0 where
  pub list : List Change
  pub so_far : IsMergedSoFar work.changes input list
  pub stands : ShownFor may_leave now list
  pub taken : now.taken ≡ Some put

-- the disk failed, and reads for such a list; nothing is put
pub record MergeLost (may_leave : Image → Type 0) (now : Shown) (work : Work) (input put : List ℕ) : Type 0 where
  pub list : List Change
  pub so_far : IsMergedSoFar work.changes input list
  pub reads : ReadsFor now.tells now.files may_leave list
  pub taken : now.taken ≡ Some put

-- the output failed within the reply
pub record MergeUntold (may_leave : Image → Type 0) (now : Shown) (work : Work) (input put : List ℕ) : Type 0 where
  pub outcome : Outcome
  pub comes : InputMergesTo work.changes input outcome
  pub told : ℕ
  pub short : told < length (reply_text work.changes outcome)
  pub stands : ShownFor may_leave now (list_after_merging work.changes outcome)
  pub taken : now.taken ≡ Some (put ++ take told (reply_text work.changes outcome))

-- what merging an input leaves, by how it ends, with what the session held before it and holds now
abbrev pub Merges : {T : Type 0} → Result T SessionEnd → (Image → Type 0) → Shown → Was → Was → Work → List ℕ → List ℕ → Type 0
Merges (Ok done) may_leave now was is work input put =
    (trouble : Bool) × (is.troubled ≡ (was.troubled || trouble)) × Merged may_leave now work input put trouble
Merges (Err ends.Memory) may_leave now was is work input put = MergeStopped may_leave now work input put
Merges (Err (ends.Read failed)) may_leave now was is work input put = IsCutOff now input × IsUnmerged may_leave now work put
Merges (Err (ends.Write failed)) may_leave now was is work input put = MergeUntold may_leave now work input put
Merges (Err (ends.Disk failed)) may_leave now was is work input put = MergeLost may_leave now work input put
Merges (Err (ends.Damaged damage)) may_leave now was is work input put = ⊥
Merges (Err ends.TooLong) may_leave now was is work input put = IsTooLong now input × IsUnmerged may_leave now work put

-- What a crash leaves while that is done: files that stand for the list so far; once a byte of the reply is told, for the list behind all of it.
abbrev pub JoinKeeps : Work → Outcome → List ℕ → ℕ → Image → Type 0
JoinKeeps work outcome put told c =
    ((list : List Change) × IsOnTheWay work.changes outcome list × HasKept list (length put) told c)
    ⊎ HasKept (list_after_merging work.changes outcome) (length (put ++ reply_text work.changes outcome)) told c

-- the same while an input is merged: before all of it was taken in the list stays
abbrev pub MergeKeeps : Work → List ℕ → List ℕ → ℕ → Image → Type 0
MergeKeeps work input put told c =
    HasKept work.changes (length put) told c
    ⊎ ((outcome : Outcome) × InputMergesTo work.changes input outcome × JoinKeeps work outcome put told c)

-- ---- in its midst: the input

-- the reader was fed these bytes, and their items so far were taken in from the state of a base
pub record IsTaking (given : Given) (reader : Held) (state : State) (bytes : List ℕ) (items : List Item) : Type 0 where
  pub read : HasRead reader bytes items
  pub come : HasCome given state (chunks items)

-- the same, where the bytes hold no item more
pub record HasTakenIn (given : Given) (reader : Held) (state : State) (bytes : List ℕ) : Type 0 where
  pub items : List Item
  pub taking : IsTaking given reader state bytes items
  pub no_more : HoldsNoMore reader.ended bytes items

-- the input didn't come to its end
abbrev pub Uncome : SessionEnd → Shown → List ℕ → Type 0
Uncome ends.Memory now input = Unit {0}
Uncome (ends.Read failed) now input = IsCutOff now input
Uncome ends.TooLong now input = IsTooLong now input
Uncome (ends.Write failed) now input = ⊥
Uncome (ends.Disk failed) now input = ⊥
Uncome (ends.Damaged damage) now input = ⊥

-- all of it was fed, and what is whole before its end was taken in
pub record IsFed (given : Given) (reader : Held) (now : Shown) (state : State) (input : List ℕ) : Type 0 where
  pub items : List Item
  pub taking : IsTaking given reader state input items
  pub left : now.left ≡ Some []
  pub within : length input ≤ input_limit

abbrev pub Feeds : {T : Type 0} → Result T SessionEnd → Given → Held → Shown → State → List ℕ → Type 0
Feeds (Ok done) given reader now state input = IsFed given reader now state input
Feeds (Err end) given reader now state input = Uncome end now input

-- all items of the input were taken in
pub record HasAll (given : Given) (now : Shown) (state : State) (input : List ℕ) : Type 0 where
  pub items : List SessionItem
  pub all : ItemsOf input items
  pub come : HasCome given state items
  pub left : now.left ≡ Some []
  pub within : length input ≤ input_limit

abbrev pub TakesIn : {T : Type 0} → Result T SessionEnd → Given → Shown → State → List ℕ → Type 0
TakesIn (Ok done) given now state input = HasAll given now state input
TakesIn (Err end) given now state input = Uncome end now input

-- it took in some items of an input, from the state of some list
abbrev pub HasSome : Given → Type 0
HasSome given = (list : List Change) × (items : List SessionItem) × All IsGiven items × HasCome given (state_of list) items

-- ---- in its midst: the outcome

-- a part of the list is read, or it isn't known
abbrev pub IsPart : List Change → Result (List Change) SessionEnd → Type 0
IsPart wanted (Ok found) = found ≡ wanted
IsPart wanted (Err (ends.Damaged damage)) = ⊥
IsPart wanted (Err _) = Unit {0}

abbrev pub IsReadFrom : (List Change → List Change) → Result (List Change) SessionEnd → Shown → Session → Type 0
IsReadFrom part result o session =
    IsTrue o.tells → (changes : List Change) → Knows o.files (keeper_of session) changes → (keeper_of session).log.end ≡ length (blocks changes) → IsPart (part changes) result

-- what merging the input comes to, with the session at rest as before
pub record HasOutcome (may_leave : Image → Type 0) (now : Shown) (session : Session) (work : Work) (input put : List ℕ) (outcome : Outcome) : Type 0 where
  pub comes : InputMergesTo work.changes input outcome
  pub either_way : MayMerge (base_of work.changes) (ours_of work.changes) outcome
  pub within : length input ≤ input_limit
  pub left : now.left ≡ Some []
  pub at : IsAt may_leave now session work put

-- there is none, and the session is at rest as before; or the disk failed
abbrev pub NoOutcome : SessionEnd → (Image → Type 0) → Shown → Session → Work → List ℕ → List ℕ → Type 0
NoOutcome (ends.Disk failed) may_leave now session work input put = IsLost may_leave now put (λ list. list ≡ work.changes)
NoOutcome end may_leave now session work input put = Uncome end now input × IsAt may_leave now session work put

abbrev pub ComesTo : Result Outcome SessionEnd → (Image → Type 0) → Shown → Session → Work → List ℕ → List ℕ → Type 0
ComesTo (Ok outcome) may_leave now session work input put = HasOutcome may_leave now session work input put outcome
ComesTo (Err end) may_leave now session work input put = NoOutcome end may_leave now session work input put

-- ---- in its midst: the changes

-- the work with changes more
abbrev pub with_added : Work → List Change → Work
with_added work added = record work { changes = work.changes ++ added }

-- changes that were added first, and those behind them
abbrev pub behind : List Change → Joined → Joined
behind added rest = record rest { changes = added ++ rest.changes }

-- of these changes so many were added, and the others wait; a front of the list is kept, and nothing is put or held
pub record IsJoining (may_leave : Image → Type 0) (o : Shown) (session : Session) (work : Work) (put : List ℕ) (theirs added waiting : List Change) : Type 0 where
  pub whole : joined work.changes theirs ≡ behind added (joined (work.changes ++ added) waiting)
  pub early : List Change
  pub pending : List Change
  pub parts : added ≡ early ++ pending
  pub at : IsAmid may_leave o session (with_added work added) (record { kept = work.changes ++ early; put = put; held = [] })

-- memory is wanting: the session is at work behind the list so far, of which one of before is kept
pub record IsHalfDone (may_leave : Image → Type 0) (o : Shown) (session : Session) (work : Work) (put : List ℕ) (outcome : Outcome) : Type 0 where
  pub early : List Change
  pub early_so_far : IsOnTheWay work.changes outcome early
  pub behind : Work
  pub so_far : IsOnTheWay work.changes outcome behind.changes
  pub at : IsAmid may_leave o session behind (record { kept = early; put = put; held = [] })

-- the disk failed, and reads for the list so far
pub record IsLostOnTheWay (may_leave : Image → Type 0) (now : Shown) (work : Work) (put : List ℕ) (outcome : Outcome) : Type 0 where
  pub list : List Change
  pub so_far : IsOnTheWay work.changes outcome list
  pub reads : ReadsFor now.tells now.files may_leave list
  pub taken : now.taken ≡ Some put

-- the output failed within the reply
pub record IsHalfTold (may_leave : Image → Type 0) (now : Shown) (work : Work) (put : List ℕ) (outcome : Outcome) : Type 0 where
  pub told : ℕ
  pub short : told < length (reply_text work.changes outcome)
  pub stands : ShownFor may_leave now (list_after_merging work.changes outcome)
  pub taken : now.taken ≡ Some (put ++ take told (reply_text work.changes outcome))

-- it ended so, and what is pending isn't committed yet
abbrev pub JoinBreaks : SessionEnd → (Image → Type 0) → Shown → Session → Work → List ℕ → Outcome → Type 0
JoinBreaks ends.Memory may_leave now session work put outcome = IsHalfDone may_leave now session work put outcome
JoinBreaks (ends.Disk failed) may_leave now session work put outcome = IsLostOnTheWay may_leave now work put outcome
JoinBreaks (ends.Write failed) may_leave now session work put outcome = IsHalfTold may_leave now work put outcome
JoinBreaks (ends.Read failed) may_leave now session work put outcome = ⊥
JoinBreaks (ends.Damaged damage) may_leave now session work put outcome = ⊥
JoinBreaks ends.TooLong may_leave now session work put outcome = ⊥

-- after what is pending was to be committed, where it fills a group
abbrev pub JoinsOn : {T : Type 0} → Result T SessionEnd → (Image → Type 0) → Shown → Session → Work → List ℕ → List Change → List Change → List Change → Type 0
JoinsOn (Ok done) may_leave now session work put theirs added waiting = IsJoining may_leave now session work put theirs added waiting
JoinsOn (Err end) may_leave now session work put theirs added waiting = JoinBreaks end may_leave now session work put (outcomes.Joins theirs)

-- after a change more was to be added
abbrev pub AddsChange : Result (Option Refusal) SessionEnd → (Image → Type 0) → Shown → Session → Work → List ℕ → List Change → List Change → Change → List Change → Type 0
AddsChange (Ok None) may_leave now session work put theirs added change waiting = IsJoining may_leave now session work put theirs (added ++ change ∷ []) waiting
AddsChange (Ok (Some refusal)) may_leave now session work put theirs added change waiting =
    (joined work.changes theirs ≡ record { changes = added; refusal = Some refusal }) × IsJoining may_leave now session work put theirs added (change ∷ waiting)
AddsChange (Err end) may_leave now session work put theirs added change waiting = JoinBreaks end may_leave now session work put (outcomes.Joins theirs)

-- all is done but that this is told
pub record IsDone (may_leave : Image → Type 0) (now : Shown) (session : Session) (work : Work) (put : List ℕ) (outcome : Outcome) (reply : MergeReply) : Type 0 where
  pub early : List Change
  pub early_so_far : IsOnTheWay work.changes outcome early
  pub at : IsAmid may_leave now session (record work { changes = list_after_merging work.changes outcome }) (record { kept = early; put = put; held = [] })
  pub text_is : reply.text ≡ reply_text work.changes outcome
  pub trouble_is : reply.is_trouble ≡ is_trouble work.changes outcome

abbrev pub RepliesTo : Result MergeReply SessionEnd → (Image → Type 0) → Shown → Session → Work → List ℕ → Outcome → Type 0
RepliesTo (Ok reply) may_leave now session work put outcome = IsDone may_leave now session work put outcome reply
RepliesTo (Err end) may_leave now session work put outcome = JoinBreaks end may_leave now session work put outcome

-- all is done and told
pub record IsTold (may_leave : Image → Type 0) (now : Shown) (work : Work) (put : List ℕ) (outcome : Outcome) (trouble : Bool) : Type 0 where
  pub stands : ShownFor may_leave now (list_after_merging work.changes outcome)
  pub taken : now.taken ≡ Some (put ++ reply_text work.changes outcome)
  pub trouble_is : trouble ≡ is_trouble work.changes outcome

abbrev pub Joins : {T : Type 0} → Result T SessionEnd → (Image → Type 0) → Shown → Session → Was → Was → Work → List ℕ → Outcome → Type 0
Joins (Ok done) may_leave now session was is work put outcome = (trouble : Bool) × (is.troubled ≡ (was.troubled || trouble)) × IsTold may_leave now work put outcome trouble
Joins (Err end) may_leave now session was is work put outcome = JoinBreaks end may_leave now session work put outcome

-- the same once what was pending is committed where memory was wanting
abbrev pub JoinEnds : {T : Type 0} → Result T SessionEnd → (Image → Type 0) → Shown → Was → Was → Work → List ℕ → Outcome → Type 0
JoinEnds (Ok done) may_leave now was is work put outcome = (trouble : Bool) × (is.troubled ≡ (was.troubled || trouble)) × IsTold may_leave now work put outcome trouble
JoinEnds (Err ends.Memory) may_leave now was is work put outcome =
    (list : List Change) × IsOnTheWay work.changes outcome list × ShownFor may_leave now list × (now.taken ≡ Some put)
JoinEnds (Err (ends.Disk failed)) may_leave now was is work put outcome = IsLostOnTheWay may_leave now work put outcome
JoinEnds (Err (ends.Write failed)) may_leave now was is work put outcome = IsHalfTold may_leave now work put outcome
JoinEnds (Err (ends.Read failed)) may_leave now was is work put outcome = ⊥
JoinEnds (Err (ends.Damaged damage)) may_leave now was is work put outcome = ⊥
JoinEnds (Err ends.TooLong) may_leave now was is work put outcome = ⊥
