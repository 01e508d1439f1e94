-- A session works generated input.
use Rattle.std.specs.Prelude.{◌≡◌, ◌⊎◌, ◌<◌, ◌≤◌, ◌||◌, ℕ, Bool, List, [], ◌++◌, length, take, Option, Some, Result, Ok, Err}
use Rattle.s80_disk.specs.Image.{Image}
use Rattle.s80_disk.specs.Shown.{Shown}
use Rattle.s80_keeper.specs.Standing.{ReadsFor}
use Rattle.s80_machine.specs.Came.{RanValue}
use Rattle.s80_make.specs.declared.tally.Tally.{Tally}
use Rattle.s80_make.specs.Items.{make_items}
use Rattle.s80_make.specs.Tally.{CountsAll, made_line, nothing}
use Rattle.s80_model.specs.Asked.{Ask}
use Rattle.s80_model.specs.Replies.{AllAsk, Work, any_trouble, list_after_all, work_after_all}
use Rattle.s80_session.specs.declared.end.SessionEnd.{SessionEnd}
use Rattle.s80_session.specs.declared.end.SessionEnd.TheVariants as ends
use Rattle.s80_session.specs.declared.session.Session.{Session}
use Rattle.s80_session.specs.LastRun.{RunBehindAll}
use Rattle.s80_session.specs.Run.{HasKept, ShownFor}
use Rattle.s80_session.specs.Session.{Was, last_run_of, troubled_of}
use Rattle.s80_session.specs.Working.{IsAmid}

-- what all that is worked for so many classes asks, condensing too, what its first so many items do, and what a front of it does
abbrev pub MakeAsks : Work → ℕ → List Ask → Type 0
MakeAsks work count asks = AllAsk work (make_items count) asks

abbrev pub MadeAsk : Work → ℕ → ℕ → List Ask → Type 0
MadeAsk work count done asks = AllAsk work (take done (make_items count)) asks

abbrev pub FirstMakeAsks : Work → ℕ → List Ask → Type 0
FirstMakeAsks work count asks = (done : ℕ) × MadeAsk work count done asks

-- all was worked and condensed, and one line is put
pub record Made (may_leave : Image → Type 0) (now : Shown) (work : Work) (count : ℕ) (put : List ℕ) (trouble : Bool) (before_run ran : Option RanValue) : Type 0 where
  pub asks : List Ask
  pub all : MakeAsks work count asks
  pub tally : Tally
  pub counted : CountsAll work asks nothing tally
  pub stands : ShownFor may_leave now (list_after_all work asks)
  pub taken : now.taken ≡ Some (put ++ made_line count tally)
  pub troubled : any_trouble work asks ≡ trouble
  pub last_run : RunBehindAll work asks before_run ran

-- it broke off: the disk stands for the list behind a front of what is asked, and nothing is put
pub record MakeStopped (may_leave : Image → Type 0) (now : Shown) (work : Work) (count : ℕ) (put : List ℕ) : Type 0 where
  pub asks : List Ask
  pub first : FirstMakeAsks work count asks
  pub stands : ShownFor may_leave now (list_after_all work asks)
  pub taken : now.taken ≡ Some put

-- the disk failed, and reads for such a list; nothing is put
pub record MakeLost (may_leave : Image → Type 0) (now : Shown) (work : Work) (count : ℕ) (put : List ℕ) : Type 0 where
  pub asks : List Ask
  pub first : FirstMakeAsks work count asks
  pub reads : ReadsFor now.tells now.files may_leave (list_after_all work asks)
  pub taken : now.taken ≡ Some put

-- the output failed within the line
pub record MakeUntold (may_leave : Image → Type 0) (now : Shown) (work : Work) (count : ℕ) (put : List ℕ) : Type 0 where
  pub asks : List Ask
  pub all : MakeAsks work count asks
  pub tally : Tally
  pub counted : CountsAll work asks nothing tally
  pub stands : ShownFor may_leave now (list_after_all work asks)
  pub told : ℕ
  pub short : told < length (made_line count tally)
  pub taken : now.taken ≡ Some (put ++ take told (made_line count tally))

-- what making so many classes leaves, by how it ends, with what the session held before it and holds now
abbrev pub Makes : {T : Type 0} → Result T SessionEnd → (Image → Type 0) → Shown → Was → Was → Work → ℕ → List ℕ → Type 0
Makes (Ok done) may_leave now was is work count put =
    (trouble : Bool) × (is.troubled ≡ (was.troubled || trouble)) × Made may_leave now work count put trouble was.last_run is.last_run
Makes (Err ends.Memory) may_leave now was is work count put = MakeStopped may_leave now work count put
Makes (Err (ends.Disk failed)) may_leave now was is work count put = MakeLost may_leave now work count put
Makes (Err (ends.Write failed)) may_leave now was is work count put = MakeUntold may_leave now work count put
Makes (Err (ends.Read failed)) may_leave now was is work count put = ⊥
Makes (Err (ends.Damaged damage)) may_leave now was is work count put = ⊥
Makes (Err ends.TooLong) may_leave now was is work count put = ⊥

-- What a crash leaves at a moment at which so many bytes are told: files that stand for the list behind a front of what is asked; once a byte
-- of the line is among them, the list behind all of it.
abbrev pub MakeKeeps : Work → ℕ → List ℕ → ℕ → Image → Type 0
MakeKeeps work count put told c =
    ((asks : List Ask) × FirstMakeAsks work count asks × HasKept (list_after_all work asks) (length put) told c)
    ⊎ ((asks : List Ask) × (tally : Tally) × MakeAsks work count asks × CountsAll work asks nothing tally
    × HasKept (list_after_all work asks) (length (put ++ made_line count tally)) told c)

-- ---- in its midst

-- the first so many items were worked and counted since the session held that; a front of what they ask is kept, and nothing is put or held
pub record IsMaking (may_leave : Image → Type 0) (o : Shown) (session : Session) (was : Was) (work : Work) (put : List ℕ) (count done : ℕ) (tally : Tally) : Type 0 where
  pub early : List Ask
  pub pending : List Ask
  pub early_done : ℕ
  pub no_more : early_done ≤ done
  pub early_asked : MadeAsk work count early_done early
  pub asked : MadeAsk work count done (early ++ pending)
  pub counted : CountsAll work (early ++ pending) nothing tally
  pub at : IsAmid may_leave o session (work_after_all work (early ++ pending)) (record { kept = list_after_all work early; put = put; held = [] })
  pub troubled : troubled_of session ≡ (was.troubled || any_trouble work (early ++ pending))
  pub last_run : RunBehindAll work (early ++ pending) was.last_run (last_run_of session)

-- memory is wanting: the session is at work behind a list that a front of what is asked makes, of which an earlier one is kept
pub record IsStalled (may_leave : Image → Type 0) (o : Shown) (session : Session) (work : Work) (put : List ℕ) (count : ℕ) : Type 0 where
  pub asks : List Ask
  pub first : FirstMakeAsks work count asks
  pub early : List Ask
  pub kept_first : FirstMakeAsks work count early
  pub behind : Work
  pub list_is : behind.changes ≡ list_after_all work asks
  pub at : IsAmid may_leave o session behind (record { kept = list_after_all work early; put = put; held = [] })

-- it ended so, and what is pending isn't committed yet
abbrev pub MakeBreaks : SessionEnd → (Image → Type 0) → Shown → Session → Work → ℕ → List ℕ → Type 0
MakeBreaks ends.Memory may_leave now session work count put = IsStalled may_leave now session work put count
MakeBreaks (ends.Disk failed) may_leave now session work count put = MakeLost may_leave now work count put
MakeBreaks (ends.Write failed) may_leave now session work count put = MakeUntold may_leave now work count put
MakeBreaks (ends.Read failed) may_leave now session work count put = ⊥
MakeBreaks (ends.Damaged damage) may_leave now session work count put = ⊥
MakeBreaks ends.TooLong may_leave now session work count put = ⊥

-- after one item more was to be worked and counted
abbrev pub MakesItem : {T : Type 0} → Result T SessionEnd → (Image → Type 0) → Shown → Session → Was → Work → List ℕ → ℕ → ℕ → Tally → Type 0
MakesItem (Ok over) may_leave now session was work put count done tally = IsMaking may_leave now session was work put count done tally
MakesItem (Err end) may_leave now session was work put count done tally = MakeBreaks end may_leave now session work count put

-- after all was worked and told, with what the session held before it
abbrev pub MakesAll : {T : Type 0} → Result T SessionEnd → (Image → Type 0) → Shown → Session → Was → Was → Work → ℕ → List ℕ → Type 0
MakesAll (Ok done) may_leave now session was is work count put = Makes {T = Unit {0}} (Ok tt) may_leave now was is work count put
MakesAll (Err end) may_leave now session was is work count put = MakeBreaks end may_leave now session work count put
