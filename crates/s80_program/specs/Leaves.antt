-- What the program leaves: on its disk, of its input and in its output.
use Rattle.std.specs.Prelude.{◌≡◌, ◌⊎◌, ◌≤◌, ℕ, Bool, true, false, List, [], ◌∷◌, ◌++◌, length, take, Option, Some, None}
use Rattle.s80_change.specs.declared.change.Change.{Change}
use Rattle.s80_disk.specs.Image.{Image}
use Rattle.s80_disk.specs.Shown.{Shown}
use Rattle.s80_keeper.specs.declared.start.Damage.{Damage}
use Rattle.s80_keeper.specs.Keeper.{KeeperState}
use Rattle.s80_keeper.specs.Standing.{FilesStandFor, ReadsFor}
use Rattle.s80_keeper.specs.Start.{IsDamage, IsUndamaged}
use Rattle.s80_machine.specs.Came.{RanValue}
use Rattle.s80_model.specs.declared.item.SessionItem.{SessionItem}
use Rattle.s80_model.specs.Asked.{Ask, evaluates}
use Rattle.s80_model.specs.Replies.{AllAsk, AsksIn, Work, begun, is_trouble, replies, reply_text, reply_to, work_after}
use Rattle.s80_joining.specs.declared.outcome.Outcome.{Outcome}
use Rattle.s80_joining.specs.Answer.{reply_text as merge_text}
use Rattle.s80_joining.specs.Outcome.{asks_of}
use Rattle.s80_make.specs.declared.tally.Tally.{Tally}
use Rattle.s80_make.specs.Tally.{CountsAll, made_line, nothing}
use Rattle.s80_session.specs.Making.{Made, MakeAsks, MakeKeeps, MakeLost, MakeStopped, MakeUntold}
use Rattle.s80_session.specs.Merging.{InputMergesTo, IsCutOff, IsTooLong, IsUnmerged, MergeKeeps, MergeLost, MergeStopped, MergeUntold, Merged}
use Rattle.s80_session.specs.Run.{HasKept, ShownFor, Answered, Finished, CutOff, TooLong, BrokeOff, Unanswered, Unevaluated, LostDisk, Keeps, AsksOf, input_limit}
use Rattle.s80_session.specs.Working.{IsLost, IsPast, StepLeaves}
use Rattle.s80_program.specs.declared.status.Status.{Status}
use Rattle.s80_program.specs.declared.status.Status.TheVariants as status
use Rattle.s80_program.specs.Command.{Command, Job, Options, Run, Merge, Do, Tell, Make, Takes, Merges, Works, Makes, job_of, settings_of}

-- an outside that tells its contents: what its disk reads stands for this list, this input is left, and these bytes were taken
pub record StartsWith (may_leave : Image → Type 0) (o : Shown) (changes : List Change) (input before : List ℕ) : Type 0 where
  pub reads : ReadsFor o.tells o.files may_leave changes
  pub left : o.left ≡ Some input
  pub taken : o.taken ≡ Some before
  pub told : o.told ≡ length before

-- before the first item, with these options, and with the seconds of the clock, where it tells them
abbrev pub beginning : Options → Option ℕ → List Change → Work
beginning options moment changes = begun (settings_of options moment) changes

-- what a run leaves of the work from which it begins, by its status
abbrev pub RunLeaves : Status → (Image → Type 0) → Shown → Work → List ℕ → List ℕ → Type 0
RunLeaves status.Done may_leave now work input before = (ran : Option RanValue) × Finished may_leave now work input before false None ran
RunLeaves status.DoneWithRefusals may_leave now work input before = (ran : Option RanValue) × Finished may_leave now work input before true None ran
RunLeaves status.Usage may_leave now work input before = ⊥
RunLeaves status.ReadFault may_leave now work input before = CutOff may_leave now work input before
RunLeaves status.WriteFault may_leave now work input before = Unanswered may_leave now work input before
RunLeaves status.DiskFault may_leave now work input before = LostDisk may_leave now work input before
RunLeaves status.Damaged may_leave now work input before = ⊥
RunLeaves status.OutOfMemory may_leave now work input before = BrokeOff may_leave now work input before ⊎ Unevaluated may_leave now work input before
RunLeaves status.InputTooLong may_leave now work input before = TooLong may_leave now work input before

-- what one item asks was worked, and answered
abbrev pub IsAnswered : (Image → Type 0) → Shown → Work → Ask → List ℕ → Type 0
IsAnswered may_leave now work ask before = Answered may_leave now work before (ask ∷ [])

-- the doIt that an item asks to evaluate was kept, and memory was wanting to evaluate it
abbrev pub IsUnevaluated : (Image → Type 0) → Shown → Work → SessionItem → List ℕ → Type 0
IsUnevaluated may_leave now work item before =
    (text : List ℕ) × (told : List ℕ) × (stopped : Bool) × AsksIn work item (evaluates text told stopped) × ShownFor may_leave now (work_after work (evaluates text told stopped)).changes
    × (now.taken ≡ Some before)

-- what is left where one item is worked, by the status
abbrev pub ItemLeaves : Status → (Image → Type 0) → Shown → Work → SessionItem → List ℕ → Type 0
ItemLeaves status.Done may_leave now work item before =
    (ask : Ask) × AsksIn work item ask × IsAnswered may_leave now work ask before × (is_trouble (reply_to work ask) ≡ false)
ItemLeaves status.DoneWithRefusals may_leave now work item before =
    (ask : Ask) × AsksIn work item ask × IsAnswered may_leave now work ask before × (is_trouble (reply_to work ask) ≡ true)
ItemLeaves status.Usage may_leave now work item before = ⊥
ItemLeaves status.ReadFault may_leave now work item before = ⊥
ItemLeaves status.WriteFault may_leave now work item before =
    (ask : Ask) × AsksIn work item ask × (count : ℕ) × ShownFor may_leave now (work_after work ask).changes
    × (now.taken ≡ Some (before ++ take count (reply_text (reply_to work ask))))
ItemLeaves status.DiskFault may_leave now work item before = IsLost may_leave now before (IsPast work item)
ItemLeaves status.Damaged may_leave now work item before = ⊥
ItemLeaves status.OutOfMemory may_leave now work item before = Answered may_leave now work before [] ⊎ IsUnevaluated may_leave now work item before
ItemLeaves status.InputTooLong may_leave now work item before = ⊥

-- what is left where so many classes are made, by the status
abbrev pub MakeLeaves : Status → (Image → Type 0) → Shown → Work → ℕ → List ℕ → Type 0
MakeLeaves status.Done may_leave now work count before = (ran : Option RanValue) × Made may_leave now work count before false None ran
MakeLeaves status.DoneWithRefusals may_leave now work count before = (ran : Option RanValue) × Made may_leave now work count before true None ran
MakeLeaves status.Usage may_leave now work count before = ⊥
MakeLeaves status.ReadFault may_leave now work count before = ⊥
MakeLeaves status.WriteFault may_leave now work count before = MakeUntold may_leave now work count before
MakeLeaves status.DiskFault may_leave now work count before = MakeLost may_leave now work count before
MakeLeaves status.Damaged may_leave now work count before = ⊥
MakeLeaves status.OutOfMemory may_leave now work count before = MakeStopped may_leave now work count before
MakeLeaves status.InputTooLong may_leave now work count before = ⊥

-- what is left where the input is merged as a second change set, by the status
abbrev pub MergeLeaves : Status → (Image → Type 0) → Shown → Work → List ℕ → List ℕ → Type 0
MergeLeaves status.Done may_leave now work input before = Merged may_leave now work input before false
MergeLeaves status.DoneWithRefusals may_leave now work input before = Merged may_leave now work input before true
MergeLeaves status.Usage may_leave now work input before = ⊥
MergeLeaves status.ReadFault may_leave now work input before = IsCutOff now input × IsUnmerged may_leave now work before
MergeLeaves status.WriteFault may_leave now work input before = MergeUntold may_leave now work input before
MergeLeaves status.DiskFault may_leave now work input before = MergeLost may_leave now work input before
MergeLeaves status.Damaged may_leave now work input before = ⊥
MergeLeaves status.OutOfMemory may_leave now work input before = MergeStopped may_leave now work input before
MergeLeaves status.InputTooLong may_leave now work input before = IsTooLong now input × IsUnmerged may_leave now work before

-- what a command leaves, by the status: a run works the input, a merge merges it, and each other command takes none
abbrev pub LeavesFor : Job → Status → (Image → Type 0) → Shown → Work → List ℕ → List ℕ → Type 0
LeavesFor Takes status may_leave now work input before = RunLeaves status may_leave now work input before
LeavesFor Merges status may_leave now work input before = MergeLeaves status may_leave now work input before
LeavesFor (Works item) status may_leave now work input before = ItemLeaves status may_leave now work item before × (now.left ≡ Some input)
LeavesFor (Makes count) status may_leave now work input before = MakeLeaves status may_leave now work count before × (now.left ≡ Some input)

abbrev pub Leaves : Command → Status → (Image → Type 0) → Shown → Work → List ℕ → List ℕ → Type 0
Leaves command = LeavesFor (job_of command)

-- what a crash leaves at a moment at which so many bytes are told: files that stand for the list after the first items, up to one at least
-- whose reply is among the bytes told
abbrev pub KeepsFor : Job → Work → List ℕ → List ℕ → ℕ → Image → Type 0
KeepsFor Takes work input before told c = Keeps work input before told c
KeepsFor Merges work input before told c = MergeKeeps work input before told c
KeepsFor (Works item) work input before told c = StepLeaves work before item told c
KeepsFor (Makes count) work input before told c = MakeKeeps work count before told c

abbrev pub CommandKeeps : Command → Work → List ℕ → List ℕ → ℕ → Image → Type 0
CommandKeeps command = KeepsFor (job_of command)

-- the same behind a run that was killed: until a byte more is told a crash may leave files that stand for the list before its last commit
abbrev pub KilledKeeps : Command → Work → List Change → List ℕ → List ℕ → ℕ → Image → Type 0
KilledKeeps command work was input before told c = HasKept was (length before) told c ⊎ CommandKeeps command work input before told c

-- all that a command asks: a merge asks to add the changes that it comes to, up to the first that is refused
abbrev pub AllAsksFor : Job → Work → List ℕ → List Ask → Type 0
AllAsksFor Takes work input all = AsksOf work input all
AllAsksFor Merges work input all = (outcome : Outcome) × InputMergesTo work.changes input outcome × (all ≡ asks_of work.changes outcome)
AllAsksFor (Works item) work input all = AllAsk work (item ∷ []) all
AllAsksFor (Makes count) work input all = MakeAsks work count all

abbrev pub AllAsks : Command → Work → List ℕ → List Ask → Type 0
AllAsks command = AllAsksFor (job_of command)

-- the bytes that are written to all that is asked: the replies, or where classes are made or an input is merged one reply to all of it
abbrev pub WritesFor : Job → Work → List ℕ → List Ask → List ℕ → Type 0
WritesFor Takes work input all bytes = bytes ≡ replies work all
WritesFor Merges work input all bytes = (outcome : Outcome) × InputMergesTo work.changes input outcome × (bytes ≡ merge_text work.changes outcome)
WritesFor (Works item) work input all bytes = bytes ≡ replies work all
WritesFor (Makes count) work input all bytes = (tally : Tally) × CountsAll work all nothing tally × (bytes ≡ made_line count tally)

abbrev pub Writes : Command → Work → List ℕ → List Ask → List ℕ → Type 0
Writes command = WritesFor (job_of command)

-- a front of these bytes was put behind those before
abbrev pub PutsFront : Option (List ℕ) → List ℕ → List ℕ → Type 0
PutsFront taken before bytes = (put more : List ℕ) × (taken ≡ Some (before ++ put)) × (bytes ≡ put ++ more)

-- the input isn't too long for the command
abbrev pub IsWithin : Command → List ℕ → Type 0
IsWithin Run input = length input ≤ input_limit
IsWithin Merge input = length input ≤ input_limit
IsWithin (Do text) input = Unit {0}
IsWithin (Tell query) input = Unit {0}
IsWithin (Make count) input = Unit {0}

-- No list is what the files stand for, though nothing is wrong with them by themselves: the image that the mark names is that of another list than the
-- log's, or of none, and may tell a place at which no block stands.
pub record StandForNone (files : Image) : Type 0 where
  pub keeper : KeeperState
  pub undamaged : IsUndamaged files keeper
  pub no_list : (changes : List Change) → FilesStandFor files changes → ⊥

-- the files have a damage, or a strange image
abbrev pub AreDamaged : Image → Type 0
AreDamaged files = ((damage : Damage) × IsDamage files damage) ⊎ StandForNone files

-- where the files at entry are damaged, this is answered, or it is out of memory, or a call of the disk fails
abbrev pub TellsDamage : Status → Type 0
TellsDamage status.Damaged = Unit {0}
TellsDamage status.OutOfMemory = Unit {0}
TellsDamage status.DiskFault = Unit {0}
TellsDamage _ = ⊥
