-- What a run leaves: on its disk, of its input and in its output.
use Rattle.std.specs.Prelude.{◌≡◌, ◌⊎◌, ℕ, ◌+◌, ◌^◌, ◌<◌, ◌≤◌, ◌||◌, Bool, true, false, List, [], ◌∷◌, ◌++◌, length, map, take, Option, Some, Result, Ok, Err}
use Rattle.s80_chunk.specs.declared.item.Item.{Item}
use Rattle.s80_chunk.specs.Chunks.{Reads, IsReading, IsBlank}
use Rattle.s80_chunk.specs.Held.{HoldsNoMore}
use Rattle.s80_change.specs.declared.change.Change.{Change}
use Rattle.s80_change.specs.Block.{blocks}
use Rattle.s80_disk.specs.Image.{Image}
use Rattle.s80_disk.specs.Shown.{Shown}
use Rattle.s80_keeper.specs.Standing.{FilesStandFor, ReadsFor, StandsFor}
use Rattle.s80_model.specs.declared.item.SessionItem.{SessionItem}
use Rattle.s80_model.specs.declared.item.SessionItem.TheVariants.{Chunk, Unended}
use Rattle.s80_session.specs.declared.end.SessionEnd.{SessionEnd}
use Rattle.s80_session.specs.declared.end.SessionEnd.TheVariants as ends
use Rattle.s80_session.specs.LastRun.{RunBehindAll}
use Rattle.s80_session.specs.Session.{group_limit, Was}
use Rattle.s80_machine.specs.Came.{RanValue}
use Rattle.s80_model.specs.Asked.{Ask, evaluates}
use Rattle.s80_model.specs.Replies.{Work, AllAsk, replies, list_after_all, any_trouble}

-- what an outside shows stands for a list
abbrev pub ShownFor : (Image → Type 0) → Shown → List Change → Type 0
ShownFor may_leave o changes = StandsFor o.tells o.files may_leave changes

-- at most so many bytes are told, and a crash leaves files that stand for this list
pub record HasKept (changes : List Change) (most told : ℕ) (c : Image) : Type 0 where
  pub no_more : told ≤ most
  pub files : FilesStandFor c changes

abbrev pub chunks : List Item → List SessionItem
chunks given = map Chunk given

-- the items of a whole input: those of its reading, and one more where it ends within an item
abbrev pub ItemsOf : List ℕ → List SessionItem → Type 0
ItemsOf input items =
    (given : List Item) × (rest : List ℕ) × IsReading input given rest
    × ((IsBlank rest × (items ≡ chunks given)) ⊎ ((IsBlank rest → ⊥) × (items ≡ chunks given ++ Unended ∷ [])))

-- the first items of an input: a front of it reads as these, or they are all of them
abbrev pub FirstItemsOf : List ℕ → List SessionItem → Type 0
FirstItemsOf input items =
    ((given : List Item) × (rest : List ℕ) × Reads true false input given rest × (items ≡ chunks given)) ⊎ ItemsOf input items

-- all whole items of bytes behind which more may follow
abbrev pub WholeItemsOf : List ℕ → List SessionItem → Type 0
WholeItemsOf bytes items =
    (given : List Item) × (rest : List ℕ) × Reads false false bytes given rest × HoldsNoMore false bytes given × (items ≡ chunks given)

-- what all items of a whole input ask in a work, what its first items do, and what all whole items of bytes do
abbrev pub AsksOf : Work → List ℕ → List Ask → Type 0
AsksOf work input asks = (items : List SessionItem) × ItemsOf input items × AllAsk work items asks

abbrev pub FirstAsksOf : Work → List ℕ → List Ask → Type 0
FirstAsksOf work input asks = (items : List SessionItem) × FirstItemsOf input items × AllAsk work items asks

abbrev pub WholeAsksOf : Work → List ℕ → List Ask → Type 0
WholeAsksOf work bytes asks = (items : List SessionItem) × WholeItemsOf bytes items × AllAsk work items asks

abbrev pub input_limit : ℕ
input_limit = 2 ^ 30

-- what was asked is worked: the disk stands for the list after it, and the replies were put behind what was there
pub record Answered (may_leave : Image → Type 0) (now : Shown) (work : Work) (before : List ℕ) (asks : List Ask) : Type 0 where
  pub stands : ShownFor may_leave now (list_after_all work asks)
  pub taken : now.taken ≡ Some (before ++ replies work asks)

-- a run that came to the end of its input
pub record Finished (may_leave : Image → Type 0) (now : Shown) (work : Work) (input before : List ℕ) (trouble : Bool) (before_run ran : Option RanValue) : Type 0 where
  pub asks : List Ask
  pub all : AsksOf work input asks
  pub within : length input ≤ input_limit
  pub left : now.left ≡ Some []
  pub answered : Answered may_leave now work before asks
  pub troubled : any_trouble work asks ≡ trouble
  pub last_run : RunBehindAll work asks before_run ran

-- a run to which no more input came: all whole items of the bytes taken are answered
pub record CutOff (may_leave : Image → Type 0) (now : Shown) (work : Work) (input before : List ℕ) : Type 0 where
  pub asks : List Ask
  pub got : List ℕ
  pub left : List ℕ
  pub input_is : input ≡ got ++ left
  pub left_is : now.left ≡ Some left
  pub whole : WholeAsksOf work got asks
  pub answered : Answered may_leave now work before asks

-- the same, where the limit of the input was reached and one byte came behind it
pub record TooLong (may_leave : Image → Type 0) (now : Shown) (work : Work) (input before : List ℕ) : Type 0 where
  pub asks : List Ask
  pub got : List ℕ
  pub next : ℕ
  pub left : List ℕ
  pub input_is : input ≡ got ++ next ∷ left
  pub limit : length got ≡ input_limit
  pub left_is : now.left ≡ Some left
  pub whole : WholeAsksOf work got asks
  pub answered : Answered may_leave now work before asks

-- a run that broke off between two items, or before an item had changed anything
pub record BrokeOff (may_leave : Image → Type 0) (now : Shown) (work : Work) (input before : List ℕ) : Type 0 where
  pub asks : List Ask
  pub first : FirstAsksOf work input asks
  pub answered : Answered may_leave now work before asks

-- What was worked is one group behind replies of which at least so many bytes were put: without the last ask, less than a group of replies to
-- what wasn't answered, and less than a group of blocks behind that and at most one change more, which was kept first.
pub record IsOneGroup (work : Work) (asks : List Ask) (put : ℕ) : Type 0 where
  pub answered : List Ask
  pub more : List Ask
  pub waiting : List Ask
  pub last : List Ask
  pub all : asks ≡ ((answered ++ more) ++ waiting) ++ last
  pub early : length more ≤ 1
  pub one : length last ≤ 1
  pub whole : length (replies work answered) ≤ put
  pub few_replies : length (replies work ((answered ++ more) ++ waiting)) < length (replies work answered) + group_limit
  pub few_blocks : length (blocks (list_after_all work ((answered ++ more) ++ waiting))) < length (blocks (list_after_all work (answered ++ more))) + group_limit

-- a run whose output failed within the replies to what it had worked and kept, which is no more than a group
pub record Unanswered (may_leave : Image → Type 0) (now : Shown) (work : Work) (input before : List ℕ) : Type 0 where
  pub asks : List Ask
  pub count : ℕ
  pub short : count < length (replies work asks)
  pub group : IsOneGroup work asks count
  pub first : FirstAsksOf work input asks
  pub stands : ShownFor may_leave now (list_after_all work asks)
  pub taken : now.taken ≡ Some (before ++ take count (replies work asks))

-- a run that kept a doIt, and had no memory to evaluate it
pub record Unevaluated (may_leave : Image → Type 0) (now : Shown) (work : Work) (input before : List ℕ) : Type 0 where
  pub asks : List Ask
  pub text : List ℕ
  pub told : List ℕ
  pub stopped : Bool
  pub first : FirstAsksOf work input (asks ++ evaluates text told stopped ∷ [])
  pub stands : ShownFor may_leave now (list_after_all work (asks ++ evaluates text told stopped ∷ []))
  pub taken : now.taken ≡ Some (before ++ replies work asks)

-- a run whose disk failed: the disk reads for the list after the first items, up to one at least whose reply was put
pub record LostDisk (may_leave : Image → Type 0) (now : Shown) (work : Work) (input before : List ℕ) : Type 0 where
  pub asks : List Ask
  pub more : List Ask
  pub first : FirstAsksOf work input (asks ++ more)
  pub taken : now.taken ≡ Some (before ++ replies work asks)
  pub reads : ReadsFor now.tells now.files may_leave (list_after_all work (asks ++ more))

-- what a run leaves, by how it ends, with what the session held before it and holds now
abbrev pub Ends : {T : Type 0} → Result T SessionEnd → (Image → Type 0) → Shown → Was → Was → Work → List ℕ → List ℕ → Type 0
Ends (Ok done) may_leave now was is work input before =
    (trouble : Bool) × (is.troubled ≡ (was.troubled || trouble)) × Finished may_leave now work input before trouble was.last_run is.last_run
Ends (Err ends.Memory) may_leave now was is work input before = BrokeOff may_leave now work input before ⊎ Unevaluated may_leave now work input before
Ends (Err (ends.Read failed)) may_leave now was is work input before = CutOff may_leave now work input before
Ends (Err (ends.Write failed)) may_leave now was is work input before = Unanswered may_leave now work input before
Ends (Err (ends.Disk failed)) may_leave now was is work input before = LostDisk may_leave now work input before
Ends (Err (ends.Damaged damage)) may_leave now was is work input before = ⊥
Ends (Err ends.TooLong) may_leave now was is work input before = TooLong may_leave now work input before

-- What a crash leaves at a moment at which so many bytes are told: files that stand for the list after the first items of the input, up
-- to one at least whose reply is among the bytes told. So no change is answered that a crash takes.
abbrev pub Keeps : Work → List ℕ → List ℕ → ℕ → Image → Type 0
Keeps work input before told c =
    (asks : List Ask) × FirstAsksOf work input asks × HasKept (list_after_all work asks) (length (before ++ replies work asks)) told c
