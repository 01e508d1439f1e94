-- The first items of an input are the front of all its items, and so are their replies.
use Rattle.std.proofs.Common.{All, ◌≡◌, ◌⊎◌, inl, inr, ℕ, ◌≤◌, List, [], ◌∷◌, ◌++◌, length, take, drop, refl, sym, ap, subst, ◌∙◌, Option, Some, None, Bool, true, false, append_assoc, arith, length-append, take-append-drop}
use Rattle.std.proofs.lemmas.List.{append-nil}
use Rattle.std.proofs.lemmas.List.Elements.{All-cons, All-head, All-nil, All-push, All-same, All-tail}
use Rattle.s80_chunk.specs.declared.item.Item.{Item}
use Rattle.s80_chunk.specs.declared.item.Role.TheVariants.{Plain}
use Rattle.s80_chunk.specs.Chunks.{Reads, IsBlank, IsSound, item_of}
use Rattle.s80_line.specs.Line.{number_of}
use Rattle.s80_chunk.proofs.lemmas.Reading.{one_reading}
use Rattle.s80_chunk.proofs.Sound.{reads_sound}
use Rattle.s80_chunk.proofs.Stopping.{reads_prefix}
use Rattle.s80_change.specs.declared.change.Change.{Change}
use Rattle.s80_disk.specs.Image.{Image}
use Rattle.s80_machine.specs.Came.{RanValue}
use Rattle.s80_model.specs.declared.item.SessionItem.{SessionItem}
use Rattle.s80_model.specs.declared.item.SessionItem.TheVariants.{Chunk, Unended, Query}
use Rattle.s80_model.specs.Asked.{Ask, IsTimed, evaluates}
use Rattle.s80_model.specs.Replies.{AllAsk, AsksIn, Work, reply_to, reply_text, work_after, work_after_all, replies}
use Rattle.s80_model.specs.Settings.{Settings}
use Rattle.s80_model.proofs.lemmas.Timed.{chunks_timed}
use Rattle.s80_disk.specs.Shown.{Shown, Faults}
use Rattle.s80_joining.specs.declared.outcome.Outcome.{Outcome}
use Rattle.s80_joining.specs.Answer.{reply_text as merge_text}
use Rattle.s80_joining.specs.Outcome.{IsOutcome, MergesTo}
use Rattle.s80_joining.specs.Parts.{base_of, ours_of}
use Rattle.s80_joining.specs.Theirs.{IsGiven}
use Rattle.s80_make.specs.declared.tally.Tally.{Tally}
use Rattle.s80_make.specs.Tally.{CountsAll, made_line, nothing}
use Rattle.s80_session.specs.Making.{Made, MakeAsks, MakeUntold}
use Rattle.s80_session.specs.Merging.{InputMergesTo, MergeUntold, Merged}
use Rattle.s80_session.specs.Run.{chunks, ItemsOf, FirstItemsOf, AsksOf, BrokeOff, FirstAsksOf, WholeAsksOf, Finished, LostDisk, Unanswered, Unevaluated, input_limit}
use Rattle.s80_session.proofs.Taking.{first_of}
use Rattle.s80_program.specs.declared.status.Status.{Status}
use Rattle.s80_program.specs.declared.status.Status.TheVariants as status
use Rattle.s80_program.specs.Command.{Command, Job, Run, Merge, Do, Tell, Make, Takes, Merges, Works, Makes, IsTimedJob, behind_separators}
use Rattle.s80_program.specs.Ending.{NoFault, StatusHasReason, IsWhole}
use Rattle.s80_program.specs.Leaves.{AllAsksFor, IsAnswered, IsWithin, ItemLeaves, Leaves, LeavesFor, MakeLeaves, MergeLeaves, PutsFront, RunLeaves, WritesFor}
use Rattle.s80_program.proofs.Again.{OneList, goes_on_asking}

chunks_append : (given more : List Item) → chunks (given ++ more) ≡ chunks given ++ chunks more
chunks_append [] more = refl
chunks_append (item ∷ given) more = ap (λ l. Chunk item ∷ l) (chunks_append given more)

replies_append : (work : Work) (asks more : List Ask) → replies work (asks ++ more) ≡ replies work asks ++ replies (work_after_all work asks) more
replies_append work [] more = refl
replies_append work (ask ∷ asks) more =
    ap (λ l. reply_text (reply_to work ask) ++ l) (replies_append (work_after work ask) asks more)
    ∙ sym (append_assoc (reply_text (reply_to work ask)) (replies (work_after work ask) asks) (replies (work_after_all (work_after work ask) asks) more))

abbrev Begins : {A : Type 0} → List A → List A → Type 0
Begins {A} items all = (others : List A) × (all ≡ items ++ others)

-- the items that a front reads as are the first of all
reading_first : (input : List ℕ) (given : List Item) (rest : List ℕ) (all : List SessionItem) → Reads true false input given rest → ItemsOf input all → Begins (chunks given) all
reading_first input given rest all reads (whole, end, reading, inl (blank, is)) =
    let p = reads_prefix true false input whole given end rest reading.reads reading.stops reads in
    (chunks p.0, is ∙ ap chunks p.1 ∙ chunks_append given p.0)
reading_first input given rest all reads (whole, end, reading, inr (not, is)) =
    let p = reads_prefix true false input whole given end rest reading.reads reading.stops reads in
    (chunks p.0 ++ Unended ∷ [], is ∙ ap (λ l. chunks l ++ Unended ∷ []) p.1 ∙ ap (λ l. l ++ Unended ∷ []) (chunks_append given p.0) ∙ append_assoc (chunks given) (chunks p.0) (Unended ∷ []))

-- an input has one list of items
pub one_list : (input : List ℕ) (items all : List SessionItem) → ItemsOf input items → ItemsOf input all → items ≡ all
one_list input items all (given, rest, reading, inl (blank, is)) (other, end, again, inl (too, are)) = is ∙ ap chunks (one_reading input given other rest end reading again).0 ∙ sym are
one_list input items all (given, rest, reading, inr (not, is)) (other, end, again, inr (nor, are)) = is ∙ ap (λ l. chunks l ++ Unended ∷ []) (one_reading input given other rest end reading again).0 ∙ sym are
one_list input items all (given, rest, reading, inl (blank, is)) (other, end, again, inr (nor, are)) =
    let P : List ℕ → Type 0 = λ l. IsBlank l in absurd (nor (subst P (one_reading input given other rest end reading again).1 blank))
one_list input items all (given, rest, reading, inr (not, is)) (other, end, again, inl (too, are)) =
    let P : List ℕ → Type 0 = λ l. IsBlank l in absurd (not (subst P (sym (one_reading input given other rest end reading again).1) too))

first_items : (input : List ℕ) (items all : List SessionItem) → FirstItemsOf input items → ItemsOf input all → Begins items all
first_items input items all (inl (given, rest, reads, is)) whole =
    let P : List SessionItem → Type 0 = λ l. Begins l all in subst P (sym is) (reading_first input given rest all reads whole)
first_items input items all (inr list) whole = ([], sym (one_list input items all list whole) ∙ sym (append-nil items))

whole_first : (work : Work) (got left input : List ℕ) (asks : List Ask) → WholeAsksOf work got asks → input ≡ got ++ left → FirstAsksOf work input asks
whole_first work got left input asks (items, (given, rest, reads, none, is), asked) input_is =
    let P : List SessionItem → Type 0 = λ l. FirstItemsOf input l in
    (items, subst P (sym is) (first_of false got left input given (rest, reads) input_is (λ e. cc)), asked)

-- ---- what an input asks

-- an input files nothing out
items_timed : (settings : Settings) (input : List ℕ) (items : List SessionItem) → ItemsOf input items → All (IsTimed settings) items
items_timed settings input items (given, rest, reading, inl (blank, is)) = All-same (IsTimed settings) items (chunks given) is (chunks_timed settings given)
items_timed settings input items (given, rest, reading, inr (not, is)) =
    All-same (IsTimed settings) items (chunks given ++ Unended ∷ []) is (All-push (IsTimed settings) (chunks given) Unended (chunks_timed settings given) tt)

first_timed : (settings : Settings) (input : List ℕ) (items : List SessionItem) → FirstItemsOf input items → All (IsTimed settings) items
first_timed settings input items (inl (given, rest, reads, is)) = All-same (IsTimed settings) items (chunks given) is (chunks_timed settings given)
first_timed settings input items (inr list) = items_timed settings input items list

-- what the first items ask is the front of what all of them ask
first_asks : OneList → (work : Work) (input : List ℕ) (asks all : List Ask) → FirstAsksOf work input asks → AsksOf work input all → (more : List Ask) × (all ≡ asks ++ more)
first_asks one work input asks all (items, first, asked) (list, whole, all_asked) =
    let begins = first_items input items list first whole in
    let P : List SessionItem → Type 0 = λ l. AllAsk work l all in
    goes_on_asking one work items begins.0 asks all (first_timed work.settings input items first) asked (subst P begins.1 all_asked)

front_put : (now : Shown) (work : Work) (before : List ℕ) (asks more : List Ask) → now.taken ≡ Some (before ++ replies work asks) → PutsFront now.taken before (replies work (asks ++ more))
front_put now work before asks more taken = (replies work asks, replies (work_after_all work asks) more, taken, replies_append work asks more)

-- a front of the replies was put
part_put : (now : Shown) (work : Work) (before : List ℕ) (asks : List Ask) (count : ℕ) (more : List Ask) → now.taken ≡ Some (before ++ take count (replies work asks)) → PutsFront now.taken before (replies work (asks ++ more))
part_put now work before asks count more taken =
    let all = replies work asks in
    let after = replies (work_after_all work asks) more in (
      take count all,
      drop count all ++ after,
      taken,
      replies_append work asks more ∙ ap (λ (l : List ℕ). l ++ after) (sym (take-append-drop count all)) ∙ append_assoc (take count all) (drop count all) after,
    )

-- a run that answered the first of its items
first_front : OneList → (now : Shown) (work : Work) (input before : List ℕ) (asks all : List Ask) → FirstAsksOf work input asks → now.taken ≡ Some (before ++ replies work asks) → AsksOf work input all → PutsFront now.taken before (replies work all)
first_front one now work input before asks all first taken whole =
    let rest = first_asks one work input asks all first whole in
    let P : List Ask → Type 0 = λ l. PutsFront now.taken before (replies work l) in
    subst P (sym rest.1) (front_put now work before asks rest.0 taken)

unanswered_front : OneList → (may_leave : Image → Type 0) (now : Shown) (work : Work) (input before : List ℕ) (all : List Ask) → Unanswered may_leave now work input before → AsksOf work input all → PutsFront now.taken before (replies work all)
unanswered_front one may_leave now work input before all h whole =
    let rest = first_asks one work input h.asks all h.first whole in
    let P : List Ask → Type 0 = λ l. PutsFront now.taken before (replies work l) in
    subst P (sym rest.1) (part_put now work before h.asks h.count rest.0 h.taken)

-- more was worked than is answered
lost_front : OneList → (may_leave : Image → Type 0) (now : Shown) (work : Work) (input before : List ℕ) (all : List Ask) → LostDisk may_leave now work input before → AsksOf work input all → PutsFront now.taken before (replies work all)
lost_front one may_leave now work input before all h whole =
    let rest = first_asks one work input (h.asks ++ h.more) all h.first whole in
    let P : List Ask → Type 0 = λ l. PutsFront now.taken before (replies work l) in
    subst P (sym (rest.1 ∙ append_assoc h.asks h.more rest.0)) (front_put now work before h.asks (h.more ++ rest.0) h.taken)

-- the last doIt was kept, and not evaluated
unevaluated_front : OneList → (may_leave : Image → Type 0) (now : Shown) (work : Work) (input before : List ℕ) (all : List Ask) → Unevaluated may_leave now work input before → AsksOf work input all → PutsFront now.taken before (replies work all)
unevaluated_front one may_leave now work input before all h whole =
    let last = evaluates h.text h.told h.stopped in
    let rest = first_asks one work input (h.asks ++ last ∷ []) all h.first whole in
    let P : List Ask → Type 0 = λ l. PutsFront now.taken before (replies work l) in
    subst P (sym (rest.1 ∙ append_assoc h.asks (last ∷ []) rest.0)) (front_put now work before h.asks (last ∷ rest.0) h.taken)

broke_off_front : OneList → (may_leave : Image → Type 0) (now : Shown) (work : Work) (input before : List ℕ) (all : List Ask) → BrokeOff may_leave now work input before ⊎ Unevaluated may_leave now work input before → AsksOf work input all → PutsFront now.taken before (replies work all)
broke_off_front one may_leave now work input before all (inl h) whole = first_front one now work input before h.asks all h.first h.answered.taken whole
broke_off_front one may_leave now work input before all (inr h) whole = unevaluated_front one may_leave now work input before all h whole

finished_front : OneList → (may_leave : Image → Type 0) (now : Shown) (work : Work) (input before : List ℕ) (all : List Ask) (troubled : Bool) (was ran : Option RanValue) → Finished may_leave now work input before troubled was ran → AsksOf work input all → PutsFront now.taken before (replies work all)
finished_front one may_leave now work input before all troubled was ran h whole = first_front one now work input before h.asks all (h.all.0, inr h.all.1, h.all.2) h.answered.taken whole

-- whatever the status of a run, a front of all replies was put
run_front : OneList → (s : Status) (may_leave : Image → Type 0) (now : Shown) (work : Work) (input before : List ℕ) (all : List Ask) → RunLeaves s may_leave now work input before → AsksOf work input all → PutsFront now.taken before (replies work all)
run_front one status.Done may_leave now work input before all h whole = finished_front one may_leave now work input before all false None h.0 h.1 whole
run_front one status.DoneWithRefusals may_leave now work input before all h whole = finished_front one may_leave now work input before all true None h.0 h.1 whole
run_front one status.Usage may_leave now work input before all h whole = absurd h
run_front one status.ReadFault may_leave now work input before all h whole = first_front one now work input before h.asks all (whole_first work h.got h.left input h.asks h.whole h.input_is) h.answered.taken whole
run_front one status.WriteFault may_leave now work input before all h whole = unanswered_front one may_leave now work input before all h whole
run_front one status.DiskFault may_leave now work input before all h whole = lost_front one may_leave now work input before all h whole
run_front one status.Damaged may_leave now work input before all h whole = absurd h
run_front one status.OutOfMemory may_leave now work input before all h whole = broke_off_front one may_leave now work input before all h whole
run_front one status.InputTooLong may_leave now work input before all h whole = first_front one now work input before h.asks all (whole_first work h.got (h.next ∷ h.left) input h.asks h.whole h.input_is) h.answered.taken whole

-- the same where one item is worked: it asks the first of what is asked
item_asks : OneList → (work : Work) (item : SessionItem) (ask : Ask) (all : List Ask) → IsTimed work.settings item → AsksIn work item ask → AllAsk work (item ∷ []) all → (more : List Ask) × (all ≡ ask ∷ more)
item_asks one work item ask all timed asked whole = goes_on_asking one work (item ∷ []) [] (ask ∷ []) all (All-cons (IsTimed work.settings) item [] timed (All-nil (IsTimed work.settings))) (asked, tt) whole

answered_front : OneList → (may_leave : Image → Type 0) (now : Shown) (work : Work) (item : SessionItem) (ask : Ask) (before : List ℕ) (all : List Ask) → IsTimed work.settings item → AsksIn work item ask → IsAnswered may_leave now work ask before → AllAsk work (item ∷ []) all → PutsFront now.taken before (replies work all)
answered_front one may_leave now work item ask before all timed asked h whole =
    let rest = item_asks one work item ask all timed asked whole in
    let P : List Ask → Type 0 = λ l. PutsFront now.taken before (replies work l) in
    subst P (sym rest.1) (front_put now work before (ask ∷ []) rest.0 h.taken)

-- its reply was put in part
part_front : OneList → (now : Shown) (work : Work) (item : SessionItem) (ask : Ask) (count : ℕ) (before : List ℕ) (all : List Ask) → IsTimed work.settings item → AsksIn work item ask → now.taken ≡ Some (before ++ take count (reply_text (reply_to work ask))) → AllAsk work (item ∷ []) all → PutsFront now.taken before (replies work all)
part_front one now work item ask count before all timed asked taken whole =
    let rest = item_asks one work item ask all timed asked whole in
    let line = reply_text (reply_to work ask) in
    let after = replies (work_after work ask) rest.0 in
    let P : List Ask → Type 0 = λ l. PutsFront now.taken before (replies work l) in
    subst P (sym rest.1) (take count line, drop count line ++ after, taken, ap (λ (l : List ℕ). l ++ after) (sym (take-append-drop count line)) ∙ append_assoc (take count line) (drop count line) after)

pub nothing_put : (now : Shown) (before bytes : List ℕ) → now.taken ≡ Some before → PutsFront now.taken before bytes
nothing_put now before bytes taken = ([], bytes, taken ∙ ap Some (sym (append-nil before)), refl)

item_front : OneList → (s : Status) (may_leave : Image → Type 0) (now : Shown) (work : Work) (item : SessionItem) (before : List ℕ) (all : List Ask) → IsTimed work.settings item → ItemLeaves s may_leave now work item before → AllAsk work (item ∷ []) all → PutsFront now.taken before (replies work all)
item_front one status.Done may_leave now work item before all timed (ask, asked, h, calm) whole = answered_front one may_leave now work item ask before all timed asked h whole
item_front one status.DoneWithRefusals may_leave now work item before all timed (ask, asked, h, calm) whole = answered_front one may_leave now work item ask before all timed asked h whole
item_front one status.Usage may_leave now work item before all timed h whole = absurd h
item_front one status.ReadFault may_leave now work item before all timed h whole = absurd h
item_front one status.WriteFault may_leave now work item before all timed (ask, asked, count, stands, taken) whole = part_front one now work item ask count before all timed asked taken whole
item_front one status.DiskFault may_leave now work item before all timed h whole = nothing_put now before (replies work all) h.taken
item_front one status.Damaged may_leave now work item before all timed h whole = absurd h
item_front one status.OutOfMemory may_leave now work item before all timed (inl h) whole = nothing_put now before (replies work all) (h.taken ∙ ap Some (append-nil before))
item_front one status.OutOfMemory may_leave now work item before all timed (inr (text, told, stopped, asked, stands, taken)) whole = nothing_put now before (replies work all) taken
item_front one status.InputTooLong may_leave now work item before all timed h whole = absurd h

-- ---- where classes are made

-- what so many classes ask is one list, and so is what the replies to it come to
abbrev pub OneMaking : Type 0
OneMaking = (work : Work) (count : ℕ) (asks others : List Ask) → MakeAsks work count asks → MakeAsks work count others → others ≡ asks

abbrev pub OneTally : Type 0
OneTally = (work : Work) (asks : List Ask) (tally other : Tally) → CountsAll work asks nothing tally → CountsAll work asks nothing other → other ≡ tally

-- the line that is written to it
abbrev MakeWrites : Work → ℕ → List Ask → List ℕ → Type 0
MakeWrites work count all bytes = (tally : Tally) × CountsAll work all nothing tally × (bytes ≡ made_line count tally)

-- so the line is one
same_tally : OneMaking → OneTally → (work : Work) (count : ℕ) (asks all : List Ask) (one other : Tally) → MakeAsks work count asks → MakeAsks work count all → CountsAll work asks nothing one → CountsAll work all nothing other → other ≡ one
same_tally list tally work count asks all one other h whole counted counts =
    let P : List Ask → Type 0 = λ l. CountsAll work l nothing other in
    tally work asks one other counted (subst P (list work count asks all h whole) counts)

made_front : OneMaking → OneTally → (may_leave : Image → Type 0) (now : Shown) (work : Work) (count : ℕ) (before : List ℕ) (all : List Ask) (bytes : List ℕ) (troubled : Bool) (was ran : Option RanValue) → Made may_leave now work count before troubled was ran → MakeAsks work count all → MakeWrites work count all bytes → PutsFront now.taken before bytes
made_front list tally may_leave now work count before all bytes troubled was ran h whole (other, counts, is) =
    let line = made_line count h.tally in
    let same = same_tally list tally work count h.asks all h.tally other h.all whole h.counted counts in
    (line, [], h.taken, is ∙ ap (λ t. made_line count t) same ∙ sym (append-nil line))

-- a front of it was put
untold_front : OneMaking → OneTally → (may_leave : Image → Type 0) (now : Shown) (work : Work) (count : ℕ) (before : List ℕ) (all : List Ask) (bytes : List ℕ) → MakeUntold may_leave now work count before → MakeAsks work count all → MakeWrites work count all bytes → PutsFront now.taken before bytes
untold_front list tally may_leave now work count before all bytes h whole (other, counts, is) =
    let line = made_line count h.tally in
    let same = same_tally list tally work count h.asks all h.tally other h.all whole h.counted counts in
    (take h.told line, drop h.told line, h.taken, is ∙ ap (λ t. made_line count t) same ∙ sym (take-append-drop h.told line))

make_front : OneMaking → OneTally → (s : Status) (may_leave : Image → Type 0) (now : Shown) (work : Work) (count : ℕ) (before : List ℕ) (all : List Ask) (bytes : List ℕ) → MakeLeaves s may_leave now work count before → MakeAsks work count all → MakeWrites work count all bytes → PutsFront now.taken before bytes
make_front list tally status.Done may_leave now work count before all bytes h whole writes = made_front list tally may_leave now work count before all bytes false None h.0 h.1 whole writes
make_front list tally status.DoneWithRefusals may_leave now work count before all bytes h whole writes = made_front list tally may_leave now work count before all bytes true None h.0 h.1 whole writes
make_front list tally status.Usage may_leave now work count before all bytes h whole writes = absurd h
make_front list tally status.ReadFault may_leave now work count before all bytes h whole writes = absurd h
make_front list tally status.WriteFault may_leave now work count before all bytes h whole writes = untold_front list tally may_leave now work count before all bytes h whole writes
make_front list tally status.DiskFault may_leave now work count before all bytes h whole writes = nothing_put now before bytes h.taken
make_front list tally status.Damaged may_leave now work count before all bytes h whole writes = absurd h
make_front list tally status.OutOfMemory may_leave now work count before all bytes h whole writes = nothing_put now before bytes h.taken
make_front list tally status.InputTooLong may_leave now work count before all bytes h whole writes = absurd h

-- ---- where an input is merged

-- merging items comes to one thing
abbrev pub OneOutcome : Type 0
OneOutcome = (base ours : List Change) (items : List SessionItem) → All IsGiven items → (one other : Outcome) → IsOutcome base ours items one → IsOutcome base ours items other → one ≡ other

chunks_given : (given : List Item) → All IsSound given → All IsGiven (chunks given)
chunks_given [] all = All-nil IsGiven
chunks_given (item ∷ given) all = All-cons IsGiven (Chunk item) (chunks given) (All-head IsSound item given all) (chunks_given given (All-tail IsSound item given all))

-- what an input gives is sound
items_given : (input : List ℕ) (items : List SessionItem) → ItemsOf input items → All IsGiven items
items_given input items (given, rest, reading, inl (blank, is)) = All-same IsGiven items (chunks given) is (chunks_given given (reads_sound true false input given rest reading.reads))
items_given input items (given, rest, reading, inr (not, is)) =
    All-same IsGiven items (chunks given ++ Unended ∷ []) is (All-push IsGiven (chunks given) Unended (chunks_given given (reads_sound true false input given rest reading.reads)) tt)

-- so merging an input comes to one thing
same_outcome : OneOutcome → (changes : List Change) (input : List ℕ) (one other : Outcome) → InputMergesTo changes input one → InputMergesTo changes input other → other ≡ one
same_outcome law changes input one other (items, all, h) (others, whole, k) =
    let P : List SessionItem → Type 0 = λ l. MergesTo changes l other in
    law (base_of changes) (ours_of changes) items (items_given input items all) other one (subst P (one_list input others items whole all) k) h

-- the reply that is written to it
abbrev MergeWrites : Work → List ℕ → List ℕ → Type 0
MergeWrites work input bytes = (outcome : Outcome) × InputMergesTo work.changes input outcome × (bytes ≡ merge_text work.changes outcome)

merged_front : OneOutcome → (may_leave : Image → Type 0) (now : Shown) (work : Work) (input before bytes : List ℕ) (troubled : Bool) → Merged may_leave now work input before troubled → MergeWrites work input bytes → PutsFront now.taken before bytes
merged_front law may_leave now work input before bytes troubled h (other, comes, is) =
    let text = merge_text work.changes h.outcome in
    let same = same_outcome law work.changes input h.outcome other h.comes comes in
    (text, [], h.taken, is ∙ ap (λ o. merge_text work.changes o) same ∙ sym (append-nil text))

-- a front of it was put
half_told_front : OneOutcome → (may_leave : Image → Type 0) (now : Shown) (work : Work) (input before bytes : List ℕ) → MergeUntold may_leave now work input before → MergeWrites work input bytes → PutsFront now.taken before bytes
half_told_front law may_leave now work input before bytes h (other, comes, is) =
    let text = merge_text work.changes h.outcome in
    let same = same_outcome law work.changes input h.outcome other h.comes comes in
    (take h.told text, drop h.told text, h.taken, is ∙ ap (λ o. merge_text work.changes o) same ∙ sym (take-append-drop h.told text))

merge_front : OneOutcome → (s : Status) (may_leave : Image → Type 0) (now : Shown) (work : Work) (input before bytes : List ℕ) → MergeLeaves s may_leave now work input before → MergeWrites work input bytes → PutsFront now.taken before bytes
merge_front law status.Done may_leave now work input before bytes h writes = merged_front law may_leave now work input before bytes false h writes
merge_front law status.DoneWithRefusals may_leave now work input before bytes h writes = merged_front law may_leave now work input before bytes true h writes
merge_front law status.Usage may_leave now work input before bytes h writes = absurd h
merge_front law status.ReadFault may_leave now work input before bytes h writes = nothing_put now before bytes h.1.taken
merge_front law status.WriteFault may_leave now work input before bytes h writes = half_told_front law may_leave now work input before bytes h writes
merge_front law status.DiskFault may_leave now work input before bytes h writes = nothing_put now before bytes h.taken
merge_front law status.Damaged may_leave now work input before bytes h writes = absurd h
merge_front law status.OutOfMemory may_leave now work input before bytes h writes = nothing_put now before bytes h.taken
merge_front law status.InputTooLong may_leave now work input before bytes h writes = nothing_put now before bytes h.1.taken

-- whatever is worked and the status, a front of all that is written to it was put
pub front_of : OneList → OneMaking → OneTally → OneOutcome → (job : Job) (s : Status) (may_leave : Image → Type 0) (now : Shown) (work : Work) (input before : List ℕ) (all : List Ask) (bytes : List ℕ) → IsTimedJob work.settings job → LeavesFor job s may_leave now work input before → AllAsksFor job work input all → WritesFor job work input all bytes → PutsFront now.taken before bytes
front_of one list tally outcome Takes s may_leave now work input before all bytes timed h whole writes =
    let P : List ℕ → Type 0 = λ l. PutsFront now.taken before l in
    subst P (sym writes) (run_front one s may_leave now work input before all h whole)
front_of one list tally outcome Merges s may_leave now work input before all bytes timed h whole writes = merge_front outcome s may_leave now work input before bytes h writes
front_of one list tally outcome (Works item) s may_leave now work input before all bytes timed h whole writes =
    let P : List ℕ → Type 0 = λ l. PutsFront now.taken before l in
    subst P (sym writes) (item_front one s may_leave now work item before all timed h.0 whole)
front_of one list tally outcome (Makes count) s may_leave now work input before all bytes timed h whole writes = make_front list tally s may_leave now work count before all bytes h.0 whole writes

longer : (got left : List ℕ) (next : ℕ) (input : List ℕ) → input ≡ got ++ next ∷ left → length got ≡ input_limit → length input ≤ input_limit → ⊥
longer got left next input is limit within =
    let size = ap length is ∙ length-append got (next ∷ left) in omega (arith, size, limit, within)

-- with no fault and a short input, all of a run is done or memory is wanting
run_whole : (s : Status) (old new : Faults) (may_leave : Image → Type 0) (now : Shown) (work : Work) (input before : List ℕ) → RunLeaves s may_leave now work input before → StatusHasReason old new s → NoFault old new → length input ≤ input_limit → IsWhole s
run_whole status.Done old new may_leave now work input before h reason none within = tt
run_whole status.DoneWithRefusals old new may_leave now work input before h reason none within = tt
run_whole status.Usage old new may_leave now work input before h reason none within = absurd h
run_whole status.ReadFault old new may_leave now work input before h reason none within = absurd (none.read reason)
run_whole status.WriteFault old new may_leave now work input before h reason none within = absurd (none.write reason)
run_whole status.DiskFault old new may_leave now work input before h reason none within = absurd (none.disk reason)
run_whole status.Damaged old new may_leave now work input before h reason none within = absurd h
run_whole status.OutOfMemory old new may_leave now work input before h reason none within = tt
run_whole status.InputTooLong old new may_leave now work input before h reason none within = absurd (longer h.got h.left h.next input h.input_is h.limit within)

item_whole : (s : Status) (old new : Faults) (may_leave : Image → Type 0) (now : Shown) (work : Work) (item : SessionItem) (before : List ℕ) → ItemLeaves s may_leave now work item before → StatusHasReason old new s → NoFault old new → IsWhole s
item_whole status.Done old new may_leave now work item before h reason none = tt
item_whole status.DoneWithRefusals old new may_leave now work item before h reason none = tt
item_whole status.Usage old new may_leave now work item before h reason none = absurd h
item_whole status.ReadFault old new may_leave now work item before h reason none = absurd h
item_whole status.WriteFault old new may_leave now work item before h reason none = absurd (none.write reason)
item_whole status.DiskFault old new may_leave now work item before h reason none = absurd (none.disk reason)
item_whole status.Damaged old new may_leave now work item before h reason none = absurd h
item_whole status.OutOfMemory old new may_leave now work item before h reason none = tt
item_whole status.InputTooLong old new may_leave now work item before h reason none = absurd h

make_whole : (s : Status) (old new : Faults) (may_leave : Image → Type 0) (now : Shown) (work : Work) (count : ℕ) (before : List ℕ) → MakeLeaves s may_leave now work count before → StatusHasReason old new s → NoFault old new → IsWhole s
make_whole status.Done old new may_leave now work count before h reason none = tt
make_whole status.DoneWithRefusals old new may_leave now work count before h reason none = tt
make_whole status.Usage old new may_leave now work count before h reason none = absurd h
make_whole status.ReadFault old new may_leave now work count before h reason none = absurd h
make_whole status.WriteFault old new may_leave now work count before h reason none = absurd (none.write reason)
make_whole status.DiskFault old new may_leave now work count before h reason none = absurd (none.disk reason)
make_whole status.Damaged old new may_leave now work count before h reason none = absurd h
make_whole status.OutOfMemory old new may_leave now work count before h reason none = tt
make_whole status.InputTooLong old new may_leave now work count before h reason none = absurd h

merge_whole : (s : Status) (old new : Faults) (may_leave : Image → Type 0) (now : Shown) (work : Work) (input before : List ℕ) → MergeLeaves s may_leave now work input before → StatusHasReason old new s → NoFault old new → length input ≤ input_limit → IsWhole s
merge_whole status.Done old new may_leave now work input before h reason none within = tt
merge_whole status.DoneWithRefusals old new may_leave now work input before h reason none within = tt
merge_whole status.Usage old new may_leave now work input before h reason none within = absurd h
merge_whole status.ReadFault old new may_leave now work input before h reason none within = absurd (none.read reason)
merge_whole status.WriteFault old new may_leave now work input before h reason none within = absurd (none.write reason)
merge_whole status.DiskFault old new may_leave now work input before h reason none within = absurd (none.disk reason)
merge_whole status.Damaged old new may_leave now work input before h reason none within = absurd h
merge_whole status.OutOfMemory old new may_leave now work input before h reason none within = tt
merge_whole status.InputTooLong old new may_leave now work input before h reason none within = absurd (longer h.0.got h.0.left h.0.next input h.0.input_is h.0.limit within)

pub whole_without_fault : (command : Command) (s : Status) (old new : Faults) (may_leave : Image → Type 0) (now : Shown) (work : Work) (input before : List ℕ) → Leaves command s may_leave now work input before → StatusHasReason old new s → NoFault old new → IsWithin command input → IsWhole s
whole_without_fault Run s old new may_leave now work input before h reason none within = run_whole s old new may_leave now work input before h reason none within
whole_without_fault Merge s old new may_leave now work input before h reason none within = merge_whole s old new may_leave now work input before h reason none within
whole_without_fault (Do text) s old new may_leave now work input before h reason none within = item_whole s old new may_leave now work (Chunk (item_of Plain (behind_separators text))) before h.0 reason none
whole_without_fault (Tell query) s old new may_leave now work input before h reason none within = item_whole s old new may_leave now work (Query query) before h.0 reason none
whole_without_fault (Make count) s old new may_leave now work input before h reason none within = make_whole s old new may_leave now work (number_of count) before h.0 reason none
