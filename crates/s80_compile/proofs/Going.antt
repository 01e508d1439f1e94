-- Arguments and messages, one after another.
use Rattle.std.proofs.Common.{◌≡◌, ℕ, ◌+◌, ◌≤◌, List, [], ◌++◌, Bool, refl, sym, subst, arith}
use Rattle.std.proofs.lemmas.List.{append-nil}
use Rattle.s80_code.specs.Entries.{EntryTree}
use Rattle.s80_code.specs.declared.instruction.Instruction.TheVariants.{Duplicate, Pop}
use Rattle.s80_code.specs.Spelling.{Written}
use Rattle.s80_scope.specs.declared.fit.position.Position.TheVariants.{Value}
use Rattle.s80_core.specs.Core.{CoreTree, CoreTrees, SendTree, SendTrees, no_cores, cores, no_sends, sends}
use Rattle.s80_core.specs.Measures.{entries, entries_all, entries_sends, size, size_all, size_sends}
use Rattle.s80_compile.specs.Emitted.{Row, Emitted, CoreRow, CoresRow, SendsRow, MessageRow, IsEmitted, AreEmitted, AreSent, IsMessageEmitted, message_entries, Fits, AllFit, SendsFit, MessageFits, Adds, AllGoOn, SendsGoOn}
use Rattle.s80_compile.proofs.Firsts.{room_first}
use Rattle.s80_compile.proofs.Parts.{BothRow, joined, told, instructed, room_after, core_moves, cores_move, sends_move, stands_moves}
use Rattle.s80_compile.proofs.Made.{changed, both_move, message_moves}

nothing_added : (P : Row) (f : List EntryTree) (c : List ℕ) → P [] f 0 0 → Emitted P [] 0 f f c c
nothing_added P f c p = record { part = []; added = []; is_code = sym (append-nil c); is_frame = sym (append-nil f); firsts = refl; stands = p; short = omega arith }

pub all_begun : (all left : CoreTrees) (f : List EntryTree) (c : List ℕ) → left ≡ all → AllFit f all → AllGoOn all left f f c c
all_begun all left f c is h = subst (λ (l : CoreTrees). AllGoOn all l f f c c) (sym is) (record { fits = h; goes_on = λ g d a. a })

pub next_fits : (all left rest : CoreTrees) (x : CoreTree) (f g : List EntryTree) (c d : List ℕ) → left ≡ cores x rest → AllGoOn all left f g c d → Fits g x Value
next_fits all left rest x f g c d is k =
    let h : AllFit g (cores x rest) = subst (λ (l : CoreTrees). AllFit g l) is k.fits in
    record { room = room_first g (entries x) (entries_all rest) h.room; size = omega (arith, h.size); temporaries = h.temporaries; low = h.low; range = h.range.0; few = h.few.0 }

pub all_next : (all left rest : CoreTrees) (x : CoreTree) (f g h : List EntryTree) (c d e : List ℕ) → left ≡ cores x rest → AllGoOn all left f g c d → IsEmitted x Value g h d e → AllGoOn all rest f h c e
all_next all left rest x f g h c d e is k a =
    let w : AllFit g (cores x rest) = subst (λ (l : CoreTrees). AllFit g l) is k.fits in
    record {
      fits = record { room = room_after (CoreRow x Value) (entries x) (entries_all rest) (size Value x) g h d e a w.room; size = omega (arith, w.size); temporaries = w.temporaries; low = w.low; range = w.range.1; few = w.few.1 };
      goes_on = λ i b more. k.goes_on i b (subst (λ (l : CoreTrees). AreEmitted l g i d b) (sym is)
          (joined (CoreRow x Value) (CoresRow rest) (entries x) (entries_all rest) (size Value x) (size_all rest) g h i d e b (core_moves x Value) (cores_move rest) a more));
    }

pub all_done : (all left : CoreTrees) (f g : List EntryTree) (c d : List ℕ) → left ≡ no_cores → AllGoOn all left f g c d → AreEmitted all f g c d
all_done all left f g c d is k = k.goes_on g d (subst (λ (l : CoreTrees). AreEmitted l g g d d) (sym is) (nothing_added (CoresRow no_cores) g d refl))

-- ---- messages

pub sends_begun : (to_super : Bool) (all left : SendTrees) (f : List EntryTree) (c : List ℕ) → left ≡ all → SendsFit f to_super all → SendsGoOn to_super all left f f c c
sends_begun to_super all left f c is h = subst (λ (l : SendTrees). SendsGoOn to_super all l f f c c) (sym is) (record { fits = h; goes_on = λ g d a. a })

pub none_sent : (to_super : Bool) (all : SendTrees) (f : List EntryTree) (c : List ℕ) → all ≡ no_sends → AreSent to_super all f f c c
none_sent to_super all f c is = subst (λ (l : SendTrees). AreSent to_super l f f c c) (sym is) (nothing_added (SendsRow to_super no_sends) f c refl)

message_size : (s : List ℕ) (es : CoreTrees) (rest : SendTrees) → size_all es + 3 ≤ size_sends (sends s es rest)
message_size s es no_sends = omega arith
message_size s es (sends t fs rest) = omega arith

rest_size : (s : List ℕ) (es : CoreTrees) (rest : SendTrees) → size_sends rest ≤ size_sends (sends s es rest)
rest_size s es no_sends = omega arith
rest_size s es (sends t fs rest) = omega arith

pub message_fits : (to_super : Bool) (all left rest : SendTrees) (m : SendTree) (f g : List EntryTree) (c d : List ℕ) → left ≡ sends m.0 m.1 rest → SendsGoOn to_super all left f g c d → MessageFits g to_super m
message_fits to_super all left rest m f g c d is k =
    let h : SendsFit g to_super (sends m.0 m.1 rest) = subst (λ (l : SendTrees). SendsFit g to_super l) is k.fits in
    record { room = room_first g (message_entries to_super m) (entries_sends to_super rest) h.room; size = omega (arith, h.size, message_size m.0 m.1 rest); temporaries = h.temporaries; low = h.low; range = h.range.0; few = h.few.0.0; count = h.few.0.1 }

-- the last message
pub last_sent : (to_super : Bool) (all left : SendTrees) (m : SendTree) (f g h : List EntryTree) (c d e : List ℕ) → left ≡ sends m.0 m.1 no_sends → SendsGoOn to_super all left f g c d → IsMessageEmitted to_super m g h d e
    → AreSent to_super all f h c e
last_sent to_super all left m f g h c d e is k a =
    k.goes_on h e (subst (λ (l : SendTrees). AreSent to_super l g h d e) (sym is)
    (told (SendsRow to_super (sends m.0 m.1 no_sends)) (message_entries to_super m) (message_entries to_super m ++ []) (size_all m.1 + 3) (size_all m.1 + 3) g h d e (sym (append-nil (message_entries to_super m))) (omega arith) a))

-- a message before another one
pub next_sent : (to_super : Bool) (all left rest : SendTrees) (m n : SendTree) (f g h : List EntryTree) (c d dup done e : List ℕ) → left ≡ sends m.0 m.1 (sends n.0 n.1 rest) → SendsGoOn to_super all left f g c d
    → Adds Duplicate 1 d dup → IsMessageEmitted to_super m g h dup done → Adds Pop 1 done e → SendsGoOn to_super all (sends n.0 n.1 rest) f h c e
next_sent to_super all left rest m n f g h c d dup done e is k duplicates a pops =
    let more : SendTrees = sends n.0 n.1 rest in
    let w : SendsFit g to_super (sends m.0 m.1 more) = subst (λ (l : SendTrees). SendsFit g to_super l) is k.fits in
    record {
      fits = record { room = room_after (MessageRow to_super m) (message_entries to_super m) (entries_sends to_super more) (size_all m.1 + 3) g h dup done a w.room; size = omega (arith, w.size, rest_size m.0 m.1 more); temporaries = w.temporaries; low = w.low; range = w.range.1; few = w.few.1 };
      goes_on = λ i b left. k.goes_on i b (subst (λ (l : SendTrees). AreSent to_super l g i d b) (sym is)
          (changed (BothRow (λ bytes es p q. Written bytes p Duplicate q) (BothRow (MessageRow to_super m) (BothRow (λ bytes es p q. Written bytes p Pop q) (SendsRow to_super more)))) (SendsRow to_super (sends m.0 m.1 more))
          (message_entries to_super m ++ entries_sends to_super more) (message_entries to_super m ++ entries_sends to_super more) (1 + ((size_all m.1 + 3) + (1 + size_sends more))) (1 + size_all m.1 + 3 + 1 + size_sends more) g i d b
          (λ bytes es p q x. record { mid = x.mid; first = x.first; second = record { mid = x.second.first.mid; first = x.second.first.first; second = record { mid = x.second.mid; first = x.second.first.second; second = x.second.second } } })
          refl (omega arith)
          (joined (λ bytes es p q. Written bytes p Duplicate q) (BothRow (MessageRow to_super m) (BothRow (λ bytes es p q. Written bytes p Pop q) (SendsRow to_super more))) [] (message_entries to_super m ++ entries_sends to_super more) 1 ((size_all m.1 + 3) + (1 + size_sends more)) g g i d dup b
          (stands_moves Duplicate) (both_move (MessageRow to_super m) (BothRow (λ bytes es p q. Written bytes p Pop q) (SendsRow to_super more)) (message_moves to_super m) (both_move (λ bytes es p q. Written bytes p Pop q) (SendsRow to_super more) (stands_moves Pop) (sends_move to_super more)))
          (instructed Duplicate 1 g d dup duplicates)
          (joined (MessageRow to_super m) (BothRow (λ bytes es p q. Written bytes p Pop q) (SendsRow to_super more)) (message_entries to_super m) (entries_sends to_super more) (size_all m.1 + 3) (1 + size_sends more) g h i dup done b
          (message_moves to_super m) (both_move (λ bytes es p q. Written bytes p Pop q) (SendsRow to_super more) (stands_moves Pop) (sends_move to_super more)) a
          (joined (λ bytes es p q. Written bytes p Pop q) (SendsRow to_super more) [] (entries_sends to_super more) 1 (size_sends more) h h i done e b (stands_moves Pop) (sends_move to_super more) (instructed Pop 1 h done e pops) left)))));
    }
