-- The rows of the table, from their parts.
use Rattle.std.proofs.Common.{◌≡◌, ℕ, ◌+◌, ◌*◌, ◌≤◌, List, [], ◌++◌, Bool, length, refl, ap, arith, subst}
use Rattle.std.proofs.lemmas.List.{append-nil}
use Rattle.s80_base.specs.Literal.{small}
use Rattle.std.specs.Prelude.{pos}
use Rattle.s80_code.specs.Entries.{EntryTree}
use Rattle.s80_code.specs.declared.instruction.Instruction.TheVariants.{ReturnTop, ReturnFromBlock, ReturnFixed, PushContext, SendSpecial}
use Rattle.s80_code.specs.Special.{block_copy}
use Rattle.s80_code.specs.Spelling.{Written}
use Rattle.s80_scope.specs.declared.fit.position.Position.{Position}
use Rattle.s80_scope.specs.declared.fit.position.Position.TheVariants.{Value, Effect}
use Rattle.s80_core.specs.Core.{VariableTree, LeafTree, CoreTree, SendTree, SendTrees, leaf, assign, value, send, cascade, real_block, two_arms, one_arm, repeat, nothing, before, answer, answer_fixed, leave, count}
use Rattle.s80_core.specs.Measures.{entries, entries_all, entries_sends, leaf_entries, variable_entries, constant_entries, selector_entries, size, size_all, size_sends, popped}
use Rattle.s80_compile.specs.Rows.{Ends, NilFor, Stores, Pushes, SendsTo, jump_unless}
use Rattle.s80_compile.specs.Emitted.{Row, Emitted, CoreRow, CoresRow, SendsRow, OneRow, MessageRow, IsEmitted, AreEmitted, AreSent, IsMessageEmitted, message_entries, Adds, AddsEnd, AddsNil, AddsChoice, AddsFar, AddsTakes, ClosesLoop, constant_width}
use Rattle.s80_compile.proofs.Moves.{leaf_goes_along, stores_go_along, sends_go_along}
use Rattle.s80_compile.proofs.Singles.{count_is}
use Rattle.s80_compile.proofs.Parts.{Moves, BothRow, CountRow, joined, told, ended, nil_ended, instructed, core_moves, cores_move, sends_move, ends_moves, nil_moves, stands_moves, chosen, skipped, looped, made}

leaf_moves : (l : LeafTree) → Moves (OneRow (λ entries i. Pushes entries l i))
leaf_moves l part whole k old new here kept = leaf_goes_along part whole k old new here kept l

stores_move : (v : VariableTree) (position : Position) → Moves (OneRow (λ entries i. Stores entries v position i))
stores_move v position part whole k old new here kept = stores_go_along part whole k old new here kept v position

selector_moves : (to_super : Bool) (s : List ℕ) (n : ℕ) → Moves (OneRow (λ entries i. SendsTo entries to_super s n i))
selector_moves to_super s n part whole k old new here kept = sends_go_along part whole k old new here kept to_super s n

pub both_move : (P Q : Row) → Moves P → Moves Q → Moves (BothRow P Q)
both_move P Q p_moves q_moves part whole k old new here kept p q b =
    record { mid = k + b.mid; first = p_moves part whole k old new here kept p b.mid b.first; second = q_moves part whole k old new here kept b.mid q b.second }

pub message_moves : (to_super : Bool) (m : SendTree) → Moves (MessageRow to_super m)
message_moves to_super m = both_move (CoresRow m.1) (OneRow (λ entries i. SendsTo entries to_super m.0 (count m.1) i)) (cores_move m.1) (selector_moves to_super m.0 (count m.1))

-- the same code under another row, which says as much
pub changed : (P Q : Row) (v w : List EntryTree) (m n : ℕ) (f g : List EntryTree) (c d : List ℕ) → ((bytes : List ℕ) (es : List EntryTree) (p q : ℕ) → P bytes es p q → Q bytes es p q) → v ≡ w → m ≤ n
    → Emitted P v m f g c d → Emitted Q w n f g c d
changed P Q v w m n f g c d turn same more a =
    let t = told P v w m n f g c d same more a in
    record { part = t.part; added = t.added; is_code = t.is_code; is_frame = t.is_frame; firsts = t.firsts; stands = turn t.part g 0 (length t.part) t.stands; short = t.short }

module _ (f g h i : List EntryTree) (c d e k : List ℕ) (position : Position) where
  pub leaf_made : (l : LeafTree) → Emitted (OneRow (λ entries i. Pushes entries l i)) (leaf_entries l) 2 f g c d → AddsEnd position d e → IsEmitted (leaf l) position f g c e
  leaf_made l a end =
      told (CoreRow (leaf l) position) (leaf_entries l ++ []) (leaf_entries l) (2 + popped position) (2 + popped position) f g c e (append-nil (leaf_entries l)) (omega arith)
      (joined (OneRow (λ entries i. Pushes entries l i)) (λ bytes entries p q. Ends bytes position p q) (leaf_entries l) [] 2 (popped position) f g g c d e (leaf_moves l) (ends_moves position) a (ended position g d e end))

  pub assign_made : (v : VariableTree) (x : CoreTree) → IsEmitted x Value f g c d → Emitted (OneRow (λ entries i. Stores entries v position i)) (variable_entries v) 2 g h d e → IsEmitted (assign v x) position f h c e
  assign_made v x a b = joined (CoreRow x Value) (OneRow (λ entries i. Stores entries v position i)) (entries x) (variable_entries v) (size Value x) 2 f g h c d e (core_moves x Value) (stores_move v position) a b

  pub value_made : (x : CoreTree) → IsEmitted x Value f g c d → AddsEnd position d e → IsEmitted (value x) position f g c e
  value_made x a end =
      told (CoreRow (value x) position) (entries x ++ []) (entries x) (size Value x + popped position) (size Value x + popped position) f g c e (append-nil (entries x)) (omega arith)
      (joined (CoreRow x Value) (λ bytes entries p q. Ends bytes position p q) (entries x) [] (size Value x) (popped position) f g g c d e (core_moves x Value) (ends_moves position) a (ended position g d e end))

  pub sent_made : (r : CoreTree) (to_super : Bool) (m : SendTree) → IsEmitted r Value f g c d → IsMessageEmitted to_super m g h d e → AddsEnd position e k → IsEmitted (send r to_super m.0 m.1) position f h c k
  sent_made r to_super m a b end =
      changed (BothRow (BothRow (CoreRow r Value) (MessageRow to_super m)) (λ bytes entries p q. Ends bytes position p q)) (CoreRow (send r to_super m.0 m.1) position)
      ((entries r ++ message_entries to_super m) ++ []) (entries r ++ message_entries to_super m) ((size Value r + (size_all m.1 + 3)) + popped position) (size Value r + size_all m.1 + 3 + popped position) f h c k
      (λ bytes es p q x. record { mid = x.first.mid; first = x.first.first; second = record { mid = x.first.second.mid; first = x.first.second.first; second = record { mid = x.mid; first = x.first.second.second; second = x.second } } })
      (append-nil (entries r ++ message_entries to_super m)) (omega arith)
      (joined (BothRow (CoreRow r Value) (MessageRow to_super m)) (λ bytes entries p q. Ends bytes position p q) (entries r ++ message_entries to_super m) [] (size Value r + (size_all m.1 + 3)) (popped position) f h h c e k
      (both_move (CoreRow r Value) (MessageRow to_super m) (core_moves r Value) (message_moves to_super m)) (ends_moves position)
      (joined (CoreRow r Value) (MessageRow to_super m) (entries r) (message_entries to_super m) (size Value r) (size_all m.1 + 3) f g h c d e (core_moves r Value) (message_moves to_super m) a b)
      (ended position h e k end))

  pub cascade_made : (r : CoreTree) (to_super : Bool) (ms : SendTrees) → IsEmitted r Value f g c d → AreSent to_super ms g h d e → AddsEnd position e k → IsEmitted (cascade r to_super ms) position f h c k
  cascade_made r to_super ms a b end =
      changed (BothRow (BothRow (CoreRow r Value) (SendsRow to_super ms)) (λ bytes entries p q. Ends bytes position p q)) (CoreRow (cascade r to_super ms) position)
      ((entries r ++ entries_sends to_super ms) ++ []) (entries r ++ entries_sends to_super ms) ((size Value r + size_sends ms) + popped position) (size Value r + size_sends ms + popped position) f h c k
      (λ bytes es p q x. record { mid = x.first.mid; first = x.first.first; second = record { mid = x.mid; first = x.first.second; second = x.second } })
      (append-nil (entries r ++ entries_sends to_super ms)) (omega arith)
      (joined (BothRow (CoreRow r Value) (SendsRow to_super ms)) (λ bytes entries p q. Ends bytes position p q) (entries r ++ entries_sends to_super ms) [] (size Value r + size_sends ms) (popped position) f h h c e k
      (both_move (CoreRow r Value) (SendsRow to_super ms) (core_moves r Value) (sends_move to_super ms)) (ends_moves position)
      (joined (CoreRow r Value) (SendsRow to_super ms) (entries r) (entries_sends to_super ms) (size Value r) (size_sends ms) f g h c d e (core_moves r Value) (sends_move to_super ms) a b)
      (ended position h e k end))

  pub before_made : (a b : CoreTree) → IsEmitted a Effect f g c d → IsEmitted b position g h d e → IsEmitted (before a b) position f h c e
  before_made a b x y = joined (CoreRow a Effect) (CoreRow b position) (entries a) (entries b) (size Effect a) (size position b) f g h c d e (core_moves a Effect) (core_moves b position) x y

  pub answer_made : (x : CoreTree) → IsEmitted x Value f g c d → Adds ReturnTop 1 d e → IsEmitted (answer x) position f g c e
  answer_made x a r =
      told (CoreRow (answer x) position) (entries x ++ []) (entries x) (size Value x + 1) (size Value x + 1) f g c e (append-nil (entries x)) (omega arith)
      (joined (CoreRow x Value) (λ bytes entries p q. Written bytes p ReturnTop q) (entries x) [] (size Value x) 1 f g g c d e (core_moves x Value) (stands_moves ReturnTop) a (instructed ReturnTop 1 g d e r))

  pub leave_made : (x : CoreTree) → IsEmitted x Value f g c d → Adds ReturnFromBlock 1 d e → IsEmitted (leave x) position f g c e
  leave_made x a r =
      told (CoreRow (leave x) position) (entries x ++ []) (entries x) (size Value x + 1) (size Value x + 1) f g c e (append-nil (entries x)) (omega arith)
      (joined (CoreRow x Value) (λ bytes entries p q. Written bytes p ReturnFromBlock q) (entries x) [] (size Value x) 1 f g g c d e (core_moves x Value) (stands_moves ReturnFromBlock) a (instructed ReturnFromBlock 1 g d e r))

  pub fixed_made : (n : ℕ) → Adds (ReturnFixed n) 1 c d → IsEmitted (answer_fixed n) position f f c d
  fixed_made n r = instructed (ReturnFixed n) 1 f c d r

  pub nothing_made : AddsNil position c d → IsEmitted nothing position f f c d
  nothing_made a = nil_ended position f c d a

  pub two_made : (on : Bool) (x a b : CoreTree) (first second : List ℕ) → IsEmitted x Value f g c d → IsEmitted a position g h [] first → IsEmitted b position h i [] second → AddsChoice on first second d e
      → IsEmitted (two_arms on x a b) position f i c e
  two_made on x a b first second p q r s =
      chosen on (CoreRow x Value) (CoreRow a position) (CoreRow b position) (entries x) (entries a) (entries b) (size Value x) (size position a) (size position b) f g h i c d first second e
      (core_moves x Value) (core_moves a position) (core_moves b position) p q r s

  pub repeat_made : (on : Bool) (x a : CoreTree) (turn body closed : List ℕ) → IsEmitted x Value f g [] turn → IsEmitted a Effect g h [] body → ClosesLoop on body turn closed → d ≡ c ++ closed → AddsNil position d e
      → IsEmitted (repeat on x a) position f h c e
  repeat_made on x a turn body closed p q z added nil =
      looped on (CoreRow x Value) (CoreRow a Effect) position (entries x) (entries a) (size Value x) (size Effect a) (length body + 2) f g h turn z.test body (z.test ++ body) closed c d e
      (core_moves x Value) (core_moves a Effect) p q refl z.unless refl z.back added nil

  pub block_made : (first n : ℕ) (x : CoreTree) (context counted copied taken body jumped : List ℕ) → Adds PushContext 1 c context → Emitted (CountRow n) (constant_entries (small (pos n))) (constant_width (small (pos n))) f g context counted
      → Adds (SendSpecial block_copy) 1 counted copied → AddsTakes first n [] taken → IsEmitted x Effect g h taken body → AddsFar (length body) copied jumped → d ≡ jumped ++ body → AddsEnd position d e
      → IsEmitted (real_block first n x) position f h c e
  block_made first n x context counted copied taken body jumped push number special takes b far is end =
      subst (λ (m : ℕ). Emitted (CoreRow (real_block first n x) position) (entries (real_block first n x)) (4 + m + 2 * n + size Effect x + popped position) f h c e) (count_is n)
      (made first n (CoreRow x Effect) position (constant_entries (small (pos n))) (entries x) (constant_width (small (pos n))) (size Effect x) f g h c context counted copied taken body jumped d e
      (core_moves x Effect) push number special takes b far is end)

-- one arm
module _ (on : Bool) (x a : CoreTree) (f g h : List EntryTree) (c d e k arm : List ℕ) where
  pub arm_value_made : (other : List ℕ) → IsEmitted x Value f g c d → IsEmitted a Value g h [] arm → AddsNil Value [] other → AddsChoice on arm other d e → IsEmitted (one_arm on x a) Value f h c e
  arm_value_made other p q nil s =
      told (CoreRow (one_arm on x a) Value) (entries x ++ (entries a ++ [])) (entries x ++ entries a) (size Value x + 2 + size Value a + 2 + 1) (size Value x + 2 + size Value a + 2 + 1) f h c e (ap (λ l. entries x ++ l) (append-nil (entries a))) (omega arith)
      (chosen on (CoreRow x Value) (CoreRow a Value) (λ bytes entries p q. NilFor bytes Value p q) (entries x) (entries a) [] (size Value x) (size Value a) 1 f g h h c d arm other e
      (core_moves x Value) (core_moves a Value) (nil_moves Value) p q (nil_ended Value h [] other nil) s)

  pub arm_effect_made : (mid : List ℕ) → IsEmitted x Value f g c d → IsEmitted a Effect g h [] arm → Adds (jump_unless on (pos (length arm))) 2 d mid → e ≡ mid ++ arm → IsEmitted (one_arm on x a) Effect f h c e
  arm_effect_made mid p q j is =
      skipped on (CoreRow x Value) (CoreRow a Effect) (entries x) (entries a) (size Value x) (size Effect a) f g h c d mid arm e (core_moves x Value) (core_moves a Effect) p q j is

-- arguments and messages
pub message_made : (to_super : Bool) (m : SendTree) (f g h : List EntryTree) (c d e : List ℕ) → AreEmitted m.1 f g c d → Emitted (OneRow (λ entries i. SendsTo entries to_super m.0 (count m.1) i)) (selector_entries to_super m.0) 3 g h d e
    → IsMessageEmitted to_super m f h c e
message_made to_super m f g h c d e a b =
    joined (CoresRow m.1) (OneRow (λ entries i. SendsTo entries to_super m.0 (count m.1) i)) (entries_all m.1) (selector_entries to_super m.0) (size_all m.1) 3 f g h c d e (cores_move m.1) (selector_moves to_super m.0 (count m.1)) a b
