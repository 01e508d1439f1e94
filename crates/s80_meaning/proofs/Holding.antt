-- The code of a method holds a real block just where its tree has one.
use Rattle.std.proofs.Common.{◌≡◌, ◌∙◌, ap, sym, subst, refl, ℕ, zero, suc, ◌+◌, ◌≤◌, ◌==◌, ℤ, pos, List, [], ◌∷◌, ◌++◌, Bool, true, false, ◌||◌, length, drop, Option, Some, None, arith}
use Rattle.std.proofs.lemmas.List.{drop-drop, drop_all}
use Rattle.std.specs.List.{list_any}
use Rattle.std.specs.Option.{option_map_or}
use Rattle.s80_base.specs.Literal.{LiteralTree, small}
use Rattle.s80_base.specs.declared.names.Side.{Side}
use Rattle.s80_code.specs.declared.code.Code.{Code}
use Rattle.s80_code.specs.declared.instruction.Instruction.{Instruction}
use Rattle.s80_code.specs.declared.instruction.Instruction.TheVariants.{PopInto, PushFixed, ReturnFixed, ReturnTop, ReturnFromBlock, SendSpecial, Pop, Duplicate, PushContext, Jump}
use Rattle.s80_code.specs.declared.instruction.Storage.TheVariants.{Temporary}
use Rattle.s80_code.specs.Entries.{EntryTree, entries_of}
use Rattle.s80_code.specs.Special.{block_copy}
use Rattle.s80_code.specs.Table.{Stands}
use Rattle.s80_code.specs.Spelling.{Written}
use Rattle.s80_tree.specs.Tree.{MethodParts}
use Rattle.s80_scope.specs.declared.fit.position.Position.{Position}
use Rattle.s80_scope.specs.declared.fit.position.Position.TheVariants.{Value, Effect}
use Rattle.s80_core.specs.Core.{VariableTree, LeafTree, variable, constant, receiver, context, CoreTree, CoreTrees, SendTrees, leaf, assign, value, send, cascade, real_block, two_arms, one_arm, shortcut, repeat, nothing, before, answer, answer_fixed, leave, no_cores, cores, no_sends, sends, count}
use Rattle.s80_core.specs.Measures.{fixed_number, sent_number}
use Rattle.s80_compile.specs.Compiles.{IsCodeOf}
use Rattle.s80_compile.specs.Rows.{PushesConstant, Pushes, Stores, send_of, SendsBy, SendsTo, jump_unless, One, Ends, NilFor, JumpsTo, JumpsOver, Takes, shortcut_number, At, AllAt, SendsAt}
use Rattle.s80_machine.specs.Turn.{begins_block, holds_block, instructions_in}
use Rattle.s80_verify.proofs.lemmas.PlaceLemmas.{goes_forward, ends_within}
use Rattle.s80_meaning.proofs.Counted.{special_is}
use Rattle.s80_meaning.specs.Tree.{RealBlock, size, size_all, blocks, blocks_all, blocks_sends}

abbrev pub has_blocks : List RealBlock → Bool
has_blocks [] = false
has_blocks (b ∷ bs) = true

-- ---- a message with an instruction of its own begins no block

sent_apart : (to_super : Bool) (s : List ℕ) (number : ℕ) → sent_number to_super s ≡ Some number → (number == block_copy) ≡ false
sent_apart true s number e = cc
sent_apart false s number e = (special_is s number e).0

sent_plain : (to_super : Bool) (n number : ℕ) → begins_block (send_of to_super n number) ≡ false
sent_plain true n number = refl
sent_plain false n number = refl

sends_plain : (entries : List EntryTree) (to_super : Bool) (s : List ℕ) (n : ℕ) (by : Option ℕ) (i : Instruction) → ((number : ℕ) → by ≡ Some number → (number == block_copy) ≡ false) → SendsBy entries to_super s n by i → begins_block i ≡ false
sends_plain entries to_super s n (Some number) i apart is = ap begins_block is ∙ apart number refl
sends_plain entries to_super s n None i apart (number, is, found) = ap begins_block is ∙ sent_plain to_super n number

constant_plain : (entries : List EntryTree) (c : LiteralTree) (fixed : Option ℕ) (i : Instruction) → PushesConstant entries c fixed i → begins_block i ≡ false
constant_plain entries c (Some number) i is = ap begins_block is
constant_plain entries c None i (n, is, found) = ap begins_block is

leaf_plain : (entries : List EntryTree) (l : LeafTree) (i : Instruction) → Pushes entries l i → begins_block i ≡ false
leaf_plain entries (variable x) i (s, is, holds) = ap begins_block is
leaf_plain entries (constant c) i is = constant_plain entries c (fixed_number c) i is
leaf_plain entries receiver i is = ap begins_block is
leaf_plain entries context i is = ap begins_block is

store_plain : (entries : List EntryTree) (x : VariableTree) (position : Position) (i : Instruction) → Stores entries x position i → begins_block i ≡ false
store_plain entries x Value i (s, is, holds) = ap begins_block is
store_plain entries x Effect i (s, is, holds) = ap begins_block is

unless_plain : (on : Bool) (distance : ℤ) → begins_block (jump_unless on distance) ≡ false
unless_plain true distance = refl
unless_plain false distance = refl

-- ---- from a place to the end

-- there is one in the list, or there is one behind
abbrev with_blocks : List RealBlock → Bool → Bool
with_blocks [] later = later
with_blocks (b ∷ bs) later = true

with_append : (xs ys : List RealBlock) (later : Bool) → with_blocks xs (with_blocks ys later) ≡ with_blocks (xs ++ ys) later
with_append [] ys later = refl
with_append (x ∷ xs) ys later = refl

with_none : (xs : List RealBlock) → with_blocks xs false ≡ has_blocks xs
with_none [] = refl
with_none (x ∷ xs) = refl

module _ (bytes : List ℕ) where
  -- whether a block begins from a place on
  abbrev Found : ℕ → Bool → Type 0
  Found p b = (n : ℕ) → length bytes ≤ p + n → list_any begins_block (instructions_in n (drop p bytes)) ≡ b

  step : (i : Instruction) (p q : ℕ) (b : Bool) → Stands bytes p i q → Found q b → Found p (begins_block i || b)
  step i p q b s found zero enough = absurd (omega (arith, enough, goes_forward bytes p i q s, ends_within bytes p i q s))
  step i p q b s found (suc n) enough =
      let rest : drop s.width (drop p bytes) ≡ drop q bytes = drop-drop s.width p bytes ∙ ap (λ k. drop k bytes) (sym s.behind) in
      let later : list_any begins_block (instructions_in n (drop s.width (drop p bytes))) ≡ b =
      ap (λ l. list_any begins_block (instructions_in n l)) rest ∙ found n (omega (arith, enough, goes_forward bytes p i q s)) in
      ap (λ o. list_any begins_block (option_map_or (λ r. r.0 ∷ instructions_in n (drop r.1 (drop p bytes))) o [])) s.is_decoded
      ∙ ap (λ c. begins_block i || c) later

  plain_there : (i : Instruction) (p q : ℕ) (b : Bool) → begins_block i ≡ false → Stands bytes p i q → Found q b → Found p b
  plain_there i p q b none s found = subst (λ (c : Bool). Found p c) (ap (λ c. c || b) none) (step i p q b s found)

  plain : (i : Instruction) (p q : ℕ) (b : Bool) → begins_block i ≡ false → Written bytes p i q → Found q b → Found p b
  plain i p q b none w found = plain_there i p q b none w.stands found

  begins : (p q : ℕ) (b : Bool) → Written bytes p (SendSpecial block_copy) q → Found q b → Found p true
  begins p q b w found = step (SendSpecial block_copy) p q b w.stands found

  at_the_end : Found (length bytes) false
  at_the_end zero enough = refl
  at_the_end (suc n) enough = ap (λ l. list_any begins_block (instructions_in (suc n) l)) (drop_all (length bytes) bytes (omega arith))

  same_place : (p q : ℕ) (b : Bool) → p ≡ q → Found q b → Found p b
  same_place p q b e found = subst (λ (k : ℕ). Found k b) (sym e) found

  two : (p : ℕ) (xs ys : List RealBlock) (b : Bool) → Found p (with_blocks xs (with_blocks ys b)) → Found p (with_blocks (xs ++ ys) b)
  two p xs ys b found = subst (λ (c : Bool). Found p c) (with_append xs ys b) found

  three : (p : ℕ) (xs ys zs : List RealBlock) (b : Bool) → Found p (with_blocks xs (with_blocks ys (with_blocks zs b))) → Found p (with_blocks (xs ++ (ys ++ zs)) b)
  three p xs ys zs b found = subst (λ (c : Bool). Found p c) (ap (with_blocks xs) (with_append ys zs b) ∙ with_append xs (ys ++ zs) b) found

  module _ (entries : List EntryTree) where
    leaf_from : (l : LeafTree) (p q : ℕ) (b : Bool) → One bytes (Pushes entries l) p q → Found q b → Found p b
    leaf_from l p q b o from = plain o.instruction p q b (leaf_plain entries l o.instruction o.is) o.stands from

    store_from : (x : VariableTree) (position : Position) (p q : ℕ) (b : Bool) → One bytes (Stores entries x position) p q → Found q b → Found p b
    store_from x position p q b o from = plain o.instruction p q b (store_plain entries x position o.instruction o.is) o.stands from

    send_from : (to_super : Bool) (s : List ℕ) (n p q : ℕ) (b : Bool) → One bytes (SendsTo entries to_super s n) p q → Found q b → Found p b
    send_from to_super s n p q b o from =
        plain o.instruction p q b (sends_plain entries to_super s n (sent_number to_super s) o.instruction (sent_apart to_super s) o.is) o.stands from

    unless_from : (on : Bool) (to p q : ℕ) (b : Bool) → JumpsTo bytes (jump_unless on) to p q → Found q b → Found p b
    unless_from on to p q b j from = plain (jump_unless on j.distance) p q b (unless_plain on j.distance) j.stands from

    jump_from : (to p q : ℕ) (b : Bool) → JumpsTo bytes Jump to p q → Found q b → Found p b
    jump_from to p q b j from = plain (Jump j.distance) p q b refl j.stands from

    over_from : (to p q : ℕ) (b : Bool) → JumpsOver bytes to p q → Found q b → Found p b
    over_from to p q b j from = plain_there (Jump (pos j.distance)) p q b refl j.stands from

    end_from : (position : Position) (p q : ℕ) (b : Bool) → Ends bytes position p q → Found q b → Found p b
    end_from Value p q b e from = same_place p q b e from
    end_from Effect p q b s from = plain Pop p q b refl s from

    nil_from : (position : Position) (p q : ℕ) (b : Bool) → NilFor bytes position p q → Found q b → Found p b
    nil_from Value p q b s from = plain (PushFixed 3) p q b refl s from
    nil_from Effect p q b e from = same_place p q b e from

    takes_from : (n first p q : ℕ) (b : Bool) → Takes bytes first n p q → Found q b → Found p b
    takes_from zero first p q b e from = same_place p q b e from
    takes_from (suc n) first p q b t from = takes_from n (suc first) p t.mid b t.first (plain (PopInto (Temporary first)) t.mid q b refl t.second from)

    mutual
      core_from : (c : CoreTree) (k : ℕ) (position : Position) (p q : ℕ) (b : Bool) → At bytes entries c position p q → Found q b → Found p (with_blocks (blocks k c) b)
      core_from (leaf l) k position p q b t from = leaf_from l p t.mid b t.first (end_from position t.mid q b t.second from)
      core_from (assign x e) k position p q b t from = core_from e k Value p t.mid b t.first (store_from x position t.mid q b t.second from)
      core_from (value e) k position p q b t from = core_from e k Value p t.mid b t.first (end_from position t.mid q b t.second from)
      core_from (send e to_super s es) k position p q b t from =
          two p (blocks k e) (blocks_all (k + size e) es) b
          (core_from e k Value p t.mid (with_blocks (blocks_all (k + size e) es) b) t.first
          (all_from es (k + size e) t.mid t.second.mid b t.second.first
          (send_from to_super s (count es) t.second.mid t.second.second.mid b t.second.second.first (end_from position t.second.second.mid q b t.second.second.second from))))
      core_from (cascade e to_super ms) k position p q b t from =
          two p (blocks k e) (blocks_sends (k + size e) ms) b
          (core_from e k Value p t.mid (with_blocks (blocks_sends (k + size e) ms) b) t.first
          (sends_from ms (k + size e) to_super t.mid t.second.mid b t.second.first (end_from position t.second.mid q b t.second.second from)))
      core_from (real_block first n e) k position p q b t from =
          let inside : Bool = with_blocks (blocks (suc k) e) b in
          plain PushContext p t.push true refl t.context
          (leaf_from (constant (small (pos n))) t.push t.copy true t.parameters
          (begins t.copy t.jump inside t.copies
          (over_from t.after t.jump t.start inside t.over
          (takes_from n first t.start t.body_at inside t.takes
          (core_from e (suc k) Effect t.body_at t.after b t.body (end_from position t.after q b t.ending from))))))
      core_from (two_arms on c x y) k position p q b t from =
          let kx = k + size c in
          let ky = k + size c + size x in
          let last = with_blocks (blocks ky y) b in
          let both = with_blocks (blocks kx x) last in
          three p (blocks k c) (blocks kx x) (blocks ky y) b
          (core_from c k Value p t.test both t.condition
          (unless_from on t.second_at t.test t.first_at both t.unless
          (core_from x kx position t.first_at t.over last t.first
          (jump_from q t.over t.second_at last t.past (core_from y ky position t.second_at q b t.second from)))))
      core_from (one_arm on c x) k Value p q b t from =
          let arm = with_blocks (blocks (k + size c) x) b in
          two p (blocks k c) (blocks (k + size c) x) b
          (core_from c k Value p t.test arm t.condition
          (unless_from on t.second_at t.test t.first_at arm t.unless
          (core_from x (k + size c) Value t.first_at t.over b t.first (jump_from q t.over t.second_at b t.past (nil_from Value t.second_at q b t.second from)))))
      core_from (one_arm on c x) k Effect p q b t from =
          let arm = with_blocks (blocks (k + size c) x) b in
          two p (blocks k c) (blocks (k + size c) x) b
          (core_from c k Value p t.test arm t.condition (unless_from on q t.test t.arm_at arm t.unless (core_from x (k + size c) Effect t.arm_at q b t.arm from)))
      core_from (shortcut on c x) k position p q b t from =
          let arm = with_blocks (blocks (k + size c) x) b in
          two p (blocks k c) (blocks (k + size c) x) b
          (core_from c k Value p t.first.test arm t.first.condition
          (unless_from on t.first.second_at t.first.test t.first.first_at arm t.first.unless
          (core_from x (k + size c) Value t.first.first_at t.first.over b t.first.first
          (jump_from t.mid t.first.over t.first.second_at b t.first.past
          (plain (PushFixed (shortcut_number on)) t.first.second_at t.mid b refl t.first.second (end_from position t.mid q b t.second from))))))
      core_from (repeat on c e) k position p q b t from =
          let body = with_blocks (blocks (k + size c) e) b in
          two p (blocks k c) (blocks (k + size c) e) b
          (core_from c k Value p t.test body t.condition
          (unless_from on t.done t.test t.body_at body t.unless
          (core_from e (k + size c) Effect t.body_at t.over b t.body (jump_from p t.over t.done b t.back (nil_from position t.done q b t.leaves from)))))
      core_from nothing k position p q b t from = nil_from position p q b t from
      core_from (before x y) k position p q b t from =
          two p (blocks k x) (blocks (k + size x) y) b
          (core_from x k Effect p t.mid (with_blocks (blocks (k + size x) y) b) t.first (core_from y (k + size x) position t.mid q b t.second from))
      core_from (answer e) k position p q b t from = core_from e k Value p t.mid b t.first (plain ReturnTop t.mid q b refl t.second from)
      core_from (answer_fixed n) k position p q b s from = plain (ReturnFixed n) p q b refl s from
      core_from (leave e) k position p q b t from = core_from e k Value p t.mid b t.first (plain ReturnFromBlock t.mid q b refl t.second from)

      all_from : (cs : CoreTrees) (k p q : ℕ) (b : Bool) → AllAt bytes entries cs p q → Found q b → Found p (with_blocks (blocks_all k cs) b)
      all_from no_cores k p q b e from = same_place p q b e from
      all_from (cores c cs) k p q b t from =
          two p (blocks k c) (blocks_all (k + size c) cs) b
          (core_from c k Value p t.mid (with_blocks (blocks_all (k + size c) cs) b) t.first (all_from cs (k + size c) t.mid q b t.second from))

      sends_from : (ms : SendTrees) (k : ℕ) (to_super : Bool) (p q : ℕ) (b : Bool) → SendsAt bytes entries to_super ms p q → Found q b → Found p (with_blocks (blocks_sends k ms) b)
      sends_from no_sends k to_super p q b e from = same_place p q b e from
      sends_from (sends s es no_sends) k to_super p q b t from =
          two p (blocks_all k es) [] b (all_from es k p t.mid b t.first (send_from to_super s (count es) t.mid q b t.second from))
      sends_from (sends s es (sends s2 es2 ms)) k to_super p q b t from =
          let more = with_blocks (blocks_sends (k + size_all es) (sends s2 es2 ms)) b in
          two p (blocks_all k es) (blocks_sends (k + size_all es) (sends s2 es2 ms)) b
          (plain Duplicate p t.mid (with_blocks (blocks_all k es) more) refl t.first
          (all_from es k t.mid t.second.mid more t.second.first
          (send_from to_super s (count es) t.second.mid t.second.second.mid more t.second.second.first
          (plain Pop t.second.second.mid t.second.second.second.mid more refl t.second.second.second.first
          (sends_from (sends s2 es2 ms) (k + size_all es) to_super t.second.second.second.mid q b t.second.second.second.second from)))))

pub holding : (m : MethodParts) (c : CoreTree) (class : List ℕ) (side : Side) (code : Code) → IsCodeOf m c class side code → holds_block code ≡ has_blocks (blocks 0 c)
holding m c class side code is =
    core_from code.bytes (entries_of code.literals) c 0 Effect 0 (length code.bytes) false is.body (at_the_end code.bytes) (length code.bytes) (omega arith)
    ∙ with_none (blocks 0 c)
