-- Code of a core tree is sound: each instruction fits the depth that its place in the tree gives it, and leads to others.
use Rattle.std.proofs.Common.{◌≡◌, subst, refl, ℕ, suc, ◌+◌, ◌≤◌, Bool, true, false, ◌||◌, arith}
use Rattle.s80_code.specs.declared.code.Code.{Code}
use Rattle.s80_code.specs.declared.instruction.Instruction.TheVariants.{ReturnTop}
use Rattle.s80_code.specs.Entries.{entries_of}
use Rattle.s80_code.specs.Table.{Stands}
use Rattle.s80_scope.specs.declared.fit.position.Position.{Position}
use Rattle.s80_scope.specs.declared.fit.position.Position.TheVariants.{Value, Effect}
use Rattle.s80_scope.specs.FitStack.{Needs, at_least, greatest}
use Rattle.s80_core.specs.Core.{CoreTree, CoreTrees, SendTrees, leaf, assign, value, send, cascade, real_block, two_arms, one_arm, shortcut, repeat, nothing, before, answer, answer_fixed, leave, no_cores, cores, no_sends, sends, count}
use Rattle.s80_core.specs.Measures.{needs, needs_all, needs_sends, AreInRange, AllInRange, SendsInRange, Finishes, LeavesBlocks, AllLeaveBlocks, SendsLeaveBlocks}
use Rattle.s80_verify.specs.declared.stack.Stack.{Stack}
use Rattle.s80_verify.specs.declared.stack.Stack.TheVariants.{OfBlock}
use Rattle.s80_verify.specs.Operands.{HasOwner}
use Rattle.s80_compile.specs.Compiles.{goes_to_super, any_to_super, sends_to_super}
use Rattle.s80_compile.specs.Rows.{At, AllAt, SendsAt, shortcut_number}
use Rattle.s80_compile.specs.Sent.{IsWellSent, AllWellSent, SendsWellSent}
use Rattle.s80_compile.proofs.PointsSound.{ends, free, Sound, Part, then, both, nothing_at, needing, straight, stops}
use Rattle.s80_compile.proofs.PointsRows.{left, ending_part, nil_part, chooses, skips, loops}
use Rattle.s80_compile.proofs.PointsBlock.{makes}
use Rattle.s80_compile.proofs.DepthInstructions.{Specials, fixed_part, leaf_part, count_pushes, store_part, send_part}

or_left : (a b : Bool) → a ≡ true → a || b ≡ true
or_left true b e = refl
or_left false b e = cc

or_right : (a b : Bool) → b ≡ true → a || b ≡ true
or_right true b e = refl
or_right false b e = e

pub args_room : (n : ℕ) (cs : CoreTrees) → n + count cs ≤ (needs_all n cs).here
args_room n no_cores = omega arith
args_room n (cores c cs) = omega (arith, args_room (n + 1) cs)

-- there is room for what a part needs, and for one value
pub record HasRoom (room : Stack → ℕ) (stack : Stack) (depth : ℕ) (n : Needs) : Type 0 where
  pub here : depth + n.here ≤ room stack
  pub inside : n.inside ≤ room OfBlock
  pub one : suc depth ≤ room stack

room_first : (room : Stack → ℕ) (stack : Stack) (depth : ℕ) (a b : Needs) → HasRoom room stack depth (greatest a b) → HasRoom room stack depth a
room_first room stack depth a b r = record { here = omega (arith, r.here); inside = omega (arith, r.inside); one = r.one }

room_second : (room : Stack → ℕ) (stack : Stack) (depth : ℕ) (a b : Needs) → HasRoom room stack depth (greatest a b) → HasRoom room stack depth b
room_second room stack depth a b r = record { here = omega (arith, r.here); inside = omega (arith, r.inside); one = r.one }

module _ (code : Code) (room : Stack → ℕ) (specials : Specials) (few : code.temporaries ≤ 31) where
  left_fits : (position : Position) (stack : Stack) (depth : ℕ) → suc depth ≤ room stack → left position depth ≤ room stack
  left_fits Value stack depth one = one
  left_fits Effect stack depth one = omega (arith, one)

  top_part : (stack : Stack) (depth p q : ℕ) → Stands code.bytes p ReturnTop q → suc depth ≤ room stack → Sound code room stack (suc depth) free free p q
  top_part stack depth p q s fits = stops code room (record { stands = s; enough = omega arith; fits = fits; differs = λ e. cc; suits = tt }) refl refl

  mutual
    pub core_part : (c : CoreTree) (position : Position) (p q : ℕ) (stack : Stack) (depth : ℕ) → HasRoom room stack depth (needs c)
        → AreInRange code.temporaries c → IsWellSent c → (goes_to_super c ≡ true → HasOwner code) → LeavesBlocks c
        → At code.bytes (entries_of code.literals) c position p q → Part code room stack depth (left position depth) p q
    core_part (leaf l) position p q stack depth r range sent owner ended a =
        both code room (leaf_part code room l stack depth p a.mid range a.first (omega (arith, r.one)))
        (ending_part code room position stack depth a.mid q a.second r.one)
    core_part (assign v e) position p q stack depth r (ranged, range) sent owner ended a =
        both code room (core_part e Value p a.mid stack depth r range sent owner ended a.first)
        (store_part code room v position stack depth a.mid q ranged a.second r.one)
    core_part (value e) position p q stack depth r range sent owner ended a =
        both code room (core_part e Value p a.mid stack depth r range sent owner ended a.first)
        (ending_part code room position stack depth a.mid q a.second r.one)
    core_part (send e to_super s es) position p q stack depth r (range, ranges) (sent, (sents, is)) owner (ended, all_ended) a =
        both code room
        (core_part e Value p a.mid stack depth (room_first room stack depth (needs e) (needs_all 1 es) r) range sent
        (λ h. owner (or_right to_super (goes_to_super e || any_to_super es) (or_left (goes_to_super e) (any_to_super es) h))) ended a.first)
        (both code room
        (all_part es a.mid a.second.mid stack depth 1 (suc depth) (suc depth + count es) (omega arith) refl (omega (arith, r.here)) (omega (arith, r.inside))
        ranges sents (λ h. owner (or_right to_super (goes_to_super e || any_to_super es) (or_right (goes_to_super e) (any_to_super es) h))) all_ended a.second.first)
        (both code room
        (send_part code room specials to_super s (count es) stack depth (suc depth + count es) a.second.mid a.second.second.mid refl
        (omega (arith, r.here, args_room 1 es)) is (λ h. owner (or_left to_super (goes_to_super e || any_to_super es) h)) a.second.second.first)
        (ending_part code room position stack depth a.second.second.mid q a.second.second.second r.one)))
    core_part (cascade e to_super ms) position p q stack depth r (range, ranges) (sent, sents) owner (ended, all_ended) a =
        both code room
        (core_part e Value p a.mid stack depth (room_first room stack depth (needs e) (needs_sends ms) r) range sent
        (λ h. owner (or_right to_super (goes_to_super e || sends_to_super ms) (or_left (goes_to_super e) (sends_to_super ms) h))) ended a.first)
        (both code room
        (sends_part ms to_super a.mid a.second.mid stack depth (room_second room stack depth (needs e) (needs_sends ms) r) ranges sents
        (λ h. owner (or_left to_super (goes_to_super e || sends_to_super ms) h))
        (λ h. owner (or_right to_super (goes_to_super e || sends_to_super ms) (or_right (goes_to_super e) (sends_to_super ms) h))) all_ended a.second.first)
        (ending_part code room position stack depth a.second.mid q a.second.second r.one))
    core_part (real_block first n e) position p q stack depth r (ranged, range) sent owner ended a =
        makes code room position stack depth first n p a.push a.copy a.jump a.start a.body_at a.after q
        (omega (arith, r.here)) (omega (arith, r.inside)) ranged
        (record {
          count = a.parameters.instruction;
          context = a.context.stands;
          pushes = a.parameters.stands.stands;
          is_count = count_pushes code room n a.parameters.instruction stack a.push (omega (arith, ranged, few)) a.parameters.is;
          copies = a.copies.stands;
          over = a.over;
        })
        a.takes
        (finish_part true e a.body_at a.after OfBlock 0 (λ h. refl)
        (record { here = omega (arith, r.inside); inside = omega (arith, r.inside); one = omega (arith, r.inside) }) range sent owner ended a.body)
        a.ending
    core_part (two_arms on c a b) position p q stack depth r (range, (range_a, range_b)) (sent, (sent_a, sent_b)) owner (ended, (ended_a, ended_b)) t =
        chooses code room on stack depth (left position depth) p t.test t.first_at t.over t.second_at q r.one (left_fits position stack depth r.one)
        (core_part c Value p t.test stack depth (room_first room stack depth (needs c) (greatest (needs a) (needs b)) r) range sent
        (λ h. owner (or_left (goes_to_super c) (goes_to_super a || goes_to_super b) h)) ended t.condition)
        t.unless
        (core_part a position t.first_at t.over stack depth
        (room_first room stack depth (needs a) (needs b) (room_second room stack depth (needs c) (greatest (needs a) (needs b)) r)) range_a sent_a
        (λ h. owner (or_right (goes_to_super c) (goes_to_super a || goes_to_super b) (or_left (goes_to_super a) (goes_to_super b) h))) ended_a t.first)
        t.past
        (core_part b position t.second_at q stack depth
        (room_second room stack depth (needs a) (needs b) (room_second room stack depth (needs c) (greatest (needs a) (needs b)) r)) range_b sent_b
        (λ h. owner (or_right (goes_to_super c) (goes_to_super a || goes_to_super b) (or_right (goes_to_super a) (goes_to_super b) h))) ended_b t.second)
    core_part (one_arm on c a) Value p q stack depth r (range, range_a) (sent, sent_a) owner (ended, ended_a) t =
        chooses code room on stack depth (suc depth) p t.test t.first_at t.over t.second_at q r.one r.one
        (core_part c Value p t.test stack depth (room_first room stack depth (needs c) (greatest (needs a) (at_least 1)) r) range sent
        (λ h. owner (or_left (goes_to_super c) (goes_to_super a) h)) ended t.condition)
        t.unless
        (core_part a Value t.first_at t.over stack depth
        (room_first room stack depth (needs a) (at_least 1) (room_second room stack depth (needs c) (greatest (needs a) (at_least 1)) r)) range_a sent_a
        (λ h. owner (or_right (goes_to_super c) (goes_to_super a) h)) ended_a t.first)
        t.past
        (nil_part code room Value stack depth t.second_at q t.second (omega (arith, r.one)))
    core_part (one_arm on c a) Effect p q stack depth r (range, range_a) (sent, sent_a) owner (ended, ended_a) t =
        skips code room on stack depth p t.test t.arm_at q r.one
        (core_part c Value p t.test stack depth (room_first room stack depth (needs c) (greatest (needs a) (at_least 1)) r) range sent
        (λ h. owner (or_left (goes_to_super c) (goes_to_super a) h)) ended t.condition)
        t.unless
        (core_part a Effect t.arm_at q stack depth
        (room_first room stack depth (needs a) (at_least 1) (room_second room stack depth (needs c) (greatest (needs a) (at_least 1)) r)) range_a sent_a
        (λ h. owner (or_right (goes_to_super c) (goes_to_super a) h)) ended_a t.arm)
    core_part (shortcut on c a) position p q stack depth r (range, range_a) (sent, sent_a) owner (ended, ended_a) t =
        both code room
        (chooses code room on stack depth (suc depth) p t.first.test t.first.first_at t.first.over t.first.second_at t.mid r.one r.one
        (core_part c Value p t.first.test stack depth (room_first room stack depth (needs c) (greatest (needs a) (at_least 1)) r) range sent
        (λ h. owner (or_left (goes_to_super c) (goes_to_super a) h)) ended t.first.condition)
        t.first.unless
        (core_part a Value t.first.first_at t.first.over stack depth
        (room_first room stack depth (needs a) (at_least 1) (room_second room stack depth (needs c) (greatest (needs a) (at_least 1)) r)) range_a sent_a
        (λ h. owner (or_right (goes_to_super c) (goes_to_super a) h)) ended_a t.first.first)
        t.first.past
        (fixed_part code room (shortcut_number on) stack depth t.first.second_at t.mid t.first.second.stands (omega (arith, r.one))))
        (ending_part code room position stack depth t.mid q t.second r.one)
    core_part (repeat on c e) position p q stack depth r (range, range_e) (sent, sent_e) owner (ended, ended_e) t =
        loops code room on stack depth (left position depth) p t.test t.body_at t.over t.done q r.one
        (core_part c Value p t.test stack depth (room_first room stack depth (needs c) (greatest (needs e) (at_least 1)) r) range sent
        (λ h. owner (or_left (goes_to_super c) (goes_to_super e) h)) ended t.condition)
        t.unless
        (core_part e Effect t.body_at t.over stack depth
        (room_first room stack depth (needs e) (at_least 1) (room_second room stack depth (needs c) (greatest (needs e) (at_least 1)) r)) range_e sent_e
        (λ h. owner (or_right (goes_to_super c) (goes_to_super e) h)) ended_e t.body)
        t.back
        (nil_part code room position stack depth t.done q t.leaves (omega (arith, r.one)))
    core_part nothing position p q stack depth r range sent owner ended a = nil_part code room position stack depth p q a (omega (arith, r.one))
    core_part (before a b) position p q stack depth r (range, range_b) (sent, sent_b) owner (ended, ended_b) t =
        both code room
        (core_part a Effect p t.mid stack depth (room_first room stack depth (needs a) (needs b) r) range sent
        (λ h. owner (or_left (goes_to_super a) (goes_to_super b) h)) ended t.first)
        (core_part b position t.mid q stack depth (room_second room stack depth (needs a) (needs b) r) range_b sent_b
        (λ h. owner (or_right (goes_to_super a) (goes_to_super b) h)) ended_b t.second)
    core_part (answer e) position p q stack depth r range sent owner ended t =
        needing code room (ends stack (left position depth) q) (ends stack (left position depth) q) (λ all need. tt) (λ all need. tt)
        (then code room (core_part e Value p t.mid stack depth r range sent owner ended t.first)
        (top_part stack depth t.mid q t.second.stands r.one) (λ all need. tt))
    core_part (answer_fixed n) position p q stack depth r range sent owner ended s =
        needing code room (ends stack (left position depth) q) (ends stack (left position depth) q) (λ all need. tt) (λ all need. tt)
        (stops code room (record { stands = s.stands; enough = omega arith; fits = omega (arith, r.one); differs = λ e. cc; suits = tt }) refl refl)
    core_part (leave e) position p q stack depth r range sent owner ended a = absurd ended

    pub finish_part : (in_block : Bool) (c : CoreTree) (p q : ℕ) (stack : Stack) (depth : ℕ) → (in_block ≡ true → stack ≡ OfBlock)
        → HasRoom room stack depth (needs c) → AreInRange code.temporaries c → IsWellSent c → (goes_to_super c ≡ true → HasOwner code) → Finishes in_block c
        → At code.bytes (entries_of code.literals) c Effect p q → Sound code room stack depth free free p q
    finish_part in_block (before a b) p q stack depth own r (range, range_b) (sent, sent_b) owner (ended, ended_b) t =
        then code room
        (core_part a Effect p t.mid stack depth (room_first room stack depth (needs a) (needs b) r) range sent
        (λ h. owner (or_left (goes_to_super a) (goes_to_super b) h)) ended t.first)
        (finish_part in_block b t.mid q stack depth own (room_second room stack depth (needs a) (needs b) r) range_b sent_b
        (λ h. owner (or_right (goes_to_super a) (goes_to_super b) h)) ended_b t.second)
        (λ all need. tt)
    finish_part in_block (answer e) p q stack depth own r range sent owner ended t =
        then code room (core_part e Value p t.mid stack depth r range sent owner ended t.first) (top_part stack depth t.mid q t.second.stands r.one) (λ all need. tt)
    finish_part in_block (answer_fixed n) p q stack depth own r range sent owner ended s =
        stops code room (record { stands = s.stands; enough = omega arith; fits = omega (arith, r.one); differs = λ e. cc; suits = tt }) refl refl
    finish_part true (leave e) p q stack depth own r range sent owner ended t =
        then code room (core_part e Value p t.mid stack depth r range sent owner ended t.first)
        (stops code room (record { stands = t.second.stands; enough = omega arith; fits = r.one; differs = λ e. cc; suits = own refl }) refl refl) (λ all need. tt)
    finish_part false (leave e) p q stack depth own r range sent owner ended t = absurd ended
    finish_part in_block (leaf l) p q stack depth own r range sent owner ended t = absurd ended
    finish_part in_block (assign v e) p q stack depth own r range sent owner ended t = absurd ended
    finish_part in_block (value e) p q stack depth own r range sent owner ended t = absurd ended
    finish_part in_block (send e to_super s es) p q stack depth own r range sent owner ended t = absurd ended
    finish_part in_block (cascade e to_super ms) p q stack depth own r range sent owner ended t = absurd ended
    finish_part in_block (real_block first n e) p q stack depth own r range sent owner ended t = absurd ended
    finish_part in_block (two_arms on c a b) p q stack depth own r range sent owner ended t = absurd ended
    finish_part in_block (one_arm on c a) p q stack depth own r range sent owner ended t = absurd ended
    finish_part in_block (shortcut on c a) p q stack depth own r range sent owner ended t = absurd ended
    finish_part in_block (repeat on c e) p q stack depth own r range sent owner ended t = absurd ended
    finish_part in_block nothing p q stack depth own r range sent owner ended t = absurd ended

    -- arguments, on so many values above the base
    pub all_part : (cs : CoreTrees) (p q : ℕ) (stack : Stack) (base n depth after : ℕ) → depth ≡ base + n → after ≡ depth + count cs
        → base + (needs_all n cs).here ≤ room stack → (needs_all n cs).inside ≤ room OfBlock
        → AllInRange code.temporaries cs → AllWellSent cs → (any_to_super cs ≡ true → HasOwner code) → AllLeaveBlocks cs
        → AllAt code.bytes (entries_of code.literals) cs p q → Part code room stack depth after p q
    all_part no_cores p q stack base n depth after is behind here inside range sent owner ended e =
        subst (λ (d : ℕ). Part code room stack depth d p q) (omega (arith, behind)) (nothing_at code room stack depth p q e)
    all_part (cores c cs) p q stack base n depth after is behind here inside (range, ranges) (sent, sents) owner (ended, all_ended) t =
        both code room
        (core_part c Value p t.mid stack depth
        (record { here = omega (arith, is, here); inside = omega (arith, inside); one = omega (arith, is, here, args_room (n + 1) cs) })
        range sent (λ h. owner (or_left (goes_to_super c) (any_to_super cs) h)) ended t.first)
        (all_part cs t.mid q stack base (n + 1) (suc depth) after (omega (arith, is)) (omega (arith, behind)) (omega (arith, here)) (omega (arith, inside))
        ranges sents (λ h. owner (or_right (goes_to_super c) (any_to_super cs) h)) all_ended t.second)

    pub sends_part : (ms : SendTrees) (to_super : Bool) (p q : ℕ) (stack : Stack) (depth : ℕ) → HasRoom room stack depth (needs_sends ms)
        → SendsInRange code.temporaries ms → SendsWellSent ms → (to_super ≡ true → HasOwner code) → (sends_to_super ms ≡ true → HasOwner code) → SendsLeaveBlocks ms
        → SendsAt code.bytes (entries_of code.literals) to_super ms p q → Part code room stack (suc depth) (suc depth) p q
    sends_part no_sends to_super p q stack depth r range sent super owner ended e = nothing_at code room stack (suc depth) p q e
    sends_part (sends s es no_sends) to_super p q stack depth r (range, more) ((sent, is), sents) super owner (ended, all_ended) t =
        both code room
        (all_part es p t.mid stack depth 1 (suc depth) (suc depth + count es) (omega arith) refl r.here r.inside
        range sent (λ h. owner (or_left (any_to_super es) false h)) ended t.first)
        (send_part code room specials to_super s (count es) stack depth (suc depth + count es) t.mid q refl (omega (arith, r.here, args_room 1 es)) is super t.second)
    sends_part (sends s es (sends s2 es2 ms)) to_super p q stack depth r (range, more) ((sent, is), sents) super owner (ended, all_ended) t =
        both code room
        (straight code room (suc (suc depth))
        (record { stands = t.first.stands; enough = omega arith; fits = r.one; differs = λ e. cc; suits = tt }) refl (omega arith))
        (both code room
        (all_part es t.mid t.second.mid stack depth 2 (suc (suc depth)) (suc (suc depth) + count es) (omega arith) refl (omega (arith, r.here)) (omega (arith, r.inside))
        range sent (λ h. owner (or_left (any_to_super es) (sends_to_super (sends s2 es2 ms)) h)) ended t.second.first)
        (both code room
        (send_part code room specials to_super s (count es) stack (suc depth) (suc (suc depth) + count es) t.second.mid t.second.second.mid refl
        (omega (arith, r.here, args_room 2 es)) is super t.second.second.first)
        (both code room
        (straight code room (suc depth)
        (record { stands = t.second.second.second.first.stands; enough = omega arith; fits = omega (arith, r.here, args_room 2 es); differs = λ e. cc; suits = tt }) refl (omega arith))
        (sends_part (sends s2 es2 ms) to_super t.second.second.second.mid q stack depth
        (room_second room stack depth (needs_all 2 es) (needs_sends (sends s2 es2 ms)) r) more sents super
        (λ h. owner (or_right (any_to_super es) (sends_to_super (sends s2 es2 ms)) h)) all_ended t.second.second.second.second))))
