use Rattle.std.proofs.Common.{◌≡◌, ◌+◌, ◌-◌, ◌<◌, false, arith, rules, length, length-take-le, get_or, map, take, drop, refl, ap, sym, subst, ◌∙◌}
use Rattle.std.proofs.lemmas.List.{get_or-take}
use Rattle.s80_tree.specs.Name.{names_of}
use Rattle.s80_tree.specs.Tree.{expr_of, exprs_of, messages_of, no_messages, no_stmts, primary_of}
use Rattle.s80_tree.specs.declared.expr.Expr.{out-Expr}
use Rattle.s80_tree.specs.declared.expr.Message.{out-Message}
use Rattle.s80_tree.specs.declared.expr.Primary.{the_lemmas}
use Rattle.s80_tree.specs.declared.expr.Stmt.{out-Stmt}
use Rattle.s80_scope.specs.FitStack.{body_parameters, messages_parameters}
use Rattle.s80_scope.specs.Inlined.{are_arms}
use Rattle.s80_scope.specs.Names.{body_uses, messages_uses}
use Rattle.s80_scope.specs.Walk.{last_has_arms}
use Rattle.s80_scope.proofs.lemmas.Counted.{first_arm, other_arms}
use Rattle.s80_tree.proofs.lemmas.Opens.{expr_open}
use Rattle.s80_scope.proofs.lemmas.Opens.{exprs_left, exprs_next, exprs_done, messages_left, messages_done}
use Rattle.s80_scope.proofs.Parts.{targets_open}
use Rattle.s80_core.specs.Core.{core_of, cores_of, send, send_of, sends_of}
use Rattle.s80_core.specs.Elaborate.{arms_core, body_core, chain_core, exprs_core, sends_core}
use Rattle.s80_core.specs.Walk.{IsPart, joined, meaning_in}
use Rattle.s80_core.proofs.ElaborateLists.{cores_end, sends_end}
use Rattle.s80_core.proofs.ElaborateWalk.{always_ok, argument_part, arguments_part, arm_whole, arms_step, body_counted, body_last, body_left, body_next, body_result, body_step, cascade_step, cascades_part, chain_counted, chain_end, chain_last, chain_left, chain_next, chain_step, exprs_step, further_count, further_part, last_arms, message_next, messages_arms, messages_part, more_messages, more_statements, others_arms, others_count, others_part, pushed_cores, receiver_part, receiver_plain, statement_part, statements_count, statements_part, targets_used, whole_body, whole_chain}
use Rattle.s80_core.proofs.elaboration.walk.+walk.Goals as goal

pub arm-returns-clause-core : goal.arm-returns-clause-core
arm-returns-clause-core t c = arm_whole (meaning_in c.args.home.now) c.args.number.now c.args.expr.now c.in-Block.block c.body.result c.in-Block.is c.body.ensures.core

pub arms-loop-one-preserved : goal.arms-loop-one-preserved
arms-loop-one-preserved t c =
    let h = c.loop-one.invariant in
    let xs = c.deref-one-items.result.now in
    let i = c.loop-one.one-index in
    let x = c.one-item.result in
    let left = exprs_left xs i in
    let rest = exprs_left xs (i + 1) in
    let split = exprs_next xs i x c.loop-one-test.true c.one-item.is in
    let after = c.in_ok-core.ensures.number in
    record {
      cores = arms_step (meaning_in c.args.home.now) c.loop-one.number c.arm.new.number (cores_of c.loop-one.made) (cores_of c.push.new.self) (arms_core (meaning_in c.args.home.now) c.args.number.now (exprs_of c.args.exprs.now)) left rest (expr_of x) (core_of c.in_ok-core.core)
          h.cores split c.in_ok-core.ensures.core after c.in_ok-push.ensures.ok;
      count = further_count c.args.home.now c.loop-one.number left rest (expr_of x) split c.arm.new.number _ after h.count;
      part = further_part c.args.home.now c.loop-one.number left rest (expr_of x) split c.arm.new.number after h.part;
      arms = other_arms (expr_of x) rest (sym (ap are_arms split) ∙ h.arms);
    }

pub arms-returns-clause-cores : goal.arms-returns-clause-cores
arms-returns-clause-cores t c =
    let xs = c.deref-one-items.result.now in
    let i = c.loop-one.one-index in
    cores_end (cores_of c.loop-one.made) _ (arms_core (meaning_in c.args.home.now) c.loop-one.number (exprs_left xs i)) c.loop-one.invariant.cores (ap (arms_core (meaning_in c.args.home.now) c.loop-one.number) (exprs_done xs i c.loop-one-test.false))

pub exprs-loop-one-preserved : goal.exprs-loop-one-preserved
exprs-loop-one-preserved t c =
    let h = c.loop-one.invariant in
    let xs = c.deref-one-items.result.now in
    let i = c.loop-one.one-index in
    let x = c.one-item.result in
    let left = exprs_left xs i in
    let rest = exprs_left xs (i + 1) in
    let split = exprs_next xs i x c.loop-one-test.true c.one-item.is in
    let after = c.in_ok-core.ensures.number in
    record {
      cores = exprs_step (meaning_in c.args.home.now) c.loop-one.number c.expr.new.number (cores_of c.loop-one.made) (cores_of c.push.new.self) (exprs_core (meaning_in c.args.home.now) c.args.number.now (exprs_of c.args.exprs.now)) left rest (expr_of x) (core_of c.in_ok-core.core)
          h.cores split c.in_ok-core.ensures.core after c.in_ok-push.ensures.ok;
      count = further_count c.args.home.now c.loop-one.number left rest (expr_of x) split c.expr.new.number _ after h.count;
      part = further_part c.args.home.now c.loop-one.number left rest (expr_of x) split c.expr.new.number after h.part;
    }

pub exprs-returns-clause-cores : goal.exprs-returns-clause-cores
exprs-returns-clause-cores t c =
    let xs = c.deref-one-items.result.now in
    let i = c.loop-one.one-index in
    cores_end (cores_of c.loop-one.made) _ (exprs_core (meaning_in c.args.home.now) c.loop-one.number (exprs_left xs i)) c.loop-one.invariant.cores (ap (exprs_core (meaning_in c.args.home.now) c.loop-one.number) (exprs_done xs i c.loop-one-test.false))

pub body-loop-one-init : goal.body-loop-one-init
body-loop-one-init t c =
    let same = whole_body c.args.statements.now c.as_slice.result.now c.last-item.result c.as_slice.ensures.value c.in-len1-up.len_at_least c.last-item.is in
    record {
      body = λ j. joined (map core_of (c.new-made.ensures.items j)) (body_core (meaning_in c.args.home.now) c.args.within c.args.number.now (same j));
      count = ap (λ b. c.args.number.now + body_parameters b) same;
      part = subst (λ b. IsPart c.args.home.now c.args.number.now (body_uses b) (body_parameters b)) (sym same) c.requires.part;
    }

pub body-loop-one-preserved : goal.body-loop-one-preserved
body-loop-one-preserved t c =
    let h = c.loop-one.invariant in
    let xs = take (length c.as_slice.result.now - 1) c.as_slice.result.now in
    let i = c.loop-one.one-index in
    let x = c.one-item.result in
    let y = c.last-item.result in
    let e = expr_of (out-Stmt x).expr in
    let split = body_next xs y i x c.loop-one-test.true c.one-item.is in
    let after = c.in_ok-value.ensures.number in
    record {
      body = body_step (meaning_in c.args.home.now) c.args.within c.loop-one.number c.expr.new.number (map core_of c.loop-one.made.items) (map core_of c.push.new.self.items) (core_of c.in_ok-statement.field-0) (core_of c.in_ok-value.value) _
          (out-Stmt x).returns e (body_left xs y i) (body_left xs y (i + 1)) h.body split (more_statements (drop (i + 1) xs) y) c.in_ok-value.ensures.core c.in_ok-statement.ensures
          (pushed_cores c.loop-one.made.items c.push.new.self.items c.in_ok-statement.field-0 c.in_ok-push.ensures.items) after;
      count = statements_count c.args.home.now c.loop-one.number (body_left xs y i) (body_left xs y (i + 1)) (out-Stmt x).returns e split c.expr.new.number _ after h.count;
      part = statements_part c.args.home.now c.loop-one.number (body_left xs y i) (body_left xs y (i + 1)) (out-Stmt x).returns e split c.expr.new.number after h.part;
    }

pub body-returns-clause-core : goal.body-returns-clause-core
body-returns-clause-core t c =
    let xs = take (length c.as_slice.result.now - 1) c.as_slice.result.now in
    let i = c.loop-one.one-index in
    let y = c.last-item.result in
    body_result (meaning_in c.args.home.now) c.args.within c.loop-one.number (map core_of c.loop-one.made.items) (core_of c.in_ok-end.end) (core_of c.in_ok-value-2.value) c.joined.result _
    (out-Stmt y).returns (expr_of (out-Stmt y).expr) (body_left xs y i) c.loop-one.invariant.body (body_last xs y i c.loop-one-test.false) c.in_ok-value-2.ensures.core c.in_ok-end.ensures c.joined.ensures

pub body-returns-clause-number : goal.body-returns-clause-number
body-returns-clause-number t c =
    let xs = take (length c.as_slice.result.now - 1) c.as_slice.result.now in
    let i = c.loop-one.one-index in
    let y = c.last-item.result in
    always_ok c.joined.result (body_counted c.loop-one.number c.expr-2.new.number _ (body_left xs y i) (out-Stmt y).returns (expr_of (out-Stmt y).expr) (body_last xs y i c.loop-one-test.false) c.in_ok-value-2.ensures.number c.loop-one.invariant.count)

pub expr-assigned-requires-clause-used : goal.expr-assigned-requires-clause-used
expr-assigned-requires-clause-used t c =
    let e = out-Expr c.args.expr.now in
    targets_used c.args.home.now c.args.number.now (expr_of c.args.expr.now) c.deref.result.now (primary_of e.receiver) (messages_of e.messages) (messages_of e.cascades) (targets_open c.args.expr.now c.deref.result.now c.deref.ensures.value) c.requires.part

pub messages-loop-message-init : goal.messages-loop-message-init
messages-loop-message-init t c =
    let same = whole_chain c.args.messages.now c.as_slice.result.now c.last-item.result c.as_slice.ensures.value c.in-len1-up.len_at_least c.last-item.is in
    record {
      chain = λ more. ap (chain_core (meaning_in c.args.home.now) (core_of c.args.receiver) c.args.to_super c.args.ending c.args.number.now more) same;
      count = ap (λ ms. c.args.number.now + messages_parameters ms) same;
      part = subst (λ ms. IsPart c.args.home.now c.args.number.now (messages_uses ms) (messages_parameters ms)) (sym same) c.requires.part;
      arms = λ inlined. ap last_has_arms same ∙ c.requires.arms inlined;
    }

pub messages-loop-message-preserved : goal.messages-loop-message-preserved
messages-loop-message-preserved t c =
    let h = c.loop-message.invariant in
    let m = meaning_in c.args.home.now in
    let xs = take (length c.as_slice.result.now - 1) c.as_slice.result.now in
    let i = c.loop-message.message-index in
    let x = c.message-item.result in
    let y = c.last-item.result in
    let s = (out-Message x).selector in
    let es = exprs_of (out-Message x).arguments in
    let left = chain_left xs y i in
    let rest = chain_left xs y (i + 1) in
    let split = chain_next xs y i x c.loop-message-test.true c.message-item.is in
    let after = c.in_ok-arguments.ensures.number in
    let sent : core_of c.send-made.result ≡ send (core_of c.loop-message.made) c.loop-message.passed s (exprs_core m c.loop-message.number es) = search rules in
    record {
      chain = chain_step m c.loop-message.number c.exprs.new.number (core_of c.loop-message.made) (core_of c.send-made.result) c.loop-message.passed false c.args.ending s es left rest
          (λ more. chain_core m (core_of c.args.receiver) c.args.to_super c.args.ending c.args.number.now more (messages_of c.args.messages.now)) h.chain split (more_messages (drop (i + 1) xs) y) sent refl after;
      count = others_count c.args.home.now c.loop-message.number left rest s es split c.exprs.new.number _ after h.count;
      part = others_part c.args.home.now c.loop-message.number left rest s es split c.exprs.new.number after h.part;
      arms = others_arms c.args.home.now c.loop-message.number left rest s es split c.args.ending h.arms;
    }

pub messages-returns-clause-core : goal.messages-returns-clause-core
messages-returns-clause-core t c =
    let m = meaning_in c.args.home.now in
    let xs = take (length c.as_slice.result.now - 1) c.as_slice.result.now in
    let i = c.loop-message.message-index in
    let y = c.last-item.result in
    chain_end m c.loop-message.number (core_of c.loop-message.made) c.loop-message.passed c.args.ending (out-Message y).selector c.in_ok-selector-2.selector (exprs_of (out-Message y).arguments) (cores_of c.in_ok-arguments-2.arguments) (chain_left xs y i)
    (λ more. chain_core m (core_of c.args.receiver) c.args.to_super c.args.ending c.args.number.now more (messages_of c.args.messages.now)) c.loop-message.invariant.chain (chain_last xs y i c.loop-message-test.false)
    c.in_ok-selector-2.ensures c.in_ok-arguments-2.ensures.cores

pub messages-returns-clause-number : goal.messages-returns-clause-number
messages-returns-clause-number t c =
    let xs = take (length c.as_slice.result.now - 1) c.as_slice.result.now in
    let i = c.loop-message.message-index in
    let y = c.last-item.result in
    chain_counted c.loop-message.number c.last_arguments.new.number _ (chain_left xs y i) (out-Message y).selector (exprs_of (out-Message y).arguments) (chain_last xs y i c.loop-message-test.false) c.in_ok-arguments-2.ensures.number c.loop-message.invariant.count

pub sends-loop-message-preserved : goal.sends-loop-message-preserved
sends-loop-message-preserved t c =
    let h = c.loop-message.invariant in
    let m = meaning_in c.args.home.now in
    let xs = c.deref-message-items.result.now in
    let i = c.loop-message.message-index in
    let x = c.message-item.result in
    let s = (out-Message x).selector in
    let es = exprs_of (out-Message x).arguments in
    let left = messages_left xs i in
    let rest = messages_left xs (i + 1) in
    let split = message_next xs i x c.loop-message-test.true c.message-item.is in
    let after = c.in_ok-arguments.ensures.number in
    record {
      sends = cascade_step m c.loop-message.number c.exprs.new.number (sends_of c.loop-message.made) (sends_of c.push.new.self) (sends_core m c.args.number.now (messages_of c.args.messages.now)) left rest s es c.in_ok-selector.selector (cores_of c.in_ok-arguments.arguments) (send_of c.new.result)
          h.sends split c.in_ok-selector.ensures c.in_ok-arguments.ensures.cores c.new.ensures after c.in_ok-push.ensures.ok;
      count = others_count c.args.home.now c.loop-message.number left rest s es split c.exprs.new.number _ after h.count;
      part = others_part c.args.home.now c.loop-message.number left rest s es split c.exprs.new.number after h.part;
    }

pub sends-returns-clause-sends : goal.sends-returns-clause-sends
sends-returns-clause-sends t c =
    let xs = c.deref-message-items.result.now in
    let i = c.loop-message.message-index in
    sends_end (sends_of c.loop-message.made) _ (sends_core (meaning_in c.args.home.now) c.loop-message.number (messages_left xs i)) c.loop-message.invariant.sends (ap (sends_core (meaning_in c.args.home.now) c.loop-message.number) (messages_done xs i c.loop-message-test.false))

pub arms-arm-requires : goal.arms-arm-requires
arms-arm-requires t c =
    let xs = c.deref-one-items.result.now in
    let i = c.loop-one.one-index in
    let x = c.one-item.result in
    let split = exprs_next xs i x c.loop-one-test.true c.one-item.is in (
      search (rules, the_lemmas),
      (
        c.requires.home,
        (
          argument_part c.args.home.now c.loop-one.number (exprs_left xs i) (exprs_left xs (i + 1)) (expr_of x) split c.loop-one.invariant.part,
          first_arm (expr_of x) (exprs_left xs (i + 1)) (sym (ap are_arms split) ∙ c.loop-one.invariant.arms),
        ),
      ),
    )

pub exprs-expr-requires : goal.exprs-expr-requires
exprs-expr-requires t c =
    let xs = c.deref-one-items.result.now in
    let i = c.loop-one.one-index in
    let x = c.one-item.result in
    (search (rules, the_lemmas), (c.requires.home, argument_part c.args.home.now c.loop-one.number (exprs_left xs i) (exprs_left xs (i + 1)) (expr_of x) (exprs_next xs i x c.loop-one-test.true c.one-item.is) c.loop-one.invariant.part))

pub body-expr-requires : goal.body-expr-requires
body-expr-requires t c =
    let all = c.as_slice.result.now in
    let xs = take (length all - 1) all in
    let i = c.loop-one.one-index in
    let x = c.one-item.result in
    let y = c.last-item.result in
    let shorter : length xs ≡ length all - 1 = length-take-le (length all - 1) all (omega arith) in
    let before : i < length all - 1 = omega (arith, shorter, c.loop-one-test.true) in
    let within : i < length all = omega (arith, before) in
    let there : x ≡ get_or all i x = c.one-item.is ∙ get_or-take (length all - 1) all i x before in
    (search (rules, the_lemmas), (c.requires.home, statement_part c.args.home.now c.loop-one.number (body_left xs y i) (body_left xs y (i + 1)) (out-Stmt x).returns (expr_of (out-Stmt x).expr) (body_next xs y i x c.loop-one-test.true c.one-item.is) c.loop-one.invariant.part))

pub body-expr-requires-2 : goal.body-expr-requires-2
body-expr-requires-2 t c =
    let xs = take (length c.as_slice.result.now - 1) c.as_slice.result.now in
    let i = c.loop-one.one-index in
    let y = c.last-item.result in
    (search (rules, the_lemmas), (c.requires.home, statement_part c.args.home.now c.loop-one.number (body_left xs y i) no_stmts (out-Stmt y).returns (expr_of (out-Stmt y).expr) (body_last xs y i c.loop-one-test.false) c.loop-one.invariant.part))

pub expr-receiver-requires : goal.expr-receiver-requires
expr-receiver-requires t c =
    let e = out-Expr c.args.expr.now in
    let whole = expr_open c.args.expr.now in (
      search (rules, the_lemmas),
      (
        c.requires.home,
        (
          receiver_part c.args.home.now c.args.number.now (expr_of c.args.expr.now) (names_of e.targets) (primary_of e.receiver) (messages_of e.messages) (messages_of e.cascades) whole c.requires.part,
          receiver_plain (expr_of c.args.expr.now) (names_of e.targets) (primary_of e.receiver) (messages_of e.messages) (messages_of e.cascades) c.ending_of-ending.result whole c.ending_of-ending.ensures c.is_loop.result c.is_loop.ensures,
        ),
      ),
    )

pub expr-messages-requires : goal.expr-messages-requires
expr-messages-requires t c =
    let e = out-Expr c.args.expr.now in
    let whole = expr_open c.args.expr.now in (
      search (rules, the_lemmas),
      (
        c.requires.home,
        (
          messages_part c.args.home.now c.args.number.now (expr_of c.args.expr.now) (names_of e.targets) (primary_of e.receiver) (messages_of e.messages) (messages_of e.cascades) whole c.requires.part c.receiver.new.number c.in_ok-first.ensures.number,
          messages_arms (expr_of c.args.expr.now) (names_of e.targets) (primary_of e.receiver) (messages_of e.messages) (messages_of e.cascades) c.ending_of-ending.result whole c.ending_of-ending.ensures,
        ),
      ),
    )

pub expr-sends-requires : goal.expr-sends-requires
expr-sends-requires t c =
    let e = out-Expr c.args.expr.now in (
      search (rules, the_lemmas),
      (
        c.requires.home,
        cascades_part c.args.home.now c.args.number.now (expr_of c.args.expr.now) (names_of e.targets) (primary_of e.receiver) (messages_of e.messages) (messages_of e.cascades) (expr_open c.args.expr.now) c.requires.part
            c.receiver.new.number c.messages.new.number c.in_ok-first.ensures.number c.in_ok-chain.ensures.number,
      ),
    )

pub messages-exprs-requires : goal.messages-exprs-requires
messages-exprs-requires t c =
    let all = c.as_slice.result.now in
    let xs = take (length all - 1) all in
    let i = c.loop-message.message-index in
    let x = c.message-item.result in
    let y = c.last-item.result in
    let shorter : length xs ≡ length all - 1 = length-take-le (length all - 1) all (omega arith) in
    let before : i < length all - 1 = omega (arith, shorter, c.loop-message-test.true) in
    let within : i < length all = omega (arith, before) in
    let there : x ≡ get_or all i x = c.message-item.is ∙ get_or-take (length all - 1) all i x before in
    (search (rules, the_lemmas), (c.requires.home, arguments_part c.args.home.now c.loop-message.number (chain_left xs y i) (chain_left xs y (i + 1)) (out-Message x).selector (exprs_of (out-Message x).arguments) (chain_next xs y i x c.loop-message-test.true c.message-item.is) c.loop-message.invariant.part))

pub messages-last_arguments-requires : goal.messages-last_arguments-requires
messages-last_arguments-requires t c =
    let h = c.loop-message.invariant in
    let xs = take (length c.as_slice.result.now - 1) c.as_slice.result.now in
    let i = c.loop-message.message-index in
    let y = c.last-item.result in
    let s = (out-Message y).selector in
    let es = exprs_of (out-Message y).arguments in
    let split = chain_last xs y i c.loop-message-test.false in
    (search (rules, the_lemmas), (c.requires.home, (arguments_part c.args.home.now c.loop-message.number (chain_left xs y i) no_messages s es split h.part, last_arms (chain_left xs y i) s es c.args.ending split h.arms)))

pub sends-exprs-requires : goal.sends-exprs-requires
sends-exprs-requires t c =
    let xs = c.deref-message-items.result.now in
    let i = c.loop-message.message-index in
    let x = c.message-item.result in
    (search (rules, the_lemmas), (c.requires.home, arguments_part c.args.home.now c.loop-message.number (messages_left xs i) (messages_left xs (i + 1)) (out-Message x).selector (exprs_of (out-Message x).arguments) (message_next xs i x c.loop-message-test.true c.message-item.is) c.loop-message.invariant.part))
