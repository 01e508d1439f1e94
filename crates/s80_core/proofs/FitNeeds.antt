-- A core tree needs no more of the stack than its tree.
use Rattle.std.proofs.Common.{ℕ, ◌+◌, ◌≤◌, max, List, [], ◌∷◌, Bool, true, false, length, Option, Some, None, arith}
use Rattle.std.specs.Option.{option_map_or}
use Rattle.s80_tree.specs.declared.name.NameAt.{NameAt}
use Rattle.s80_tree.specs.Tree.{ExprTree, PrimaryTree, ExprTrees, MessageTrees, BodyTree, MethodParts, expr, name, literal, block, paren, no_exprs, exprs, no_messages, messages, no_stmts, stmts, is_super}
use Rattle.s80_scope.specs.Inlined.{ending, is_loop}
use Rattle.s80_scope.specs.FitStack.{Needs, at_least, greatest, values_below, expr_needs, receiver_needs, messages_needs, arguments_needs, arms_needs, arm_needs, body_needs, expr_parameters, primary_parameters, messages_parameters, exprs_parameters, temporaries}
use Rattle.s80_scope.specs.FitStack as tree
use Rattle.s80_scope.specs.Names.{means}
use Rattle.s80_scope.specs.Shape.{WhereTree}
use Rattle.s80_scope.specs.declared.shape.Shape.{Shape}
use Rattle.s80_scope.specs.declared.fit.ending.Ending.{Ending}
use Rattle.s80_scope.specs.declared.fit.ending.Ending.TheVariants.{Sent, Cascaded, TwoArms, OneArm, Shortcut, Loop}
use Rattle.s80_core.specs.declared.elaboration.Enclosing.{Enclosing}
use Rattle.s80_core.specs.declared.elaboration.Enclosing.TheVariants as enclosing
use Rattle.s80_core.specs.Core.{CoreTree, CoreTrees, SendTrees, send, answer, answer_fixed, no_cores, cores, no_sends, sends}
use Rattle.s80_core.specs.Elaborate.{assigned, first_of, second_of, last_core, fixed_return, statement, last_statement, empty_body, expr_core, receiver_core, chain_core, sends_core, exprs_core, arms_core, arm_core, body_core, method_end, elaborated}
use Rattle.s80_core.specs.Measures.{needs, needs_all, needs_sends}

-- no more than what a tree needs, or one value
abbrev IsWithin : Needs → Needs → Type 0
IsWithin core whole = (core.here ≤ max whole.here 1) × (core.inside ≤ whole.inside)

-- arguments with so many values below them
abbrev AreWithin : ℕ → CoreTrees → Needs → Type 0
AreWithin n es whole = ((needs_all n es).here ≤ max whole.here n) × ((needs_all n es).inside ≤ whole.inside)

-- ---- each expression needs one value at least

below_positive : (e : Ending) → 1 ≤ values_below e
below_positive Sent = omega arith
below_positive Cascaded = omega arith
below_positive (TwoArms on) = omega arith
below_positive (OneArm on) = omega arith
below_positive (Shortcut on) = omega arith
below_positive (Loop on) = omega arith

messages_positive : (first last : Ending) (s : List ℕ) (es : ExprTrees) (ms : MessageTrees) → 1 ≤ (messages_needs first last (messages s es ms)).here
messages_positive first last s es no_messages = omega (arith, below_positive last)
messages_positive first last s es (messages t fs ms) = omega (arith, below_positive first)

mutual
  expr_positive : (e : ExprTree) → 1 ≤ (expr_needs e).here
  expr_positive (expr targets p no_messages no_messages) = omega (arith, receiver_positive p)
  expr_positive (expr targets p no_messages (messages s es cs)) = omega (arith, receiver_positive p)
  expr_positive (expr targets p (messages s es ms) cs) = omega (arith, messages_positive Sent (ending p (messages s es ms) cs) s es ms)

  receiver_positive : (p : PrimaryTree) → 1 ≤ (receiver_needs false p).here
  receiver_positive (name n) = omega arith
  receiver_positive (literal v) = omega arith
  receiver_positive (block ps ss) = omega arith
  receiver_positive (paren e) = expr_positive e

-- ---- statements

returned_needs : (o : Option ℕ) (c : CoreTree) (whole : Needs) → IsWithin (needs c) whole → IsWithin (needs (option_map_or answer_fixed o (answer c))) whole
returned_needs None c whole h = h
returned_needs (Some n) c whole h = (omega arith, omega arith)

statement_needs : (r : Bool) (e : ExprTree) (c : CoreTree) (whole : Needs) → IsWithin (needs c) whole → IsWithin (needs (statement r e c)) whole
statement_needs false e c whole h = h
statement_needs true e c whole h = returned_needs (fixed_return e) c whole h

last_needs : (within : Enclosing) (r : Bool) (e : ExprTree) (c : CoreTree) (whole : Needs) → IsWithin (needs c) whole → IsWithin (needs (last_statement within r e c)) whole
last_needs enclosing.Arm false e c whole h = h
last_needs enclosing.Arm true e c whole h = statement_needs true e c whole h
last_needs enclosing.Block false e c whole h = h
last_needs enclosing.Block true e c whole h = statement_needs true e c whole h
last_needs enclosing.Method false e c whole h =
    let here : (needs c).here ≤ max whole.here 1 = h.0 in let inside : (needs c).inside ≤ whole.inside = h.1 in (omega arith, omega arith)
last_needs enclosing.Method true e c whole h = statement_needs true e c whole h
last_needs enclosing.DoIt false e c whole h = h
last_needs enclosing.DoIt true e c whole h = h

empty_needs : (within : Enclosing) → IsWithin (needs (empty_body within)) (at_least 0)
empty_needs enclosing.Arm = (omega arith, omega arith)
empty_needs enclosing.Block = (omega arith, omega arith)
empty_needs enclosing.Method = (omega arith, omega arith)
empty_needs enclosing.DoIt = (omega arith, omega arith)

both_within : (a b first second : Needs) → IsWithin a first → IsWithin b second → IsWithin (greatest a b) (greatest first second)
both_within a b first second h g =
    let here : a.here ≤ max first.here 1 = h.0 in
    let inside : a.inside ≤ first.inside = h.1 in
    let other : b.here ≤ max second.here 1 = g.0 in
    let within : b.inside ≤ second.inside = g.1 in
    (omega arith, omega arith)

left_within : (a first second : Needs) → IsWithin a first → IsWithin a (greatest first second)
left_within a first second h = let here : a.here ≤ max first.here 1 = h.0 in let inside : a.inside ≤ first.inside = h.1 in (omega arith, omega arith)

right_within : (a first second : Needs) → IsWithin a second → IsWithin a (greatest first second)
right_within a first second h = let here : a.here ≤ max second.here 1 = h.0 in let inside : a.inside ≤ second.inside = h.1 in (omega arith, omega arith)

block_within : (n : ℕ) (a whole : Needs) → IsWithin a whole → IsWithin (tree.real_block n a) (tree.real_block n whole)
block_within n a whole h = let here : a.here ≤ max whole.here 1 = h.0 in let inside : a.inside ≤ whole.inside = h.1 in (omega arith, omega arith)

-- ---- messages

all_grow : (n : ℕ) (es : CoreTrees) → ((needs_all n es).here ≤ (needs_all (n + 1) es).here) × ((needs_all n es).inside ≤ (needs_all (n + 1) es).inside)
all_grow n no_cores = (omega arith, omega arith)
all_grow n (cores c cs) = let rest = all_grow (n + 1) cs in (omega (arith, rest.0), omega (arith, rest.1))

-- the arms, each of them
abbrev AreArmsWithin : CoreTrees → Needs → Type 0
AreArmsWithin no_cores whole = Unit {0}
AreArmsWithin (cores c cs) whole = IsWithin (needs c) whole × AreArmsWithin cs whole

one_within : (whole : Needs) → IsWithin (at_least 1) whole
one_within whole = (omega arith, omega arith)

first_needs : (arms : CoreTrees) (whole : Needs) → AreArmsWithin arms whole → IsWithin (needs (first_of arms)) whole
first_needs no_cores whole h = one_within whole
first_needs (cores c cs) whole h = h.0

second_needs : (arms : CoreTrees) (whole : Needs) → AreArmsWithin arms whole → IsWithin (needs (second_of arms)) whole
second_needs no_cores whole h = one_within whole
second_needs (cores c cs) whole h = first_needs cs whole h.1

arms_looser : (arms : CoreTrees) (first second : Needs) → AreArmsWithin arms second → AreArmsWithin arms (greatest first second)
arms_looser no_cores first second h = tt
arms_looser (cores c cs) first second h = (right_within (needs c) first second h.0, arms_looser cs first second h.1)

-- one arm, or two
arm_needed : (r c : CoreTree) (receiver arms : Needs) (below : ℕ) → IsWithin (needs r) receiver → IsWithin (needs c) arms
    → IsWithin (greatest (needs r) (greatest (needs c) (at_least 1))) (greatest receiver (greatest arms (at_least below)))
arm_needed r c receiver arms below h g =
    both_within (needs r) (greatest (needs c) (at_least 1)) receiver (greatest arms (at_least below)) h
    (both_within (needs c) (at_least 1) arms (at_least below) g (one_within (at_least below)))

arms_needed : (r a b : CoreTree) (receiver arms : Needs) (below : ℕ) → IsWithin (needs r) receiver → IsWithin (needs a) arms → IsWithin (needs b) arms
    → IsWithin (greatest (needs r) (greatest (needs a) (needs b))) (greatest receiver (greatest arms (at_least below)))
arms_needed r a b receiver arms below h g k =
    let here : (needs r).here ≤ max receiver.here 1 = h.0 in
    let inside : (needs r).inside ≤ receiver.inside = h.1 in
    let first : (needs a).here ≤ max arms.here 1 = g.0 in
    let first_inside : (needs a).inside ≤ arms.inside = g.1 in
    let second : (needs b).here ≤ max arms.here 1 = k.0 in
    let second_inside : (needs b).inside ≤ arms.inside = k.1 in
    (omega arith, omega arith)

sent_needed : (n : ℕ) (r : CoreTree) (es : CoreTrees) (receiver arguments : Needs) → 1 ≤ n → IsWithin (needs r) receiver → AreWithin n es arguments
    → IsWithin (greatest (needs r) (needs_all n es)) (greatest receiver (greatest arguments (at_least n)))
sent_needed n r es receiver arguments one h g =
    let here : (needs r).here ≤ max receiver.here 1 = h.0 in
    let inside : (needs r).inside ≤ receiver.inside = h.1 in
    let all : (needs_all n es).here ≤ max arguments.here n = g.0 in
    let all_inside : (needs_all n es).inside ≤ arguments.inside = g.1 in
    (omega arith, omega arith)

cascade_needed : (r : CoreTree) (s : List ℕ) (es : CoreTrees) (more : SendTrees) (receiver arguments others : Needs) → IsWithin (needs r) receiver → AreWithin 2 es arguments → IsWithin (needs_sends more) others
    → IsWithin (greatest (needs r) (needs_sends (sends s es more))) (greatest (greatest receiver (greatest arguments (at_least 2))) others)
cascade_needed r s es no_sends receiver arguments others h g k =
    let here : (needs r).here ≤ max receiver.here 1 = h.0 in
    let inside : (needs r).inside ≤ receiver.inside = h.1 in
    let all : (needs_all 2 es).here ≤ max arguments.here 2 = g.0 in
    let all_inside : (needs_all 2 es).inside ≤ arguments.inside = g.1 in
    let fewer : (needs_all 1 es).here ≤ (needs_all 2 es).here = (all_grow 1 es).0 in
    let fewer_inside : (needs_all 1 es).inside ≤ (needs_all 2 es).inside = (all_grow 1 es).1 in
    (omega arith, omega arith)
cascade_needed r s es (sends t fs ms) receiver arguments others h g k =
    let here : (needs r).here ≤ max receiver.here 1 = h.0 in
    let inside : (needs r).inside ≤ receiver.inside = h.1 in
    let all : (needs_all 2 es).here ≤ max arguments.here 2 = g.0 in
    let all_inside : (needs_all 2 es).inside ≤ arguments.inside = g.1 in
    let rest : (needs_sends (sends t fs ms)).here ≤ max others.here 1 = k.0 in
    let rest_inside : (needs_sends (sends t fs ms)).inside ≤ others.inside = k.1 in
    (omega arith, omega arith)

-- the last message of a chain
message_needs : (last : Ending) (r : CoreTree) (to_super : Bool) (s : List ℕ) (es arms : CoreTrees) (more : SendTrees) (t : List ℕ) (fs : ExprTrees) (receiver others : Needs)
    → IsWithin (needs r) receiver → ((n : ℕ) → AreWithin n es (arguments_needs n fs)) → AreArmsWithin arms (arms_needs fs) → IsWithin (needs_sends more) others
    → IsWithin (needs (last_core last r to_super s es arms more)) (greatest (greatest receiver (messages_needs Sent last (messages t fs no_messages))) others)
message_needs Sent r to_super s es arms more t fs receiver others h all taken k =
    left_within (greatest (needs r) (needs_all 1 es)) (greatest receiver (greatest (arguments_needs 1 fs) (at_least 1))) others (sent_needed 1 r es receiver (arguments_needs 1 fs) (omega arith) h (all 1))
message_needs Cascaded r to_super s es arms more t fs receiver others h all taken k = cascade_needed r s es more receiver (arguments_needs 2 fs) others h (all 2) k
message_needs (TwoArms on) r to_super s es arms more t fs receiver others h all taken k =
    left_within (greatest (needs r) (greatest (needs (first_of arms)) (needs (second_of arms)))) (greatest receiver (greatest (arms_needs fs) (at_least 1))) others
    (arms_needed r (first_of arms) (second_of arms) receiver (arms_needs fs) 1 h (first_needs arms (arms_needs fs) taken) (second_needs arms (arms_needs fs) taken))
message_needs (OneArm on) r to_super s es arms more t fs receiver others h all taken k =
    left_within (greatest (needs r) (greatest (needs (first_of arms)) (at_least 1))) (greatest receiver (greatest (arms_needs fs) (at_least 1))) others
    (arm_needed r (first_of arms) receiver (arms_needs fs) 1 h (first_needs arms (arms_needs fs) taken))
message_needs (Shortcut on) r to_super s es arms more t fs receiver others h all taken k =
    left_within (greatest (needs r) (greatest (needs (first_of arms)) (at_least 1))) (greatest receiver (greatest (arms_needs fs) (at_least 1))) others
    (arm_needed r (first_of arms) receiver (arms_needs fs) 1 h (first_needs arms (arms_needs fs) taken))
message_needs (Loop on) r to_super s es arms more t fs receiver others h all taken k =
    left_within (greatest (needs r) (greatest (needs (first_of arms)) (at_least 1))) (greatest receiver (greatest (arms_needs fs) (at_least 1))) others
    (arm_needed r (first_of arms) receiver (arms_needs fs) 1 h (first_needs arms (arms_needs fs) taken))

-- a message that others follow is part of the receiver
regrouped : (a receiver here rest others : Needs) → IsWithin a (greatest (greatest (greatest receiver here) rest) others) → IsWithin a (greatest (greatest receiver (greatest here rest)) others)
regrouped a receiver here rest others h =
    let least : a.here ≤ max (max (max (max receiver.here here.here) rest.here) others.here) 1 = h.0 in
    let inside : a.inside ≤ max (max (max receiver.inside here.inside) rest.inside) others.inside = h.1 in
    (omega arith, omega arith)

module _ (meaning : NameAt → WhereTree) where
  assigned_needs : (targets : List NameAt) (c : CoreTree) (whole : Needs) → IsWithin (needs c) whole → IsWithin (needs (assigned meaning targets c)) whole
  assigned_needs [] c whole h = h
  assigned_needs (n ∷ ns) c whole h = assigned_needs ns c whole h

  mutual
    expr_within : (k : ℕ) (e : ExprTree) → IsWithin (needs (expr_core meaning k e)) (expr_needs e)
    expr_within k (expr targets p ms cs) =
        assigned_needs targets (chain_core meaning (receiver_core meaning (is_loop (ending p ms cs)) k p) (is_super p) (ending p ms cs) (k + primary_parameters p) (sends_core meaning (k + primary_parameters p + messages_parameters ms) cs) ms)
        (expr_needs (expr targets p ms cs))
        (chain_within (receiver_core meaning (is_loop (ending p ms cs)) k p) (is_super p) (ending p ms cs) (k + primary_parameters p) (sends_core meaning (k + primary_parameters p + messages_parameters ms) cs) ms
        (receiver_needs (is_loop (ending p ms cs)) p) (messages_needs Cascaded Sent cs)
        (receiver_within (is_loop (ending p ms cs)) k p) (sends_within (k + primary_parameters p + messages_parameters ms) cs))

    receiver_within : (looped : Bool) (k : ℕ) (p : PrimaryTree) → IsWithin (needs (receiver_core meaning looped k p)) (receiver_needs looped p)
    receiver_within looped k (name n) = (omega arith, omega arith)
    receiver_within looped k (literal v) = (omega arith, omega arith)
    receiver_within looped k (paren e) = expr_within k e
    receiver_within true k (block ps ss) = body_within enclosing.Arm k ss
    receiver_within false k (block ps ss) = block_within (length ps) (needs (body_core meaning enclosing.Block (k + length ps) ss)) (body_needs ss) (body_within enclosing.Block (k + length ps) ss)

    chain_within : (r : CoreTree) (to_super : Bool) (last : Ending) (k : ℕ) (more : SendTrees) (ms : MessageTrees) (receiver others : Needs)
        → IsWithin (needs r) receiver → IsWithin (needs_sends more) others → IsWithin (needs (chain_core meaning r to_super last k more ms)) (greatest (greatest receiver (messages_needs Sent last ms)) others)
    chain_within r to_super last k more no_messages receiver others h g = left_within (needs r) (greatest receiver (at_least 0)) others (left_within (needs r) receiver (at_least 0) h)
    chain_within r to_super last k more (messages s es no_messages) receiver others h g =
        message_needs last r to_super s (exprs_core meaning k es) (arms_core meaning k es) more s es receiver others h (λ n. exprs_within n k es) (arms_within k es) g
    chain_within r to_super last k more (messages s es (messages t fs ms)) receiver others h g =
        regrouped (needs (chain_core meaning (send r to_super s (exprs_core meaning k es)) false last (k + exprs_parameters es) more (messages t fs ms)))
        receiver (greatest (arguments_needs 1 es) (at_least 1)) (messages_needs Sent last (messages t fs ms)) others
        (chain_within (send r to_super s (exprs_core meaning k es)) false last (k + exprs_parameters es) more (messages t fs ms) (greatest receiver (greatest (arguments_needs 1 es) (at_least 1))) others
        (sent_needed 1 r (exprs_core meaning k es) receiver (arguments_needs 1 es) (omega arith) h (exprs_within 1 k es)) g)

    sends_within : (k : ℕ) (ms : MessageTrees) → IsWithin (needs_sends (sends_core meaning k ms)) (messages_needs Cascaded Sent ms)
    sends_within k no_messages = (omega arith, omega arith)
    sends_within k (messages s es no_messages) = let all = exprs_within 1 k es in (omega (arith, all.0), omega (arith, all.1))
    sends_within k (messages s es (messages t fs ms)) =
        let all = exprs_within 2 k es in
        let rest = sends_within (k + exprs_parameters es) (messages t fs ms) in
        (omega (arith, all.0, rest.0), omega (arith, all.1, rest.1))

    exprs_within : (n k : ℕ) (es : ExprTrees) → AreWithin n (exprs_core meaning k es) (arguments_needs n es)
    exprs_within n k no_exprs = (omega arith, omega arith)
    exprs_within n k (exprs e es) =
        let one = expr_within k e in
        let rest = exprs_within (n + 1) (k + expr_parameters e) es in
        (omega (arith, one.0, rest.0, expr_positive e), omega (arith, one.1, rest.1))

    arms_within : (k : ℕ) (es : ExprTrees) → AreArmsWithin (arms_core meaning k es) (arms_needs es)
    arms_within k no_exprs = tt
    arms_within k (exprs e es) = (
      left_within (needs (arm_core meaning k e)) (arm_needs e) (arms_needs es) (arm_within k e),
      arms_looser (arms_core meaning (k + expr_parameters e) es) (arm_needs e) (arms_needs es) (arms_within (k + expr_parameters e) es),
    )

    arm_within : (k : ℕ) (e : ExprTree) → IsWithin (needs (arm_core meaning k e)) (arm_needs e)
    arm_within k (expr targets (block ps ss) ms cs) = body_within enclosing.Arm k ss
    arm_within k (expr targets (name n) ms cs) = one_within (at_least 0)
    arm_within k (expr targets (literal v) ms cs) = one_within (at_least 0)
    arm_within k (expr targets (paren e) ms cs) = one_within (at_least 0)

    body_within : (within : Enclosing) (k : ℕ) (ss : BodyTree) → IsWithin (needs (body_core meaning within k ss)) (body_needs ss)
    body_within within k no_stmts = empty_needs within
    body_within within k (stmts r e no_stmts) =
        left_within (needs (last_statement within r e (expr_core meaning k e))) (expr_needs e) (at_least 0) (last_needs within r e (expr_core meaning k e) (expr_needs e) (expr_within k e))
    body_within within k (stmts r e (stmts q f ss)) =
        both_within (needs (statement r e (expr_core meaning k e))) (needs (body_core meaning within (k + expr_parameters e) (stmts q f ss))) (expr_needs e) (body_needs (stmts q f ss))
        (statement_needs r e (expr_core meaning k e) (expr_needs e) (expr_within k e)) (body_within within (k + expr_parameters e) (stmts q f ss))

-- a method needs one value at least, or nothing at all
home_here : (meaning : NameAt → WhereTree) (selector : List ℕ) (k : ℕ) (ss : BodyTree) → (needs (body_core meaning (method_end selector) k ss)).here ≤ (body_needs ss).here
home_here meaning [] k no_stmts = omega arith
home_here meaning (b ∷ bs) k no_stmts = omega arith
home_here meaning selector k (stmts r e ss) = omega (arith, (body_within meaning (method_end selector) k (stmts r e ss)).0, expr_positive e)

pub home_needs : (m : MethodParts) (shape : Shape) → (needs (elaborated m shape)).here ≤ (body_needs m.body).here
home_needs m shape = home_here (means m shape) m.selector (length m.parameters + length m.temporaries) m.body

pub blocks_need : (m : MethodParts) (shape : Shape) → (needs (elaborated m shape)).inside ≤ (body_needs m.body).inside
blocks_need m shape = (body_within (means m shape) (method_end m.selector) (length m.parameters + length m.temporaries) m.body).1
