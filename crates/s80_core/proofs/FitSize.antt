-- A core tree takes no more bytes than its tree weighs, but for one for each three parameters and one at the end.
use Rattle.std.proofs.Common.{◌≡◌, ℕ, suc, ◌+◌, ◌*◌, ◌≤◌, List, [], ◌∷◌, Bool, true, false, ◌&&◌, ◌||◌, length, Option, Some, None, is_some, refl, ap, sym, true≢false, arith, if◌then◌else◌}
use Rattle.std.specs.Option.{option_map, option_map_or}
use Rattle.std.specs.Str.{bytes_eq}
use Rattle.std.proofs.lemmas.Bool.Decides.{nat_tests}
use Rattle.s80_tree.specs.declared.name.NameAt.{NameAt}
use Rattle.s80_tree.specs.Tree.{ExprTree, PrimaryTree, ExprTrees, MessageTrees, BodyTree, MethodParts, expr, name, literal, block, paren, no_exprs, exprs, no_messages, messages, no_stmts, stmts, is_super, is_bare}
use Rattle.s80_syntax.specs.Word.{has_name}
use Rattle.s80_scope.specs.Inlined.{ending, is_loop, is_arm, are_arms, is_inlined}
use Rattle.s80_scope.specs.FitStack.{expr_parameters, primary_parameters, messages_parameters, exprs_parameters, body_parameters}
use Rattle.s80_scope.specs.FitWeight.{short_returns, is_short, is_short_name, position_within, dropped, arm_leaves, statement_position, statement_weight, expr_weight, receiver_weight, messages_weight, arguments_weight, arms_weight, arm_weight, body_weight, method_leaves, weight}
use Rattle.s80_scope.specs.Names.{means}
use Rattle.s80_scope.specs.Shape.{WhereTree}
use Rattle.s80_scope.specs.Walk.{last_has_arms}
use Rattle.s80_scope.specs.declared.shape.Shape.{Shape}
use Rattle.s80_scope.specs.declared.fit.ending.Ending.{Ending}
use Rattle.s80_scope.specs.declared.fit.ending.Ending.TheVariants.{Sent, Cascaded, TwoArms, OneArm, Shortcut, Loop}
use Rattle.s80_scope.specs.declared.fit.position.Position.{Position}
use Rattle.s80_scope.specs.declared.fit.position.Position.TheVariants.{Value, Effect}
use Rattle.s80_scope.specs.declared.fit.position.Leaves.{Leaves}
use Rattle.s80_scope.specs.declared.fit.position.Leaves.TheVariants as leaves
use Rattle.s80_scope.proofs.lemmas.Counted.{IsMore, arm_block, first_arm, other_arms}
use Rattle.s80_scope.proofs.lemmas.Endings.{ending_arms}
use Rattle.s80_core.specs.declared.elaboration.Enclosing.{Enclosing}
use Rattle.s80_core.specs.declared.elaboration.Enclosing.TheVariants as enclosing
use Rattle.s80_core.specs.Arms.{arguments_of, arms_wanted, LastHasArms, ExprHasArms, PrimaryHasArms, ExprsHaveArms, MessagesHaveArms, BodyHasArms, HaveArms}
use Rattle.s80_core.specs.Core.{CoreTree, CoreTrees, SendTrees, send, answer, answer_fixed, no_sends, sends}
use Rattle.s80_core.specs.Elaborate.{assigned, first_of, second_of, last_core, place_in, fixed_primary, fixed_return, statement, last_statement, empty_body, expr_core, receiver_core, chain_core, sends_core, exprs_core, arms_core, arm_core, body_core, method_end, elaborated}
use Rattle.s80_core.specs.Measures.{popped, count_width, size, size_all, size_sends}

-- so many bytes are within a weight and a third of the parameters
abbrev IsWithin : ℕ → ℕ → ℕ → Type 0
IsWithin bytes weighed parameters = 3 * bytes ≤ 3 * weighed + parameters

-- ---- what is returned by one instruction

place_there : (ns : List (List ℕ)) (word : List ℕ) → has_name ns word ≡ is_some (place_in ns word)
place_there [] word = refl
place_there (n ∷ ns) word = by_test (bytes_eq word n) (has_name ns word) (place_in ns word) (place_there ns word)
  where
    by_test : (b h : Bool) (o : Option ℕ) → h ≡ is_some o → (b || h) ≡ is_some (if b then Some 0 else option_map suc o)
    by_test true h o is = refl
    by_test false h None is = is
    by_test false h (Some i) is = is

short_there : (p : PrimaryTree) → is_short_name p ≡ is_some (fixed_primary p)
short_there (name n) = place_there short_returns n.name
short_there (literal v) = refl
short_there (block ps ss) = refl
short_there (paren e) = refl

short_is : (e : ExprTree) → is_short e ≡ is_some (fixed_return e)
short_is (expr targets p ms cs) = by_test (is_bare (expr targets p ms cs)) (is_short_name p) (fixed_primary p) (short_there p)
  where
    by_test : (b h : Bool) (o : Option ℕ) → h ≡ is_some o → (b && h) ≡ is_some (if b then o else None)
    by_test true h o is = is
    by_test false h o is = refl

returned_size : (p : Position) (e : ExprTree) (c : CoreTree) (w k : ℕ) → IsWithin (size Value c) w k
    → IsWithin (size p (option_map_or answer_fixed (fixed_return e) (answer c))) (if is_short e then 1 else w + 1) k
returned_size p e c w k h = by_test (is_short e) (fixed_return e) (short_is e)
  where
    by_test : (b : Bool) (o : Option ℕ) → b ≡ is_some o → IsWithin (size p (option_map_or answer_fixed o (answer c))) (if b then 1 else w + 1) k
    by_test true None is = absurd (true≢false is)
    by_test true (Some i) is = omega arith
    by_test false None is = omega arith
    by_test false (Some i) is = omega arith

statement_size : (e : ExprTree) (r : Bool) (c : CoreTree) (k : ℕ) → ((p : Position) → IsWithin (size p c) (expr_weight p e) k)
    → IsWithin (size Effect (statement r e c)) (statement_weight leaves.Nothing r e (expr_weight (statement_position leaves.Nothing r) e)) k
statement_size e false c k h = h Effect
statement_size e true c k h = returned_size Effect e c (expr_weight Value e) k (h Value)

-- ---- the ends of bodies

abbrev what_is_left : Enclosing → Position → Leaves
what_is_left enclosing.Arm p = arm_leaves p
what_is_left enclosing.Block p = leaves.Value
what_is_left enclosing.Method p = leaves.Nothing
what_is_left enclosing.DoIt p = leaves.Answer

-- thrice the bytes that the end of a body takes
abbrev end_width : Enclosing → ℕ
end_width enclosing.Arm = 0
end_width _ = 3

last_size : (within : Enclosing) (p : Position) (r : Bool) (e : ExprTree) (c : CoreTree) (k : ℕ) → ((q : Position) → IsWithin (size q c) (expr_weight q e) k)
    → IsWithin (size p (last_statement within r e c)) (statement_weight (what_is_left within p) r e (expr_weight (statement_position (what_is_left within p) r) e)) (k + end_width within)
last_size enclosing.Arm Value false e c k h = omega (arith, h Value)
last_size enclosing.Arm Effect false e c k h = omega (arith, h Effect)
last_size enclosing.Arm Value true e c k h = omega (arith, returned_size Value e c (expr_weight Value e) k (h Value))
last_size enclosing.Arm Effect true e c k h = omega (arith, returned_size Effect e c (expr_weight Value e) k (h Value))
last_size enclosing.Block p false e c k h = omega (arith, h Value)
last_size enclosing.Block p true e c k h = omega (arith, returned_size p e c (expr_weight Value e) k (h Value))
last_size enclosing.Method p false e c k h = omega (arith, h Effect)
last_size enclosing.Method p true e c k h = omega (arith, returned_size p e c (expr_weight Value e) k (h Value))
last_size enclosing.DoIt p false e c k h = omega (arith, h Value)
last_size enclosing.DoIt p true e c k h = omega (arith, h Value)

empty_size : (within : Enclosing) (p : Position) → IsWithin (size p (empty_body within)) (body_weight (what_is_left within p) no_stmts) (0 + end_width within)
empty_size enclosing.Arm Value = omega arith
empty_size enclosing.Arm Effect = omega arith
empty_size enclosing.Block p = omega arith
empty_size enclosing.Method p = omega arith
empty_size enclosing.DoIt p = omega arith

-- ---- parts

count_fits : (n : ℕ) → 3 * count_width n ≤ 3 + n
count_fits n = grind (arith, nat_tests)

block_size : (p : Position) (first n : ℕ) (e : CoreTree) (w k : ℕ) → IsWithin (size Effect e) w (k + 3)
    → IsWithin (4 + count_width n + 2 * n + size Effect e + popped p) (w + (1 + 2 + 1 + 2) + 2 * n + popped p) (k + n)
block_size p first n e w k h = omega (arith, count_fits n)

value_within : (targets : List NameAt) → position_within targets Value ≡ Value
value_within [] = refl
value_within (n ∷ ns) = refl

-- ---- arms

-- the arms of a message: one or two of them are taken
abbrev AreArmsWithin : Position → CoreTrees → ExprTrees → Type 0
AreArmsWithin p arms es =
    (1 ≤ arguments_of es → IsWithin (size p (first_of arms)) (arms_weight p es) (exprs_parameters es))
    × (2 ≤ arguments_of es → IsWithin (size p (first_of arms) + size p (second_of arms)) (arms_weight p es) (exprs_parameters es))

-- the last message of a chain
message_size : (p : Position) (last : Ending) (r : CoreTree) (to_super : Bool) (s : List ℕ) (es arms : CoreTrees) (more : SendTrees) (t : List ℕ) (fs : ExprTrees)
    → arms_wanted last ≤ arguments_of fs → IsWithin (size_all es) (arguments_weight fs) (exprs_parameters fs) → (is_inlined last ≡ true → (q : Position) → AreArmsWithin q arms fs)
    → 3 * size p (last_core last r to_super s es arms more)
    ≤ 3 * size Value r + 3 * (messages_weight p Sent last (messages t fs no_messages) + dropped p last) + exprs_parameters fs + 3 * size_sends more
message_size Value Sent r to_super s es arms more t fs wanted all taken = omega arith
message_size Effect Sent r to_super s es arms more t fs wanted all taken = omega arith
message_size Value Cascaded r to_super s es arms no_sends t fs wanted all taken = omega arith
message_size Effect Cascaded r to_super s es arms no_sends t fs wanted all taken = omega arith
message_size Value Cascaded r to_super s es arms (sends u gs ms) t fs wanted all taken = omega arith
message_size Effect Cascaded r to_super s es arms (sends u gs ms) t fs wanted all taken = omega arith
message_size Value (TwoArms on) r to_super s es arms more t fs wanted all taken = omega (arith, (taken refl Value).1 wanted)
message_size Effect (TwoArms on) r to_super s es arms more t fs wanted all taken = omega (arith, (taken refl Effect).1 wanted)
message_size Value (OneArm on) r to_super s es arms more t fs wanted all taken = omega (arith, (taken refl Value).0 wanted)
message_size Effect (OneArm on) r to_super s es arms more t fs wanted all taken = omega (arith, (taken refl Effect).0 wanted)
message_size Value (Shortcut on) r to_super s es arms more t fs wanted all taken = omega (arith, (taken refl Value).0 wanted)
message_size Effect (Shortcut on) r to_super s es arms more t fs wanted all taken = omega (arith, (taken refl Value).0 wanted)
message_size Value (Loop on) r to_super s es arms more t fs wanted all taken = omega (arith, (taken refl Effect).0 wanted)
message_size Effect (Loop on) r to_super s es arms more t fs wanted all taken = omega (arith, (taken refl Effect).0 wanted)

dropped_sent : (p : Position) → dropped p Sent ≡ popped p
dropped_sent Value = refl
dropped_sent Effect = refl

dropped_cascaded : (p : Position) → dropped p Cascaded ≡ popped p
dropped_cascaded Value = refl
dropped_cascaded Effect = refl

module _ (meaning : NameAt → WhereTree) where
  assigned_size : (p : Position) (targets : List NameAt) (c : CoreTree) → size p (assigned meaning targets c) ≤ size (position_within targets p) c + 2 * length targets
  assigned_size p [] c = omega arith
  assigned_size p (n ∷ ns) c = omega (arith, assigned_size Value ns c, ap (λ q. size q c) (value_within ns))

  mutual
    expr_size : (p : Position) (k : ℕ) (e : ExprTree) → ExprHasArms e → IsWithin (size p (expr_core meaning k e)) (expr_weight p e) (expr_parameters e)
    expr_size p k (expr targets q no_messages no_messages) h =
        omega (arith, assigned_size p targets (receiver_core meaning false k q), primary_size (position_within targets p) k q h.1.0, dropped_sent (position_within targets p))
    expr_size p k (expr targets q no_messages (messages s es cs)) h =
        omega (arith, assigned_size p targets (receiver_core meaning false k q), primary_size (position_within targets p) k q h.1.0, dropped_cascaded (position_within targets p))
    expr_size p k (expr targets q (messages s es ms) cs) h =
        omega (
          arith,
          assigned_size p targets (chain_core meaning (receiver_core meaning (is_loop (ending q (messages s es ms) cs)) k q) (is_super q) (ending q (messages s es ms) cs) (k + primary_parameters q) (sends_core meaning (k + primary_parameters q + messages_parameters (messages s es ms)) cs) (messages s es ms)),
          chain_size (position_within targets p) (receiver_core meaning (is_loop (ending q (messages s es ms) cs)) k q) (is_super q) (ending q (messages s es ms) cs) (k + primary_parameters q)
              (sends_core meaning (k + primary_parameters q + messages_parameters (messages s es ms)) cs) (messages s es ms) tt h.0 h.1.1.0 (ending_arms q (messages s es ms) cs),
          receiver_size (is_loop (ending q (messages s es ms) cs)) k q h.1.0,
          sends_size (k + primary_parameters q + messages_parameters (messages s es ms)) cs h.1.1.1,
        )

    -- a receiver that is all of its expression, and one with messages, which may be the condition of a loop
    primary_size : (p : Position) (k : ℕ) (q : PrimaryTree) → PrimaryHasArms q → IsWithin (size p (receiver_core meaning false k q)) (receiver_weight false q + popped p) (primary_parameters q)
    primary_size p k (name n) h = omega arith
    primary_size p k (literal v) h = omega arith
    primary_size p k (paren e) h = omega (arith, expr_size Value k e h)
    primary_size p k (block ps ss) h =
        block_size p k (length ps) (body_core meaning enclosing.Block (k + length ps) ss) (body_weight leaves.Value ss) (body_parameters ss) (body_size enclosing.Block Effect (k + length ps) ss h)

    receiver_size : (looped : Bool) (k : ℕ) (q : PrimaryTree) → PrimaryHasArms q → IsWithin (size Value (receiver_core meaning looped k q)) (receiver_weight looped q) (primary_parameters q)
    receiver_size looped k (name n) h = omega arith
    receiver_size looped k (literal v) h = omega arith
    receiver_size looped k (paren e) h = omega (arith, expr_size Value k e h)
    receiver_size true k (block ps ss) h = omega (arith, body_size enclosing.Arm Value k ss h)
    receiver_size false k (block ps ss) h =
        omega (arith, block_size Value k (length ps) (body_core meaning enclosing.Block (k + length ps) ss) (body_weight leaves.Value ss) (body_parameters ss) (body_size enclosing.Block Effect (k + length ps) ss h))

    chain_size : (p : Position) (r : CoreTree) (to_super : Bool) (last : Ending) (k : ℕ) (more : SendTrees) (ms : MessageTrees)
        → IsMore ms → LastHasArms last ms → MessagesHaveArms ms → (is_inlined last ≡ true → last_has_arms ms ≡ true)
        → 3 * size p (chain_core meaning r to_super last k more ms) ≤ 3 * size Value r + 3 * (messages_weight p Sent last ms + dropped p last) + messages_parameters ms + 3 * size_sends more
    chain_size p r to_super last k more no_messages is wanted h arms = absurd is
    chain_size p r to_super last k more (messages s es no_messages) is wanted h arms =
        omega (arith, message_size p last r to_super s (exprs_core meaning k es) (arms_core meaning k es) more s es wanted (exprs_size k es h.0) (λ inlined q. arms_size q k es (arms inlined) h.0))
    chain_size p r to_super last k more (messages s es (messages t fs ms)) is wanted h arms =
        omega (arith, chain_size p (send r to_super s (exprs_core meaning k es)) false last (k + exprs_parameters es) more (messages t fs ms) tt wanted h.1 arms, exprs_size k es h.0)

    sends_size : (k : ℕ) (ms : MessageTrees) → MessagesHaveArms ms → IsWithin (size_sends (sends_core meaning k ms)) (messages_weight Value Cascaded Sent ms) (messages_parameters ms)
    sends_size k no_messages h = omega arith
    sends_size k (messages s es no_messages) h = omega (arith, exprs_size k es h.0)
    sends_size k (messages s es (messages t fs ms)) h = omega (arith, exprs_size k es h.0, sends_size (k + exprs_parameters es) (messages t fs ms) h.1)

    exprs_size : (k : ℕ) (es : ExprTrees) → ExprsHaveArms es → IsWithin (size_all (exprs_core meaning k es)) (arguments_weight es) (exprs_parameters es)
    exprs_size k no_exprs h = omega arith
    exprs_size k (exprs e es) h = omega (arith, expr_size Value k e h.0, exprs_size (k + expr_parameters e) es h.1)

    arms_size : (p : Position) (k : ℕ) (es : ExprTrees) → are_arms es ≡ true → ExprsHaveArms es → AreArmsWithin p (arms_core meaning k es) es
    arms_size p k no_exprs arms h = (λ one. absurd (omega (arith, one)), λ two. absurd (omega (arith, two)))
    arms_size p k (exprs e es) arms h =
        let first = arm_size p k e (first_arm e es arms) h.0 in
        (λ one. omega (arith, first), λ two. let others : 1 ≤ arguments_of es = omega (arith, two) in omega (arith, first, (arms_size p (k + expr_parameters e) es (other_arms e es arms) h.1).0 others))

    arm_size : (p : Position) (k : ℕ) (e : ExprTree) → is_arm e ≡ true → ExprHasArms e → IsWithin (size p (arm_core meaning k e)) (arm_weight p e) (expr_parameters e)
    arm_size p k (expr targets (block ps ss) ms cs) arm h = omega (arith, body_size enclosing.Arm p k ss h.1.0)
    arm_size p k (expr targets (name n) ms cs) arm h = absurd (true≢false (sym (arm_block (expr targets (name n) ms cs) targets (name n) ms cs refl arm)))
    arm_size p k (expr targets (literal v) ms cs) arm h = absurd (true≢false (sym (arm_block (expr targets (literal v) ms cs) targets (literal v) ms cs refl arm)))
    arm_size p k (expr targets (paren e) ms cs) arm h = absurd (true≢false (sym (arm_block (expr targets (paren e) ms cs) targets (paren e) ms cs refl arm)))

    body_size : (within : Enclosing) (p : Position) (k : ℕ) (ss : BodyTree) → BodyHasArms ss
        → IsWithin (size p (body_core meaning within k ss)) (body_weight (what_is_left within p) ss) (body_parameters ss + end_width within)
    body_size within p k no_stmts h = empty_size within p
    body_size within p k (stmts r e no_stmts) h = omega (arith, last_size within p r e (expr_core meaning k e) (expr_parameters e) (λ q. expr_size q k e h.0))
    body_size within p k (stmts r e (stmts q f ss)) h =
        omega (arith, statement_size e r (expr_core meaning k e) (expr_parameters e) (λ o. expr_size o k e h.0), body_size within p (k + expr_parameters e) (stmts q f ss) h.1)

pub method_size : (m : MethodParts) (shape : Shape) → HaveArms m → 3 * size Effect (elaborated m shape) ≤ 3 * weight m + (body_parameters m.body + 3)
method_size m shape arms = by_selector m.selector
  where
    by_selector : (s : List ℕ) → 3 * size Effect (body_core (means m shape) (method_end s) (length m.parameters + length m.temporaries) m.body) ≤ 3 * body_weight (method_leaves s) m.body + (body_parameters m.body + 3)
    by_selector [] = body_size (means m shape) enclosing.DoIt Effect (length m.parameters + length m.temporaries) m.body arms
    by_selector (b ∷ bs) = body_size (means m shape) enclosing.Method Effect (length m.parameters + length m.temporaries) m.body arms
