-- The numbers of variables and of the parameters of blocks are in range.
use Rattle.std.proofs.Common.{◌≡◌, ℕ, suc, ◌+◌, ◌<◌, ◌≤◌, List, [], ◌∷◌, Bool, true, false, cond, length, find, Option, Some, None, refl, subst, arith, if◌then◌else◌}
use Rattle.std.specs.Option.{option_map, option_map_or}
use Rattle.std.specs.Str.{bytes_eq}
use Rattle.s80_tree.specs.declared.name.NameAt.{NameAt}
use Rattle.s80_tree.specs.Tree.{ExprTree, PrimaryTree, ExprTrees, MessageTrees, BodyTree, MethodParts, expr, name, literal, block, paren, no_exprs, exprs, no_messages, messages, no_stmts, stmts, is_super, is_bare}
use Rattle.s80_scope.specs.Inlined.{ending, is_loop}
use Rattle.s80_scope.specs.FitStack.{expr_parameters, primary_parameters, messages_parameters, exprs_parameters, body_parameters, temporaries}
use Rattle.s80_scope.specs.FitWeight.{short_returns}
use Rattle.s80_scope.specs.Names.{means, declares, declarations_of, last_place, reserved_meaning, reserved_meanings}
use Rattle.s80_scope.specs.Shape.{WhereTree, temp, inst, class_var, outer, self_ref, super_ref, context, constant}
use Rattle.s80_scope.specs.declared.shape.Binding.{Binding}
use Rattle.s80_scope.specs.declared.shape.Shape.{Shape}
use Rattle.s80_scope.specs.declared.fit.ending.Ending.{Ending}
use Rattle.s80_scope.specs.declared.fit.ending.Ending.TheVariants.{Sent, Cascaded, TwoArms, OneArm, Shortcut, Loop}
use Rattle.s80_scope.proofs.lemmas.Places.{last_place_below}
use Rattle.s80_core.specs.declared.elaboration.Enclosing.{Enclosing}
use Rattle.s80_core.specs.declared.elaboration.Enclosing.TheVariants as enclosing
use Rattle.s80_core.specs.Core.{CoreTree, CoreTrees, SendTrees, leaf, send, answer, answer_fixed, no_cores, cores}
use Rattle.s80_core.specs.Elaborate.{leaf_meant, assigned, target_meant, first_of, second_of, last_core, place_in, fixed_primary, fixed_return, statement, last_statement, empty_body, expr_core, receiver_core, chain_core, sends_core, exprs_core, arms_core, arm_core, body_core, method_end, elaborated}
use Rattle.s80_core.specs.Measures.{InRange, AreInRange, AllInRange, SendsInRange}
use Rattle.s80_core.proofs.Declared.{declared}

-- ---- what names mean

abbrev IsMeantInRange : ℕ → WhereTree → Type 0
IsMeantInRange t (temp number) = number < t
IsMeantInRange t (inst place) = place < 64
IsMeantInRange t _ = Unit {0}

leaf_in_range : (t : ℕ) (w : WhereTree) → IsMeantInRange t w → AreInRange t (leaf (leaf_meant w))
leaf_in_range t (temp number) h = h
leaf_in_range t (inst place) h = h
leaf_in_range t (class_var owner word) h = tt
leaf_in_range t (outer word) h = tt
leaf_in_range t self_ref h = tt
leaf_in_range t super_ref h = tt
leaf_in_range t context h = tt
leaf_in_range t (constant v) h = tt

target_in_range : (t : ℕ) (w : WhereTree) → IsMeantInRange t w → InRange t (target_meant w)
target_in_range t (temp number) h = h
target_in_range t (inst place) h = h
target_in_range t (class_var owner word) h = tt
target_in_range t (outer word) h = tt
target_in_range t self_ref h = omega arith
target_in_range t super_ref h = omega arith
target_in_range t context h = omega arith
target_in_range t (constant v) h = omega arith

abbrev IsIfMeant : ℕ → Option WhereTree → Type 0
IsIfMeant t None = Unit {0}
IsIfMeant t (Some w) = IsMeantInRange t w

abbrev AreMeant : ℕ → List (List ℕ × WhereTree) → Type 0
AreMeant t [] = Unit {0}
AreMeant t (r ∷ rs) = IsMeantInRange t r.1 × AreMeant t rs

found_in_range : (t : ℕ) (word : List ℕ) (rs : List (List ℕ × WhereTree)) → AreMeant t rs → IsIfMeant t (option_map (λ r. r.1) (find (λ r. bytes_eq word r.0) rs))
found_in_range t word [] h = tt
found_in_range t word (r ∷ rs) h = by_test (bytes_eq word r.0) (find (λ q. bytes_eq word q.0) rs) h.0 (found_in_range t word rs h.1)
  where
    by_test : (b : Bool) (more : Option (List ℕ × WhereTree)) → IsMeantInRange t r.1 → IsIfMeant t (option_map (λ q. q.1) more) → IsIfMeant t (option_map (λ q. q.1) (cond b (Some r) more))
    by_test true more here there = here
    by_test false more here there = there

reserved_in_range : (t : ℕ) (word : List ℕ) → IsIfMeant t (reserved_meaning word)
reserved_in_range t word = found_in_range t word reserved_meanings (tt, (tt, (tt, (tt, (tt, (tt, tt))))))

word_in_range : (t : ℕ) (word : List ℕ) (reserved : Option WhereTree) (number place : Option ℕ) (variable : Option Binding)
    → IsIfMeant t reserved → ((i : ℕ) → number ≡ Some i → i < t) → ((i : ℕ) → place ≡ Some i → i < 64)
    → IsMeantInRange t (option_map_or (λ meaning. meaning) reserved (option_map_or temp number (option_map_or inst place (option_map_or (λ b. class_var b.owner b.name) variable (outer word)))))
word_in_range t word (Some w) number place variable h below within = h
word_in_range t word None (Some i) place variable h below within = below i refl
word_in_range t word None None (Some i) variable h below within = within i refl
word_in_range t word None None None (Some b) h below within = tt
word_in_range t word None None None None h below within = tt

meant_in_range : (m : MethodParts) (shape : Shape) → length shape.inst_vars ≤ 64 → (n : NameAt) → IsMeantInRange (temporaries m) (means m shape n)
meant_in_range m shape few n =
    word_in_range (temporaries m) n.name (reserved_meaning n.name) (last_place (declares n) (declarations_of m)) (last_place (bytes_eq n.name) shape.inst_vars) (find (λ b. bytes_eq n.name b.name) shape.class_vars)
    (reserved_in_range (temporaries m) n.name)
    (λ i is. subst (λ k. i < k) (declared m) (last_place_below (declares n) (declarations_of m) i is))
    (λ i is. let below : i < length shape.inst_vars = last_place_below (bytes_eq n.name) shape.inst_vars i is in omega arith)

-- ---- what is returned

abbrev IsIfBelow : ℕ → Option ℕ → Type 0
IsIfBelow n None = Unit {0}
IsIfBelow n (Some i) = i < n

place_below : (ns : List (List ℕ)) (word : List ℕ) → IsIfBelow (length ns) (place_in ns word)
place_below [] word = tt
place_below (n ∷ ns) word = by_test (bytes_eq word n) (place_in ns word) (place_below ns word)
  where
    by_test : (b : Bool) (o : Option ℕ) → IsIfBelow (length ns) o → IsIfBelow (suc (length ns)) (if b then Some 0 else option_map suc o)
    by_test true o h = omega arith
    by_test false None h = tt
    by_test false (Some i) h = omega arith

fixed_below : (e : ExprTree) → IsIfBelow 4 (fixed_return e)
fixed_below (expr targets p ms cs) = by_test (is_bare (expr targets p ms cs)) (fixed_primary p) (primary_below p)
  where
    by_test : (b : Bool) (o : Option ℕ) → IsIfBelow 4 o → IsIfBelow 4 (if b then o else None)
    by_test true o h = h
    by_test false o h = tt

    primary_below : (q : PrimaryTree) → IsIfBelow 4 (fixed_primary q)
    primary_below (name n) = place_below short_returns n.name
    primary_below (literal v) = tt
    primary_below (block ps ss) = tt
    primary_below (paren e) = tt

returned_in_range : (t : ℕ) (o : Option ℕ) (c : CoreTree) → IsIfBelow 4 o → AreInRange t c → AreInRange t (option_map_or answer_fixed o (answer c))
returned_in_range t None c below h = h
returned_in_range t (Some i) c below h = omega arith

statement_in_range : (t : ℕ) (r : Bool) (e : ExprTree) (c : CoreTree) → AreInRange t c → AreInRange t (statement r e c)
statement_in_range t false e c h = h
statement_in_range t true e c h = returned_in_range t (fixed_return e) c (fixed_below e) h

last_in_range : (t : ℕ) (within : Enclosing) (r : Bool) (e : ExprTree) (c : CoreTree) → AreInRange t c → AreInRange t (last_statement within r e c)
last_in_range t enclosing.Arm false e c h = h
last_in_range t enclosing.Arm true e c h = statement_in_range t true e c h
last_in_range t enclosing.Block false e c h = h
last_in_range t enclosing.Block true e c h = statement_in_range t true e c h
last_in_range t enclosing.Method false e c h = (h, omega arith)
last_in_range t enclosing.Method true e c h = statement_in_range t true e c h
last_in_range t enclosing.DoIt false e c h = h
last_in_range t enclosing.DoIt true e c h = h

empty_in_range : (t : ℕ) (within : Enclosing) → AreInRange t (empty_body within)
empty_in_range t enclosing.Arm = tt
empty_in_range t enclosing.Block = tt
empty_in_range t enclosing.Method = omega arith
empty_in_range t enclosing.DoIt = omega arith

-- ---- messages

first_in_range : (t : ℕ) (arms : CoreTrees) → AllInRange t arms → AreInRange t (first_of arms)
first_in_range t no_cores h = tt
first_in_range t (cores c cs) h = h.0

second_in_range : (t : ℕ) (arms : CoreTrees) → AllInRange t arms → AreInRange t (second_of arms)
second_in_range t no_cores h = tt
second_in_range t (cores c cs) h = first_in_range t cs h.1

message_in_range : (t : ℕ) (last : Ending) (r : CoreTree) (to_super : Bool) (s : List ℕ) (es arms : CoreTrees) (more : SendTrees)
    → AreInRange t r → AllInRange t es → AllInRange t arms → SendsInRange t more → AreInRange t (last_core last r to_super s es arms more)
message_in_range t Sent r to_super s es arms more h all taken others = (h, all)
message_in_range t Cascaded r to_super s es arms more h all taken others = (h, (all, others))
message_in_range t (TwoArms on) r to_super s es arms more h all taken others = (h, (first_in_range t arms taken, second_in_range t arms taken))
message_in_range t (OneArm on) r to_super s es arms more h all taken others = (h, first_in_range t arms taken)
message_in_range t (Shortcut on) r to_super s es arms more h all taken others = (h, first_in_range t arms taken)
message_in_range t (Loop on) r to_super s es arms more h all taken others = (h, first_in_range t arms taken)

-- Each part has its declarations from a number on, and they are below that of all temporaries.
module _ (t : ℕ) (meaning : NameAt → WhereTree) (meant : (n : NameAt) → IsMeantInRange t (meaning n)) where
  assigned_in_range : (targets : List NameAt) (c : CoreTree) → AreInRange t c → AreInRange t (assigned meaning targets c)
  assigned_in_range [] c h = h
  assigned_in_range (n ∷ ns) c h = (target_in_range t (meaning n) (meant n), assigned_in_range ns c h)

  mutual
    expr_in_range : (k : ℕ) (e : ExprTree) → k + expr_parameters e ≤ t → AreInRange t (expr_core meaning k e)
    expr_in_range k (expr targets p ms cs) below =
        let within : k + (primary_parameters p + messages_parameters ms + messages_parameters cs) ≤ t = below in
        assigned_in_range targets (chain_core meaning (receiver_core meaning (is_loop (ending p ms cs)) k p) (is_super p) (ending p ms cs) (k + primary_parameters p) (sends_core meaning (k + primary_parameters p + messages_parameters ms) cs) ms)
        (chain_in_range (receiver_core meaning (is_loop (ending p ms cs)) k p) (is_super p) (ending p ms cs) (k + primary_parameters p) (sends_core meaning (k + primary_parameters p + messages_parameters ms) cs) ms (omega arith)
        (receiver_in_range (is_loop (ending p ms cs)) k p (omega arith)) (sends_in_range (k + primary_parameters p + messages_parameters ms) cs (omega arith)))

    receiver_in_range : (looped : Bool) (k : ℕ) (p : PrimaryTree) → k + primary_parameters p ≤ t → AreInRange t (receiver_core meaning looped k p)
    receiver_in_range looped k (name n) below = leaf_in_range t (meaning n) (meant n)
    receiver_in_range looped k (literal v) below = tt
    receiver_in_range looped k (paren e) below = expr_in_range k e below
    receiver_in_range true k (block ps ss) below = let within : k + (body_parameters ss + length ps) ≤ t = below in body_in_range enclosing.Arm k ss (omega arith)
    receiver_in_range false k (block ps ss) below = let within : k + (body_parameters ss + length ps) ≤ t = below in (omega arith, body_in_range enclosing.Block (k + length ps) ss (omega arith))

    chain_in_range : (r : CoreTree) (to_super : Bool) (last : Ending) (k : ℕ) (more : SendTrees) (ms : MessageTrees)
        → k + messages_parameters ms ≤ t → AreInRange t r → SendsInRange t more → AreInRange t (chain_core meaning r to_super last k more ms)
    chain_in_range r to_super last k more no_messages below h others = h
    chain_in_range r to_super last k more (messages s es no_messages) below h others =
        let within : k + (exprs_parameters es + 0) ≤ t = below in
        message_in_range t last r to_super s (exprs_core meaning k es) (arms_core meaning k es) more h (exprs_in_range k es (omega arith)) (arms_in_range k es (omega arith)) others
    chain_in_range r to_super last k more (messages s es (messages u fs ms)) below h others =
        let within : k + (exprs_parameters es + messages_parameters (messages u fs ms)) ≤ t = below in
        chain_in_range (send r to_super s (exprs_core meaning k es)) false last (k + exprs_parameters es) more (messages u fs ms) (omega arith) (h, exprs_in_range k es (omega arith)) others

    sends_in_range : (k : ℕ) (ms : MessageTrees) → k + messages_parameters ms ≤ t → SendsInRange t (sends_core meaning k ms)
    sends_in_range k no_messages below = tt
    sends_in_range k (messages s es ms) below =
        let within : k + (exprs_parameters es + messages_parameters ms) ≤ t = below in
        (exprs_in_range k es (omega arith), sends_in_range (k + exprs_parameters es) ms (omega arith))

    exprs_in_range : (k : ℕ) (es : ExprTrees) → k + exprs_parameters es ≤ t → AllInRange t (exprs_core meaning k es)
    exprs_in_range k no_exprs below = tt
    exprs_in_range k (exprs e es) below =
        let within : k + (expr_parameters e + exprs_parameters es) ≤ t = below in
        (expr_in_range k e (omega arith), exprs_in_range (k + expr_parameters e) es (omega arith))

    arms_in_range : (k : ℕ) (es : ExprTrees) → k + exprs_parameters es ≤ t → AllInRange t (arms_core meaning k es)
    arms_in_range k no_exprs below = tt
    arms_in_range k (exprs e es) below =
        let within : k + (expr_parameters e + exprs_parameters es) ≤ t = below in
        (arm_in_range k e (omega arith), arms_in_range (k + expr_parameters e) es (omega arith))

    arm_in_range : (k : ℕ) (e : ExprTree) → k + expr_parameters e ≤ t → AreInRange t (arm_core meaning k e)
    arm_in_range k (expr targets (block ps ss) ms cs) below =
        let within : k + ((body_parameters ss + length ps) + messages_parameters ms + messages_parameters cs) ≤ t = below in
        body_in_range enclosing.Arm k ss (omega arith)
    arm_in_range k (expr targets (name n) ms cs) below = tt
    arm_in_range k (expr targets (literal v) ms cs) below = tt
    arm_in_range k (expr targets (paren e) ms cs) below = tt

    body_in_range : (within : Enclosing) (k : ℕ) (ss : BodyTree) → k + body_parameters ss ≤ t → AreInRange t (body_core meaning within k ss)
    body_in_range within k no_stmts below = empty_in_range t within
    body_in_range within k (stmts r e no_stmts) below =
        let all : k + (expr_parameters e + 0) ≤ t = below in
        last_in_range t within r e (expr_core meaning k e) (expr_in_range k e (omega arith))
    body_in_range within k (stmts r e (stmts q f ss)) below =
        let all : k + (expr_parameters e + body_parameters (stmts q f ss)) ≤ t = below in
        (statement_in_range t r e (expr_core meaning k e) (expr_in_range k e (omega arith)), body_in_range within (k + expr_parameters e) (stmts q f ss) (omega arith))

pub in_range : (m : MethodParts) (shape : Shape) → length shape.inst_vars ≤ 64 → AreInRange (temporaries m) (elaborated m shape)
in_range m shape few =
    body_in_range (temporaries m) (means m shape) (meant_in_range m shape few) (method_end m.selector) (length m.parameters + length m.temporaries) m.body (omega arith)
