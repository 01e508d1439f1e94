-- The core of a tree in which no reserved word is assigned names variables of its shape alone.
use Rattle.std.proofs.Common.{◌≡◌, ℕ, ◌+◌, ◌<◌, List, [], ◌∷◌, Bool, true, false, ◌||◌, cond, length, find, bytes_eq, codes, Option, Some, None, refl, true≢false}
use Rattle.std.specs.List.{list_any}
use Rattle.std.specs.Option.{option_map, option_map_or}
use Rattle.s80_tree.specs.declared.name.NameAt.{NameAt}
use Rattle.s80_tree.specs.Tree.{ExprTree, PrimaryTree, ExprTrees, MessageTrees, BodyTree, MethodParts, expr, name, literal, block, paren, no_exprs, exprs, no_messages, messages, no_stmts, stmts, is_super}
use Rattle.s80_syntax.specs.Word.{is_reserved}
use Rattle.s80_scope.specs.declared.shape.Binding.{Binding}
use Rattle.s80_scope.specs.declared.shape.Shape.{Shape}
use Rattle.s80_scope.specs.Shape.{WhereTree, temp, inst, class_var, outer}
use Rattle.s80_scope.specs.Names.{means, declares, declarations_of, last_place, reserved_meaning, reserved_meanings}
use Rattle.s80_scope.specs.Inlined.{ending, is_loop}
use Rattle.s80_scope.specs.FitStack.{expr_parameters, primary_parameters, messages_parameters, exprs_parameters}
use Rattle.s80_scope.specs.declared.fit.ending.Ending.{Ending}
use Rattle.s80_scope.specs.declared.fit.ending.Ending.TheVariants.{Sent, Cascaded, TwoArms, OneArm, Shortcut, Loop}
use Rattle.s80_scope.proofs.lemmas.Places.{last_place_below}
use Rattle.s80_core.specs.Core.{CoreTree, CoreTrees, SendTrees, send, no_cores, cores}
use Rattle.s80_core.specs.Elaborate.{leaf_meant, target_meant, assigned, first_of, second_of, last_core, expr_core, receiver_core, chain_core, sends_core, exprs_core, arms_core, arm_core, body_core, method_end, elaborated}
use Rattle.s80_core.proofs.lemmas.CoverEnds.{KeepsAtEnds, statement_kept, last_kept, empty_kept}
use Rattle.s80_doit.proofs.Fields.{IsBelow, LeafIsBelow, AreBelow, AllBelow, SendsBelow}
use Rattle.s80_doit.proofs.Targets.{AreFree, ExprIsFree, PrimaryIsFree, ExprsAreFree, MessagesAreFree, BodyIsFree}

-- ---- what names mean

abbrev IsIfMeant : ℕ → Option WhereTree → Type 0
IsIfMeant v None = Unit {0}
IsIfMeant v (Some w) = LeafIsBelow v (leaf_meant w)

abbrev AreMeant : ℕ → List (List ℕ × WhereTree) → Type 0
AreMeant v [] = Unit {0}
AreMeant v (r ∷ rs) = LeafIsBelow v (leaf_meant r.1) × AreMeant v rs

found_below : (v : ℕ) (word : List ℕ) (rs : List (List ℕ × WhereTree)) → AreMeant v rs → IsIfMeant v (option_map (λ r. r.1) (find (λ r. bytes_eq word r.0) rs))
found_below v word [] h = tt
found_below v word (r ∷ rs) h = by_test (bytes_eq word r.0) (find (λ q. bytes_eq word q.0) rs) h.0 (found_below v word rs h.1)
  where
    by_test : (b : Bool) (more : Option (List ℕ × WhereTree)) → LeafIsBelow v (leaf_meant r.1) → IsIfMeant v (option_map (λ q. q.1) more) → IsIfMeant v (option_map (λ q. q.1) (cond b (Some r) more))
    by_test true more here there = here
    by_test false more here there = there

reserved_below : (v : ℕ) (word : List ℕ) → IsIfMeant v (reserved_meaning word)
reserved_below v word = found_below v word reserved_meanings (tt, (tt, (tt, (tt, (tt, (tt, tt))))))

-- a word that isn't reserved has no meaning of its own
none_found : (word : List ℕ) (rs : List (List ℕ × WhereTree)) → list_any (λ r. bytes_eq word r.0) rs ≡ false → option_map (λ r. r.1) (find (λ r. bytes_eq word r.0) rs) ≡ None
none_found word [] e = refl
none_found word (r ∷ rs) e = by_test (bytes_eq word r.0) (none_found word rs) e
  where
    by_test : (b : Bool) → (list_any (λ q. bytes_eq word q.0) rs ≡ false → option_map (λ q. q.1) (find (λ q. bytes_eq word q.0) rs) ≡ None)
        → (b || list_any (λ q. bytes_eq word q.0) rs) ≡ false → option_map (λ q. q.1) (cond b (Some r) (find (λ q. bytes_eq word q.0) rs)) ≡ None
    by_test true more f = absurd (true≢false f)
    by_test false more f = more f

no_meaning : (word : List ℕ) → is_reserved word ≡ false → reserved_meaning word ≡ None
unfolding is_reserved
no_meaning word e =
    none_found word reserved_meanings
    (turned (bytes_eq word (codes "self")) (bytes_eq word (codes "super")) (bytes_eq word (codes "true")) (bytes_eq word (codes "false")) (bytes_eq word (codes "nil")) (bytes_eq word (codes "thisContext")) e)
  where
    turned : (a b c d e f : Bool) → (a || (b || (c || (d || (e || (f || false)))))) ≡ false → (a || (b || (f || (c || (d || (e || false)))))) ≡ false
    turned true b c d e f h = h
    turned false true c d e f h = h
    turned false false true d e f h = absurd (true≢false h)
    turned false false false true e f h = absurd (true≢false h)
    turned false false false false true f h = absurd (true≢false h)
    turned false false false false false true h = h
    turned false false false false false false h = h

word_below : (v : ℕ) (word : List ℕ) (reserved : Option WhereTree) (number place : Option ℕ) (variable : Option Binding) → IsIfMeant v reserved → ((i : ℕ) → place ≡ Some i → i < v)
    → LeafIsBelow v (leaf_meant (option_map_or (λ meaning. meaning) reserved (option_map_or temp number (option_map_or inst place (option_map_or (λ b. class_var b.owner b.name) variable (outer word))))))
word_below v word (Some w) number place variable h within = h
word_below v word None (Some i) place variable h within = tt
word_below v word None None (Some i) variable h within = within i refl
word_below v word None None None (Some b) h within = tt
word_below v word None None None None h within = tt

target_below : (v : ℕ) (word : List ℕ) (reserved : Option WhereTree) (number place : Option ℕ) (variable : Option Binding) → reserved ≡ None → ((i : ℕ) → place ≡ Some i → i < v)
    → IsBelow v (target_meant (option_map_or (λ meaning. meaning) reserved (option_map_or temp number (option_map_or inst place (option_map_or (λ b. class_var b.owner b.name) variable (outer word))))))
target_below v word (Some w) number place variable none within = absurd (cc)
target_below v word None (Some i) place variable none within = tt
target_below v word None None (Some i) variable none within = within i refl
target_below v word None None None (Some b) none within = tt
target_below v word None None None None none within = tt

read_below : (m : MethodParts) (shape : Shape) (n : NameAt) → LeafIsBelow (length shape.inst_vars) (leaf_meant (means m shape n))
read_below m shape n =
    word_below (length shape.inst_vars) n.name (reserved_meaning n.name) (last_place (declares n) (declarations_of m)) (last_place (bytes_eq n.name) shape.inst_vars)
    (find (λ b. bytes_eq n.name b.name) shape.class_vars) (reserved_below (length shape.inst_vars) n.name) (last_place_below (bytes_eq n.name) shape.inst_vars)

stored_below : (m : MethodParts) (shape : Shape) (n : NameAt) → is_reserved n.name ≡ false → IsBelow (length shape.inst_vars) (target_meant (means m shape n))
stored_below m shape n free =
    target_below (length shape.inst_vars) n.name (reserved_meaning n.name) (last_place (declares n) (declarations_of m)) (last_place (bytes_eq n.name) shape.inst_vars)
    (find (λ b. bytes_eq n.name b.name) shape.class_vars) (no_meaning n.name free) (last_place_below (bytes_eq n.name) shape.inst_vars)

-- ---- messages

first_below : (v : ℕ) (cs : CoreTrees) → AllBelow v cs → AreBelow v (first_of cs)
first_below v no_cores h = tt
first_below v (cores c cs) h = h.0

second_below : (v : ℕ) (cs : CoreTrees) → AllBelow v cs → AreBelow v (second_of cs)
second_below v no_cores h = tt
second_below v (cores c cs) h = first_below v cs h.1

at_ends : (v : ℕ) → KeepsAtEnds (AreBelow v)
at_ends v = record { empty = tt; fixed = λ n. tt; answers = λ c h. h; leaves = λ c h. h; returns = λ c h. (h, tt) }

last_below : (v : ℕ) (last : Ending) (r : CoreTree) (to_super : Bool) (s : List ℕ) (es arms : CoreTrees) (more : SendTrees) → AreBelow v r → AllBelow v es → AllBelow v arms → SendsBelow v more
    → AreBelow v (last_core last r to_super s es arms more)
last_below v Sent r to_super s es arms more hr he ha hm = (hr, he)
last_below v Cascaded r to_super s es arms more hr he ha hm = (hr, (he, hm))
last_below v (TwoArms on) r to_super s es arms more hr he ha hm = (hr, (first_below v arms ha, second_below v arms ha))
last_below v (OneArm on) r to_super s es arms more hr he ha hm = (hr, first_below v arms ha)
last_below v (Shortcut on) r to_super s es arms more hr he ha hm = (hr, first_below v arms ha)
last_below v (Loop on) r to_super s es arms more hr he ha hm = (hr, first_below v arms ha)

-- ---- trees

module _ (v : ℕ) (meaning : NameAt → WhereTree) (read : (n : NameAt) → LeafIsBelow v (leaf_meant (meaning n)))
    (stored : (n : NameAt) → is_reserved n.name ≡ false → IsBelow v (target_meant (meaning n))) where
  targets_below : (ns : List NameAt) (c : CoreTree) → AreFree ns → AreBelow v c → AreBelow v (assigned meaning ns c)
  targets_below [] c free h = h
  targets_below (n ∷ ns) c free h = (stored n free.0, targets_below ns c free.1 h)

  mutual
    expr_below : (k : ℕ) (e : ExprTree) → ExprIsFree e → AreBelow v (expr_core meaning k e)
    expr_below k (expr targets p ms cs) h =
        targets_below targets _ h.0
        (chain_below (receiver_core meaning (is_loop (ending p ms cs)) k p) (is_super p) (ending p ms cs) (k + primary_parameters p)
        (sends_core meaning (k + primary_parameters p + messages_parameters ms) cs) ms
        (receiver_below (is_loop (ending p ms cs)) k p h.1.0) (sends_below (k + primary_parameters p + messages_parameters ms) cs h.1.1.1) h.1.1.0)

    receiver_below : (looped : Bool) (k : ℕ) (p : PrimaryTree) → PrimaryIsFree p → AreBelow v (receiver_core meaning looped k p)
    receiver_below looped k (name n) h = read n
    receiver_below looped k (literal w) h = tt
    receiver_below looped k (paren e) h = expr_below k e h
    receiver_below true k (block ps ss) h = body_below _ k ss h
    receiver_below false k (block ps ss) h = body_below _ (k + length ps) ss h

    chain_below : (r : CoreTree) (to_super : Bool) (last : Ending) (k : ℕ) (more : SendTrees) (ms : MessageTrees) → AreBelow v r → SendsBelow v more → MessagesAreFree ms
        → AreBelow v (chain_core meaning r to_super last k more ms)
    chain_below r to_super last k more no_messages hr hm h = hr
    chain_below r to_super last k more (messages s es no_messages) hr hm h =
        last_below v last r to_super s (exprs_core meaning k es) (arms_core meaning k es) more hr (exprs_below k es h.0) (arms_below k es h.0) hm
    chain_below r to_super last k more (messages s es (messages s' es' ms)) hr hm h =
        chain_below (send r to_super s (exprs_core meaning k es)) false last (k + exprs_parameters es) more (messages s' es' ms) (hr, exprs_below k es h.0) hm h.1

    sends_below : (k : ℕ) (cs : MessageTrees) → MessagesAreFree cs → SendsBelow v (sends_core meaning k cs)
    sends_below k no_messages h = tt
    sends_below k (messages s es ms) h = (exprs_below k es h.0, sends_below (k + exprs_parameters es) ms h.1)

    exprs_below : (k : ℕ) (es : ExprTrees) → ExprsAreFree es → AllBelow v (exprs_core meaning k es)
    exprs_below k no_exprs h = tt
    exprs_below k (exprs e es) h = (expr_below k e h.0, exprs_below (k + expr_parameters e) es h.1)

    arms_below : (k : ℕ) (es : ExprTrees) → ExprsAreFree es → AllBelow v (arms_core meaning k es)
    arms_below k no_exprs h = tt
    arms_below k (exprs e es) h = (arm_below k e h.0, arms_below (k + expr_parameters e) es h.1)

    arm_below : (k : ℕ) (e : ExprTree) → ExprIsFree e → AreBelow v (arm_core meaning k e)
    arm_below k (expr targets (name n) ms cs) h = tt
    arm_below k (expr targets (literal w) ms cs) h = tt
    arm_below k (expr targets (paren e) ms cs) h = tt
    arm_below k (expr targets (block ps ss) ms cs) h = body_below _ k ss h.1.0

    body_below : (within : _) (k : ℕ) (ss : BodyTree) → BodyIsFree ss → AreBelow v (body_core meaning within k ss)
    body_below within k no_stmts h = empty_kept (AreBelow v) (at_ends v) within
    body_below within k (stmts returns e no_stmts) h = last_kept (AreBelow v) (at_ends v) within returns e (expr_core meaning k e) (expr_below k e h.0)
    body_below within k (stmts returns e (stmts returns' e' ss)) h =
        (statement_kept (AreBelow v) (at_ends v) returns e (expr_core meaning k e) (expr_below k e h.0), body_below within (k + expr_parameters e) (stmts returns' e' ss) h.1)

pub core_below : (m : MethodParts) (shape : Shape) → BodyIsFree m.body → AreBelow (length shape.inst_vars) (elaborated m shape)
core_below m shape h =
    body_below (length shape.inst_vars) (means m shape) (read_below m shape) (stored_below m shape) (method_end m.selector) (length m.parameters + length m.temporaries) m.body h
