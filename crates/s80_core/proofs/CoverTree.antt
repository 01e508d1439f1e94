-- The entries of a method's core are meant by those of its tree.
use Rattle.std.proofs.Common.{◌≡◌, ℕ, ◌+◌, List, [], ◌++◌, Bool, true, false, cond, ◌&&◌, length, refl, ◌∙◌, subst, pos}
use Rattle.s80_base.specs.Literal.{small}
use Rattle.s80_tree.specs.Tree.{ExprTree, PrimaryTree, ExprTrees, MessageTrees, BodyTree, MethodParts, expr, name, literal, block, paren, no_exprs, exprs, no_messages, messages, no_stmts, stmts, is_super}
use Rattle.s80_code.specs.Entries.{EntryTree}
use Rattle.s80_scope.specs.declared.shape.Shape.{Shape}
use Rattle.s80_scope.specs.Names.{means, last_place, declarations_of, is_at, expr_uses, primary_uses, messages_uses, exprs_uses, body_uses, expr_declarations, primary_declarations, messages_declarations, exprs_declarations, body_declarations, declares as shows}
use Rattle.s80_scope.specs.Inlined.{ending, is_inlined, is_loop, is_single}
use Rattle.s80_scope.specs.FitStack.{expr_parameters, primary_parameters, messages_parameters, exprs_parameters}
use Rattle.s80_scope.specs.FitLiterals as parsed
use Rattle.s80_scope.specs.FitLiterals.{declares, target_entries, expr_entries, primary_entries, messages_entries, exprs_entries, body_entries}
use Rattle.s80_scope.specs.declared.fit.ending.Ending.{Ending}
use Rattle.s80_core.specs.declared.elaboration.Enclosing.{Enclosing}
use Rattle.s80_core.specs.declared.elaboration.Enclosing.TheVariants as enclosing
use Rattle.s80_core.specs.Core.{CoreTree, SendTrees, send}
use Rattle.s80_core.specs.Elaborate.{statement, expr_core, receiver_core, chain_core, sends_core, exprs_core, arms_core, arm_core, body_core}
use Rattle.s80_core.specs.Measures.{constant_entries, selector_entries, entries, entries_all, entries_sends}
use Rattle.s80_core.proofs.Cover.{both, left, right, Held, AllHeld, AllIn, or_left, constant_held, selector_held, word_held, targets_held, any_left, itself}
use Rattle.s80_core.proofs.lemmas.CoverEnds.{statement_kept, last_kept, empty_kept}
use Rattle.s80_core.proofs.CoverParts.{Stands, first, second, behind, inside, last_some, at_ends, last_core_in}

and_true : (a : Bool) → (a && true) ≡ a
and_true true = refl
and_true false = refl

and_false : (a : Bool) → (a && false) ≡ false
and_false true = refl
and_false false = refl

module _ (m : MethodParts) (shape : Shape) (In : EntryTree → Type 0) where
  mutual
    expr_in : (declared : List ℕ → Bool) (k : ℕ) (e : ExprTree) → Stands m declared (expr_uses e) (expr_declarations e) → AllHeld shape In (expr_entries declared e)
        → AllIn shape In (entries (expr_core (means m shape) k e))
    expr_in declared k (expr targets p ms cs) s h =
        let messages_list = primary_entries declared p ++ messages_entries declared (is_super p) false (is_inlined (ending p ms cs)) ms in
        let cascades = messages_entries declared (is_super p && is_single ms) (is_super p && is_single ms) false cs in
        let of_value = left (Held shape In) (messages_list ++ cascades) (target_entries declared targets) h in
        let of_chain = left (Held shape In) messages_list cascades of_value in
        let here = behind m declared targets (primary_uses p ++ (messages_uses ms ++ messages_uses cs)) (expr_declarations (expr targets p ms cs)) s in
        let others = second m declared (primary_uses p) (messages_uses ms ++ messages_uses cs) (primary_declarations p) (messages_declarations ms ++ messages_declarations cs) here in
        targets_held shape In m declared targets _
        (λ n one told. last_some (shows n) (declarations_of m) (s.knows n (any_left (is_at n.at) targets (primary_uses p ++ (messages_uses ms ++ messages_uses cs)) one) told))
        (right (Held shape In) (messages_list ++ cascades) (target_entries declared targets) h)
        (chain_in declared (receiver_core (means m shape) (is_loop (ending p ms cs)) k p) (is_super p) (ending p ms cs) (k + primary_parameters p)
        (is_super p && is_single ms) (sends_core (means m shape) (k + primary_parameters p + messages_parameters ms) cs) ms refl
        (first m declared (messages_uses ms) (messages_uses cs) (messages_declarations ms) (messages_declarations cs) others)
        (receiver_in declared (is_loop (ending p ms cs)) k p (first m declared (primary_uses p) (messages_uses ms ++ messages_uses cs) (primary_declarations p) (messages_declarations ms ++ messages_declarations cs) here)
        (left (Held shape In) (primary_entries declared p) (messages_entries declared (is_super p) false (is_inlined (ending p ms cs)) ms) of_chain))
        (sends_in declared (is_super p && is_single ms) (k + primary_parameters p + messages_parameters ms) cs
        (second m declared (messages_uses ms) (messages_uses cs) (messages_declarations ms) (messages_declarations cs) others)
        (right (Held shape In) messages_list cascades of_value))
        (right (Held shape In) (primary_entries declared p) (messages_entries declared (is_super p) false (is_inlined (ending p ms cs)) ms) of_chain))

    receiver_in : (declared : List ℕ → Bool) (looped : Bool) (k : ℕ) (p : PrimaryTree) → Stands m declared (primary_uses p) (primary_declarations p) → AllHeld shape In (primary_entries declared p)
        → AllIn shape In (entries (receiver_core (means m shape) looped k p))
    receiver_in declared looped k (name n) s h =
        word_held shape In declared n.name (last_place (shows n) (declarations_of m))
        (λ told. last_some (shows n) (declarations_of m) (s.knows n (or_left (is_at n.at n) false (itself n.at)) told)) h
    receiver_in declared looped k (literal v) s h = constant_held shape In v h
    receiver_in declared looped k (paren e) s h = expr_in declared k e s h
    receiver_in declared true k (block ps ss) s h =
        body_in (declares ps declared) enclosing.Arm k ss (inside m declared ps (body_uses ss) (body_declarations ss) s)
        (right (Held shape In) (parsed.constant_entries (small (pos (length ps)))) (body_entries (declares ps declared) ss) h)
    receiver_in declared false k (block ps ss) s h =
        both In (constant_entries (small (pos (length ps)))) (entries (body_core (means m shape) enclosing.Block (k + length ps) ss))
        (constant_held shape In (small (pos (length ps))) (left (Held shape In) (parsed.constant_entries (small (pos (length ps)))) (body_entries (declares ps declared) ss) h))
        (body_in (declares ps declared) enclosing.Block (k + length ps) ss (inside m declared ps (body_uses ss) (body_declarations ss) s)
        (right (Held shape In) (parsed.constant_entries (small (pos (length ps)))) (body_entries (declares ps declared) ss) h))

    chain_in : (declared : List ℕ → Bool) (r : CoreTree) (to_super : Bool) (last : Ending) (k : ℕ) (others : Bool) (more : SendTrees) (ms : MessageTrees) → others ≡ (to_super && is_single ms)
        → Stands m declared (messages_uses ms) (messages_declarations ms) → AllIn shape In (entries r) → AllIn shape In (entries_sends others more)
        → AllHeld shape In (messages_entries declared to_super false (is_inlined last) ms) → AllIn shape In (entries (chain_core (means m shape) r to_super last k more ms))
    chain_in declared r to_super last k others more no_messages alike s hr hm h = hr
    chain_in declared r to_super last k others more (messages word es no_messages) alike s hr hm h =
        let here = first m declared (exprs_uses es) [] (exprs_declarations es) [] s in
        let arguments = left (Held shape In) (exprs_entries declared es) (cond (is_inlined last) [] (parsed.selector_entries to_super word)) h in
        last_core_in shape In last r to_super word (exprs_core (means m shape) k es) (arms_core (means m shape) k es) more hr
        (exprs_in declared k es here arguments) (arms_in declared k es here arguments)
        (subst (λ b. AllIn shape In (entries_sends b more)) (alike ∙ and_true to_super) hm)
        (right (Held shape In) (exprs_entries declared es) (cond (is_inlined last) [] (parsed.selector_entries to_super word)) h)
    chain_in declared r to_super last k others more (messages word es (messages word' es' ms)) alike s hr hm h =
        let behind_it = messages_entries declared false false (is_inlined last) (messages word' es' ms) in
        let one = left (Held shape In) (exprs_entries declared es ++ parsed.selector_entries to_super word) behind_it h in
        chain_in declared (send r to_super word (exprs_core (means m shape) k es)) false last (k + exprs_parameters es) others more (messages word' es' ms) (alike ∙ and_false to_super)
        (second m declared (exprs_uses es) (messages_uses (messages word' es' ms)) (exprs_declarations es) (messages_declarations (messages word' es' ms)) s)
        (both In (entries r) (entries_all (exprs_core (means m shape) k es) ++ selector_entries to_super word) hr
        (both In (entries_all (exprs_core (means m shape) k es)) (selector_entries to_super word)
        (exprs_in declared k es (first m declared (exprs_uses es) (messages_uses (messages word' es' ms)) (exprs_declarations es) (messages_declarations (messages word' es' ms)) s)
        (left (Held shape In) (exprs_entries declared es) (parsed.selector_entries to_super word) one))
        (selector_held shape In to_super word (right (Held shape In) (exprs_entries declared es) (parsed.selector_entries to_super word) one))))
        hm
        (right (Held shape In) (exprs_entries declared es ++ parsed.selector_entries to_super word) behind_it h)

    sends_in : (declared : List ℕ → Bool) (to_super : Bool) (k : ℕ) (cs : MessageTrees) → Stands m declared (messages_uses cs) (messages_declarations cs) → AllHeld shape In (messages_entries declared to_super to_super false cs)
        → AllIn shape In (entries_sends to_super (sends_core (means m shape) k cs))
    sends_in declared to_super k no_messages s h = tt
    sends_in declared to_super k (messages word es no_messages) s h =
        both In (entries_all (exprs_core (means m shape) k es) ++ selector_entries to_super word) []
        (both In (entries_all (exprs_core (means m shape) k es)) (selector_entries to_super word)
        (exprs_in declared k es (first m declared (exprs_uses es) [] (exprs_declarations es) [] s) (left (Held shape In) (exprs_entries declared es) (parsed.selector_entries to_super word) h))
        (selector_held shape In to_super word (right (Held shape In) (exprs_entries declared es) (parsed.selector_entries to_super word) h)))
        tt
    sends_in declared to_super k (messages word es (messages word' es' ms)) s h =
        let behind_it = messages_entries declared to_super to_super false (messages word' es' ms) in
        let one = left (Held shape In) (exprs_entries declared es ++ parsed.selector_entries to_super word) behind_it h in
        both In (entries_all (exprs_core (means m shape) k es) ++ selector_entries to_super word) (entries_sends to_super (sends_core (means m shape) (k + exprs_parameters es) (messages word' es' ms)))
        (both In (entries_all (exprs_core (means m shape) k es)) (selector_entries to_super word)
        (exprs_in declared k es (first m declared (exprs_uses es) (messages_uses (messages word' es' ms)) (exprs_declarations es) (messages_declarations (messages word' es' ms)) s)
        (left (Held shape In) (exprs_entries declared es) (parsed.selector_entries to_super word) one))
        (selector_held shape In to_super word (right (Held shape In) (exprs_entries declared es) (parsed.selector_entries to_super word) one)))
        (sends_in declared to_super (k + exprs_parameters es) (messages word' es' ms)
        (second m declared (exprs_uses es) (messages_uses (messages word' es' ms)) (exprs_declarations es) (messages_declarations (messages word' es' ms)) s)
        (right (Held shape In) (exprs_entries declared es ++ parsed.selector_entries to_super word) behind_it h))

    exprs_in : (declared : List ℕ → Bool) (k : ℕ) (es : ExprTrees) → Stands m declared (exprs_uses es) (exprs_declarations es) → AllHeld shape In (exprs_entries declared es)
        → AllIn shape In (entries_all (exprs_core (means m shape) k es))
    exprs_in declared k no_exprs s h = tt
    exprs_in declared k (exprs e es) s h =
        both In (entries (expr_core (means m shape) k e)) (entries_all (exprs_core (means m shape) (k + expr_parameters e) es))
        (expr_in declared k e (first m declared (expr_uses e) (exprs_uses es) (expr_declarations e) (exprs_declarations es) s) (left (Held shape In) (expr_entries declared e) (exprs_entries declared es) h))
        (exprs_in declared (k + expr_parameters e) es (second m declared (expr_uses e) (exprs_uses es) (expr_declarations e) (exprs_declarations es) s) (right (Held shape In) (expr_entries declared e) (exprs_entries declared es) h))

    arms_in : (declared : List ℕ → Bool) (k : ℕ) (es : ExprTrees) → Stands m declared (exprs_uses es) (exprs_declarations es) → AllHeld shape In (exprs_entries declared es)
        → AllIn shape In (entries_all (arms_core (means m shape) k es))
    arms_in declared k no_exprs s h = tt
    arms_in declared k (exprs e es) s h =
        both In (entries (arm_core (means m shape) k e)) (entries_all (arms_core (means m shape) (k + expr_parameters e) es))
        (arm_in declared k e (first m declared (expr_uses e) (exprs_uses es) (expr_declarations e) (exprs_declarations es) s) (left (Held shape In) (expr_entries declared e) (exprs_entries declared es) h))
        (arms_in declared (k + expr_parameters e) es (second m declared (expr_uses e) (exprs_uses es) (expr_declarations e) (exprs_declarations es) s) (right (Held shape In) (expr_entries declared e) (exprs_entries declared es) h))

    arm_in : (declared : List ℕ → Bool) (k : ℕ) (e : ExprTree) → Stands m declared (expr_uses e) (expr_declarations e) → AllHeld shape In (expr_entries declared e)
        → AllIn shape In (entries (arm_core (means m shape) k e))
    arm_in declared k (expr targets (name n) ms cs) s h = tt
    arm_in declared k (expr targets (literal v) ms cs) s h = tt
    arm_in declared k (expr targets (paren e) ms cs) s h = tt
    arm_in declared k (expr targets (block ps ss) ms cs) s h =
        let p = block ps ss in
        let of_messages = messages_entries declared false false (is_inlined (ending p ms cs)) ms in
        let cascades = messages_entries declared false false false cs in
        let here = behind m declared targets (body_uses ss ++ (messages_uses ms ++ messages_uses cs)) (expr_declarations (expr targets p ms cs)) s in
        let of_primary = left (Held shape In) (primary_entries declared p) of_messages
        (left (Held shape In) (primary_entries declared p ++ of_messages) cascades (left (Held shape In) ((primary_entries declared p ++ of_messages) ++ cascades) (target_entries declared targets) h)) in
        body_in (declares ps declared) enclosing.Arm k ss
        (inside m declared ps (body_uses ss) (body_declarations ss) (first m declared (body_uses ss) (messages_uses ms ++ messages_uses cs) (primary_declarations p) (messages_declarations ms ++ messages_declarations cs) here))
        (right (Held shape In) (parsed.constant_entries (small (pos (length ps)))) (body_entries (declares ps declared) ss) of_primary)

    pub body_in : (declared : List ℕ → Bool) (within : Enclosing) (k : ℕ) (ss : BodyTree) → Stands m declared (body_uses ss) (body_declarations ss) → AllHeld shape In (body_entries declared ss)
        → AllIn shape In (entries (body_core (means m shape) within k ss))
    body_in declared within k no_stmts s h = empty_kept (λ c. AllIn shape In (entries c)) (at_ends shape In) within
    body_in declared within k (stmts returns e no_stmts) s h =
        last_kept (λ c. AllIn shape In (entries c)) (at_ends shape In) within returns e (expr_core (means m shape) k e)
        (expr_in declared k e (first m declared (expr_uses e) [] (expr_declarations e) [] s) (left (Held shape In) (expr_entries declared e) [] h))
    body_in declared within k (stmts returns e (stmts returns' e' ss)) s h =
        let rest = stmts returns' e' ss in
        both In (entries (statement returns e (expr_core (means m shape) k e))) (entries (body_core (means m shape) within (k + expr_parameters e) rest))
        (statement_kept (λ c. AllIn shape In (entries c)) (at_ends shape In) returns e (expr_core (means m shape) k e)
        (expr_in declared k e (first m declared (expr_uses e) (body_uses rest) (expr_declarations e) (body_declarations rest) s) (left (Held shape In) (expr_entries declared e) (body_entries declared rest) h)))
        (body_in declared within (k + expr_parameters e) (stmts returns' e' ss) (second m declared (expr_uses e) (body_uses rest) (expr_declarations e) (body_declarations rest) s)
        (right (Held shape In) (expr_entries declared e) (body_entries declared rest) h))
