-- One step of the walk.
use Rattle.std.proofs.Common.{◌≡◌, ℕ, zero, suc, ◌+◌, ◌-◌, ◌<◌, ◌≤◌, Bool, true, false, ◌&&◌, cond, if◌then◌else◌, nat_eq, List, [], ◌∷◌, ◌++◌, length, map, drop, take, get_or, refl, ap, ap₂, sym, ◌∙◌, arith, rules, take-suc, length-drop, Vec, Global}
use Rattle.std.specs.Vec.{vec_len}
use Rattle.std.proofs.lemmas.Bool.Decides.{nat_tests}
use Rattle.s80_base.specs.Literal.{small}
use Rattle.std.specs.Prelude.{pos}
use Rattle.s80_tree.specs.Name.{names_of}
use Rattle.s80_tree.specs.declared.name.NameAt.{NameAt}
use Rattle.s80_tree.specs.declared.expr.Primary.{Primary}
use Rattle.s80_tree.specs.declared.expr.Primary.TheVariants as primary
use Rattle.s80_tree.specs.declared.expr.Expr.{Expr, out-Expr}
use Rattle.s80_tree.specs.declared.expr.Block.{Block, out-Block}
use Rattle.s80_tree.specs.declared.expr.Message.{Message, out-Message}
use Rattle.s80_tree.specs.declared.expr.Stmt.{Stmt}
use Rattle.s80_tree.specs.declared.expr.Body.{Body, out-Body}
use Rattle.s80_tree.proofs.lemmas.Lists.{body_open}
use Rattle.s80_tree.specs.Tree.{ExprTrees, BodyTree, expr, block, no_messages, messages, no_stmts, stmts, messages_from, body_from, expr_of, exprs_of, primary_of, block_of, body_of, message_of, messages_of, stmt_of, is_super}
use Rattle.s80_syntax.specs.Word.{has_name, names_in}
use Rattle.s80_scope.specs.declared.fit.counts.Counts.{Counts}
use Rattle.s80_scope.specs.declared.fit.ending.Ending.{Ending}
use Rattle.s80_scope.specs.declared.fit.position.Position.{Position}
use Rattle.s80_scope.specs.declared.fit.position.Position.TheVariants.{Value}
use Rattle.s80_scope.specs.declared.fit.position.Leaves.{Leaves}
use Rattle.s80_scope.specs.declared.fit.position.Leaves.TheVariants as leaves
use Rattle.s80_scope.specs.FitLiterals.{Keys, constant_entries, name_entries, selector_entries, target_entries, declares, expr_entries, primary_entries, messages_entries, exprs_entries, body_entries}
use Rattle.s80_scope.specs.FitWeight.{arm_leaves}
use Rattle.s80_scope.specs.Inlined.{are_arms, is_arm, is_inlined, is_single, ending, expr_ending, cascade_to_super}
use Rattle.s80_scope.specs.Scope.{has_either}
use Rattle.s80_scope.specs.Walk.{above, arguments_counts, arm_counts, arms_counts, block_counts, body_counts, both, cut, cut_off, declaring, expr_counts, last_counts, last_has_arms, messages_counts, receiver_counts, sent_counts, statement_counts, with_entries}
use Rattle.s80_scope.proofs.Cut.{blocked, declared, raised_cut}
use Rattle.s80_scope.proofs.lemmas.Endings.{ending_arms}
use Rattle.s80_scope.proofs.KeySets.{with_append}
use Rattle.s80_tree.proofs.lemmas.Opens.{expr_open, block_open, message_open, primary_block}
use Rattle.s80_scope.proofs.lemmas.Opens.{exprs_left, messages_left, stmts_left, exprs_next, messages_next, stmts_next, messages_done, stmts_done}
use Rattle.s80_scope.proofs.lemmas.Counted.{Goes, IsMore, IsMoreStatements, goes_on, goes_end, entries_on, arm_is, other_arms, last_is, next_is, last_entries, next_entries, next_arms, rest_counts, last_statement, next_statement}
use Rattle.s80_scope.proofs.Scopes.{declares_more, target_last}

goes_to : (left all counted next m more result : Counts) → Goes left all counted → left ≡ both m more → next ≡ cut_off m → result ≡ cut_off (both counted next) → Goes more all result
goes_to left all counted next m more result g split n r =
    let h : Goes more all (cut_off (both counted next)) = goes_on m more g split n in
    record { exact = h.exact; is = r ∙ h.is; rest = h.rest }

-- ---- arguments and arms

pub argument_counts : (values i below : ℕ) (xs : List Expr) (x : Expr) (all counted next raised result : Counts) → i < length xs → x ≡ get_or xs i x
    → Goes (arguments_counts (values + i) (exprs_left xs i)) all counted → below ≡ cut (values + i) → next ≡ cut_off (expr_counts Value (expr_of x)) → raised ≡ cut_off (above below next)
    → result ≡ cut_off (both counted raised) → Goes (arguments_counts (values + (i + 1)) (exprs_left xs (i + 1))) all result
argument_counts values i below xs x all counted next raised result within is g low n r whole =
    let further : (values + i) + 1 ≡ values + (i + 1) = omega arith in
    goes_to (arguments_counts (values + i) (exprs_left xs i)) all counted raised (above (values + i) (expr_counts Value (expr_of x))) (arguments_counts (values + (i + 1)) (exprs_left xs (i + 1))) result g
    (ap (arguments_counts (values + i)) (exprs_next xs i x within is) ∙ ap (λ v. both (above (values + i) (expr_counts Value (expr_of x))) (arguments_counts v (exprs_left xs (i + 1)))) further)
    (r ∙ raised_cut below (values + i) (expr_counts Value (expr_of x)) low n) whole

pub exprs_step : (declared : List ℕ → Bool) (old now next : Keys) (all : ExprTrees) (xs : List Expr) (i : ℕ) (x : Expr) → i < length xs → x ≡ get_or xs i x
    → with_entries now (exprs_entries declared (exprs_left xs i)) ≡ with_entries old (exprs_entries declared all) → next ≡ with_entries now (expr_entries declared (expr_of x))
    → with_entries next (exprs_entries declared (exprs_left xs (i + 1))) ≡ with_entries old (exprs_entries declared all)
exprs_step declared old now next all xs i x within is goes n =
    entries_on old now next (exprs_entries declared (exprs_left xs i)) (exprs_entries declared all) (expr_entries declared (expr_of x)) (exprs_entries declared (exprs_left xs (i + 1))) goes
    (ap (exprs_entries declared) (exprs_next xs i x within is)) n

pub arms_left : (xs : List Expr) (i : ℕ) (x : Expr) → i < length xs → x ≡ get_or xs i x → are_arms (exprs_left xs i) ≡ true → are_arms (exprs_left xs (i + 1)) ≡ true
arms_left xs i x within is arms = other_arms (expr_of x) (exprs_left xs (i + 1)) (sym (ap are_arms (exprs_next xs i x within is)) ∙ arms)

pub arms_step : (position : Position) (i : ℕ) (xs : List Expr) (x : Expr) (all counted next result : Counts) → i < length xs → x ≡ get_or xs i x
    → Goes (arms_counts position (exprs_left xs i)) all counted → next ≡ cut_off (arm_counts position (expr_of x)) → result ≡ cut_off (both counted next) → Goes (arms_counts position (exprs_left xs (i + 1))) all result
arms_step position i xs x all counted next result within is g n whole =
    goes_to (arms_counts position (exprs_left xs i)) all counted next (arm_counts position (expr_of x)) (arms_counts position (exprs_left xs (i + 1))) result g
    (ap (arms_counts position) (exprs_next xs i x within is)) n whole

block_is : (e : Expr) (b : Block) → (out-Expr e).receiver ≡ primary.Block b
    → expr_of e ≡ expr (names_of (out-Expr e).targets) (block (block_of b).0 (block_of b).1) (messages_of (out-Expr e).messages) (messages_of (out-Expr e).cascades)
block_is e b is = expr_open e ∙ ap (λ p. expr (names_of (out-Expr e).targets) p (messages_of (out-Expr e).messages) (messages_of (out-Expr e).cascades)) (ap primary_of is ∙ primary_block b)

module _ (position : Position) (l : Leaves) (e : Expr) (b : Block) (leaving : l ≡ arm_leaves position) (is : (out-Expr e).receiver ≡ primary.Block b) (arm : is_arm (expr_of e) ≡ true) where
  pub arm_whole : body_counts l (block_of b).1 ≡ arm_counts position (expr_of e)
  arm_whole =
      ap (λ k. body_counts k (block_of b).1) leaving
      ∙ sym (arm_is (λ w. false) position (names_of (out-Expr e).targets) (block_of b).0 (block_of b).1 (messages_of (out-Expr e).messages) (messages_of (out-Expr e).cascades) (sym (ap is_arm (block_is e b is)) ∙ arm)).0
      ∙ ap (arm_counts position) (sym (block_is e b is))

  pub arm_entries : (declared : List ℕ → Bool) → primary_entries declared (block (block_of b).0 (block_of b).1) ≡ expr_entries declared (expr_of e)
  arm_entries declared =
      sym (arm_is declared position (names_of (out-Expr e).targets) (block_of b).0 (block_of b).1 (messages_of (out-Expr e).messages) (messages_of (out-Expr e).cascades) (sym (ap is_arm (block_is e b is)) ∙ arm)).1
      ∙ ap (expr_entries declared) (sym (block_is e b is))

-- ---- blocks

pub block_entries : (around names within : List ℕ → Bool) (old added : Keys) (b : Block) (n : ℕ) (ps : List NameAt) → added ≡ with_entries old (constant_entries (small (pos n)))
    → n ≡ length (names_of (out-Block b).parameters) → ps ≡ names_of (out-Block b).parameters → within ≡ has_either names around → names ≡ has_name (names_in ps)
    → with_entries added (body_entries within (body_of (out-Block b).body)) ≡ with_entries old (primary_entries around (block (block_of b).0 (block_of b).1))
block_entries around names within old added b n ps constant count listed inner set =
    (λ i. with_entries (constant i) (body_entries (declares_more within names around (names_of (out-Block b).parameters) around inner (set ∙ ap (λ x. has_name (names_in x)) listed) refl i) (body_of (out-Block b).body)))
    ∙ ap (λ k. with_entries (with_entries old (constant_entries (small (pos k)))) (body_entries (declares (names_of (out-Block b).parameters) around) (body_of (out-Block b).body))) count
    ∙ sym (with_append old (constant_entries (small (pos (length (names_of (out-Block b).parameters))))) (body_entries (declares (names_of (out-Block b).parameters) around) (body_of (out-Block b).body)))
    ∙ ap (λ (x : List NameAt × BodyTree). with_entries old (primary_entries around (block x.0 x.1))) (sym (block_open b))

pub looped_block : (looped : Bool) (p : Primary) (b : Block) (n : ℕ) (found result : Counts) → p ≡ primary.Block b → looped ≡ true → n ≡ length (names_of (out-Block b).parameters)
    → found ≡ cut_off (body_counts leaves.Value (block_of b).1) → result ≡ cut_off (declaring n found) → result ≡ cut_off (receiver_counts looped (primary_of p))
looped_block looped p b n found result is yes_looped count body whole =
    whole ∙ declared n (body_counts leaves.Value (block_of b).1) body
    ∙ ap (λ k. cut_off (declaring k (body_counts leaves.Value (block_of b).1))) (count ∙ ap (λ (x : List NameAt × BodyTree). length x.0) (sym (block_open b)))
    ∙ ap₂ (λ l t. cut_off (receiver_counts l t)) (sym yes_looped) (sym (ap primary_of is ∙ primary_block b))

pub real_block : (looped : Bool) (p : Primary) (b : Block) (n : ℕ) (found result : Counts) → p ≡ primary.Block b → looped ≡ false → n ≡ length (names_of (out-Block b).parameters)
    → found ≡ cut_off (body_counts leaves.Value (block_of b).1) → result ≡ cut_off (block_counts n found) → result ≡ cut_off (receiver_counts looped (primary_of p))
real_block looped p b n found result is not_looped count body whole =
    whole ∙ blocked n (body_counts leaves.Value (block_of b).1) body
    ∙ ap (λ k. cut_off (block_counts k (body_counts leaves.Value (block_of b).1))) (count ∙ ap (λ (x : List NameAt × BodyTree). length x.0) (sym (block_open b)))
    ∙ ap₂ (λ l t. cut_off (receiver_counts l t)) (sym not_looped) (sym (ap primary_of is ∙ primary_block b))

-- ---- statements

some_statement : (xs : List Stmt) → 0 < length xs → IsMoreStatements (body_from (map stmt_of xs))
some_statement [] some = absurd (let f : ⊥ = omega (arith, some) in f)
some_statement (x ∷ xs) some = tt

pub statement_step : (l here : Leaves) (after i : ℕ) (xs : List Stmt) (x : Stmt) (all counted next result : Counts) → i < length xs → x ≡ get_or xs i x → after + i ≡ length xs
    → here ≡ (if nat_eq (after - 1) 0 then l else leaves.Nothing) → Goes (rest_counts l (stmts_left xs i)) all counted → next ≡ cut_off (statement_counts here (stmt_of x).0 (stmt_of x).1)
    → result ≡ cut_off (both counted next) → Goes (rest_counts l (stmts_left xs (i + 1))) all result
statement_step l here after i xs x all counted next result within is place leaving g n whole =
    goes_to (rest_counts l (stmts_left xs i)) all counted next (statement_counts here (stmt_of x).0 (stmt_of x).1) (rest_counts l (stmts_left xs (i + 1))) result g
    (by_test (nat_eq (after - 1) 0) refl) n whole
  where
    by_test : (t : Bool) → nat_eq (after - 1) 0 ≡ t → rest_counts l (stmts_left xs i) ≡ both (statement_counts here (stmt_of x).0 (stmt_of x).1) (rest_counts l (stmts_left xs (i + 1)))
    by_test true e =
        let past : length xs ≤ i + 1 = grind (arith, nat_tests, e, place, within) in
        let done : stmts_left xs (i + 1) ≡ no_stmts = stmts_done xs (i + 1) past in
        let at_end : here ≡ l = leaving ∙ ap (λ b. if b then l else leaves.Nothing) e in
        ap (rest_counts l) (stmts_next xs i x within is ∙ ap (stmts (stmt_of x).0 (stmt_of x).1) done)
        ∙ last_statement l (stmt_of x).0 (stmt_of x).1
        ∙ ap₂ (λ h r. both (statement_counts h (stmt_of x).0 (stmt_of x).1) (rest_counts l r)) (sym at_end) (sym done)
    by_test false e =
        let inside : 0 < length (drop (i + 1) xs) = (let d = length-drop (i + 1) xs in grind (arith, nat_tests, e, place, within, d)) in
        let before : here ≡ leaves.Nothing = leaving ∙ ap (λ b. if b then l else leaves.Nothing) e in
        ap (rest_counts l) (stmts_next xs i x within is)
        ∙ next_statement l (stmt_of x).0 (stmt_of x).1 (stmts_left xs (i + 1)) (some_statement (drop (i + 1) xs) inside)
        ∙ ap (λ h. both (statement_counts h (stmt_of x).0 (stmt_of x).1) (rest_counts l (stmts_left xs (i + 1)))) (sym before)

pub body_step : (declared : List ℕ → Bool) (old now next : Keys) (all : BodyTree) (xs : List Stmt) (i : ℕ) (x : Stmt) → i < length xs → x ≡ get_or xs i x
    → with_entries now (body_entries declared (stmts_left xs i)) ≡ with_entries old (body_entries declared all) → next ≡ with_entries now (expr_entries declared (stmt_of x).1)
    → with_entries next (body_entries declared (stmts_left xs (i + 1))) ≡ with_entries old (body_entries declared all)
body_step declared old now next all xs i x within is goes n =
    entries_on old now next (body_entries declared (stmts_left xs i)) (body_entries declared all) (expr_entries declared (stmt_of x).1) (body_entries declared (stmts_left xs (i + 1))) goes
    (ap (body_entries declared) (stmts_next xs i x within is)) n

-- ---- messages

some_message : (xs : List Message) → 0 < length xs → IsMore (messages_from (map message_of xs))
some_message [] some = absurd (let f : ⊥ = omega (arith, some) in f)
some_message (x ∷ xs) some = tt

pub more_messages : (xs : List Message) (i : ℕ) → i < length xs → IsMore (messages_left xs i)
more_messages xs i within = some_message (drop i xs) (let d = length-drop i xs in omega (arith, d, within))

module _ (i : ℕ) (xs : List Message) (x : Message) (within : i < length xs) (is : x ≡ get_or xs i x) where
  pub arms_after : (inlined : Bool) → (inlined ≡ true → last_has_arms (messages_left xs i) ≡ true) → inlined ≡ true → last_has_arms (messages_left xs (i + 1)) ≡ true
  arms_after inlined arms e = next_arms (message_of x).0 (message_of x).1 (messages_left xs (i + 1)) (sym (ap last_has_arms (messages_next xs i x within is)) ∙ arms e)

  module _ (position : Position) (before last : Ending) (all counted next result : Counts) (g : Goes (messages_counts position before last (messages_left xs i)) all counted) (whole : result ≡ cut_off (both counted next)) where
    pub last_message : length xs ≤ i + 1 → next ≡ cut_off (last_counts position last (message_of x).1) → Goes (messages_counts position before last (messages_left xs (i + 1))) all result
    last_message past n =
        let done : messages_left xs (i + 1) ≡ no_messages = messages_done xs (i + 1) past in
        goes_to (messages_counts position before last (messages_left xs i)) all counted next (last_counts position last (message_of x).1) (messages_counts position before last (messages_left xs (i + 1))) result g
        (ap (messages_counts position before last) (messages_next xs i x within is ∙ ap (messages (message_of x).0 (message_of x).1) done)
        ∙ last_is position before last (message_of x).0 (message_of x).1
        ∙ ap (λ ms. both (last_counts position last (message_of x).1) (messages_counts position before last ms)) (sym done)) n whole

    pub next_message : IsMore (messages_left xs (i + 1)) → next ≡ cut_off (sent_counts Value before (message_of x).1) → Goes (messages_counts position before last (messages_left xs (i + 1))) all result
    next_message more n =
        goes_to (messages_counts position before last (messages_left xs i)) all counted next (sent_counts Value before (message_of x).1) (messages_counts position before last (messages_left xs (i + 1))) result g
        (ap (messages_counts position before last) (messages_next xs i x within is)
        ∙ next_is position before last (message_of x).0 (message_of x).1 (messages_left xs (i + 1)) more) n whole

  module _ (declared : List ℕ → Bool) (first others inlined : Bool) (old now next : Keys) (all : List _) (goes : with_entries now (messages_entries declared first others inlined (messages_left xs i)) ≡ with_entries old all) where
    pub last_names : length xs ≤ i + 1 → next ≡ with_entries now (exprs_entries declared (message_of x).1 ++ cond inlined [] (selector_entries first (message_of x).0))
        → with_entries next (messages_entries declared others others inlined (messages_left xs (i + 1))) ≡ with_entries old all
    last_names past n =
        let done : messages_left xs (i + 1) ≡ no_messages = messages_done xs (i + 1) past in
        entries_on old now next (messages_entries declared first others inlined (messages_left xs i)) all (exprs_entries declared (message_of x).1 ++ cond inlined [] (selector_entries first (message_of x).0))
        (messages_entries declared others others inlined (messages_left xs (i + 1))) goes
        (ap (messages_entries declared first others inlined) (messages_next xs i x within is ∙ ap (messages (message_of x).0 (message_of x).1) done)
        ∙ last_entries declared first others inlined (message_of x).0 (message_of x).1
        ∙ ap (λ ms. (exprs_entries declared (message_of x).1 ++ cond inlined [] (selector_entries first (message_of x).0)) ++ messages_entries declared others others inlined ms) (sym done)) n

    pub next_names : IsMore (messages_left xs (i + 1)) → next ≡ with_entries now (exprs_entries declared (message_of x).1 ++ selector_entries first (message_of x).0)
        → with_entries next (messages_entries declared others others inlined (messages_left xs (i + 1))) ≡ with_entries old all
    next_names more n =
        entries_on old now next (messages_entries declared first others inlined (messages_left xs i)) all (exprs_entries declared (message_of x).1 ++ selector_entries first (message_of x).0)
        (messages_entries declared others others inlined (messages_left xs (i + 1))) goes
        (ap (messages_entries declared first others inlined) (messages_next xs i x within is)
        ∙ next_entries declared first others inlined (message_of x).0 (message_of x).1 (messages_left xs (i + 1)) more) n

pub sent_names : (declared : List ℕ → Bool) (to_super : Bool) (old mid after : Keys) (m : Message) (word : List ℕ) → mid ≡ with_entries old (exprs_entries declared (exprs_of (out-Message m).arguments))
    → after ≡ with_entries mid (selector_entries to_super word) → word ≡ (out-Message m).selector
    → after ≡ with_entries old (exprs_entries declared (message_of m).1 ++ selector_entries to_super (message_of m).0)
sent_names declared to_super old mid after m word arguments selector spelled =
    selector ∙ (λ i. with_entries (arguments i) (selector_entries to_super (spelled i)))
    ∙ sym (with_append old (exprs_entries declared (exprs_of (out-Message m).arguments)) (selector_entries to_super (out-Message m).selector))
    ∙ (λ i. with_entries old (exprs_entries declared (sym (message_open m) i).1 ++ selector_entries to_super (sym (message_open m) i).0))

-- ---- expressions

pub inlined_arms : (e : Expr) (end : Ending) → end ≡ expr_ending (expr_of e) → is_inlined end ≡ true → last_has_arms (messages_of (out-Expr e).messages) ≡ true
inlined_arms e end ends inlined =
    ending_arms (primary_of (out-Expr e).receiver) (messages_of (out-Expr e).messages) (messages_of (out-Expr e).cascades) (ap is_inlined (sym (ends ∙ ap expr_ending (expr_open e))) ∙ inlined)

pub expr_names : (declared : List ℕ → Bool) (e : Expr) (old a b c d : Keys) (end : Ending) (to_super still : Bool) (names : List NameAt)
    → end ≡ expr_ending (expr_of e) → to_super ≡ is_super (primary_of (out-Expr e).receiver) → still ≡ cascade_to_super (expr_of e) → names ≡ names_of (out-Expr e).targets
    → a ≡ with_entries old (primary_entries declared (primary_of (out-Expr e).receiver))
    → b ≡ with_entries a (messages_entries declared to_super false (is_inlined end) (messages_of (out-Expr e).messages))
    → c ≡ with_entries b (messages_entries declared still still false (messages_of (out-Expr e).cascades))
    → d ≡ with_entries c (target_entries declared names)
    → d ≡ with_entries old (expr_entries declared (expr_of e))
expr_names declared e old a b c d end to_super still names ends super cascade targets p q r s =
    let ns = names_of (out-Expr e).targets in
    let t = primary_of (out-Expr e).receiver in
    let ms = messages_of (out-Expr e).messages in
    let cs = messages_of (out-Expr e).cascades in
    let end_is : end ≡ ending t ms cs = ends ∙ ap expr_ending (expr_open e) in
    let still_is : still ≡ (is_super t && is_single ms) = cascade ∙ ap cascade_to_super (expr_open e) in
    let first = primary_entries declared t in
    let second = messages_entries declared (is_super t) false (is_inlined (ending t ms cs)) ms in
    let third = messages_entries declared (is_super t && is_single ms) (is_super t && is_single ms) false cs in
    let fourth = target_entries declared ns in
    let b_is : b ≡ with_entries (with_entries old first) second = q ∙ (λ i. with_entries (p i) (messages_entries declared (super i) false (is_inlined (end_is i)) ms)) in
    let c_is : c ≡ with_entries (with_entries (with_entries old first) second) third = r ∙ (λ i. with_entries (b_is i) (messages_entries declared (still_is i) (still_is i) false cs)) in
    s ∙ (λ i. with_entries (c_is i) (target_entries declared (targets i)))
    ∙ sym (with_append old (first ++ second ++ third) fourth ∙ ap (λ k. with_entries k fourth) (with_append old (first ++ second) third ∙ ap (λ k. with_entries k third) (with_append old first second)))
    ∙ ap (λ x. with_entries old (expr_entries declared x)) (sym (expr_open e))

-- ---- targets

pub target_step : (declared : List ℕ → Bool) (old now next : Keys) (ns : List NameAt) (n : NameAt) (word : List ℕ) (count i : ℕ) → count ≡ length ns → i < count → n ≡ get_or ns (count - 1 - i) n → word ≡ n.name
    → with_entries now (target_entries declared (take (count - i) ns)) ≡ with_entries old (target_entries declared ns) → next ≡ with_entries now (name_entries declared word)
    → with_entries next (target_entries declared (take (count - (i + 1)) ns)) ≡ with_entries old (target_entries declared ns)
target_step declared old now next ns n word count i counted within is spelled goes more =
    let k = count - (i + 1) in
    let place : count - 1 - i ≡ k = omega (arith, within) in
    let larger : count - i ≡ suc k = omega (arith, within) in
    let inside : k < length ns = omega (arith, within, counted) in
    let here : n ≡ get_or ns k n = is ∙ ap (λ j. get_or ns j n) place in
    entries_on old now next (target_entries declared (take (count - i) ns)) (target_entries declared ns) (name_entries declared n.name) (target_entries declared (take k ns)) goes
    (ap (λ j. target_entries declared (take j ns)) larger ∙ ap (target_entries declared) (take-suc ns k n inside ∙ ap (λ y. take k ns ++ y ∷ []) (sym here)) ∙ target_last declared (take k ns) n)
    (more ∙ ap (λ w. with_entries now (name_entries declared w)) spelled)

-- ---- bodies

rest_is : (l : Leaves) (ss : BodyTree) → IsMoreStatements ss → rest_counts l ss ≡ body_counts l ss
rest_is l no_stmts more = absurd more
rest_is l (stmts r e ss) more = refl

-- a body that isn't empty, when all its statements are counted
pub body_whole : (l : Leaves) (b : Body) (xs : List Stmt) (i : ℕ) (counted : Counts) → Goes (rest_counts l (stmts_left xs i)) (rest_counts l (body_of b)) counted → length xs ≤ i
    → xs ≡ (out-Body b).items.items → (length (out-Body b).items.items ≡ 0 → ⊥) → counted ≡ cut_off (body_counts l (body_of b))
body_whole l b xs i counted g past listed some =
    goes_end g (ap (rest_counts l) (stmts_done xs i past))
    ∙ ap cut_off (ap (rest_counts l) (body_open b) ∙ rest_is l (body_from (map stmt_of (out-Body b).items.items)) (some_statement (out-Body b).items.items (some_length (length (out-Body b).items.items) some)) ∙ ap (body_counts l) (sym (body_open b)))
  where
    some_length : (n : ℕ) → (n ≡ 0 → ⊥) → 0 < n
    some_length zero some = absurd (some refl)
    some_length (suc n) some = omega arith

pub vec_length : {X : Type 0} (v : Vec X Global) → vec_len v ≡ length v.items
vec_length v = search rules
