-- Walks over lists: what is left goes on as all.
use Rattle.std.proofs.Common.{◌≡◌, ℕ, ◌+◌, ◌<◌, ◌≤◌, List, [], ◌∷◌, ◌++◌, length, map, take, drop, get_or, find, None, refl, ap, sym, ◌∙◌, subst, arith, length-append}
use Rattle.std.proofs.lemmas.List.{drop_all, drop_more, take-append-drop}
use Rattle.std.specs.declared.ops.ControlFlow.{ControlFlow}
use Rattle.std.specs.declared.ops.ControlFlow.TheVariants.{Continue, Break}
use Rattle.s80_tree.specs.Tree.{BodyTree, ExprTrees, MessageTrees, body_from, stmt_of, messages_from, message_of, exprs_from, exprs_of, expr_of}
use Rattle.s80_tree.specs.declared.name.NameAt.{NameAt}
use Rattle.s80_tree.specs.declared.expr.Expr.{Expr}
use Rattle.s80_tree.specs.declared.expr.Message.{Message, out-Message}
use Rattle.s80_tree.specs.declared.expr.Stmt.{Stmt, out-Stmt}
use Rattle.s80_scope.specs.declared.names.Found.{Found}
use Rattle.s80_scope.specs.Names.{Declaration, is_at, IsFound, Walks, expr_uses, expr_declarations, exprs_uses, exprs_declarations, messages_uses, messages_declarations, body_uses, body_declarations}
use Rattle.s80_scope.proofs.Unseen.{Unseen, expr_unseen, exprs_unseen, messages_unseen, body_unseen}
use Rattle.s80_scope.proofs.Walking.{breaks, goes_on, passes}
use Rattle.s80_scope.proofs.Parts.{body_left, messages_left, exprs_left}

-- a walk over what is left, with its uses and declarations, goes on as one over all
abbrev GoesOn : ℕ → ℕ → List NameAt → List Declaration → ℕ → List NameAt → List Declaration → Type 0
GoesOn at next left behind first all declared = (r : ControlFlow Found ℕ) → Walks at next left behind r → Walks at first all declared r

-- the next part and the rest are what is left
abbrev along : (at next : ℕ) (left u v : List NameAt) (behind d e : List Declaration) (r : ControlFlow Found ℕ) → left ≡ u ++ v → behind ≡ d ++ e → Walks at next (u ++ v) (d ++ e) r → Walks at next left behind r
along at next left u v behind d e r uses declared walks =
    subst (λ w. Walks at next w behind r) (sym uses) (subst (λ g. Walks at next (u ++ v) g r) (sym declared) walks)

broken : (at first next : ℕ) (all left u v : List NameAt) (declared behind d e : List Declaration) (f : Found) (r : ControlFlow Found ℕ) → GoesOn at next left behind first all declared → left ≡ u ++ v → behind ≡ d ++ e
    → Unseen v e → IsFound at next u d f → r ≡ Break f → Walks at first all declared r
broken at first next all left u v declared behind d e f r on uses declares unseen found is =
    subst (λ s. Walks at first all declared s) (sym is) (on (Break f) (along at next left u v behind d e (Break f) uses declares (breaks at next u v d e f unseen found)))

stepped : (at first next after : ℕ) (all left u v : List NameAt) (declared behind d e : List Declaration) → GoesOn at next left behind first all declared → left ≡ u ++ v → behind ≡ d ++ e
    → Unseen u d → Walks at next u d (Continue after) → GoesOn at after v e first all declared
stepped at first next after all left u v declared behind d e on uses declares unseen passed r walks =
    on r (along at next left u v behind d e r uses declares (goes_on at next after u v d e r unseen passed.0 passed.1 walks))

ended : (at first next : ℕ) (all left : List NameAt) (declared behind : List Declaration) → GoesOn at next left behind first all declared → left ≡ [] → behind ≡ [] → Walks at first all declared (Continue next)
ended at first next all left declared behind on none free =
    on (Continue next) (subst (λ w. Walks at next w behind (Continue next)) (sym none) (subst (λ g. Walks at next [] g (Continue next)) (sym free) (passes at next)))

room_left : (next after : ℕ) (behind d e : List Declaration) → next + length behind < 256 → behind ≡ d ++ e → after ≡ next + length d → after + length e < 256
room_left next after behind d e room declares is = let both = length-append d e in let long = ap length declares in omega arith

-- ---- statements

abbrev stmts_left : List Stmt → ℕ → BodyTree
stmts_left xs i = body_from (map stmt_of (drop i xs))

pub body_breaks : (at first next : ℕ) (b : BodyTree) (xs : List Stmt) (i : ℕ) (x : Stmt) (f : Found) (r : ControlFlow Found ℕ)
    → GoesOn at next (body_uses (stmts_left xs i)) (body_declarations (stmts_left xs i)) first (body_uses b) (body_declarations b) → i < length xs → x ≡ get_or xs i x
    → IsFound at next (expr_uses (expr_of (out-Stmt x).expr)) (expr_declarations (expr_of (out-Stmt x).expr)) f → r ≡ Break f → Walks at first (body_uses b) (body_declarations b) r
body_breaks at first next b xs i x f r on within is found end =
    let e = expr_of (out-Stmt x).expr in let same = body_left xs i x within is in let rest = stmts_left xs (i + 1) in
    broken at first next (body_uses b) (body_uses (stmts_left xs i)) (expr_uses e) (body_uses rest) (body_declarations b) (body_declarations (stmts_left xs i)) (expr_declarations e) (body_declarations rest) f r
    on (ap body_uses same) (ap body_declarations same) (body_unseen rest) found end

pub body_steps : (at first next after : ℕ) (b : BodyTree) (xs : List Stmt) (i : ℕ) (x : Stmt)
    → GoesOn at next (body_uses (stmts_left xs i)) (body_declarations (stmts_left xs i)) first (body_uses b) (body_declarations b) → i < length xs → x ≡ get_or xs i x
    → Walks at next (expr_uses (expr_of (out-Stmt x).expr)) (expr_declarations (expr_of (out-Stmt x).expr)) (Continue after)
    → GoesOn at after (body_uses (stmts_left xs (i + 1))) (body_declarations (stmts_left xs (i + 1))) first (body_uses b) (body_declarations b)
body_steps at first next after b xs i x on within is passed =
    let e = expr_of (out-Stmt x).expr in let same = body_left xs i x within is in let rest = stmts_left xs (i + 1) in
    stepped at first next after (body_uses b) (body_uses (stmts_left xs i)) (expr_uses e) (body_uses rest) (body_declarations b) (body_declarations (stmts_left xs i)) (expr_declarations e) (body_declarations rest)
    on (ap body_uses same) (ap body_declarations same) (expr_unseen e) passed

pub body_room : (next after : ℕ) (xs : List Stmt) (i : ℕ) (x : Stmt) → next + length (body_declarations (stmts_left xs i)) < 256 → i < length xs → x ≡ get_or xs i x
    → after ≡ next + length (expr_declarations (expr_of (out-Stmt x).expr)) → after + length (body_declarations (stmts_left xs (i + 1))) < 256
body_room next after xs i x room within is long =
    room_left next after (body_declarations (stmts_left xs i)) (expr_declarations (expr_of (out-Stmt x).expr)) (body_declarations (stmts_left xs (i + 1))) room (ap body_declarations (body_left xs i x within is)) long

pub body_ends : (at first next : ℕ) (b : BodyTree) (xs : List Stmt) (i : ℕ) → GoesOn at next (body_uses (stmts_left xs i)) (body_declarations (stmts_left xs i)) first (body_uses b) (body_declarations b)
    → length xs ≤ i → Walks at first (body_uses b) (body_declarations b) (Continue next)
body_ends at first next b xs i on done =
    let none = ap (λ l. body_from (map stmt_of l)) (drop_all i xs done) in
    ended at first next (body_uses b) (body_uses (stmts_left xs i)) (body_declarations b) (body_declarations (stmts_left xs i)) on (ap body_uses none) (ap body_declarations none)

-- ---- messages

abbrev those_left : List Message → ℕ → MessageTrees
those_left xs i = messages_from (map message_of (drop i xs))

pub messages_break : (at first next : ℕ) (b : MessageTrees) (xs : List Message) (i : ℕ) (x : Message) (f : Found) (r : ControlFlow Found ℕ)
    → GoesOn at next (messages_uses (those_left xs i)) (messages_declarations (those_left xs i)) first (messages_uses b) (messages_declarations b) → i < length xs → x ≡ get_or xs i x
    → IsFound at next (exprs_uses (exprs_of (out-Message x).arguments)) (exprs_declarations (exprs_of (out-Message x).arguments)) f → r ≡ Break f → Walks at first (messages_uses b) (messages_declarations b) r
messages_break at first next b xs i x f r on within is found end =
    let e = exprs_of (out-Message x).arguments in let same = messages_left xs i x within is in let rest = those_left xs (i + 1) in
    broken at first next (messages_uses b) (messages_uses (those_left xs i)) (exprs_uses e) (messages_uses rest) (messages_declarations b) (messages_declarations (those_left xs i)) (exprs_declarations e) (messages_declarations rest) f r
    on (ap messages_uses same) (ap messages_declarations same) (messages_unseen rest) found end

pub messages_step : (at first next after : ℕ) (b : MessageTrees) (xs : List Message) (i : ℕ) (x : Message)
    → GoesOn at next (messages_uses (those_left xs i)) (messages_declarations (those_left xs i)) first (messages_uses b) (messages_declarations b) → i < length xs → x ≡ get_or xs i x
    → Walks at next (exprs_uses (exprs_of (out-Message x).arguments)) (exprs_declarations (exprs_of (out-Message x).arguments)) (Continue after)
    → GoesOn at after (messages_uses (those_left xs (i + 1))) (messages_declarations (those_left xs (i + 1))) first (messages_uses b) (messages_declarations b)
messages_step at first next after b xs i x on within is passed =
    let e = exprs_of (out-Message x).arguments in let same = messages_left xs i x within is in let rest = those_left xs (i + 1) in
    stepped at first next after (messages_uses b) (messages_uses (those_left xs i)) (exprs_uses e) (messages_uses rest) (messages_declarations b) (messages_declarations (those_left xs i)) (exprs_declarations e) (messages_declarations rest)
    on (ap messages_uses same) (ap messages_declarations same) (exprs_unseen e) passed

pub messages_room : (next after : ℕ) (xs : List Message) (i : ℕ) (x : Message) → next + length (messages_declarations (those_left xs i)) < 256 → i < length xs → x ≡ get_or xs i x
    → after ≡ next + length (exprs_declarations (exprs_of (out-Message x).arguments)) → after + length (messages_declarations (those_left xs (i + 1))) < 256
messages_room next after xs i x room within is long =
    room_left next after (messages_declarations (those_left xs i)) (exprs_declarations (exprs_of (out-Message x).arguments)) (messages_declarations (those_left xs (i + 1))) room (ap messages_declarations (messages_left xs i x within is)) long

pub messages_end : (at first next : ℕ) (b : MessageTrees) (xs : List Message) (i : ℕ) → GoesOn at next (messages_uses (those_left xs i)) (messages_declarations (those_left xs i)) first (messages_uses b) (messages_declarations b)
    → length xs ≤ i → Walks at first (messages_uses b) (messages_declarations b) (Continue next)
messages_end at first next b xs i on done =
    let none = ap (λ l. messages_from (map message_of l)) (drop_all i xs done) in
    ended at first next (messages_uses b) (messages_uses (those_left xs i)) (messages_declarations b) (messages_declarations (those_left xs i)) on (ap messages_uses none) (ap messages_declarations none)

-- ---- arguments

abbrev arguments_left : List Expr → ℕ → ExprTrees
arguments_left xs i = exprs_from (map expr_of (drop i xs))

pub exprs_break : (at first next : ℕ) (b : ExprTrees) (xs : List Expr) (i : ℕ) (x : Expr) (f : Found) (r : ControlFlow Found ℕ)
    → GoesOn at next (exprs_uses (arguments_left xs i)) (exprs_declarations (arguments_left xs i)) first (exprs_uses b) (exprs_declarations b) → i < length xs → x ≡ get_or xs i x
    → IsFound at next (expr_uses (expr_of x)) (expr_declarations (expr_of x)) f → r ≡ Break f → Walks at first (exprs_uses b) (exprs_declarations b) r
exprs_break at first next b xs i x f r on within is found end =
    let e = expr_of x in let same = exprs_left xs i x within is in let rest = arguments_left xs (i + 1) in
    broken at first next (exprs_uses b) (exprs_uses (arguments_left xs i)) (expr_uses e) (exprs_uses rest) (exprs_declarations b) (exprs_declarations (arguments_left xs i)) (expr_declarations e) (exprs_declarations rest) f r
    on (ap exprs_uses same) (ap exprs_declarations same) (exprs_unseen rest) found end

pub exprs_step : (at first next after : ℕ) (b : ExprTrees) (xs : List Expr) (i : ℕ) (x : Expr)
    → GoesOn at next (exprs_uses (arguments_left xs i)) (exprs_declarations (arguments_left xs i)) first (exprs_uses b) (exprs_declarations b) → i < length xs → x ≡ get_or xs i x
    → Walks at next (expr_uses (expr_of x)) (expr_declarations (expr_of x)) (Continue after)
    → GoesOn at after (exprs_uses (arguments_left xs (i + 1))) (exprs_declarations (arguments_left xs (i + 1))) first (exprs_uses b) (exprs_declarations b)
exprs_step at first next after b xs i x on within is passed =
    let e = expr_of x in let same = exprs_left xs i x within is in let rest = arguments_left xs (i + 1) in
    stepped at first next after (exprs_uses b) (exprs_uses (arguments_left xs i)) (expr_uses e) (exprs_uses rest) (exprs_declarations b) (exprs_declarations (arguments_left xs i)) (expr_declarations e) (exprs_declarations rest)
    on (ap exprs_uses same) (ap exprs_declarations same) (expr_unseen e) passed

pub exprs_room : (next after : ℕ) (xs : List Expr) (i : ℕ) (x : Expr) → next + length (exprs_declarations (arguments_left xs i)) < 256 → i < length xs → x ≡ get_or xs i x
    → after ≡ next + length (expr_declarations (expr_of x)) → after + length (exprs_declarations (arguments_left xs (i + 1))) < 256
exprs_room next after xs i x room within is long =
    room_left next after (exprs_declarations (arguments_left xs i)) (expr_declarations (expr_of x)) (exprs_declarations (arguments_left xs (i + 1))) room (ap exprs_declarations (exprs_left xs i x within is)) long

pub exprs_end : (at first next : ℕ) (b : ExprTrees) (xs : List Expr) (i : ℕ) → GoesOn at next (exprs_uses (arguments_left xs i)) (exprs_declarations (arguments_left xs i)) first (exprs_uses b) (exprs_declarations b)
    → length xs ≤ i → Walks at first (exprs_uses b) (exprs_declarations b) (Continue next)
exprs_end at first next b xs i on done =
    let none = ap (λ l. exprs_from (map expr_of l)) (drop_all i xs done) in
    ended at first next (exprs_uses b) (exprs_uses (arguments_left xs i)) (exprs_declarations b) (exprs_declarations (arguments_left xs i)) on (ap exprs_uses none) (ap exprs_declarations none)

-- ---- assigned names

pub name_found : (at first : ℕ) (names : List NameAt) (i : ℕ) (x : NameAt) (f : Found) (r : ControlFlow Found ℕ) → find (is_at at) (take i names) ≡ None → i < length names → x ≡ get_or names i x
    → IsFound at first (x ∷ []) [] f → r ≡ Break f → Walks at first names [] r
name_found at first names i x f r before within is found end =
    let rest : List NameAt = drop (i + 1) names in
    let unseen : (u : List NameAt) → Unseen u [] = λ u n none. refl in
    let whole : names ≡ take i names ++ x ∷ rest = sym (take-append-drop i names) ∙ ap (λ l. take i names ++ l) (drop_more names i x within ∙ ap (λ y. y ∷ rest) (sym is)) in
    let here : IsFound at first (x ∷ rest) [] f = breaks at first (x ∷ []) rest [] [] f (unseen rest) found in
    let there : IsFound at first (take i names ++ x ∷ rest) [] f = goes_on at first first (take i names) (x ∷ rest) [] [] (Break f) (unseen (take i names)) (omega arith) before here in
    subst (λ s. Walks at first names [] s) (sym end) (subst (λ l. IsFound at first l [] f) (sym whole) there)
