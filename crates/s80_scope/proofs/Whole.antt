-- Walks over expressions, blocks and methods.
use Rattle.std.proofs.Common.{◌≡◌, ℕ, ◌+◌, ◌<◌, List, [], ◌++◌, true, false, length, take, get_or, find, Option, Some, None, refl, ap, sym, ◌∙◌, subst, arith, length-append}
use Rattle.std.specs.Option.{option_map, option_or}
use Rattle.std.specs.Str.{bytes_eq}
use Rattle.std.specs.declared.ops.ControlFlow.{ControlFlow}
use Rattle.std.specs.declared.ops.ControlFlow.TheVariants.{Continue, Break}
use Rattle.s80_tree.specs.Tree.{ExprTree, PrimaryTree, MessageTrees, BodyTree, BlockTree, MethodParts, expr, block}
use Rattle.s80_tree.specs.declared.name.NameAt.{NameAt}
use Rattle.s80_scope.specs.declared.names.Found.{Found}
use Rattle.s80_scope.specs.Names.{has_word, is_at, last_place, number_among, IsFound, Walks, expr_uses, expr_declarations, primary_uses, primary_declarations, messages_uses, messages_declarations, body_uses, body_declarations, uses_of, declarations_of}
use Rattle.s80_scope.proofs.lemmas.Places.{place_found, place_kept}
use Rattle.s80_scope.proofs.Unseen.{unseen_both, expr_unseen, primary_unseen, messages_unseen}
use Rattle.s80_scope.proofs.Walking.{breaks, goes_on, declared, undeclared, number_in_both}

-- what is known of an expression's parts is known of it
on_expr : (at first : ℕ) (e : ExprTree) (ns : List NameAt) (p : PrimaryTree) (ms cs : MessageTrees) (r : ControlFlow Found ℕ) → e ≡ expr ns p ms cs
    → Walks at first (expr_uses (expr ns p ms cs)) (expr_declarations (expr ns p ms cs)) r → Walks at first (expr_uses e) (expr_declarations e) r
on_expr at first e ns p ms cs r is walks = subst (λ t. Walks at first (expr_uses t) (expr_declarations t) r) (sym is) walks

-- a use was found among the names that are assigned
pub target_found : (at first : ℕ) (e : ExprTree) (ns : List NameAt) (p : PrimaryTree) (ms cs : MessageTrees) (f : Found) (r : ControlFlow Found ℕ) → e ≡ expr ns p ms cs
    → IsFound at first ns [] f → r ≡ Break f → Walks at first (expr_uses e) (expr_declarations e) r
target_found at first e ns p ms cs f r is found end =
    on_expr at first e ns p ms cs r is (subst (λ s. Walks at first (expr_uses (expr ns p ms cs)) (expr_declarations (expr ns p ms cs)) s) (sym end)
    (breaks at first ns (primary_uses p ++ (messages_uses ms ++ messages_uses cs)) [] (primary_declarations p ++ (messages_declarations ms ++ messages_declarations cs)) f (expr_unseen (expr [] p ms cs)) found))

-- none was, and the walk goes on behind them
after_targets : (at first : ℕ) (e : ExprTree) (ns : List NameAt) (p : PrimaryTree) (ms cs : MessageTrees) (r : ControlFlow Found ℕ) → e ≡ expr ns p ms cs → find (is_at at) ns ≡ None
    → Walks at first (primary_uses p ++ (messages_uses ms ++ messages_uses cs)) (primary_declarations p ++ (messages_declarations ms ++ messages_declarations cs)) r → Walks at first (expr_uses e) (expr_declarations e) r
after_targets at first e ns p ms cs r is none walks =
    on_expr at first e ns p ms cs r is (goes_on at first first ns (primary_uses p ++ (messages_uses ms ++ messages_uses cs)) [] (primary_declarations p ++ (messages_declarations ms ++ messages_declarations cs)) r (λ n away. refl) (omega arith) none walks)

pub receiver_found : (at first : ℕ) (e : ExprTree) (ns : List NameAt) (p : PrimaryTree) (ms cs : MessageTrees) (f : Found) (r : ControlFlow Found ℕ) → e ≡ expr ns p ms cs → find (is_at at) ns ≡ None
    → IsFound at first (primary_uses p) (primary_declarations p) f → r ≡ Break f → Walks at first (expr_uses e) (expr_declarations e) r
receiver_found at first e ns p ms cs f r is none found end =
    after_targets at first e ns p ms cs r is none (subst (λ s. Walks at first (primary_uses p ++ (messages_uses ms ++ messages_uses cs)) (primary_declarations p ++ (messages_declarations ms ++ messages_declarations cs)) s) (sym end)
    (breaks at first (primary_uses p) (messages_uses ms ++ messages_uses cs) (primary_declarations p) (messages_declarations ms ++ messages_declarations cs) f
    (unseen_both (messages_uses ms) (messages_uses cs) (messages_declarations ms) (messages_declarations cs) (messages_unseen ms) (messages_unseen cs)) found))

after_receiver : (at first next : ℕ) (e : ExprTree) (ns : List NameAt) (p : PrimaryTree) (ms cs : MessageTrees) (r : ControlFlow Found ℕ) → e ≡ expr ns p ms cs → find (is_at at) ns ≡ None
    → Walks at first (primary_uses p) (primary_declarations p) (Continue next) → Walks at next (messages_uses ms ++ messages_uses cs) (messages_declarations ms ++ messages_declarations cs) r → Walks at first (expr_uses e) (expr_declarations e) r
after_receiver at first next e ns p ms cs r is none passed walks =
    after_targets at first e ns p ms cs r is none
    (goes_on at first next (primary_uses p) (messages_uses ms ++ messages_uses cs) (primary_declarations p) (messages_declarations ms ++ messages_declarations cs) r (primary_unseen p) passed.0 passed.1 walks)

pub message_found : (at first next : ℕ) (e : ExprTree) (ns : List NameAt) (p : PrimaryTree) (ms cs : MessageTrees) (f : Found) (r : ControlFlow Found ℕ) → e ≡ expr ns p ms cs → find (is_at at) ns ≡ None
    → Walks at first (primary_uses p) (primary_declarations p) (Continue next) → IsFound at next (messages_uses ms) (messages_declarations ms) f → r ≡ Break f → Walks at first (expr_uses e) (expr_declarations e) r
message_found at first next e ns p ms cs f r is none passed found end =
    after_receiver at first next e ns p ms cs r is none passed (subst (λ s. Walks at next (messages_uses ms ++ messages_uses cs) (messages_declarations ms ++ messages_declarations cs) s) (sym end)
    (breaks at next (messages_uses ms) (messages_uses cs) (messages_declarations ms) (messages_declarations cs) f (messages_unseen cs) found))

pub after_messages : (at first next after : ℕ) (e : ExprTree) (ns : List NameAt) (p : PrimaryTree) (ms cs : MessageTrees) (r : ControlFlow Found ℕ) → e ≡ expr ns p ms cs → find (is_at at) ns ≡ None
    → Walks at first (primary_uses p) (primary_declarations p) (Continue next) → Walks at next (messages_uses ms) (messages_declarations ms) (Continue after) → Walks at after (messages_uses cs) (messages_declarations cs) r
    → Walks at first (expr_uses e) (expr_declarations e) r
after_messages at first next after e ns p ms cs r is none passed sent walks =
    after_receiver at first next e ns p ms cs r is none passed
    (goes_on at next after (messages_uses ms) (messages_uses cs) (messages_declarations ms) (messages_declarations cs) r (messages_unseen ms) sent.0 sent.1 walks)

-- there are numbers for each part of an expression
pub room_of : (first : ℕ) (e : ExprTree) (ns : List NameAt) (p : PrimaryTree) (ms cs : MessageTrees) → e ≡ expr ns p ms cs → first + length (expr_declarations e) < 256
    → first + (length (primary_declarations p) + (length (messages_declarations ms) + length (messages_declarations cs))) < 256
room_of first e ns p ms cs is room =
    let all = ap (λ t. length (expr_declarations t)) is in let one = length-append (primary_declarations p) (messages_declarations ms ++ messages_declarations cs) in
    let two = length-append (messages_declarations ms) (messages_declarations cs) in omega arith

-- ---- blocks

pub block_found : (at first own : ℕ) (b : BlockTree) (ps : List NameAt) (ss : BodyTree) (names : List NameAt) (word : List ℕ) (number : Option ℕ) (f g : Found) → b ≡ (ps, ss) → own ≡ length ps → IsFound at (first + own) (body_uses ss) (body_declarations ss) f
    → names ≡ ps → word ≡ f.name.now.name → number ≡ number_among names first word → g.name ≡ f.name → g.number ≡ option_or f.number number
    → IsFound at first (primary_uses (block b.0 b.1)) (primary_declarations (block b.0 b.1)) g
block_found at first own b ps ss names word number f g is long found same spelled counted kept is_number =
    let among : number ≡ number_among ps first f.name.now.name = counted ∙ ap (λ l. number_among l first word) same ∙ ap (number_among ps first) spelled in
    let whole = declared at first own (body_uses ss) ps (body_declarations ss) f g long found kept (is_number ∙ ap (option_or f.number) among) in
    subst (λ (t : BlockTree). IsFound at first (primary_uses (block t.0 t.1)) (primary_declarations (block t.0 t.1)) g) (sym is) whole

pub block_passed : (at first own next : ℕ) (b : BlockTree) (ps : List NameAt) (ss : BodyTree) → b ≡ (ps, ss) → own ≡ length ps → Walks at (first + own) (body_uses ss) (body_declarations ss) (Continue next)
    → Walks at first (primary_uses (block b.0 b.1)) (primary_declarations (block b.0 b.1)) (Continue next)
block_passed at first own next b ps ss is long passed =
    subst (λ (t : BlockTree). Walks at first (primary_uses (block t.0 t.1)) (primary_declarations (block t.0 t.1)) (Continue next)) (sym is)
    (undeclared at first own next (body_uses ss) ps (body_declarations ss) long passed)

-- ---- methods

or_or : (a b c : Option ℕ) → option_or (option_or a b) c ≡ option_or a (option_or b c)
or_or None b c = refl
or_or (Some i) b c = refl

pub method_found : (at own : ℕ) (m : MethodParts) (inner outer : Option ℕ) (f g : Found) → own ≡ length m.parameters + length m.temporaries → IsFound at own (body_uses m.body) (body_declarations m.body) f
    → inner ≡ number_among m.temporaries (length m.parameters) f.name.now.name → outer ≡ number_among m.parameters 0 f.name.now.name → g.name ≡ f.name → g.number ≡ option_or (option_or f.number inner) outer
    → IsFound at 0 (uses_of m) (declarations_of m) g
method_found at own m inner outer f g long found near far kept is_number =
    let both = length-append m.parameters m.temporaries in
    let start : own ≡ 0 + own = omega arith in
    declared at 0 own (body_uses m.body) (m.parameters ++ m.temporaries) (body_declarations m.body) f g (omega arith)
    (subst (λ n. IsFound at n (body_uses m.body) (body_declarations m.body) f) start found) kept
    (is_number ∙ or_or f.number inner outer ∙ ap (option_or f.number) (ap (λ r. option_or r outer) near ∙ ap (option_or (number_among m.temporaries (length m.parameters) f.name.now.name)) far ∙ number_in_both m.parameters m.temporaries f.name.now.name))

pub method_passed : (at own next : ℕ) (m : MethodParts) → own ≡ length m.parameters + length m.temporaries → Walks at own (body_uses m.body) (body_declarations m.body) (Continue next) → Walks at 0 (uses_of m) (declarations_of m) (Continue next)
method_passed at own next m long passed =
    let both = length-append m.parameters m.temporaries in
    let start : own ≡ 0 + own = omega arith in
    undeclared at 0 own next (body_uses m.body) (m.parameters ++ m.temporaries) (body_declarations m.body) (omega arith)
    (subst (λ n. Walks at n (body_uses m.body) (body_declarations m.body) (Continue next)) start passed)

-- ---- the number of a name among others, at a step of a loop

pub number_found : (names : List NameAt) (first : ℕ) (word : List ℕ) (i : ℕ) (x : NameAt) (new : Option ℕ) → i < length names → x ≡ get_or names i x → bytes_eq word x.name ≡ true → new ≡ Some (first + i) → new ≡ number_among (take (i + 1) names) first word
number_found names first word i x new within is passed set =
    set ∙ ap (option_map (λ k. first + k)) (place_found (has_word word) names i x (Some i) within is passed refl)

pub number_kept : (names : List NameAt) (first : ℕ) (word : List ℕ) (i : ℕ) (x : NameAt) (new : Option ℕ) → i < length names → x ≡ get_or names i x → bytes_eq word x.name ≡ false → new ≡ number_among (take i names) first word → new ≡ number_among (take (i + 1) names) first word
number_kept names first word i x new within is failed kept =
    kept ∙ ap (option_map (λ k. first + k)) (place_kept (has_word word) names i x (last_place (has_word word) (take i names)) within is failed refl)
