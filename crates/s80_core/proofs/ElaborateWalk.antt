-- One step of the walk.
use Rattle.std.proofs.Common.{◌≡◌, ℕ, ◌+◌, ◌-◌, ◌<◌, ◌≤◌, Bool, true, false, cond, rules, if◌then◌else◌, List, [], ◌∷◌, ◌++◌, length, map, drop, take, get_or, refl, ap, ap₂, sym, ◌∙◌, subst, arith, tests, true≢false, Result, Ok, Err, IfOk, OnOk}
use Rattle.std.proofs.lemmas.List.{drop_all, drop_more, take-append-drop}
use Rattle.std.proofs.lemmas.List.Elements.{Contains-append_left, Contains-append_right}
use Rattle.std.specs.List.{Contains}
use Rattle.s80_tree.specs.Name.{names_of}
use Rattle.s80_tree.specs.declared.name.NameAt.{NameAt}
use Rattle.s80_tree.specs.declared.expr.Primary.{Primary}
use Rattle.s80_tree.specs.declared.expr.Primary.TheVariants as primary
use Rattle.s80_tree.specs.declared.expr.Expr.{Expr, out-Expr}
use Rattle.s80_tree.specs.declared.expr.Block.{Block, out-Block}
use Rattle.s80_tree.specs.declared.expr.Message.{Message, out-Message}
use Rattle.s80_tree.specs.declared.expr.Messages.{Messages, out-Messages}
use Rattle.s80_tree.specs.declared.expr.Body.{Body, out-Body}
use Rattle.s80_tree.proofs.lemmas.Lists.{body_open, map_append, messages_open}
use Rattle.s80_tree.specs.declared.expr.Stmt.{Stmt, out-Stmt}
use Rattle.s80_tree.specs.Tree.{ExprTree, ExprTrees, PrimaryTree, MessageTree, MessageTrees, BlockTree, BodyTree, StmtTree, expr, block, exprs, no_messages, messages, no_stmts, stmts, messages_from, body_from, expr_of, exprs_of, primary_of, body_of, message_of, messages_of, stmt_of, is_super}
use Rattle.s80_scope.specs.declared.fit.ending.Ending.{Ending}
use Rattle.s80_scope.specs.declared.fit.ending.Ending.TheVariants.{Sent, Cascaded, TwoArms, OneArm, Shortcut, Loop}
use Rattle.s80_scope.specs.FitStack.{expr_parameters, primary_parameters, messages_parameters, exprs_parameters, body_parameters}
use Rattle.s80_scope.specs.Inlined.{are_arms, branch, chain_ending, ending, expr_ending, is_inlined, is_loop, is_plain_block, message_ending, with_arms}
use Rattle.s80_scope.specs.Names.{expr_uses, primary_uses, messages_uses, exprs_uses, body_uses}
use Rattle.s80_scope.specs.Shape.{WhereTree}
use Rattle.s80_scope.specs.Walk.{last_has_arms}
use Rattle.s80_scope.proofs.lemmas.Counted.{IsMore, IsMoreStatements, next_arms}
use Rattle.s80_scope.proofs.lemmas.Endings.{ending_arms}
use Rattle.s80_tree.proofs.lemmas.Opens.{block_open, expr_open, message_open, primary_block, stmt_open}
use Rattle.s80_scope.proofs.lemmas.Opens.{messages_left, messages_next}
use Rattle.s80_core.specs.declared.core_tree.Core.{Core}
use Rattle.s80_core.specs.declared.elaboration.Enclosing.{Enclosing}
use Rattle.s80_core.specs.declared.elaboration.Enclosing.TheVariants as enclosing
use Rattle.s80_core.specs.declared.elaboration.Home.{Home}
use Rattle.s80_core.specs.Core.{CoreTree, CoreTrees, SendTree, SendTrees, before, core_of, cores, no_cores, no_sends, send, sends}
use Rattle.s80_core.specs.Elaborate.{arm_core, arms_core, body_core, chain_core, expr_core, exprs_core, last_core, last_statement, sends_core, statement}
use Rattle.s80_core.specs.Walk.{AreUsed, IsPart, cores_append, joined, sends_append}
use Rattle.s80_core.proofs.ElaborateLists.{cores_step, joined_push, sends_step}

-- ---- parts

module _ (home : Home) where
  pub part_of : (k n : ℕ) (uses : List NameAt) (j m : ℕ) (u : List NameAt) → IsPart home k uses n → ((x : NameAt) → Contains u x → Contains uses x) → j + m ≤ k + n → IsPart home j u m
  part_of k n uses j m u p within room = record { used = λ x c. p.used x (within x c); room = omega (arith, p.room, room) }

  pub front_part : (k n m : ℕ) (u v : List NameAt) → IsPart home k (u ++ v) (n + m) → IsPart home k u n
  front_part k n m u v p = part_of k (n + m) (u ++ v) k n u p (Contains-append_left u v) (omega arith)

  pub back_part : (k n m j : ℕ) (u v : List NameAt) → IsPart home k (u ++ v) (n + m) → j ≡ k + n → IsPart home j v m
  back_part k n m j u v p is = part_of k (n + m) (u ++ v) j m v p (Contains-append_right u v) (omega (arith, is))

  -- ---- an expression, with its parts
  module _ (k : ℕ) (t : ExprTree) (ns : List NameAt) (p : PrimaryTree) (ms cs : MessageTrees) (whole : t ≡ expr ns p ms cs) (part : IsPart home k (expr_uses t) (expr_parameters t)) where
    opened : IsPart home k (ns ++ (primary_uses p ++ (messages_uses ms ++ messages_uses cs))) (primary_parameters p + messages_parameters ms + messages_parameters cs)
    opened = subst (λ e. IsPart home k (expr_uses e) (expr_parameters e)) whole part

    pub targets_used : AreUsed home ns
    targets_used x c = opened.used x (Contains-append_left ns _ x c)

    pub receiver_part : IsPart home k (primary_uses p) (primary_parameters p)
    receiver_part = part_of k (primary_parameters p + messages_parameters ms + messages_parameters cs) _ k (primary_parameters p) (primary_uses p) opened
        (λ x c. Contains-append_right ns _ x (Contains-append_left (primary_uses p) _ x c)) (omega arith)

    pub messages_part : (j : ℕ) → j ≡ k + primary_parameters p → IsPart home j (messages_uses ms) (messages_parameters ms)
    messages_part j is = part_of k (primary_parameters p + messages_parameters ms + messages_parameters cs) _ j (messages_parameters ms) (messages_uses ms) opened
        (λ x c. Contains-append_right ns _ x (Contains-append_right (primary_uses p) _ x (Contains-append_left (messages_uses ms) _ x c))) (omega (arith, is))

    pub cascades_part : (j i : ℕ) → j ≡ k + primary_parameters p → i ≡ j + messages_parameters ms → IsPart home i (messages_uses cs) (messages_parameters cs)
    cascades_part j i is after = part_of k (primary_parameters p + messages_parameters ms + messages_parameters cs) _ i (messages_parameters cs) (messages_uses cs) opened
        (λ x c. Contains-append_right ns _ x (Contains-append_right (primary_uses p) _ x (Contains-append_right (messages_uses ms) _ x c))) (omega (arith, is, after))

-- ---- endings

not_a_loop : (s : List ℕ) → is_loop (branch s) ≡ true → false ≡ true
not_a_loop s h = search (rules, tests)

message_plain : (a b : Bool) (s : List ℕ) (es : ExprTrees) → is_loop (message_ending a b s es) ≡ true → b ≡ true
message_plain a b s es h = by_test (are_arms es) a b h
  where
    by_test : (t a b : Bool) → is_loop (if t then with_arms a b s else Sent) ≡ true → b ≡ true
    by_test t a true h = refl
    by_test true true false h = h
    by_test true false false h = not_a_loop s h
    by_test false a false h = h

chain_plain : (a b : Bool) (ms : MessageTrees) → is_loop (chain_ending a b ms) ≡ true → b ≡ true
chain_plain a b no_messages h = absurd (true≢false (sym h))
chain_plain a b (messages s es no_messages) h = message_plain a b s es h
chain_plain a b (messages s es (messages t fs ms)) h = absurd (true≢false (sym (chain_plain false false (messages t fs ms) h)))

loop_plain : (p : PrimaryTree) (ms cs : MessageTrees) → is_loop (ending p ms cs) ≡ true → is_plain_block p ≡ true
loop_plain p ms no_messages h = chain_plain (is_super p) (is_plain_block p) ms h
loop_plain p ms (messages s es cs) h = absurd (true≢false (sym h))

module _ (t : ExprTree) (ns : List NameAt) (p : PrimaryTree) (ms cs : MessageTrees) (last : Ending) (whole : t ≡ expr ns p ms cs) (is : last ≡ expr_ending t) where
  pub receiver_plain : (looped : Bool) → looped ≡ is_loop last → looped ≡ true → is_plain_block p ≡ true
  receiver_plain looped same looping = loop_plain p ms cs (sym (same ∙ ap is_loop (is ∙ ap expr_ending whole)) ∙ looping)

  pub messages_arms : is_inlined last ≡ true → last_has_arms ms ≡ true
  messages_arms inlined = ending_arms p ms cs (sym (ap is_inlined (is ∙ ap expr_ending whole)) ∙ inlined)

-- ---- blocks

pub block_is : (p : Primary) (b : Block) → p ≡ primary.Block b → primary_of p ≡ block (names_of (out-Block b).parameters) (body_of (out-Block b).body)
block_is p b is = ap primary_of is ∙ primary_block b ∙ ap (λ (x : BlockTree). block x.0 x.1) (block_open b)

-- ---- messages but the last, and the last

pub more_messages : (xs : List Message) (y : Message) → IsMore (messages_from (map message_of (xs ++ y ∷ [])))
more_messages [] y = tt
more_messages (x ∷ xs) y = tt

abbrev pub chain_left : List Message → Message → ℕ → MessageTrees
chain_left xs y i = messages_from (map message_of (drop i xs ++ y ∷ []))

pub chain_next : (xs : List Message) (y : Message) (i : ℕ) (x : Message) → i < length xs → x ≡ get_or xs i x → chain_left xs y i ≡ messages (out-Message x).selector (exprs_of (out-Message x).arguments) (chain_left xs y (i + 1))
chain_next xs y i x within is =
    ap (λ l. messages_from (map message_of (l ++ y ∷ []))) (drop_more xs i x within ∙ ap (λ z. z ∷ drop (i + 1) xs) (sym is))
    ∙ ap (λ (m : MessageTree). messages m.0 m.1 (chain_left xs y (i + 1))) (message_open x)

pub chain_last : (xs : List Message) (y : Message) (i : ℕ) → length xs ≤ i → chain_left xs y i ≡ messages (out-Message y).selector (exprs_of (out-Message y).arguments) no_messages
chain_last xs y i past = ap (λ l. messages_from (map message_of (l ++ y ∷ []))) (drop_all i xs past) ∙ ap (λ (m : MessageTree). messages m.0 m.1 no_messages) (message_open y)

module _ (meaning : NameAt → WhereTree) where
  sent_first : (r : CoreTree) (to_super : Bool) (last : Ending) (k : ℕ) (more : SendTrees) (s : List ℕ) (es : ExprTrees) (ms : MessageTrees) → IsMore ms
      → chain_core meaning r to_super last k more (messages s es ms) ≡ chain_core meaning (send r to_super s (exprs_core meaning k es)) false last (k + exprs_parameters es) more ms
  sent_first r to_super last k more s es no_messages some = absurd some
  sent_first r to_super last k more s es (messages t fs ms) some = refl

  pub chain_step : (k j : ℕ) (r next : CoreTree) (to_super passed : Bool) (last : Ending) (s : List ℕ) (es : ExprTrees) (left ms : MessageTrees) (whole : SendTrees → CoreTree)
      → ((more : SendTrees) → chain_core meaning r to_super last k more left ≡ whole more) → left ≡ messages s es ms → IsMore ms
      → next ≡ send r to_super s (exprs_core meaning k es) → passed ≡ false → j ≡ k + exprs_parameters es
      → (more : SendTrees) → chain_core meaning next passed last j more ms ≡ whole more
  chain_step k j r next to_super passed last s es left ms whole goes split some sent others after more =
      (λ x. chain_core meaning (sent x) (others x) last (after x) more ms) ∙ sym (sent_first r to_super last k more s es ms some)
      ∙ ap (chain_core meaning r to_super last k more) (sym split) ∙ goes more

  last_same : (last : Ending) (r : CoreTree) (to_super : Bool) (s : List ℕ) (es arms : CoreTrees) (more : SendTrees) → last_core last r to_super s (cond (is_inlined last) arms es) (cond (is_inlined last) arms es) more ≡ last_core last r to_super s es arms more
  last_same Sent r to_super s es arms more = refl
  last_same Cascaded r to_super s es arms more = refl
  last_same (TwoArms on) r to_super s es arms more = refl
  last_same (OneArm on) r to_super s es arms more = refl
  last_same (Shortcut on) r to_super s es arms more = refl
  last_same (Loop on) r to_super s es arms more = refl

  pub chain_end : (k : ℕ) (r : CoreTree) (to_super : Bool) (last : Ending) (s copy : List ℕ) (es : ExprTrees) (arguments : CoreTrees) (left : MessageTrees) (whole : SendTrees → CoreTree)
      → ((more : SendTrees) → chain_core meaning r to_super last k more left ≡ whole more) → left ≡ messages s es no_messages → copy ≡ s
      → arguments ≡ cond (is_inlined last) (arms_core meaning k es) (exprs_core meaning k es)
      → (more : SendTrees) → last_core last r to_super copy arguments arguments more ≡ whole more
  chain_end k r to_super last s copy es arguments left whole goes split same made more =
      (λ x. last_core last r to_super (same x) (made x) (made x) more) ∙ last_same last r to_super s (exprs_core meaning k es) (arms_core meaning k es) more
      ∙ ap (chain_core meaning r to_super last k more) (sym split) ∙ goes more

module _ (home : Home) (k : ℕ) (left ms : MessageTrees) (s : List ℕ) (es : ExprTrees) (split : left ≡ messages s es ms) where
  opened_messages : IsPart home k (messages_uses left) (messages_parameters left) → IsPart home k (exprs_uses es ++ messages_uses ms) (exprs_parameters es + messages_parameters ms)
  opened_messages part = subst (λ l. IsPart home k (messages_uses l) (messages_parameters l)) split part

  pub arguments_part : IsPart home k (messages_uses left) (messages_parameters left) → IsPart home k (exprs_uses es) (exprs_parameters es)
  arguments_part part = front_part home k (exprs_parameters es) (messages_parameters ms) (exprs_uses es) (messages_uses ms) (opened_messages part)

  pub others_part : (j : ℕ) → j ≡ k + exprs_parameters es → IsPart home k (messages_uses left) (messages_parameters left) → IsPart home j (messages_uses ms) (messages_parameters ms)
  others_part j is part = back_part home k (exprs_parameters es) (messages_parameters ms) j (exprs_uses es) (messages_uses ms) (opened_messages part) is

  pub others_count : (j n : ℕ) → j ≡ k + exprs_parameters es → k + messages_parameters left ≡ n → j + messages_parameters ms ≡ n
  others_count j n is count = let same = ap messages_parameters split in omega (arith, is, count, same)

  pub others_arms : (last : Ending) → (is_inlined last ≡ true → last_has_arms left ≡ true) → is_inlined last ≡ true → last_has_arms ms ≡ true
  others_arms last arms inlined = next_arms s es ms (sym (ap last_has_arms split) ∙ arms inlined)

pub last_arms : (left : MessageTrees) (s : List ℕ) (es : ExprTrees) (last : Ending) → left ≡ messages s es no_messages → (is_inlined last ≡ true → last_has_arms left ≡ true) → is_inlined last ≡ true → are_arms es ≡ true
last_arms left s es last split arms inlined = sym (ap last_has_arms split) ∙ arms inlined

-- ---- arguments

module _ (home : Home) (k : ℕ) (left es : ExprTrees) (e : ExprTree) (split : left ≡ exprs e es) where
  opened_exprs : IsPart home k (exprs_uses left) (exprs_parameters left) → IsPart home k (expr_uses e ++ exprs_uses es) (expr_parameters e + exprs_parameters es)
  opened_exprs part = subst (λ l. IsPart home k (exprs_uses l) (exprs_parameters l)) split part

  pub argument_part : IsPart home k (exprs_uses left) (exprs_parameters left) → IsPart home k (expr_uses e) (expr_parameters e)
  argument_part part = front_part home k (expr_parameters e) (exprs_parameters es) (expr_uses e) (exprs_uses es) (opened_exprs part)

  pub further_part : (j : ℕ) → j ≡ k + expr_parameters e → IsPart home k (exprs_uses left) (exprs_parameters left) → IsPart home j (exprs_uses es) (exprs_parameters es)
  further_part j is part = back_part home k (expr_parameters e) (exprs_parameters es) j (expr_uses e) (exprs_uses es) (opened_exprs part) is

  pub further_count : (j n : ℕ) → j ≡ k + expr_parameters e → k + exprs_parameters left ≡ n → j + exprs_parameters es ≡ n
  further_count j n is count = let same = ap exprs_parameters split in omega (arith, is, count, same)

-- ---- statements

pub more_statements : (xs : List Stmt) (y : Stmt) → IsMoreStatements (body_from (map stmt_of (xs ++ y ∷ [])))
more_statements [] y = tt
more_statements (x ∷ xs) y = tt

abbrev pub body_left : List Stmt → Stmt → ℕ → BodyTree
body_left xs y i = body_from (map stmt_of (drop i xs ++ y ∷ []))

pub body_next : (xs : List Stmt) (y : Stmt) (i : ℕ) (x : Stmt) → i < length xs → x ≡ get_or xs i x → body_left xs y i ≡ stmts (out-Stmt x).returns (expr_of (out-Stmt x).expr) (body_left xs y (i + 1))
body_next xs y i x within is =
    ap (λ l. body_from (map stmt_of (l ++ y ∷ []))) (drop_more xs i x within ∙ ap (λ z. z ∷ drop (i + 1) xs) (sym is))
    ∙ ap (λ (s : StmtTree). stmts s.0 s.1 (body_left xs y (i + 1))) (stmt_open x)

pub body_last : (xs : List Stmt) (y : Stmt) (i : ℕ) → length xs ≤ i → body_left xs y i ≡ stmts (out-Stmt y).returns (expr_of (out-Stmt y).expr) no_stmts
body_last xs y i past = ap (λ l. body_from (map stmt_of (l ++ y ∷ []))) (drop_all i xs past) ∙ ap (λ (s : StmtTree). stmts s.0 s.1 no_stmts) (stmt_open y)

module _ (meaning : NameAt → WhereTree) (within : Enclosing) where
  first_statement : (k : ℕ) (r : Bool) (e : ExprTree) (ss : BodyTree) → IsMoreStatements ss
      → body_core meaning within k (stmts r e ss) ≡ before (statement r e (expr_core meaning k e)) (body_core meaning within (k + expr_parameters e) ss)
  first_statement k r e no_stmts some = absurd some
  first_statement k r e (stmts q f ss) some = refl

  pub body_step : (k j : ℕ) (made next : List CoreTree) (core v whole : CoreTree) (r : Bool) (e : ExprTree) (left ss : BodyTree)
      → joined made (body_core meaning within k left) ≡ whole → left ≡ stmts r e ss → IsMoreStatements ss
      → v ≡ expr_core meaning k e → core ≡ statement r e v → next ≡ made ++ core ∷ [] → j ≡ k + expr_parameters e
      → joined next (body_core meaning within j ss) ≡ whole
  body_step k j made next core v whole r e left ss goes split some valued stated pushed after =
      (λ x. joined (pushed x) (body_core meaning within (after x) ss))
      ∙ joined_push made core (body_core meaning within (k + expr_parameters e) ss)
      ∙ ap (λ c. joined made (before c (body_core meaning within (k + expr_parameters e) ss))) (stated ∙ ap (statement r e) valued)
      ∙ ap (joined made) (sym (ap (body_core meaning within k) split ∙ first_statement k r e ss some)) ∙ goes

  pub body_end : (k : ℕ) (made : List CoreTree) (end v result whole : CoreTree) (r : Bool) (e : ExprTree) (left : BodyTree)
      → joined made (body_core meaning within k left) ≡ whole → left ≡ stmts r e no_stmts → v ≡ expr_core meaning k e → end ≡ last_statement within r e v
      → result ≡ joined made end → result ≡ whole
  body_end k made end v result whole r e left goes split valued ended done =
      done ∙ ap (joined made) (ended ∙ ap (last_statement within r e) valued ∙ sym (ap (body_core meaning within k) split)) ∙ goes

module _ (home : Home) (k : ℕ) (left ss : BodyTree) (r : Bool) (e : ExprTree) (split : left ≡ stmts r e ss) where
  opened_body : IsPart home k (body_uses left) (body_parameters left) → IsPart home k (expr_uses e ++ body_uses ss) (expr_parameters e + body_parameters ss)
  opened_body part = subst (λ l. IsPart home k (body_uses l) (body_parameters l)) split part

  pub statement_part : IsPart home k (body_uses left) (body_parameters left) → IsPart home k (expr_uses e) (expr_parameters e)
  statement_part part = front_part home k (expr_parameters e) (body_parameters ss) (expr_uses e) (body_uses ss) (opened_body part)

  pub statements_part : (j : ℕ) → j ≡ k + expr_parameters e → IsPart home k (body_uses left) (body_parameters left) → IsPart home j (body_uses ss) (body_parameters ss)
  statements_part j is part = back_part home k (expr_parameters e) (body_parameters ss) j (expr_uses e) (body_uses ss) (opened_body part) is

  pub statements_count : (j n : ℕ) → j ≡ k + expr_parameters e → k + body_parameters left ≡ n → j + body_parameters ss ≡ n
  statements_count j n is count = let same = ap body_parameters split in omega (arith, is, count, same)

-- ---- a list as all but the last, and the last

front_and_last : {X : Type 0} (xs : List X) (x : X) → 1 ≤ length xs → x ≡ get_or xs (length xs - 1) x → take (length xs - 1) xs ++ x ∷ [] ≡ xs
front_and_last xs x some is =
    ap (λ l. take (length xs - 1) xs ++ l) (sym (drop_more xs (length xs - 1) x (omega (arith, some)) ∙ ap₂ (λ y l. y ∷ l) (sym is) (drop_all (length xs - 1 + 1) xs (omega (arith, some)))))
    ∙ take-append-drop (length xs - 1) xs

pub whole_body : (b : Body) (xs : List Stmt) (x : Stmt) → xs ≡ (out-Body b).items.items → 1 ≤ length xs → x ≡ get_or xs (length xs - 1) x → body_from (map stmt_of (take (length xs - 1) xs ++ x ∷ [])) ≡ body_of b
whole_body b xs x listed some is = ap (λ l. body_from (map stmt_of l)) (front_and_last xs x some is ∙ listed) ∙ sym (body_open b)

pub whole_chain : (ms : Messages) (xs : List Message) (x : Message) → xs ≡ (out-Messages ms).items.items → 1 ≤ length xs → x ≡ get_or xs (length xs - 1) x → messages_from (map message_of (take (length xs - 1) xs ++ x ∷ [])) ≡ messages_of ms
whole_chain ms xs x listed some is = ap (λ l. messages_from (map message_of l)) (front_and_last xs x some is ∙ listed) ∙ sym (messages_open ms)

-- ---- the lists that are made

pub exprs_step : (meaning : NameAt → WhereTree) (k j : ℕ) (made next all : CoreTrees) (left es : ExprTrees) (e : ExprTree) (core : CoreTree) → cores_append made (exprs_core meaning k left) ≡ all → left ≡ exprs e es
    → core ≡ expr_core meaning k e → j ≡ k + expr_parameters e → next ≡ cores_append made (cores core no_cores) → cores_append next (exprs_core meaning j es) ≡ all
exprs_step meaning k j made next all left es e core goes split same after pushed =
    ap (λ n. cores_append next (exprs_core meaning n es)) after
    ∙ cores_step made next all (exprs_core meaning k left) (exprs_core meaning (k + expr_parameters e) es) (expr_core meaning k e) core goes (ap (exprs_core meaning k) split) same pushed

pub arms_step : (meaning : NameAt → WhereTree) (k j : ℕ) (made next all : CoreTrees) (left es : ExprTrees) (e : ExprTree) (core : CoreTree) → cores_append made (arms_core meaning k left) ≡ all → left ≡ exprs e es
    → core ≡ arm_core meaning k e → j ≡ k + expr_parameters e → next ≡ cores_append made (cores core no_cores) → cores_append next (arms_core meaning j es) ≡ all
arms_step meaning k j made next all left es e core goes split same after pushed =
    ap (λ n. cores_append next (arms_core meaning n es)) after
    ∙ cores_step made next all (arms_core meaning k left) (arms_core meaning (k + expr_parameters e) es) (arm_core meaning k e) core goes (ap (arms_core meaning k) split) same pushed

pub cascade_step : (meaning : NameAt → WhereTree) (k j : ℕ) (made next all : SendTrees) (left ms : MessageTrees) (s : List ℕ) (es : ExprTrees) (copy : List ℕ) (arguments : CoreTrees) (message : SendTree)
    → sends_append made (sends_core meaning k left) ≡ all → left ≡ messages s es ms → copy ≡ s → arguments ≡ exprs_core meaning k es → message ≡ (copy, arguments) → j ≡ k + exprs_parameters es
    → next ≡ sends_append made (sends message.0 message.1 no_sends) → sends_append next (sends_core meaning j ms) ≡ all
cascade_step meaning k j made next all left ms s es copy arguments message goes split same valued whole after pushed =
    ap (λ n. sends_append next (sends_core meaning n ms)) after
    ∙ sends_step made next all (sends_core meaning k left) (sends_core meaning (k + exprs_parameters es) ms) s (exprs_core meaning k es) goes (ap (sends_core meaning k) split)
    (pushed ∙ ap (λ (m : SendTree). sends_append made (sends m.0 m.1 no_sends)) (whole ∙ (λ i. (same i, valued i))))

pub message_next : (xs : List Message) (i : ℕ) (x : Message) → i < length xs → x ≡ get_or xs i x → messages_left xs i ≡ messages (out-Message x).selector (exprs_of (out-Message x).arguments) (messages_left xs (i + 1))
message_next xs i x within is = messages_next xs i x within is ∙ ap (λ (m : MessageTree). messages m.0 m.1 (messages_left xs (i + 1))) (message_open x)

pub pushed_cores : (old new : List Core) (c : Core) → new ≡ old ++ c ∷ [] → map core_of new ≡ map core_of old ++ core_of c ∷ []
pushed_cores old new c pushed = ap (map core_of) pushed ∙ map_append core_of old (c ∷ [])

-- ---- ends of walks

pub body_result : {E : Type 0} (meaning : NameAt → WhereTree) (within : Enclosing) (k : ℕ) (made : List CoreTree) (end last : CoreTree) (result : Result Core E) (whole : CoreTree) (r : Bool) (e : ExprTree) (left : BodyTree)
    → joined made (body_core meaning within k left) ≡ whole → left ≡ stmts r e no_stmts → last ≡ expr_core meaning k e → end ≡ last_statement within r e last
    → IfOk result (λ core. core_of core ≡ joined made end) → IfOk result (λ core. core_of core ≡ whole)
body_result meaning within k made end last (Ok core) whole r e left goes split valued ended done = body_end meaning within k made end last (core_of core) whole r e left goes split valued ended done
body_result meaning within k made end last (Err f) whole r e left goes split valued ended done = tt

pub body_counted : (k j n : ℕ) (left : BodyTree) (r : Bool) (e : ExprTree) → left ≡ stmts r e no_stmts → j ≡ k + expr_parameters e → k + body_parameters left ≡ n → j ≡ n
body_counted k j n left r e split after count = let same = ap body_parameters split in omega (arith, after, count, same)

pub chain_counted : (k j n : ℕ) (left : MessageTrees) (s : List ℕ) (es : ExprTrees) → left ≡ messages s es no_messages → j ≡ k + exprs_parameters es → k + messages_parameters left ≡ n → j ≡ n
chain_counted k j n left s es split after count = let same = ap messages_parameters split in omega (arith, after, count, same)

pub always_ok : {P E : Type 0} (result : Result Core E) → P → OnOk result P
always_ok (Ok core) p = p
always_ok (Err f) p = tt

-- ---- arms

pub arm_whole : {E : Type 0} (meaning : NameAt → WhereTree) (k : ℕ) (e : Expr) (b : Block) (result : Result Core E) → (out-Expr e).receiver ≡ primary.Block b
    → IfOk result (λ core. core_of core ≡ body_core meaning enclosing.Arm k (body_of (out-Block b).body)) → IfOk result (λ core. core_of core ≡ arm_core meaning k (expr_of e))
arm_whole meaning k e b result is =
    subst (λ t. IfOk result (λ core. core_of core ≡ t))
    (sym (ap (arm_core meaning k) (expr_open e ∙ ap (λ p. expr (names_of (out-Expr e).targets) p (messages_of (out-Expr e).messages) (messages_of (out-Expr e).cascades)) (block_is (out-Expr e).receiver b is))))
