-- Tokens printed one after another.
use Rattle.std.proofs.Common.{◌≡◌, ℕ, zero, suc, decimal, ◌+◌, ◌-◌, ◌<◌, ◌≤◌, List, [], ◌∷◌, ◌++◌, Bool, true, false, cond, not, ◌||◌, ◌==◌, Result, Ok, Err, IfOk, OnOk, length, map, take, drop, get_or, refl, ap, sym, ◌∙◌, subst, arith, if◌then◌else◌, length-append, length-take-le, append_assoc}
use Rattle.std.specs.List.{position_or_len}
use Rattle.std.proofs.lemmas.Bool.{eqb-true}
use Rattle.std.proofs.lemmas.List.{drop_all, drop_more, take_at, take_rest}
use Rattle.std.proofs.lemmas.List.Sums.{split_at_first, passes_at_first}
use Rattle.s80_base.specs.Literal.{LiteralTrees, literal_of, literals_from, literals_of}
use Rattle.s80_base.specs.declared.literal.Literal.{Literal}
use Rattle.s80_base.specs.declared.literal.Literals.{Literals, out-Literals}
use Rattle.s80_base.proofs.lemmas.Lists.{literals_open}
use Rattle.s80_lex.specs.declared.token.TokenKind.TheVariants as kind
use Rattle.s80_lex.specs.Number.{before, behind, has}
use Rattle.s80_lex.specs.Spelling.{begins_with, keyword}
use Rattle.s80_syntax.specs.Lexeme.{Lexemes}
use Rattle.s80_syntax.specs.Word.{bar, greater, less, primitive_word}
use Rattle.s80_tree.specs.declared.name.NameAt.{NameAt}
use Rattle.s80_tree.specs.Tree.{ExprTrees, MessageTrees, BodyTree, MethodParts, exprs_from, messages_from, body_from, exprs_list, body_list, exprs_of, expr_of, messages_of, message_of, body_of, stmt_of, no_exprs, exprs, no_stmts, stmts}
use Rattle.s80_tree.specs.declared.expr.Expr.{Expr}
use Rattle.s80_tree.specs.declared.expr.Exprs.{Exprs, out-Exprs}
use Rattle.s80_tree.specs.declared.expr.Message.{Message}
use Rattle.s80_tree.specs.declared.expr.Messages.{Messages, out-Messages}
use Rattle.s80_tree.specs.declared.expr.Stmt.{Stmt}
use Rattle.s80_tree.specs.declared.expr.Body.{Body, out-Body}
use Rattle.s80_tree.proofs.lemmas.Lists.{exprs_open, messages_open, body_open}
use Rattle.s80_decompile.specs.declared.printer.Printer.{Printer}
use Rattle.s80_decompile.specs.Printed.{Prints, printed}
use Rattle.s80_decompile.specs.TreeText.{HasTree, method_text}
use Rattle.s80_decompile.specs.TreeTokens.{bar_tokens, body_tokens, caret_tokens, expr_tokens, message_tokens, name_tokens, number_tokens, part_token, parts_tokens, period_if, period_tokens, primitive_tokens, sign, temporary_tokens, token}
use Rattle.s80_decompile.proofs.Selecting.{has_mark}

-- ---- one thing behind another

pub prints_both : (old mid new : Printer) (f g : Lexemes → Lexemes) → Prints old mid f → Prints mid new g → Prints old new (λ more. f (g more))
prints_both old mid new f g h k = λ more. k more ∙ h (g more)

pub then_prints : {E : Type 0} (r : Result (Unit {0}) E) (old mid new : Printer) (f g : Lexemes → Lexemes) → Prints old mid f → OnOk r (Prints mid new g) → OnOk r (Prints old new (λ more. f (g more)))
then_prints (Ok x) old mid new f g h k = prints_both old mid new f g h k
then_prints (Err e) old mid new f g h k = tt

-- the same tokens, in other words
pub prints_as : {E : Type 0} (r : Result (Unit {0}) E) (old new : Printer) (f g : Lexemes → Lexemes) → ((more : Lexemes) → f more ≡ g more) → OnOk r (Prints old new f) → OnOk r (Prints old new g)
prints_as (Ok x) old new f g e h = λ more. h more ∙ ap (printed old) (e more)
prints_as (Err x) old new f g e h = tt

-- ---- lists

-- what is left of a list, behind what was printed, is printed as all of it
abbrev pub Still : Printer → Printer → (Lexemes → Lexemes) → (Lexemes → Lexemes) → Type 0
Still old now left all = (more : Lexemes) → printed now (left more) ≡ printed old (all more)

pub left_at : {X : Type 0} (xs : List X) (i : ℕ) (x : X) → i < length xs → x ≡ get_or xs i x → drop i xs ≡ x ∷ drop (i + 1) xs
left_at xs i x within is = drop_more xs i x within ∙ ap (λ y. y ∷ drop (i + 1) xs) (sym is)

module _ {X : Type 0} (tokens : List X → Lexemes → Lexemes) (old now : Printer) (all : Lexemes → Lexemes) (xs : List X) (i : ℕ) where
  pub still_step : (next : Printer) (one : Lexemes → Lexemes) (x : X) → ((rest : List X) (more : Lexemes) → tokens (x ∷ rest) more ≡ one (tokens rest more)) → i < length xs → x ≡ get_or xs i x
      → Still old now (tokens (drop i xs)) all → Prints now next one → Still old next (tokens (drop (i + 1) xs)) all
  still_step next one x cons within is h p = λ more.
      p (tokens (drop (i + 1) xs) more) ∙ ap (printed now) (sym (ap (λ l. tokens l more) (left_at xs i x within is) ∙ cons (drop (i + 1) xs) more)) ∙ h more

  pub still_end : ((more : Lexemes) → tokens [] more ≡ more) → length xs ≤ i → Still old now (tokens (drop i xs)) all → Prints old now all
  still_end none past h = λ more. ap (printed now) (sym (ap (λ l. tokens l more) (drop_all i xs past) ∙ none more)) ∙ h more

-- with the keywords of a selector
module _ {X : Type 0} (tokens : List X → List ℕ → Lexemes → Lexemes) (old now : Printer) (all : Lexemes → Lexemes) (xs : List X) (i : ℕ) (s : List ℕ) where
  pub part_step : (mid next : Printer) (one : Lexemes → Lexemes) (x : X) (w : List ℕ) → ((rest : List X) (more : Lexemes) → tokens (x ∷ rest) s more ≡ part_token s ∷ one (tokens rest (behind 58 s) more)) → i < length xs → x ≡ get_or xs i x
      → Still old now (tokens (drop i xs) s) all → Prints now mid (λ more. part_token s ∷ more) → Prints mid next one → w ≡ behind 58 s → Still old next (tokens (drop (i + 1) xs) w) all
  part_step mid next one x w cons within is h p q e = λ more.
      ap (λ v. printed next (tokens (drop (i + 1) xs) v more)) e
      ∙ q (tokens (drop (i + 1) xs) (behind 58 s) more) ∙ p (one (tokens (drop (i + 1) xs) (behind 58 s) more))
      ∙ ap (printed now) (sym (ap (λ l. tokens l s more) (left_at xs i x within is) ∙ cons (drop (i + 1) xs) more)) ∙ h more

  pub part_end : ((more : Lexemes) → tokens [] s more ≡ more) → length xs ≤ i → Still old now (tokens (drop i xs) s) all → Prints old now all
  part_end none past h = λ more. ap (printed now) (sym (ap (λ l. tokens l s more) (drop_all i xs past) ∙ none more)) ∙ h more

-- the bytes of a name
pub named : (old new : Printer) (n : NameAt) (bytes : List ℕ) → bytes ≡ n.name → Prints old new (λ more. token kind.Name bytes ∷ more) → Prints old new (λ more. token kind.Name n.name ∷ more)
named old new n bytes e h = λ more. h more ∙ ap (λ b. printed old (token kind.Name b ∷ more)) e

-- ---- lists of trees

abbrev pub exprs_in : List Expr → ExprTrees
exprs_in xs = exprs_from (map expr_of xs)

abbrev pub messages_in : List Message → MessageTrees
messages_in xs = messages_from (map message_of xs)

abbrev pub stmts_in : List Stmt → BodyTree
stmts_in xs = body_from (map stmt_of xs)

abbrev pub literals_in : List Literal → LiteralTrees
literals_in xs = literals_from (map literal_of xs)

pub exprs_all : (es : Exprs) (xs : List Expr) → xs ≡ (out-Exprs es).items.items → exprs_in xs ≡ exprs_of es
exprs_all es xs e = ap exprs_in e ∙ sym (exprs_open es)

pub messages_all : (ms : Messages) (xs : List Message) → xs ≡ (out-Messages ms).items.items → messages_in xs ≡ messages_of ms
messages_all ms xs e = ap messages_in e ∙ sym (messages_open ms)

pub stmts_all : (b : Body) (xs : List Stmt) → xs ≡ (out-Body b).items.items → stmts_in xs ≡ body_of b
stmts_all b xs e = ap stmts_in e ∙ sym (body_open b)

pub literals_all : (vs : Literals) (xs : List Literal) → xs ≡ (out-Literals vs).items.items → literals_in xs ≡ literals_of vs
literals_all vs xs e = ap literals_in e ∙ sym (literals_open vs)

-- statements behind others, or the first
abbrev pub following : Bool → BodyTree → Lexemes → Lexemes
following true ss more = period_tokens ss (body_tokens ss more)
following false ss more = body_tokens ss more

follows_next : (follows r : Bool) (e : _) (ss : BodyTree) (more : Lexemes) → following follows (stmts r e ss) more ≡ period_if follows (caret_tokens r (expr_tokens e (following true ss more)))
follows_next true r e ss more = refl
follows_next false r e ss more = refl

follows_none : (follows : Bool) (more : Lexemes) → following follows no_stmts more ≡ more
follows_none true more = refl
follows_none false more = refl

module _ (old now : Printer) (all : Lexemes → Lexemes) (xs : List Stmt) (i : ℕ) (follows : Bool) where
  pub statement_step : (mid next : Printer) (x : Stmt) → i < length xs → x ≡ get_or xs i x → Still old now (following follows (stmts_in (drop i xs))) all → Prints now mid (period_if follows)
      → Prints mid next (λ more. caret_tokens (stmt_of x).0 (expr_tokens (stmt_of x).1 more)) → Still old next (following true (stmts_in (drop (i + 1) xs))) all
  statement_step mid next x within is h p q = λ more.
      let ss : BodyTree = stmts_in (drop (i + 1) xs) in
      q (following true ss more) ∙ p (caret_tokens (stmt_of x).0 (expr_tokens (stmt_of x).1 (following true ss more)))
      ∙ ap (printed now) (sym (ap (λ l. following follows (stmts_in l) more) (left_at xs i x within is) ∙ follows_next follows (stmt_of x).0 (stmt_of x).1 ss more)) ∙ h more

  pub statements_end : length xs ≤ i → Still old now (following follows (stmts_in (drop i xs))) all → Prints old now all
  statements_end past h = λ more. ap (printed now) (sym (ap (λ l. following follows (stmts_in l) more) (drop_all i xs past) ∙ follows_none follows more)) ∙ h more

-- ---- choices

pub number_printed : {E : Type 0} (r : Result (Unit {0}) E) (old mid new : Printer) (bytes : List ℕ) → begins_with 45 bytes ≡ true → Prints old mid (λ more. sign ∷ more) → OnOk r (Prints mid new (λ more. token kind.Number (take (length bytes - 1) (drop 1 bytes)) ∷ more))
    → OnOk r (Prints old new (number_tokens bytes))
number_printed r old mid new bytes e h k =
    prints_as r old new (λ more. sign ∷ token kind.Number (take (length bytes - 1) (drop 1 bytes)) ∷ more) (number_tokens bytes)
    (λ more. ap (λ b. sign ∷ token kind.Number b ∷ more) (take_rest bytes 1) ∙ sym (ap (λ t. if t then (sign ∷ token kind.Number (drop 1 bytes) ∷ more) else (token kind.Number bytes ∷ more)) e))
    (then_prints r old mid new (λ more. sign ∷ more) (λ more. token kind.Number (take (length bytes - 1) (drop 1 bytes)) ∷ more) h k)

pub plain_printed : {E : Type 0} (r : Result (Unit {0}) E) (old new : Printer) (bytes : List ℕ) → begins_with 45 bytes ≡ false → OnOk r (Prints old new (λ more. token kind.Number bytes ∷ more)) → OnOk r (Prints old new (number_tokens bytes))
plain_printed r old new bytes e h =
    prints_as r old new (λ more. token kind.Number bytes ∷ more) (number_tokens bytes) (λ more. sym (ap (λ t. if t then (sign ∷ token kind.Number (drop 1 bytes) ∷ more) else (token kind.Number bytes ∷ more)) e)) h

colon_found : (s : List ℕ) (place : ℕ) → place ≡ position_or_len (λ b. b == 58) s → place < length s → s ≡ before 58 s ++ 58 ∷ behind 58 s
colon_found s place e lt =
    let within : position_or_len (λ b. b == 58) s < length s = subst (λ n. n < length s) e lt in
    let colon : get_or s (position_or_len (λ b. b == 58) s) 0 ≡ 58 = eqb-true _ 58 (passes_at_first (λ b. b == 58) s 0 within) in
    split_at_first (λ b. b == 58) s 0 within ∙ ap (λ b. before 58 s ++ b ∷ behind 58 s) colon

none_more : (b : ℕ) (s : List ℕ) (t : Bool) → (b == 58) ≡ t → (length s ≤ position_or_len (λ c. c == 58) s → has 58 s ≡ false) → length (b ∷ s) ≤ position_or_len (λ c. c == 58) (b ∷ s) → has 58 (b ∷ s) ≡ false
none_more b s true e more h = absurd (let n : position_or_len (λ c. c == 58) (b ∷ s) ≡ 0 = ap (λ t. cond (not t) (1 + position_or_len (λ c. c == 58) s) 0) e in omega (arith, n, h))
none_more b s false e more h =
    let n : position_or_len (λ c. c == 58) (b ∷ s) ≡ 1 + position_or_len (λ c. c == 58) s = ap (λ t. cond (not t) (1 + position_or_len (λ c. c == 58) s) 0) e in
    ap (λ t. t || has 58 s) e ∙ more (omega (arith, n, h))

none_has : (s : List ℕ) → length s ≤ position_or_len (λ b. b == 58) s → has 58 s ≡ false
none_has [] h = refl
none_has (b ∷ s) h = none_more b s (b == 58) refl (λ k. none_has s k) h

pub keyword_printed : {E : Type 0} (r : Result (Unit {0}) E) (old new : Printer) (s : List ℕ) (place : ℕ) → place ≡ position_or_len (λ b. b == 58) s → place < length s → OnOk r (Prints old new (λ more. token kind.Keyword (take (place + 1) s) ∷ more))
    → OnOk r (Prints old new (λ more. part_token s ∷ more))
keyword_printed r old new s place e lt h =
    let split : s ≡ before 58 s ++ 58 ∷ behind 58 s = colon_found s place e lt in
    let some : has 58 s ≡ true = ap (has 58) split ∙ has_mark 58 (before 58 s) (behind 58 s) refl in
    let long : place + 1 ≡ length (keyword (before 58 s)) = ap (λ n. n + 1) (before_length s place e lt) ∙ sym (length-append (before 58 s) (58 ∷ [])) in
    let first : take (place + 1) s ≡ keyword (before 58 s) = ap (take (place + 1)) (split ∙ sym (append_assoc (before 58 s) (58 ∷ []) (behind 58 s))) ∙ take_at (keyword (before 58 s)) (behind 58 s) (place + 1) (sym long) in
    prints_as r old new (λ more. token kind.Keyword (take (place + 1) s) ∷ more) (λ more. part_token s ∷ more)
    (λ more. ap (λ t. t ∷ more) (ap (token kind.Keyword) first ∙ sym (ap (λ t. if t then token kind.Keyword (keyword (before 58 s)) else token kind.Binary s) some))) h
  where
    before_length : (s : List ℕ) (place : ℕ) → place ≡ position_or_len (λ b. b == 58) s → place < length s → place ≡ length (before 58 s)
    before_length s place e lt = e ∙ sym (length-take-le (position_or_len (λ b. b == 58) s) s (omega (arith, e, lt)))

pub binary_printed : {E : Type 0} (r : Result (Unit {0}) E) (old new : Printer) (s : List ℕ) (place : ℕ) → place ≡ position_or_len (λ b. b == 58) s → length s ≤ place → OnOk r (Prints old new (λ more. token kind.Binary s ∷ more))
    → OnOk r (Prints old new (λ more. part_token s ∷ more))
binary_printed r old new s place e le h =
    let none : has 58 s ≡ false = none_has s (subst (λ n. length s ≤ n) e le) in
    prints_as r old new (λ more. token kind.Binary s ∷ more) (λ more. part_token s ∷ more)
    (λ more. ap (λ t. t ∷ more) (sym (ap (λ t. if t then token kind.Keyword (keyword (before 58 s)) else token kind.Binary s) none))) h

pub no_bar : (ps : List NameAt) (ss : BodyTree) (more : Lexemes) → length (body_list ss) ≡ 0 → bar_tokens ps ss more ≡ more
no_bar [] ss more e = refl
no_bar (p ∷ ps) no_stmts more e = refl
no_bar (p ∷ ps) (stmts r x ss) more e = absurd (omega (arith, e))

pub some_bar : (ps : List NameAt) (ss : BodyTree) (more : Lexemes) → (length ps == 0) ≡ false → (length (body_list ss) ≡ 0 → ⊥) → token kind.Binary bar ∷ more ≡ bar_tokens ps ss more
some_bar [] ss more e h = absurd (cc)
some_bar (p ∷ ps) no_stmts more e h = absurd (h refl)
some_bar (p ∷ ps) (stmts r x ss) more e h = refl

pub no_arguments : (es : ExprTrees) (s : List ℕ) (more : Lexemes) → length (exprs_list es) ≡ 0 → token kind.Name s ∷ more ≡ message_tokens es s more
no_arguments no_exprs s more e = refl
no_arguments (exprs x es) s more e = absurd (omega (arith, e))

pub some_arguments : (es : ExprTrees) (s : List ℕ) (more : Lexemes) → (length (exprs_list es) ≡ 0 → ⊥) → parts_tokens es s more ≡ message_tokens es s more
some_arguments no_exprs s more h = absurd (h refl)
some_arguments (exprs x es) s more h = refl

pub primitive_printed : {E : Type 0} (r : Result (Unit {0}) E) (old a b d new : Printer) (n : ℕ) (bytes : List ℕ) → (n ≡ 0 → ⊥) → bytes ≡ decimal n → Prints old a (λ more. token kind.Binary less ∷ more) → Prints a b (λ more. token kind.Keyword primitive_word ∷ more)
    → Prints b d (λ more. token kind.Number bytes ∷ more) → OnOk r (Prints d new (λ more. token kind.Binary greater ∷ more)) → OnOk r (Prints old new (primitive_tokens n))
primitive_printed r old a b d new zero bytes some e h i j k = absurd (some refl)
primitive_printed r old a b d new (suc n) bytes some e h i j k =
    prints_as r old new (λ more. token kind.Binary less ∷ token kind.Keyword primitive_word ∷ token kind.Number bytes ∷ token kind.Binary greater ∷ more) (primitive_tokens (suc n))
    (λ more. ap (λ w. token kind.Binary less ∷ token kind.Keyword primitive_word ∷ token kind.Number w ∷ token kind.Binary greater ∷ more) e)
    (then_prints r old d new (λ more. token kind.Binary less ∷ token kind.Keyword primitive_word ∷ token kind.Number bytes ∷ more) (λ more. token kind.Binary greater ∷ more)
    (prints_both old a d (λ more. token kind.Binary less ∷ more) (λ more. token kind.Keyword primitive_word ∷ token kind.Number bytes ∷ more) h
    (prints_both a b d (λ more. token kind.Keyword primitive_word ∷ more) (λ more. token kind.Number bytes ∷ more) i j)) k)

pub temporaries_printed : {E : Type 0} (r : Result (Unit {0}) E) (old a b new : Printer) (ns : List NameAt) → (length ns == 0) ≡ false → Prints old a (λ more. token kind.Binary bar ∷ more) → Prints a b (name_tokens ns) → OnOk r (Prints b new (λ more. token kind.Binary bar ∷ more))
    → OnOk r (Prints old new (temporary_tokens ns))
temporaries_printed r old a b new [] e h i j = absurd (cc)
temporaries_printed r old a b new (n ∷ ns) e h i j =
    then_prints r old b new (λ more. token kind.Binary bar ∷ name_tokens (n ∷ ns) more) (λ more. token kind.Binary bar ∷ more) (prints_both old a b (λ more. token kind.Binary bar ∷ more) (name_tokens (n ∷ ns)) h i) j

pub text_has_tree : {E : Type 0} (r : Result (List ℕ) E) (m : MethodParts) → IfOk r (λ text. text ≡ method_text m) → HasTree (method_text m) m → IfOk r (λ text. HasTree text m)
text_has_tree (Ok text) m e h = subst (λ t. HasTree t m) (sym e) h
text_has_tree (Err x) m e h = tt
