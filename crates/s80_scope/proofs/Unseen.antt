-- Where no use of a part has a place, no declaration of the part is visible there.
use Rattle.std.proofs.Common.{◌≡◌, ℕ, suc, ◌+◌, List, [], ◌∷◌, ◌++◌, Bool, true, false, ◌&&◌, cond, length, find, Option, Some, None, refl, ap, sym, ◌∙◌}
use Rattle.std.specs.List.{list_any}
use Rattle.std.specs.Option.{option_map, option_map_or, option_or}
use Rattle.std.specs.Str.{bytes_eq}
use Rattle.std.proofs.lemmas.List.Folds.{find-append}
use Rattle.s80_tree.specs.declared.name.NameAt.{NameAt}
use Rattle.s80_tree.specs.Tree.{ExprTree, PrimaryTree, ExprTrees, MessageTrees, BodyTree, expr, name, literal, block, paren, no_exprs, exprs, no_messages, messages, no_stmts, stmts}
use Rattle.s80_scope.specs.Names.{Declaration, declared_over, declares, is_at, last_place, expr_uses, primary_uses, exprs_uses, messages_uses, body_uses, expr_declarations, primary_declarations, exprs_declarations, messages_declarations, body_declarations}
use Rattle.s80_scope.proofs.lemmas.Places.{last_place-append, none_first, none_last, none_passes}

-- these declarations are seen from these uses alone
abbrev pub Unseen : List NameAt → List Declaration → Type 0
Unseen uses declared = (n : NameAt) → find (is_at n.at) uses ≡ None → last_place (declares n) declared ≡ None

both_none : (n : ℕ) (a b : Option ℕ) → a ≡ None → b ≡ None → option_or (option_map (λ i. n + i) b) a ≡ None
both_none n a b p q = ap (λ r. option_or (option_map (λ i. n + i) r) a) q ∙ p

pub unseen_both : (u v : List NameAt) (d e : List Declaration) → Unseen u d → Unseen v e → Unseen (u ++ v) (d ++ e)
unseen_both u v d e first second n none =
    let parts : option_or (find (is_at n.at) u) (find (is_at n.at) v) ≡ None = sym (find-append (is_at n.at) u v) ∙ none in
    last_place-append (declares n) d e ∙ both_none (length d) (last_place (declares n) d) (last_place (declares n) e)
    (first n (none_first (find (is_at n.at) u) (find (is_at n.at) v) parts)) (second n (none_last (find (is_at n.at) u) (find (is_at n.at) v) parts))

pub unseen_inner : (u : List NameAt) (d e : List Declaration) → Unseen u d → Unseen u e → Unseen u (d ++ e)
unseen_inner u d e first second n none =
    last_place-append (declares n) d e ∙ both_none (length d) (last_place (declares n) d) (last_place (declares n) e) (first n none) (second n none)

pub unseen_over : (uses names : List NameAt) → Unseen uses (declared_over uses names)
unseen_over uses [] n none = refl
unseen_over uses (p ∷ ps) n none =
    let away : list_any (is_at n.at) uses ≡ false = none_passes (is_at n.at) uses none in
    let here : (bytes_eq n.name p.name && list_any (is_at n.at) uses) ≡ false = ap (λ b. bytes_eq n.name p.name && b) away ∙ never (bytes_eq n.name p.name) in
    ap (λ r. option_map_or (λ i. Some (suc i)) r (cond (bytes_eq n.name p.name && list_any (is_at n.at) uses) (Some 0) None)) (unseen_over uses ps n none)
    ∙ ap (λ b. cond b (Some 0) None) here
  where
    never : (b : Bool) → (b && false) ≡ false
    never true = refl
    never false = refl

-- nothing is declared
unseen_none : (uses : List NameAt) → Unseen uses []
unseen_none uses n none = refl

mutual
  pub expr_unseen : (e : ExprTree) → Unseen (expr_uses e) (expr_declarations e)
  expr_unseen (expr targets p ms cs) =
      unseen_both targets (primary_uses p ++ (messages_uses ms ++ messages_uses cs)) [] (expr_declarations (expr targets p ms cs)) (unseen_none targets)
      (unseen_both (primary_uses p) (messages_uses ms ++ messages_uses cs) (primary_declarations p) (messages_declarations ms ++ messages_declarations cs) (primary_unseen p)
      (unseen_both (messages_uses ms) (messages_uses cs) (messages_declarations ms) (messages_declarations cs) (messages_unseen ms) (messages_unseen cs)))

  pub primary_unseen : (p : PrimaryTree) → Unseen (primary_uses p) (primary_declarations p)
  primary_unseen (name n) = unseen_none (n ∷ [])
  primary_unseen (literal v) = unseen_none []
  primary_unseen (block ps ss) = unseen_inner (body_uses ss) (declared_over (body_uses ss) ps) (body_declarations ss) (unseen_over (body_uses ss) ps) (body_unseen ss)
  primary_unseen (paren e) = expr_unseen e

  pub exprs_unseen : (es : ExprTrees) → Unseen (exprs_uses es) (exprs_declarations es)
  exprs_unseen no_exprs = unseen_none []
  exprs_unseen (exprs e es) = unseen_both (expr_uses e) (exprs_uses es) (expr_declarations e) (exprs_declarations es) (expr_unseen e) (exprs_unseen es)

  pub messages_unseen : (ms : MessageTrees) → Unseen (messages_uses ms) (messages_declarations ms)
  messages_unseen no_messages = unseen_none []
  messages_unseen (messages s es ms) = unseen_both (exprs_uses es) (messages_uses ms) (exprs_declarations es) (messages_declarations ms) (exprs_unseen es) (messages_unseen ms)

  pub body_unseen : (ss : BodyTree) → Unseen (body_uses ss) (body_declarations ss)
  body_unseen no_stmts = unseen_none []
  body_unseen (stmts r e ss) = unseen_both (expr_uses e) (body_uses ss) (expr_declarations e) (body_declarations ss) (expr_unseen e) (body_unseen ss)
