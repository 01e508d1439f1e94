-- What is lawful and what is spellable stays so, whatever the places.
use Rattle.std.proofs.Common.{◌≡◌, ℕ, suc, ◌⊎◌, inl, inr, List, [], ◌∷◌, Bool, true, false, length, refl, ap, sym, ◌∙◌, subst}
use Rattle.s80_lex.specs.Selector.{IsSelectorOf}
use Rattle.s80_lex.specs.Spelling.{IsKeywordSelector}
use Rattle.s80_syntax.specs.Grammar.{IsCascadeOf, IsEmpty, IsNone}
use Rattle.s80_syntax.specs.Limits.{AreAssignable, AreLawfulExprs, AreLawfulMessages, IsLawfulBody, IsLawfulExpr, IsLawfulMethod, IsLawfulPrimary, block_assigns, home_assigns}
use Rattle.s80_syntax.specs.Word.{names_in}
use Rattle.s80_tree.specs.declared.name.NameAt.{NameAt}
use Rattle.s80_tree.specs.Tree.{ExprTree, PrimaryTree, ExprTrees, MessageTrees, BodyTree, MethodParts, expr, name, literal, block, paren, no_exprs, exprs, no_messages, messages, no_stmts, stmts}
use Rattle.s80_decompile.specs.Places.{unplaced, unplaced_body, unplaced_expr, unplaced_exprs, unplaced_messages, unplaced_names, unplaced_primary}
use Rattle.s80_decompile.specs.Spellable.{AreDeclarable, AreNames, AreSpellableMessages, AreSpellableOperands, IsSpellable, IsSpellableBody, IsSpellableCascade, IsSpellableExpr, IsSpellableMessage, IsSpellableOperand, IsSpellablePrimary, MayFollow, count}

-- each follows from the other
abbrev Both : Type 0 → Type 0 → Type 0
Both A B = (A → B) × (B → A)

either : {A B C D : Type 0} → Both A B → Both C D → Both (A ⊎ C) (B ⊎ D)
either {A} {B} {C} {D} f g = (to, back)
  where
    to : A ⊎ C → B ⊎ D
    to (inl a) = inl (f.0 a)
    to (inr c) = inr (g.0 c)

    back : B ⊎ D → A ⊎ C
    back (inl b) = inl (f.1 b)
    back (inr d) = inr (g.1 d)

names_in_same : (ns : List NameAt) → names_in (unplaced_names ns) ≡ names_in ns
names_in_same [] = refl
names_in_same (n ∷ ns) = ap (λ l. n.name ∷ l) (names_in_same ns)

-- ---- lawful

targets_lawful : (s : Bool) (a : List ℕ → Bool) (ns : List NameAt) → Both (AreAssignable s a (unplaced_names ns)) (AreAssignable s a ns)
targets_lawful s a [] = (λ h. h, λ h. h)
targets_lawful s a (n ∷ ns) = (λ h. (h.0, (targets_lawful s a ns).0 h.1), λ h. (h.0, (targets_lawful s a ns).1 h.1))

mutual
  expr_lawful : (s : Bool) (d : ℕ) (a : List ℕ → Bool) (e : ExprTree) → Both (IsLawfulExpr s d a (unplaced_expr e)) (IsLawfulExpr s d a e)
  expr_lawful s d a (expr ns p ms cs) = (
    λ h. ((targets_lawful s a ns).0 h.0, (primary_lawful s d a p).0 h.1, (messages_lawful s d a ms).0 h.2, (messages_lawful s d a cs).0 h.3),
    λ h. ((targets_lawful s a ns).1 h.0, (primary_lawful s d a p).1 h.1, (messages_lawful s d a ms).1 h.2, (messages_lawful s d a cs).1 h.3),
  )

  primary_lawful : (s : Bool) (d : ℕ) (a : List ℕ → Bool) (p : PrimaryTree) → Both (IsLawfulPrimary s d a (unplaced_primary p)) (IsLawfulPrimary s d a p)
  primary_lawful s d a (name n) = (λ h. h, λ h. h)
  primary_lawful s d a (literal v) = (λ h. h, λ h. h)
  primary_lawful s d a (paren e) = (λ h. (h.0, (expr_lawful s (suc d) a e).0 h.1), λ h. (h.0, (expr_lawful s (suc d) a e).1 h.1))
  primary_lawful s d a (block ps ss) = (
    λ h. (h.0, (body_lawful s (suc d) (block_assigns (names_in ps) a) ss).0 (subst (λ ns. IsLawfulBody s (suc d) (block_assigns ns a) (unplaced_body ss)) (names_in_same ps) h.1)),
    λ h. (h.0, subst (λ ns. IsLawfulBody s (suc d) (block_assigns ns a) (unplaced_body ss)) (sym (names_in_same ps)) ((body_lawful s (suc d) (block_assigns (names_in ps) a) ss).1 h.1)),
  )

  exprs_lawful : (s : Bool) (d : ℕ) (a : List ℕ → Bool) (es : ExprTrees) → Both (AreLawfulExprs s d a (unplaced_exprs es)) (AreLawfulExprs s d a es)
  exprs_lawful s d a no_exprs = (λ h. h, λ h. h)
  exprs_lawful s d a (exprs e es) = (λ h. ((expr_lawful s d a e).0 h.0, (exprs_lawful s d a es).0 h.1), λ h. ((expr_lawful s d a e).1 h.0, (exprs_lawful s d a es).1 h.1))

  messages_lawful : (s : Bool) (d : ℕ) (a : List ℕ → Bool) (ms : MessageTrees) → Both (AreLawfulMessages s d a (unplaced_messages ms)) (AreLawfulMessages s d a ms)
  messages_lawful s d a no_messages = (λ h. h, λ h. h)
  messages_lawful s d a (messages w es ms) = (λ h. ((exprs_lawful s d a es).0 h.0, (messages_lawful s d a ms).0 h.1), λ h. ((exprs_lawful s d a es).1 h.0, (messages_lawful s d a ms).1 h.1))

  body_lawful : (s : Bool) (d : ℕ) (a : List ℕ → Bool) (ss : BodyTree) → Both (IsLawfulBody s d a (unplaced_body ss)) (IsLawfulBody s d a ss)
  body_lawful s d a no_stmts = (λ h. h, λ h. h)
  body_lawful s d a (stmts r e ss) = (λ h. ((expr_lawful s d a e).0 h.0, (body_lawful s d a ss).0 h.1), λ h. ((expr_lawful s d a e).1 h.0, (body_lawful s d a ss).1 h.1))

home_same : (m : MethodParts) → home_assigns (names_in (unplaced_names m.parameters)) (names_in (unplaced_names m.temporaries)) ≡ home_assigns (names_in m.parameters) (names_in m.temporaries)
home_same m = ap (λ ps. home_assigns ps (names_in (unplaced_names m.temporaries))) (names_in_same m.parameters) ∙ ap (home_assigns (names_in m.parameters)) (names_in_same m.temporaries)

method_lawful : (s : Bool) (m : MethodParts) → Both (IsLawfulMethod s (unplaced m)) (IsLawfulMethod s m)
method_lawful s m = (
  λ h. (body_lawful s 0 (home_assigns (names_in m.parameters) (names_in m.temporaries)) m.body).0 (subst (λ a. IsLawfulBody s 0 a (unplaced_body m.body)) (home_same m) h),
  λ h. subst (λ a. IsLawfulBody s 0 a (unplaced_body m.body)) (sym (home_same m)) ((body_lawful s 0 (home_assigns (names_in m.parameters) (names_in m.temporaries)) m.body).1 h),
)

pub lawful_stays : (s : Bool) (m n : MethodParts) → unplaced n ≡ unplaced m → IsLawfulMethod s m → IsLawfulMethod s n
lawful_stays s m n e h = (method_lawful s n).0 (subst (IsLawfulMethod s) (sym e) ((method_lawful s m).1 h))

-- ---- spellable

names_spellable : (ns : List NameAt) → Both (AreNames (unplaced_names ns)) (AreNames ns)
names_spellable [] = (λ h. h, λ h. h)
names_spellable (n ∷ ns) = (λ h. (h.0, (names_spellable ns).0 h.1), λ h. (h.0, (names_spellable ns).1 h.1))

declarable : (ns : List NameAt) → Both (AreDeclarable (unplaced_names ns)) (AreDeclarable ns)
declarable [] = (λ h. h, λ h. h)
declarable (n ∷ ns) = (λ h. (h.0, (declarable ns).0 h.1), λ h. (h.0, (declarable ns).1 h.1))

none_left : (ns : List NameAt) → Both (unplaced_names ns ≡ []) (ns ≡ [])
none_left [] = (λ e. refl, λ e. refl)
none_left (n ∷ ns) = (λ e. absurd (cc), λ e. absurd (cc))

no_message_left : (ms : MessageTrees) → Both (IsNone (unplaced_messages ms)) (IsNone ms)
no_message_left no_messages = (λ h. h, λ h. h)
no_message_left (messages s es ms) = (λ h. h, λ h. h)

cascade_of : (ms cs : MessageTrees) → Both (IsCascadeOf (unplaced_messages ms) (unplaced_messages cs)) (IsCascadeOf ms cs)
cascade_of ms no_messages = (λ h. h, λ h. h)
cascade_of ms (messages s es cs) = (λ h none. h ((no_message_left ms).1 none), λ h none. h ((no_message_left ms).0 none))

empty_left : (es : ExprTrees) → Both (IsEmpty (unplaced_exprs es)) (IsEmpty es)
empty_left no_exprs = (λ h. h, λ h. h)
empty_left (exprs e es) = (λ h. h, λ h. h)

count_same : (es : ExprTrees) → count (unplaced_exprs es) ≡ count es
count_same no_exprs = refl
count_same (exprs e es) = ap suc (count_same es)

may_follow : (r : Bool) (ss : BodyTree) → Both (MayFollow r (unplaced_body ss)) (MayFollow r ss)
may_follow false ss = (λ h. h, λ h. h)
may_follow true no_stmts = (λ h. h, λ h. h)
may_follow true (stmts r e ss) = (λ h. h, λ h. h)

mutual
  expr_spellable : (e : ExprTree) → Both (IsSpellableExpr (unplaced_expr e)) (IsSpellableExpr e)
  expr_spellable (expr ns p ms cs) = (
    λ h. ((names_spellable ns).0 h.0, (primary_spellable p).0 h.1, (messages_spellable ms 0 2).0 h.2, (cascade_of ms cs).0 h.3, (cascade_spellable cs).0 h.4),
    λ h. ((names_spellable ns).1 h.0, (primary_spellable p).1 h.1, (messages_spellable ms 0 2).1 h.2, (cascade_of ms cs).1 h.3, (cascade_spellable cs).1 h.4),
  )

  primary_spellable : (p : PrimaryTree) → Both (IsSpellablePrimary (unplaced_primary p)) (IsSpellablePrimary p)
  primary_spellable (name n) = (λ h. h, λ h. h)
  primary_spellable (literal v) = (λ h. h, λ h. h)
  primary_spellable (paren e) = expr_spellable e
  primary_spellable (block ps ss) = (λ h. ((declarable ps).0 h.0, (body_spellable ss).0 h.1), λ h. ((declarable ps).1 h.0, (body_spellable ss).1 h.1))

  operand_spellable : (e : ExprTree) (high : ℕ) → Both (IsSpellableOperand (unplaced_expr e) high) (IsSpellableOperand e high)
  operand_spellable (expr ns p ms cs) high = (
    λ h. ((none_left ns).0 h.0, (no_message_left cs).0 h.1, (primary_spellable p).0 h.2, (messages_spellable ms 0 high).0 h.3),
    λ h. ((none_left ns).1 h.0, (no_message_left cs).1 h.1, (primary_spellable p).1 h.2, (messages_spellable ms 0 high).1 h.3),
  )

  operands_spellable : (es : ExprTrees) (high : ℕ) → Both (AreSpellableOperands (unplaced_exprs es) high) (AreSpellableOperands es high)
  operands_spellable no_exprs high = (λ h. h, λ h. h)
  operands_spellable (exprs e es) high = (
    λ h. ((operand_spellable e high).0 h.0, (operands_spellable es high).0 h.1),
    λ h. ((operand_spellable e high).1 h.0, (operands_spellable es high).1 h.1),
  )

  messages_spellable : (ms : MessageTrees) (low high : ℕ) → Both (AreSpellableMessages (unplaced_messages ms) low high) (AreSpellableMessages ms low high)
  messages_spellable no_messages low high = (λ h. h, λ h. h)
  messages_spellable (messages s es ms) low high = (
    λ h. (h.0, (message_spellable es s low high h.0).0 h.1, (messages_spellable ms h.0 high).0 h.2),
    λ h. (h.0, (message_spellable es s low high h.0).1 h.1, (messages_spellable ms h.0 high).1 h.2),
  )

  message_spellable : (es : ExprTrees) (s : List ℕ) (low high next : ℕ) → Both (IsSpellableMessage (unplaced_exprs es) s low high next) (IsSpellableMessage es s low high next)
  message_spellable no_exprs s low high next = (λ h. h, λ h. h)
  message_spellable (exprs e es) s low high next =
      either (
        λ h. (h.0, h.1, h.2, h.3, (operand_spellable e 0).0 h.4, (empty_left es).0 h.5),
        λ h. (h.0, h.1, h.2, h.3, (operand_spellable e 0).1 h.4, (empty_left es).1 h.5),
      ) (
        λ h. (subst (λ n. IsKeywordSelector n s) (count_same (exprs e es)) h.0, h.1, h.2, h.3, (operand_spellable e 1).0 h.4, (operands_spellable es 1).0 h.5),
        λ h. (subst (λ n. IsKeywordSelector n s) (sym (count_same (exprs e es))) h.0, h.1, h.2, h.3, (operand_spellable e 1).1 h.4, (operands_spellable es 1).1 h.5),
      )

  cascade_spellable : (ms : MessageTrees) → Both (IsSpellableCascade (unplaced_messages ms)) (IsSpellableCascade ms)
  cascade_spellable no_messages = (λ h. h, λ h. h)
  cascade_spellable (messages s es ms) = (
    λ h. (h.0, (message_spellable es s 0 2 h.0).0 h.1, (cascade_spellable ms).0 h.2),
    λ h. (h.0, (message_spellable es s 0 2 h.0).1 h.1, (cascade_spellable ms).1 h.2),
  )

  body_spellable : (ss : BodyTree) → Both (IsSpellableBody (unplaced_body ss)) (IsSpellableBody ss)
  body_spellable no_stmts = (λ h. h, λ h. h)
  body_spellable (stmts r e ss) = (
    λ h. ((expr_spellable e).0 h.0, (may_follow r ss).0 h.1, (body_spellable ss).0 h.2),
    λ h. ((expr_spellable e).1 h.0, (may_follow r ss).1 h.1, (body_spellable ss).1 h.2),
  )

length_same : (ns : List NameAt) → length (unplaced_names ns) ≡ length ns
length_same [] = refl
length_same (n ∷ ns) = ap suc (length_same ns)

to_unplaced : (m : MethodParts) → IsSpellable m → IsSpellable (unplaced m)
to_unplaced m h = record {
  selector = subst (λ n. IsSelectorOf n m.selector) (sym (length_same m.parameters)) h.selector;
  parameters = (declarable m.parameters).1 h.parameters;
  temporaries = (declarable m.temporaries).1 h.temporaries;
  primitive = h.primitive;
  body = (body_spellable m.body).1 h.body;
  lawful = (method_lawful true m).1 h.lawful;
}

from_unplaced : (m : MethodParts) → IsSpellable (unplaced m) → IsSpellable m
from_unplaced m h = record {
  selector = subst (λ n. IsSelectorOf n m.selector) (length_same m.parameters) h.selector;
  parameters = (declarable m.parameters).0 h.parameters;
  temporaries = (declarable m.temporaries).0 h.temporaries;
  primitive = h.primitive;
  body = (body_spellable m.body).0 h.body;
  lawful = (method_lawful true m).0 h.lawful;
}

pub spellable_stays : (m n : MethodParts) → unplaced n ≡ unplaced m → IsSpellable n → IsSpellable m
spellable_stays m n e h = from_unplaced m (subst IsSpellable e (to_unplaced n h))
