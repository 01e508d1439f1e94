-- Names and signs that are taken one by one.
use Rattle.std.proofs.Common.{◌≡◌, ℕ, List, [], ◌∷◌, ◌++◌, Bool, true, refl, ap, sym, ◌∙◌, append_assoc, append-nil}
use Rattle.s80_lex.specs.declared.token.TokenKind.{TokenKind}
use Rattle.s80_lex.specs.declared.token.TokenKind.TheVariants as kind
use Rattle.s80_tree.specs.declared.name.NameAt.{NameAt}
use Rattle.s80_syntax.specs.Lexeme.{Lexeme, Lexemes}
use Rattle.s80_syntax.specs.Grammar.{IsMark, IsSign, IsDeclared, IsTargets, AreDeclared, AreParameters}
use Rattle.s80_syntax.specs.Word.{Names, names_in, is_word, is_minus, is_reserved, bar}
use Rattle.s80_syntax.specs.Limits.{may_assign, AreAssignable}
use Rattle.s80_syntax.specs.Stack.{Symbol, Stack, Action, Pushes, Pops, Refuses, run, takes, assigns, expr_takes, assign_takes, declared_takes, colon_takes, sign_takes, expr_start, after_name, parameter, after_parameter, body, block_scope, temporaries, after_bar}
use Rattle.s80_syntax.proofs.Moves.{pushes, assigned}
use Rattle.s80_syntax.proofs.Words.{word_true}
use Rattle.s80_syntax.proofs.TakenLiterals.{at}

-- a token of a kind, where it is taken
pub mark_taken : (strict : Bool) (a : Symbol) (p : Stack) (kd : TokenKind) → ((l : Lexeme) → l.kind ≡ kd → takes a l ≡ Pushes p) → (ts rest : Lexemes) → IsMark kd ts rest → (k : Stack) → run strict ts (a ∷ k) ≡ run strict rest (p ++ k)
mark_taken strict a p kd same ts rest h k = at strict (a ∷ k) ts (h.0 ∷ rest) h.1.0 ∙ pushes strict h.0 rest a k p (same h.0 h.1.1)

-- a token with certain bytes, where it is taken
pub sign_taken : (strict : Bool) (a : Symbol) (p : Stack) (kd : TokenKind) (word : List ℕ) → ((l : Lexeme) → l.kind ≡ kd → is_word word l ≡ true → takes a l ≡ Pushes p) → (ts rest : Lexemes) → IsSign kd word ts rest → (k : Stack) → run strict ts (a ∷ k) ≡ run strict rest (p ++ k)
sign_taken strict a p kd word same ts rest h k = at strict (a ∷ k) ts (h.0 ∷ rest) h.1.0 ∙ pushes strict h.0 rest a k p (same h.0 h.1.1 (word_true word h.0 h.2))

-- a declared name, where it is taken
pub declared_taken : (strict : Bool) (a : Symbol) (p : List ℕ → Stack) (other : Lexeme → Action) → ((l : Lexeme) → takes a l ≡ declared_takes l.kind (is_reserved l.bytes) (p l.bytes) (other l)) → (n : NameAt) (ts rest : Lexemes) → IsDeclared n ts rest → (k : Stack) → run strict ts (a ∷ k) ≡ run strict rest (p n.name ++ k)
declared_taken strict a p other same n ts rest h k =
    let l = h.0.0 in
    at strict (a ∷ k) ts (l ∷ rest) h.0.1.0
    ∙ pushes strict l rest a k (p l.bytes) (same l ∙ ap (λ x. declared_takes x (is_reserved l.bytes) (p l.bytes) (other l)) h.0.1.1 ∙ ap (λ x. declared_takes kind.Name x (p l.bytes) (other l)) (ap is_reserved (sym h.0.2) ∙ h.1))
    ∙ ap (λ x. run strict rest (p x ++ k)) (sym h.0.2)

pub targets_taken : (strict : Bool) (ns : List NameAt) (ts rest : Lexemes) → IsTargets ns ts rest → (names : List ℕ → Bool) → AreAssignable strict names ns → (k : Stack) → assigns k ≡ names → run strict ts (expr_start ∷ k) ≡ run strict rest (expr_start ∷ k)
targets_taken strict [] ts rest h names w k e = at strict (expr_start ∷ k) ts rest h
targets_taken strict (n ∷ ns) ts rest h names w k e =
    let l = h.2.0 in
    let s = h.3.0 in
    at strict (expr_start ∷ k) ts (l ∷ h.0) h.2.1.0
    ∙ pushes strict l h.0 expr_start k (after_name l ∷ []) (ap (λ x. expr_takes x (is_minus l) l [] Refuses) h.2.1.1)
    ∙ at strict (after_name l ∷ k) h.0 (s ∷ h.1) h.3.1.0
    ∙ assigned strict s h.1 (after_name l) k l (ap (λ x. assign_takes x l) h.3.1.1) (ap (λ x. may_assign strict x l.bytes) e ∙ ap (may_assign strict names) (sym h.2.2) ∙ w.0)
    ∙ targets_taken strict ns h.1 rest h.4 names w.1 k e

-- the names seen so far and one more, and then others
pub seen_then : (seen : Names) (n : NameAt) (ns : List NameAt) → (seen ++ n.name ∷ []) ++ names_in ns ≡ seen ++ names_in (n ∷ ns)
seen_then seen n ns = append_assoc seen (n.name ∷ []) (names_in ns)

pub parameters_taken : (strict : Bool) (ps : List NameAt) (seen : Names) (ts rest : Lexemes) → AreParameters ps ts rest → (k : Stack) → run strict ts (after_parameter seen ∷ k) ≡ run strict rest (after_parameter (seen ++ names_in ps) ∷ k)
parameters_taken strict [] seen ts rest h k = at strict (after_parameter seen ∷ k) ts rest h ∙ ap (λ x. run strict rest (after_parameter x ∷ k)) (sym (append-nil seen))
parameters_taken strict (n ∷ ns) seen ts rest h k =
    mark_taken strict (after_parameter seen) (parameter seen ∷ []) kind.Colon (λ l e. ap (λ x. colon_takes x (parameter seen ∷ []) (sign_takes x (is_word bar l) (body ∷ block_scope seen ∷ []) Pops)) e) ts h.0 h.2 k
    ∙ declared_taken strict (parameter seen) (λ x. after_parameter (seen ++ x ∷ []) ∷ []) (λ l. Refuses) (λ l. refl) n h.0 h.1 h.3 k
    ∙ parameters_taken strict ns (seen ++ n.name ∷ []) h.1 rest h.4 k
    ∙ ap (λ x. run strict rest (after_parameter x ∷ k)) (seen_then seen n ns)

pub temporaries_taken : (strict : Bool) (ps : Names) (primitive : Bool) (ns : List NameAt) (seen : Names) (ts rest : Lexemes) → AreDeclared ns ts rest → (k : Stack) → run strict ts (temporaries ps seen primitive ∷ k) ≡ run strict rest (temporaries ps (seen ++ names_in ns) primitive ∷ k)
temporaries_taken strict ps primitive [] seen ts rest h k = at strict (temporaries ps seen primitive ∷ k) ts rest h ∙ ap (λ x. run strict rest (temporaries ps x primitive ∷ k)) (sym (append-nil seen))
temporaries_taken strict ps primitive (n ∷ ns) seen ts rest h k =
    declared_taken strict (temporaries ps seen primitive) (λ x. temporaries ps (seen ++ x ∷ []) primitive ∷ []) (λ l. sign_takes l.kind (is_word bar l) (after_bar primitive ps seen) Refuses) (λ l. refl) n ts h.0 h.1 k
    ∙ temporaries_taken strict ps primitive ns (seen ++ n.name ∷ []) h.0 rest h.2 k
    ∙ ap (λ x. run strict rest (temporaries ps x primitive ∷ k)) (seen_then seen n ns)
