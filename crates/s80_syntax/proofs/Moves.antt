-- What one token does to the stack.
use Rattle.std.proofs.Common.{refl, ◌≡◌, [], ◌∷◌, ◌++◌, Bool, true, cond, ap, sym, ◌∙◌, append_assoc}
use Rattle.s80_syntax.specs.Lexeme.{Lexeme, Lexemes}
use Rattle.s80_syntax.specs.Limits.{may_open, may_assign}
use Rattle.s80_syntax.specs.Faults.{Unexpected, Nested, NotAssignable}
use Rattle.s80_syntax.specs.Stack.{Symbol, Stack, Action, Outcome, Pushes, Opens, Assigns, Pops, Refuses, Fails, run, takes, act, step, finish, may_end, above, level, assigns, expr_start}

pub pushes : (strict : Bool) (l : Lexeme) (ts : Lexemes) (a : Symbol) (k p : Stack) → takes a l ≡ Pushes p → run strict (l ∷ ts) (a ∷ k) ≡ run strict ts (p ++ k)
unfolding run
pushes strict l ts a k p e = ap (λ x. act strict (run strict ts) l ts k x (step strict (run strict ts) l ts k)) e

pub opens : (strict : Bool) (l : Lexeme) (ts : Lexemes) (a : Symbol) (k p : Stack) → takes a l ≡ Opens p → may_open strict (level k) ≡ true → run strict (l ∷ ts) (a ∷ k) ≡ run strict ts (p ++ k)
unfolding run
opens strict l ts a k p e h =
    ap (λ x. act strict (run strict ts) l ts k x (step strict (run strict ts) l ts k)) e
    ∙ ap (λ x. cond x (run strict ts (p ++ k)) (Fails Nested (l ∷ ts))) h

pub assigned : (strict : Bool) (l : Lexeme) (ts : Lexemes) (a : Symbol) (k : Stack) (n : Lexeme) → takes a l ≡ Assigns n → may_assign strict (assigns k) n.bytes ≡ true → run strict (l ∷ ts) (a ∷ k) ≡ run strict ts (expr_start ∷ k)
unfolding run
assigned strict l ts a k n e h =
    ap (λ x. act strict (run strict ts) l ts k x (step strict (run strict ts) l ts k)) e
    ∙ ap (λ x. cond x (run strict ts (expr_start ∷ k)) (Fails (NotAssignable n) (l ∷ ts))) h

pub pops : (strict : Bool) (l : Lexeme) (ts : Lexemes) (a : Symbol) (k : Stack) → takes a l ≡ Pops → run strict (l ∷ ts) (a ∷ k) ≡ run strict (l ∷ ts) k
unfolding run
pops strict l ts a k e = ap (λ x. act strict (run strict ts) l ts k x (step strict (run strict ts) l ts k)) e

pub ends : (strict : Bool) (a : Symbol) (k : Stack) → may_end a ≡ true → run strict [] (a ∷ k) ≡ run strict [] k
unfolding run
ends strict a k e = ap (λ x. cond x (finish k) (Fails Unexpected [])) e

pub same_takes : (strict : Bool) (l : Lexeme) (ts : Lexemes) (a b : Symbol) (k : Stack) → takes a l ≡ takes b l → run strict (l ∷ ts) (a ∷ k) ≡ run strict (l ∷ ts) (b ∷ k)
unfolding run
same_takes strict l ts a b k e = ap (λ x. act strict (run strict ts) l ts k x (step strict (run strict ts) l ts k)) e

-- the token is taken and no sign, or refused
abbrev pub IsTaken : Action → Type 0
IsTaken (Assigns n) = ⊥
IsTaken Pops = ⊥
IsTaken _ = Unit {0}

act_above : (strict : Bool) (go : Stack → Outcome) (l : Lexeme) (ts : Lexemes) (x : Action) (m k : Stack) (y z : Outcome) → IsTaken x → level (m ++ k) ≡ level k → act strict go l ts k (above x m) y ≡ act strict go l ts (m ++ k) x z
act_above strict go l ts (Pushes p) m k y z t e = ap go (append_assoc p m k)
act_above strict go l ts (Opens p) m k y z t e =
    ap (λ x. cond (may_open strict (level k)) (go x) (Fails Nested (l ∷ ts))) (append_assoc p m k)
    ∙ ap (λ x. cond (may_open strict x) (go (p ++ (m ++ k))) (Fails Nested (l ∷ ts))) (sym e)
act_above strict go l ts (Assigns n) m k y z t e = absurd t
act_above strict go l ts Pops m k y z t e = absurd t
act_above strict go l ts Refuses m k y z t e = refl

-- where a symbol does as another one above further symbols, the run is as with these
pub stands_above : (strict : Bool) (l : Lexeme) (ts : Lexemes) (a b : Symbol) (m k : Stack) → takes a l ≡ above (takes b l) m → IsTaken (takes b l) → level (m ++ k) ≡ level k → run strict (l ∷ ts) (a ∷ k) ≡ run strict (l ∷ ts) (b ∷ (m ++ k))
unfolding run
stands_above strict l ts a b m k e t h =
    ap (λ x. act strict (run strict ts) l ts k x (step strict (run strict ts) l ts k)) e
    ∙ act_above strict (run strict ts) l ts (takes b l) m k (step strict (run strict ts) l ts k) (step strict (run strict ts) l ts (m ++ k)) t h
