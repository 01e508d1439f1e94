-- Where a run stops, it stops whatever follows.
use Rattle.std.proofs.Common.{◌≡◌, suc, ◌≤◌, [], ◌∷◌, ◌++◌, Bool, true, false, cond, length, ap, arith, length-append}
use Rattle.s80_syntax.specs.Lexeme.{Lexeme, Lexemes}
use Rattle.s80_syntax.specs.Limits.{may_open, may_assign}
use Rattle.s80_syntax.specs.Faults.{Wrong, Unexpected, Nested, NotAssignable}
use Rattle.s80_syntax.specs.Stack.{Stack, Action, Pushes, Opens, Assigns, Pops, Refuses, Outcome, Accepts, Fails, run, takes, act, step, finish, may_end, level, assigns, expr_start}
use Rattle.s80_syntax.proofs.Fronts.{fails_wrong, fails_rest}

-- a run stops at a token of its own
within_here : (w v : Wrong) (l : Lexeme) (ts rest : Lexemes) → Fails w (l ∷ ts) ≡ Fails v rest → length rest ≤ suc (length ts)
within_here w v l ts rest e = let n : suc (length ts) ≡ length rest = ap length (fails_rest w v (l ∷ ts) rest e) in omega arith

within_choice : (b : Bool) (x : Outcome) (w v : Wrong) (l : Lexeme) (ts rest : Lexemes) → (x ≡ Fails v rest → length rest ≤ length ts) → cond b x (Fails w (l ∷ ts)) ≡ Fails v rest → length rest ≤ suc (length ts)
within_choice true x w v l ts rest f e = let n = f e in omega arith
within_choice false x w v l ts rest f e = within_here w v l ts rest e

within_step : (strict : Bool) (go : Stack → Outcome) (l : Lexeme) (ts rest : Lexemes) (w : Wrong) → ((p : Stack) → go p ≡ Fails w rest → length rest ≤ length ts) → (k : Stack) → step strict go l ts k ≡ Fails w rest → length rest ≤ suc (length ts)
within_step strict go l ts rest w ih [] e = within_here Unexpected w l ts rest e
within_step strict go l ts rest w ih (a ∷ k) e = by_action (takes a l) (within_step strict go l ts rest w ih k) e
  where
    by_action : (x : Action) → (step strict go l ts k ≡ Fails w rest → length rest ≤ suc (length ts)) → act strict go l ts k x (step strict go l ts k) ≡ Fails w rest → length rest ≤ suc (length ts)
    by_action (Pushes p) s e = let n = ih (p ++ k) e in omega arith
    by_action (Opens p) s e = within_choice (may_open strict (level k)) (go (p ++ k)) Nested w l ts rest (ih (p ++ k)) e
    by_action (Assigns n) s e = within_choice (may_assign strict (assigns k) n.bytes) (go (expr_start ∷ k)) (NotAssignable n) w l ts rest (ih (expr_start ∷ k)) e
    by_action Pops s e = s e
    by_action Refuses s e = within_here Unexpected w l ts rest e

within_end : (b : Bool) (x : Outcome) (w : Wrong) (rest : Lexemes) → (x ≡ Fails w rest → length rest ≤ 0) → cond b x (Fails Unexpected []) ≡ Fails w rest → length rest ≤ 0
within_end true x w rest f e = f e
within_end false x w rest f e = let n : 0 ≡ length rest = ap length (fails_rest Unexpected w [] rest e) in omega arith

within_finish : (k : Stack) (w : Wrong) (rest : Lexemes) → finish k ≡ Fails w rest → length rest ≤ 0
within_finish [] w rest e = absurd (accepts e)
  where
    accepts : Accepts ≡ Fails w rest → ⊥
    accepts e = cc
within_finish (a ∷ k) w rest e = within_end (may_end a) (finish k) w rest (within_finish k w rest) e

fails_within : (strict : Bool) (ts rest : Lexemes) (w : Wrong) (k : Stack) → run strict ts k ≡ Fails w rest → length rest ≤ length ts
unfolding run
fails_within strict [] rest w k e = within_finish k w rest e
fails_within strict (l ∷ ts) rest w k e = within_step strict (run strict ts) l ts rest w (λ p. fails_within strict ts rest w p) k e

-- the first token decides alone that the run stops at it
here_again : (v w : Wrong) (l : Lexeme) (ts us : Lexemes) → Fails v (l ∷ ts) ≡ Fails w (l ∷ ts) → Fails v (l ∷ us) ≡ Fails w (l ∷ us)
here_again v w l ts us e = ap (λ x. Fails x (l ∷ us)) (fails_wrong v w (l ∷ ts) (l ∷ ts) e)

here_choice : (b : Bool) (x y : Outcome) (v w : Wrong) (l : Lexeme) (ts us : Lexemes) → (x ≡ Fails w (l ∷ ts) → length (l ∷ ts) ≤ length ts) → cond b x (Fails v (l ∷ ts)) ≡ Fails w (l ∷ ts) → cond b y (Fails v (l ∷ us)) ≡ Fails w (l ∷ us)
here_choice true x y v w l ts us f e = let n = f e in absurd (omega arith)
here_choice false x y v w l ts us f e = here_again v w l ts us e

here : (strict : Bool) (l : Lexeme) (ts us : Lexemes) (w : Wrong) (k : Stack) → step strict (run strict ts) l ts k ≡ Fails w (l ∷ ts) → step strict (run strict us) l us k ≡ Fails w (l ∷ us)
here strict l ts us w [] e = here_again Unexpected w l ts us e
here strict l ts us w (a ∷ k) e = by_action (takes a l) (here strict l ts us w k) e
  where
    by_action : (x : Action) → (step strict (run strict ts) l ts k ≡ Fails w (l ∷ ts) → step strict (run strict us) l us k ≡ Fails w (l ∷ us)) → act strict (run strict ts) l ts k x (step strict (run strict ts) l ts k) ≡ Fails w (l ∷ ts) → act strict (run strict us) l us k x (step strict (run strict us) l us k) ≡ Fails w (l ∷ us)
    by_action (Pushes p) r e = let n = fails_within strict ts (l ∷ ts) w (p ++ k) e in absurd (omega arith)
    by_action (Opens p) r e = here_choice (may_open strict (level k)) (run strict ts (p ++ k)) (run strict us (p ++ k)) Nested w l ts us (fails_within strict ts (l ∷ ts) w (p ++ k)) e
    by_action (Assigns n) r e = here_choice (may_assign strict (assigns k) n.bytes) (run strict ts (expr_start ∷ k)) (run strict us (expr_start ∷ k)) (NotAssignable n) w l ts us (fails_within strict ts (l ∷ ts) w (expr_start ∷ k)) e
    by_action Pops r e = r e
    by_action Refuses r e = here_again Unexpected w l ts us e

too_long : (b l : Lexeme) (before ts : Lexemes) → b ∷ (before ++ l ∷ ts) ≡ l ∷ ts → ⊥
too_long b l before ts e = let n : suc (length (before ++ l ∷ ts)) ≡ suc (length ts) = ap length e in omega (arith, length-append before (l ∷ ts))

-- before that token all goes on in the same way
there_choice : (b : Bool) (x y : Outcome) (v w : Wrong) (m l : Lexeme) (before ts us : Lexemes) → (x ≡ Fails w (l ∷ ts) → y ≡ Fails w (l ∷ us)) → cond b x (Fails v (m ∷ (before ++ l ∷ ts))) ≡ Fails w (l ∷ ts) → cond b y (Fails v (m ∷ (before ++ l ∷ us))) ≡ Fails w (l ∷ us)
there_choice true x y v w m l before ts us f e = f e
there_choice false x y v w m l before ts us f e = absurd (too_long m l before ts (fails_rest v w (m ∷ (before ++ l ∷ ts)) (l ∷ ts) e))

there : (strict : Bool) (b l : Lexeme) (before ts us : Lexemes) (w : Wrong) → ((k : Stack) → run strict (before ++ l ∷ ts) k ≡ Fails w (l ∷ ts) → run strict (before ++ l ∷ us) k ≡ Fails w (l ∷ us)) → (k : Stack) → step strict (run strict (before ++ l ∷ ts)) b (before ++ l ∷ ts) k ≡ Fails w (l ∷ ts) → step strict (run strict (before ++ l ∷ us)) b (before ++ l ∷ us) k ≡ Fails w (l ∷ us)
there strict b l before ts us w ih [] e = absurd (too_long b l before ts (fails_rest Unexpected w (b ∷ (before ++ l ∷ ts)) (l ∷ ts) e))
there strict b l before ts us w ih (a ∷ k) e = by_action (takes a b) (there strict b l before ts us w ih k) e
  where
    by_action : (x : Action) → (step strict (run strict (before ++ l ∷ ts)) b (before ++ l ∷ ts) k ≡ Fails w (l ∷ ts) → step strict (run strict (before ++ l ∷ us)) b (before ++ l ∷ us) k ≡ Fails w (l ∷ us)) → act strict (run strict (before ++ l ∷ ts)) b (before ++ l ∷ ts) k x (step strict (run strict (before ++ l ∷ ts)) b (before ++ l ∷ ts) k) ≡ Fails w (l ∷ ts) → act strict (run strict (before ++ l ∷ us)) b (before ++ l ∷ us) k x (step strict (run strict (before ++ l ∷ us)) b (before ++ l ∷ us) k) ≡ Fails w (l ∷ us)
    by_action (Pushes p) r e = ih (p ++ k) e
    by_action (Opens p) r e = there_choice (may_open strict (level k)) (run strict (before ++ l ∷ ts) (p ++ k)) (run strict (before ++ l ∷ us) (p ++ k)) Nested w b l before ts us (ih (p ++ k)) e
    by_action (Assigns n) r e = there_choice (may_assign strict (assigns k) n.bytes) (run strict (before ++ l ∷ ts) (expr_start ∷ k)) (run strict (before ++ l ∷ us) (expr_start ∷ k)) (NotAssignable n) w b l before ts us (ih (expr_start ∷ k)) e
    by_action Pops r e = r e
    by_action Refuses r e = absurd (too_long b l before ts (fails_rest Unexpected w (b ∷ (before ++ l ∷ ts)) (l ∷ ts) e))

-- whatever follows the token at which it stops, the run stops there
pub fails_whatever : (strict : Bool) (before : Lexemes) (l : Lexeme) (ts us : Lexemes) (w : Wrong) (k : Stack) → run strict (before ++ l ∷ ts) k ≡ Fails w (l ∷ ts) → run strict (before ++ l ∷ us) k ≡ Fails w (l ∷ us)
unfolding run
fails_whatever strict [] l ts us w k e = here strict l ts us w k e
fails_whatever strict (b ∷ before) l ts us w k e = there strict b l before ts us w (λ p. fails_whatever strict before l ts us w p) k e

-- where the strict run finds a token unexpected, so does the run of the grammar alone
lax_choice : (b : Bool) (v : Wrong) (l : Lexeme) (ts rest : Lexemes) (x y : Outcome) → (Fails v (l ∷ ts) ≡ Fails Unexpected rest → ⊥) → (x ≡ Fails Unexpected rest → y ≡ Fails Unexpected rest) → cond b x (Fails v (l ∷ ts)) ≡ Fails Unexpected rest → y ≡ Fails Unexpected rest
lax_choice true v l ts rest x y n f e = f e
lax_choice false v l ts rest x y n f e = absurd (n e)

lax_step : (l : Lexeme) (ts rest : Lexemes) → ((p : Stack) → run true ts p ≡ Fails Unexpected rest → run false ts p ≡ Fails Unexpected rest) → (k : Stack) → step true (run true ts) l ts k ≡ Fails Unexpected rest → step false (run false ts) l ts k ≡ Fails Unexpected rest
lax_step l ts rest ih [] e = e
lax_step l ts rest ih (a ∷ k) e = by_action (takes a l) (lax_step l ts rest ih k) e
  where
    no_nested : Fails Nested (l ∷ ts) ≡ Fails Unexpected rest → ⊥
    no_nested e = cc

    no_sign : (n : Lexeme) → Fails (NotAssignable n) (l ∷ ts) ≡ Fails Unexpected rest → ⊥
    no_sign n e = cc

    by_action : (x : Action) → (step true (run true ts) l ts k ≡ Fails Unexpected rest → step false (run false ts) l ts k ≡ Fails Unexpected rest) → act true (run true ts) l ts k x (step true (run true ts) l ts k) ≡ Fails Unexpected rest → act false (run false ts) l ts k x (step false (run false ts) l ts k) ≡ Fails Unexpected rest
    by_action (Pushes p) r e = ih (p ++ k) e
    by_action (Opens p) r e = lax_choice (may_open true (level k)) Nested l ts rest (run true ts (p ++ k)) (run false ts (p ++ k)) no_nested (ih (p ++ k)) e
    by_action (Assigns n) r e = lax_choice (may_assign true (assigns k) n.bytes) (NotAssignable n) l ts rest (run true ts (expr_start ∷ k)) (run false ts (expr_start ∷ k)) (no_sign n) (ih (expr_start ∷ k)) e
    by_action Pops r e = r e
    by_action Refuses r e = e

pub lax_fails : (ts rest : Lexemes) (k : Stack) → run true ts k ≡ Fails Unexpected rest → run false ts k ≡ Fails Unexpected rest
unfolding run
lax_fails [] rest k e = e
lax_fails (l ∷ ts) rest k e = lax_step l ts rest (λ p. lax_fails ts rest p) k e
