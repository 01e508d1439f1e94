-- What the stack takes is the front of what it stands for.
use Rattle.std.proofs.Common.{subst, ◌≡◌, [], ◌∷◌, ◌++◌, Bool, true, false, cond, refl, ap, sym, ◌∙◌, ◌⊎◌, inl, inr}
use Rattle.s80_lex.specs.declared.token.TokenKind.TheVariants as kind
use Rattle.s80_syntax.specs.Lexeme.{Lexeme, Lexemes}
use Rattle.s80_syntax.specs.Limits.{may_open, may_assign}
use Rattle.s80_syntax.specs.Faults.{Wrong, Unexpected, Nested, NotAssignable, IsOpening}
use Rattle.s80_syntax.specs.Stack.{Symbol, Stack, Action, Pushes, Opens, Assigns, Pops, Refuses, Outcome, Accepts, Fails, run, takes, act, step, finish, may_end, level, assigns, after_name, expr_start}
use Rattle.s80_syntax.proofs.Means.{Derives, completes}
use Rattle.s80_syntax.proofs.BacksExprs.{Back}
use Rattle.s80_syntax.proofs.Rows.{backs, rows, Row, ends_means, IsNoName, NoNames, PushesName, names_append}

-- the first symbol is this name
abbrev pub HasName : Lexeme → Stack → Type 0
HasName n [] = ⊥
HasName n (a ∷ k) = a ≡ after_name n

-- the last token is this name
abbrev pub LastIs : Stack → Lexeme → Lexemes → Type 0
LastIs k n [] = HasName n k
LastIs k n (b ∷ bs) = (earlier : Lexemes) × (b ∷ bs ≡ earlier ++ n ∷ [])

-- why the strict run stops at a token with which the grammar alone goes on
abbrev pub CauseAt : Stack → Wrong → Lexemes → Lexemes → Type 0
CauseAt k Unexpected before rest = Unit {0}
CauseAt k _ before [] = ⊥
CauseAt k Nested before (l ∷ after) = IsOpening l.kind × ((more : Lexemes) × Derives false k (before ++ l ∷ more))
CauseAt k (NotAssignable n) before (l ∷ after) = LastIs k n before × (l.kind ≡ kind.Assign) × ((more : Lexemes) × Derives false k (before ++ l ∷ more))

pub record Fronts (k : Stack) (w : Wrong) (ts rest : Lexemes) : Type 0 where
  pub before : Lexemes
  pub split : ts ≡ before ++ rest
  pub more : Lexemes
  pub derived : Derives true k (before ++ more)
  pub cause : CauseAt k w before rest

-- below its first symbol a stack has no name that may be a target
abbrev pub Clean : Stack → Type 0
Clean [] = Unit {0}
Clean (a ∷ k) = NoNames k

clean_all : (k : Stack) → NoNames k → Clean k
clean_all [] c = tt
clean_all (a ∷ k) c = c.1

clean_pushed : (l : Lexeme) (p k : Stack) → PushesName l p → NoNames k → Clean (p ++ k)
clean_pushed l [] k h c = clean_all k c
clean_pushed l (b ∷ p) k h c = names_append p k h.1 c

no_name_here : (n : Lexeme) (k : Stack) → NoNames k → HasName n k → ⊥
no_name_here n [] c h = h
no_name_here n (a ∷ k) c h = subst IsNoName h c.0

pub fails_wrong : (w v : Wrong) (x y : Lexemes) → Fails w x ≡ Fails v y → w ≡ v
fails_wrong w v x y e = cc

pub fails_rest : (w v : Wrong) (x y : Lexemes) → Fails w x ≡ Fails v y → x ≡ y
fails_rest w v x y e = cc

-- the run stops right here
stops_here : (k : Stack) (w v : Wrong) (ts rest : Lexemes) → Fails w ts ≡ Fails v rest → CauseAt k w [] ts → Fronts k v ts rest
stops_here k w v ts rest e c =
    let d = completes true k in
    subst (λ x. Fronts k v ts x) (fails_rest w v ts rest e) (subst (λ x. Fronts k x ts ts) (fails_wrong w v ts rest e) (record { before = []; split = refl; more = d.0; derived = d.1; cause = c }))

-- a name that was pushed is the token
last_pushed : (l n : Lexeme) (a : Symbol) (p k : Stack) (before : Lexemes) → PushesName l p → NoNames k → LastIs (p ++ k) n before → LastIs (a ∷ k) n (l ∷ before)
last_pushed l n a [] k [] h c i = absurd (no_name_here n k c i)
last_pushed l n a (b ∷ p) k [] h c i = by_name h.0
  where
    same : (x y : Lexeme) → after_name x ≡ after_name y → x ≡ y
    same x y e = cc

    by_name : IsNoName b ⊎ (b ≡ after_name l) → LastIs (a ∷ k) n (l ∷ [])
    by_name (inl j) = absurd (subst IsNoName i j)
    by_name (inr j) = ([], ap (λ x. x ∷ []) (same l n (sym j ∙ i)))
last_pushed l n a p k (b ∷ before) h c i = (l ∷ i.0, ap (λ x. l ∷ x) i.1)

last_below : (n : Lexeme) (a : Symbol) (k : Stack) (before : Lexemes) → NoNames k → LastIs k n before → LastIs (a ∷ k) n before
last_below n a k [] c i = absurd (no_name_here n k c i)
last_below n a k (b ∷ before) c i = i

cause_pushed : (l : Lexeme) (a : Symbol) (k p : Stack) (w : Wrong) (before rest : Lexemes) → PushesName l p → NoNames k → ((us : Lexemes) → Derives false (p ++ k) us → Derives false (a ∷ k) (l ∷ us)) → CauseAt (p ++ k) w before rest → CauseAt (a ∷ k) w (l ∷ before) rest
cause_pushed l a k p Unexpected before rest h c g i = tt
cause_pushed l a k p Nested before [] h c g i = absurd i
cause_pushed l a k p Nested before (m ∷ rest) h c g i = (i.0, (i.1.0, g (before ++ m ∷ i.1.0) i.1.1))
cause_pushed l a k p (NotAssignable n) before [] h c g i = absurd i
cause_pushed l a k p (NotAssignable n) before (m ∷ rest) h c g i = (last_pushed l n a p k before h c i.0, i.1, (i.2.0, g (before ++ m ∷ i.2.0) i.2.1))

cause_popped : (a : Symbol) (k : Stack) (w : Wrong) (before rest : Lexemes) → NoNames k → ((us : Lexemes) → Derives false k us → Derives false (a ∷ k) us) → CauseAt k w before rest → CauseAt (a ∷ k) w before rest
cause_popped a k Unexpected before rest c g i = tt
cause_popped a k Nested before [] c g i = absurd i
cause_popped a k Nested before (m ∷ rest) c g i = (i.0, (i.1.0, g (before ++ m ∷ i.1.0) i.1.1))
cause_popped a k (NotAssignable n) before [] c g i = absurd i
cause_popped a k (NotAssignable n) before (m ∷ rest) c g i = (last_below n a k before c i.0, i.1, (i.2.0, g (before ++ m ∷ i.2.0) i.2.1))

-- after a token that is taken
fronts_pushed : (l : Lexeme) (a : Symbol) (k p : Stack) (w : Wrong) (ts rest : Lexemes) → PushesName l p → NoNames k → ((us : Lexemes) → Derives true (p ++ k) us → Derives true (a ∷ k) (l ∷ us)) → ((us : Lexemes) → Derives false (p ++ k) us → Derives false (a ∷ k) (l ∷ us)) → Fronts (p ++ k) w ts rest → Fronts (a ∷ k) w (l ∷ ts) rest
fronts_pushed l a k p w ts rest h c b g f = record {
  before = l ∷ f.before;
  split = ap (λ x. l ∷ x) f.split;
  more = f.more;
  derived = b (f.before ++ f.more) f.derived;
  cause = cause_pushed l a k p w f.before rest h c g f.cause;
}

fronts_popped : (l : Lexeme) (a : Symbol) (k : Stack) (w : Wrong) (ts rest : Lexemes) → NoNames k → Back true a l Pops → Back false a l Pops → Fronts k w ts rest → Fronts (a ∷ k) w ts rest
fronts_popped l a k w ts rest c b g f = record {
  before = f.before;
  split = f.split;
  more = f.more;
  derived = (f.before ++ f.more, b (level k) (assigns k) (f.before ++ f.more), f.derived);
  cause = cause_popped a k w f.before rest c (λ us d. (us, g (level k) (assigns k) us, d)) f.cause;
}

fronts_step : (go : Stack → Outcome) (l : Lexeme) (ts rest : Lexemes) (w : Wrong) → ((p : Stack) → Clean p → go p ≡ Fails w rest → Fronts p w ts rest) → (k : Stack) → Clean k → step true go l ts k ≡ Fails w rest → Fronts k w (l ∷ ts) rest
fronts_step go l ts rest w ih [] c e = stops_here [] Unexpected w (l ∷ ts) rest e tt
fronts_step go l ts rest w ih (a ∷ k) c e = by_action (takes a l) (backs true a l) (backs false a l) (rows a l) (fronts_step go l ts rest w ih k (clean_all k c)) e
  where
    by_open : (p : Stack) → Back true a l (Opens p) → Back false a l (Opens p) → Row a l (Opens p) → (b : Bool) → may_open true (level k) ≡ b → cond b (go (p ++ k)) (Fails Nested (l ∷ ts)) ≡ Fails w rest → Fronts (a ∷ k) w (l ∷ ts) rest
    by_open p b g r true o e =
        fronts_pushed l a k p w ts rest (pushes_none l p r.1) c (λ us. b k us o) (λ us. g k us refl) (ih (p ++ k) (clean_pushed l p k (pushes_none l p r.1) c) e)
      where
        pushes_none : (l : Lexeme) (p : Stack) → NoNames p → PushesName l p
        pushes_none l [] n = tt
        pushes_none l (x ∷ p) n = (inl n.0, n.1)
    by_open p b g r false o e =
        let d = completes false (p ++ k) in stops_here (a ∷ k) Nested w (l ∷ ts) rest e (r.0, (d.0, g k d.0 refl d.1))

    by_sign : (n : Lexeme) → Back true a l (Assigns n) → Back false a l (Assigns n) → Row a l (Assigns n) → (b : Bool) → may_assign true (assigns k) n.bytes ≡ b → cond b (go (expr_start ∷ k)) (Fails (NotAssignable n) (l ∷ ts)) ≡ Fails w rest → Fronts (a ∷ k) w (l ∷ ts) rest
    by_sign n b g r true o e =
        fronts_pushed l a k (expr_start ∷ []) w ts rest (inl tt, tt) c (λ us. b k us o) (λ us. g k us refl) (ih (expr_start ∷ k) c e)
    by_sign n b g r false o e =
        let d = completes false (expr_start ∷ k) in stops_here (a ∷ k) (NotAssignable n) w (l ∷ ts) rest e (r.0, r.1, (d.0, g k d.0 refl d.1))

    by_action : (x : Action) → Back true a l x → Back false a l x → Row a l x → (step true go l ts k ≡ Fails w rest → Fronts k w (l ∷ ts) rest) → act true go l ts k x (step true go l ts k) ≡ Fails w rest → Fronts (a ∷ k) w (l ∷ ts) rest
    by_action (Pushes p) b g r s e = fronts_pushed l a k p w ts rest r c (λ us. b k us) (λ us. g k us) (ih (p ++ k) (clean_pushed l p k r c) e)
    by_action (Opens p) b g r s e = by_open p b g r (may_open true (level k)) refl e
    by_action (Assigns n) b g r s e = by_sign n b g r (may_assign true (assigns k) n.bytes) refl e
    by_action Pops b g r s e = fronts_popped l a k w (l ∷ ts) rest c b g (s e)
    by_action Refuses b g r s e = stops_here (a ∷ k) Unexpected w (l ∷ ts) rest e tt

either_end : (b : Bool) (x : Outcome) (k : Stack) (w : Wrong) (rest : Lexemes) → (x ≡ Fails w rest → Fails Unexpected [] ≡ Fails w rest) → cond b x (Fails Unexpected []) ≡ Fails w rest → Fails Unexpected [] ≡ Fails w rest
either_end true x k w rest f e = f e
either_end false x k w rest f e = e

finish_fails : (k : Stack) (w : Wrong) (rest : Lexemes) → finish k ≡ Fails w rest → Fails Unexpected [] ≡ Fails w rest
finish_fails [] w rest e = cc
finish_fails (a ∷ k) w rest e = either_end (may_end a) (finish k) k w rest (finish_fails k w rest) e

-- where the strict run stops
pub fronts : (ts rest : Lexemes) (w : Wrong) (k : Stack) → Clean k → run true ts k ≡ Fails w rest → Fronts k w ts rest
unfolding run
fronts [] rest w k c e = stops_here k Unexpected w [] rest (finish_fails k w rest e) tt
fronts (l ∷ ts) rest w k c e = fronts_step (run true ts) l ts rest w (λ p. fronts ts rest w p) k c e

-- where a run takes all, the tokens are what the stack stands for
accepts_fails : (w : Wrong) (rest : Lexemes) → Fails w rest ≡ Accepts → ⊥
accepts_fails w rest e = cc

derives_end : (strict : Bool) (k : Stack) → finish k ≡ Accepts → Derives strict k []
derives_end strict [] e = refl
derives_end strict (a ∷ k) e = by_end (may_end a) refl (derives_end strict k) e
  where
    by_end : (b : Bool) → may_end a ≡ b → (finish k ≡ Accepts → Derives strict k []) → cond b (finish k) (Fails Unexpected []) ≡ Accepts → Derives strict (a ∷ k) []
    by_end true m s e = ([], ends_means strict a m (level k) (assigns k) [], s e)
    by_end false m s e = absurd (accepts_fails Unexpected [] e)

derives_step : (strict : Bool) (go : Stack → Outcome) (l : Lexeme) (ts : Lexemes) → ((p : Stack) → go p ≡ Accepts → Derives strict p ts) → (k : Stack) → step strict go l ts k ≡ Accepts → Derives strict k (l ∷ ts)
derives_step strict go l ts ih [] e = absurd (accepts_fails Unexpected (l ∷ ts) e)
derives_step strict go l ts ih (a ∷ k) e = by_action (takes a l) (backs strict a l) (derives_step strict go l ts ih k) e
  where
    by_open : (p : Stack) → Back strict a l (Opens p) → (b : Bool) → may_open strict (level k) ≡ b → cond b (go (p ++ k)) (Fails Nested (l ∷ ts)) ≡ Accepts → Derives strict (a ∷ k) (l ∷ ts)
    by_open p b true o e = b k ts o (ih (p ++ k) e)
    by_open p b false o e = absurd (accepts_fails Nested (l ∷ ts) e)

    by_sign : (n : Lexeme) → Back strict a l (Assigns n) → (b : Bool) → may_assign strict (assigns k) n.bytes ≡ b → cond b (go (expr_start ∷ k)) (Fails (NotAssignable n) (l ∷ ts)) ≡ Accepts → Derives strict (a ∷ k) (l ∷ ts)
    by_sign n b true o e = b k ts o (ih (expr_start ∷ k) e)
    by_sign n b false o e = absurd (accepts_fails (NotAssignable n) (l ∷ ts) e)

    by_action : (x : Action) → Back strict a l x → (step strict go l ts k ≡ Accepts → Derives strict k (l ∷ ts)) → act strict go l ts k x (step strict go l ts k) ≡ Accepts → Derives strict (a ∷ k) (l ∷ ts)
    by_action (Pushes p) b s e = b k ts (ih (p ++ k) e)
    by_action (Opens p) b s e = by_open p b (may_open strict (level k)) refl e
    by_action (Assigns n) b s e = by_sign n b (may_assign strict (assigns k) n.bytes) refl e
    by_action Pops b s e = (l ∷ ts, b (level k) (assigns k) (l ∷ ts), s e)
    by_action Refuses b s e = absurd (accepts_fails Unexpected (l ∷ ts) e)

pub derives : (strict : Bool) (ts : Lexemes) (k : Stack) → run strict ts k ≡ Accepts → Derives strict k ts
unfolding run
derives strict [] k e = derives_end strict k e
derives strict (l ∷ ts) k e = derives_step strict (run strict ts) l ts (λ p. derives strict ts p) k e
