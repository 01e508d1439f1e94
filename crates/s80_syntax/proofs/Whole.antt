-- Whole texts: what a run says of them, and their faults.
use Rattle.std.proofs.Common.{subst, ◌≡◌, [], ◌∷◌, ◌++◌, Bool, true, false, refl, ap, sym, ◌∙◌, ◌⊎◌, inl, inr, append_assoc, append-nil}
use Rattle.s80_lex.specs.declared.token.TokenKind.{TokenKind}
use Rattle.s80_lex.specs.declared.token.TokenKind.TheVariants as kind
use Rattle.s80_syntax.specs.Lexeme.{Lexeme, Lexemes}
use Rattle.s80_syntax.specs.Faults.{Wrong, Unexpected, Nested, NotAssignable, IsFront, NoneGoesOn, IsOpening, IsCause, IsFault}
use Rattle.s80_syntax.specs.Stack.{Symbol, Outcome, Accepts, Fails, run}
use Rattle.s80_syntax.proofs.Means.{Derives}
use Rattle.s80_syntax.proofs.Rows.{IsNoName}
use Rattle.s80_syntax.proofs.Fronts.{CauseAt, LastIs, fronts, derives}
use Rattle.s80_syntax.proofs.Whatever.{fails_whatever, lax_fails}

-- a symbol that stands for texts of one sort
pub record Stands (IsText : Bool → Lexemes → Type 0) (start : Symbol) : Type 0 where
  pub no_name : IsNoName start
  pub derived : (strict : Bool) (ts : Lexemes) → Derives strict (start ∷ []) ts → IsText strict ts
  pub taken : (strict : Bool) (ts : Lexemes) → IsText strict ts → run strict ts (start ∷ []) ≡ Accepts

accepts_fails : (w : Wrong) (rest : Lexemes) → Accepts ≡ Fails w rest → ⊥
accepts_fails w rest e = cc

none_goes_on : (IsText : Bool → Lexemes → Type 0) (start : Symbol) → Stands IsText start → (strict : Bool) (before rest : Lexemes) (w : Wrong) → run strict (before ++ rest) (start ∷ []) ≡ Fails w rest → NoneGoesOn (IsText strict) before rest
none_goes_on IsText start s strict before [] w e = λ h.
    accepts_fails w [] (sym (s.taken strict before h) ∙ ap (λ x. run strict x (start ∷ [])) (sym (append-nil before)) ∙ e)
none_goes_on IsText start s strict before (l ∷ after) w e = λ (more, h).
    accepts_fails w (l ∷ more) (sym (s.taken strict ((before ++ l ∷ []) ++ more) h) ∙ ap (λ x. run strict x (start ∷ [])) (append_assoc before (l ∷ []) more) ∙ fails_whatever strict before l after more w (start ∷ []) e)

front_with : (IsText : Bool → Lexemes → Type 0) (start : Symbol) → Stands IsText start → (before : Lexemes) (l : Lexeme) → (more : Lexemes) × Derives false (start ∷ []) (before ++ l ∷ more) → IsFront (IsText false) (before ++ l ∷ [])
front_with IsText start s before l (more, d) = (more, subst (IsText false) (sym (append_assoc before (l ∷ []) more)) (s.derived false (before ++ l ∷ more) d))

last_target : (start : Symbol) (n : Lexeme) (before : Lexemes) → IsNoName start → LastIs (start ∷ []) n before → (earlier : Lexemes) × (before ≡ earlier ++ n ∷ [])
last_target start n [] i h = absurd (subst IsNoName h i)
last_target start n (b ∷ before) i h = h

fault_cause : (IsText : Bool → Lexemes → Type 0) (start : Symbol) → Stands IsText start → (w : Wrong) (before rest : Lexemes) → run true (before ++ rest) (start ∷ []) ≡ Fails w rest → CauseAt (start ∷ []) w before rest → IsCause (IsText false) w before rest
fault_cause IsText start s Unexpected before rest e c = none_goes_on IsText start s false before rest Unexpected (lax_fails (before ++ rest) rest (start ∷ []) e)
fault_cause IsText start s Nested before [] e c = absurd c
fault_cause IsText start s Nested before (l ∷ after) e c = (c.0, front_with IsText start s before l c.1)
fault_cause IsText start s (NotAssignable n) before [] e c = absurd c
fault_cause IsText start s (NotAssignable n) before (l ∷ after) e c =
    let t = last_target start n before s.no_name c.0 in (t.0, t.1, c.1, front_with IsText start s before l c.2)

-- where the strict run stops is the text's fault
pub stops_at_fault : (IsText : Bool → Lexemes → Type 0) (start : Symbol) → Stands IsText start → (w : Wrong) (ts rest : Lexemes) → run true ts (start ∷ []) ≡ Fails w rest → IsFault IsText w ts rest
stops_at_fault IsText start s w ts rest e =
    let f = fronts ts rest w (start ∷ []) tt e in
    let g : run true (f.before ++ rest) (start ∷ []) ≡ Fails w rest = ap (λ x. run true x (start ∷ [])) (sym f.split) ∙ e in
    record {
      before = f.before;
      split = f.split;
      front = (f.more, s.derived true (f.before ++ f.more) f.derived);
      none = none_goes_on IsText start s true f.before rest w g;
      cause = fault_cause IsText start s w f.before rest g f.cause;
    }

-- tokens are a text or have a fault
pub text_or_fault : (IsText : Bool → Lexemes → Type 0) (start : Symbol) → Stands IsText start → (ts : Lexemes) → IsText true ts ⊎ ((w : Wrong) × (rest : Lexemes) × IsFault IsText w ts rest)
text_or_fault IsText start s ts = by_outcome (run true ts (start ∷ [])) refl
  where
    by_outcome : (x : Outcome) → run true ts (start ∷ []) ≡ x → IsText true ts ⊎ ((w : Wrong) × (rest : Lexemes) × IsFault IsText w ts rest)
    by_outcome Accepts e = inl (s.derived true ts (derives true ts (start ∷ []) e))
    by_outcome (Fails w rest) e = inr (w, rest, stops_at_fault IsText start s w ts rest e)

-- a text has no fault
none_within : (IsText : Lexemes → Type 0) (ts before rest : Lexemes) → ts ≡ before ++ rest → IsText ts → NoneGoesOn IsText before rest → ⊥
none_within IsText ts before [] e h n = n (subst IsText (e ∙ append-nil before) h)
none_within IsText ts before (l ∷ after) e h n = n (after, subst IsText (e ∙ sym (append_assoc before (l ∷ []) after)) h)

pub no_fault_in_text : (IsText : Bool → Lexemes → Type 0) (w : Wrong) (ts rest : Lexemes) → IsText true ts → IsFault IsText w ts rest → ⊥
no_fault_in_text IsText w ts rest h f = none_within (IsText true) ts f.before rest f.split h f.none

-- two ways to cut a list
abbrev Cuts : Lexemes → Lexemes → Lexemes → Lexemes → Type 0
Cuts a x b y =
    ((a ≡ b) × (x ≡ y))
    ⊎ ((l : Lexeme) × (after more : Lexemes) × (x ≡ l ∷ after) × (b ≡ a ++ l ∷ more))
    ⊎ ((l : Lexeme) × (after more : Lexemes) × (y ≡ l ∷ after) × (a ≡ b ++ l ∷ more))

same_head : (l m : Lexeme) (xs ys : Lexemes) → l ∷ xs ≡ m ∷ ys → (l ≡ m) × (xs ≡ ys)
same_head l m xs ys e = (cc, cc)

cuts : (a x b y : Lexemes) → a ++ x ≡ b ++ y → Cuts a x b y
cuts [] x [] y e = inl (refl, e)
cuts [] x (m ∷ b) y e = inr (inl (m, b ++ y, b, e, refl))
cuts (l ∷ a) x [] y e = inr (inr (l, a ++ x, a, sym e, refl))
cuts (l ∷ a) x (m ∷ b) y e = by_cuts (same_head l m (a ++ x) (b ++ y) e).0 (cuts a x b y (same_head l m (a ++ x) (b ++ y) e).1)
  where
    by_cuts : l ≡ m → Cuts a x b y → Cuts (l ∷ a) x (m ∷ b) y
    by_cuts i (inl h) = inl (ap (λ z. z ∷ a) i ∙ ap (λ z. m ∷ z) h.0, h.1)
    by_cuts i (inr (inl h)) = inr (inl (h.0, h.1, h.2, h.3, ap (λ z. z ∷ b) (sym i) ∙ ap (λ z. l ∷ z) h.4))
    by_cuts i (inr (inr h)) = inr (inr (h.0, h.1, h.2, h.3, ap (λ z. z ∷ a) i ∙ ap (λ z. m ∷ z) h.4))

goes_on : (IsText : Lexemes → Type 0) (a x b : Lexemes) (l : Lexeme) (after more : Lexemes) → x ≡ l ∷ after → b ≡ a ++ l ∷ more → IsFront IsText b → NoneGoesOn IsText a x → ⊥
goes_on IsText a x b l after more e f (z, h) n =
    let m : IsFront IsText (a ++ l ∷ []) → ⊥ = subst (NoneGoesOn IsText a) e n in
    m (more ++ z, subst IsText (ap (λ q. q ++ z) f ∙ append_assoc a (l ∷ more) z ∙ sym (append_assoc a (l ∷ []) (more ++ z))) h)

opening_assign : (k : TokenKind) → IsOpening k → k ≡ kind.Assign → ⊥
opening_assign k i e = subst IsOpening e i

last_same : (a b : Lexemes) (n m : Lexeme) → a ++ n ∷ [] ≡ b ++ m ∷ [] → n ≡ m
last_same [] [] n m e = (same_head n m [] [] e).0
last_same [] (y ∷ b) n m e = absurd (empty_append b m (same_head n y [] (b ++ m ∷ []) e).1)
  where
    empty_append : (b : Lexemes) (m : Lexeme) → [] ≡ b ++ m ∷ [] → ⊥
    empty_append [] m e = cc
    empty_append (z ∷ b) m e = cc
last_same (x ∷ a) [] n m e = absurd (append_empty a n (same_head x m (a ++ n ∷ []) [] e).1)
  where
    append_empty : (b : Lexemes) (m : Lexeme) → b ++ m ∷ [] ≡ [] → ⊥
    append_empty [] m e = cc
    append_empty (z ∷ b) m e = cc
last_same (x ∷ a) (y ∷ b) n m e = last_same a b n m (same_head x y (a ++ n ∷ []) (b ++ m ∷ []) e).1

same_cause : (IsText : Lexemes → Type 0) (w v : Wrong) (before rest : Lexemes) → IsCause IsText w before rest → IsCause IsText v before rest → w ≡ v
same_cause IsText Unexpected Unexpected before rest c d = refl
same_cause IsText Unexpected Nested before [] c d = absurd d
same_cause IsText Unexpected Nested before (l ∷ after) c d = absurd (c d.1)
same_cause IsText Unexpected (NotAssignable m) before [] c d = absurd d
same_cause IsText Unexpected (NotAssignable m) before (l ∷ after) c d = absurd (c d.3)
same_cause IsText Nested Unexpected before [] c d = absurd c
same_cause IsText Nested Unexpected before (l ∷ after) c d = absurd (d c.1)
same_cause IsText Nested Nested before rest c d = refl
same_cause IsText Nested (NotAssignable m) before [] c d = absurd c
same_cause IsText Nested (NotAssignable m) before (l ∷ after) c d = absurd (opening_assign l.kind c.0 d.2)
same_cause IsText (NotAssignable n) Unexpected before [] c d = absurd c
same_cause IsText (NotAssignable n) Unexpected before (l ∷ after) c d = absurd (d c.3)
same_cause IsText (NotAssignable n) Nested before [] c d = absurd c
same_cause IsText (NotAssignable n) Nested before (l ∷ after) c d = absurd (opening_assign l.kind d.0 c.2)
same_cause IsText (NotAssignable n) (NotAssignable m) before [] c d = absurd c
same_cause IsText (NotAssignable n) (NotAssignable m) before (l ∷ after) c d = ap NotAssignable (last_same c.0 d.0 n m (sym c.1 ∙ d.1))

-- tokens have at most one fault
pub one_fault : (IsText : Bool → Lexemes → Type 0) (w v : Wrong) (ts rest more : Lexemes) → IsFault IsText w ts rest → IsFault IsText v ts more → (w ≡ v) × (rest ≡ more)
one_fault IsText w v ts rest more f g = by_cuts (cuts f.before rest g.before more (sym f.split ∙ g.split))
  where
    by_cuts : Cuts f.before rest g.before more → (w ≡ v) × (rest ≡ more)
    by_cuts (inl h) =
        (same_cause (IsText false) w v f.before rest f.cause (subst (λ x. IsCause (IsText false) v f.before x) (sym h.1) (subst (λ x. IsCause (IsText false) v x more) (sym h.0) g.cause)), h.1)
    by_cuts (inr (inl h)) = absurd (goes_on (IsText true) f.before rest g.before h.0 h.1 h.2 h.3 h.4 g.front f.none)
    by_cuts (inr (inr h)) = absurd (goes_on (IsText true) g.before more f.before h.0 h.1 h.2 h.3 h.4 f.front g.none)
