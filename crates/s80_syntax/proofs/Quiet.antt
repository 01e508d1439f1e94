-- What need not come before a closing token.
use Rattle.std.proofs.Common.{◌≡◌, ℕ, ◌≤◌, [], ◌∷◌, ◌++◌, Bool, true, refl, ◌∙◌, arith}
use Rattle.s80_lex.specs.declared.token.TokenKind.{TokenKind}
use Rattle.s80_lex.specs.declared.token.TokenKind.TheVariants as kind
use Rattle.s80_syntax.specs.Lexeme.{Lexeme, Lexemes}
use Rattle.s80_syntax.specs.Stack.{Symbol, Stack, Pops, run, takes, may_end, body_takes, message_takes, name_takes, assign_takes, binary_takes, keyword_takes, semicolon_takes, period_takes, body, after_statement, after_return, after_name, first_message, primary, unary_tail, binary_tail, keyword_tail, cascade}
use Rattle.s80_syntax.specs.Word.{is_minus}
use Rattle.s80_syntax.proofs.Moves.{pops, ends}

-- the tokens behind a body, behind a statement and behind a message
abbrev pub Closes : ℕ → TokenKind → Type 0
Closes n kind.CloseParen = Unit {0}
Closes n kind.CloseBracket = Unit {0}
Closes n kind.Period = 1 ≤ n
Closes n kind.Semicolon = 2 ≤ n
Closes n _ = ⊥

-- what is wanted need not come before such a token
abbrev pub Quiet : ℕ → Stack → Type 0
Quiet n [] = Unit {0}
Quiet n (a ∷ s) = ((l : Lexeme) → Closes n l.kind → takes a l ≡ Pops) × (may_end a ≡ true) × Quiet n s

pub quiet_at : (strict : Bool) (n : ℕ) (s : Stack) → Quiet n s → (l : Lexeme) → Closes n l.kind → (ts : Lexemes) (k : Stack) → run strict (l ∷ ts) (s ++ k) ≡ run strict (l ∷ ts) k
quiet_at strict n [] q l h ts k = refl
quiet_at strict n (a ∷ s) q l h ts k = pops strict l ts a (s ++ k) (q.0 l h) ∙ quiet_at strict n s q.2 l h ts k

pub quiet_end : (strict : Bool) (n : ℕ) (s : Stack) → Quiet n s → (k : Stack) → run strict [] (s ++ k) ≡ run strict [] k
quiet_end strict n [] q k = refl
quiet_end strict n (a ∷ s) q k = ends strict a (s ++ k) q.1 ∙ quiet_end strict n s q.2 k

pub quiet_append : (n : ℕ) (s t : Stack) → Quiet n s → Quiet n t → Quiet n (s ++ t)
quiet_append n [] t q r = r
quiet_append n (a ∷ s) t q r = (q.0, q.1, quiet_append n s t q.2 r)

closes_less : (m n : ℕ) → m ≤ n → (k : TokenKind) → Closes m k → Closes n k
closes_less m n h kind.Period c = omega arith
closes_less m n h kind.Semicolon c = omega arith
closes_less m n h _ c = c

pub quiet_less : (m n : ℕ) → m ≤ n → (s : Stack) → Quiet n s → Quiet m s
quiet_less m n h [] q = tt
quiet_less m n h (a ∷ s) q = (λ l c. q.0 l (closes_less m n h l.kind c), q.1, quiet_less m n h s q.2)

q_name : (more : Stack) (k : TokenKind) → Closes 2 k → name_takes k more Pops ≡ Pops
q_name more kind.Name c = absurd c
q_name more _ c = refl

q_binary : (k : TokenKind) → Closes 2 k → binary_takes k ≡ Pops
q_binary kind.Binary c = absurd c
q_binary _ c = refl

q_keyword : (more : Stack) (k : TokenKind) → Closes 2 k → keyword_takes k more Pops ≡ Pops
q_keyword more kind.Keyword c = absurd c
q_keyword more _ c = refl

q_message : (k : TokenKind) → Closes 2 k → message_takes k ≡ Pops
q_message kind.Name c = absurd c
q_message kind.Binary c = absurd c
q_message kind.Keyword c = absurd c
q_message _ c = refl

q_cascade : (k : TokenKind) → Closes 1 k → semicolon_takes k ≡ Pops
q_cascade kind.Semicolon c = absurd (omega arith)
q_cascade _ c = refl

q_period : (more : Stack) (k : TokenKind) → Closes 0 k → period_takes k more ≡ Pops
q_period more kind.Period c = absurd (omega arith)
q_period more _ c = refl

q_assign : (n : Lexeme) (k : TokenKind) → Closes 2 k → assign_takes k n ≡ Pops
q_assign n kind.Assign c = absurd c
q_assign n kind.Name c = absurd c
q_assign n kind.Binary c = absurd c
q_assign n kind.Keyword c = absurd c
q_assign n _ c = refl

q_body : (l : Lexeme) (b : Bool) (k : TokenKind) → Closes 0 k → body_takes k b l ≡ Pops
q_body l b kind.CloseParen c = refl
q_body l b kind.CloseBracket c = refl
q_body l b kind.Period c = absurd (omega arith)
q_body l b kind.Semicolon c = absurd (omega arith)
q_body l b _ c = absurd c

pub quiet_keyword : Quiet 2 (keyword_tail ∷ [])
quiet_keyword = (λ l c. q_keyword (primary ∷ unary_tail ∷ binary_tail ∷ keyword_tail ∷ []) l.kind c, refl, tt)

pub quiet_binary : Quiet 2 (binary_tail ∷ keyword_tail ∷ [])
quiet_binary = (λ l c. q_binary l.kind c, refl, quiet_keyword)

pub quiet_chain : Quiet 2 (unary_tail ∷ binary_tail ∷ keyword_tail ∷ [])
quiet_chain = (λ l c. q_name (unary_tail ∷ []) l.kind c, refl, quiet_binary)

pub quiet_unary : Quiet 2 (unary_tail ∷ [])
quiet_unary = (λ l c. q_name (unary_tail ∷ []) l.kind c, refl, tt)

pub quiet_cascade : Quiet 1 (cascade ∷ [])
quiet_cascade = (λ l c. q_cascade l.kind c, refl, tt)

pub quiet_body : Quiet 0 (body ∷ [])
quiet_body = (λ l c. q_body l (is_minus l) l.kind c, refl, tt)

pub quiet_after : Quiet 0 (after_statement ∷ [])
quiet_after = (λ l c. q_period (body ∷ []) l.kind c, refl, tt)

pub quiet_return : Quiet 0 (after_return ∷ [])
quiet_return = (λ l c. q_period [] l.kind c, refl, tt)

-- after an operand that could be a target
pub data IsFirst : Symbol → Type 0 where
  is_first : IsFirst first_message
  is_name : (l : Lexeme) → IsFirst (after_name l)

pub quiet_first : (f : Symbol) → IsFirst f → Quiet 2 (f ∷ [])
quiet_first _ is_first = (λ l c. q_message l.kind c, refl, tt)
quiet_first _ (is_name n) = (λ l c. q_assign n l.kind c, refl, tt)
