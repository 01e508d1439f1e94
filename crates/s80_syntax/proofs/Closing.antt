-- Closing parentheses and brackets.
use Rattle.std.proofs.Common.{◌≡◌, ◌≢◌, ℕ, List, [], ◌∷◌, Bool, true, refl, ap, ◌∙◌}
use Rattle.s80_lex.specs.declared.token.Token.{Token}
use Rattle.s80_lex.specs.declared.token.TokenKind.{TokenKind}
use Rattle.s80_lex.specs.declared.token.TokenKind.TheVariants as kind
use Rattle.s80_syntax.specs.Lexeme.{Lexemes, lexeme, lexemes}
use Rattle.s80_syntax.specs.Faults.{Unexpected}
use Rattle.s80_syntax.specs.Stack.{Symbol, Stack, Refuses, run, paren_takes, bracket_takes, close_paren, close_bracket}
use Rattle.s80_syntax.proofs.Moves.{pushes}
use Rattle.s80_syntax.specs.declared.fault.ParseFault.{ParseFault}
use Rattle.s80_syntax.specs.Reads.{IsNotNext, Stands, Stops, FailsAs, Parsed, place_in}
use Rattle.s80_syntax.proofs.Steps.{at_list, fails_back, stops_refused, stops_end}

-- what stands within
pub inner_fails : (text : List ℕ) (depth inner : ℕ) (names : List ℕ → Bool) (a close : Symbol) (ts : List Token) (e : ParseFault) → ((k : Stack) → Stands depth names k → Stands inner names (close ∷ k)) → FailsAs text inner names (a ∷ []) (lexemes text ts) e → FailsAs text depth names (a ∷ close ∷ []) (lexemes text ts) e
inner_fails text depth inner names a close ts e i h =
    fails_back text e depth inner names names (a ∷ close ∷ []) (a ∷ []) (lexemes text ts) (lexemes text ts) (λ k. close ∷ k) (λ k g. (i k g, refl)) h

pub unclosed : (text : List ℕ) (depth inner : ℕ) (names : List ℕ → Bool) (a close : Symbol) (R : Lexemes → Lexemes → Type 0) (ts rest : List Token) (p : ℕ) → ((k : Stack) → Stands depth names k → Stands inner names (close ∷ k)) → Parsed text inner names (a ∷ []) R ts rest → Stops text depth names (close ∷ []) (lexemes text rest) Unexpected p → Stops text depth names (a ∷ close ∷ []) (lexemes text ts) Unexpected p
unclosed text depth inner names a close R ts rest p i x s = record { rest = s.rest; is_place = s.is_place; same = λ k g. x.same (close ∷ k) (i k g) ∙ s.same k g }

no_paren : (d : TokenKind) → d ≢ kind.CloseParen → paren_takes d ≡ Refuses
no_paren kind.CloseParen n = absurd (n refl)
no_paren _ n = refl

pub paren_missing : (text : List ℕ) (depth : ℕ) (names : List ℕ → Bool) (rest : List Token) (p : ℕ) → IsNotNext kind.CloseParen rest → p ≡ place_in text rest → Stops text depth names (close_paren ∷ []) (lexemes text rest) Unexpected p
paren_missing text depth names [] p n q = stops_end text depth names close_paren [] [] p refl refl q
paren_missing text depth names (t ∷ rest) p n q = stops_refused text depth names close_paren [] (t ∷ rest) rest t p refl (no_paren t.kind n) q

pub paren_closes : (text : List ℕ) (rest after : List Token) (t : Token) → rest ≡ t ∷ after → t.kind ≡ kind.CloseParen → (k : Stack) → run true (lexemes text rest) (close_paren ∷ k) ≡ run true (lexemes text after) k
paren_closes text rest after t e n k = at_list text rest (t ∷ after) (close_paren ∷ k) e ∙ pushes true (lexeme text t after) (lexemes text after) close_paren k [] (ap paren_takes n)

no_bracket : (d : TokenKind) → d ≢ kind.CloseBracket → bracket_takes d ≡ Refuses
no_bracket kind.CloseBracket n = absurd (n refl)
no_bracket _ n = refl

pub bracket_missing : (text : List ℕ) (depth : ℕ) (names : List ℕ → Bool) (rest : List Token) (p : ℕ) → IsNotNext kind.CloseBracket rest → p ≡ place_in text rest → Stops text depth names (close_bracket ∷ []) (lexemes text rest) Unexpected p
bracket_missing text depth names [] p n q = stops_end text depth names close_bracket [] [] p refl refl q
bracket_missing text depth names (t ∷ rest) p n q = stops_refused text depth names close_bracket [] (t ∷ rest) rest t p refl (no_bracket t.kind n) q

pub bracket_closes : (text : List ℕ) (rest after : List Token) (t : Token) → rest ≡ t ∷ after → t.kind ≡ kind.CloseBracket → (k : Stack) → run true (lexemes text rest) (close_bracket ∷ k) ≡ run true (lexemes text after) k
bracket_closes text rest after t e n k = at_list text rest (t ∷ after) (close_bracket ∷ k) e ∙ pushes true (lexeme text t after) (lexemes text after) close_bracket k [] (ap bracket_takes n)
