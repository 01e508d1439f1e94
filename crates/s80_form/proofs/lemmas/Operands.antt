-- Literals as operands, from their tokens.
use Rattle.std.proofs.Common.{◌≡◌, ℕ, ◌-◌, inl, List, [], ◌∷◌, ◌++◌, Bool, true, false, cond, ◌&&◌, ◌==◌, length, refl, ap, sym, ◌∙◌, subst, arith, length-append}
use Rattle.std.specs.List.{flat_map}
use Rattle.std.proofs.lemmas.Bool.{eqb-true}
use Rattle.std.proofs.lemmas.List.{take_at}
use Rattle.s80_base.specs.Literal.{LiteralTree, str}
use Rattle.s80_lex.specs.declared.token.TokenKind.{TokenKind}
use Rattle.s80_lex.specs.declared.token.TokenKind.TheVariants as kind
use Rattle.s80_lex.specs.Spelling.{quoted, doubled}
use Rattle.s80_syntax.specs.Lexeme.{Lexeme, Lexemes}
use Rattle.s80_syntax.specs.Literals.{IsLiteralKind, token_literal, unquoted, between_ends}
use Rattle.s80_syntax.specs.Grammar.{IsOperand}
use Rattle.s80_form.specs.TreeParts.{argument}

-- a string, from its token
unquoted_other : (b : ℕ) (bytes : List ℕ) → (b == 39) ≡ false → unquoted (b ∷ bytes) ≡ b ∷ unquoted bytes
unquoted_other b [] e = refl
unquoted_other b (c ∷ bytes) e = ap (λ t. cond (t && (c == 39)) (39 ∷ unquoted bytes) (b ∷ unquoted (c ∷ bytes))) e

unquoted_byte : (t : Bool) (b : ℕ) (text : List ℕ) → (b == 39) ≡ t → unquoted (flat_map (doubled 39) text) ≡ text → unquoted (flat_map (doubled 39) (b ∷ text)) ≡ b ∷ text
unquoted_byte true b text e h =
    let quote : b ≡ 39 = eqb-true b 39 e in
    ap (λ (x : ℕ). unquoted (flat_map (doubled 39) (x ∷ text))) quote ∙ ap (λ l. 39 ∷ l) h ∙ ap (λ (x : ℕ). x ∷ text) (sym quote)
unquoted_byte false b text e h =
    ap (λ l. unquoted (l ++ flat_map (doubled 39) text)) (ap (λ t. cond t (39 ∷ 39 ∷ []) (b ∷ [])) e) ∙ unquoted_other b (flat_map (doubled 39) text) e ∙ ap (λ l. b ∷ l) h

unquoted_is : (text : List ℕ) → unquoted (flat_map (doubled 39) text) ≡ text
unquoted_is [] = refl
unquoted_is (b ∷ text) = unquoted_byte (b == 39) b text refl (unquoted_is text)

between_is : (text : List ℕ) → between_ends (quoted 39 text) ≡ flat_map (doubled 39) text
between_is text =
    let inner : List ℕ = flat_map (doubled 39) text in
    take_at inner (39 ∷ []) (length (quoted 39 text) - 2) (omega (arith, length-append inner (39 ∷ [])))

pub str_is : (text : List ℕ) → str text ≡ token_literal kind.Str (quoted 39 text)
str_is text = ap str (sym (ap unquoted (between_is text) ∙ unquoted_is text))

-- an argument, from its token
pub operand : (v : LiteralTree) (k : TokenKind) (w : List ℕ) (l : Lexeme) (ls rest : Lexemes) → ls ≡ l ∷ rest → l.kind ≡ k → l.bytes ≡ w → IsLiteralKind k → v ≡ token_literal k w → IsOperand (argument v) 1 ls rest
operand v k w l ls rest e i b lit is =
    (rest, refl, tt, inl (l, e, subst IsLiteralKind (sym i) lit, is ∙ ap (token_literal k) (sym b) ∙ ap (λ j. token_literal j l.bytes) (sym i)), refl)
