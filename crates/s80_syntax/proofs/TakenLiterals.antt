-- A literal's tokens are all taken.
use Rattle.std.proofs.Common.{◌≡◌, ℕ, suc, List, [], ◌∷◌, Bool, true, false, refl, ap, ◌∙◌, inl, inr}
use Rattle.s80_lex.specs.declared.token.TokenKind.{TokenKind}
use Rattle.s80_lex.specs.declared.token.TokenKind.TheVariants as kind
use Rattle.s80_base.specs.Literal.{LiteralTree, LiteralTrees, array, no_literals, literals}
use Rattle.s80_syntax.specs.Lexeme.{Lexeme, Lexemes}
use Rattle.s80_syntax.specs.Literals.{IsLiteralKind}
use Rattle.s80_syntax.specs.Grammar.{Takes, IsMark, IsSingle, IsNegative, AreJoined, IsWord, IsArrayStart, IsArray, AreElements, IsLiteral}
use Rattle.s80_syntax.specs.Word.{is_minus}
use Rattle.s80_syntax.specs.Limits.{may_open, IsLawfulLiteral, AreLawfulLiterals}
use Rattle.s80_syntax.specs.Stack.{Stack, Pushes, Opens, Refuses, run, level, primary_takes, element_takes, joined_takes, number_takes, paren_takes, primary, after_minus, elements, joined_keyword, close_paren}
use Rattle.s80_syntax.proofs.Moves.{pushes, opens, pops}

-- the run from a list of tokens that is known by its first token
pub at : (strict : Bool) (k : Stack) (ts us : Lexemes) → ts ≡ us → run strict ts k ≡ run strict us k
at strict k ts us e = ap (λ x. run strict x k) e

single_primary : (k : TokenKind) (b : Bool) → IsLiteralKind k → primary_takes k b [] Refuses ≡ Pushes []
single_primary kind.Number b h = refl
single_primary kind.Character b h = refl
single_primary kind.Str b h = refl
single_primary kind.Symbol b h = refl
single_primary _ b h = absurd h

single_element : (k : TokenKind) (b j : Bool) → IsLiteralKind k → element_takes k b j ≡ Pushes (elements ∷ [])
single_element kind.Number b j h = refl
single_element kind.Character b j h = refl
single_element kind.Str b j h = refl
single_element kind.Symbol b j h = refl
single_element _ b j h = absurd h

after_minus_taken : (strict : Bool) (l : Lexeme) (ts rest : Lexemes) → Takes kind.Number l ts rest → (k : Stack) → run strict ts (after_minus ∷ k) ≡ run strict rest k
after_minus_taken strict l ts rest h k = at strict (after_minus ∷ k) ts (l ∷ rest) h.0 ∙ pushes strict l rest after_minus k [] (ap (λ x. number_takes x true) h.1)

pub single_at_primary : (strict : Bool) (v : LiteralTree) (ts rest : Lexemes) → IsSingle v ts rest → (k : Stack) → run strict ts (primary ∷ k) ≡ run strict rest k
single_at_primary strict v ts rest h k = at strict (primary ∷ k) ts (h.0 ∷ rest) h.1 ∙ pushes strict h.0 rest primary k [] (single_primary h.0.kind (is_minus h.0) h.2)

pub negative_at_primary : (strict : Bool) (v : LiteralTree) (ts rest : Lexemes) → IsNegative v ts rest → (k : Stack) → run strict ts (primary ∷ k) ≡ run strict rest k
negative_at_primary strict v ts rest (sign, l, mid, h, m, g, e) k =
    at strict (primary ∷ k) ts (sign ∷ mid) h.0
    ∙ pushes strict sign mid primary k (after_minus ∷ []) (ap (λ x. primary_takes x (is_minus sign) [] Refuses) h.1 ∙ ap (λ x. primary_takes kind.Binary x [] Refuses) m)
    ∙ after_minus_taken strict l mid rest g k

pub single_at_elements : (strict : Bool) (v : LiteralTree) (ts rest : Lexemes) → IsSingle v ts rest → (k : Stack) → run strict ts (elements ∷ k) ≡ run strict rest (elements ∷ k)
single_at_elements strict v ts rest h k = at strict (elements ∷ k) ts (h.0 ∷ rest) h.1 ∙ pushes strict h.0 rest elements k (elements ∷ []) (single_element h.0.kind (is_minus h.0) h.0.joined h.2)

pub negative_at_elements : (strict : Bool) (v : LiteralTree) (ts rest : Lexemes) → IsNegative v ts rest → (k : Stack) → run strict ts (elements ∷ k) ≡ run strict rest (elements ∷ k)
negative_at_elements strict v ts rest (sign, l, mid, h, m, g, e) k =
    at strict (elements ∷ k) ts (sign ∷ mid) h.0
    ∙ pushes strict sign mid elements k (after_minus ∷ elements ∷ []) (ap (λ x. element_takes x (is_minus sign) sign.joined) h.1 ∙ ap (λ x. element_takes kind.Binary x sign.joined) m)
    ∙ after_minus_taken strict l mid rest g (elements ∷ k)

-- keywords that are joined to one before
joined_rest : (strict : Bool) (word : List ℕ) (ts rest : Lexemes) → AreJoined word ts rest → (k : Stack) → run strict ts (joined_keyword ∷ k) ≡ run strict rest k
joined_rest strict word [] rest h k = absurd h
joined_rest strict word (l ∷ ts) rest (e, inl h) k =
    pushes strict l ts joined_keyword k [] (ap (λ x. joined_takes x l.joined) e ∙ ap (λ x. joined_takes kind.Keyword x) h.0) ∙ at strict k ts rest h.2
joined_rest strict word (l ∷ ts) rest (e, inr h) k =
    pushes strict l ts joined_keyword k (joined_keyword ∷ []) (ap (λ x. joined_takes x l.joined) e ∙ ap (λ x. joined_takes kind.Keyword x) h.1) ∙ joined_rest strict h.0 ts rest h.3 k

joined_taken : (strict : Bool) (word : List ℕ) (ts rest : Lexemes) → AreJoined word ts rest → (k : Stack) → run strict ts (elements ∷ k) ≡ run strict rest (elements ∷ k)
joined_taken strict word [] rest h k = absurd h
joined_taken strict word (l ∷ ts) rest (e, inl h) k =
    pushes strict l ts elements k (elements ∷ []) (ap (λ x. element_takes x (is_minus l) l.joined) e ∙ ap (λ x. element_takes kind.Keyword (is_minus l) x) h.0) ∙ at strict (elements ∷ k) ts rest h.2
joined_taken strict word (l ∷ ts) rest (e, inr h) k =
    pushes strict l ts elements k (joined_keyword ∷ elements ∷ []) (ap (λ x. element_takes x (is_minus l) l.joined) e ∙ ap (λ x. element_takes kind.Keyword (is_minus l) x) h.1) ∙ joined_rest strict h.0 ts rest h.3 (elements ∷ k)

pub word_taken : (strict : Bool) (v : LiteralTree) (ts rest : Lexemes) → IsWord v ts rest → (k : Stack) → run strict ts (elements ∷ k) ≡ run strict rest (elements ∷ k)
word_taken strict v ts rest (inl h) k =
    at strict (elements ∷ k) ts (h.0 ∷ rest) h.1.0 ∙ pushes strict h.0 rest elements k (elements ∷ []) (ap (λ x. element_takes x (is_minus h.0) h.0.joined) h.1.1)
word_taken strict v ts rest (inr (inl h)) k =
    at strict (elements ∷ k) ts (h.0 ∷ rest) h.1.0
    ∙ pushes strict h.0 rest elements k (elements ∷ []) (ap (λ x. element_takes x (is_minus h.0) h.0.joined) h.1.1 ∙ ap (λ x. element_takes kind.Binary x h.0.joined) h.2)
word_taken strict v ts rest (inr (inr h)) k = joined_taken strict h.0 ts rest h.1 k

-- the end of an array
pub array_end : (strict : Bool) (ts rest : Lexemes) → IsMark kind.CloseParen ts rest → (k : Stack) → run strict ts (elements ∷ close_paren ∷ k) ≡ run strict rest k
array_end strict ts rest h k =
    at strict (elements ∷ close_paren ∷ k) ts (h.0 ∷ rest) h.1.0
    ∙ pops strict h.0 rest elements (close_paren ∷ k) (ap (λ x. element_takes x (is_minus h.0) h.0.joined) h.1.1)
    ∙ pushes strict h.0 rest close_paren k [] (ap paren_takes h.1.1)

-- an opening token of an array within an array
pub element_opens : (strict : Bool) (kd : TokenKind) → ((b j : Bool) → element_takes kd b j ≡ Opens (elements ∷ close_paren ∷ elements ∷ [])) → (ts rest : Lexemes) → IsMark kd ts rest → (k : Stack) → may_open strict (level k) ≡ true → run strict ts (elements ∷ k) ≡ run strict rest (elements ∷ close_paren ∷ elements ∷ k)
element_opens strict kd o ts rest h k m =
    at strict (elements ∷ k) ts (h.0 ∷ rest) h.1.0
    ∙ opens strict h.0 rest elements k (elements ∷ close_paren ∷ elements ∷ []) (ap (λ x. element_takes x (is_minus h.0) h.0.joined) h.1.1 ∙ o (is_minus h.0) h.0.joined) m

inner_start : (strict : Bool) (ts rest : Lexemes) → IsArrayStart true ts rest → (k : Stack) → may_open strict (level k) ≡ true → run strict ts (elements ∷ k) ≡ run strict rest (elements ∷ close_paren ∷ elements ∷ k)
inner_start strict ts rest (inl h) k m = element_opens strict kind.ArrayStart (λ b j. refl) ts rest h k m
inner_start strict ts rest (inr h) k m = element_opens strict kind.OpenParen (λ b j. refl) ts rest h k m

mutual
  inner_array : (strict : Bool) (v : LiteralTree) (ts rest : Lexemes) → IsArray true v ts rest → (depth : ℕ) → IsLawfulLiteral strict depth v → (k : Stack) → level k ≡ depth → run strict ts (elements ∷ k) ≡ run strict rest (elements ∷ k)
  inner_array strict (array vs) ts rest h depth w k e =
      inner_start strict ts h.0 h.2 k (ap (may_open strict) e ∙ w.0)
      ∙ elements_taken strict vs h.0 h.1 h.3 (suc depth) w.1 (close_paren ∷ elements ∷ k) (ap suc e)
      ∙ array_end strict h.1 rest h.4 (elements ∷ k)
  inner_array strict _ ts rest h depth w k e = absurd h

  pub elements_taken : (strict : Bool) (vs : LiteralTrees) (ts rest : Lexemes) → AreElements vs ts rest → (depth : ℕ) → AreLawfulLiterals strict depth vs → (k : Stack) → level k ≡ depth → run strict ts (elements ∷ k) ≡ run strict rest (elements ∷ k)
  elements_taken strict no_literals ts rest h depth w k e = at strict (elements ∷ k) ts rest h
  elements_taken strict (literals v vs) ts rest (a, inl h, g) depth w k e = single_at_elements strict v ts a h k ∙ elements_taken strict vs a rest g depth w.1 k e
  elements_taken strict (literals v vs) ts rest (a, inr (inl h), g) depth w k e = negative_at_elements strict v ts a h k ∙ elements_taken strict vs a rest g depth w.1 k e
  elements_taken strict (literals v vs) ts rest (a, inr (inr (inl h)), g) depth w k e = word_taken strict v ts a h k ∙ elements_taken strict vs a rest g depth w.1 k e
  elements_taken strict (literals v vs) ts rest (a, inr (inr (inr h)), g) depth w k e = inner_array strict v ts a h depth w.0 k e ∙ elements_taken strict vs a rest g depth w.1 k e

outer_array : (strict : Bool) (v : LiteralTree) (ts rest : Lexemes) → IsArray false v ts rest → (depth : ℕ) → IsLawfulLiteral strict depth v → (k : Stack) → level k ≡ depth → run strict ts (primary ∷ k) ≡ run strict rest k
outer_array strict (array vs) ts rest h depth w k e =
    at strict (primary ∷ k) ts (h.2.0 ∷ h.0) h.2.1.0
    ∙ opens strict h.2.0 h.0 primary k (elements ∷ close_paren ∷ []) (ap (λ x. primary_takes x (is_minus h.2.0) [] Refuses) h.2.1.1) (ap (may_open strict) e ∙ w.0)
    ∙ elements_taken strict vs h.0 h.1 h.3 (suc depth) w.1 (close_paren ∷ k) (ap suc e)
    ∙ array_end strict h.1 rest h.4 k
outer_array strict _ ts rest h depth w k e = absurd h

-- a literal where an operand is expected
pub literal_taken : (strict : Bool) (v : LiteralTree) (ts rest : Lexemes) → IsLiteral v ts rest → (depth : ℕ) → IsLawfulLiteral strict depth v → (k : Stack) → level k ≡ depth → run strict ts (primary ∷ k) ≡ run strict rest k
literal_taken strict v ts rest (inl h) depth w k e = single_at_primary strict v ts rest h k
literal_taken strict v ts rest (inr (inl h)) depth w k e = negative_at_primary strict v ts rest h k
literal_taken strict v ts rest (inr (inr h)) depth w k e = outer_array strict v ts rest h depth w k e
