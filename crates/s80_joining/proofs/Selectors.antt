-- The selector in the text of a form is a selector, whatever the list.
use Rattle.std.proofs.Common.{◌≡◌, ◌∙◌, ℕ, Bool, true, false, inl, inr, refl, ap, sym, subst, List, [], ◌∷◌, drop, codes}
use Rattle.std.specs.Prelude.{◌^◌, ⊤, nat_le, nat_lt, if◌then◌else◌, neg_ℤ, pos}
use Rattle.std.specs.List.{AllByRecursion}
use Rattle.std.proofs.lemmas.Bool.{false≢true}
use Rattle.std.proofs.lemmas.List.Elements.{recursion_from_All}
use Rattle.s80_base.specs.Literal.{LiteralTree, number, small, str, symbol}
use Rattle.s80_base.specs.declared.literal.NumberKind.TheVariants.{Float, LargeNegative, LargePositive}
use Rattle.s80_base.specs.declared.names.Side.{Side}
use Rattle.s80_base.specs.declared.names.Side.TheVariants.{Class, Instance}
use Rattle.s80_lex.specs.declared.token.Token.{Token}
use Rattle.s80_lex.specs.declared.token.TokenKind.{TokenKind}
use Rattle.s80_lex.specs.declared.token.TokenKind.TheVariants as kind
use Rattle.s80_lex.specs.Number.{is_whole, number_literal, signed, whole_value}
use Rattle.s80_lex.specs.Spelling.{IsSelector, IsToken}
use Rattle.s80_lex.specs.Text.{IsSlice}
use Rattle.s80_lex.proofs.lemmas.Slices.{slices}
use Rattle.s80_tree.specs.declared.name.NameAt.{NameAt}
use Rattle.s80_tree.specs.Tree.{DoItParts, ExprTrees, MessageTrees, exprs, no_exprs}
use Rattle.s80_syntax.specs.Grammar.{AreOptionalTemporaries, IsBar, IsChain, IsDoIt, IsLiteral, IsMessage, IsOperand, Takes}
use Rattle.s80_syntax.specs.Lexeme.{Lexeme, Lexemes, lexemes}
use Rattle.s80_syntax.specs.Literals.{IsLiteralKind, token_literal}
use Rattle.s80_syntax.specs.Text.{IsDoItOf}
use Rattle.s80_form.specs.declared.form.Form.{Form}
use Rattle.s80_form.specs.declared.form.Form.TheVariants.{Classify, ClassVars, Comment, Define, NoChanges, RemoveClass, RemoveMethod}
use Rattle.s80_form.specs.Form.{IsFormText}
use Rattle.s80_form.specs.Name.{IsSelectorWord}
use Rattle.s80_form.specs.TreeParts.{IsSentToName, all_sent, alone, argument, to_organization, to_side}

-- ---- tokens as they are spelled

abbrev IsSpelled : Lexeme → Type 0
IsSpelled l = (rest : List ℕ) × IsToken l.kind l.bytes rest

abbrev Spelled : Lexemes → Type 0
Spelled ts = AllByRecursion IsSpelled ts

all_spelled : (text : List ℕ) (tokens : List Token) → AllByRecursion (IsSlice text) tokens → Spelled (lexemes text tokens)
all_spelled text [] h = tt
all_spelled text (t ∷ later) h = ((drop t.to text, h.0.spelled), all_spelled text later h.1)

behind_one : (k : TokenKind) (l : Lexeme) (ts rest : Lexemes) → Takes k l ts rest → Spelled ts → Spelled rest
behind_one k l ts rest t s = let h : IsSpelled l × Spelled rest = subst Spelled t.0 s in h.1

-- ---- literals

abbrev is_symbol : LiteralTree → Bool
is_symbol (symbol word) = true
is_symbol _ = false

no_number : (negative : Bool) (bytes : List ℕ) → is_symbol (number_literal negative bytes) ≡ false
unfolding number_literal
no_number negative bytes = by_tests (is_whole bytes) negative (nat_lt (whole_value bytes) (2 ^ 30)) (nat_le (whole_value bytes) (2 ^ 30))
  where
    by_tests : (whole below few most : Bool)
        → is_symbol (if whole then (if below then (if most then small (neg_ℤ (pos (whole_value bytes))) else number LargeNegative (45 ∷ bytes)) else (if few then small (pos (whole_value bytes)) else number LargePositive bytes)) else number Float (signed negative bytes)) ≡ false
    by_tests false below few most = refl
    by_tests true true few true = refl
    by_tests true true few false = refl
    by_tests true false true most = refl
    by_tests true false false most = refl

not_number : (word : List ℕ) (negative : Bool) (bytes : List ℕ) → symbol word ≡ number_literal negative bytes → ⊥
not_number word negative bytes is = false≢true (sym (no_number negative bytes) ∙ ap is_symbol (sym is))

selector_of : (word rest : List ℕ) → IsSelector word rest → IsSelectorWord word
selector_of word rest (inl h) = (h.count, inr (inr h.joined))
selector_of word rest (inr (inl h)) = (0, inl (h, refl))
selector_of word rest (inr (inr h)) = (1, inr (inl (h, refl)))

abbrev symbol_word : LiteralTree → List ℕ
symbol_word (symbol word) = word
symbol_word _ = []

by_token : (word : List ℕ) (k : TokenKind) (bytes rest : List ℕ) → IsLiteralKind k → symbol word ≡ token_literal k bytes → IsToken k bytes rest → IsSelectorWord word
by_token word kind.Number bytes rest lit is t = absurd (not_number word false bytes is)
by_token word kind.Character bytes rest lit is t = absurd (cc)
by_token word kind.Str bytes rest lit is t = absurd (cc)
by_token word kind.Symbol bytes rest lit is t =
    let same : word ≡ t.selector = ap symbol_word is ∙ ap (drop 1) t.spelled in
    subst IsSelectorWord (sym same) (selector_of t.selector rest t.selects)
by_token word _ bytes rest lit is t = absurd lit

symbol_selects : (word : List ℕ) (ts rest : Lexemes) → IsLiteral (symbol word) ts rest → Spelled ts → IsSelectorWord word
symbol_selects word ts rest (inl (l, is, lit, same)) s =
    let h : IsSpelled l × Spelled rest = subst Spelled is s in
    by_token word l.kind l.bytes h.0.0 lit same h.0.1
symbol_selects word ts rest (inr (inl (sign, l, mid, first, minus, second, same))) s = absurd (not_number word true l.bytes same)
symbol_selects word ts rest (inr (inr h)) s = absurd h

operand_selects : (word : List ℕ) (high : ℕ) (ts rest : Lexemes) → IsOperand (argument (symbol word)) high ts rest → Spelled ts → IsSelectorWord word
operand_selects word high ts rest (a, targets, none, primary, chain) s = symbol_selects word ts a primary s

-- ---- messages

-- the first argument of a message
argument_selects : (word : List ℕ) (es : ExprTrees) (selector : List ℕ) (low high next_low : ℕ) (ts rest : Lexemes)
    → IsMessage (exprs (argument (symbol word)) es) selector low high next_low ts rest → Spelled ts → IsSelectorWord word
argument_selects word es selector low high next_low ts rest (inl (l, a, t, is, at_least, at_most, on, operand, none)) s =
    operand_selects word 0 a rest operand (behind_one kind.Binary l ts a t s)
argument_selects word es selector low high next_low ts rest (inr (l, a, b, more, t, is, at_least, at_most, on, operand, parts)) s =
    operand_selects word 1 a b operand (behind_one kind.Keyword l ts a t s)

behind_unary : (selector : List ℕ) (low high next_low : ℕ) (ts rest : Lexemes) → IsMessage no_exprs selector low high next_low ts rest → Spelled ts → Spelled rest
behind_unary selector low high next_low ts rest (l, t, is, least, on) s = behind_one kind.Name l ts rest t s

-- that of a message to a side of a class, and to the organization of a side
module _ (word selector : List ℕ) (es : ExprTrees) where
  abbrev HoldsOf : MessageTrees → Type 0
  HoldsOf sent = (low high : ℕ) (ts rest : Lexemes) → IsChain sent low high ts rest → Spelled ts → IsSelectorWord word

  side_selects : (side : Side) → HoldsOf (to_side (side, (selector, exprs (argument (symbol word)) es)))
  side_selects Instance low high ts rest (a, on, message, more) s = argument_selects word es selector low high on ts a message s
  side_selects Class low high ts rest (a, on, first, (b, further, message, more)) s =
      argument_selects word es selector on high further a b message (behind_unary (codes "class") low high on ts a first s)

  organization_selects : (side : Side) → HoldsOf (to_organization (side, (selector, exprs (argument (symbol word)) es)))
  organization_selects Instance low high ts rest (a, on, first, (b, further, message, more)) s =
      argument_selects word es selector on high further a b message (behind_unary (codes "organization") low high on ts a first s)
  organization_selects Class low high ts rest (a, on, first, (b, further, second, (c, last, message, more))) s =
      argument_selects word es selector further high last b c message
      (behind_unary (codes "organization") on high further a b second (behind_unary (codes "class") low high on ts a first s))

-- ---- texts

behind_bar : (ts rest : Lexemes) → IsBar ts rest → Spelled ts → Spelled rest
behind_bar ts rest (l, t, is) s = behind_one kind.Binary l ts rest t s

behind_temporaries : (ts rest : Lexemes) → AreOptionalTemporaries [] ts rest → Spelled ts → Spelled rest
behind_temporaries ts rest (inl (a, b, first, none, second)) s = behind_bar b rest second (subst Spelled none (behind_bar ts a first s))
behind_temporaries ts rest (inr (none, is)) s = subst Spelled is s

-- what holds of a chain of messages to a name holds of the text that is it
doit_selects : (word : List ℕ) (receiver : NameAt) (sent : MessageTrees) (ts : Lexemes)
    → ((low high : ℕ) (from rest : Lexemes) → IsChain sent low high from rest → Spelled from → IsSelectorWord word) → IsDoIt (alone (all_sent (receiver, sent))) ts → Spelled ts → IsSelectorWord word
doit_selects word receiver sent ts holds (a, temporaries, (b, c, d, caret, (e, f, g, targets, (l, t, named, at), chain, first, cascade), between, body)) s =
    let begins : Spelled a = behind_temporaries ts a temporaries s in
    let from : Spelled e = subst Spelled (caret ∙ targets) begins in
    holds 0 2 f g chain (behind_one kind.Name l e f t from)

text_selects : (word text : List ℕ) (tree : DoItParts) (receiver : NameAt) (sent : MessageTrees)
    → ((low high : ℕ) (from rest : Lexemes) → IsChain sent low high from rest → Spelled from → IsSelectorWord word) → IsDoItOf text tree → IsSentToName tree (receiver, sent) → IsSelectorWord word
text_selects word text tree receiver sent holds is sends =
    doit_selects word receiver sent (lexemes text is.tokens) holds (subst (λ t. IsDoIt t (lexemes text is.tokens)) sends.tree_is is.doit)
    (all_spelled text is.tokens (recursion_from_All (IsSlice text) is.tokens (slices is.tokens text is.are_tokens)))

-- a form that has a selector has a lawful one
abbrev pub HasSelector : Form → Type 0
HasSelector (RemoveMethod name side selector) = IsSelectorWord selector
HasSelector (Classify name side selector category) = IsSelectorWord selector
HasSelector _ = ⊤

pub form_selects : (text : List ℕ) (form : Form) → IsFormText text form → HasSelector form
form_selects text (Define d) is = tt
form_selects text (ClassVars name names) is = tt
form_selects text (Comment name own) is = tt
form_selects text (RemoveMethod name side selector) is =
    let sends = is.form_is.0 in
    text_selects selector text is.tree (record { name = name; at = sends.0 }) (to_side (side, (codes "removeSelector:", exprs (argument (symbol selector)) no_exprs)))
    (side_selects selector (codes "removeSelector:") no_exprs side) is.tree_is sends.1
form_selects text (Classify name side selector category) is =
    let sends = is.form_is.0 in
    let last : ExprTrees = exprs (argument (str category)) no_exprs in
    text_selects selector text is.tree (record { name = name; at = sends.0 }) (to_organization (side, (codes "classify:under:", exprs (argument (symbol selector)) last)))
    (organization_selects selector (codes "classify:under:") last side) is.tree_is sends.1
form_selects text (RemoveClass name) is = tt
form_selects text NoChanges is = tt
