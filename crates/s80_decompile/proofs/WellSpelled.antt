-- What the grammar reads from the tokens of a text is spellable: names and literals.
use Rattle.std.proofs.Common.{◌≡◌, ◌≢◌, ℕ, inl, inr, List, [], ◌∷◌, ◌++◌, Bool, true, false, if◌then◌else◌, codes, drop, length, refl, ap, sym, ◌∙◌, subst}
use Rattle.std.specs.List.{AllByRecursion, flat_map}
use Rattle.std.specs.Str.{bytes_eq}
use Rattle.s80_base.specs.Literal.{LiteralTree, LiteralTrees, symbol, array, true_literal, false_literal, nil_literal, no_literals, literals}
use Rattle.std.proofs.lemmas.List.{append-nil}
use Rattle.std.proofs.lemmas.List.Elements.{recursion_from_All}
use Rattle.s80_lex.specs.declared.token.Token.{Token}
use Rattle.s80_lex.specs.declared.token.TokenKind.{TokenKind}
use Rattle.s80_lex.specs.declared.token.TokenKind.TheVariants as kind
use Rattle.s80_lex.specs.Number.{IsLawfulNumber}
use Rattle.s80_lex.specs.Selector.{IsSelectorOf}
use Rattle.s80_lex.specs.Spelling.{IsName as IsNameWord, IsSelector, IsToken, keyword}
use Rattle.s80_lex.specs.Text.{AreTokens, IsSlice}
use Rattle.s80_lex.proofs.lemmas.Slices.{slices}
use Rattle.s80_syntax.specs.Lexeme.{Lexeme, Lexemes, lexemes}
use Rattle.s80_syntax.specs.Literals.{IsLiteralKind, name_literal, token_literal}
use Rattle.s80_syntax.specs.Grammar.{AreDeclared, AreElements, AreJoined, AreParameters, IsArray, IsArrayStart, IsDeclared, IsLiteral, IsMark, IsName, IsNegative, IsSign, IsSingle, IsTargets, IsWord, Takes}
use Rattle.s80_tree.specs.declared.name.NameAt.{NameAt}
use Rattle.s80_decompile.specs.Spellable.{AreDeclarable, AreNames, AreSpellableLiterals, IsDeclarable, IsSpellableLiteral}
use Rattle.s80_decompile.proofs.Values.{number_spellable}

-- ---- the tokens of a text

-- a token that is spelled as its kind
abbrev IsSpelledAs : TokenKind → List ℕ → Type 0
IsSpelledAs k bytes = (rest : List ℕ) × IsToken k bytes rest × (k ≡ kind.Number → IsLawfulNumber bytes)

abbrev pub AreTokensOf : Lexemes → Type 0
AreTokensOf [] = Unit {0}
AreTokensOf (l ∷ ls) = IsSpelledAs l.kind l.bytes × AreTokensOf ls

from_slices : (text : List ℕ) (ts : List Token) → AllByRecursion (IsSlice text) ts → AreTokensOf (lexemes text ts)
from_slices text [] h = tt
from_slices text (t ∷ ts) h = ((drop t.to text, h.0.spelled, h.0.lawful), from_slices text ts h.1)

pub text_tokens : (text : List ℕ) (ts : List Token) → AreTokens ts text → AreTokensOf (lexemes text ts)
text_tokens text ts h = from_slices text ts (recursion_from_All (IsSlice text) ts (slices ts text h))

-- the token taken, and those behind it
pub taken : (k : TokenKind) (l : Lexeme) (ts rest : Lexemes) → Takes k l ts rest → AreTokensOf ts → IsSpelledAs k l.bytes × AreTokensOf rest
taken k l ts rest t h =
    let both : AreTokensOf (l ∷ rest) = subst AreTokensOf t.0 h in
    (subst (λ j. IsSpelledAs j l.bytes) t.1 both.0, both.1)

pub after_mark : (k : TokenKind) (ts rest : Lexemes) → IsMark k ts rest → AreTokensOf ts → AreTokensOf rest
after_mark k ts rest (l, t) h = (taken k l ts rest t h).1

pub after_sign : (k : TokenKind) (word : List ℕ) (ts rest : Lexemes) → IsSign k word ts rest → AreTokensOf ts → AreTokensOf rest
after_sign k word ts rest (l, t, e) h = (taken k l ts rest t h).1

-- ---- names

pub name_form : (n : NameAt) (ts rest : Lexemes) → IsName n ts rest → AreTokensOf ts → IsNameWord n.name × AreTokensOf rest
name_form n ts rest (l, t, e, p) h =
    let both = taken kind.Name l ts rest t h in
    (subst IsNameWord (sym e) both.0.1, both.1)

pub declared_form : (n : NameAt) (ts rest : Lexemes) → IsDeclared n ts rest → AreTokensOf ts → IsDeclarable n × AreTokensOf rest
declared_form n ts rest d h =
    let both = name_form n ts rest d.0 h in
    ((both.0, d.1), both.1)

pub targets_form : (ns : List NameAt) (ts rest : Lexemes) → IsTargets ns ts rest → AreTokensOf ts → AreNames ns × AreTokensOf rest
targets_form [] ts rest e h = (tt, subst AreTokensOf e h)
targets_form (n ∷ ns) ts rest (a, b, i, j, k) h =
    let one = name_form n ts a i h in
    let more = targets_form ns b rest k (after_mark kind.Assign a b j one.1) in
    ((one.0, more.0), more.1)

pub names_form : (ns : List NameAt) (ts rest : Lexemes) → AreDeclared ns ts rest → AreTokensOf ts → AreDeclarable ns × AreTokensOf rest
names_form [] ts rest e h = (tt, subst AreTokensOf e h)
names_form (n ∷ ns) ts rest (a, i, k) h =
    let one = declared_form n ts a i h in
    let more = names_form ns a rest k one.1 in
    ((one.0, more.0), more.1)

pub parameters_form : (ns : List NameAt) (ts rest : Lexemes) → AreParameters ns ts rest → AreTokensOf ts → AreDeclarable ns × AreTokensOf rest
parameters_form [] ts rest e h = (tt, subst AreTokensOf e h)
parameters_form (n ∷ ns) ts rest (a, b, i, j, k) h =
    let one = declared_form n a b j (after_mark kind.Colon ts a i h) in
    let more = parameters_form ns b rest k one.1 in
    ((one.0, more.0), more.1)

-- ---- literals

selector_of : (w rest : List ℕ) → IsSelector w rest → (n : ℕ) × IsSelectorOf n w
selector_of w rest (inl h) = (h.count, inr (inr h.joined))
selector_of w rest (inr (inl h)) = (0, inl (h, refl))
selector_of w rest (inr (inr h)) = (1, inr (inl (h, refl)))

single_form : (inner : Bool) (v : LiteralTree) (k : TokenKind) (bytes : List ℕ) → IsLiteralKind k → v ≡ token_literal k bytes → IsSpelledAs k bytes → IsSpellableLiteral inner v
single_form inner v kind.Number bytes lit e (r, h, l) = number_spellable inner false v bytes e h (l refl)
single_form inner v kind.Character bytes lit e h = subst (IsSpellableLiteral inner) (sym e) tt
single_form inner v kind.Str bytes lit e h = subst (IsSpellableLiteral inner) (sym e) tt
single_form inner v kind.Symbol bytes lit e (r, h, l) =
    subst (IsSpellableLiteral inner) (sym (e ∙ ap (λ b. symbol (drop 1 b)) h.spelled)) (selector_of h.selector r h.selects)
single_form inner v _ bytes lit e h = absurd lit

pub single_is : (inner : Bool) (v : LiteralTree) (ts rest : Lexemes) → IsSingle v ts rest → AreTokensOf ts → IsSpellableLiteral inner v × AreTokensOf rest
single_is inner v ts rest (l, t, lit, e) h =
    let both : AreTokensOf (l ∷ rest) = subst AreTokensOf t h in
    (single_form inner v l.kind l.bytes lit e both.0, both.1)

pub negative_is : (inner : Bool) (v : LiteralTree) (ts rest : Lexemes) → IsNegative v ts rest → AreTokensOf ts → IsSpellableLiteral inner v × AreTokensOf rest
negative_is inner v ts rest (s, l, a, t, m, u, e) h =
    let minus = taken kind.Binary s ts a t h in
    let digits = taken kind.Number l a rest u minus.1 in
    (number_spellable inner true v l.bytes e digits.0.1 (digits.0.2 refl), digits.1)

name_spellable : (bytes : List ℕ) → IsNameWord bytes → IsSpellableLiteral true (name_literal bytes)
name_spellable bytes h = by_tests (bytes_eq bytes (codes "true")) (bytes_eq bytes (codes "false")) (bytes_eq bytes (codes "nil"))
  where
    by_tests : (a b c : Bool) → IsSpellableLiteral true (if a then true_literal else (if b then false_literal else (if c then nil_literal else symbol bytes)))
    by_tests true b c = refl
    by_tests false true c = refl
    by_tests false false true = refl
    by_tests false false false = (0, inl (h, refl))

-- joined keywords, as a selector
record Joined (word : List ℕ) (rest : Lexemes) : Type 0 where
  names : List (List ℕ)
  some : names ≢ []
  named : AllByRecursion IsNameWord names
  spelled : word ≡ flat_map keyword names
  behind : AreTokensOf rest

joined_form : (word : List ℕ) (ts rest : Lexemes) → AreJoined word ts rest → AreTokensOf ts → Joined word rest
joined_form word [] rest h w = absurd h
joined_form word (l ∷ ts) rest (k, inl (j, e, t)) (s, w) =
    let one : IsSpelledAs kind.Keyword l.bytes = subst (λ q. IsSpelledAs q l.bytes) k s in
    record {
      names = one.1.name ∷ [];
      some = λ i. absurd (cc);
      named = (one.1.named, tt);
      spelled = e ∙ one.1.spelled ∙ sym (append-nil (keyword one.1.name));
      behind = subst AreTokensOf t w;
    }
joined_form word (l ∷ ts) rest (k, inr (more, j, e, h)) (s, w) =
    let one : IsSpelledAs kind.Keyword l.bytes = subst (λ q. IsSpelledAs q l.bytes) k s in
    let others = joined_form more ts rest h w in
    record {
      names = one.1.name ∷ others.names;
      some = λ i. absurd (cc);
      named = (one.1.named, others.named);
      spelled = e ∙ ap (λ b. b ++ more) one.1.spelled ∙ ap (λ b. keyword one.1.name ++ b) others.spelled;
      behind = others.behind;
    }

pub word_is : (v : LiteralTree) (ts rest : Lexemes) → IsWord v ts rest → AreTokensOf ts → IsSpellableLiteral true v × AreTokensOf rest
word_is v ts rest (inl (l, t, e)) h =
    let one = taken kind.Name l ts rest t h in
    (subst (IsSpellableLiteral true) (sym e) (name_spellable l.bytes one.0.1), one.1)
word_is v ts rest (inr (inl (l, t, m, e))) h =
    let one = taken kind.Binary l ts rest t h in
    (subst (IsSpellableLiteral true) (sym e) (1, inr (inl (one.0.1, refl))), one.1)
word_is v ts rest (inr (inr (word, j, e))) h =
    let one = joined_form word ts rest j h in
    (subst (IsSpellableLiteral true) (sym e) (length one.names, inr (inr (record { names = one.names; some = one.some; named = one.named; spelled = one.spelled; counted = refl }))), one.behind)

start_form : (inner : Bool) (ts rest : Lexemes) → IsArrayStart inner ts rest → AreTokensOf ts → AreTokensOf rest
start_form false ts rest m h = after_mark kind.ArrayStart ts rest m h
start_form true ts rest (inl m) h = after_mark kind.ArrayStart ts rest m h
start_form true ts rest (inr m) h = after_mark kind.OpenParen ts rest m h

mutual
  array_form : (inner within : Bool) (v : LiteralTree) (ts rest : Lexemes) → IsArray inner v ts rest → AreTokensOf ts → IsSpellableLiteral within v × AreTokensOf rest
  array_form inner within (array vs) ts rest (a, b, s, es, m) h =
      let more = elements_form vs a b es (start_form inner ts a s h) in
      (more.0, after_mark kind.CloseParen b rest m more.1)
  array_form inner within _ ts rest n h = absurd n

  elements_form : (vs : LiteralTrees) (ts rest : Lexemes) → AreElements vs ts rest → AreTokensOf ts → AreSpellableLiterals vs × AreTokensOf rest
  elements_form no_literals ts rest e h = (tt, subst AreTokensOf e h)
  elements_form (literals v vs) ts rest (a, inl s, k) h =
      let one = single_is true v ts a s h in
      let more = elements_form vs a rest k one.1 in
      ((one.0, more.0), more.1)
  elements_form (literals v vs) ts rest (a, inr (inl s), k) h =
      let one = negative_is true v ts a s h in
      let more = elements_form vs a rest k one.1 in
      ((one.0, more.0), more.1)
  elements_form (literals v vs) ts rest (a, inr (inr (inl s)), k) h =
      let one = word_is v ts a s h in
      let more = elements_form vs a rest k one.1 in
      ((one.0, more.0), more.1)
  elements_form (literals v vs) ts rest (a, inr (inr (inr s)), k) h =
      let one = array_form true true v ts a s h in
      let more = elements_form vs a rest k one.1 in
      ((one.0, more.0), more.1)

pub literal_form : (v : LiteralTree) (ts rest : Lexemes) → IsLiteral v ts rest → AreTokensOf ts → IsSpellableLiteral false v × AreTokensOf rest
literal_form v ts rest (inl s) h = single_is false v ts rest s h
literal_form v ts rest (inr (inl s)) h = negative_is false v ts rest s h
literal_form v ts rest (inr (inr s)) h = array_form false false v ts rest s h
