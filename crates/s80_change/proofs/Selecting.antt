-- The selector of a method is a selector.
use Rattle.std.proofs.Common.{◌≡◌, ℕ, suc, List, [], ◌∷◌, ◌++◌, length, drop, inl, inr, refl, ap, ap₂, sym, ◌∙◌, subst, arith, Ok}
use Rattle.std.specs.List.{AllByRecursion}
use Rattle.std.proofs.lemmas.List.Elements.{recursion_from_All}
use Rattle.s80_lex.specs.declared.token.Token.{Token}
use Rattle.s80_lex.specs.declared.token.TokenKind.{TokenKind}
use Rattle.s80_lex.specs.declared.token.TokenKind.TheVariants as kind
use Rattle.s80_lex.specs.Selector.{IsSelectorOf}
use Rattle.s80_lex.specs.Spelling.{IsToken, IsName, IsBinary, IsKeyword}
use Rattle.s80_lex.specs.Text.{IsSlice}
use Rattle.s80_lex.proofs.lemmas.SelectorLemmas.{Joined}
use Rattle.s80_lex.proofs.lemmas.Slices.{slices}
use Rattle.s80_tree.specs.declared.name.NameAt.{NameAt}
use Rattle.s80_tree.specs.Tree.{MethodParts}
use Rattle.s80_syntax.specs.Lexeme.{Lexeme, Lexemes, lexemes}
use Rattle.s80_syntax.specs.Grammar.{Takes, IsDeclared, AreKeywords, IsPattern}
use Rattle.s80_syntax.specs.Text.{IsMethodOf}
use Rattle.s80_form.specs.Name.{IsSelectorWord}
use Rattle.s80_change.specs.Check.{IsCheckOf}

-- ---- tokens as they are spelled

abbrev IsSpelled : Lexeme → Type 0
IsSpelled l = (rest : List ℕ) × IsToken l.kind l.bytes rest

abbrev Spelled : Lexemes → Type 0
Spelled ts = AllByRecursion IsSpelled ts

all_spelled : (text : List ℕ) (tokens : List Token) → AllByRecursion (IsSlice text) tokens → Spelled (lexemes text tokens)
all_spelled text [] h = tt
all_spelled text (t ∷ later) h = ((drop t.to text, h.0.spelled), all_spelled text later h.1)

taken : (k : TokenKind) (l : Lexeme) (ts rest : Lexemes) → Takes k l ts rest → Spelled ts → ((after : List ℕ) × IsToken k l.bytes after) × Spelled rest
taken k l ts rest t s =
    let h : IsSpelled l × Spelled rest = subst Spelled t.0 s in
    ((h.0.0, subst (λ (j : TokenKind). IsToken j l.bytes h.0.0) t.1 h.0.1), h.1)

a_name : (n : NameAt) (ts rest : Lexemes) → IsDeclared n ts rest → Spelled ts → Spelled rest
a_name n ts rest ((l, t, w, at), free) s = (taken kind.Name l ts rest t s).1

-- ---- selectors

one_more : (word selector rest after : List ℕ) (n : ℕ) → IsKeyword word after → selector ≡ word ++ rest → Joined n rest → Joined (suc n) selector
one_more word selector rest after n k is j =
    record {
      names = k.name ∷ j.names;
      named = (k.named, j.named);
      spelled = is ∙ ap₂ (λ u v. u ++ v) k.spelled j.spelled;
      counted = ap (λ i. suc i) j.counted;
    }

keywords : (ns : List NameAt) (selector : List ℕ) (ts rest : Lexemes) → AreKeywords ns selector ts rest → Spelled ts → Joined (length ns) selector
keywords [] selector ts rest (is, none) s = record { names = []; named = tt; spelled = none; counted = refl }
keywords (n ∷ ns) selector ts rest (l, a, b, later, t, is, one, more) s =
    let x = taken kind.Keyword l ts a t s in
    one_more l.bytes selector later x.0.0 (length ns) x.0.1 is (keywords ns later b rest more (a_name n a b one x.1))

joined_selects : (n : ℕ) (selector : List ℕ) → Joined (suc n) selector → IsSelectorOf (suc n) selector
joined_selects n selector j =
    inr (inr (record {
      names = j.names;
      some = λ none. (let e : suc n ≡ length j.names = j.counted in omega (arith, e, ap length none));
      named = j.named;
      spelled = j.spelled;
      counted = j.counted;
    }))

pattern_selects : (selector : List ℕ) (ns : List NameAt) (ts rest : Lexemes) → IsPattern selector ns ts rest → Spelled ts → IsSelectorWord selector
pattern_selects selector [] ts rest (l, t, is) s = (0, inl (subst IsName (sym is) (taken kind.Name l ts rest t s).0.1, refl))
pattern_selects selector (n ∷ ns) ts rest (inl (l, a, t, is, one, none)) s = (1, inr (inl (subst IsBinary (sym is) (taken kind.Binary l ts a t s).0.1, refl)))
pattern_selects selector (n ∷ ns) ts rest (inr h) s = (suc (length ns), joined_selects (length ns) selector (keywords (n ∷ ns) selector ts rest h s))

method_selects : (source : List ℕ) (m : MethodParts) → IsMethodOf source m → IsSelectorWord m.selector
method_selects source m h =
    let (a, b, begins, head, body) = h.method in
    pattern_selects m.selector m.parameters (lexemes source h.tokens) a begins (all_spelled source h.tokens (recursion_from_All (IsSlice source) h.tokens (slices h.tokens source h.are_tokens)))

pub source_selects : (source selector : List ℕ) → IsCheckOf source (Ok selector) → IsSelectorWord selector
source_selects source selector (m, is, fits, e) = subst IsSelectorWord (sym e) (method_selects source m is)
