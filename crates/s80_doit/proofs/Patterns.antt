-- The selector of a text's tree has as many parameters as the tree.
use Rattle.std.proofs.Common.{◌≡◌, ℕ, suc, List, [], ◌∷◌, ◌++◌, Bool, length, drop, inl, inr, refl, ap, ap₂, sym, ◌∙◌, subst, arith}
use Rattle.std.specs.List.{AllByRecursion}
use Rattle.std.specs.Prelude.{slice_range}
use Rattle.std.proofs.lemmas.List.Elements.{recursion_from_All}
use Rattle.s80_lex.specs.declared.token.Token.{Token}
use Rattle.s80_lex.specs.declared.token.TokenKind.{TokenKind}
use Rattle.s80_lex.specs.declared.token.TokenKind.TheVariants as kind
use Rattle.s80_lex.specs.Spelling.{IsToken, IsBinary, IsKeyword, keyword, IsName as IsWordOfName}
use Rattle.s80_lex.specs.Text.{IsSlice}
use Rattle.s80_lex.proofs.lemmas.Slices.{slices}
use Rattle.s80_tree.specs.declared.name.NameAt.{NameAt}
use Rattle.s80_tree.specs.Tree.{MethodParts}
use Rattle.s80_syntax.specs.Lexeme.{Lexeme, Lexemes, lexemes}
use Rattle.s80_syntax.specs.Grammar.{IsName, AreKeywords, IsPattern, IsMethod}
use Rattle.s80_syntax.specs.Text.{IsMethodOf}
use Rattle.s80_lex.specs.Selector.{IsSelectorOf}
use Rattle.s80_lex.proofs.lemmas.SelectorLemmas.{Joined}

-- ---- tokens as they are spelled

record IsSpelled (l : Lexeme) : Type 0 where
  name : l.kind ≡ kind.Name → IsWordOfName l.bytes
  binary : l.kind ≡ kind.Binary → IsBinary l.bytes
  keywords : l.kind ≡ kind.Keyword → (word : List ℕ) × IsWordOfName word × (l.bytes ≡ keyword word)

abbrev Spelled : Lexemes → Type 0
Spelled ts = AllByRecursion IsSpelled ts

token_spelled : (k : TokenKind) (word rest : List ℕ) (at : ℕ) (joined : Bool) → IsToken k word rest → IsSpelled (record { kind = k; bytes = word; at = at; joined = joined })
token_spelled k word rest at joined t = record {
  name = λ e. subst (λ (j : TokenKind). IsToken j word rest) e t;
  binary = λ e. subst (λ (j : TokenKind). IsToken j word rest) e t;
  keywords = λ e. of_keyword (subst (λ (j : TokenKind). IsToken j word rest) e t);
}
  where
    of_keyword : IsKeyword word rest → (w : List ℕ) × IsWordOfName w × (word ≡ keyword w)
    of_keyword h = (h.name, h.named, h.spelled)

all_spelled : (text : List ℕ) (tokens : List Token) → AllByRecursion (IsSlice text) tokens → Spelled (lexemes text tokens)
all_spelled text [] h = tt
all_spelled text (t ∷ later) h = (token_spelled t.kind (slice_range text t.from t.to) (drop t.to text) t.from _ h.0.spelled, all_spelled text later h.1)

taken : (l : Lexeme) (ts rest : Lexemes) → ts ≡ l ∷ rest → Spelled ts → IsSpelled l × Spelled rest
taken l ts rest is s = subst Spelled is s

a_name : (n : NameAt) (ts rest : Lexemes) → IsName n ts rest → Spelled ts → Spelled rest
a_name n ts rest (l, t, w, at) s = (taken l ts rest t.0 s).1

-- ---- selectors

no_keywords : (word : List ℕ) → word ≡ [] → Joined 0 word
no_keywords word is = record { names = []; named = tt; spelled = is; counted = refl }

one_more : (l : Lexeme) (n : ℕ) (word rest : List ℕ) → IsSpelled l → l.kind ≡ kind.Keyword → word ≡ l.bytes ++ rest → Joined n rest → Joined (suc n) word
one_more l n word rest s k is j =
    let (first, named, spelled) = s.keywords k in record {
      names = first ∷ j.names;
      named = (named, j.named);
      spelled = is ∙ ap₂ (λ u v. u ++ v) spelled j.spelled;
      counted = ap (λ i. suc i) j.counted;
    }

selects : (n : ℕ) (word : List ℕ) → Joined (suc n) word → IsSelectorOf (suc n) word
selects n word j = inr (inr (record {
  names = j.names;
  some = λ none. (let e : suc n ≡ length j.names = j.counted in omega (arith, e, ap length none));
  named = j.named;
  spelled = j.spelled;
  counted = j.counted;
}))

joined : (ns : List NameAt) (word : List ℕ) (ts rest : Lexemes) → AreKeywords ns word ts rest → Spelled ts → Joined (length ns) word
joined [] word ts rest (is, none) s = no_keywords word none
joined (n ∷ ns) word ts rest (l, a, b, word', t, is, one, more) s =
    let x = taken l ts a t.0 s in
    one_more l (length ns) word word' x.0 t.1 is (joined ns word' b rest more (a_name n a b one.0 x.1))

pattern_selects : (word : List ℕ) (ns : List NameAt) (ts rest : Lexemes) → IsPattern word ns ts rest → Spelled ts → IsSelectorOf (length ns) word
pattern_selects word [] ts rest (l, t, is) s = inl (subst IsWordOfName (sym is) ((taken l ts rest t.0 s).0.name t.1), refl)
pattern_selects word (n ∷ ns) ts rest (inl (l, a, t, is, one, alone)) s =
    inr (inl (subst IsBinary (sym is) ((taken l ts a t.0 s).0.binary t.1), ap (λ (ms : List NameAt). suc (length ms)) alone))
pattern_selects word (n ∷ ns) ts rest (inr h) s = selects (length ns) word (joined (n ∷ ns) word ts rest h s)

method_selects : (m : MethodParts) (ts : Lexemes) → IsMethod m ts → Spelled ts → IsSelectorOf (length m.parameters) m.selector
method_selects m ts (a, b, pattern, head, body) s = pattern_selects m.selector m.parameters ts a pattern s

pub text_selects : (text : List ℕ) (m : MethodParts) → IsMethodOf text m → IsSelectorOf (length m.parameters) m.selector
text_selects text m h = method_selects m (lexemes text h.tokens) h.method (all_spelled text h.tokens (recursion_from_All (IsSlice text) h.tokens (slices h.tokens text h.are_tokens)))
