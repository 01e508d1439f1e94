-- What stands before the body of a method or a doIt, and whole texts.
use Rattle.std.specs.Prelude.{◌≡◌, ◌≢◌, ℕ, ◌≤◌, List, [], ◌∷◌, ◌++◌, Bool, true, false, length, pos, Option, Some, None, Result, Ok, Err}
use Rattle.std.specs.Borrow.{Bor}
use Rattle.s80_base.specs.Literal.{small}
use Rattle.s80_lex.specs.declared.token.Token.{Token}
use Rattle.s80_lex.specs.declared.token.TokenKind.TheVariants as kind
use Rattle.s80_lex.specs.Number.{number_literal}
use Rattle.s80_tree.specs.declared.name.NameAt.{NameAt}
use Rattle.s80_tree.specs.declared.method.MethodTree.{MethodTree}
use Rattle.s80_tree.specs.declared.method.DoItTree.{DoItTree}
use Rattle.s80_tree.specs.Tree.{method_of, doit_of}
use Rattle.s80_syntax.specs.Lexeme.{Lexeme, Lexemes, lexemes}
use Rattle.s80_syntax.specs.Grammar.{Takes, IsSign, IsBar, IsDeclared, AreDeclared, IsMethod, IsDoIt}
use Rattle.s80_syntax.specs.Faults.{Wrong, Unexpected, Nested, NotAssignable, fault_place}
use Rattle.s80_syntax.specs.Stack.{Symbol, Stack, Accepts, Fails, run, method_start, doit_start, after_keyword, after_bar, temporaries, body, home_scope}
use Rattle.s80_syntax.specs.Word.{Names, greater, primitive_value, primitive_word}
use Rattle.s80_syntax.specs.declared.fault.ParseFault.{ParseFault}
use Rattle.s80_syntax.specs.declared.fault.ParseFault.TheVariants as fault
use Rattle.s80_syntax.specs.Reads.{AreSlices, bytes_of}

-- the run of this stack stops so
pub record Breaks (text : List ℕ) (k : Stack) (ts : Lexemes) (w : Wrong) (at : ℕ) : Type 0 where
  pub rest : Lexemes
  pub is_place : at ≡ fault_place (length text) w rest
  pub same : run true ts k ≡ Fails w rest

abbrev pub BreaksAs : List ℕ → Stack → Lexemes → ParseFault → Type 0
BreaksAs text k ts fault.Memory = Unit {0}
BreaksAs text k ts (fault.Unexpected at) = Breaks text k ts Unexpected at
BreaksAs text k ts (fault.Nested at) = Breaks text k ts Nested at
BreaksAs text k ts (fault.NotAssignable at) = (n : Lexeme) × Breaks text k ts (NotAssignable n) at
BreaksAs text k ts _ = ⊥

-- something was read from the tokens taken, and the run of the one stack goes on with the other
pub record Goes (text : List ℕ) (from to : Stack) (Reads : Lexemes → Lexemes → Type 0) (ts rest : List Token) : Type 0 where
  pub read : Reads (lexemes text ts) (lexemes text rest)
  pub same : run true (lexemes text ts) from ≡ run true (lexemes text rest) to
  pub slices : AreSlices text rest

abbrev pub GoesTo : {V : Type 0} → List ℕ → Stack → (V → Stack) → (V → Lexemes → Lexemes → Type 0) → List Token → Result (V × Bor (List Token)) ParseFault → Type 0
GoesTo text from to Reads ts (Ok x) = Goes text from (to x.0) (Reads x.0) ts x.1.now
GoesTo text from to Reads ts (Err e) = BreaksAs text from (lexemes text ts) e

-- what may come behind the keywords of a pattern with these parameters
abbrev pub keyword_symbol : Names → Symbol
keyword_symbol [] = method_start
keyword_symbol (n ∷ ns) = after_keyword (n ∷ ns)

-- temporaries behind the first bar, and a primitive behind its first sign
abbrev pub AreTemporariesRest : List NameAt → Lexemes → Lexemes → Type 0
AreTemporariesRest ns ts rest = (a : Lexemes) × AreDeclared ns ts a × IsBar a rest

abbrev pub IsPrimitiveRest : ℕ → Lexemes → Lexemes → Type 0
IsPrimitiveRest n ts rest =
    (l : Lexeme) × (a b : Lexemes) × IsSign kind.Keyword primitive_word ts a
    × Takes kind.Number l a b × (number_literal false l.bytes ≡ small (pos n)) × (1 ≤ n) × (n ≤ 255) × IsSign kind.Binary greater b rest

-- a primitive's number, or none where none comes next
abbrev pub NoNumber : List ℕ → List Token → Type 0
NoNumber text [] = Unit {0}
NoNumber text (t ∷ ts) = t.kind ≡ kind.Number → primitive_value (number_literal false (bytes_of text t)) ≡ 0

pub record TookNumber (text : List ℕ) (n : ℕ) (ts rest : List Token) : Type 0 where
  pub token : Token
  pub first : ts ≡ token ∷ rest
  pub kind : token.kind ≡ kind.Number
  pub value : primitive_value (number_literal false (bytes_of text token)) ≡ n
  pub some : n ≢ 0
  pub slices : AreSlices text rest

abbrev pub IsNumberNext : List ℕ → List Token → Option (ℕ × Bor (List Token)) → Type 0
IsNumberNext text ts None = NoNumber text ts
IsNumberNext text ts (Some x) = TookNumber text x.0 ts x.1.now

-- the parameter of a binary selector
abbrev pub IsBinaryPattern : List ℕ → List ℕ → List NameAt → Lexemes → Lexemes → Type 0
IsBinaryPattern word selector parameters ts rest =
    (n : NameAt) × (selector ≡ word) × (parameters ≡ n ∷ []) × IsDeclared n ts rest

-- a body, where these names are declared
abbrev pub home_body : Names → Names → Stack
home_body ps ns = body ∷ home_scope ps ns ∷ []

-- all of a text
abbrev pub MeansMethod : List ℕ → List Token → Result MethodTree ParseFault → Type 0
MeansMethod text ts (Ok m) = IsMethod (method_of m) (lexemes text ts) × (run true (lexemes text ts) (method_start ∷ []) ≡ Accepts)
MeansMethod text ts (Err e) = BreaksAs text (method_start ∷ []) (lexemes text ts) e

abbrev pub MeansDoIt : List ℕ → List Token → Result DoItTree ParseFault → Type 0
MeansDoIt text ts (Ok d) = IsDoIt (doit_of d) (lexemes text ts) × (run true (lexemes text ts) (doit_start ∷ []) ≡ Accepts)
MeansDoIt text ts (Err e) = BreaksAs text (doit_start ∷ []) (lexemes text ts) e
