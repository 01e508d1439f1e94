-- What the run of a whole text says of the text.
use Rattle.std.proofs.Common.{subst, ◌≡◌, ℕ, List, [], ◌∷◌, Bool, true, refl, ap, sym, ◌∙◌, Result, Ok, Err}
use Rattle.std.specs.Result.{IfOk, IfErr}
use Rattle.s80_lex.specs.declared.token.Token.{Token}
use Rattle.s80_lex.specs.Text.{AreTokens}
use Rattle.s80_tree.specs.declared.method.MethodTree.{MethodTree}
use Rattle.s80_tree.specs.declared.method.DoItTree.{DoItTree}
use Rattle.s80_tree.specs.Tree.{MethodParts, DoItParts, method_of, doit_of}
use Rattle.s80_syntax.specs.Lexeme.{Lexemes, lexemes}
use Rattle.s80_syntax.specs.Grammar.{IsMethod, IsDoIt}
use Rattle.s80_syntax.specs.Limits.{IsLawfulMethod, IsLawfulDoIt}
use Rattle.s80_syntax.specs.Faults.{Wrong, Unexpected, Nested, NotAssignable, IsMethodText, IsDoItText}
use Rattle.s80_syntax.specs.Stack.{Symbol, Accepts, run, method_start, doit_start}
use Rattle.s80_syntax.proofs.Fronts.{derives}
use Rattle.s80_syntax.proofs.Whole.{Stands, stops_at_fault}
use Rattle.s80_syntax.proofs.Texts.{methods, doits}
use Rattle.s80_syntax.proofs.UniqueTexts.{one_method, one_doit}
use Rattle.s80_syntax.specs.declared.fault.ParseFault.{ParseFault}
use Rattle.s80_syntax.specs.declared.fault.ParseFault.TheVariants as fault
use Rattle.s80_syntax.specs.Method.{Breaks, BreaksAs, MeansMethod, MeansDoIt}
use Rattle.s80_syntax.specs.Text.{IsMethodOf, IsDoItOf, IsFaultAt, IsFaultOf}

fault_at : (IsText : Bool → Lexemes → Type 0) (start : Symbol) → Stands IsText start → (text : List ℕ) (ts : List Token) (w : Wrong) (at : ℕ) → AreTokens ts text → Breaks text (start ∷ []) (lexemes text ts) w at → IsFaultAt IsText text w at
fault_at IsText start s text ts w at a h = record { tokens = ts; are_tokens = a; rest = h.rest; first = stops_at_fault IsText start s w (lexemes text ts) h.rest h.same; place = h.is_place }

fault_of : (IsText : Bool → Lexemes → Type 0) (start : Symbol) → Stands IsText start → (text : List ℕ) (ts : List Token) (e : ParseFault) → AreTokens ts text → BreaksAs text (start ∷ []) (lexemes text ts) e → IsFaultOf IsText text e
fault_of IsText start s text ts fault.Memory a h = tt
fault_of IsText start s text ts (fault.Unexpected at) a h = fault_at IsText start s text ts Unexpected at a h
fault_of IsText start s text ts (fault.Nested at) a h = fault_at IsText start s text ts Nested at a h
fault_of IsText start s text ts (fault.NotAssignable at) a h = (h.0, fault_at IsText start s text ts (NotAssignable h.0) at a h.1)
fault_of IsText start s text ts (fault.Unended at) a h = absurd h
fault_of IsText start s text ts (fault.BadByte at) a h = absurd h
fault_of IsText start s text ts (fault.BadNumber at) a h = absurd h

-- a method
lawful_method : (m : MethodParts) (ts : Lexemes) → IsMethod m ts → run true ts (method_start ∷ []) ≡ Accepts → IsLawfulMethod true m
lawful_method m ts h e =
    let d = methods.derived true ts (derives true ts (method_start ∷ []) e) in
    subst (IsLawfulMethod true) (one_method d.0 m ts d.1 h) d.2

pub method_tree : (text : List ℕ) (tokens ts : List Token) (r : Result MethodTree ParseFault) → AreTokens tokens text → ts ≡ tokens → MeansMethod text ts r → IfOk r (λ tree. IsMethodOf text (method_of tree))
method_tree text tokens ts (Err e) a i h = tt
method_tree text tokens ts (Ok m) a i h = record { tokens = ts; are_tokens = subst (λ x. AreTokens x text) (sym i) a; method = h.0; lawful = lawful_method (method_of m) (lexemes text ts) h.0 h.1 }

pub method_fault : (text : List ℕ) (tokens ts : List Token) (r : Result MethodTree ParseFault) → AreTokens tokens text → ts ≡ tokens → MeansMethod text ts r → IfErr r (IsFaultOf IsMethodText text)
method_fault text tokens ts (Err e) a i h = fault_of IsMethodText method_start methods text ts e (subst (λ x. AreTokens x text) (sym i) a) h
method_fault text tokens ts (Ok m) a i h = tt

-- a doIt
lawful_doit : (d : DoItParts) (ts : Lexemes) → IsDoIt d ts → run true ts (doit_start ∷ []) ≡ Accepts → IsLawfulDoIt true d
lawful_doit m ts h e =
    let d = doits.derived true ts (derives true ts (doit_start ∷ []) e) in
    subst (IsLawfulDoIt true) (one_doit d.0 m ts d.1 h) d.2

pub doit_tree : (text : List ℕ) (tokens ts : List Token) (r : Result DoItTree ParseFault) → AreTokens tokens text → ts ≡ tokens → MeansDoIt text ts r → IfOk r (λ tree. IsDoItOf text (doit_of tree))
doit_tree text tokens ts (Err e) a i h = tt
doit_tree text tokens ts (Ok d) a i h = record { tokens = ts; are_tokens = subst (λ x. AreTokens x text) (sym i) a; doit = h.0; lawful = lawful_doit (doit_of d) (lexemes text ts) h.0 h.1 }

pub doit_fault : (text : List ℕ) (tokens ts : List Token) (r : Result DoItTree ParseFault) → AreTokens tokens text → ts ≡ tokens → MeansDoIt text ts r → IfErr r (IsFaultOf IsDoItText text)
doit_fault text tokens ts (Err e) a i h = fault_of IsDoItText doit_start doits text ts e (subst (λ x. AreTokens x text) (sym i) a) h
doit_fault text tokens ts (Ok d) a i h = tt
