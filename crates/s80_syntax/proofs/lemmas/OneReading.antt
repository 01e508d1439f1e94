-- A text has one tree or one fault.
use Rattle.std.proofs.Common.{subst, ◌≡◌, ◌≢◌, ℕ, ◌⊎◌, inl, inr, List, Bool, true, length, refl, ap, sym, ◌∙◌}
use Rattle.s80_lex.specs.declared.fault.LexFault.{LexFault}
use Rattle.s80_lex.specs.declared.fault.LexFault.TheVariants as lex
use Rattle.s80_lex.specs.declared.token.Token.{Token}
use Rattle.s80_lex.specs.Text.{AreTokens, IsFirstFault}
use Rattle.s80_lex.proofs.Unique.{one_list, one_fault as one_first_fault, not_both}
use Rattle.s80_tree.specs.Tree.{MethodParts, DoItParts}
use Rattle.s80_syntax.specs.Lexeme.{Lexemes, lexemes}
use Rattle.s80_syntax.specs.Grammar.{IsMethod, IsDoIt}
use Rattle.s80_syntax.specs.Faults.{Wrong, Unexpected, Nested, NotAssignable, IsMethodText, IsDoItText, IsFault, fault_place}
use Rattle.s80_syntax.proofs.Whole.{no_fault_in_text, one_fault as one_wrong}
use Rattle.s80_syntax.proofs.UniqueTexts.{one_method, one_doit}
use Rattle.s80_syntax.specs.declared.fault.ParseFault.{ParseFault}
use Rattle.s80_syntax.specs.declared.fault.ParseFault.TheVariants as fault
use Rattle.s80_syntax.specs.Fault.{of_lex}
use Rattle.s80_syntax.specs.Text.{IsMethodOf, IsDoItOf, IsFaultAt, IsFaultOf}

-- a text has at most one tree
pub one_method_of : (text : List ℕ) (m n : MethodParts) → IsMethodOf text m → IsMethodOf text n → m ≡ n
one_method_of text m n a b =
    one_method m n (lexemes text b.tokens) (subst (λ ts. IsMethod m (lexemes text ts)) (one_list text a.tokens b.tokens a.are_tokens b.are_tokens) a.method) b.method

pub one_doit_of : (text : List ℕ) (d e : DoItParts) → IsDoItOf text d → IsDoItOf text e → d ≡ e
one_doit_of text d e a b =
    one_doit d e (lexemes text b.tokens) (subst (λ ts. IsDoIt d (lexemes text ts)) (one_list text a.tokens b.tokens a.are_tokens b.are_tokens) a.doit) b.doit

abbrev of_wrong : Wrong → ℕ → ParseFault
of_wrong Unexpected at = fault.Unexpected at
of_wrong Nested at = fault.Nested at
of_wrong (NotAssignable target) at = fault.NotAssignable at

-- a fault of the tokens, or of the syntax
abbrev FromTokens : List ℕ → ParseFault → Type 0
FromTokens text e = (f : LexFault) × (e ≡ of_lex f) × IsFirstFault f text

abbrev FromSyntax : (Bool → Lexemes → Type 0) → List ℕ → ParseFault → Type 0
FromSyntax IsText text e = (w : Wrong) × (at : ℕ) × (e ≡ of_wrong w at) × IsFaultAt IsText text w at

source : (IsText : Bool → Lexemes → Type 0) (text : List ℕ) (e : ParseFault) → IsFaultOf IsText text e → (e ≡ fault.Memory) ⊎ FromTokens text e ⊎ FromSyntax IsText text e
source IsText text fault.Memory h = inl refl
source IsText text (fault.Unended at) h = inr (inl (lex.Unended at, refl, h))
source IsText text (fault.BadByte at) h = inr (inl (lex.BadByte at, refl, h))
source IsText text (fault.BadNumber at) h = inr (inl (lex.BadNumber at, refl, h))
source IsText text (fault.Unexpected at) h = inr (inr (Unexpected, at, refl, h))
source IsText text (fault.Nested at) h = inr (inr (Nested, at, refl, h))
source IsText text (fault.NotAssignable at) h = inr (inr (NotAssignable h.0, at, refl, h.1))

-- a text with a tree has no fault
none_at : (IsText : Bool → Lexemes → Type 0) (text : List ℕ) (tokens : List Token) (w : Wrong) (at : ℕ) → AreTokens tokens text → IsText true (lexemes text tokens) → IsFaultAt IsText text w at → ⊥
none_at IsText text tokens w at a h f =
    no_fault_in_text IsText w (lexemes text f.tokens) f.rest (subst (λ ts. IsText true (lexemes text ts)) (one_list text tokens f.tokens a f.are_tokens) h) f.first

only_memory : (IsText : Bool → Lexemes → Type 0) (text : List ℕ) (tokens : List Token) (e : ParseFault) → AreTokens tokens text → IsText true (lexemes text tokens) → IsFaultOf IsText text e → e ≡ fault.Memory
only_memory IsText text tokens e a h f = by_source (source IsText text e f)
  where
    by_source : (e ≡ fault.Memory) ⊎ FromTokens text e ⊎ FromSyntax IsText text e → e ≡ fault.Memory
    by_source (inl i) = i
    by_source (inr (inl (g, i, first))) = absurd (not_both text tokens g a first)
    by_source (inr (inr (w, at, i, there))) = absurd (none_at IsText text tokens w at a h there)

pub method_only_memory : (text : List ℕ) (m : MethodParts) (e : ParseFault) → IsMethodOf text m → IsFaultOf IsMethodText text e → e ≡ fault.Memory
method_only_memory text m e a f = only_memory IsMethodText text a.tokens e a.are_tokens (m, a.method, a.lawful) f

pub doit_only_memory : (text : List ℕ) (d : DoItParts) (e : ParseFault) → IsDoItOf text d → IsFaultOf IsDoItText text e → e ≡ fault.Memory
doit_only_memory text d e a f = only_memory IsDoItText text a.tokens e a.are_tokens (d, a.doit, a.lawful) f

-- a text has at most one fault
one_at : (IsText : Bool → Lexemes → Type 0) (text : List ℕ) (w v : Wrong) (at there : ℕ) → IsFaultAt IsText text w at → IsFaultAt IsText text v there → of_wrong w at ≡ of_wrong v there
one_at IsText text w v at there a b =
    let moved : IsFault IsText w (lexemes text b.tokens) a.rest = subst (λ ts. IsFault IsText w (lexemes text ts) a.rest) (one_list text a.tokens b.tokens a.are_tokens b.are_tokens) a.first in
    let same = one_wrong IsText w v (lexemes text b.tokens) a.rest b.rest moved b.first in
    ap (of_wrong w) (a.place ∙ ap (fault_place (length text) w) same.1 ∙ ap (λ x. fault_place (length text) x b.rest) same.0 ∙ sym b.place)
    ∙ ap (λ x. of_wrong x there) same.0

pub one_fault_of : (IsText : Bool → Lexemes → Type 0) (text : List ℕ) (e f : ParseFault) → e ≢ fault.Memory → f ≢ fault.Memory → IsFaultOf IsText text e → IsFaultOf IsText text f → e ≡ f
one_fault_of IsText text e f n m a b = by_sources (source IsText text e a) (source IsText text f b)
  where
    by_sources : (e ≡ fault.Memory) ⊎ FromTokens text e ⊎ FromSyntax IsText text e → (f ≡ fault.Memory) ⊎ FromTokens text f ⊎ FromSyntax IsText text f → e ≡ f
    by_sources (inl i) _ = absurd (n i)
    by_sources (inr h) (inl j) = absurd (m j)
    by_sources (inr (inl (g, i, first))) (inr (inl (k, j, other))) = i ∙ ap of_lex (one_first_fault text g k first other) ∙ sym j
    by_sources (inr (inl (g, i, first))) (inr (inr (v, at, j, there))) = absurd (not_both text there.tokens g there.are_tokens first)
    by_sources (inr (inr (w, at, i, there))) (inr (inl (k, j, other))) = absurd (not_both text there.tokens k there.are_tokens other)
    by_sources (inr (inr (w, at, i, here))) (inr (inr (v, to, j, there))) = i ∙ one_at IsText text w v at to here there ∙ sym j
