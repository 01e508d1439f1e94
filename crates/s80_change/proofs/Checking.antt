-- What the source of a method is by itself.
use Rattle.std.proofs.Common.{◌≡◌, ◌≢◌, inl, inr, ℕ, List, Bool, refl, ap, sym, ◌∙◌, subst, Option, Some, None, Result, Ok, Err}
use Rattle.s80_tree.specs.declared.method.MethodTree.{MethodTree}
use Rattle.s80_tree.specs.Tree.{MethodParts, DoItParts, method_of}
use Rattle.s80_syntax.specs.Lexeme.{Lexemes}
use Rattle.s80_syntax.specs.Faults.{IsMethodText}
use Rattle.s80_syntax.specs.declared.fault.ParseFault.{ParseFault}
use Rattle.s80_syntax.specs.declared.fault.ParseFault.TheVariants as faults
use Rattle.s80_syntax.specs.Text.{IsMethodOf, IsFaultOf}
use Rattle.s80_syntax.proofs.lemmas.OneReading.{one_method_of, method_only_memory, one_fault_of}
use Rattle.s80_form.specs.declared.refusal.SyntaxKind.TheVariants as kinds
use Rattle.s80_form.specs.declared.refusal.Refusal.{Refusal}
use Rattle.s80_form.specs.declared.refusal.Refusal.TheVariants as refusals
use Rattle.s80_form.specs.declared.refusal.Refused.TheVariants as refusing
use Rattle.s80_change.specs.Check.{IsSyntaxRefusal, as_method, size_refusal, IsCheckOf, IsFitting, IsFittingDoIt}
use Rattle.s80_change.specs.Source.{SourceParts, selector_of, IsParsedText, IsTreeOf}

-- what was parsed of a text is what the text is by itself
pub parsed_is : (text : List ℕ) (parsed : Result MethodTree Refusal) → IsParsedText text parsed → IsCheckOf text (selector_of parsed)
parsed_is text (Ok tree) h = (method_of tree, h.0, h.1, refl)
parsed_is text (Err refusal) h = h

-- a text with a tree, where that fits or not
pub fitting_is : (text : List ℕ) (m : MethodParts) (parsed : Result MethodTree Refusal) → IsMethodOf text m → IsFitting m parsed → IsParsedText text parsed
fitting_is text m (Ok tree) is h = (subst (IsMethodOf text) (sym h.0) is, ap size_refusal h.0 ∙ h.1)
fitting_is text m (Err refusal) is h = inr (m, is, h)

-- the tree of a source, and its refusal
pub tree_of : (source : SourceParts) (text : List ℕ) (parsed : Result MethodTree Refusal) (tree : MethodTree) → source ≡ record { text = text; selector = selector_of parsed } → IsParsedText text parsed → parsed ≡ Ok tree → IsTreeOf source tree
tree_of source text parsed tree view h e =
    let is : IsParsedText text (Ok tree) = subst (IsParsedText text) e h in
    subst (λ s. IsTreeOf s tree) (sym (view ∙ ap (λ (p : Result MethodTree Refusal). record { text = text; selector = selector_of p }) e)) (record { method = is.0; fits = is.1; selector = refl })

pub refusal_is : (source : SourceParts) (text : List ℕ) (parsed : Result MethodTree Refusal) (refusal : Refusal) → source ≡ record { text = text; selector = selector_of parsed } → parsed ≡ Err refusal → source.selector ≡ Err refusal
refusal_is source text parsed refusal view e = ap (λ (s : SourceParts). s.selector) view ∙ ap selector_of e

-- a doIt that fits, or not
pub doit_fits : (tree : DoItParts) (m : MethodParts) (method : MethodTree) → m ≡ as_method tree → IsFitting m (Ok method) → IsFittingDoIt tree (Ok method)
doit_fits tree m method e h = (h.0 ∙ e, ap size_refusal (sym e) ∙ h.1)

pub doit_refused : (tree : DoItParts) (m : MethodParts) (refusal : Refusal) → m ≡ as_method tree → IsFitting m (Err refusal) → IsFittingDoIt tree (Err (refusing.Refusal refusal))
doit_refused tree m refusal e h = ap size_refusal (sym e) ∙ h

-- the refusal of a text with this fault
abbrev refusal_of : ParseFault → Option Refusal
refusal_of faults.Memory = None
refusal_of (faults.Unended place) = Some (refusals.Syntax kinds.UnendedToken place)
refusal_of (faults.BadByte place) = Some (refusals.Syntax kinds.BadByte place)
refusal_of (faults.BadNumber place) = Some (refusals.Syntax kinds.BadNumber place)
refusal_of (faults.Unexpected place) = Some (refusals.Syntax kinds.Unexpected place)
refusal_of (faults.NotAssignable place) = Some (refusals.Syntax kinds.NotAssignable place)
refusal_of (faults.Nested place) = Some (refusals.Syntax kinds.Nested place)

-- the fault behind the refusal of a text
record IsFaultBehind (refusal : Refusal) (fault : ParseFault) : Type 0 where
  pub refused : refusal_of fault ≡ Some refusal
  pub no_memory : fault ≢ faults.Memory

fault_behind : (IsText : Bool → Lexemes → Type 0) (text : List ℕ) (refusal : Refusal) → IsSyntaxRefusal IsText text refusal → (fault : ParseFault) × IsFaultBehind refusal fault × IsFaultOf IsText text fault
fault_behind IsText text (refusals.Syntax kinds.UnendedToken place) h = (faults.Unended place, record { refused = refl; no_memory = λ e. cc e }, h)
fault_behind IsText text (refusals.Syntax kinds.BadByte place) h = (faults.BadByte place, record { refused = refl; no_memory = λ e. cc e }, h)
fault_behind IsText text (refusals.Syntax kinds.BadNumber place) h = (faults.BadNumber place, record { refused = refl; no_memory = λ e. cc e }, h)
fault_behind IsText text (refusals.Syntax kinds.Unexpected place) h = (faults.Unexpected place, record { refused = refl; no_memory = λ e. cc e }, h)
fault_behind IsText text (refusals.Syntax kinds.NotAssignable place) h = (faults.NotAssignable place, record { refused = refl; no_memory = λ e. cc e }, h)
fault_behind IsText text (refusals.Syntax kinds.Nested place) h = (faults.Nested place, record { refused = refl; no_memory = λ e. cc e }, h)
fault_behind IsText text refusals.Unended h = absurd h
fault_behind IsText text (refusals.TooLarge _ _) h = absurd h
fault_behind IsText text (refusals.UnknownClass _) h = absurd h
fault_behind IsText text (refusals.KernelClass _) h = absurd h
fault_behind IsText text (refusals.HasSubclasses _) h = absurd h
fault_behind IsText text (refusals.Cycle _) h = absurd h
fault_behind IsText text (refusals.Duplicate _) h = absurd h
fault_behind IsText text (refusals.BadName _) h = absurd h
fault_behind IsText text (refusals.NoSelector _ _ _) h = absurd h
fault_behind IsText text (refusals.TooMany _ _) h = absurd h
fault_behind IsText text (refusals.LogFull _) h = absurd h
fault_behind IsText text (refusals.NoSection _) h = absurd h

-- a text has one first fault
pub one_refusal : (IsText : Bool → Lexemes → Type 0) (text : List ℕ) (one other : Refusal) → IsSyntaxRefusal IsText text one → IsSyntaxRefusal IsText text other → one ≡ other
one_refusal IsText text one other h k =
    let f = fault_behind IsText text one h in
    let g = fault_behind IsText text other k in
    let same = sym f.1.refused ∙ ap refusal_of (one_fault_of IsText text f.0 g.0 f.1.no_memory g.1.no_memory f.2 g.2) ∙ g.1.refused in
    cc same

-- a source with a tree has none
pub no_refusal : (source : List ℕ) (m : MethodParts) (refusal : Refusal) → IsMethodOf source m → IsSyntaxRefusal IsMethodText source refusal → ⊥
no_refusal source m refusal is h = let f = fault_behind IsMethodText source refusal h in f.1.no_memory (method_only_memory source m f.0 is f.2)

sizes_same : (source : List ℕ) (m n : MethodParts) (one other : Option Refusal) → IsMethodOf source m → IsMethodOf source n → size_refusal m ≡ one → size_refusal n ≡ other → one ≡ other
sizes_same source m n one other is also e f = sym e ∙ ap size_refusal (one_method_of source m n is also) ∙ f

-- a source is one thing
pub check_same : (source : List ℕ) (one other : Result (List ℕ) Refusal) → IsCheckOf source one → IsCheckOf source other → one ≡ other
check_same source (Ok selector) (Ok name) (m, is, e, s) (n, also, f, t) = ap Ok (s ∙ ap (λ (x : MethodParts). x.selector) (one_method_of source m n is also) ∙ sym t)
check_same source (Ok selector) (Err r) (m, is, e, s) (inl h) = absurd (no_refusal source m r is h)
check_same source (Ok selector) (Err r) (m, is, e, s) (inr (n, also, f)) = let same = sizes_same source m n None (Some r) is also e f in absurd (cc same)
check_same source (Err r) (Ok selector) (inl h) (m, is, e, s) = absurd (no_refusal source m r is h)
check_same source (Err r) (Ok selector) (inr (n, also, f)) (m, is, e, s) = let same = sizes_same source m n None (Some r) is also e f in absurd (cc same)
check_same source (Err r) (Err q) (inl h) (inl k) = ap Err (one_refusal IsMethodText source r q h k)
check_same source (Err r) (Err q) (inl h) (inr (n, also, f)) = absurd (no_refusal source n r also h)
check_same source (Err r) (Err q) (inr (m, is, e)) (inl k) = absurd (no_refusal source m q is k)
check_same source (Err r) (Err q) (inr (m, is, e)) (inr (n, also, f)) = let same = sizes_same source m n (Some r) (Some q) is also e f in ap Err (cc same)
