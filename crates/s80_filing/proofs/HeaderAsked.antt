-- What the first line of a file of changes asks.
use Rattle.std.proofs.Common.{◌≡◌, inl, inr, ℕ, Bool, true, false, true≢false, List, [], ◌∷◌, None, refl, sym, ap, subst, ◌∙◌, arith}
use Rattle.s80_base.specs.Literal.{str}
use Rattle.s80_lex.specs.declared.token.TokenKind.TheVariants as kind
use Rattle.s80_lex.specs.Spelling.{quoted}
use Rattle.s80_tree.specs.declared.name.NameAt.{NameAt}
use Rattle.s80_tree.specs.Tree.{BodyTree, DoItParts, MessageTrees, expr, literal, stmts}
use Rattle.s80_syntax.specs.Literals.{IsLiteralKind, token_literal}
use Rattle.s80_syntax.specs.Text.{IsDoItOf}
use Rattle.s80_syntax.proofs.lemmas.OneReading.{one_doit_of}
use Rattle.s80_form.specs.declared.form.Form.{Form as AnyForm}
use Rattle.s80_form.specs.declared.form.Form.TheVariants as forms
use Rattle.s80_form.specs.Form.{HasForm, IsCondensingText, IsFormText, IsSnapshotText}
use Rattle.s80_form.specs.TreeParts.{all_sent, alone, argument, IsSentToName}
use Rattle.s80_form.proofs.lemmas.Building.{Words as TokenWords, ended, last_string, spelled, words_spell}
use Rattle.s80_form.proofs.lemmas.Operands.{str_is}
use Rattle.s80_change.specs.Check.{as_method, size_refusal}
use Rattle.s80_filing.proofs.DoItAsked.{is_evaluated, IsEvaluated}
use Rattle.s80_filing.proofs.FormsFit.{small_fits, IsSmall}

-- ---- a doIt that is a string

abbrev pub string_tree : List ℕ → DoItParts
string_tree string = alone (argument (str string))

string_doit : (string : List ℕ) → IsDoItOf (quoted 39 string) (string_tree string)
string_doit string =
    let text : List ℕ = quoted 39 string in
    let words : TokenWords = (kind.Str, text) ∷ [] in
    let h = spelled text words (last_string string) in
    let s = words_spell text h.tokens words h.are_words in
    let value : str string ≡ token_literal s.0.kind s.0.bytes = str_is string ∙ ap (token_literal kind.Str) (sym s.4) ∙ ap (λ j. token_literal j s.0.bytes) (sym s.3) in
    record {
      tokens = h.tokens;
      are_tokens = ended text words h;
      doit = (_, inr (refl, refl), (_, s.1, s.1, refl, (_, s.1, s.1, refl, inl (s.0, s.2, subst IsLiteralKind (sym s.3) tt, value), refl, tt, refl), inr refl, s.5));
      lawful = ((tt, tt, tt, tt), tt);
    }

string_small : (string : List ℕ) → IsSmall (string_tree string)
string_small string = record { nodes = omega arith; temporaries_are = omega arith; stack_is = omega arith }

string_fits : (string : List ℕ) → size_refusal (as_method (string_tree string)) ≡ None
string_fits string = small_fits (string_tree string) (string_small string)

sole_tree : (string : List ℕ) (tree : DoItParts) → IsDoItOf (quoted 39 string) tree → tree ≡ string_tree string
sole_tree string tree is = one_doit_of (quoted 39 string) tree (string_tree string) is (string_doit string)

-- ---- it has none of the forms

-- the first expression has a literal as its receiver
abbrev begins_with_literal : BodyTree → Bool
begins_with_literal (stmts r (expr targets (literal v) ms cs) ss) = true
begins_with_literal _ = false

no_sending : (string : List ℕ) (tree : DoItParts) (p : NameAt × MessageTrees) → tree ≡ string_tree string → IsSentToName tree p → ⊥
no_sending string tree p is sent = let same : string_tree string ≡ alone (all_sent p) = sym is ∙ sent.tree_is in
    let differ : true ≡ false = ap (λ (d : DoItParts). begins_with_literal d.body) same in
    absurd (true≢false differ)

has_no_form : (string : List ℕ) (tree : DoItParts) (form : AnyForm) → tree ≡ string_tree string → HasForm tree form → ⊥
has_no_form string tree (forms.Define d) is h = no_sending string tree _ is h.sending
has_no_form string tree (forms.ClassVars class_name names) is (text, (at, sent), are) = no_sending string tree _ is sent
has_no_form string tree (forms.Comment class_name text) is (at, sent) = no_sending string tree _ is sent
has_no_form string tree (forms.RemoveMethod class_name side selector) is (at, sent) = no_sending string tree _ is sent
has_no_form string tree (forms.Classify class_name side selector category) is (at, sent) = no_sending string tree _ is sent
has_no_form string tree (forms.RemoveClass class_name) is (inl (at, sent)) = no_sending string tree _ is sent
has_no_form string tree (forms.RemoveClass class_name) is (inr (at, sent)) = no_sending string tree _ is sent
has_no_form string tree forms.NoChanges is (at, sent) = no_sending string tree _ is sent

no_form_text : (string : List ℕ) (form : AnyForm) → IsFormText (quoted 39 string) form → ⊥
no_form_text string form is = has_no_form string is.tree form (sole_tree string is.tree is.tree_is) is.form_is.0

no_snapshot_text : (string : List ℕ) → IsSnapshotText (quoted 39 string) → ⊥
no_snapshot_text string is = no_sending string is.tree _ (sole_tree string is.tree is.tree_is) is.snapshot.1

no_condensing_text : (string : List ℕ) → IsCondensingText (quoted 39 string) → ⊥
no_condensing_text string is = no_sending string is.tree _ (sole_tree string is.tree is.tree_is) is.condensing.1

-- so it is evaluated
pub header_evaluated : (string : List ℕ) → IsEvaluated (quoted 39 string)
header_evaluated string = is_evaluated (quoted 39 string) (string_tree string, string_doit string, string_fits string) (record {
  none = record { form = no_form_text string; snapshot = no_snapshot_text string };
  condensing = no_condensing_text string;
})
