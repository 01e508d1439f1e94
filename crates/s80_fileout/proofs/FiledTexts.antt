-- The texts of lawful changes are those of chunks.
use Rattle.std.proofs.Common.{◌≡◌, ◌≢◌, ℕ, true, true≢false, codes, All, List, [], ◌∷◌, ◌++◌, sym, subst, arith, rules}
use Rattle.std.proofs.lemmas.Bool.Decides.{nat_tests}
use Rattle.std.proofs.lemmas.List.Elements.{All-nil, All-cons, All-head, All-tail}
use Rattle.std.specs.Char.{is_ascii_alphabetic}
use Rattle.s80_base.specs.Byte.{is_separator}
use Rattle.s80_lex.specs.Spelling.{quoted}
use Rattle.s80_chunk.specs.Chunks.{mark, IsChunkText, IsNoMark}
use Rattle.s80_form.specs.Definition.{joined}
use Rattle.s80_form.specs.declared.form.Form.{Form as AnyForm}
use Rattle.s80_form.specs.declared.form.Form.TheVariants as forms
use Rattle.s80_form.specs.Form.{form_text, side_text, IsLawfulForm}
use Rattle.s80_form.specs.Name.{IsName}
use Rattle.s80_form.proofs.lemmas.Cuts.{spread}
use Rattle.s80_change.specs.declared.change.Change.{Change}
use Rattle.s80_change.specs.declared.change.Change.TheVariants.{Form, Method, DoIt}
use Rattle.s80_change.specs.Block.{IsLawful}
use Rattle.s80_fileout.specs.Items.{IsShort}
use Rattle.s80_fileout.proofs.FileRead.{IsReadable}

-- a text that begins with no separator and no mark
abbrev Begins : List ℕ → Type 0
Begins text = IsChunkText text × IsNoMark text

letter_separates_not : (b : ℕ) → is_ascii_alphabetic b ≡ true → is_separator b ≡ true → ⊥
letter_separates_not b letter separator = grind (arith, nat_tests)

letter_marks_not : (b : ℕ) → is_ascii_alphabetic b ≡ true → b ≢ mark
letter_marks_not b letter is = grind (arith, nat_tests)

named_letter : (b : ℕ) (word : List ℕ) → IsName (b ∷ word) → is_ascii_alphabetic b ≡ true
named_letter b word is = search rules

named : (word rest : List ℕ) → IsName word → Begins (word ++ rest)
named [] rest is = absurd (true≢false (sym is))
named (b ∷ word) rest is = let letter = named_letter b word is in (λ s. letter_separates_not b letter s, letter_marks_not b letter)

form_begins : (form : AnyForm) → IsLawfulForm form → Begins (form_text form)
form_begins (forms.Define d) lawful = subst Begins (sym (spread d)) (named d.superclass _ lawful.names.superclass)
form_begins (forms.ClassVars name names) lawful = named name (codes " class instanceVariableNames: " ++ quoted 39 (joined names)) lawful.names.0
form_begins (forms.Comment name text) lawful = named name (codes " comment: " ++ quoted 39 text) lawful.names
form_begins (forms.RemoveMethod name s selector) lawful = named name (side_text s ++ (codes " removeSelector: #" ++ selector)) lawful.names.0
form_begins (forms.Classify name s selector category) lawful = named name (side_text s ++ (codes " organization classify: #" ++ (selector ++ (codes " under: " ++ quoted 39 category)))) lawful.names.0
form_begins (forms.RemoveClass name) lawful = (λ e. true≢false (sym e), λ e. let f : 83 ≡ 33 = e in omega (arith, f))
form_begins forms.NoChanges lawful = (λ e. true≢false (sym e), λ e. let f : 83 ≡ 33 = e in omega (arith, f))

pub lawful_readable : (change : Change) → IsLawful change → IsShort change → IsReadable change
lawful_readable (Form form) lawful short = let begins = form_begins form lawful in (begins.0, begins.1, short)
lawful_readable (Method m) lawful short = record {
  head = (named m.class_name (side_text m.side ++ (codes " methodsFor: " ++ quoted 39 m.category)) lawful.head.class_name).0;
  short_head = short;
  source = lawful.text;
  short = lawful.short;
}
lawful_readable (DoIt text) lawful short = lawful.0

pub all_readable : (changes : List Change) → All IsLawful changes → All IsShort changes → All IsReadable changes
all_readable [] lawful short = All-nil IsReadable
all_readable (change ∷ changes) lawful short =
    All-cons IsReadable change changes (lawful_readable change (All-head IsLawful change changes lawful) (All-head IsShort change changes short)) (all_readable changes (All-tail IsLawful change changes lawful) (All-tail IsShort change changes short))
