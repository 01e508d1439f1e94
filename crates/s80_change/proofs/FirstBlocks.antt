-- The block that bytes begin with, by the framing that they begin with.
use Rattle.std.proofs.Common.{◌≡◌, ℕ, codes, List, [], ◌∷◌, ◌++◌, length, sym, ap, ◌∙◌, subst, arith, append_assoc}
use Rattle.std.proofs.lemmas.Bool.{true≢false}
use Rattle.s80_chunk.specs.Chunks.{mark, IsPlainText}
use Rattle.s80_change.specs.declared.change.Change.{Change}
use Rattle.s80_change.specs.declared.change.Change.TheVariants.{Form, Method, DoIt}
use Rattle.s80_form.specs.declared.form.Form.{Form as AnyForm}
use Rattle.s80_form.specs.declared.form.Form.TheVariants as forms
use Rattle.s80_lex.specs.Spelling.{quoted}
use Rattle.s80_form.specs.Definition.{joined}
use Rattle.s80_form.specs.Form.{form_text, side_text, IsLawfulForm}
use Rattle.s80_form.specs.Name.{IsName}
use Rattle.s80_form.proofs.lemmas.Cuts.{spread}
use Rattle.s80_change.specs.declared.framing.Framing.{Framing}
use Rattle.s80_change.specs.declared.framing.Framing.TheVariants.{Plain}
use Rattle.s80_change.specs.declared.first.FirstBlock.{FirstBlock}
use Rattle.s80_change.specs.declared.first.FirstBlock.TheVariants.{Found, Absent, Unended}
use Rattle.s80_change.specs.Block.{framed, framing_of, IsLawful}
use Rattle.s80_change.specs.Blocks.{BeginsWithNone, IsFirstBlock}
use Rattle.s80_change.specs.Fronts.{HasNone, HasFirst, IsFront, IsFramedBlock, IsProper}
use Rattle.s80_change.proofs.FirstFramings.{framing_unique}

-- a text that begins with a name
named_first : (word rest : List ℕ) → IsName word → IsProper (Plain (word ++ rest))
named_first [] rest is = absurd (true≢false (sym is))
named_first (b ∷ word) rest is = λ e. let at_mark : IsName (mark ∷ word) = subst (λ c. IsName (c ∷ word)) e is in true≢false (sym at_mark)

plain_first : (text : List ℕ) → IsPlainText text → IsProper (Plain text)
plain_first [] plain = plain.0
plain_first (b ∷ text) plain = plain.1

form_is_proper : (form : AnyForm) → IsLawfulForm form → IsProper (Plain (form_text form))
form_is_proper (forms.Define d) lawful = subst (λ t. IsProper (Plain t)) (sym (spread d)) (named_first d.superclass _ lawful.names.superclass)
form_is_proper (forms.ClassVars name names) lawful = named_first name (codes " class instanceVariableNames: " ++ quoted 39 (joined names)) lawful.names.0
form_is_proper (forms.Comment name text) lawful = named_first name (codes " comment: " ++ quoted 39 text) lawful.names
form_is_proper (forms.RemoveMethod name s selector) lawful = named_first name (side_text s ++ (codes " removeSelector: #" ++ selector)) lawful.names.0
form_is_proper (forms.Classify name s selector category) lawful = named_first name (side_text s ++ (codes " organization classify: #" ++ (selector ++ (codes " under: " ++ quoted 39 category)))) lawful.names.0
form_is_proper (forms.RemoveClass name) lawful = λ e. let f : 83 ≡ 33 = e in omega (arith, f)
form_is_proper forms.NoChanges lawful = λ e. let f : 83 ≡ 33 = e in omega (arith, f)

pub lawful_is_proper : (change : Change) → IsLawful change → IsProper (framing_of change)
lawful_is_proper (Form form) lawful = form_is_proper form lawful
lawful_is_proper (Method m) lawful = tt
lawful_is_proper (DoIt text) lawful = plain_first text lawful.0

-- no block, where there is no framing
none_framed : (bytes : List ℕ) → HasNone framed IsProper bytes → BeginsWithNone bytes
none_framed bytes none change begins = none (framing_of change) begins.after (lawful_is_proper change begins.lawful) begins.begins

pub first_absent : (bytes : List ℕ) → ((more : List ℕ) → HasNone framed IsProper (bytes ++ more)) → IsFirstBlock bytes Absent
first_absent bytes none = λ more. none_framed (bytes ++ more) (none more)

pub first_unended : (bytes : List ℕ) → IsFront framed bytes → HasNone framed IsProper bytes → IsFirstBlock bytes Unended
first_unended bytes front none = record { framing = front.value; more = front.more; goes_on = front.goes_on; some = front.some; none = none_framed bytes none }

-- the framing is there, and its change or none
pub first_framed : (bytes : List ℕ) (framing : Framing) (count : ℕ) (found : FirstBlock) → HasFirst framed IsProper bytes framing count → IsFramedBlock framing count found → IsFirstBlock bytes found
first_framed bytes framing count (Found change n) has (lawful, same, is) = (
  record { lawful = lawful; after = has.after; begins = has.begins ∙ ap (λ f. framed f ++ has.after) (sym same) },
  is ∙ has.counted ∙ ap (λ f. length (framed f)) (sym same),
)
first_framed bytes framing count Absent has none = λ more change begins.
    let own = ap (λ l. l ++ more) has.begins ∙ append_assoc (framed framing) has.after more in
    let both = framing_unique framing (framing_of change) (has.after ++ more) begins.after has.proper (lawful_is_proper change begins.lawful) (sym own ∙ begins.begins) in
    none change begins.lawful (sym both.0)
first_framed bytes framing count Unended has none = absurd none
