-- The parts of a head's text.
use Rattle.std.proofs.Common.{◌≡◌, ℕ, List, [], ◌∷◌, ◌++◌, codes, take, drop, refl, ap, sym, ◌∙◌, append_assoc}
use Rattle.std.proofs.lemmas.List.{append-nil}
use Rattle.s80_base.specs.declared.names.Side.{Side}
use Rattle.s80_base.specs.declared.names.Side.TheVariants.{Instance, Class}
use Rattle.s80_lex.specs.Spelling.{quoted}
use Rattle.s80_form.specs.TextParts.{FindsString, word_len}
use Rattle.s80_form.proofs.lemmas.Cuts.{word_cut, name_inner}
use Rattle.s80_change.specs.declared.head.SectionHead.{SectionHead}
use Rattle.s80_form.specs.Form.{side_text}
use Rattle.s80_change.specs.Head.{head_text}
use Rattle.s80_change.specs.HeadParts.{FindsParts, FindsSide}
use Rattle.s80_change.proofs.Heads.{fields_same}

-- a space ends the class's name
behind : (side : Side) (text : List ℕ) → (rest : List ℕ) × (side_text side ++ (codes " methodsFor: " ++ text) ≡ 32 ∷ rest)
behind Instance text = (codes "methodsFor: " ++ text, refl)
behind Class text = (codes "class" ++ (codes " methodsFor: " ++ text), refl)

pub parts_are : (text word rest left string category after : List ℕ) (side : Side) (found : SectionHead) → word ≡ take (word_len text) text → rest ≡ drop (word_len text) text → FindsSide rest side left → string ≡ drop 14 left → FindsString string category after
    → found.class_name ≡ word → found.side ≡ side → found.category ≡ category → FindsParts text found
parts_are text word rest left string category after side found ew er finds es text_is en ed ec = λ head lawful t.
    let b = behind head.side (quoted 39 head.category) in
    let cut = word_cut text head.class_name 32 b.0 (name_inner head.class_name lawful.class_name) refl (t ∙ ap (λ l. head.class_name ++ l) b.1) in
    let two = finds head.side (quoted 39 head.category) (er ∙ cut.1 ∙ sym b.1) in
    let three = text_is head.category [] refl (ap (λ l. 39 ∷ l) (es ∙ ap (drop 14) two.1) ∙ sym (append-nil (quoted 39 head.category))) in
    fields_same found head (en ∙ ew ∙ cut.0) (ed ∙ two.0) (ec ∙ three.0)

-- the text, part by part
pub text_is : (head : SectionHead) (one two three four : List ℕ) → one ≡ head.class_name → two ≡ one ++ side_text head.side → three ≡ two ++ codes " methodsFor: " → four ≡ three ++ quoted 39 head.category → four ≡ head_text head
text_is head one two three four e f g h =
    h ∙ ap (λ l. l ++ quoted 39 head.category) (g ∙ ap (λ l. l ++ codes " methodsFor: ") (f ∙ ap (λ l. l ++ side_text head.side) e))
    ∙ append_assoc (head.class_name ++ side_text head.side) (codes " methodsFor: ") (quoted 39 head.category)
    ∙ append_assoc head.class_name (side_text head.side) (codes " methodsFor: " ++ quoted 39 head.category)
