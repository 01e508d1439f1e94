-- How the parts of a head's text are found.
use Rattle.std.specs.Prelude.{◌≡◌, ℕ, List, ◌++◌, codes}
use Rattle.s80_base.specs.declared.names.Side.{Side}
use Rattle.s80_change.specs.declared.head.SectionHead.{SectionHead}
use Rattle.s80_form.specs.Form.{side_text}
use Rattle.s80_change.specs.Head.{head_text, IsLawfulHead}

-- of the text of a lawful head, this is that head
abbrev pub FindsParts : List ℕ → SectionHead → Type 0
FindsParts text found = (head : SectionHead) → IsLawfulHead head → text ≡ head_text head → found ≡ head

-- the side, and what follows it
abbrev pub FindsSide : List ℕ → Side → List ℕ → Type 0
FindsSide bytes found left =
    (side : Side) (text : List ℕ) → bytes ≡ side_text side ++ (codes " methodsFor: " ++ text) → (found ≡ side) × (left ≡ codes " methodsFor: " ++ text)
