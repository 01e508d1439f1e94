-- Heads of sections: their trees, and their texts in the log.
use Rattle.std.specs.Prelude.{◌≡◌, ◌≢◌, ℕ, List, ◌++◌, codes}
use Rattle.s80_base.specs.Literal.{str}
use Rattle.s80_lex.specs.Spelling.{quoted}
use Rattle.s80_tree.specs.Tree.{DoItParts, MessageTree}
use Rattle.s80_syntax.specs.Faults.{IsDoItText}
use Rattle.s80_syntax.specs.declared.fault.ParseFault.TheVariants as parse
use Rattle.s80_syntax.specs.Text.{IsDoItOf, IsFaultOf}
use Rattle.s80_form.specs.Form.{side_text, with_literal}
use Rattle.s80_form.specs.Name.{IsName, IsBrief}
use Rattle.s80_form.specs.TreeParts.{IsSending}
use Rattle.s80_change.specs.declared.head.SectionHead.{SectionHead}
use Rattle.s80_change.specs.declared.head.HeadFault.{HeadFault}
use Rattle.s80_change.specs.declared.head.HeadFault.TheVariants.{Memory, Syntax, NoSection}

-- ---- the tree

-- the message that begins a section of this category
abbrev pub beginning : List ℕ → MessageTree
beginning category = with_literal (codes "methodsFor:") (str category)

-- the name of its class and its category have fewer than 2^32 bytes
pub record IsBriefHead (head : SectionHead) : Type 0 where
  pub class_name : IsBrief head.class_name
  pub category : IsBrief head.category

-- The tree is this head: it sends that message to a side of the class, and nothing else.
pub record IsHeadTree (tree : DoItParts) (head : SectionHead) : Type 0 where
  pub at : ℕ
  pub sending : IsSending tree (record { name = head.class_name; at = at }, head.side, beginning head.category)
  pub brief : IsBriefHead head

pub record IsHeadOf (text : List ℕ) (head : SectionHead) : Type 0 where
  pub tree : DoItParts
  pub tree_is : IsDoItOf text tree
  pub head_is : IsHeadTree tree head

-- why a text is no head: a doIt's first fault, or that it is a doIt and no head
abbrev pub IsHeadFault : List ℕ → HeadFault → Type 0
IsHeadFault text Memory = Unit {0}
IsHeadFault text (Syntax fault) = (fault ≢ parse.Memory) × IsFaultOf IsDoItText text fault
IsHeadFault text NoSection = ((tree : DoItParts) × IsDoItOf text tree) × ((head : SectionHead) → IsHeadOf text head → ⊥)

-- ---- the text

abbrev pub head_text : SectionHead → List ℕ
head_text head = head.class_name ++ (side_text head.side ++ (codes " methodsFor: " ++ quoted 39 head.category))

-- its class has the name of an identifier that isn't reserved, and it is brief
pub record IsLawfulHead (head : SectionHead) : Type 0 where
  pub class_name : IsName head.class_name
  pub brief : IsBriefHead head

abbrev pub IsNoHeadText : List ℕ → Type 0
IsNoHeadText text = (head : SectionHead) → IsLawfulHead head → text ≡ head_text head → ⊥
