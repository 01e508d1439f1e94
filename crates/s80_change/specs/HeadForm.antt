-- What a tree is recognised as.
use Rattle.std.specs.Prelude.{Option, Some, None}
use Rattle.s80_tree.specs.Tree.{DoItParts}
use Rattle.s80_form.specs.TreeParts.{IsSending}
use Rattle.s80_change.specs.declared.head.SectionHead.{SectionHead}
use Rattle.s80_change.specs.declared.head_form.Form.{Form}
use Rattle.s80_change.specs.Head.{beginning, IsHeadTree}

-- the tree is that of no head
abbrev pub IsNoHeadTree : DoItParts → Type 0
IsNoHeadTree tree = (head : SectionHead) → IsHeadTree tree head → ⊥

-- the head that the tree is, or none where it is no head
abbrev pub IsRecognised : DoItParts → Option SectionHead → Type 0
IsRecognised tree (Some head) = IsHeadTree tree head
IsRecognised tree None = IsNoHeadTree tree

-- the tree is this form, or that of no head
abbrev pub ShowsForm : DoItParts → Option Form → Type 0
ShowsForm tree (Some f) = IsSending tree (f.receiver.now, f.side, beginning f.category.now)
ShowsForm tree None = IsNoHeadTree tree
