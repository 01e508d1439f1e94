-- The forms by which doIts change classes: the tree of each, its text, and which are lawful.
use Rattle.std.specs.Prelude.{◌≡◌, ◌⊎◌, ℕ, List, [], ◌++◌, Option, Some, None, codes}
use Rattle.s80_base.specs.Literal.{LiteralTree, symbol, str}
use Rattle.s80_base.specs.declared.names.Side.{Side}
use Rattle.s80_base.specs.declared.names.Side.TheVariants.{Instance, Class}
use Rattle.s80_lex.specs.Spelling.{quoted}
use Rattle.s80_tree.specs.Tree.{DoItParts, MessageTree, exprs, no_exprs}
use Rattle.s80_syntax.specs.Text.{IsDoItOf}
use Rattle.s80_form.specs.declared.form.Form.{Form}
use Rattle.s80_form.specs.declared.form.Form.TheVariants.{Define, ClassVars, Comment, RemoveMethod, Classify, RemoveClass, NoChanges}
use Rattle.s80_form.specs.declared.form.Recognised.{Recognised}
use Rattle.s80_form.specs.declared.form.Recognised.TheVariants as recognised
use Rattle.s80_form.specs.Name.{IsName, AreNames, IsSelectorWord, IsBrief, AreBrief}
use Rattle.s80_form.specs.TreeParts.{argument, IsSending, IsOrganizing}
use Rattle.s80_form.specs.Definition.{definition_text, joined, split_names, IsDefining, HasDefinitionNames, IsBriefDefinition}

-- ---- the tree

abbrev pub smalltalk : List ℕ
smalltalk = codes "Smalltalk"

-- a message without arguments, and one with a literal
abbrev pub unary : List ℕ → MessageTree
unary selector = (selector, no_exprs)

abbrev pub with_literal : List ℕ → LiteralTree → MessageTree
with_literal selector value = (selector, exprs (argument value) no_exprs)

-- the message that puts a selector under a category
abbrev pub classifying : List ℕ → List ℕ → MessageTree
classifying selector category = (codes "classify:under:", exprs (argument (symbol selector)) (exprs (argument (str category)) no_exprs))

-- the tree sends this message to one side of the class of this name, or to that side's organization, and does nothing else
abbrev pub Sends : DoItParts → List ℕ → Side → MessageTree → Type 0
Sends tree name side message = (at : ℕ) × IsSending tree (record { name = name; at = at }, side, message)

abbrev pub SendsToOrganization : DoItParts → List ℕ → Side → MessageTree → Type 0
SendsToOrganization tree name side message = (at : ℕ) × IsOrganizing tree (record { name = name; at = at }, side, message)

-- the tree has this form
abbrev pub HasForm : DoItParts → Form → Type 0
HasForm tree (Define d) = IsDefining tree d
HasForm tree (ClassVars name names) = (text : List ℕ) × Sends tree name Class (with_literal (codes "instanceVariableNames:") (str text)) × (names ≡ split_names text)
HasForm tree (Comment name text) = Sends tree name Instance (with_literal (codes "comment:") (str text))
HasForm tree (RemoveMethod name side selector) = Sends tree name side (with_literal (codes "removeSelector:") (symbol selector))
HasForm tree (Classify name side selector category) = SendsToOrganization tree name side (classifying selector category)
HasForm tree (RemoveClass name) = Sends tree smalltalk Instance (with_literal (codes "removeClassNamed:") (symbol name)) ⊎ Sends tree name Instance (unary (codes "removeFromSystem"))
HasForm tree NoChanges = Sends tree smalltalk Instance (unary (codes "noChanges"))

-- each of its names and texts has fewer than 2^32 bytes
abbrev pub IsBriefForm : Form → Type 0
IsBriefForm (Define d) = IsBriefDefinition d
IsBriefForm (ClassVars name names) = IsBrief name × AreBrief names
IsBriefForm (Comment name text) = IsBrief name × IsBrief text
IsBriefForm (RemoveMethod name side selector) = IsBrief name × IsBrief selector
IsBriefForm (Classify name side selector category) = IsBrief name × IsBrief selector × IsBrief category
IsBriefForm (RemoveClass name) = IsBrief name
IsBriefForm NoChanges = Unit {0}

-- A text that is read has fewer than 2^32 bytes, and so has each part of its tree.
abbrev pub IsFormOf : DoItParts → Form → Type 0
IsFormOf tree form = HasForm tree form × IsBriefForm form

-- the tree asks for a snapshot
abbrev pub IsSnapshot : DoItParts → Type 0
IsSnapshot tree = Sends tree smalltalk Instance (unary (codes "snapshot"))

-- or to condense the changes
abbrev pub IsCondensing : DoItParts → Type 0
IsCondensing tree = Sends tree smalltalk Instance (unary (codes "condenseChanges"))

-- It has none of the forms by which doIts change classes, nor the snapshot's. A log may keep such a doIt, also one that asks to condense.
pub record IsNoForm (tree : DoItParts) : Type 0 where
  pub form : (form : Form) → IsFormOf tree form → ⊥
  pub snapshot : IsSnapshot tree → ⊥

-- nor does it ask to condense: it is evaluated
pub record IsEvaluated (tree : DoItParts) : Type 0 where
  pub none : IsNoForm tree
  pub condensing : IsCondensing tree → ⊥

-- what a tree is by its form
abbrev pub Recognises : DoItParts → Recognised → Type 0
Recognises tree (recognised.Form form) = IsFormOf tree form
Recognises tree recognised.Condense = IsCondensing tree
Recognises tree recognised.Snapshot = IsSnapshot tree
Recognises tree recognised.Evaluate = IsEvaluated tree

-- ---- texts with such a tree

-- the text is a doIt whose tree has this form
pub record IsFormText (text : List ℕ) (form : Form) : Type 0 where
  pub tree : DoItParts
  pub tree_is : IsDoItOf text tree
  pub form_is : IsFormOf tree form

-- or asks for a snapshot
pub record IsSnapshotText (text : List ℕ) : Type 0 where
  pub tree : DoItParts
  pub tree_is : IsDoItOf text tree
  pub snapshot : IsSnapshot tree

-- or to condense the changes
pub record IsCondensingText (text : List ℕ) : Type 0 where
  pub tree : DoItParts
  pub tree_is : IsDoItOf text tree
  pub condensing : IsCondensing tree

-- it is the text of none of the forms by which doIts change classes, nor of the snapshot's
pub record IsNoFormText (text : List ℕ) : Type 0 where
  pub form : (form : Form) → IsFormText text form → ⊥
  pub snapshot : IsSnapshotText text → ⊥

-- nor does it ask to condense
pub record IsEvaluatedText (text : List ℕ) : Type 0 where
  pub none : IsNoFormText text
  pub condensing : IsCondensingText text → ⊥

-- ---- the text of a form

-- what stands behind the name of a class for its class side
abbrev pub side_text : Side → List ℕ
side_text Instance = []
side_text Class = codes " class"

-- its one spelling, which the log keeps
abbrev pub form_text : Form → List ℕ
form_text (Define d) = definition_text d
form_text (ClassVars name names) = name ++ (codes " class instanceVariableNames: " ++ quoted 39 (joined names))
form_text (Comment name text) = name ++ (codes " comment: " ++ quoted 39 text)
form_text (RemoveMethod name side selector) = name ++ (side_text side ++ (codes " removeSelector: #" ++ selector))
form_text (Classify name side selector category) = name ++ (side_text side ++ (codes " organization classify: #" ++ (selector ++ (codes " under: " ++ quoted 39 category))))
form_text (RemoveClass name) = codes "Smalltalk removeClassNamed: #" ++ name
form_text NoChanges = codes "Smalltalk noChanges"

-- its names are identifiers that aren't reserved, and its selector is one
abbrev pub HasLawfulNames : Form → Type 0
HasLawfulNames (Define d) = HasDefinitionNames d
HasLawfulNames (ClassVars name names) = IsName name × AreNames names
HasLawfulNames (Comment name text) = IsName name
HasLawfulNames (RemoveMethod name side selector) = IsName name × IsSelectorWord selector
HasLawfulNames (Classify name side selector category) = IsName name × IsSelectorWord selector
HasLawfulNames (RemoveClass name) = IsName name
HasLawfulNames NoChanges = Unit {0}

pub record IsLawfulForm (form : Form) : Type 0 where
  pub names : HasLawfulNames form
  pub brief : IsBriefForm form

-- the lawful form that has this very text, or none where no such form has it
abbrev pub IsReadAs : List ℕ → Option Form → Type 0
IsReadAs text (Some form) = IsLawfulForm form × (text ≡ form_text form)
IsReadAs text None = (form : Form) → IsLawfulForm form → text ≡ form_text form → ⊥
