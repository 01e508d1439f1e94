-- What a tree shows of its form.
use Rattle.std.specs.Prelude.{◌≡◌, ℕ, List}
use Rattle.s80_base.specs.Literal.{LiteralTree, symbol, str}
use Rattle.s80_base.specs.declared.names.Side.{Side}
use Rattle.s80_base.specs.declared.names.Side.TheVariants.{Instance, Class}
use Rattle.s80_tree.specs.declared.name.NameAt.{NameAt}
use Rattle.s80_tree.specs.Tree.{DoItParts, ExprTrees, MessageTree, exprs, no_exprs}
use Rattle.s80_form.specs.declared.definition.Kind.{Kind}
use Rattle.s80_form.specs.declared.definition.Definition.{Definition}
use Rattle.s80_form.specs.declared.form.Form.TheVariants.{Define, ClassVars, Comment, RemoveMethod, Classify, RemoveClass, NoChanges}
use Rattle.s80_form.specs.declared.form.Recognised.{Recognised}
use Rattle.s80_form.specs.declared.form.Recognised.TheVariants as recognised
use Rattle.s80_form.specs.declared.keyword.Keyword.{Keyword}
use Rattle.s80_form.specs.declared.keyword.Keyword.TheVariants.{Defines, Plain}
use Rattle.s80_form.specs.declared.keyword.Word.{Word}
use Rattle.s80_form.specs.declared.keyword.Word.TheVariants as words
use Rattle.s80_form.specs.declared.shown.Arguments.{Arguments}
use Rattle.s80_form.specs.declared.shown.Shown.{Shown}
use Rattle.s80_form.specs.declared.shown.Shown.TheVariants as shown
use Rattle.s80_form.specs.Definition.{split_names, are_arguments}
use Rattle.s80_form.specs.Keyword.{keyword_selector}
use Rattle.s80_form.specs.TreeParts.{argument}
use Rattle.s80_form.specs.Form.{HasForm, IsBriefForm, IsCondensing, IsSnapshot, smalltalk, classifying}

-- ---- what is shown

abbrev pub texts_of : Arguments → List ℕ × List ℕ × List ℕ × List ℕ × List ℕ
texts_of a = (a.class_name.now, a.inst_vars.now, a.class_vars.now, a.pools.now, a.category.now)

-- the definition by the superclass, the kind, and the texts of the arguments
abbrev pub defined : List ℕ → Kind → List ℕ × List ℕ × List ℕ × List ℕ × List ℕ → Definition
defined superclass kind t = record {
  class_name = t.0;
  superclass = superclass;
  kind = kind;
  inst_vars = split_names t.1;
  class_vars = split_names t.2;
  pools = split_names t.3;
  category = t.4;
}

abbrev pub recognised_as : Shown → Recognised
recognised_as (shown.Define superclass kind arguments) = recognised.Form (Define (defined superclass.now kind (texts_of arguments)))
recognised_as (shown.ClassVars name names) = recognised.Form (ClassVars name.now (split_names names.now))
recognised_as (shown.Comment name text) = recognised.Form (Comment name.now text.now)
recognised_as (shown.RemoveMethod name side selector) = recognised.Form (RemoveMethod name.now side selector.now)
recognised_as (shown.Classify name side selector category) = recognised.Form (Classify name.now side selector.now category.now)
recognised_as (shown.RemoveClass name) = recognised.Form (RemoveClass name.now)
recognised_as shown.NoChanges = recognised.Form NoChanges
recognised_as shown.Condense = recognised.Condense
recognised_as shown.Snapshot = recognised.Snapshot

-- the tree has this form, whether its parts are brief or not, or asks to condense or for a snapshot
abbrev pub Has : DoItParts → Recognised → Type 0
Has tree (recognised.Form form) = HasForm tree form
Has tree recognised.Condense = IsCondensing tree
Has tree recognised.Snapshot = IsSnapshot tree
Has tree recognised.Evaluate = ⊥

-- ---- by the messages

abbrev pub sole : LiteralTree → ExprTrees
sole value = exprs (argument value) no_exprs

-- a message with these arguments to one side of a class, by the word that is its selector
abbrev pub SaysWord : Word → List ℕ → Side → ExprTrees → Recognised → Type 0
SaysWord words.InstanceVariableNames name Class es y = (text : List ℕ) × (es ≡ sole (str text)) × (y ≡ recognised.Form (ClassVars name (split_names text)))
SaysWord words.Comment name Instance es y = (text : List ℕ) × (es ≡ sole (str text)) × (y ≡ recognised.Form (Comment name text))
SaysWord words.RemoveSelector name side es y = (selector : List ℕ) × (es ≡ sole (symbol selector)) × (y ≡ recognised.Form (RemoveMethod name side selector))
SaysWord words.RemoveClassNamed name Instance es y = (other : List ℕ) × (name ≡ smalltalk) × (es ≡ sole (symbol other)) × (y ≡ recognised.Form (RemoveClass other))
SaysWord words.RemoveFromSystem name Instance es y = (es ≡ no_exprs) × (y ≡ recognised.Form (RemoveClass name))
SaysWord words.NoChanges name Instance es y = (name ≡ smalltalk) × (es ≡ no_exprs) × (y ≡ recognised.Form NoChanges)
SaysWord words.CondenseChanges name Instance es y = (name ≡ smalltalk) × (es ≡ no_exprs) × (y ≡ recognised.Condense)
SaysWord words.Snapshot name Instance es y = (name ≡ smalltalk) × (es ≡ no_exprs) × (y ≡ recognised.Snapshot)
SaysWord _ name side es y = ⊥

abbrev pub Says : Keyword → List ℕ → Side → ExprTrees → Recognised → Type 0
Says (Defines kind) name Instance es y = (t : List ℕ × List ℕ × List ℕ × List ℕ × List ℕ) × (es ≡ are_arguments t) × (y ≡ recognised.Form (Define (defined name kind t)))
Says (Defines kind) name Class es y = ⊥
Says (Plain word) name side es y = SaysWord word name side es y

-- a message to one side of a class, whatever its selector
abbrev pub SaysSent : NameAt × Side × MessageTree → Recognised → Type 0
SaysSent p y = (k : Keyword) × (es : ExprTrees) × (p.2 ≡ (keyword_selector k, es)) × Says k p.0.name p.1 es y

-- a message to the organization of one side of a class
abbrev pub SaysOrganizing : NameAt × Side × MessageTree → Recognised → Type 0
SaysOrganizing p y = (selector : List ℕ) × (category : List ℕ) × (p.2 ≡ classifying selector category) × (y ≡ recognised.Form (Classify p.0.name p.1 selector category))

abbrev pub IsBriefRecognised : Recognised → Type 0
IsBriefRecognised (recognised.Form form) = IsBriefForm form
IsBriefRecognised _ = Unit {0}
