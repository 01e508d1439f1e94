-- How the parts of a form's text are found.
use Rattle.std.specs.Prelude.{◌≡◌, ℕ, List, [], ◌∷◌, ◌++◌, Option, Some, codes}
use Rattle.std.specs.List.{flat_map}
use Rattle.s80_base.specs.declared.names.Side.{Side}
use Rattle.s80_base.specs.declared.names.Side.TheVariants.{Instance, Class}
use Rattle.s80_lex.specs.Spelling.{doubled, quoted, NotNext}
use Rattle.s80_form.specs.declared.definition.Kind.{Kind}
use Rattle.s80_form.specs.declared.definition.Definition.{Definition}
use Rattle.s80_form.specs.declared.form.Form.{Form}
use Rattle.s80_form.specs.declared.form.Form.TheVariants.{Define, ClassVars, Comment, RemoveMethod, Classify, RemoveClass, NoChanges}
use Rattle.s80_form.specs.declared.keyword.Keyword.{Keyword}
use Rattle.s80_form.specs.declared.keyword.Keyword.TheVariants.{Defines, Plain}
use Rattle.s80_form.specs.declared.keyword.Word.{Word}
use Rattle.s80_form.specs.declared.keyword.Word.TheVariants as words
use Rattle.s80_form.specs.declared.read.Front.{Front}
use Rattle.s80_form.specs.Name.{AreNames, IsSelectorWord}
use Rattle.s80_form.specs.Definition.{joined, HasDefinitionNames}
use Rattle.s80_form.specs.Keyword.{keyword_text}
use Rattle.s80_form.specs.Form.{smalltalk, form_text, IsLawfulForm}

-- ---- the lines of a definition

-- a line with a keyword and a string, and what follows it
abbrev pub line : List ℕ → List ℕ → List ℕ → List ℕ
line word text rest = 10 ∷ 9 ∷ word ++ 32 ∷ 39 ∷ (flat_map (doubled 39) text ++ 39 ∷ rest)

-- the lines behind the first
abbrev pub lines : Definition → List ℕ
lines d =
    line (codes "instanceVariableNames:") (joined d.inst_vars)
    (line (codes "classVariableNames:") (joined d.class_vars)
    (line (codes "poolDictionaries:") (joined d.pools)
    (line (codes "category:") d.category [])))

-- the string of a line, and what follows the line
abbrev pub FindsLine : List ℕ → List ℕ → List ℕ → List ℕ → Type 0
FindsLine word bytes found left =
    (text rest : List ℕ) → NotNext 39 rest → bytes ≡ line word text rest → (found ≡ text) × (left ≡ rest)

-- of what follows the first word of a definition's text, this is that definition
abbrev pub FindsDefinition : List ℕ → Kind → List ℕ → Definition → Type 0
FindsDefinition superclass kind bytes found =
    (d : Definition) → HasDefinitionNames d → superclass ≡ d.superclass → kind ≡ d.kind → bytes ≡ 32 ∷ 35 ∷ (d.class_name ++ lines d) → found ≡ d

-- ---- what a form's text begins with

-- the name, the side, the first word, and what follows it
pub record Beginning : Type 0 where
  pub name : List ℕ
  pub side : Side
  pub keyword : Keyword
  pub rest : List ℕ

abbrev pub beginning_of : Form → Beginning
beginning_of (Define d) = record { name = d.superclass; side = Instance; keyword = Defines d.kind; rest = 32 ∷ 35 ∷ (d.class_name ++ lines d) }
beginning_of (ClassVars name names) = record { name = name; side = Class; keyword = Plain words.InstanceVariableNames; rest = 32 ∷ quoted 39 (joined names) }
beginning_of (Comment name text) = record { name = name; side = Instance; keyword = Plain words.Comment; rest = 32 ∷ quoted 39 text }
beginning_of (RemoveMethod name side selector) = record { name = name; side = side; keyword = Plain words.RemoveSelector; rest = 32 ∷ 35 ∷ selector }
beginning_of (Classify name side selector category) = record { name = name; side = side; keyword = Plain words.Organization; rest = codes " classify: #" ++ (selector ++ (codes " under: " ++ quoted 39 category)) }
beginning_of (RemoveClass name) = record { name = smalltalk; side = Instance; keyword = Plain words.RemoveClassNamed; rest = 32 ∷ 35 ∷ name }
beginning_of NoChanges = record { name = smalltalk; side = Instance; keyword = Plain words.NoChanges; rest = [] }

pub record IsBeginning (front : Front) (b : Beginning) : Type 0 where
  pub name : front.name.now ≡ b.name
  pub side : front.side ≡ b.side
  pub word : front.word.now ≡ keyword_text b.keyword
  pub rest : front.rest.now ≡ b.rest

abbrev pub FindsFront : List ℕ → Front → Type 0
FindsFront text front = (form : Form) → IsLawfulForm form → text ≡ form_text form → IsBeginning front (beginning_of form)

-- behind ` class`, before a space, the class side, and else the bytes as they are
pub record FindsSide (bytes : List ℕ) (side : Side) (left : List ℕ) : Type 0 where
  pub class : (rest : List ℕ) → bytes ≡ codes " class " ++ rest → (side ≡ Class) × (left ≡ 32 ∷ rest)
  pub instance : ((rest : List ℕ) → bytes ≡ codes " class " ++ rest → ⊥) → (side ≡ Instance) × (left ≡ bytes)

-- ---- forms by their first word

-- what follows the word
abbrev pub ReadsWord : Word → List ℕ → Side → List ℕ → Form → Type 0
ReadsWord words.InstanceVariableNames name side rest form = (names : List (List ℕ)) × AreNames names × (rest ≡ 32 ∷ quoted 39 (joined names)) × (form ≡ ClassVars name names)
ReadsWord words.Comment name side rest form = (text : List ℕ) × (rest ≡ 32 ∷ quoted 39 text) × (form ≡ Comment name text)
ReadsWord words.RemoveSelector name side rest form = (selector : List ℕ) × (rest ≡ 32 ∷ 35 ∷ selector) × (form ≡ RemoveMethod name side selector)
ReadsWord words.Organization name side rest form =
    (selector : List ℕ) × (category : List ℕ) × IsSelectorWord selector
    × (rest ≡ codes " classify: #" ++ (selector ++ (codes " under: " ++ quoted 39 category))) × (form ≡ Classify name side selector category)
ReadsWord words.RemoveClassNamed name side rest form = (other : List ℕ) × (rest ≡ 32 ∷ 35 ∷ other) × (form ≡ RemoveClass other)
ReadsWord words.NoChanges name side rest form = form ≡ NoChanges
ReadsWord _ name side rest form = ⊥

abbrev pub FindsWord : Word → List ℕ → Side → List ℕ → Option Form → Type 0
FindsWord word name side rest found = (form : Form) → ReadsWord word name side rest form → found ≡ Some form

-- of the text of a lawful form, this is that form
abbrev pub FindsForm : List ℕ → Option Form → Type 0
FindsForm text found = (form : Form) → IsLawfulForm form → text ≡ form_text form → found ≡ Some form
