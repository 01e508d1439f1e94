-- The blocks of changes in the log.
use Rattle.std.specs.Prelude.{◌≡◌, ℕ, ◌^◌, ◌≤◌, List, [], ◌∷◌, ◌++◌, length, All}
use Rattle.std.specs.List.{flat_map}
use Rattle.s80_chunk.specs.Chunks.{mark, chunk, longest, IsChunkText, IsPlainText}
use Rattle.s80_change.specs.declared.change.Change.{Change}
use Rattle.s80_change.specs.declared.change.Change.TheVariants.{Form, Method, DoIt}
use Rattle.s80_change.specs.declared.change.Method.{Method as MethodChange}
use Rattle.s80_form.specs.Form.{form_text, IsLawfulForm, IsNoFormText}
use Rattle.s80_change.specs.declared.head.SectionHead.{SectionHead}
use Rattle.s80_change.specs.Head.{head_text, IsLawfulHead}
use Rattle.s80_change.specs.Check.{IsCheckOf}
use Rattle.s80_change.specs.declared.framing.Framing.{Framing}
use Rattle.s80_change.specs.declared.framing.Framing.TheVariants.{Plain, Section}

-- A framing of a log: a plain text as a chunk, and a line feed; or a section of one method: its head, and the source.
abbrev pub framed : Framing → List ℕ
framed (Plain text) = chunk text ++ 10 ∷ []
framed (Section head source) = mark ∷ chunk head ++ (10 ∷ chunk source ++ (32 ∷ mark ∷ 10 ∷ []))

-- the head of the section in which a method stands
abbrev pub head_of : MethodChange → SectionHead
head_of m = record { class_name = m.class_name; side = m.side; category = m.category }

-- a form and a doIt stand in the log as plain texts, and a method in a section of its own
abbrev pub framing_of : Change → Framing
framing_of (Form form) = Plain (form_text form)
framing_of (Method m) = Section (head_text (head_of m)) m.source.text
framing_of (DoIt text) = Plain text

-- how the log keeps a change
abbrev pub block : Change → List ℕ
block change = framed (framing_of change)

-- the log of a list of changes: their blocks, one after the other
abbrev pub blocks : List Change → List ℕ
blocks changes = flat_map block changes

-- A method stands under a lawful head. Its source is a text of a chunk that isn't too long, and what is said of it by itself is so.
pub record IsLawfulMethod (m : MethodChange) : Type 0 where
  pub head : IsLawfulHead (head_of m)
  pub text : IsChunkText m.source.text
  pub short : length m.source.text ≤ longest
  pub check : IsCheckOf m.source.text m.source.selector

-- A form has lawful names. A doIt's text is that of a chunk that isn't too long, doesn't begin as a head does, and has none of the forms.
abbrev pub IsLawful : Change → Type 0
IsLawful (Form form) = IsLawfulForm form
IsLawful (Method m) = IsLawfulMethod m
IsLawful (DoIt text) = IsPlainText text × IsNoFormText text

-- the framing is that of no lawful change
abbrev pub HasNoChange : Framing → Type 0
HasNoChange framing = (change : Change) → IsLawful change → framing_of change ≡ framing → ⊥

-- the greatest length of a log
abbrev pub log_limit : ℕ
log_limit = 2 ^ 36

-- a list of changes that a log keeps
pub record IsList (changes : List Change) : Type 0 where
  pub lawful : All IsLawful changes
  pub within : length (blocks changes) ≤ log_limit
