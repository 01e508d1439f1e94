-- The items as which a file of changes is read.
use Rattle.std.specs.Prelude.{ℕ, ◌≤◌, if◌then◌else◌, codes, length, List, [], ◌∷◌, ◌++◌, Option, Some, None}
use Rattle.s80_chunk.specs.declared.item.Item.{Item}
use Rattle.s80_chunk.specs.declared.item.Item.TheVariants as items
use Rattle.s80_chunk.specs.Chunks.{longest, IsBlank, IsReading}
use Rattle.s80_form.specs.Form.{form_text}
use Rattle.s80_change.specs.declared.change.Change.{Change}
use Rattle.s80_change.specs.declared.change.Change.TheVariants.{Form, Method, DoIt}
use Rattle.s80_change.specs.declared.head.SectionHead.{SectionHead}
use Rattle.s80_change.specs.Block.{head_of}
use Rattle.s80_change.specs.Head.{head_text}
use Rattle.s80_fileout.specs.FileText.{is_same_head}

-- the end of a section, where one is open
abbrev pub ends_section : Option SectionHead → List Item
ends_section None = []
ends_section (Some head) = items.SectionEnd ∷ []

-- a section of this head begins, where the open one has another
abbrev pub begins_section : Option SectionHead → SectionHead → List Item
begins_section None head = items.Head (head_text head) ∷ []
begins_section (Some section) head = if is_same_head section head then [] else items.SectionEnd ∷ items.Head (head_text head) ∷ []

-- changes, of which the methods that stand first go on with a section, where it has their head
abbrev pub items_from : Option SectionHead → List Change → List Item
items_from section [] = ends_section section
items_from section (Method m ∷ changes) = begins_section section (head_of m) ++ items.Method m.source.text ∷ items_from (Some (head_of m)) changes
items_from section (Form form ∷ changes) = ends_section section ++ items.Plain (form_text form) ∷ items_from None changes
items_from section (DoIt text ∷ changes) = ends_section section ++ items.Plain text ∷ items_from None changes

-- the first line's doIt, by its moment
abbrev pub header_text : List ℕ → List ℕ
header_text moment = codes "'From Smalltalk-80, filed out " ++ (moment ++ 39 ∷ [])

-- each text of a change is that of a chunk which isn't too long
abbrev pub IsShort : Change → Type 0
IsShort (Form form) = length (form_text form) ≤ longest
IsShort (Method m) = length (head_text (head_of m)) ≤ longest
IsShort (DoIt text) = length text ≤ longest

-- the bytes read as a doIt of this moment and these changes, and behind them stand separators alone
abbrev pub IsReadAs : List ℕ → List ℕ → List Change → Type 0
IsReadAs bytes moment changes = (rest : List ℕ) × IsReading bytes (items.Plain (header_text moment) ∷ items_from None changes) rest × IsBlank rest
