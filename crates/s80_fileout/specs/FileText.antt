-- The text of a file of changes: a header, and then blocks, of which neighbouring methods share a section.
use Rattle.std.specs.Prelude.{◌≡◌, codes, ℕ, ◌&&◌, Bool, List, [], ◌∷◌, ◌++◌, Option, Some, None, if◌then◌else◌}
use Rattle.std.specs.Str.{bytes_eq}
use Rattle.s80_dict.specs.Table.{same_side}
use Rattle.s80_chunk.specs.Chunks.{mark, chunk}
use Rattle.s80_change.specs.declared.change.Change.{Change}
use Rattle.s80_change.specs.declared.change.Change.TheVariants.{Form, Method, DoIt}
use Rattle.s80_change.specs.declared.head.SectionHead.{SectionHead}
use Rattle.s80_change.specs.Block.{block, head_of}
use Rattle.s80_change.specs.Head.{head_text}
use Rattle.s80_fileout.specs.Moment.{IsMoment}

abbrev pub is_same_head : SectionHead → SectionHead → Bool
is_same_head one other = bytes_eq one.class_name other.class_name && same_side one.side other.side && bytes_eq one.category other.category

-- what parts two sources of a section, what stands before its first, and what ends it: each source stands there as a chunk
abbrev pub parting : List ℕ
parting = 10 ∷ 10 ∷ []

abbrev pub opening : SectionHead → List ℕ
opening head = mark ∷ chunk (head_text head) ++ 10 ∷ []

abbrev pub closing : List ℕ
closing = 32 ∷ mark ∷ 10 ∷ []

-- what ends a section, where one is open
abbrev pub closed : Option SectionHead → List ℕ
closed None = []
closed (Some head) = closing

-- what stands before a source in a section of this head
abbrev pub begun : Option SectionHead → SectionHead → List ℕ
begun None head = opening head
begun (Some section) head = if is_same_head section head then parting else closing ++ opening head

-- changes, of which the methods that stand first go on with a section, where it has their head
abbrev pub changes_from : Option SectionHead → List Change → List ℕ
changes_from section [] = closed section
changes_from section (Method m ∷ changes) = begun section (head_of m) ++ (chunk m.source.text ++ changes_from (Some (head_of m)) changes)
changes_from section (Form form ∷ changes) = closed section ++ (block (Form form) ++ changes_from None changes)
changes_from section (DoIt text ∷ changes) = closed section ++ (block (DoIt text) ++ changes_from None changes)

abbrev pub changes_text : List Change → List ℕ
changes_text changes = changes_from None changes

-- the first line, by its moment
abbrev pub header : List ℕ → List ℕ
header moment = codes "'From Smalltalk-80, filed out " ++ (moment ++ (39 ∷ mark ∷ 10 ∷ []))

-- a file of these changes, which were filed out at this moment, so many seconds after the beginning of 1970
pub record IsFileAt (changes : List Change) (seconds : ℕ) (moment text : List ℕ) : Type 0 where
  pub at : IsMoment seconds moment
  pub whole : text ≡ header moment ++ changes_text changes

-- at whatever moment that is
abbrev pub IsFile : List Change → ℕ → List ℕ → Type 0
IsFile changes seconds text = (moment : List ℕ) × IsFileAt changes seconds moment text
