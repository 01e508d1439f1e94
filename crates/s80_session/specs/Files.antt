-- What working an item leaves of the files.
use Rattle.std.specs.Prelude.{◌≡◌, ◌≢◌, ◌⊎◌, ◌-◌, ℕ}
use Rattle.s80_change.specs.declared.change.Change.TheVariants.{DoIt}
use Rattle.s80_disk.specs.declared.disk.FileId.{FileId}
use Rattle.s80_disk.specs.declared.disk.FileId.TheVariants.{Mark, Image0, Image1}
use Rattle.s80_disk.specs.Image.{Image}
use Rattle.s80_log.specs.Log.{log_file}
use Rattle.s80_model.specs.Asked.{Asks, adds, condenses, snapshot_note}
use Rattle.s80_model.specs.declared.item.Query.{Query as SessionQuery}
use Rattle.s80_model.specs.declared.item.Query.TheVariants as queries
use Rattle.s80_model.specs.declared.item.SessionItem.{SessionItem}
use Rattle.s80_model.specs.declared.item.SessionItem.TheVariants.{Chunk, Unended, Query}

-- a query that asks for something to be told
abbrev pub IsQuestion : SessionQuery → Type 0
IsQuestion queries.Recover = Unit {0}
IsQuestion queries.Classes = Unit {0}
IsQuestion (queries.Browse name) = Unit {0}
IsQuestion (queries.Source spec selector) = Unit {0}
IsQuestion (queries.Versions spec selector) = Unit {0}
IsQuestion queries.Changes = Unit {0}
IsQuestion (queries.FileOut filed) = Unit {0}
IsQuestion (queries.Senders selector) = Unit {0}
IsQuestion (queries.Implementors selector) = Unit {0}
IsQuestion (queries.References name) = Unit {0}
IsQuestion queries.Undeclared = Unit {0}
IsQuestion queries.Unimplemented = Unit {0}
IsQuestion queries.Unsent = Unit {0}
IsQuestion queries.Snapshot = ⊥
IsQuestion queries.Condense = ⊥

-- the item is such a query
abbrev pub IsAsking : SessionItem → Type 0
IsAsking (Chunk item) = ⊥
IsAsking Unended = ⊥
IsAsking (Query query) = IsQuestion query

-- it is neither the mark nor the log of this number
pub record IsOther (number : ℕ) (file : FileId) : Type 0 where
  pub no_mark : file ≢ Mark
  pub no_log : file ≢ log_file number

-- it is none of the two image files
pub record IsNoImage (file : FileId) : Type 0 where
  pub first : file ≢ Image0
  pub second : file ≢ Image1

-- the item asks for a snapshot
abbrev pub AsksSnapshot : SessionItem → Type 0
AsksSnapshot item = Asks item (adds (DoIt snapshot_note))

-- nor does the item write it where the log of this number counts: one that asks to condense writes the other log too, and one that asks for a
-- snapshot an image
pub record IsUnwritten (item : SessionItem) (number : ℕ) (file : FileId) : Type 0 where
  pub other : IsOther number file
  pub condensing : Asks item condenses → file ≢ log_file (1 - number)
  pub snapping : AsksSnapshot item → IsNoImage file

-- the number of the log that counts, before an item and behind it: where the item asks to condense it may be the other one's
abbrev pub LogAfter : SessionItem → ℕ → ℕ → Type 0
LogAfter item before now = (now ≡ before) ⊎ (Asks item condenses × (now ≡ 1 - before))

-- these files are those of an image that a crash might leave before
pub record IsElsewhere (before : Image → Type 0) (stays : FileId → Type 0) (told : ℕ) (c : Image) : Type 0 where
  pub image : Image
  pub was : before image
  pub others : (other : FileId) → stays other → c other ≡ image other

-- a crash might leave it before
abbrev pub IsAsLeft : (Image → Type 0) → ℕ → Image → Type 0
IsAsLeft before told c = before c
