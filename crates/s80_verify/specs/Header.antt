-- Headers of codes, and the entries at the end of their frames.
use Rattle.std.specs.Prelude.{◌≡◌, ◌≢◌, ℕ, ◌+◌, ◌*◌, ◌<◌, ◌≤◌, ◌⊎◌, List, [], ◌∷◌, ◌++◌, Option, Some, None, Bool, true, false}
use Rattle.std.specs.List.{All}
use Rattle.s80_base.specs.declared.names.Side.{Side}
use Rattle.s80_code.specs.declared.code.Code.{Code}
use Rattle.s80_code.specs.Entries.{EntryTree, constant, class_variable, outer, owner, extension, entries_of}

-- neither an owner nor an extension
abbrev pub IsPlain : EntryTree → Type 0
IsPlain (owner class side) = ⊥
IsPlain (extension number) = ⊥
IsPlain _ = Unit {0}

-- a frame that ends in these entries, and before them are constants and variables alone
abbrev pub EndsIn : List EntryTree → List EntryTree → Type 0
EndsIn ending entries = (plain : List EntryTree) × (entries ≡ plain ++ ending) × All IsPlain plain

-- at most an owner stands last
abbrev pub EndsPlain : List EntryTree → Type 0
EndsPlain entries = EndsIn [] entries ⊎ ((class : List ℕ) × (side : Side) × EndsIn (owner class side ∷ []) entries)

-- a flag that is the number of arguments, without a primitive: at most an owner stands last
pub record IsShort (code : Code) : Type 0 where
  pub few : code.flag ≤ 4
  pub counts : code.flag ≡ code.arguments
  pub no_primitive : code.primitive ≡ 0
  pub ending : EndsPlain (entries_of code.literals)

-- the flag 7: the last two are the extension and the owner
pub record IsExtended (code : Code) : Type 0 where
  pub flagged : code.flag ≡ 7
  pub needed : (4 < code.arguments) ⊎ (code.primitive ≢ 0)
  pub class : List ℕ
  pub side : Side
  pub ending : EndsIn (extension (code.arguments * 256 + code.primitive) ∷ owner class side ∷ []) (entries_of code.literals)

-- flag, arguments, temporaries and the special last entries fit each other
pub record HeaderFits (code : Code) : Type 0 where
  pub arguments : code.arguments ≤ code.temporaries
  pub temporaries : code.temporaries ≤ 31
  pub flag : IsShort code ⊎ IsExtended code

-- what stands before an owner at the end
abbrev pub BeforeOwner : List EntryTree → Option (List EntryTree) → Type 0
BeforeOwner entries None = (plain : List EntryTree) (class : List ℕ) (side : Side) → entries ≡ plain ++ owner class side ∷ [] → ⊥
BeforeOwner entries (Some plain) = (class : List ℕ) × (side : Side) × (entries ≡ plain ++ owner class side ∷ [])

-- what stands before this extension at the end
abbrev pub BeforeExtension : ℕ → List EntryTree → Option (List EntryTree) → Type 0
BeforeExtension number entries None = (plain : List EntryTree) → entries ≡ plain ++ extension number ∷ [] → ⊥
BeforeExtension number entries (Some plain) = entries ≡ plain ++ extension number ∷ []

-- an entry that is plain, as a test
abbrev pub is_plain : EntryTree → Bool
is_plain (owner class side) = false
is_plain (extension number) = false
is_plain _ = true
