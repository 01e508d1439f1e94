-- What private functions promise of the bytes that they read a framing from.
use Rattle.std.specs.Prelude.{◌≡◌, ◌≢◌, ◌⊎◌, ⊤, ℕ, List, [], ◌∷◌, ◌++◌, length, Result, Ok, Err}
use Rattle.s80_chunk.specs.Chunks.{mark, spell, chunk}
use Rattle.s80_change.specs.Block.{framing_of, IsLawful, HasNoChange}
use Rattle.s80_change.specs.declared.framing.Framing.{Framing}
use Rattle.s80_change.specs.declared.framing.Framing.TheVariants.{Plain, Section}
use Rattle.s80_change.specs.declared.first.FirstBlock.{FirstBlock}
use Rattle.s80_change.specs.declared.first.FirstBlock.TheVariants as blocks
use Rattle.s80_change.specs.declared.front.NoFraming.{NoFraming}
use Rattle.s80_change.specs.declared.front.NoFraming.TheVariants.{Memory, Absent, Unended}

-- the bytes begin with the word of no value that has this property
abbrev pub HasNone : {X : Type 0} → (X → List ℕ) → (X → Type 0) → List ℕ → Type 0
HasNone word P bytes = (x : _) (after : List ℕ) → P x → bytes ≡ word x ++ after → ⊥

-- they begin with the word of this one, which is so long
pub record HasFirst {X : Type 0} (word : X → List ℕ) (P : X → Type 0) (bytes : List ℕ) (x : X) (count : ℕ) : Type 0 where
  pub proper : P x
  pub after : List ℕ
  pub begins : bytes ≡ word x ++ after
  pub counted : count ≡ length (word x)

-- they are a front of such a word, and not all of it
pub record IsFront {X : Type 0} (word : X → List ℕ) (bytes : List ℕ) : Type 0 where
  pub value : X
  pub more : List ℕ
  pub goes_on : word value ≡ bytes ++ more
  pub some : more ≢ []

-- what bytes begin with: a word of this kind; or none, whatever follows; or none that is whole in them
abbrev pub IsFirst : {X : Type 0} → (X → List ℕ) → (X → Type 0) → List ℕ → Result (X × ℕ) NoFraming → Type 0
IsFirst word P bytes (Ok (x, count)) = HasFirst word P bytes x count
IsFirst word P bytes (Err Memory) = ⊤
IsFirst word P bytes (Err Absent) = (more : List ℕ) → HasNone word P (bytes ++ more)
IsFirst word P bytes (Err Unended) = IsFront word bytes × HasNone word P bytes

-- a text as a chunk, with this behind it
abbrev pub line : List ℕ → List ℕ → List ℕ
line end text = chunk text ++ end

-- what may stand behind a chunk
abbrev pub IsEnd : List ℕ → Type 0
IsEnd [] = ⊥
IsEnd (b ∷ end) = b ≢ mark

-- a plain text at top level has at least one byte, and begins with no mark
abbrev pub IsProper : Framing → Type 0
IsProper (Plain []) = ⊥
IsProper (Plain (b ∷ text)) = b ≢ mark
IsProper (Section head source) = ⊤

-- the text as a chunk, and the bytes behind it
pub record HasChunk (bytes text : List ℕ) (count : ℕ) : Type 0 where
  pub after : List ℕ
  pub begins : bytes ≡ chunk text ++ after
  pub ends : IsEnd after
  pub counted : count ≡ length (chunk text)

-- the bytes are a spelled text alone, or with a mark behind it that may be one of two
abbrev pub IsFirstChunk : List ℕ → Result (List ℕ × ℕ) NoFraming → Type 0
IsFirstChunk bytes (Ok (text, count)) = HasChunk bytes text count
IsFirstChunk bytes (Err Memory) = ⊤
IsFirstChunk bytes (Err Absent) = ⊥
IsFirstChunk bytes (Err Unended) = (text : List ℕ) × ((bytes ≡ spell text) ⊎ (bytes ≡ chunk text))

-- the block that has this framing and is so long, if a change has it
abbrev pub IsFramedBlock : Framing → ℕ → FirstBlock → Type 0
IsFramedBlock framing count (blocks.Found change n) = IsLawful change × (framing_of change ≡ framing) × (n ≡ count)
IsFramedBlock framing count blocks.Absent = HasNoChange framing
IsFramedBlock framing count blocks.Unended = ⊥
