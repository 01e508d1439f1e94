-- What a disk over real files keeps beside them, and how it reads and writes a file.
use Rattle.std.specs.Prelude.{◌≡◌, ◌<◌, ℕ, List, length, take, Option, Some, IfSome}
use Rattle.std.specs.Io.KnownBytes.{Consumes, Appends, IsAtEnd}
use Rattle.s80_disk.specs.declared.real.RealDisk.{RealDisk}

-- it has the type of the runtime and of two types that come with it
module _ {R A B : Type 0} where
  -- how many of its calls failed
  abbrev pub faults_of_real : RealDisk R A B → ℕ
  faults_of_real disk = disk.faults.count

  abbrev pub runtime_of : RealDisk R A B → R
  runtime_of disk = disk.rt

-- over where a file stands, what reads of it will give and what was written to it, where these are known
module _ {F : Type 0} where
  -- it was put at a place
  abbrev pub IsPut : (F → Option ℕ) → F → F → ℕ → Type 0
  IsPut position old put at = IfSome (position old) (λ _. position put ≡ Some at)

  -- from a place on it gave as many bytes as the buffer begins with, and where that isn't full it has ended
  pub record HasRead (position : F → Option ℕ) (remaining : F → Option (List ℕ)) (old new : F) (at count : ℕ) (buf : List ℕ) : Type 0 where
    pub put : F
    pub at_place : IsPut position old put at
    pub bytes : Consumes (remaining put) (remaining new) (take count buf)
    pub end : count < length buf → IsAtEnd (remaining new)

  -- from a place on it took all the bytes of a piece
  pub record HasWritten (position : F → Option ℕ) (contents : F → Option (List ℕ)) (old new : F) (at : ℕ) (piece : List ℕ) : Type 0 where
    pub put : F
    pub at_place : IsPut position old put at
    pub bytes : Appends (contents put) (contents new) piece
