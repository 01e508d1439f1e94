-- Steps of one file and of an image.
use Rattle.std.proofs.Common.{◌≡◌, ℕ, List, refl, arith}
use Rattle.s80_disk.specs.declared.disk.FileId.{FileId}
use Rattle.s80_disk.specs.Image.{Image, Torn, CutShort, OnFile, Follows}
use Rattle.s80_disk.specs.Moments.{ComesFrom}

-- a write may not have happened at all
pub untorn : (at n : ℕ) (bytes : List ℕ) → Torn at n bytes bytes
untorn at n bytes = record { before = refl; after = refl; no_shorter = omega arith; no_longer = omega arith }

pub uncut : (n : ℕ) (bytes : List ℕ) → CutShort n bytes bytes
uncut n bytes = record { front = refl; no_shorter = omega arith; no_longer = omega arith }

pub unmoved : (file : FileId) (change : List ℕ → List ℕ → Type 0) (c : Image) → change (c file) (c file) → OnFile file change c c
unmoved file change c here = record { here = here; others = λ other ne. refl }

-- what follows from a moment's images comes from them
pub comes : (file : FileId) (change : List ℕ → List ℕ → Type 0) (before now : Image → Type 0) (told_before told : ℕ) → told ≡ told_before → Follows file change before now → (c : Image) → now c → ComesFrom before told_before file change told c
comes file change before now told_before told same follows c left =
    let from = follows c left in
    record { told_is = same; image = from.0; was = from.1; step = from.2 }
