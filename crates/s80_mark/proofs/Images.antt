-- How the images of one moment come from those of another.
use Rattle.std.proofs.Common.{◌≡◌, ℕ, List, refl, ◌∙◌}
use Rattle.s80_disk.specs.declared.disk.FileId.{FileId}
use Rattle.s80_disk.specs.Image.{Image, Follows}
use Rattle.s80_disk.specs.Moments.{ComesFrom}
use Rattle.s80_disk.specs.Untouched.{StillLeft}
use Rattle.s80_mark.specs.Stays.{Anything}

module _ (file : FileId) (change : List ℕ → List ℕ → Type 0) (looser : List ℕ → List ℕ → Type 0) (implies : (old new : List ℕ) → change old new → looser old new) where
  -- less said of the change
  pub follows_looser : (before now : Image → Type 0) → Follows file change before now → Follows file looser before now
  follows_looser before now follows c left =
      let from = follows c left in
      (from.0, from.1, record { here = implies (from.0 file) (c file) from.2.here; others = from.2.others })

  pub comes_looser : (before : Image → Type 0) (told_before told : ℕ) (c : Image) → ComesFrom before told_before file change told c → ComesFrom before told_before file looser told c
  comes_looser before told_before told c from = record {
    told_is = from.told_is;
    image = from.image;
    was = from.was;
    step = record { here = implies (from.image file) (c file) from.step.here; others = from.step.others };
  }

-- one change and another after it
pub follows_through : (file : FileId) (first second both : List ℕ → List ℕ → Type 0) (before mid now : Image → Type 0) → Follows file first before mid → Follows file second mid now → ((old between new : List ℕ) → first old between → second between new → both old new) → Follows file both before now
follows_through file first second both before mid now one two join c left =
    let last = two c left in
    let source = one last.0 last.1 in (
      source.0,
      source.1,
      record {
        here = join (source.0 file) (last.0 file) (c file) source.2.here last.2.here;
        others = λ other ne. last.2.others other ne ∙ source.2.others other ne;
      },
    )

pub comes_through : (file : FileId) (first second both : List ℕ → List ℕ → Type 0) (before mid : Image → Type 0) (told_before told_mid : ℕ) → told_mid ≡ told_before → Follows file first before mid → ((old between : Image) → mid between → first (old file) (between file) → (new : List ℕ) → second (between file) new → both (old file) new) → (told : ℕ) (c : Image) → ComesFrom mid told_mid file second told c → ComesFrom before told_before file both told c
comes_through file first second both before mid told_before told_mid same follows join told c from =
    let source = follows from.image from.was in
    record {
      told_is = from.told_is ∙ same;
      image = source.0;
      was = source.1;
      step = record {
        here = join source.0 from.image from.was source.2.here (c file) from.step.here;
        others = λ other ne. from.step.others other ne ∙ source.2.others other ne;
      };
    }

-- no change and one after it
pub comes_later : (file : FileId) (change : List ℕ → List ℕ → Type 0) (before mid : Image → Type 0) (told_before told_mid : ℕ) → told_mid ≡ told_before → ((c : Image) → mid c → before c) → (told : ℕ) (c : Image) → ComesFrom mid told_mid file change told c → ComesFrom before told_before file change told c
comes_later file change before mid told_before told_mid same crash told c from = record { told_is = from.told_is ∙ same; image = from.image; was = crash from.image from.was; step = from.step }

-- a file that isn't touched
pub comes_still : (file : FileId) (before : Image → Type 0) (told_before told : ℕ) (c : Image) → StillLeft before told_before told c → ComesFrom before told_before file Anything told c
comes_still file before told_before told c left = record { told_is = left.told_is; image = c; was = left.was; step = record { here = tt; others = λ other ne. refl } }

-- no image is new
pub follows_still : (file : FileId) (before now : Image → Type 0) → ((c : Image) → now c → before c) → Follows file Anything before now
follows_still file before now crash c left = (c, crash c left, record { here = tt; others = λ other ne. refl })
