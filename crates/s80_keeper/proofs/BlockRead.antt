-- The block behind those of some changes is read.
use Rattle.std.proofs.Common.{◌≡◌, ◌∙◌, ℕ, ◌+◌, ◌<◌, List, [], ◌∷◌, ◌++◌, length, drop, Result, Ok, Err, refl, sym, ap, subst, arith, length-append}
use Rattle.std.specs.List.{All}
use Rattle.std.proofs.lemmas.Grind.{flat_map-append}
use Rattle.std.proofs.Math.Seq.{drop-append_seam}
use Rattle.s80_change.specs.declared.change.Change.{Change}
use Rattle.s80_change.specs.Block.{block, blocks, IsLawful}
use Rattle.s80_change.specs.Blocks.{BeginsWith}
use Rattle.s80_change.proofs.lemmas.BlockLaws.{block_unique}
use Rattle.s80_keeper.specs.declared.start.Damage.TheVariants.{NoMark, BadMark, LogShort, ImageShort, BadImage, BadBlock, Replay, CountDiffers}
use Rattle.s80_keeper.specs.declared.keep.KeepFault.{KeepFault}
use Rattle.s80_keeper.specs.declared.keep.KeepFault.TheVariants as faults
use Rattle.s80_keeper.specs.ChangesAt.{IsReadAt}
use Rattle.s80_keeper.specs.Source.{IsThis}
use Rattle.s80_keeper.proofs.Readings.{blocks_length, lawful_after}

-- so long are the blocks with one more
behind_it : (before : List Change) (change : Change) → length (blocks (before ++ change ∷ [])) ≡ length (blocks before) + length (block change)
behind_it before change =
    let all = blocks_length before (change ∷ []) (before ++ change ∷ []) refl in
    let one = length-append (block change) [] in
    omega (arith, all, one)

module _ (log : List ℕ) (at : ℕ) (before behind : List Change) (change : Change) (lawful : All IsLawful (before ++ change ∷ behind)) (is : log ≡ blocks (before ++ change ∷ behind)) (here : at ≡ length (blocks before)) where
  -- it begins with the next change's block
  begins_here : drop at log ≡ block change ++ blocks behind
  begins_here = ap (λ n. drop n log) here ∙ ap (drop (length (blocks before))) (is ∙ flat_map-append block before (change ∷ behind)) ∙ drop-append_seam (blocks before) (block change ++ blocks behind)

  pub begins : BeginsWith (drop at log) change
  begins = record { lawful = lawful_after before change behind lawful; after = blocks behind; begins = begins_here }

  this_read : (found : Change × ℕ) → BeginsWith (drop at log) found.0 → found.1 ≡ at + length (block found.0) → IsThis {T = Change × ℕ} (change, length (blocks (before ++ change ∷ []))) (Ok found)
  this_read found own place =
      let same : found.0 ≡ change = (block_unique found.0 change own.after (blocks behind) own.lawful (lawful_after before change behind lawful) (sym own.begins ∙ begins_here)).0 in
      let there : found.1 ≡ length (blocks (before ++ change ∷ [])) = place ∙ ap (λ n. n + length (block found.0)) here ∙ ap (λ c. length (blocks before) + length (block c)) same ∙ sym (behind_it before change) in
      λ i. (same i, there i)

  pub this_block : (result : Result (Change × ℕ) KeepFault) → IsReadAt log at result → IsThis (change, length (blocks (before ++ change ∷ []))) result
  this_block (Ok found) read = this_read found read.0 read.1
  this_block (Err faults.Memory) read = tt
  this_block (Err (faults.Disk failed)) read = tt
  this_block (Err (faults.Closed failed)) read = tt
  this_block (Err (faults.Full count)) read = absurd read
  this_block (Err (faults.Damaged (NoMark size))) read = absurd read
  this_block (Err (faults.Damaged (BadMark value))) read = absurd read
  this_block (Err (faults.Damaged (LogShort marked found))) read = absurd read
  this_block (Err (faults.Damaged (ImageShort marked found))) read = absurd read
  this_block (Err (faults.Damaged (BadImage place))) read = absurd read
  this_block (Err (faults.Damaged (Replay place number))) read = absurd read
  this_block (Err (faults.Damaged (CountDiffers marked found))) read = absurd read
  this_block (Err (faults.Damaged (BadBlock place))) read = absurd (read.1 change begins)

-- a block is some bytes long
pub goes_on : (at next : ℕ) (change : Change) → next ≡ at + length (block change) → 0 < length (block change) → at < next
goes_on at next change is some = omega (arith, is, some)
