-- The bytes of a text from a place on.
use Rattle.std.proofs.Common.{◌≡◌, ℕ, ◌+◌, ◌-◌, ◌<◌, ◌≤◌, min, List, ◌++◌, length, take, drop, slice_range, Result, Ok, Err, refl, sym, ap, ◌∙◌, arith, length-take}
use Rattle.std.proofs.lemmas.List.{take-take, take_all, drop-take}
use Rattle.std.proofs.Math.Seq.{take-append_seam}
use Rattle.std.proofs.lemmas.Slice.{between_is}
use Rattle.s80_log.specs.declared.read.BlockFault.{BlockFault}
use Rattle.s80_log.specs.declared.read.BlockFault.TheVariants as block_faults
use Rattle.s80_keeper.specs.SourceAt.{IsRead, IsSpelledAt}

-- it was read where it stands
pub read_at : (text bytes : List ℕ) (position size : ℕ) (result : Result (List ℕ) BlockFault) → slice_range text position (position + size) ≡ bytes → length bytes ≡ size → IsSpelledAt bytes position result → IsRead text position size result
read_at text bytes position size (Ok source) same sized is = (same ∙ is, sym (ap length is) ∙ sized)
read_at text bytes position size (Err block_faults.Memory) same sized is = tt
read_at text bytes position size (Err (block_faults.Disk failed)) same sized is = tt
read_at text bytes position size (Err (block_faults.Bad place)) same sized is = (is.0, λ source within spelled. is.1 source (sym same ∙ spelled))

-- the text ends before
pub read_past : (text : List ℕ) (position size : ℕ) → length text < position + size → IsRead text position size (Err (block_faults.Bad position))
read_past text position size past = (refl, λ source within spelled. absurd (omega arith))

-- ---- in a log, of whose file so many bytes count

piece_is : (file : List ℕ) (end position size : ℕ) → position + size ≤ end → slice_range (take end file) position (position + size) ≡ take size (drop position file)
piece_is file end position size within =
    between_is (take end file) position (position + size) ∙ ap (drop position) (take-take (position + size) end file within) ∙ drop-take position size file

-- all of the piece was there
pub read_whole : (file piece : List ℕ) (end position size count : ℕ) (result : Result (List ℕ) BlockFault) → position + size ≤ end → length piece ≡ size → count ≤ length piece → length piece ≤ count → take count piece ≡ take count (drop position file) → IsSpelledAt piece position result → IsRead (take end file) position size result
read_whole file piece end position size count result within sized some all same is =
    let counted : count ≡ size = omega (arith, sized, some, all) in
    let whole : piece ≡ take size (drop position file) = sym (take_all count piece all) ∙ same ∙ ap (λ n. take n (drop position file)) counted in
    read_at (take end file) piece position size result (piece_is file end position size within ∙ sym whole) sized is

-- the file ends before
pub read_short : (file : List ℕ) (end position size count : ℕ) → count < size → count ≡ min size (length file - position) → IsRead (take end file) position size (Err (block_faults.Bad position))
read_short file end position size count short is = read_past (take end file) position size (let n = length-take end file in omega (arith, n, short, is))

-- what counts of it ends before
pub read_beyond : (file : List ℕ) (end position size : ℕ) → end < position + size → IsRead (take end file) position size (Err (block_faults.Bad position))
read_beyond file end position size past = read_past (take end file) position size (let n = length-take end file in omega (arith, n, past))

-- a buffer that was filled, and what stands behind it
pub front_is : (size : ℕ) (filled behind : List ℕ) → length filled ≡ size → take size (filled ++ behind) ≡ filled
front_is size filled behind sized = ap (λ n. take n (filled ++ behind)) (sym sized) ∙ take-append_seam filled behind
