-- The number of an option, by digits.
use Rattle.std.proofs.Common.{◌≡◌, ℕ, ◌+◌, ◌-◌, ◌*◌, ◌^◌, ◌<◌, min, take, length, slice_index_or, List, arith}
use Rattle.std.proofs.lemmas.List.{take_more}
use Rattle.std.proofs.lemmas.List.Sums.{fold_push}
use Rattle.s80_line.specs.Line.{number_of}

-- one digit more
pub digit_step : (word : List ℕ) (i number product digit next : ℕ) → i < length word → number ≡ min (number_of (take i word)) (2 ^ 64 - 1)
    → product ≡ min (number * 10) (2 ^ 64 - 1) → digit ≡ slice_index_or word i 0 - 48 → next ≡ min (product + digit) (2 ^ 64 - 1)
    → next ≡ min (number_of (take (i + 1) word)) (2 ^ 64 - 1)
digit_step word i number product digit next within n p d e =
    let digits : number_of (take (i + 1) word) ≡ number_of (take i word) * 10 + (slice_index_or word i 0 - 48) =
    rw (take_more word i 0 within) (fold_push (λ n b. n * 10 + (b - 48)) 0 (take i word) (slice_index_or word i 0)) in
    rw digits (omega arith)
