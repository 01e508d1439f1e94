-- How many changes a list has, by the length of its log.
use Rattle.std.proofs.Common.{◌≡◌, ℕ, ◌+◌, ◌<◌, ◌≤◌, ◌^◌, List, [], ◌∷◌, length, Option, Some, None, ap, sym, ◌∙◌, arith, length-append}
use Rattle.std.specs.Prelude.{SomeIff, unwrap_or}
use Rattle.s80_change.specs.declared.change.Change.{Change}
use Rattle.s80_change.specs.Block.{block, blocks, IsList}
use Rattle.s80_keeper.specs.Answers.{one_more}
use Rattle.s80_keeper.proofs.OneList.{block_length}

-- a list has no more changes than its log has bytes
pub no_more : (changes : List Change) → length changes ≤ length (blocks changes)
no_more [] = omega arith
no_more (change ∷ changes) =
    let more = no_more changes in
    let some = block_length change in
    rw (length-append (block change) (blocks changes)) (omega arith)

-- so one more is counted
pub counts_more : (changes : List Change) (count : ℕ) → IsList changes → count ≡ length changes → one_more count ≡ length changes + 1
counts_more changes count list is =
    let few = no_more changes in
    let within = list.within in
    omega arith

-- a sum that there is
pub sum_of : (sum : Option ℕ) (s a b : ℕ) → SomeIff sum (a + b < 2 ^ 64) (a + b) → sum ≡ Some s → s ≡ a + b
sum_of None s a b is e = absurd (cc)
sum_of (Some x) s a b is e = sym (ap (λ r. unwrap_or r 0) e) ∙ is.1
