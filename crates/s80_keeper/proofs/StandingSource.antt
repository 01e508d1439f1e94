-- A source that is read where a method's row says.
use Rattle.std.proofs.Common.{◌≡◌, ℕ, Bool, List, Result, Ok, Err, sym, ◌∙◌, subst}
use Rattle.s80_apply.specs.Placed.{PlacedRow}
use Rattle.s80_apply.specs.Source.{StandsAt, text_for}
use Rattle.s80_apply.specs.Entries.{row_in}
use Rattle.s80_dict.specs.declared.dict.MethodEntry.{MethodEntry}
use Rattle.s80_log.specs.declared.read.BlockFault.{BlockFault}
use Rattle.s80_log.specs.declared.read.BlockFault.TheVariants as block_faults
use Rattle.s80_keeper.specs.SourceAt.{IsRead, IsThis}
use Rattle.s80_keeper.proofs.Spells.{one_text}

-- the source that stands there is read, and no other; and it is found
of_row : (log : List ℕ) (row : PlacedRow) (result : Result (List ℕ) BlockFault) → StandsAt log row → IsRead (text_for row.from_kernel log) row.position row.length result → IsThis row.source result
of_row log row (Ok source) stands read = one_text source row.source (sym read.0 ∙ stands.same)
of_row log row (Err block_faults.Memory) stands read = tt
of_row log row (Err (block_faults.Disk failed)) stands read = tt
of_row log row (Err (block_faults.Bad place)) stands read = read.1 row.source stands.within stands.same

-- by an entry of which the state has this row, in the text that it names
pub read_in : {C : Type 0} (log : List ℕ) (row : PlacedRow) (entry : MethodEntry C) (result : Result (List ℕ) BlockFault) (from : Bool) → entry.from_kernel ≡ from → StandsAt log row → row_in entry ≡ row → IsRead (text_for from log) entry.position entry.length result → IsThis row.source result
read_in log row entry result from names stands is read =
    let P : PlacedRow → Type 0 = λ r. IsRead (text_for r.from_kernel log) r.position r.length result in
    of_row log row result stands (subst P is (subst (λ b. IsRead (text_for b log) entry.position entry.length result) (sym names) read))
