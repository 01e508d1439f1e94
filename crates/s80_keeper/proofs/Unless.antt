-- What holds but where a call on the disk failed, through the replaying of a log.
use Rattle.std.proofs.Common.{◌≡◌, Result, Ok, Err, ap, sym, subst, ◌∙◌}
use Rattle.s80_log.specs.Faults.{UnlessBlockDisk}
use Rattle.s80_log.specs.declared.read.BlockFault.{BlockFault}
use Rattle.s80_log.specs.declared.read.BlockFault.TheVariants as block_faults
use Rattle.s80_keeper.specs.declared.start.StartFault.{StartFault}
use Rattle.s80_keeper.specs.declared.start.StartFault.TheVariants as faults
use Rattle.s80_keeper.specs.Start.{fault_of_block, UnlessStartDisk}

-- what holds at all
pub unless_at_all : {T : Type 0} (P : Type 0) (result : Result T StartFault) → P → UnlessStartDisk result P
unless_at_all P (Ok done) holds = holds
unless_at_all P (Err faults.Memory) holds = holds
unless_at_all P (Err (faults.Damaged damage)) holds = holds
unless_at_all P (Err (faults.Disk failed)) holds = tt

-- what follows from what the reading of a block says so, where that reading failed
pub unless_block : {T : Type 0} (U P Q : Type 0) (result : Result T StartFault) (fault : BlockFault) (own : StartFault) → result ≡ Err own → own ≡ fault_of_block fault → (P → Q) → UnlessBlockDisk {T = U} (Err fault) P → UnlessStartDisk result Q
unless_block U P Q result (block_faults.Disk failed) own is gives leads holds =
    let S : Result _ StartFault → Type 0 = λ r. UnlessStartDisk r Q in
    subst S (sym (is ∙ ap Err gives)) tt
unless_block U P Q result block_faults.Memory own is gives leads holds =
    let S : Result _ StartFault → Type 0 = λ r. UnlessStartDisk r Q in
    subst S (sym (is ∙ ap Err gives)) (leads holds)
unless_block U P Q result (block_faults.Bad place) own is gives leads holds =
    let S : Result _ StartFault → Type 0 = λ r. UnlessStartDisk r Q in
    subst S (sym (is ∙ ap Err gives)) (leads holds)
