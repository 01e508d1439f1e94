use Rattle.std.proofs.Common.{refl, map}
use Rattle.s80_code.specs.Entries.{entry_of}
use Rattle.s80_verify.proofs.BlockLemmas.{owned, unowned}
use Rattle.s80_verify.proofs.operands.has_owner.Goals as goal

pub returns-in-Some : goal.returns-in-Some
returns-in-Some c = (λ r. owned c.args.code.now c.as_slice.result.now _ c.as_slice.ensures.value c.in-Some.ensures, λ h. refl)

pub returns-in-None : goal.returns-in-None
returns-in-None c = (λ r. cc, λ h. absurd (unowned c.args.code.now c.as_slice.result.now c.as_slice.ensures.value c.in-None.ensures h))
