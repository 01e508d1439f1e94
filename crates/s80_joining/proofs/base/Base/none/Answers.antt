use Rattle.s80_joining.specs.declared.base.Base.{Base}
use Rattle.s80_joining.proofs.BaseRead.{none_read}
use Rattle.s80_joining.proofs.base.Base.none.Goals as goal

pub returns : goal.returns
returns c = let base : Base = record { base = c.empty.result; since = c.empty-2.result } in none_read base c.empty.ensures c.empty-2.ensures
