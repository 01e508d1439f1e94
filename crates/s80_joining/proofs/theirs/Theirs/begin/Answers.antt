use Rattle.std.proofs.Common.{refl}
use Rattle.s80_model.specs.declared.section.Section.TheVariants.{Top}
use Rattle.s80_apply.specs.List.{state_of}
use Rattle.s80_apply.specs.State.{kernel_state}
use Rattle.s80_joining.specs.declared.theirs.Theirs.{Theirs}
use Rattle.s80_joining.proofs.Taking.{none_taken}
use Rattle.s80_joining.proofs.theirs.Theirs.begin.Goals as goal

pub returns : goal.returns
returns c =
    let theirs : Theirs = record { system = c.work_all.new.system; section = Top; changes = c.empty.result } in
    none_taken theirs (state_of c.args.base.now) (c.in_ok-work_all.ensures kernel_state c.in_ok-system.ensures.state) refl c.empty.ensures
