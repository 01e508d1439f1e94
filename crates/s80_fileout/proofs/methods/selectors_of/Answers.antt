use Rattle.std.proofs.Common.{◌∙◌, sym}
use Rattle.s80_fileout.proofs.Systems.{no_keys, no_methods}
use Rattle.s80_fileout.proofs.methods.selectors_of.Goals as goal

pub returns-in-None : goal.returns-in-None
returns-in-None c = λ state is.
    c.empty.ensures ∙ sym (no_keys (state.methods c.args.class_name.now c.args.side) (no_methods c.args.system.now state c.args.class_name.now c.args.side is c.in-None.ensures))
