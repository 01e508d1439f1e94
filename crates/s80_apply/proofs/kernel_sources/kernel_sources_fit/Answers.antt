use Rattle.s80_apply.proofs.KernelSources.{all_fit}
use Rattle.s80_apply.proofs.kernel_sources.kernel_sources_fit.Goals as goal

pub returns : goal.returns
returns c = all_fit
