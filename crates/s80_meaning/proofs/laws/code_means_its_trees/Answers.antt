use Rattle.s80_meaning.proofs.Means.{means_its_trees}
use Rattle.s80_meaning.proofs.laws.code_means_its_trees.Goals as goal

pub returns : goal.returns
returns c = λ t codes code budget ran runs. means_its_trees t codes code budget ran runs
