use Rattle.s80_image.specs.Classes.{classes_of}
use Rattle.s80_image.specs.Together.{classes_by_name, wrong_chain}
use Rattle.s80_image.proofs.FirstWrong.{Passed}
use Rattle.s80_image.proofs.together.wrong_chain.Given as goal

abbrev pub invariant-loop-i : goal.invariant-loop-i
invariant-loop-i l = Passed (wrong_chain (classes_by_name (classes_of l.classes))) (classes_of l.classes) l.i
