use Rattle.s80_image.specs.Classes.{classes_of}
use Rattle.s80_image.specs.Together.{classes_by_name, wrong_superclass}
use Rattle.s80_image.proofs.FirstWrong.{Passed}
use Rattle.s80_image.proofs.together.wrong_superclass.Given as goal

abbrev pub invariant-loop-i : goal.invariant-loop-i
invariant-loop-i l = Passed (wrong_superclass (classes_by_name (classes_of l.classes))) (classes_of l.classes) l.i
