use Rattle.s80_image.specs.Classes.{classes_of}
use Rattle.s80_image.specs.Together.{classes_by_name, wrong_total}
use Rattle.s80_image.proofs.FirstWrong.{Passed}
use Rattle.s80_image.proofs.together.wrong_total.Given as goal

abbrev pub invariant-loop-i : goal.invariant-loop-i
invariant-loop-i l = Passed (wrong_total (classes_by_name (classes_of l.classes))) (classes_of l.classes) l.i
