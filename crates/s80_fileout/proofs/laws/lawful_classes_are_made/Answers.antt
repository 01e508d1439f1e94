use Rattle.s80_fileout.proofs.ClassesMade.{makes_classes}
use Rattle.s80_fileout.proofs.laws.lawful_classes_are_made.Goals as goal

pub returns : goal.returns
returns c = makes_classes
