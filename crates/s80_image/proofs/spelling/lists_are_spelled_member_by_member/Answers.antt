use Rattle.s80_image.proofs.Listed.{class_listed, image_listed}
use Rattle.s80_image.proofs.spelling.lists_are_spelled_member_by_member.Goals as goal

pub returns-clause-image : goal.returns-clause-image
returns-clause-image c = image_listed

pub returns-clause-class : goal.returns-clause-class
returns-clause-class c = class_listed
