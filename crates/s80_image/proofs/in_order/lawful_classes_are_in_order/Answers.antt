use Rattle.s80_image.proofs.InOrder.{are_in_order}
use Rattle.s80_image.proofs.in_order.lawful_classes_are_in_order.Goals as goal

pub returns : goal.returns
returns c = λ image lawful. are_in_order image lawful
