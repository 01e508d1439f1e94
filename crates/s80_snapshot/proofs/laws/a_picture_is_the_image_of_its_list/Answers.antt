use Rattle.s80_snapshot.proofs.Pictures.{picture_of_list}
use Rattle.s80_snapshot.proofs.laws.a_picture_is_the_image_of_its_list.Goals as goal

pub returns : goal.returns
returns c = picture_of_list
