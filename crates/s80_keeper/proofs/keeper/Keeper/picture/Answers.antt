use Rattle.std.proofs.Common.{◌<◌, sym, subst}
use Rattle.std.specs.List.{All}
use Rattle.s80_keeper.specs.Keeper.{KeeperState}
use Rattle.s80_keeper.specs.Renewing.{HasMade}
use Rattle.s80_keeper.proofs.lemmas.Noted.{image_noted}
use Rattle.s80_keeper.proofs.keeper.Keeper.picture.Goals as goal

pub returns : goal.returns
returns c = λ changes made list.
    let keeper : KeeperState = record { log = c.self.inside.log; mark = c.self.inside.mark; system = c.self.inside.system; history = c.self.inside.history; count = c.self.inside.count; fault = c.self.inside.fault } in
    let known = c.systems_are_known.ensures in
    image_noted keeper changes c.saturating_add-count.result c.in_ok-image.image (subst (λ k. HasMade k changes) (sym c.self.view_is) made) list known.known known.codes
    c.a_picture_is_the_image_of_its_list.ensures c.images_of_lists_are_lawful.ensures.lawful c.saturating_add-count.ensures c.in_ok-image.ensures
    (subst (All (λ b. b < 256)) c.bytes.ensures c.are_bytes.ensures)
