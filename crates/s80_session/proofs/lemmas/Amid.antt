-- A session amid its work, and what a crash now leaves of it.
use Rattle.std.proofs.Common.{◌≡◌, sym, subst}
use Rattle.s80_disk.specs.Image.{Image}
use Rattle.s80_disk.specs.Shown.{Shown}
use Rattle.s80_keeper.specs.Standing.{FilesStandFor, StandsFor}
use Rattle.s80_model.specs.Replies.{Work}
use Rattle.s80_session.specs.declared.session.Session.{Session}
use Rattle.s80_session.specs.Session.{keeper_of}
use Rattle.s80_session.specs.Working.{Ground, IsAmid}
use Rattle.s80_session.proofs.lemmas.Keeping.{keeps_leaves, keeps_less, keeps_stands}

-- the disk stands for the list that is kept
pub amid_stands : (may_leave : Image → Type 0) (o : Shown) (session : Session) (work : Work) (basis : Ground) → IsAmid may_leave o session work basis → StandsFor o.tells o.files may_leave basis.kept
amid_stands may_leave o session work basis h = keeps_stands o.tells o.files may_leave (keeper_of session) basis.kept h.keeps

pub amid_leaves : (may_leave : Image → Type 0) (o : Shown) (session : Session) (work : Work) (basis : Ground) → IsAmid may_leave o session work basis → (c : Image) → may_leave c → FilesStandFor c basis.kept
amid_leaves may_leave o session work basis h = keeps_leaves o.tells o.files may_leave (keeper_of session) basis.kept h.keeps

-- taking input leaves what the disk stands for, and what was put
pub amid_later : (was_left may_leave : Image → Type 0) (mid now : Shown) (session : Session) (work : Work) (basis : Ground) → now ≡ record mid { left = now.left } → ((c : Image) → may_leave c → was_left c) → IsAmid was_left mid session work basis → IsAmid may_leave now session work basis
amid_later was_left may_leave mid now session work basis same fewer h =
    let P : Shown → Type 0 = λ o. IsAmid may_leave o session work basis in
    subst P (sym same) (record {
      keeps = keeps_less mid.tells mid.files may_leave (keeper_of session) basis.kept was_left fewer h.keeps;
      section = h.section;
      brief = h.brief;
      budget = h.budget;
      kept_versions = h.kept_versions;
      moment = h.moment;
      taken = h.taken;
      told = h.told;
      held = h.held;
    })
