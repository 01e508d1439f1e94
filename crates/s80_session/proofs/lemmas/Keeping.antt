-- A keeper at work on a disk, and what a crash now leaves of it.
use Rattle.std.proofs.Common.{◌≡◌, inr, List, [], ◌∷◌, ◌++◌, Bool, sym, subst}
use Rattle.s80_change.specs.declared.change.Change.{Change}
use Rattle.s80_disk.specs.Image.{Image}
use Rattle.s80_apply.specs.List.{AreAccepted, IsBuilt, state_after, state_of}
use Rattle.s80_apply.specs.Placed.{placed_of}
use Rattle.s80_apply.specs.State.{State, kernel_state}
use Rattle.s80_apply.specs.System.{HasPlaces, IsSystemOf}
use Rattle.s80_history.specs.History.{IsHistoryOf}
use Rattle.s80_log.specs.Commit.{Holds}
use Rattle.s80_keeper.specs.Keeper.{KeeperState, Keeps, Knows}
use Rattle.s80_keeper.specs.Standing.{FilesStandFor, StandsFor}
use Rattle.s80_keeper.proofs.lemmas.Standing.{stands_leaves}

-- the front of a list that is built is so
front_accepted : (state : State) (kept pending : List Change) → AreAccepted state (kept ++ pending) → AreAccepted state kept
front_accepted state [] pending accepted = tt
front_accepted state (change ∷ kept) pending accepted = (accepted.0, front_accepted (state_after change state) kept pending accepted.1)

module _ (tells : Bool) (reads : Image) (may_leave : Image → Type 0) (keeper : KeeperState) (kept : List Change) {all : List Change} where
  holds_less : (was : Image → Type 0) → ((c : Image) → may_leave c → was c) → Holds tells reads was keeper.log keeper.mark kept all → Holds tells reads may_leave keeper.log keeper.mark kept all
  holds_less was less h = record {
    stands = record { told = h.stands.told; files = h.stands.files; mark_stays = λ c left. h.stands.mark_stays c (less c left); log_stays = λ c left. h.stands.log_stays c (less c left) };
    named = h.named;
    ahead = h.ahead;
    list = h.list;
    whole = h.whole;
    bytes = h.bytes;
  }

  -- the same where a crash leaves no more
  pub keeps_less : (was : Image → Type 0) → ((c : Image) → may_leave c → was c) → Keeps tells reads was keeper kept all → Keeps tells reads may_leave keeper kept all
  keeps_less was less h = record {
    holds = holds_less was less h.holds;
    front = h.front;
    image = record { has = h.image.has; stays = λ named c left. h.image.stays named c (less c left) };
    built = h.built;
    system = h.system;
    places = h.places;
    history = h.history;
    count = h.count;
    faultless = h.faultless;
  }

  -- and where a keeper has prepared a change
  pub keeps_prepared : (now : KeeperState) → now ≡ record keeper { system = now.system; history = now.history } → IsSystemOf now.system (state_of all) → HasPlaces now.system (placed_of all) → IsHistoryOf now.history all → Keeps tells reads may_leave keeper kept all → Keeps tells reads may_leave now kept all
  keeps_prepared now same system places history h =
      let P : KeeperState → Type 0 = λ k. Keeps tells reads may_leave k kept all in
      subst P (sym same) (record {
        holds = h.holds;
        front = h.front;
        image = h.image;
        built = h.built;
        system = system;
        places = places;
        history = history;
        count = h.count;
        faultless = h.faultless;
      })

  -- the disk stands for what is kept
  pub keeps_stands : Keeps tells reads may_leave keeper kept all → StandsFor tells reads may_leave kept
  keeps_stands h = record { told = h.holds.stands.told; stands = inr (keeper.mark, h.holds.stands, h.image, front_accepted kernel_state kept h.front.0 (subst IsBuilt h.front.1 h.built)) }

  -- the keeper's log is that of all changes
  pub keeps_knows : Keeps tells reads may_leave keeper kept all → Knows reads keeper all
  keeps_knows h = record {
    log = h.holds.bytes;
    lawful = h.holds.list.lawful;
    system = h.system;
    places = h.places;
    history = h.history;
    count = h.count;
  }

  -- every crash now leaves files that stand for what is kept
  pub keeps_leaves : Keeps tells reads may_leave keeper kept all → (c : Image) → may_leave c → FilesStandFor c kept
  keeps_leaves h = stands_leaves tells reads may_leave kept (keeps_stands h)
