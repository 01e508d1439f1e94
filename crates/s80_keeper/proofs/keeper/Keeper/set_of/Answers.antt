use Rattle.std.proofs.Common.{◌≡◌, List, ℕ, ap, subst, ◌∙◌}
use Rattle.s80_change.specs.Block.{blocks}
use Rattle.s80_history.specs.History.{set_places}
use Rattle.s80_history.specs.Lists.{set_of}
use Rattle.s80_keeper.specs.ChangesAt.{ArePlaced}
use Rattle.s80_keeper.specs.Keeper.{KeeperState}
use Rattle.s80_keeper.proofs.ChangesPlaced.{set_begins}
use Rattle.s80_keeper.proofs.ChangesRead.{read_these}
use Rattle.s80_keeper.proofs.Histories.{set_stands}
use Rattle.s80_keeper.proofs.keeper.Keeper.set_of.Goals as goal
use Rattle.s80_keeper.proofs.keeper.Keeper.set_of.Goals.{After-changes_at}

-- the places that are read are those of the keeper's history
places_are : (g : _) (c : After-changes_at g) → c.deref.result.now ≡ set_places c.args.self.now.history
places_are g c = c.deref.ensures.value ∙ c.in_ok-places.ensures ∙ ap (λ (k : KeeperState). set_places k.history) c.self.view_is

pub returns-clause-placed : goal.returns-clause-placed
returns-clause-placed g c =
    let P : List ℕ → Type 0 = λ places. ArePlaced places c.changes_at.result in
    subst P (places_are g (goal.at.returns-clause-placed g c).After-changes_at) c.changes_at.ensures.placed

pub returns-clause-set : goal.returns-clause-set
returns-clause-set g c = λ told changes knows.
    let there = places_are g (goal.at.returns-clause-set g c).After-changes_at ∙ set_stands c.args.self.now.history changes knows.history in
    read_these (blocks changes) _ c.deref.result.now (set_of changes) c.changes_at.result knows.log there (set_begins changes knows.lawful) (c.changes_at.ensures.read told)
