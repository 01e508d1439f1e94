use Rattle.std.proofs.Common.{◌≡◌, List, ℕ, ap, subst, ◌∙◌}
use Rattle.s80_change.specs.Block.{blocks}
use Rattle.s80_history.specs.History.{version_places}
use Rattle.s80_history.specs.Lists.{MethodName, versions_of}
use Rattle.s80_keeper.specs.ChangesAt.{ArePlaced}
use Rattle.s80_keeper.specs.Keeper.{KeeperState}
use Rattle.s80_keeper.proofs.ChangesPlaced.{versions_begin}
use Rattle.s80_keeper.proofs.ChangesRead.{read_these}
use Rattle.s80_keeper.proofs.keeper.Keeper.versions_of.Goals as goal
use Rattle.s80_keeper.proofs.keeper.Keeper.versions_of.Goals.{After-changes_at}

-- the method whose versions are asked for
abbrev name : (g : _) (c : After-changes_at g) → MethodName
name g c = record { class_name = c.args.class_name.now; side = c.args.side; selector = c.args.selector.now }

-- the places that are read are those of the keeper's history
places_are : (g : _) (c : After-changes_at g) → c.deref.result.now ≡ version_places c.args.self.now.history (name g c)
places_are g c = c.deref.ensures.value ∙ c.in_ok-places.ensures ∙ ap (λ (k : KeeperState). version_places k.history (name g c)) c.self.view_is

pub returns-clause-placed : goal.returns-clause-placed
returns-clause-placed g c =
    let P : List ℕ → Type 0 = λ places. ArePlaced places c.changes_at.result in
    subst P (places_are g (goal.at.returns-clause-placed g c).After-changes_at) c.changes_at.ensures.placed

pub returns-clause-versions : goal.returns-clause-versions
returns-clause-versions g c = λ told changes knows.
    let run = (goal.at.returns-clause-versions g c).After-changes_at in
    let there = places_are g run ∙ knows.history.versions (name g run) in
    read_these (blocks changes) _ c.deref.result.now (versions_of changes (name g run)) c.changes_at.result knows.log there (versions_begin changes knows.lawful (name g run)) (c.changes_at.ensures.read told)
