use Rattle.std.proofs.Common.{◌≡◌, List, ap, sym, subst}
use Rattle.std.proofs.lemmas.Result.{IfOk-weaker}
use Rattle.s80_apply.specs.List.{state_of}
use Rattle.s80_apply.specs.System.{IsSystemOf, SystemState}
use Rattle.s80_change.specs.declared.change.Change.{Change}
use Rattle.s80_fileout.specs.Condensed.{canon}
use Rattle.s80_keeper.specs.Condensing.{MakesAgain}
use Rattle.s80_keeper.specs.Keeper.{KeeperState}
use Rattle.s80_keeper.proofs.keeper.Keeper.canon_of.Goals as goal

pub returns-clause-folds : goal.returns-clause-folds
returns-clause-folds c = λ changes is.
    let law = c.the_shortest_list_folds_back.ensures in
    let again : MakesAgain changes (canon (state_of changes)) = record { accepted = law.accepted changes; state = law.state changes; set = law.set changes } in
    let P : List Change → Type 0 = MakesAgain changes in
    let Q : SystemState → Type 0 = λ s. IsSystemOf s (state_of changes) in
    let inside = subst Q (sym (ap (λ (k : KeeperState). k.system) c.self.view_is)) is in
    IfOk-weaker c.canon.result (λ list. list ≡ canon (state_of changes)) P (λ list same. subst P (sym same) again) (c.canon.ensures (state_of changes) inside)
