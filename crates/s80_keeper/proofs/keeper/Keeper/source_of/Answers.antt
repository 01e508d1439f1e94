use Rattle.std.proofs.Common.{◌≡◌, ◌∙◌, Ok, Err, option_map, sym, ap, subst}
use Rattle.std.specs.FinMap as map
use Rattle.std.specs.Option.{option_copied}
use Rattle.s80_dict.specs.Table.{methods_at, dict_at}
use Rattle.s80_apply.specs.Placed.{PlacedRow}
use Rattle.s80_apply.specs.State.{MethodRow}
use Rattle.s80_apply.specs.Source.{StandsAt}
use Rattle.s80_apply.specs.List.{state_of}
use Rattle.s80_log.specs.Log.{held_in}
use Rattle.s80_log.specs.Faults.{IfBad}
use Rattle.s80_log.specs.declared.read.BlockFault.{BlockFault}
use Rattle.s80_keeper.specs.declared.start.Damage.TheVariants.{BadBlock}
use Rattle.s80_keeper.specs.Keeper.{KeeperState}
use Rattle.s80_keeper.specs.Source.{IsThis}
use Rattle.s80_keeper.proofs.Sourced.{answered, no_source, source_is}
use Rattle.s80_keeper.proofs.keeper.Keeper.source_of.Goals as goal
use Rattle.s80_keeper.proofs.keeper.Keeper.source_of.Goals.{After-get}

-- the dictionary is that of the keeper's methods
same : (g : _) (c : After-get g) → map.get c.dict.result.now.methods c.args.selector.now ≡ map.get (methods_at c.args.self.now.system.methods c.args.class c.args.side) c.args.selector.now
same g c = ap (λ d. map.get d.methods c.args.selector.now) (c.dict.ensures ∙ ap (λ t. dict_at t c.args.class c.args.side) (c.methods.ensures.methods ∙ ap (λ (k : KeeperState). k.system.methods) c.self.view_is))

-- where its source stands in the keeper's log, it does so in the code's
stands : (g : _) (c : After-get g) (row : PlacedRow) → StandsAt (held_in (g.D.Disk.reads c.args.disk.now) c.args.self.now.log) row → StandsAt (held_in (g.D.Disk.reads c.args.disk.now) c.self.inside.log) row
stands g c row is = subst (λ (k : KeeperState). StandsAt (held_in (g.D.Disk.reads c.args.disk.now) k.log) row) (sym c.self.view_is) is

pub returns-in_default-get-clause-source : goal.returns-in_default-get-clause-source
returns-in_default-get-clause-source g c = λ told changes knows name named.
    let run = (goal.at.returns-in_default-get-clause-source g c).After-get in
    no_source (g.D.Disk.reads c.args.disk.now) c.args.self.now changes knows c.args.class name c.args.side c.args.selector.now named (sym (c.get.ensures.value ∙ same g run) ∙ ap option_copied c.in_default-get.is)

pub returns-in-Ok-clause-source : goal.returns-in-Ok-clause-source
returns-in-Ok-clause-source g c = λ told changes knows name named.
    let run = (goal.at.returns-in-Ok-clause-source g c).After-get in
    source_is (g.D.Disk.reads c.args.disk.now) c.args.self.now changes knows c.args.class name c.args.side c.args.selector.now named (c.sources_stand.ensures changes) c.in-Some-get.entry.now (sym (c.in-Some-get.ensures.value ∙ same g run)) (Ok c.in-Ok.source)
    (λ row is own. c.in-Ok.ensures.stands told row (stands g run row is) own)

pub returns-in-Err-Bad-clause-source : goal.returns-in-Err-Bad-clause-source
returns-in-Err-Bad-clause-source g c = λ told changes knows name named.
    let run = (goal.at.returns-in-Err-Bad-clause-source g c).After-get in
    let source = option_map (λ (row : MethodRow). row.source) (map.get ((state_of changes).methods name c.args.side) c.args.selector.now) in
    let is = source_is (g.D.Disk.reads c.args.disk.now) c.args.self.now changes knows c.args.class name c.args.side c.args.selector.now named (c.sources_stand.ensures changes) c.in-Some-get.entry.now (sym (c.in-Some-get.ensures.value ∙ same g run)) (Err c.in-Err-Bad.field-0)
    (λ row is own. c.in-Err-Bad.ensures.stands told row (stands g run row is) own) in
    subst (λ fault. IsThis source (answered (Err fault))) c.in-Err-Bad.field-0-is is

pub returns-in-Err-Bad-clause-placed : goal.returns-in-Err-Bad-clause-placed
returns-in-Err-Bad-clause-placed g c =
    let run = (goal.at.returns-in-Err-Bad-clause-placed g c).After-get in
    let entry = c.in-Some-get.entry.now in
    let P : BlockFault → Type 0 = λ fault. IfBad fault (λ place. place ≡ entry.position) in
    (entry, sym (c.in-Some-get.ensures.value ∙ same g run), ap BadBlock (subst P c.in-Err-Bad.field-0-is c.in-Err-Bad.ensures.bad))
