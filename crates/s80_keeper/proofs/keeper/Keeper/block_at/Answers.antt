use Rattle.std.proofs.Common.{◌≡◌, ◌≤◌, Ok, drop, subst}
use Rattle.s80_change.specs.Blocks.{BeginsWith, BeginsWithNone}
use Rattle.s80_log.specs.Faults.{IfBad}
use Rattle.s80_log.specs.Log.{held_in}
use Rattle.s80_log.specs.declared.read.BlockFault.{BlockFault}
use Rattle.s80_keeper.specs.Keeper.{KeeperState}
use Rattle.s80_keeper.proofs.BlockRead.{begins, goes_on, this_block}
use Rattle.s80_keeper.proofs.OneList.{block_length}
use Rattle.s80_keeper.proofs.keeper.Keeper.block_at.Goals as goal

-- ---- a block begins there

pub returns-in-Ok-clause-read : goal.returns-in-Ok-clause-read
returns-in-Ok-clause-read g c = λ told.
    let reads = g.D.Disk.reads c.args.disk.now in
    let Begins : KeeperState → Type 0 = λ k. BeginsWith (drop c.args.at (held_in reads k.log)) c.in-Ok.found.0 in
    (subst Begins c.self.view_is (c.in-Ok.ensures.begins told), c.in-Ok.ensures.next.1)

pub returns-in-Ok-clause-block : goal.returns-in-Ok-clause-block
returns-in-Ok-clause-block g c = λ told before behind change knows here.
    let log = held_in (g.D.Disk.reads c.args.disk.now) c.args.self.now.log in
    this_block log c.args.at before behind change knows.lawful knows.log here (Ok c.in-Ok.found) (returns-in-Ok-clause-read g c told)

pub returns-in-Ok-clause-next : goal.returns-in-Ok-clause-next
returns-in-Ok-clause-next g c =
    let Within : KeeperState → Type 0 = λ k. c.in-Ok.found.1 ≤ k.log.end in
    (goes_on c.args.at c.in-Ok.found.1 c.in-Ok.found.0 c.in-Ok.ensures.next.1 (block_length c.in-Ok.found.0), subst Within c.self.view_is c.in-Ok.ensures.next.2)

-- ---- none begins there

pub returns-in-Err-Bad-clause-read : goal.returns-in-Err-Bad-clause-read
returns-in-Err-Bad-clause-read g c = λ told.
    let reads = g.D.Disk.reads c.args.disk.now in
    let Here : BlockFault → Type 0 = λ fault. IfBad fault (λ place. place ≡ c.args.at) in
    let None : BlockFault → Type 0 = λ fault. IfBad fault (λ place. BeginsWithNone (drop c.args.at (held_in reads c.self.inside.log))) in
    let Begins : KeeperState → Type 0 = λ k. BeginsWithNone (drop c.args.at (held_in reads k.log)) in
    (subst Here c.in-Err-Bad.field-0-is c.in-Err-Bad.ensures.bad, subst Begins c.self.view_is (subst None c.in-Err-Bad.field-0-is (c.in-Err-Bad.ensures.none told)))

pub returns-in-Err-Bad-clause-block : goal.returns-in-Err-Bad-clause-block
returns-in-Err-Bad-clause-block g c = λ told before behind change knows here.
    let log = held_in (g.D.Disk.reads c.args.disk.now) c.args.self.now.log in
    (returns-in-Err-Bad-clause-read g c told).1 change (begins log c.args.at before behind change knows.lawful knows.log here)
