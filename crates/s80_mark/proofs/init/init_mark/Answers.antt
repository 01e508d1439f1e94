use Rattle.std.proofs.Common.{ap, ◌∙◌}
use Rattle.s80_disk.specs.declared.disk.FileId.TheVariants.{Mark, Log0, Log1}
use Rattle.s80_disk.specs.Moments.{Beside, ComesFrom, LeavesOnly}
use Rattle.s80_disk.proofs.lemmas.Run.{weaker, joined}
use Rattle.s80_mark.specs.Stays.{Anything}
use Rattle.s80_mark.specs.Init.{EmptyLogs, StaysEmpty, SyncsFirst, StaysWithout}
use Rattle.s80_mark.proofs.First.{stay_empty, syncs_still, syncs_on, stays_without}
use Rattle.s80_mark.proofs.Images.{comes_later, comes_still}
use Rattle.s80_mark.proofs.init.init_mark.Goals as goal
use Rattle.s80_mark.proofs.init.init_mark.Goals.{After-write_first}

run : (g : _) (c : After-write_first g) → LeavesOnly g.D.Disk.moment g.D.Disk.left_since c.args.disk.now c.write_first.new.disk (ComesFrom (g.D.Disk.may_leave c.args.disk.now) (g.D.Disk.beside c.args.disk.now).told Mark Anything)
run g c =
    let D = g.D.Disk in
    let d = c.args.disk.now in
    let mid = c.sync_logs.new.disk in
    let synced = c.sync_logs.ensures.untouched in
    let P = ComesFrom (D.may_leave d) (D.beside d).told Mark Anything in
    joined D.moment D.left_since d mid c.write_first.new.disk P _
    (weaker D.moment D.left_since d mid _ P synced.any_moment (comes_still Mark (D.may_leave d) (D.beside d).told))
    c.write_first.ensures.any_moment
    (comes_later Mark Anything (D.may_leave d) (D.may_leave mid) (D.beside d).told (D.beside mid).told (ap (λ (b : Beside). b.told) synced.rest) synced.crash)

pub returns-in_err-write_first-clause-any_moment : goal.returns-in_err-write_first-clause-any_moment
returns-in_err-write_first-clause-any_moment g c = run g (goal.at.returns-in_err-write_first-clause-any_moment g c).After-write_first

pub returns-clause-any_moment : goal.returns-clause-any_moment
returns-clause-any_moment g c = run g (goal.at.returns-clause-any_moment g c).After-write_first

-- the run leaves empty logs empty
stays : (g : _) (c : After-write_first g) → EmptyLogs (g.D.Disk.may_leave c.args.disk.now) → LeavesOnly g.D.Disk.moment g.D.Disk.left_since c.args.disk.now c.write_first.new.disk (StaysEmpty (g.D.Disk.beside c.args.disk.now).told)
stays g c empty =
    let D = g.D.Disk in
    let d = c.args.disk.now in
    weaker D.moment D.left_since d c.write_first.new.disk _ (StaysEmpty (D.beside d).told) (run g c) (stay_empty (D.may_leave d) (D.beside d).told empty.log0 empty.log1)

pub returns-in_err-write_first-clause-stays_empty : goal.returns-in_err-write_first-clause-stays_empty
returns-in_err-write_first-clause-stays_empty g c = stays g (goal.at.returns-in_err-write_first-clause-stays_empty g c).After-write_first

pub returns-clause-stays_empty : goal.returns-clause-stays_empty
returns-clause-stays_empty g c = stays g (goal.at.returns-clause-stays_empty g c).After-write_first

-- nothing changes before both logs are on the disk
synced : (g : _) (c : After-write_first g) → LeavesOnly g.D.Disk.moment g.D.Disk.left_since c.args.disk.now c.write_first.new.disk (SyncsFirst (g.D.Disk.reads c.args.disk.now) (g.D.Disk.may_leave c.args.disk.now) (g.D.Disk.beside c.args.disk.now).told)
synced g c =
    let D = g.D.Disk in
    let d = c.args.disk.now in
    let mid = c.sync_logs.new.disk in
    let logs = c.sync_logs.ensures.untouched in
    let P = SyncsFirst (D.reads d) (D.may_leave d) (D.beside d).told in
    joined D.moment D.left_since d mid c.write_first.new.disk P _
    (weaker D.moment D.left_since d mid _ P logs.any_moment (syncs_still (D.reads d) (D.may_leave d) (D.beside d).told))
    c.write_first.ensures.any_moment
    (syncs_on (D.reads d) (D.may_leave d) (D.beside d).told (D.may_leave mid) (D.beside mid).told (ap (λ (b : Beside). b.told) logs.rest) (λ image left. c.in_ok-sync_logs.ensures.log0 image left ∙ logs.same Log0) (λ image left. c.in_ok-sync_logs.ensures.log1 image left ∙ logs.same Log1))

pub returns-in_err-write_first-clause-synced_first : goal.returns-in_err-write_first-clause-synced_first
returns-in_err-write_first-clause-synced_first g c = synced g (goal.at.returns-in_err-write_first-clause-synced_first g c).After-write_first

pub returns-clause-synced_first : goal.returns-clause-synced_first
returns-clause-synced_first g c = synced g (goal.at.returns-clause-synced_first g c).After-write_first

pub returns-in_err-sync_logs-clause-synced_first : goal.returns-in_err-sync_logs-clause-synced_first
returns-in_err-sync_logs-clause-synced_first g c =
    let D = g.D.Disk in
    let d = c.args.disk.now in
    weaker D.moment D.left_since d c.sync_logs.new.disk _ (SyncsFirst (D.reads d) (D.may_leave d) (D.beside d).told) c.sync_logs.ensures.untouched.any_moment (syncs_still (D.reads d) (D.may_leave d) (D.beside d).told)

pub returns-in_err-write_first-clause-stays_without : goal.returns-in_err-write_first-clause-stays_without
returns-in_err-write_first-clause-stays_without g c tells empty nothing =
    let D = g.D.Disk in
    let d = c.args.disk.now in
    weaker D.moment D.left_since d _ _ (StaysWithout (D.beside d).told) (returns-in_err-write_first-clause-synced_first g c) (stays_without (D.reads d) (D.may_leave d) (D.beside d).told empty nothing)

pub returns-clause-stays_without : goal.returns-clause-stays_without
returns-clause-stays_without g c tells empty nothing =
    let D = g.D.Disk in
    let d = c.args.disk.now in
    weaker D.moment D.left_since d _ _ (StaysWithout (D.beside d).told) (returns-clause-synced_first g c) (stays_without (D.reads d) (D.may_leave d) (D.beside d).told empty nothing)

pub returns-in_err-sync_logs-clause-stays_without : goal.returns-in_err-sync_logs-clause-stays_without
returns-in_err-sync_logs-clause-stays_without g c tells empty nothing =
    let D = g.D.Disk in
    let d = c.args.disk.now in
    weaker D.moment D.left_since d _ _ (StaysWithout (D.beside d).told) (returns-in_err-sync_logs-clause-synced_first g c) (stays_without (D.reads d) (D.may_leave d) (D.beside d).told empty nothing)
