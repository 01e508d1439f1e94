use Rattle.std.proofs.Common.{◌≡◌, ◌-◌, ◌<◌, IsTrue, List, None, Err, sym, ap, ◌∙◌, subst}
use Rattle.std.proofs.lemmas.Result.{err_from_is_err_and}
use Rattle.std.specs.List.{All}
use Rattle.s80_change.specs.declared.change.Change.{Change}
use Rattle.s80_change.specs.Block.{IsLawful, IsList, log_limit}
use Rattle.s80_disk.specs.Moments.{Beside, LeavesOnly}
use Rattle.s80_disk.specs.Untouched.{IsUntouched}
use Rattle.s80_apply.specs.List.{IsBuilt}
use Rattle.s80_fileout.specs.Condensed.{kept}
use Rattle.s80_log.specs.Log.{log_file}
use Rattle.s80_keeper.specs.Condensing.{AfterCondensing, Condensed, IfReplaced}
use Rattle.s80_keeper.specs.Keeper.{KeeperState, Keeps, Knows, pending_of}
use Rattle.s80_keeper.specs.Renewing.{HasWritten, IsElsewhere}
use Rattle.s80_keeper.specs.Source.{after_reading}
use Rattle.s80_keeper.specs.Standing.{LeavesEither}
use Rattle.s80_keeper.proofs.ChangesRead.{left_so}
use Rattle.s80_keeper.proofs.Condensed.{after_unfit, condensed_unfit, condensed_unread, folds_back, keeps_read, knows_kept, never_closed, none_pends, open_closed, open_full, read_either, read_then_either, unfit_full, unfit_offline, unfit_open}
use Rattle.s80_keeper.proofs.Elsewhere.{elsewhere_read, elsewhere_then}
use Rattle.s80_keeper.proofs.Renewed.{open_so}
use Rattle.s80_keeper.proofs.Written.{unfit_replaced, unread_replaced, written_replaced}
use Rattle.s80_keeper.proofs.keeper.Keeper.condense.Goals as goal
use Rattle.s80_keeper.proofs.keeper.Keeper.condense.Goals.{After-condensed, After-replace_by, In_ok-changes}

module _ (g : _) (c : After-condensed g) where
  -- files were read alone until then
  abbrev IsReadAlone : g.row.D.Denot → Type 0
  IsReadAlone disk = IsUntouched g.D.Disk.tells g.D.Disk.reads g.D.Disk.may_leave g.D.Disk.moment g.D.Disk.left_since g.D.Disk.beside g.D.Disk.disk_faults c.args.disk.now disk

  -- the disk hadn't failed
  none : c.args.self.now.fault ≡ None
  none = sym (ap (λ (k : KeeperState). k.fault) c.self.view_is) ∙ c.in_default.is

  -- whatever the disk stands for, it is read alone
  reads_on : IsElsewhere g.D.Disk.tells g.D.Disk.reads g.D.Disk.may_leave g.D.Disk.moment g.D.Disk.left_since g.D.Disk.beside g.D.Disk.disk_faults (log_file (1 - c.args.self.now.log.number)) c.args.disk.now c.condensed.new.disk
  reads_on =
      let D = g.D.Disk in
      elsewhere_read D.tells D.reads D.may_leave D.moment D.left_since D.beside D.disk_faults (log_file (1 - c.args.self.now.log.number)) c.args.disk.now c.condensed.new.disk c.condensed.ensures.untouched

  module _ (changes : List Change) (keeps : Keeps (g.D.Disk.tells c.args.disk.now) (g.D.Disk.reads c.args.disk.now) (g.D.Disk.may_leave c.args.disk.now) c.args.self.now changes changes) where
    -- its list is kept yet
    still : Keeps (g.D.Disk.tells c.condensed.new.disk) (g.D.Disk.reads c.condensed.new.disk) (g.D.Disk.may_leave c.condensed.new.disk) c.args.self.now changes changes
    still =
        let D = g.D.Disk in
        let d = c.args.disk.now in
        let mid = c.condensed.new.disk in
        let after = c.condensed.ensures.untouched in
        keeps_read (D.tells d) (D.tells mid) (D.reads d) (D.reads mid) (D.may_leave d) (D.may_leave mid) after.telling after.same after.crash c.args.self.now changes changes keeps

    run : LeavesOnly g.D.Disk.moment g.D.Disk.left_since c.args.disk.now c.condensed.new.disk (LeavesEither (g.D.Disk.beside c.args.disk.now).told changes (kept changes c.args.keep))
    run =
        let D = g.D.Disk in
        let d = c.args.disk.now in
        read_either D.moment D.left_since d c.condensed.new.disk (D.may_leave d) (D.beside d).told (D.tells d) (D.reads d) c.args.self.now changes (kept changes c.args.keep) keeps c.condensed.ensures.untouched.any_moment

pub condensed-requires-clause-open : goal.condensed-requires-clause-open
condensed-requires-clause-open g c = sym (ap (λ (k : KeeperState). k.fault) c.self.view_is) ∙ c.in_default.is

-- ---- where the disk had failed
pub returns-in-Some-clause-folds : goal.returns-in-Some-clause-folds
returns-in-Some-clause-folds g c = λ changes built.
    let law = c.the_list_with_versions_folds_back.ensures in
    folds_back changes c.args.keep c.requires.keep built law.accepted law.state law.set law.versions

-- ---- where the new list isn't read

pub returns-in_err-changes-clause-folds : goal.returns-in_err-changes-clause-folds
returns-in_err-changes-clause-folds g c = λ changes built.
    let law = c.the_list_with_versions_folds_back.ensures in
    folds_back changes c.args.keep c.requires.keep built law.accepted law.state law.set law.versions

pub returns-in_err-changes-clause-after : goal.returns-in_err-changes-clause-after
returns-in_err-changes-clause-after g c =
    let fault = c.in_err-changes.field-0.0 in
    let p = err_from_is_err_and c.from_residual.result c.from_residual.ensures.1 in
    rw (p.1, p.2) (◌∙◌ {b = after_reading {T = List Change} (Err fault) c.args.self.now} c.in_err-changes.ensures.after (left_so (List Change) (Unit {0}) fault c.args.self.now))

pub returns-in_err-changes-clause-any_moment : goal.returns-in_err-changes-clause-any_moment
returns-in_err-changes-clause-any_moment g c = run g (goal.at.returns-in_err-changes-clause-any_moment g c).After-condensed

pub returns-in_err-changes-clause-condensed : goal.returns-in_err-changes-clause-condensed
returns-in_err-changes-clause-condensed g c = λ changes keeps.
    let D = g.D.Disk in
    let d = c.args.disk.now in
    let mid = c.condensed.new.disk in
    let at = (goal.at.returns-in_err-changes-clause-condensed g c).After-condensed in
    let fault = c.in_err-changes.field-0.0 in
    let done = c.in_err-changes.ensures in
    let told = keeps.holds.stands.told in
    let p = err_from_is_err_and c.from_residual.result c.from_residual.ensures.1 in
    rw (p.1, p.2) (condensed_unread fault (D.tells mid) (D.reads mid) (D.may_leave mid) c.args.self.now c.condensed.new.self changes (kept changes c.args.keep) (done.list told changes (knows_kept (D.tells d) (D.reads d) (D.may_leave d) c.args.self.now changes keeps)) done.open done.after (still g at changes keeps))

pub returns-in_err-changes-clause-closed : goal.returns-in_err-changes-clause-closed
returns-in_err-changes-clause-closed g c = λ failed.
    let at = (goal.at.returns-in_err-changes-clause-closed g c).After-condensed in
    let fault = c.in_err-changes.field-0.0 in
    let p = err_from_is_err_and c.from_residual.result c.from_residual.ensures.1 in
    rw (p.1, p.2) (never_closed (Unit {0}) (Err fault) c.args.self.now.fault failed (none g at) (open_closed (Unit {0}) (Err fault) failed (open_so (List Change) (Unit {0}) fault c.in_err-changes.ensures.open)))

pub returns-in_err-changes-clause-uncalled : goal.returns-in_err-changes-clause-uncalled
returns-in_err-changes-clause-uncalled g c = λ failed. absurd (failed (none g (goal.at.returns-in_err-changes-clause-uncalled g c).After-condensed))

pub returns-in_err-changes-clause-full : goal.returns-in_err-changes-clause-full
returns-in_err-changes-clause-full g c =
    let fault = c.in_err-changes.field-0.0 in
    let p = err_from_is_err_and c.from_residual.result c.from_residual.ensures.1 in
    rw (p.1, p.2) (open_full {T = Unit {0}} (Err fault) (λ count. (log_limit < count) × IsReadAlone g (goal.at.returns-in_err-changes-clause-full g c).After-condensed c.condensed.new.disk) (open_so (List Change) (Unit {0}) fault c.in_err-changes.ensures.open))

pub returns-in_err-changes-clause-elsewhere : goal.returns-in_err-changes-clause-elsewhere
returns-in_err-changes-clause-elsewhere g c = (reads_on g (goal.at.returns-in_err-changes-clause-elsewhere g c).After-condensed).any_moment

pub returns-in_err-changes-clause-others : goal.returns-in_err-changes-clause-others
returns-in_err-changes-clause-others g c = (reads_on g (goal.at.returns-in_err-changes-clause-others g c).After-condensed).others

pub returns-in_err-changes-clause-known : goal.returns-in_err-changes-clause-known
returns-in_err-changes-clause-known g c = λ told changes built knows.
    let D = g.D.Disk in
    let new = c.condensed.new.disk in
    let short = kept changes c.args.keep in
    let p = err_from_is_err_and c.from_residual.result c.from_residual.ensures.1 in
    rw (p.1, p.2) (unread_replaced (List Change) (Unit {0}) c.in_err-changes.field-0.0 short (HasWritten (D.tells new) (D.reads new) c.condensed.new.self short) (c.in_err-changes.ensures.list told changes knows))

-- ---- where it is too long, or isn't measured

pub returns-in_err-check_length-clause-folds : goal.returns-in_err-check_length-clause-folds
returns-in_err-check_length-clause-folds g c = λ changes built.
    let law = c.the_list_with_versions_folds_back.ensures in
    folds_back changes c.args.keep c.requires.keep built law.accepted law.state law.set law.versions

pub returns-in_err-check_length-clause-after : goal.returns-in_err-check_length-clause-after
returns-in_err-check_length-clause-after g c =
    let p = err_from_is_err_and c.from_residual-in_err-check_length.result c.from_residual-in_err-check_length.ensures.1 in
    rw (p.1, p.2) (after_unfit c.in_err-check_length.field-0.0 c.in_ok-changes.changes c.args.self.now c.condensed.new.self c.in_err-check_length.ensures c.in_ok-changes.ensures.after)

pub returns-in_err-check_length-clause-any_moment : goal.returns-in_err-check_length-clause-any_moment
returns-in_err-check_length-clause-any_moment g c = run g (goal.at.returns-in_err-check_length-clause-any_moment g c).After-condensed

pub returns-in_err-check_length-clause-condensed : goal.returns-in_err-check_length-clause-condensed
returns-in_err-check_length-clause-condensed g c = λ changes keeps.
    let D = g.D.Disk in
    let d = c.args.disk.now in
    let mid = c.condensed.new.disk in
    let at = (goal.at.returns-in_err-check_length-clause-condensed g c).After-condensed in
    let fault = c.in_err-check_length.field-0.0 in
    let these = c.in_ok-changes.ensures.list keeps.holds.stands.told changes (knows_kept (D.tells d) (D.reads d) (D.may_leave d) c.args.self.now changes keeps) in
    let Now : KeeperState → Type 0 = λ k. Keeps (D.tells mid) (D.reads mid) (D.may_leave mid) k changes changes in
    let Short : List Change → Type 0 = λ short. Condensed (Err fault) (D.tells mid) (D.reads mid) (D.may_leave mid) c.condensed.new.self changes short in
    let p = err_from_is_err_and c.from_residual-in_err-check_length.result c.from_residual-in_err-check_length.ensures.1 in
    rw (p.1, p.2) (subst Short {x = c.in_ok-changes.changes} these (condensed_unfit fault (D.tells mid) (D.reads mid) (D.may_leave mid) c.condensed.new.self changes c.in_ok-changes.changes c.in_err-check_length.ensures (subst Now {x = c.args.self.now} (sym {a = c.condensed.new.self} {b = c.args.self.now} c.in_ok-changes.ensures.after) (still g at changes keeps))))

pub returns-in_err-check_length-clause-closed : goal.returns-in_err-check_length-clause-closed
returns-in_err-check_length-clause-closed g c = λ failed.
    let at = (goal.at.returns-in_err-check_length-clause-closed g c).After-condensed in
    let fault = c.in_err-check_length.field-0.0 in
    let p = err_from_is_err_and c.from_residual-in_err-check_length.result c.from_residual-in_err-check_length.ensures.1 in
    rw (p.1, p.2) (never_closed (Unit {0}) (Err fault) c.args.self.now.fault failed (none g at) (λ closed. unfit_open fault c.in_ok-changes.changes failed c.in_err-check_length.ensures cc))

pub returns-in_err-check_length-clause-uncalled : goal.returns-in_err-check_length-clause-uncalled
returns-in_err-check_length-clause-uncalled g c = λ failed. absurd (failed (none g (goal.at.returns-in_err-check_length-clause-uncalled g c).After-condensed))

pub returns-in_err-check_length-clause-full : goal.returns-in_err-check_length-clause-full
returns-in_err-check_length-clause-full g c =
    let p = err_from_is_err_and c.from_residual-in_err-check_length.result c.from_residual-in_err-check_length.ensures.1 in
    rw (p.1, p.2) (unfit_full c.in_err-check_length.field-0.0 c.in_ok-changes.changes (IsReadAlone g (goal.at.returns-in_err-check_length-clause-full g c).After-condensed c.condensed.new.disk) c.in_err-check_length.ensures c.condensed.ensures.untouched)

pub returns-in_err-check_length-clause-cause : goal.returns-in_err-check_length-clause-cause
returns-in_err-check_length-clause-cause g c =
    let p = err_from_is_err_and c.from_residual-in_err-check_length.result c.from_residual-in_err-check_length.ensures.1 in
    rw (p.1, p.2) (unfit_offline c.in_err-check_length.field-0.0 c.in_ok-changes.changes _ c.in_err-check_length.ensures)

pub returns-in_err-check_length-clause-named : goal.returns-in_err-check_length-clause-named
returns-in_err-check_length-clause-named g c =
    let p = err_from_is_err_and c.from_residual-in_err-check_length.result c.from_residual-in_err-check_length.ensures.1 in
    rw (p.1, p.2) (unfit_offline c.in_err-check_length.field-0.0 c.in_ok-changes.changes _ c.in_err-check_length.ensures)

pub returns-in_err-check_length-clause-elsewhere : goal.returns-in_err-check_length-clause-elsewhere
returns-in_err-check_length-clause-elsewhere g c = (reads_on g (goal.at.returns-in_err-check_length-clause-elsewhere g c).After-condensed).any_moment

pub returns-in_err-check_length-clause-others : goal.returns-in_err-check_length-clause-others
returns-in_err-check_length-clause-others g c = (reads_on g (goal.at.returns-in_err-check_length-clause-others g c).After-condensed).others

pub returns-in_err-check_length-clause-known : goal.returns-in_err-check_length-clause-known
returns-in_err-check_length-clause-known g c = λ told changes built knows.
    let D = g.D.Disk in
    let new = c.condensed.new.disk in
    let p = err_from_is_err_and c.from_residual-in_err-check_length.result c.from_residual-in_err-check_length.ensures.1 in
    rw (p.1, p.2) (unfit_replaced c.in_err-check_length.field-0.0 c.in_ok-changes.changes (HasWritten (D.tells new) (D.reads new) c.condensed.new.self (kept changes c.args.keep)) c.in_err-check_length.ensures)

-- ---- where it is written

pub replace_by-requires-clause-open : goal.replace_by-requires-clause-open
replace_by-requires-clause-open g c = ap (λ (k : KeeperState). k.fault) c.in_ok-changes.ensures.after ∙ none g (goal.at.replace_by-requires-clause-open g c).After-condensed

pub replace_by-requires-clause-settled : goal.replace_by-requires-clause-settled
replace_by-requires-clause-settled g c = ap pending_of c.in_ok-changes.ensures.after ∙ none_pends c.args.self.now c.requires.settled (none g (goal.at.replace_by-requires-clause-settled g c).After-condensed)

module _ (g : _) (c : After-replace_by g) where
  -- but for the mark and the other log
  others_stay : IsElsewhere g.D.Disk.tells g.D.Disk.reads g.D.Disk.may_leave g.D.Disk.moment g.D.Disk.left_since g.D.Disk.beside g.D.Disk.disk_faults (log_file (1 - c.args.self.now.log.number)) c.args.disk.now c.replace_by.new.disk
  others_stay =
      let D = g.D.Disk in
      let mid = c.condensed.new.disk in
      let P : KeeperState → Type 0 = λ k. IsElsewhere D.tells D.reads D.may_leave D.moment D.left_since D.beside D.disk_faults (log_file (1 - k.log.number)) mid c.replace_by.new.disk in
      elsewhere_then D.tells D.reads D.may_leave D.moment D.left_since D.beside D.disk_faults (log_file (1 - c.args.self.now.log.number)) c.args.disk.now mid c.replace_by.new.disk (g.met.D.Disk.counts_now mid) (reads_on g (goal.at.After-replace_by g c).After-condensed) (subst P {x = c.condensed.new.self} {y = c.args.self.now} c.in_ok-changes.ensures.after c.replace_by.ensures.elsewhere)

  module _ (changes : List Change) (told : IsTrue (g.D.Disk.tells c.args.disk.now)) (was_built : IsBuilt changes) (knows : Knows (g.D.Disk.reads c.args.disk.now) c.args.self.now changes) where
    -- the list that is written
    these : c.in_ok-changes.changes ≡ kept changes c.args.keep
    these = c.in_ok-changes.ensures.list told changes knows

    is_list : IsList c.in_ok-changes.changes
    is_list = record {
      lawful = subst (All IsLawful) (sym these) (c.the_list_with_versions_folds_back.ensures.lawful c.args.keep changes c.requires.keep was_built knows.lawful);
      within = c.in_ok-check_length.ensures;
    }

    built : IsBuilt c.in_ok-changes.changes
    built = subst IsBuilt (sym these) (c.the_list_with_versions_folds_back.ensures.accepted c.args.keep changes c.requires.keep was_built)

  module _ (changes : List Change) (keeps : Keeps (g.D.Disk.tells c.args.disk.now) (g.D.Disk.reads c.args.disk.now) (g.D.Disk.may_leave c.args.disk.now) c.args.self.now changes changes) where
    kept_yet : Keeps (g.D.Disk.tells c.condensed.new.disk) (g.D.Disk.reads c.condensed.new.disk) (g.D.Disk.may_leave c.condensed.new.disk) c.condensed.new.self changes changes
    kept_yet =
        let D = g.D.Disk in
        let mid = c.condensed.new.disk in
        let Now : KeeperState → Type 0 = λ k. Keeps (D.tells mid) (D.reads mid) (D.may_leave mid) k changes changes in
        subst Now {x = c.args.self.now} (sym {a = c.condensed.new.self} {b = c.args.self.now} c.in_ok-changes.ensures.after) (still g (goal.at.After-replace_by g c).After-condensed changes keeps)

pub returns-clause-folds : goal.returns-clause-folds
returns-clause-folds g c = λ changes built.
    let law = c.the_list_with_versions_folds_back.ensures in
    folds_back changes c.args.keep c.requires.keep built law.accepted law.state law.set law.versions

pub returns-clause-after : goal.returns-clause-after
returns-clause-after g c =
    let P : KeeperState → Type 0 = λ k. AfterCondensing c.replace_by.result k c.replace_by.new.self in
    subst P {x = c.condensed.new.self} {y = c.args.self.now} c.in_ok-changes.ensures.after c.replace_by.ensures.after

pub returns-clause-any_moment : goal.returns-clause-any_moment
returns-clause-any_moment g c = λ changes keeps.
    let D = g.D.Disk in
    let d = c.args.disk.now in
    let mid = c.condensed.new.disk in
    let new = c.replace_by.new.disk in
    let at = (goal.at.returns-clause-any_moment g c).After-replace_by in
    let after = c.condensed.ensures.untouched in
    let Run : List Change → Type 0 = λ short. LeavesOnly D.moment D.left_since d new (LeavesEither (D.beside d).told changes short) in
    let told = keeps.holds.stands.told in
    let knows = knows_kept (D.tells d) (D.reads d) (D.may_leave d) c.args.self.now changes keeps in
    subst Run {x = c.in_ok-changes.changes} (these g at changes told keeps.built knows) (
    read_then_either D.moment D.left_since d mid (D.may_leave d) (D.beside d).told (D.tells d) (D.reads d) c.args.self.now changes c.in_ok-changes.changes keeps new (D.beside mid).told (ap (λ (b : Beside). b.told) after.rest) after.any_moment (c.replace_by.ensures.any_moment changes (kept_yet g at changes keeps) (is_list g at changes told keeps.built knows) (built g at changes told keeps.built knows)))

pub returns-clause-condensed : goal.returns-clause-condensed
returns-clause-condensed g c = λ changes keeps.
    let D = g.D.Disk in
    let new = c.replace_by.new.disk in
    let at = (goal.at.returns-clause-condensed g c).After-replace_by in
    let d = c.args.disk.now in
    let told = keeps.holds.stands.told in
    let knows = knows_kept (D.tells d) (D.reads d) (D.may_leave d) c.args.self.now changes keeps in
    let Short : List Change → Type 0 = λ short. Condensed c.replace_by.result (D.tells new) (D.reads new) (D.may_leave new) c.replace_by.new.self changes short in
    subst Short {x = c.in_ok-changes.changes} (these g at changes told keeps.built knows) (c.replace_by.ensures.condensed changes (kept_yet g at changes keeps) (is_list g at changes told keeps.built knows) (built g at changes told keeps.built knows))

pub returns-clause-known : goal.returns-clause-known
returns-clause-known g c = λ told changes was_built knows.
    let D = g.D.Disk in
    let new = c.replace_by.new.disk in
    let at = (goal.at.returns-clause-known g c).After-replace_by in
    let Had : List Change → Type 0 = λ short. HasWritten (D.tells new) (D.reads new) c.replace_by.new.self short in
    let Short : List Change → Type 0 = λ short. IfReplaced c.replace_by.result (Had short) in
    subst Short {x = c.in_ok-changes.changes} (these g at changes told was_built knows)
    (written_replaced c.replace_by.result (Had c.in_ok-changes.changes) (c.replace_by.ensures.written (is_list g at changes told was_built knows) (built g at changes told was_built knows)))

pub returns-clause-closed : goal.returns-clause-closed
returns-clause-closed g c = λ failed.
    never_closed (Unit {0}) c.replace_by.result c.args.self.now.fault failed (none g (goal.at.returns-clause-closed g c).After-condensed) (open_closed (Unit {0}) c.replace_by.result failed c.replace_by.ensures.open)

pub returns-clause-uncalled : goal.returns-clause-uncalled
returns-clause-uncalled g c = λ failed. absurd (failed (none g (goal.at.returns-clause-uncalled g c).After-condensed))

pub returns-clause-full : goal.returns-clause-full
returns-clause-full g c = open_full c.replace_by.result (λ count. (log_limit < count) × IsReadAlone g (goal.at.returns-clause-full g c).After-condensed c.replace_by.new.disk) c.replace_by.ensures.open

pub returns-clause-elsewhere : goal.returns-clause-elsewhere
returns-clause-elsewhere g c = (others_stay g (goal.at.returns-clause-elsewhere g c).After-replace_by).any_moment

pub returns-clause-others : goal.returns-clause-others
returns-clause-others g c = (others_stay g (goal.at.returns-clause-others g c).After-replace_by).others
