use Rattle.std.proofs.Common.{[], refl, ◌∙◌}
use Rattle.std.proofs.lemmas.Result.{err_from_is_err_and}
use Rattle.s80_disk.proofs.lemmas.Showing.{told_beside}
use Rattle.s80_model.specs.declared.item.SessionItem.TheVariants.{Unended}
use Rattle.s80_session.proofs.Breaking.{done_counts, err_counts, memory_counts}
use Rattle.s80_session.proofs.TakingIn.{all_clean, all_unended, as_before_start, some_more}
use Rattle.s80_session.proofs.theirs.take_theirs.Goals as goal

-- ---- nothing was taken

pub returns-in_err-buf-clause-taken : goal.returns-in_err-buf-clause-taken
returns-in_err-buf-clause-taken g c = λ state input left_is come.
    let p = err_from_is_err_and c.from_residual.result c.from_residual.ensures.1 in
    rw (p.1, p.2) tt

pub returns-in_err-buf-clause-any_moment : goal.returns-in_err-buf-clause-any_moment
returns-in_err-buf-clause-any_moment g c = as_before_start g.O.Disk.moment g.O.Disk.left_since g.O.Disk.may_leave g.O.Outside.shown c.args.outside.now (λ told image left. let x = g.met.O.Disk.only_now c.args.outside.now told image left in (x.0, x.1 ∙ told_beside g.met.O.Outside.beside_is g.met.O.Outside.shown_is c.args.outside.now))

pub returns-in_err-buf-clause-counts : goal.returns-in_err-buf-clause-counts
returns-in_err-buf-clause-counts g c =
    let p = err_from_is_err_and c.from_residual.result c.from_residual.ensures.1 in
    rw (p.1, p.2) (memory_counts (Unit {0}) (g.O.Outside.faults c.args.outside.now) (g.O.Outside.faults c.args.outside.now) refl)

pub returns-in_err-reader-clause-taken : goal.returns-in_err-reader-clause-taken
returns-in_err-reader-clause-taken g c = λ state input left_is come.
    let p = err_from_is_err_and c.from_residual-in_err-reader.result c.from_residual-in_err-reader.ensures.1 in
    rw (p.1, p.2) tt

pub returns-in_err-reader-clause-any_moment : goal.returns-in_err-reader-clause-any_moment
returns-in_err-reader-clause-any_moment g c = as_before_start g.O.Disk.moment g.O.Disk.left_since g.O.Disk.may_leave g.O.Outside.shown c.args.outside.now (λ told image left. let x = g.met.O.Disk.only_now c.args.outside.now told image left in (x.0, x.1 ∙ told_beside g.met.O.Outside.beside_is g.met.O.Outside.shown_is c.args.outside.now))

pub returns-in_err-reader-clause-counts : goal.returns-in_err-reader-clause-counts
returns-in_err-reader-clause-counts g c =
    let p = err_from_is_err_and c.from_residual-in_err-reader.result c.from_residual-in_err-reader.ensures.1 in
    rw (p.1, p.2) (memory_counts (Unit {0}) (g.O.Outside.faults c.args.outside.now) (g.O.Outside.faults c.args.outside.now) refl)

-- ---- the input didn't come to its end

pub take_pieces-requires-clause-reading : goal.take_pieces-requires-clause-reading
take_pieces-requires-clause-reading g c = ([], [], c.in_ok-reader.ensures.read)

pub returns-in_err-take_pieces-clause-taken : goal.returns-in_err-take_pieces-clause-taken
returns-in_err-take_pieces-clause-taken g c = λ state input left_is come.
    let p = err_from_is_err_and c.from_residual-in_err-take_pieces.result c.from_residual-in_err-take_pieces.ensures.1 in
    rw (p.1, p.2) (c.in_err-take_pieces.ensures.fed state input left_is (record { read = c.in_ok-reader.ensures.read; come = come }))

pub returns-in_err-take_pieces-clause-counts : goal.returns-in_err-take_pieces-clause-counts
returns-in_err-take_pieces-clause-counts g c =
    let p = err_from_is_err_and c.from_residual-in_err-take_pieces.result c.from_residual-in_err-take_pieces.ensures.1 in
    rw (p.1, p.2) (err_counts (Unit {0}) (Unit {0}) (g.O.Outside.faults c.args.outside.now) (g.O.Outside.faults c.take_pieces.new.outside) c.in_err-take_pieces.field-0.0 c.in_err-take_pieces.ensures.counts)

-- ---- it did

pub returns-in_err-take_items-clause-taken : goal.returns-in_err-take_items-clause-taken
returns-in_err-take_items-clause-taken g c = λ state input left_is come.
    let p = err_from_is_err_and c.from_residual-in_err-take_items.result c.from_residual-in_err-take_items.ensures.1 in
    rw (p.1, p.2) tt

pub returns-in_err-take_items-clause-counts : goal.returns-in_err-take_items-clause-counts
returns-in_err-take_items-clause-counts g c =
    let p = err_from_is_err_and c.from_residual-in_err-take_items.result c.from_residual-in_err-take_items.ensures.1 in
    rw (p.1, p.2) (memory_counts (Unit {0}) (g.O.Outside.faults c.args.outside.now) (g.O.Outside.faults c.take_pieces.new.outside) c.in_ok-take_pieces.ensures.counts.reason)

pub returns-in-Clean-clause-taken : goal.returns-in-Clean-clause-taken
returns-in-Clean-clause-taken g c = λ state input left_is come.
    let f = c.in_ok-take_pieces.ensures.fed state input left_is (record { read = c.in_ok-reader.ensures.read; come = come }) in
    let t = c.in_ok-take_items.ensures.taken state input f.items f.taking in
    all_clean c.take_items.new.given c.take_items.new.reader (g.O.Outside.shown c.take_pieces.new.outside) state input t f.left f.within c.rest.result c.rest.ensures c.in-Clean.is

pub returns-in_err-take-in-Unended-clause-taken : goal.returns-in_err-take-in-Unended-clause-taken
returns-in_err-take-in-Unended-clause-taken g c = λ state input left_is come.
    let p = err_from_is_err_and c.from_residual-in_err-take-in-Unended.result c.from_residual-in_err-take-in-Unended.ensures.1 in
    rw (p.1, p.2) tt

pub returns-in_err-take-in-Unended-clause-counts : goal.returns-in_err-take-in-Unended-clause-counts
returns-in_err-take-in-Unended-clause-counts g c =
    let p = err_from_is_err_and c.from_residual-in_err-take-in-Unended.result c.from_residual-in_err-take-in-Unended.ensures.1 in
    rw (p.1, p.2) (memory_counts (Unit {0}) (g.O.Outside.faults c.args.outside.now) (g.O.Outside.faults c.take_pieces.new.outside) c.in_ok-take_pieces.ensures.counts.reason)

pub returns-clause-taken : goal.returns-clause-taken
returns-clause-taken g c = λ state input left_is come.
    let f = c.in_ok-take_pieces.ensures.fed state input left_is (record { read = c.in_ok-reader.ensures.read; come = come }) in
    let t = c.in_ok-take_items.ensures.taken state input f.items f.taking in
    all_unended c.take_items.new.given c.take_items.new.reader (g.O.Outside.shown c.take_pieces.new.outside) state input t f.left f.within c.rest.result c.rest.ensures c.take.new.self c.in-Unended.field-0 c.in-Unended.is c.in_ok-take-in-Unended.ensures

pub returns-clause-some : goal.returns-clause-some
returns-clause-some g c = λ some. some_more c.take_items.new.given c.take.new.self Unended c.in_ok-take-in-Unended.ensures tt (c.in_ok-take_items.ensures.some (c.in_ok-take_pieces.ensures.some some))
