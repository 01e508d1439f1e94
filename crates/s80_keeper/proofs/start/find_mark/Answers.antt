use Rattle.std.proofs.Common.{◌≡◌, Ok, Err, subst, ◌∙◌}
use Rattle.std.proofs.lemmas.Result.{err_from_is_err_and}
use Rattle.s80_disk.specs.Image.{Image}
use Rattle.s80_mark.specs.Found.{IsAnswer}
use Rattle.s80_keeper.proofs.Resumed.{found_fault, found_mark}
use Rattle.s80_keeper.proofs.start.find_mark.Goals as goal
use Rattle.s80_keeper.proofs.start.find_mark.Goals.{After-read_mark}

-- the sync changes nothing that is read
same : (g : _) (c : After-read_mark g) → g.D.Disk.reads c.sync.new.self ≡ g.D.Disk.reads c.args.disk.now
same g c = λ i file. c.sync.ensures.same file i

pub returns-in_err-read_mark-clause-answer : goal.returns-in_err-read_mark-clause-answer
returns-in_err-read_mark-clause-answer g c = λ told.
    let fault = c.in_err-read_mark.field-0.0 in
    let P : Image → Type 0 = λ r. IsAnswer r (Err fault) in
    let is = subst P (same g (goal.at.returns-in_err-read_mark-clause-answer g c).After-read_mark) (c.in_err-read_mark.ensures.answer (c.sync.ensures.tells ∙ told)) in
    let p = err_from_is_err_and c.from_residual-in_err-read_mark.result c.from_residual-in_err-read_mark.ensures.1 in
    rw (p.1, p.2) (found_fault (g.D.Disk.reads c.args.disk.now) fault is)

pub returns-clause-answer : goal.returns-clause-answer
returns-clause-answer g c = λ told.
    let found = c.in_ok-read_mark.field-0 in
    let P : Image → Type 0 = λ r. IsAnswer r (Ok found) in
    found_mark (g.D.Disk.reads c.args.disk.now) found (subst P (same g (goal.at.returns-clause-answer g c).After-read_mark) (c.in_ok-read_mark.ensures.answer (c.sync.ensures.tells ∙ told)))
