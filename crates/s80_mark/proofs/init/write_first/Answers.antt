use Rattle.std.proofs.Common.{IsTrue, refl, ◌∙◌, ap}
use Rattle.std.proofs.lemmas.Result.{on_ok_weaker}
use Rattle.s80_disk.specs.declared.disk.FileId.TheVariants.{Mark}
use Rattle.s80_disk.specs.Moments.{Beside, ComesFrom}
use Rattle.s80_disk.proofs.lemmas.Run.{weaker, joined}
use Rattle.s80_mark.specs.Stays.{Anything}
use Rattle.s80_mark.proofs.Images.{comes_looser, comes_through, follows_through}
use Rattle.s80_mark.proofs.First.{first_valid}
use Rattle.s80_mark.proofs.init.write_first.Goals as goal

pub returns-clause-valid : goal.returns-clause-valid
returns-clause-valid g c = λ told.
    let D = g.D.Disk in
    let mid = c.write_and_sync.new.disk in
    let told_on : IsTrue (D.tells mid) = c.write_and_sync.ensures.tells ∙ told in
    on_ok_weaker c.write_slot.result (first_valid c.args.mark _ (D.reads c.args.disk.now Mark) (D.reads mid Mark) (D.reads c.write_slot.new.disk Mark) refl refl (c.in_ok-write_and_sync.ensures.written told)) (c.write_slot.ensures.filled told_on)

pub returns-clause-crash : goal.returns-clause-crash
returns-clause-crash g c = follows_through Mark _ _ Anything _ _ _ c.write_and_sync.ensures.crash c.write_slot.ensures.crash (λ old between new torn filled. tt)

pub returns-clause-any_moment : goal.returns-clause-any_moment
returns-clause-any_moment g c =
    let D = g.D.Disk in
    let d = c.args.disk.now in
    let mid = c.write_and_sync.new.disk in
    let zeros = c.write_and_sync.ensures in
    let P = ComesFrom (D.may_leave d) (D.beside d).told Mark Anything in
    joined D.moment D.left_since d mid c.write_slot.new.disk P _
    (weaker D.moment D.left_since d mid _ P zeros.any_moment (comes_looser Mark _ Anything (λ old new torn. tt) (D.may_leave d) (D.beside d).told))
    c.write_slot.ensures.any_moment
    (comes_through Mark _ _ Anything (D.may_leave d) (D.may_leave mid) (D.beside d).told (D.beside mid).told (ap (λ (b : Beside). b.told) zeros.beside) zeros.crash (λ old between left torn new filled. tt))
