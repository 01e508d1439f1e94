use Rattle.std.proofs.Common.{length, sym, ◌∙◌, subst}
use Rattle.s80_disk.specs.Image.{Wrote, Torn}
use Rattle.s80_disk.specs.Five.{overwritten}
use Rattle.s80_disk.specs.Memory.{files_of}
use Rattle.s80_disk.specs.Laws.{changed_here, wrote, torn}
use Rattle.s80_disk.proofs.Steps.{untorn}
use Rattle.s80_disk.proofs.Pushed.{followed_by_itself}
use Rattle.s80_disk.proofs.memory.calls.MemDiskDisk.write_at.Goals as goal

pub returns-then-fails-clause-crash : goal.returns-then-fails-clause-crash
returns-then-fails-clause-crash c = followed_by_itself _ _ _ (λ bytes. untorn c.args.at (length c.args.piece.now) bytes)

pub returns-clause-written : goal.returns-clause-written
returns-clause-written c =
    let a = c.args in
    let old = files_of a.self.now in
    subst (Wrote a.at a.piece.now (old a.file)) (sym (c.write.ensures.bytes a.file ∙ changed_here a.file (overwritten a.at a.piece.now) old)) (wrote a.at a.piece.now (old a.file))

pub returns-clause-torn : goal.returns-clause-torn
returns-clause-torn c =
    let a = c.args in
    let old = files_of a.self.now in
    subst (Torn a.at (length a.piece.now) (old a.file)) (sym (c.write.ensures.bytes a.file ∙ changed_here a.file (overwritten a.at a.piece.now) old)) (torn a.at a.piece.now (old a.file))
