use Rattle.std.proofs.Common.{sym, subst}
use Rattle.std.proofs.lemmas.Result.{IfOk-weaker}
use Rattle.s80_disk.specs.Crash.{Spreads}
use Rattle.s80_disk.specs.Memory.{images_of}
use Rattle.s80_disk.proofs.memory.MemDisk.crash.Goals as goal

pub returns-clause-left : goal.returns-clause-left
returns-clause-left c = IfOk-weaker c.of_files.result _ _ (λ disk is. subst (images_of c.args.self.now) (λ i file. sym (is file) i) c.in_ok-current.ensures.left) c.of_files.ensures.files

pub returns-clause-torn : goal.returns-clause-torn
returns-clause-torn c more = IfOk-weaker c.of_files.result _ _ (λ disk is file. subst (Spreads c.args.choice (images_of c.args.self.now) file) (sym (is file)) (c.in_ok-current.ensures.torn more file)) c.of_files.ensures.files
