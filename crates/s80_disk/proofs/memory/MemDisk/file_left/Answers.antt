use Rattle.std.proofs.Common.{◌∙◌, ap, subst, sym, List, arith}
use Rattle.std.proofs.lemmas.List.{take_all}
use Rattle.std.proofs.lemmas.Result.{IfOk-weaker}
use Rattle.s80_disk.specs.declared.recorded.Recorded.{Recorded}
use Rattle.s80_disk.specs.History.{history, contents}
use Rattle.s80_disk.specs.Crash.{MayHold}
use Rattle.s80_disk.specs.Memory.{first_files, events_of}
use Rattle.s80_disk.proofs.Held.{may_hold_synced, may_hold_contents, synced_is}
use Rattle.s80_disk.proofs.memory.MemDisk.file_left.Goals as goal

pub returns-in-0-clause-held : goal.returns-in-0-clause-held
returns-in-0-clause-held c =
    let s = c.args.self.now in
    let synced = c.calls_synced.ensures in
    let held = may_hold_synced (first_files s) s.pieces.items c.args.file s.calls.items c.calls_synced.result synced.within synced.last in
    IfOk-weaker c.file_after.result _ _ (λ bytes is. subst (MayHold (first_files s) (events_of s) c.args.file) (sym is) held) c.file_after.ensures.bytes

pub returns-in-0-clause-lost : goal.returns-in-0-clause-lost
returns-in-0-clause-lost c choice =
    let s = c.args.self.now in
    let synced = c.calls_synced.ensures in
    IfOk-weaker c.file_after.result _ _ (λ bytes is. is ∙ synced_is (first_files s) s.pieces.items c.args.file s.calls.items c.calls_synced.result synced.within synced.last) c.file_after.ensures.bytes

pub returns-in-1-clause-held : goal.returns-in-1-clause-held
returns-in-1-clause-held c =
    let s = c.args.self.now in
    let whole = take_all c.len.result s.calls.items (omega arith) in
    let held = may_hold_contents (first_files s) (events_of s) c.args.file in
    IfOk-weaker c.file_after-in-1.result _ _ (λ bytes is. subst (MayHold (first_files s) (events_of s) c.args.file) (ap (λ (l : List Recorded). contents (first_files s) (history s.pieces.items l) c.args.file) (sym whole) ∙ sym is) held) c.file_after-in-1.ensures.bytes
