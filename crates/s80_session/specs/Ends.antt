-- How what ends the calls below ends a session, or answers an item.
use Rattle.std.specs.Prelude.{Option, Some, None, Result, Ok, Err}
use Rattle.s80_form.specs.declared.refusal.Refusal.{Refusal}
use Rattle.s80_form.specs.declared.refusal.Refusal.TheVariants.{LogFull}
use Rattle.s80_keeper.specs.declared.start.StartFault.{StartFault}
use Rattle.s80_keeper.specs.declared.start.StartFault.TheVariants as faults
use Rattle.s80_keeper.specs.declared.keep.KeepFault.{KeepFault}
use Rattle.s80_keeper.specs.declared.keep.KeepFault.TheVariants as keep_faults
use Rattle.s80_model.specs.declared.reply.Reply.{Reply}
use Rattle.s80_model.specs.declared.reply.Reply.TheVariants.{Accepted, Refused}
use Rattle.s80_session.specs.declared.end.SessionEnd.{SessionEnd}
use Rattle.s80_session.specs.declared.end.SessionEnd.TheVariants as ends

abbrev pub end_of_start : StartFault → SessionEnd
end_of_start faults.Memory = ends.Memory
end_of_start (faults.Disk failed) = ends.Disk failed
end_of_start (faults.Damaged damage) = ends.Damaged damage

-- a full log refuses the change, and every other fault ends the session
abbrev pub refusal_at_fault : KeepFault → Result Refusal SessionEnd
refusal_at_fault keep_faults.Memory = Err ends.Memory
refusal_at_fault (keep_faults.Disk failed) = Err (ends.Disk failed)
refusal_at_fault (keep_faults.Closed failed) = Err (ends.Disk failed)
refusal_at_fault (keep_faults.Full length) = Ok (LogFull length)
refusal_at_fault (keep_faults.Damaged damage) = Err (ends.Damaged damage)

-- what a change is answered, by why it is refused, if it is
abbrev pub reply_to_keeping : Option Refusal → Reply
reply_to_keeping None = Accepted
reply_to_keeping (Some refusal) = Refused refusal
