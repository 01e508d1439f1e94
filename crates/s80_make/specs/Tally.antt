-- What the replies to generated input come to.
use Rattle.std.specs.Prelude.{◌≡◌, ℕ, ◌+◌, ℤ, pos, ◌+ℤ◌, Bool, true, false, List, [], ◌∷◌, ◌++◌, codes, decimal, Option, Some, None, Result, Ok, Err}
use Rattle.std.specs.Fmt.{signed_decimal}
use Rattle.s80_apply.specs.List.{add, state_of}
use Rattle.s80_change.specs.declared.change.Change.{Change}
use Rattle.s80_change.specs.declared.change.Change.TheVariants.{DoIt}
use Rattle.s80_doit.specs.Answer.{AnswersSmall}
use Rattle.s80_form.specs.declared.refusal.Refusal.{Refusal}
use Rattle.s80_machine.specs.Came.{RanValue}
use Rattle.s80_meaning.specs.Renamed.{small_of}
use Rattle.s80_model.specs.Asked.{Ask, evaluates}
use Rattle.s80_model.specs.Replies.{Work, reply_to, work_after}
use Rattle.s80_model.specs.Settings.{Settings}
use Rattle.s80_model.specs.declared.reply.Reply.{Reply}
use Rattle.s80_model.specs.declared.reply.Reply.TheVariants.{Silent, Accepted, Refused, Evaluated, Told}
use Rattle.s80_make.specs.declared.tally.Tally.{Tally}

abbrev pub nothing : Tally
nothing = record { refused = 0; stopped = 0; sum = pos 0 }

-- one refusal more
abbrev pub with_refusal : Tally → Tally
with_refusal t = record t { refused = t.refused + 1 }

-- one doIt more that was stopped, or answered this SmallInteger, or something else
abbrev pub with_doit : Bool → Option ℤ → Tally → Tally
with_doit true small t = record t { stopped = t.stopped + 1 }
with_doit false (Some n) t = record t { sum = t.sum +ℤ n }
with_doit false None t = t

-- one reply more; a doIt answered this SmallInteger, if it answered one
abbrev pub with_reply : Reply → Option ℤ → Tally → Tally
with_reply Silent small t = t
with_reply Accepted small t = t
with_reply (Refused refusal) small t = with_refusal t
with_reply (Evaluated lines stopped) small t = with_doit stopped small t
with_reply (Told text) small t = t

-- ---- what is asked

-- a doIt that is added counts by what its tree answers
abbrev pub CountsAdded : Result (List Change) Refusal → List ℕ → Settings → List ℕ → Bool → Tally → Tally → Type 0
CountsAdded (Ok changes) text settings told stopped before now =
    (small : Option ℤ) × AnswersSmall (state_of changes) text settings.budget told stopped small × (now ≡ with_doit stopped small before)
CountsAdded (Err refusal) text settings told stopped before now = now ≡ with_refusal before

-- one ask more is counted by its reply
abbrev pub Counts : Work → Ask → Tally → Tally → Type 0
Counts work (evaluates text told stopped) before now = CountsAdded (add work.changes (DoIt text)) text work.settings told stopped before now
Counts work ask before now = now ≡ with_reply (reply_to work ask) None before

-- all that is asked, one by one
abbrev pub CountsAll : Work → List Ask → Tally → Tally → Type 0
CountsAll work [] before now = now ≡ before
CountsAll work (ask ∷ asks) before now = (mid : Tally) × Counts work ask before mid × CountsAll (work_after work ask) asks mid now

-- the line that is written at the end
abbrev pub made_line : ℕ → Tally → List ℕ
made_line count t =
    (codes "made " ++ decimal count) ++ ((codes " classes, " ++ decimal t.refused) ++ ((codes " refused, " ++ decimal t.stopped)
    ++ ((codes " stopped, sum " ++ signed_decimal t.sum) ++ 10 ∷ [])))

-- the SmallInteger of the run that came last, if it answered one
abbrev pub small_in : Option RanValue → Option ℤ
small_in None = None
small_in (Some ran) = small_of ran.outcome.end
