-- What preparing a change answers, as the state below says it.
use Rattle.std.proofs.Common.{ℕ, ◌+◌, ◌<◌, ◌≤◌, length, Ok, Err, refl}
use Rattle.s80_change.specs.declared.change.Change.{Change}
use Rattle.s80_form.specs.declared.refusal.Refused.{Refused}
use Rattle.s80_form.specs.declared.refusal.Refused.TheVariants as refused
use Rattle.s80_form.specs.declared.refusal.Refusal.TheVariants.{LogFull}
use Rattle.s80_change.specs.Block.{block, log_limit}
use Rattle.s80_apply.specs.declared.step.Step.{Step}
use Rattle.s80_apply.specs.State.{State}
use Rattle.s80_apply.specs.System.{SystemState, IsReady, Prepares as PreparesStep}
use Rattle.s80_keeper.specs.Answers.{Prepares}
use Rattle.s80_keeper.proofs.Accepted.{refuses_so, refuses_full}

module _ (state : State) (end : ℕ) (change : Change) (now : SystemState) where
  -- the state refuses it, or there is no memory
  pub prepares_none : (why : Refused) → PreparesStep state change now (Err why) → Prepares state end change now (Err why)
  prepares_none refused.Memory is = tt
  prepares_none (refused.Refusal refusal) is = refuses_so state end change refusal is

  -- the log is full
  pub prepares_full : (step : Step) → PreparesStep state change now (Ok step) → log_limit < end + length (block change) → Prepares state end change now (Err (refused.Refusal (LogFull end)))
  prepares_full step is over = refuses_full state end change is.0 is.1 over

  -- there is room
  pub prepares_some : (step : Step) → PreparesStep state change now (Ok step) → IsReady now step → end + length (block change) ≤ log_limit → Prepares state end change now (Ok (record { change = change; step = step }))
  prepares_some step is ready within = (refl, record { ready = ready; makes = is }, within)
