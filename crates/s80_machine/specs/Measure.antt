-- Why a run ends: a step that takes no tick goes on in its activation or ends one.
use Rattle.std.specs.Prelude.{ℕ, ◌+◌, ◌*◌, ◌-◌, ◌≤◌, List, length}
use Rattle.std.specs.List.{sum_by}
use Rattle.s80_machine.specs.Turn.{Context, State}
use Rattle.s80_machine.specs.Shared.{depth_limit}

-- what is left of an activation's code, of which there are at most 1,023 bytes
abbrev pub left_of : Context → ℕ
left_of c = 1024 - c.place

abbrev pub left_of_all : List Context → ℕ
left_of_all contexts = sum_by left_of contexts

-- more than is left of all activations
abbrev pub one_tick_more : ℕ
one_tick_more = depth_limit * 1024 + 1

-- falls with each step under a budget
abbrev pub steps_left : ℕ → State → ℕ
steps_left budget s = (budget - s.world.ticks) * one_tick_more + left_of_all s.contexts

-- no more activations and ticks than there may be
pub record IsWithin (budget : ℕ) (s : State) : Type 0 where
  pub deep : length s.contexts ≤ depth_limit
  pub ticks : s.world.ticks ≤ budget
