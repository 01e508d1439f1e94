-- Which calls a plan has fail.
use Rattle.std.specs.Prelude.{◌≡◌, ℕ, ◌≤◌}
use Rattle.s80_disk.specs.declared.plan.FaultPlan.{FaultPlan}
use Rattle.s80_disk.specs.declared.plan.FaultPlan.TheVariants.{Never, One, From}

-- the call of this number fails
abbrev pub Plans : FaultPlan → ℕ → Type 0
Plans Never number = ⊥
Plans (One one) number = number ≡ one
Plans (From first) number = first ≤ number
