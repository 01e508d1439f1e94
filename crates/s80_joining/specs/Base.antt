-- The base of a list that is read change by change.
use Rattle.std.specs.Prelude.{◌≡◌, not, List, ◌++◌, filter}
use Rattle.s80_change.specs.declared.change.Change.{Change}
use Rattle.s80_joining.specs.declared.base.Base.{Base}
use Rattle.s80_joining.specs.Parts.{base_of, is_doit}

-- these changes were read: up to the last that begins a set they are the base's, and those since wait; doIts are left out
pub record IsBaseOf (base : Base) (changes : List Change) : Type 0 where
  pub base_is : base.base ≡ base_of changes
  pub all : base.base ++ base.since ≡ filter (λ change. not (is_doit change)) changes
