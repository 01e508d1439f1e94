-- The members of a change set in groups.
use Rattle.std.specs.Prelude.{ℕ, Bool, zero, suc, ◌<◌, nat_le, List, [], ◌∷◌, ◌++◌, length, slice_get, Option, Some, None, filter_map, if◌then◌else◌}
use Rattle.std.specs.Option.{option_map_or}
use Rattle.s80_history.specs.declared.members.Member.{Member}
use Rattle.s80_history.specs.declared.noted.Noted.{Noted}
use Rattle.s80_history.specs.Topics.{is_new}

-- ---- what is left out

-- the last member of a group that left out those before it
abbrev pub last_of : List Member → ℕ → ℕ
last_of members group = option_map_or (λ r. r.last) (slice_get members group) 0

-- members by the last ones of their groups, where the first has this number: those that are left out are gaps
abbrev pub gap : (ℕ → ℕ) → ℕ → Member → Option Noted
gap last i r = if nat_le (last r.group) i then Some r.noted else None

abbrev pub gaps_from : (ℕ → ℕ) → ℕ → List Member → List (Option Noted)
gaps_from last i [] = []
gaps_from last i (r ∷ members) = gap last i r ∷ gaps_from last (suc i) members

abbrev pub gaps : List Member → List (Option Noted)
gaps members = gaps_from (last_of members) 0 members

-- what a list with gaps holds
abbrev pub filled : {X : Type 0} → List (Option X) → List X
filled xs = filter_map (λ x. x) xs

abbrev pub in_set : List Member → List Noted
in_set members = filled (gaps members)

-- ---- one member more

abbrev pub member : Noted → ℕ → ℕ → Member
member noted group number = record { noted = noted; group = group; last = number }

-- with another last one of a group
abbrev pub with_last : List Member → ℕ → ℕ → List Member
with_last [] group last = []
with_last (r ∷ members) zero last = record { noted = r.noted; group = r.group; last = last } ∷ members
with_last (r ∷ members) (suc group) last = r ∷ with_last members group last

-- whether or not it leaves out those of its group
abbrev pub added_as : Bool → List Member → Noted → ℕ → List Member
added_as leaves_out members noted group =
    let more = members ++ member noted group (length members) ∷ [] in
    if leaves_out then with_last more group (length members) else more

abbrev pub added : List Member → Noted → ℕ → List Member
added members noted group = added_as (is_new noted) members noted group

-- ---- numbers of members

-- it names members before this number
pub record IsWithin (count : ℕ) (r : Member) : Type 0 where
  pub group : r.group < count
  pub last : r.last < count
