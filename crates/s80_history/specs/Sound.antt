-- What holds of all that is kept: the groups are what the topics' next members leave out.
use Rattle.std.specs.Prelude.{◌≡◌, ℕ, ◌+◌, ◌-◌, ◌^◌, ◌<◌, ◌≤◌, nat_eq, nat_le, Bool, true, false, not, ◌&&◌, List, [], ◌∷◌, map as list_map, length, slice_get, All, Option, Some, None, Vec, vec_len, vec_capacity, if◌then◌else◌}
use Rattle.std.specs.List.{list_any}
use Rattle.std.specs.Option.{option_map_or}
use Rattle.std.specs.Global.{Global}
use Rattle.s80_history.specs.declared.members.Member.{Member}
use Rattle.s80_history.specs.declared.noted.Noted.{Noted}
use Rattle.s80_history.specs.Members.{IsWithin, gaps}
use Rattle.s80_history.specs.Topics.{Topic, ends, is_on}
use Rattle.s80_history.specs.Traces.{Classes, HasPlaceIn, first_joined, group_in, removed_in}

-- ---- what a topic's next member leaves out

abbrev pub is_ended : Topic → List (Option Noted) → Bool
is_ended u later = list_any (λ x. option_map_or (ends u) x false) later

abbrev pub left_out : Topic → Option Noted → List (Option Noted) → Option Noted
left_out u None later = None
left_out u (Some m) later = if is_on u m && not (is_ended u later) then None else Some m

abbrev pub emptied : Topic → List (Option Noted) → List (Option Noted)
emptied u [] = []
emptied u (x ∷ later) = left_out u x later ∷ emptied u later

-- the same by groups: without those of one group, or all where there is none
abbrev pub is_in : Option ℕ → ℕ → Bool
is_in None group = false
is_in (Some one) group = nat_eq group one

abbrev pub without : Option ℕ → List ℕ → List (Option Noted) → List (Option Noted)
without one [] xs = xs
without one (group ∷ groups) [] = []
without one (group ∷ groups) (x ∷ xs) = (if is_in one group then None else x) ∷ without one groups xs

-- ---- the group that a topic's next member joins

-- groups are named by the number of their first member in this set; a number that is too low is of an earlier one
abbrev pub number_here : ℕ → ℕ → Option ℕ → Option ℕ
number_here begun from None = None
number_here begun from (Some group) = if nat_le from group then Some (group - begun) else None

abbrev pub group_here : ℕ → Classes → Topic → Option ℕ
group_here begun classes u = number_here begun (first_joined begun classes u) (group_in classes u)

abbrev pub groups_of : List Member → List ℕ
groups_of members = list_map (λ r. r.group) members

-- the member of this number has the topic
pub record HasFirst (members : List Member) (u : Topic) (group : ℕ) : Type 0 where
  pub first : Member
  pub there : slice_get members group ≡ Some first
  pub has : is_on u first.noted ≡ true

-- what the topic's next member leaves out are those of its group
pub record IsTied (members : List Member) (u : Topic) (group : Option ℕ) : Type 0 where
  pub first : (g : ℕ) → group ≡ Some g → HasFirst members u g
  pub same : emptied u (gaps members) ≡ without group (groups_of members) (gaps members)

-- ---- all that is kept

-- there is room for this member
pub record IsRoomFor (members : Vec Member Global) (begun : ℕ) (classes : Classes) (noted : Noted) : Type 0 where
  pub number : begun + length members.items + 1 < 2 ^ 64
  pub room : vec_len members < vec_capacity members
  pub place : HasPlaceIn classes noted

pub record IsSound (members : Vec Member Global) (begun : ℕ) (classes : Classes) (next : Option Noted) : Type 0 where
  pub fits : begun + length members.items < 2 ^ 64
  pub within : All (IsWithin (length members.items)) members.items
  pub removed : (class : List ℕ) → removed_in classes class ≤ begun + length members.items
  pub groups : (u : Topic) (g : ℕ) → group_in classes u ≡ Some g → g < begun + length members.items
  pub tied : (u : Topic) → IsTied members.items u (group_here begun classes u)
  pub ready : (noted : Noted) → next ≡ Some noted → IsRoomFor members begun classes noted
