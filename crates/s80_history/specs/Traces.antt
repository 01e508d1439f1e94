-- What a list left of classes and methods, by their names.
use Rattle.std.specs.Prelude.{◌≡◌, ℕ, ◌<◌, max, nat_le, Bool, cond, ◌&&◌, List, [], ◌∷◌, ◌++◌, map as list_map, Option, Some, None, option_and_then, is_some, IsSome, ⊤, Vec, vec_len, vec_capacity, if◌then◌else◌}
use Rattle.std.specs.Option.{option_map_or}
use Rattle.std.specs.Global.{Global}
use Rattle.std.specs.Map.{lookup}
use Rattle.std.specs.Str.{bytes_eq}
use Rattle.s80_base.specs.declared.names.Side.{Side}
use Rattle.s80_base.specs.declared.names.Side.TheVariants.{Instance, Class}
use Rattle.s80_dict.specs.Table.{same_side}
use Rattle.s80_history.specs.declared.noted.Noted.{Noted}
use Rattle.s80_history.specs.declared.noted.NotedKind.{NotedKind}
use Rattle.s80_history.specs.declared.noted.NotedKind.TheVariants as kinds
use Rattle.s80_history.specs.declared.trace.MethodTrace.{MethodTrace}
use Rattle.s80_history.specs.declared.trace.ClassTrace.{ClassTrace}
use Rattle.s80_history.specs.History.{ClassVersions, Places}
use Rattle.s80_history.specs.Lists.{MethodName, is_same}
use Rattle.s80_history.specs.Topics.{Topic, CommentOf, MethodOf, class_of, is_on, name_of, removes_class_by, removes_method_by, topic_of}

-- ---- entries by name

abbrev pub Key : Type 0
Key = Vec ℕ Global

abbrev pub Named : Type 0 → Type 0
Named X = List (Key × X)

abbrev pub held : {X : Type 0} → Named X → List ℕ → Option X
held entries name = lookup (λ k. bytes_eq name k.items) entries

abbrev pub Methods : Type 0
Methods = Named MethodTrace

abbrev pub Classes : Type 0
Classes = Named ClassTrace

-- ---- what is seen of them

-- the versions of a method, the oldest first, and its group; nothing where there is none
abbrev pub versions_seen : Option MethodTrace → List ℕ
versions_seen trace = option_map_or (λ m. m.versions.items) trace []

abbrev pub group_seen : Option MethodTrace → Option ℕ
group_seen trace = option_and_then (λ m. m.group) trace

abbrev pub methods_on : ClassTrace → Side → Methods
methods_on c Instance = c.instance.entries
methods_on c Class = c.class.entries

-- the group of a topic of the class
abbrev pub group_under : ClassTrace → Topic → Option ℕ
group_under c (CommentOf class) = c.comment
group_under c (MethodOf name) = group_seen (held (methods_on c name.side) name.selector)

abbrev pub group_in : Classes → Topic → Option ℕ
group_in classes u = option_and_then (λ c. group_under c u) (held classes (class_of u))

-- how many members there were when the class was last removed
abbrev pub removed_in : Classes → List ℕ → ℕ
removed_in classes class = option_map_or (λ c. c.removed) (held classes class) 0

abbrev pub method_in : Classes → MethodName → Option MethodTrace
method_in classes name = option_and_then (λ c. held (methods_on c name.side) name.selector) (held classes name.class_name)

abbrev pub versions_in : Classes → MethodName → List ℕ
versions_in classes name = versions_seen (method_in classes name)

-- ---- one member more

-- the group that a member of this number joins, or begins: one that began before `from` isn't joined any more
abbrev pub joined : ℕ → Option ℕ → ℕ → ℕ
joined from None number = number
joined from (Some group) number = if nat_le from group then group else number

abbrev pub group_after : NotedKind → ℕ → ℕ → Option ℕ → Option ℕ
group_after kinds.Method from number group = Some (joined from group number)
group_after kinds.Classify from number group = Some (joined from group number)
group_after kinds.RemoveMethod from number group = None
group_after _ from number group = group

abbrev pub comment_after : NotedKind → ℕ → ℕ → Option ℕ → Option ℕ
comment_after kinds.Comment from number group = Some (joined from group number)
comment_after _ from number group = group

abbrev pub removed_after : NotedKind → ℕ → ℕ → ℕ
removed_after kinds.RemoveClass number removed = number
removed_after _ number removed = removed

abbrev pub versions_by : NotedKind → ℕ → List ℕ → List ℕ
versions_by kinds.Method at versions = versions ++ at ∷ []
versions_by _ at versions = versions

-- what one member changes of a method, and the number of its group: that which it joins, or its own
abbrev pub method_number : NotedKind → ℕ → Option ℕ → ℕ → ℕ
method_number kinds.Method from group number = joined from group number
method_number kinds.Classify from group number = joined from group number
method_number _ from group number = number

pub record IsNotedOf (noted : Noted) (from number : ℕ) (old new : MethodTrace) (result : ℕ) : Type 0 where
  pub group : new.group ≡ group_after noted.kind from number old.group
  pub versions : new.versions.items ≡ versions_by noted.kind noted.at old.versions.items
  pub joins : result ≡ method_number noted.kind from old.group number

-- of the methods of one side of a class
pub record IsNotedAmong (noted : Noted) (from number : ℕ) (old new : Methods) (result : ℕ) : Type 0 where
  pub groups : (q : List ℕ) → group_seen (held new q) ≡ cond (bytes_eq q noted.selector) (group_after noted.kind from number (group_seen (held old q))) (group_seen (held old q))
  pub versions : (q : List ℕ) → versions_seen (held new q) ≡ cond (bytes_eq q noted.selector) (versions_by noted.kind noted.at (versions_seen (held old q))) (versions_seen (held old q))
  pub joins : result ≡ method_number noted.kind from (group_seen (held old noted.selector)) number

-- of both sides
pub record IsNotedOnSide (noted : Noted) (from number : ℕ) (old new : ClassTrace) (result : ℕ) : Type 0 where
  pub comment : new.comment ≡ old.comment
  pub removed : new.removed ≡ old.removed
  pub groups : (s : Side) (q : List ℕ) → group_seen (held (methods_on new s) q)
      ≡ cond (same_side s noted.side && bytes_eq q noted.selector) (group_after noted.kind from number (group_seen (held (methods_on old s) q))) (group_seen (held (methods_on old s) q))
  pub versions : (s : Side) (q : List ℕ) → versions_seen (held (methods_on new s) q)
      ≡ cond (same_side s noted.side && bytes_eq q noted.selector) (versions_by noted.kind noted.at (versions_seen (held (methods_on old s) q))) (versions_seen (held (methods_on old s) q))
  pub joins : result ≡ method_number noted.kind from (group_seen (held (methods_on old noted.side) noted.selector)) number

-- of a class
pub record IsNotedUnder (noted : Noted) (from number : ℕ) (old new : ClassTrace) (result : ℕ) : Type 0 where
  pub comment : new.comment ≡ comment_after noted.kind from number old.comment
  pub removed : new.removed ≡ removed_after noted.kind number old.removed
  pub groups : (s : Side) (q : List ℕ) → group_seen (held (methods_on new s) q)
      ≡ cond (same_side s noted.side && bytes_eq q noted.selector) (group_after noted.kind from number (group_seen (held (methods_on old s) q))) (group_seen (held (methods_on old s) q))
  pub versions : (s : Side) (q : List ℕ) → versions_seen (held (methods_on new s) q)
      ≡ cond (same_side s noted.side && bytes_eq q noted.selector) (versions_by noted.kind noted.at (versions_seen (held (methods_on old s) q))) (versions_seen (held (methods_on old s) q))
  pub joins : result ≡ option_map_or (λ u. joined from (group_under old u) number) (topic_of noted) number

-- of all classes
abbrev pub group_with : Noted → ℕ → ℕ → Topic → Option ℕ → Option ℕ
group_with noted from number u group =
    if is_on u noted then Some (joined from group number) else (if removes_method_by noted.kind u noted then None else group)

abbrev pub versions_with : Noted → MethodName → List ℕ → List ℕ
versions_with noted name versions = if is_same name (name_of noted) then versions_by noted.kind noted.at versions else versions

abbrev pub first_joined : ℕ → Classes → Topic → ℕ
first_joined begun classes u = max begun (removed_in classes (class_of u))

pub record IsNotedIn (noted : Noted) (begun number : ℕ) (old new : Classes) (result : ℕ) : Type 0 where
  pub groups : (u : Topic) → group_in new u ≡ group_with noted (first_joined begun old u) number u (group_in old u)
  pub removed : (class : List ℕ) → removed_in new class ≡ (if removes_class_by noted.kind class noted && is_some (held old class) then number else removed_in old class)
  pub versions : (name : MethodName) → versions_in new name ≡ versions_with noted name (versions_in old name)
  pub joins : result ≡ option_map_or (λ u. joined (first_joined begun old u) (group_in old u) number) (topic_of noted) number

-- the same without the versions, which a member that is restored leaves as they are
pub record IsJoinedIn (noted : Noted) (begun number : ℕ) (old new : Classes) (result : ℕ) : Type 0 where
  pub groups : (u : Topic) → group_in new u ≡ group_with noted (first_joined begun old u) number u (group_in old u)
  pub removed : (class : List ℕ) → removed_in new class ≡ (if removes_class_by noted.kind class noted && is_some (held old class) then number else removed_in old class)
  pub joins : result ≡ option_map_or (λ u. joined (first_joined begun old u) (group_in old u) number) (topic_of noted) number

-- ---- one version more, and no member

abbrev pub versions_more : Bool → ℕ → List ℕ → List ℕ
versions_more own at versions = if own then versions ++ at ∷ [] else versions

pub record IsMoreAmong (selector : List ℕ) (at : ℕ) (old new : Methods) : Type 0 where
  pub groups : (q : List ℕ) → group_seen (held new q) ≡ group_seen (held old q)
  pub versions : (q : List ℕ) → versions_seen (held new q) ≡ versions_more (bytes_eq q selector) at (versions_seen (held old q))

pub record IsMoreUnder (side : Side) (selector : List ℕ) (at : ℕ) (old new : ClassTrace) : Type 0 where
  pub comment : new.comment ≡ old.comment
  pub removed : new.removed ≡ old.removed
  pub groups : (s : Side) (q : List ℕ) → group_seen (held (methods_on new s) q) ≡ group_seen (held (methods_on old s) q)
  pub versions : (s : Side) (q : List ℕ) → versions_seen (held (methods_on new s) q) ≡ versions_more (same_side s side && bytes_eq q selector) at (versions_seen (held (methods_on old s) q))

pub record IsMoreIn (name : MethodName) (at : ℕ) (old new : Classes) : Type 0 where
  pub groups : (u : Topic) → group_in new u ≡ group_in old u
  pub removed : (class : List ℕ) → removed_in new class ≡ removed_in old class
  pub versions : (other : MethodName) → versions_in new other ≡ versions_more (is_same other name) at (versions_in old other)

-- ---- room for one member more

abbrev pub HasRoom : Option MethodTrace → Type 0
HasRoom None = ⊥
HasRoom (Some m) = vec_len m.versions < vec_capacity m.versions

-- a member of this kind has its place where it asks for one
abbrev pub HasPlace : NotedKind → Option MethodTrace → Type 0
HasPlace kinds.Method trace = HasRoom trace
HasPlace kinds.Classify trace = HasRoom trace
HasPlace _ trace = ⊤

abbrev pub HasPlaceBy : NotedKind → Classes → Noted → Type 0
HasPlaceBy kinds.Comment classes noted = IsSome (held classes noted.class_name)
HasPlaceBy kinds.Method classes noted = HasRoom (method_in classes (name_of noted))
HasPlaceBy kinds.Classify classes noted = HasRoom (method_in classes (name_of noted))
HasPlaceBy _ classes noted = ⊤

abbrev pub HasPlaceIn : Classes → Noted → Type 0
HasPlaceIn classes noted = HasPlaceBy noted.kind classes noted

-- what is seen stays
pub record AreAlike (old new : Methods) : Type 0 where
  pub groups : (q : List ℕ) → group_seen (held new q) ≡ group_seen (held old q)
  pub versions : (q : List ℕ) → versions_seen (held new q) ≡ versions_seen (held old q)

pub record AreAlikeUnder (old new : ClassTrace) : Type 0 where
  pub comment : new.comment ≡ old.comment
  pub removed : new.removed ≡ old.removed
  pub methods : (s : Side) → AreAlike (methods_on old s) (methods_on new s)

pub record AreAlikeIn (old new : Classes) : Type 0 where
  pub groups : (u : Topic) → group_in new u ≡ group_in old u
  pub removed : (class : List ℕ) → removed_in new class ≡ removed_in old class
  pub versions : (name : MethodName) → versions_in new name ≡ versions_in old name

-- ---- the versions as they are shown

abbrev pub places_of : Methods → Places
places_of methods = list_map (λ e. (e.0.items, e.1.versions.items)) methods

abbrev pub versions_of_classes : Classes → List (List ℕ × ClassVersions)
versions_of_classes classes = list_map (λ e. (e.0.items, record { instance = places_of e.1.instance.entries; class = places_of e.1.class.entries })) classes
