-- A member is restored: it joins its group, and leaves out none.
use Rattle.std.proofs.Common.{◌≡◌, ◌∙◌, ap, sym, subst, refl, ℕ, ◌+◌, ◌-◌, ◌^◌, ◌<◌, false, true, true≢false, if◌then◌else◌, Bool, List, [], ◌∷◌, ◌++◌, length, reverse, Option, None, Vec}
use Rattle.std.specs.Global.{Global}
use Rattle.std.proofs.lemmas.List.{reverse-append}
use Rattle.s80_history.specs.declared.members.Member.{Member}
use Rattle.s80_history.specs.declared.noted.Noted.{Noted}
use Rattle.s80_history.specs.declared.noted.NotedKind.{NotedKind}
use Rattle.s80_history.specs.declared.noted.NotedKind.TheVariants as kinds
use Rattle.s80_history.specs.History.{HistoryState, version_places, with_newest}
use Rattle.s80_history.specs.Lists.{MethodName, is_same}
use Rattle.s80_history.specs.Members.{added_as, in_set}
use Rattle.s80_history.specs.Sound.{IsSound, group_here}
use Rattle.s80_history.specs.Topics.{Topic, CommentOf, MethodOf, joining, name_of}
use Rattle.s80_history.specs.Traces.{AreAlikeIn, Classes, IsJoinedIn, IsMoreIn, IsNotedIn, first_joined, group_in, group_with, versions_by, versions_in, versions_more, versions_with}
use Rattle.s80_history.proofs.Continuing.{places_shown, shown}
use Rattle.s80_history.proofs.Stepping.{items_after, joins_of, none_made, sound_after, sound_unready}
use Rattle.s80_history.proofs.Tying.{set_restored}

-- ---- it joins its group as one of its kind

abbrev as_kind : Noted → NotedKind → Noted
as_kind m kind = record m { kind = kind }

module _ (m : Noted) (begun number : ℕ) (old new : Classes) (result : ℕ) where
  group_of_put : (u : Topic) (from : ℕ) (g : Option ℕ) → group_with (as_kind m kinds.Classify) from number u g ≡ group_with (as_kind m kinds.Method) from number u g
  group_of_put (CommentOf class) from g = refl
  group_of_put (MethodOf name) from g = refl

  joins_by : (kind : NotedKind) → IsNotedIn (as_kind m (joining kind)) begun number old new result → IsJoinedIn (as_kind m kind) begun number old new result
  joins_by kinds.Define is = joins_of (as_kind m kinds.Define) begun number old new result is
  joins_by kinds.ClassVars is = joins_of (as_kind m kinds.ClassVars) begun number old new result is
  joins_by kinds.Comment is = joins_of (as_kind m kinds.Comment) begun number old new result is
  joins_by kinds.Method is = record {
    groups = λ u. is.groups u ∙ group_of_put u (first_joined begun old u) (group_in old u);
    removed = is.removed;
    joins = is.joins;
  }
  joins_by kinds.RemoveMethod is = joins_of (as_kind m kinds.RemoveMethod) begun number old new result is
  joins_by kinds.Classify is = joins_of (as_kind m kinds.Classify) begun number old new result is
  joins_by kinds.RemoveClass is = joins_of (as_kind m kinds.RemoveClass) begun number old new result is

  pub joins_as : (kind : NotedKind) → kind ≡ joining m.kind → IsNotedIn (as_kind m kind) begun number old new result → IsJoinedIn m begun number old new result
  joins_as kind is noted = joins_by m.kind (subst (λ k. IsNotedIn (as_kind m k) begun number old new result) is noted)

either_way : {A : Type 0} (b : Bool) (x : A) → (if b then x else x) ≡ x
either_way true x = refl
either_way false x = refl

versions_by_none : (kind : NotedKind) (at : ℕ) (versions : List ℕ) → versions_by (joining kind) at versions ≡ versions
versions_by_none kinds.Define at versions = refl
versions_by_none kinds.ClassVars at versions = refl
versions_by_none kinds.Comment at versions = refl
versions_by_none kinds.Method at versions = refl
versions_by_none kinds.RemoveMethod at versions = refl
versions_by_none kinds.Classify at versions = refl
versions_by_none kinds.RemoveClass at versions = refl

-- and leaves no version
pub versions_as : (m : Noted) (kind : NotedKind) (name : MethodName) (versions : List ℕ) → kind ≡ joining m.kind → versions_with (as_kind m kind) name versions ≡ versions
versions_as m kind name versions is =
    ap (λ k. versions_with (as_kind m k) name versions) is
    ∙ ap (λ vs. if is_same name (name_of m) then vs else versions) (versions_by_none m.kind m.at versions)
    ∙ either_way (is_same name (name_of m)) versions

-- ---- all that is kept

-- room is made (mid), and the member joins its group (now)
module _ (members room new : Vec Member Global) (begun : ℕ) (classes mid now : Classes) (next : Option Noted) (m : Noted) (kind : NotedKind) (number first own : ℕ)
    (sound : IsSound members begun classes next) (same : room.items ≡ members.items) (alike : AreAlikeIn classes mid) (kind_is : kind ≡ joining m.kind)
    (numbered : number ≡ begun + length room.items) (noted : IsNotedIn (as_kind m kind) begun number mid now first) where
  sound_mid : IsSound room begun mid None
  sound_mid = none_made members room begun classes mid next same alike sound

  joined_mid : IsJoinedIn m begun number mid now first
  joined_mid = joins_as m begun number mid now first kind kind_is noted

  none_left_out : {P : Type 0} → false ≡ true → P
  none_left_out e = absurd (true≢false (sym e))

  module _ (own_is : own ≡ first - begun) (is : new.items ≡ added_as false room.items m own) (fits : begun + length room.items + 1 < 2 ^ 64) where
    pub sound_restored : IsSound new begun now None
    sound_restored = sound_after room begun mid None m now number first sound_mid numbered joined_mid new own false none_left_out own_is is fits

    pub set_is_restored : in_set new.items ≡ in_set members.items ++ m ∷ []
    set_is_restored =
        ap in_set (items_after room begun mid None m now number first sound_mid numbered joined_mid new own false none_left_out own_is is fits)
        ∙ set_restored room.items m (group_here begun mid) sound_mid.within sound_mid.tied
        ∙ ap (λ xs. in_set xs ++ m ∷ []) same

  pub versions_restored : (name : MethodName) → versions_in now name ≡ versions_in classes name
  versions_restored name = noted.versions name ∙ versions_as m kind name (versions_in mid name) kind_is ∙ alike.versions name

-- ---- a version more

newest_of : (own : Bool) (at : ℕ) (versions : List ℕ) → reverse (versions_more own at versions) ≡ (if own then at ∷ reverse versions else reverse versions)
newest_of true at versions = reverse-append versions (at ∷ [])
newest_of false at versions = refl

-- room is made (mid), and the version is added (now)
module _ (members : Vec Member Global) (begun : ℕ) (classes mid now : Classes) (next : Option Noted) (name : MethodName) (at : ℕ) (alike : AreAlikeIn classes mid) (more : IsMoreIn name at mid now) where
  pub sound_more : IsSound members begun classes next → IsSound members begun now None
  sound_more sound = sound_unready members members begun classes now next refl (λ u. more.groups u ∙ alike.groups u) (λ class. more.removed class ∙ alike.removed class) sound

  pub places_more : (h : HistoryState) (other : MethodName) → shown members.items classes next ≡ h → version_places (shown members.items now None) other ≡ with_newest name at other (version_places h other)
  places_more h other is =
      places_shown members.items now None (shown members.items now None) other refl
      ∙ ap reverse (more.versions other ∙ ap (versions_more (is_same other name) at) (alike.versions other))
      ∙ newest_of (is_same other name) at (versions_in classes other)
      ∙ ap (with_newest name at other) (sym (places_shown members.items classes next h other is))
