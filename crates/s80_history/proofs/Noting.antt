-- What one member more leaves of classes and methods.
use Rattle.std.proofs.Common.{◌≡◌, ◌∙◌, ap, sym, refl, ℕ, max, cond, ◌&&◌, if◌then◌else◌, List, [], ◌∷◌, ◌++◌, Option, Some, None, is_some, option_and_then, IsSome, Bool, true, false, subst, true≢false}
use Rattle.std.specs.Option.{option_map_or}
use Rattle.std.specs.Str.{bytes_eq}
use Rattle.s80_base.specs.declared.names.Side.{Side}
use Rattle.s80_dict.specs.Table.{same_side}
use Rattle.s80_history.specs.declared.noted.Noted.{Noted}
use Rattle.s80_history.specs.declared.noted.NotedKind.{NotedKind}
use Rattle.s80_history.specs.declared.noted.NotedKind.TheVariants as kinds
use Rattle.s80_history.specs.declared.trace.MethodTrace.{MethodTrace}
use Rattle.s80_history.specs.declared.trace.ClassTrace.{ClassTrace}
use Rattle.s80_history.specs.Lists.{MethodName, is_same}
use Rattle.s80_history.specs.Topics.{Topic, CommentOf, MethodOf, class_of, is_on_by, name_of, removes_class_by, removes_method_by, topic_by}
use Rattle.s80_history.specs.Traces.{Classes, HasPlace, HasPlaceBy, HasPlaceIn, HasRoom, IsMoreAmong, IsMoreIn, IsMoreUnder, IsNotedAmong, IsNotedIn, IsNotedOf, IsNotedUnder, Methods, comment_after, first_joined, group_after, group_in, group_seen, group_under, group_with, held, joined, method_in, method_number, methods_on, removed_after, removed_in, versions_by, versions_in, versions_more, versions_seen, versions_with}
use Rattle.s80_history.proofs.Naming.{IsNamed, named_written, seen_after, seen_same, written}
use Rattle.s80_history.proofs.Same.{never_both, text_same}

-- ---- a method

pub among_noted : (noted : Noted) (from number : ℕ) (es new : Methods) (own : List ℕ) (x y : MethodTrace) (result : ℕ) → own ≡ noted.selector → Some x ≡ held es own → new ≡ written own es y
    → IsNotedOf noted from number x y result → IsNotedAmong noted from number es new result
among_noted noted from number es new own x y result key there is changed =
    let here : held es noted.selector ≡ Some x = sym (there ∙ ap (held es) key) in
    let now : IsNamed es noted.selector y new = named_written es new noted.selector own x y key there is in
    record {
      groups = seen_after group_seen es new noted.selector (group_after noted.kind from number) x y here now changed.group;
      versions = seen_after versions_seen es new noted.selector (versions_by noted.kind noted.at) x y here now changed.versions;
      joins = changed.joins ∙ ap (λ o. method_number noted.kind from (group_seen o) number) (sym here);
    }

-- ---- a class

abbrev groups_on : ClassTrace → Side → List ℕ → Option ℕ
groups_on c s q = group_seen (held (methods_on c s) q)

abbrev versions_on : ClassTrace → Side → List ℕ → List ℕ
versions_on c s q = versions_seen (held (methods_on c s) q)

either_way : {A : Type 0} (b : Bool) (x : A) → x ≡ cond b x x
either_way true x = refl
either_way false x = refl

-- ---- all classes

-- of the class of this name the tests of names are those of sides and selectors
of_class : (name : MethodName) (m : Noted) → bytes_eq name.class_name m.class_name ≡ true → is_same name (name_of m) ≡ (same_side name.side m.side && bytes_eq name.selector m.selector)
of_class name m same = ap (λ b. b && same_side name.side m.side && bytes_eq name.selector m.selector) same

of_other : (name : MethodName) (m : Noted) → bytes_eq name.class_name m.class_name ≡ false → is_same name (name_of m) ≡ false
of_other name m apart = ap (λ b. b && same_side name.side m.side && bytes_eq name.selector m.selector) apart

-- the group of a topic of this class
abbrev group_by : NotedKind → Noted → ℕ → ℕ → Topic → Option ℕ → Option ℕ
group_by kind m from number u g = if is_on_by kind u m then Some (joined from g number) else (if removes_method_by kind u m then None else g)

module _ (m : Noted) (from number : ℕ) (x y : ClassTrace) where
  abbrev Groups : NotedKind → Type 0
  Groups kind = (s : Side) (q : List ℕ) → groups_on y s q ≡ cond (same_side s m.side && bytes_eq q m.selector) (group_after kind from number (groups_on x s q)) (groups_on x s q)

  comment_by : (kind : NotedKind) (class : List ℕ) → bytes_eq class m.class_name ≡ true → y.comment ≡ comment_after kind from number x.comment
      → y.comment ≡ group_by kind m from number (CommentOf class) x.comment
  comment_by kinds.Define class same is = is
  comment_by kinds.ClassVars class same is = is
  comment_by kinds.Comment class same is = is ∙ ap (λ b. if b then Some (joined from x.comment number) else x.comment) (sym same)
  comment_by kinds.Method class same is = is
  comment_by kinds.RemoveMethod class same is = is
  comment_by kinds.Classify class same is = is
  comment_by kinds.RemoveClass class same is = is

  method_by : (kind : NotedKind) (name : MethodName) → bytes_eq name.class_name m.class_name ≡ true → Groups kind
      → groups_on y name.side name.selector ≡ group_by kind m from number (MethodOf name) (groups_on x name.side name.selector)
  method_by kinds.Define name same groups = groups name.side name.selector ∙ sym (either_way (same_side name.side m.side && bytes_eq name.selector m.selector) (groups_on x name.side name.selector))
  method_by kinds.ClassVars name same groups = groups name.side name.selector ∙ sym (either_way (same_side name.side m.side && bytes_eq name.selector m.selector) (groups_on x name.side name.selector))
  method_by kinds.Comment name same groups = groups name.side name.selector ∙ sym (either_way (same_side name.side m.side && bytes_eq name.selector m.selector) (groups_on x name.side name.selector))
  method_by kinds.Method name same groups =
      let g = groups_on x name.side name.selector in groups name.side name.selector ∙ ap (λ b. if b then Some (joined from g number) else g) (sym (of_class name m same))
  method_by kinds.RemoveMethod name same groups = let g = groups_on x name.side name.selector in groups name.side name.selector ∙ ap (λ b. if b then None else g) (sym (of_class name m same))
  method_by kinds.Classify name same groups =
      let g = groups_on x name.side name.selector in groups name.side name.selector ∙ ap (λ b. if b then Some (joined from g number) else g) (sym (of_class name m same))
  method_by kinds.RemoveClass name same groups = groups name.side name.selector ∙ sym (either_way (same_side name.side m.side && bytes_eq name.selector m.selector) (groups_on x name.side name.selector))

  topic_under : (result : ℕ) → IsNotedUnder m from number x y result → (u : Topic) → bytes_eq (class_of u) m.class_name ≡ true → group_under y u ≡ group_with m from number u (group_under x u)
  topic_under result is (CommentOf class) same = comment_by m.kind class same is.comment
  topic_under result is (MethodOf name) same = method_by m.kind name same is.groups

on_other_by : (kind : NotedKind) (u : Topic) (m : Noted) → bytes_eq (class_of u) m.class_name ≡ false → is_on_by kind u m ≡ false
on_other_by kinds.Define u m apart = refl
on_other_by kinds.ClassVars u m apart = refl
on_other_by kinds.Comment (CommentOf class) m apart = apart
on_other_by kinds.Comment (MethodOf name) m apart = refl
on_other_by kinds.Method (CommentOf class) m apart = refl
on_other_by kinds.Method (MethodOf name) m apart = of_other name m apart
on_other_by kinds.RemoveMethod u m apart = refl
on_other_by kinds.Classify (CommentOf class) m apart = refl
on_other_by kinds.Classify (MethodOf name) m apart = of_other name m apart
on_other_by kinds.RemoveClass u m apart = refl

removes_other_by : (kind : NotedKind) (u : Topic) (m : Noted) → bytes_eq (class_of u) m.class_name ≡ false → removes_method_by kind u m ≡ false
removes_other_by kinds.Define u m apart = refl
removes_other_by kinds.ClassVars u m apart = refl
removes_other_by kinds.Comment u m apart = refl
removes_other_by kinds.Method u m apart = refl
removes_other_by kinds.RemoveMethod (CommentOf class) m apart = refl
removes_other_by kinds.RemoveMethod (MethodOf name) m apart = of_other name m apart
removes_other_by kinds.Classify u m apart = refl
removes_other_by kinds.RemoveClass u m apart = refl

-- a topic of another class
topic_other : (m : Noted) (from number : ℕ) (u : Topic) (g : Option ℕ) → bytes_eq (class_of u) m.class_name ≡ false → group_with m from number u g ≡ g
topic_other m from number u g apart =
    ap (λ b. if b then Some (joined from g number) else (if removes_method_by m.kind u m then None else g)) (on_other_by m.kind u m apart)
    ∙ ap (λ b. if b then None else g) (removes_other_by m.kind u m apart)

removed_by : (kind : NotedKind) (m : Noted) (class : List ℕ) (there : Bool) (number old : ℕ) → bytes_eq class m.class_name ≡ true → there ≡ true
    → removed_after kind number old ≡ (if removes_class_by kind class m && there then number else old)
removed_by kinds.Define m class there number old same is = refl
removed_by kinds.ClassVars m class there number old same is = refl
removed_by kinds.Comment m class there number old same is = refl
removed_by kinds.Method m class there number old same is = refl
removed_by kinds.RemoveMethod m class there number old same is = refl
removed_by kinds.Classify m class there number old same is = refl
removed_by kinds.RemoveClass m class there number old same is = λ i. if sym same i && sym is i then number else old

removes_other_class : (kind : NotedKind) (m : Noted) (class : List ℕ) → bytes_eq class m.class_name ≡ false → removes_class_by kind class m ≡ false
removes_other_class kinds.Define m class apart = refl
removes_other_class kinds.ClassVars m class apart = refl
removes_other_class kinds.Comment m class apart = refl
removes_other_class kinds.Method m class apart = refl
removes_other_class kinds.RemoveMethod m class apart = refl
removes_other_class kinds.Classify m class apart = refl
removes_other_class kinds.RemoveClass m class apart = apart

class_of_topic_by : (kind : NotedKind) (m : Noted) (f g : Topic → ℕ) (d : ℕ) → ((u : Topic) → class_of u ≡ m.class_name → f u ≡ g u)
    → option_map_or f (topic_by kind m) d ≡ option_map_or g (topic_by kind m) d
class_of_topic_by kinds.Define m f g d same = refl
class_of_topic_by kinds.ClassVars m f g d same = refl
class_of_topic_by kinds.Comment m f g d same = same (CommentOf m.class_name) refl
class_of_topic_by kinds.Method m f g d same = same (MethodOf (name_of m)) refl
class_of_topic_by kinds.RemoveMethod m f g d same = refl
class_of_topic_by kinds.Classify m f g d same = same (MethodOf (name_of m)) refl
class_of_topic_by kinds.RemoveClass m f g d same = refl

module _ (noted : Noted) (begun number : ℕ) (es new : Classes) (x y : ClassTrace) (result : ℕ) (there : held es noted.class_name ≡ Some x) (now : IsNamed es noted.class_name y new)
    (changed : IsNotedUnder noted (max begun x.removed) number x y result) where
  here : (class : List ℕ) → bytes_eq class noted.class_name ≡ true → held es class ≡ Some x
  here class same = ap (held es) (text_same class noted.class_name same) ∙ there

  after : (class : List ℕ) (b : Bool) → bytes_eq class noted.class_name ≡ b → held new class ≡ cond b (Some y) (held es class)
  after class b is = now class ∙ ap (λ b. cond b (Some y) (held es class)) is

  groups_in : (u : Topic) → group_in new u ≡ group_with noted (first_joined begun es u) number u (group_in es u)
  groups_in u = go (bytes_eq (class_of u) noted.class_name) refl
    where
      go : (b : Bool) → bytes_eq (class_of u) noted.class_name ≡ b → group_in new u ≡ group_with noted (first_joined begun es u) number u (group_in es u)
      go true is =
          ap (option_and_then (λ (c : ClassTrace). group_under c u)) (after (class_of u) true is)
          ∙ topic_under noted (max begun x.removed) number x y result changed u is
          ∙ sym (ap (λ o. group_with noted (max begun (option_map_or (λ (c : ClassTrace). c.removed) o 0)) number u (option_and_then (λ (c : ClassTrace). group_under c u) o)) (here (class_of u) is))
      go false is =
          ap (option_and_then (λ (c : ClassTrace). group_under c u)) (after (class_of u) false is)
          ∙ sym (topic_other noted (first_joined begun es u) number u (group_in es u) is)

  removals_in : (class : List ℕ) → removed_in new class ≡ (if removes_class_by noted.kind class noted && is_some (held es class) then number else removed_in es class)
  removals_in class = go (bytes_eq class noted.class_name) refl
    where
      go : (b : Bool) → bytes_eq class noted.class_name ≡ b → removed_in new class ≡ (if removes_class_by noted.kind class noted && is_some (held es class) then number else removed_in es class)
      go true is =
          ap (λ o. option_map_or (λ (c : ClassTrace). c.removed) o 0) (after class true is)
          ∙ changed.removed
          ∙ removed_by noted.kind noted class (is_some (held es class)) number x.removed is (ap is_some (here class is))
          ∙ sym (ap (λ o. if removes_class_by noted.kind class noted && is_some (held es class) then number else option_map_or (λ (c : ClassTrace). c.removed) o 0) (here class is))
      go false is =
          ap (λ o. option_map_or (λ (c : ClassTrace). c.removed) o 0) (after class false is)
          ∙ sym (ap (λ b. if b && is_some (held es class) then number else removed_in es class) (removes_other_class noted.kind noted class is))

  abbrev seen_under : MethodName → Option ClassTrace → List ℕ
  seen_under name o = versions_seen (option_and_then (λ c. held (methods_on c name.side) name.selector) o)

  all_versions_in : (name : MethodName) → versions_in new name ≡ versions_with noted name (versions_in es name)
  all_versions_in name = go (bytes_eq name.class_name noted.class_name) refl
    where
      go : (b : Bool) → bytes_eq name.class_name noted.class_name ≡ b → versions_in new name ≡ versions_with noted name (versions_in es name)
      go true is =
          ap (seen_under name) (after name.class_name true is)
          ∙ changed.versions name.side name.selector
          ∙ ap (λ b. if b then versions_by noted.kind noted.at (versions_on x name.side name.selector) else versions_on x name.side name.selector) (sym (of_class name noted is))
          ∙ sym (ap (λ o. versions_with noted name (seen_under name o)) (here name.class_name is))
      go false is =
          ap (seen_under name) (after name.class_name false is)
          ∙ sym (ap (λ b. if b then versions_by noted.kind noted.at (versions_in es name) else versions_in es name) (of_other name noted is))

  pub class_noted : IsNotedIn noted begun number es new result
  class_noted = record {
    groups = groups_in;
    removed = removals_in;
    versions = all_versions_in;
    joins = changed.joins
        ∙ class_of_topic_by noted.kind noted (λ u. joined (max begun x.removed) (group_under x u) number) (λ u. joined (first_joined begun es u) (group_in es u) number) number
        (λ u own. let o : held es (class_of u) ≡ Some x = ap (held es) own ∙ there in
        sym (ap (λ o. joined (max begun (option_map_or (λ (c : ClassTrace). c.removed) o 0)) (option_and_then (λ (c : ClassTrace). group_under c u) o) number) o));
  }

-- ---- the place of a member

module _ (noted : Noted) (es : Classes) (x : ClassTrace) (there : held es noted.class_name ≡ Some x) where
  room_under : HasRoom (method_in es (name_of noted)) → HasRoom (held (methods_on x noted.side) noted.selector)
  room_under place = subst (λ o. HasRoom (option_and_then (λ (c : ClassTrace). held (methods_on c noted.side) noted.selector) o)) there place

  place_by : (kind : NotedKind) → HasPlaceBy kind es noted → HasPlace kind (held (methods_on x noted.side) noted.selector)
  place_by kinds.Define place = tt
  place_by kinds.ClassVars place = tt
  place_by kinds.Comment place = tt
  place_by kinds.Method place = room_under place
  place_by kinds.RemoveMethod place = tt
  place_by kinds.Classify place = room_under place
  place_by kinds.RemoveClass place = tt

  pub place_under : HasPlaceIn es noted → HasPlace noted.kind (held (methods_on x noted.side) noted.selector)
  place_under place = place_by noted.kind place

-- ---- where nothing was left of the class

module _ (noted : Noted) (begun number : ℕ) (es : Classes) (none : held es noted.class_name ≡ None) where
  gone : (class : List ℕ) → bytes_eq class noted.class_name ≡ true → held es class ≡ None
  gone class same = ap (held es) (text_same class noted.class_name same) ∙ none

  -- what it asks for isn't there
  no_room : {P : Type 0} → HasRoom (method_in es (name_of noted)) → P
  no_room place = absurd (subst (λ o. HasRoom (option_and_then (λ (c : ClassTrace). held (methods_on c noted.side) noted.selector) o)) none place)

  abbrev Absent : NotedKind → Type 0
  Absent kind = ((u : Topic) → None ≡ group_by kind noted (first_joined begun es u) number u None)
      × ((name : MethodName) → [] ≡ (if is_same name (name_of noted) then versions_by kind noted.at [] else []))
      × (number ≡ option_map_or (λ u. joined (first_joined begun es u) (group_in es u) number) (topic_by kind noted) number)

  absent_by : (kind : NotedKind) → HasPlaceBy kind es noted → Absent kind
  absent_by kinds.Define place = ((λ u. refl), (λ name. either_way (is_same name (name_of noted)) []), refl)
  absent_by kinds.ClassVars place = ((λ u. refl), (λ name. either_way (is_same name (name_of noted)) []), refl)
  absent_by kinds.Comment place = absurd (true≢false (sym (subst IsSome none place)))
  absent_by kinds.Method place = no_room place
  absent_by kinds.RemoveMethod place = ((λ u. either_way (removes_method_by kinds.RemoveMethod u noted) None), (λ name. either_way (is_same name (name_of noted)) []), refl)
  absent_by kinds.Classify place = no_room place
  absent_by kinds.RemoveClass place = ((λ u. refl), (λ name. either_way (is_same name (name_of noted)) []), refl)

  pub class_absent : HasPlaceIn es noted → IsNotedIn noted begun number es es number
  class_absent place = record { groups = groups; removed = removals; versions = versions; joins = absent.2 }
    where
      absent : Absent noted.kind
      absent = absent_by noted.kind place

      groups : (u : Topic) → group_in es u ≡ group_with noted (first_joined begun es u) number u (group_in es u)
      groups u = go (bytes_eq (class_of u) noted.class_name) refl
        where
          go : (b : Bool) → bytes_eq (class_of u) noted.class_name ≡ b → group_in es u ≡ group_with noted (first_joined begun es u) number u (group_in es u)
          go true is =
              let own = ap (option_and_then (λ (c : ClassTrace). group_under c u)) (gone (class_of u) is) in
              own ∙ absent.0 u ∙ sym (ap (group_with noted (first_joined begun es u) number u) own)
          go false is = sym (topic_other noted (first_joined begun es u) number u (group_in es u) is)

      removals : (class : List ℕ) → removed_in es class ≡ (if removes_class_by noted.kind class noted && is_some (held es class) then number else removed_in es class)
      removals class = go (bytes_eq class noted.class_name) refl
        where
          go : (b : Bool) → bytes_eq class noted.class_name ≡ b → removed_in es class ≡ (if removes_class_by noted.kind class noted && is_some (held es class) then number else removed_in es class)
          go true is =
              sym (ap (λ o. if removes_class_by noted.kind class noted && is_some o then number else removed_in es class) (gone class is)
              ∙ ap (λ b. if b then number else removed_in es class) (never_both (removes_class_by noted.kind class noted)))
          go false is = sym (ap (λ b. if b && is_some (held es class) then number else removed_in es class) (removes_other_class noted.kind noted class is))

      versions : (name : MethodName) → versions_in es name ≡ versions_with noted name (versions_in es name)
      versions name = go (bytes_eq name.class_name noted.class_name) refl
        where
          go : (b : Bool) → bytes_eq name.class_name noted.class_name ≡ b → versions_in es name ≡ versions_with noted name (versions_in es name)
          go true is =
              let own = ap (λ o. versions_seen (option_and_then (λ (c : ClassTrace). held (methods_on c name.side) name.selector) o)) (gone name.class_name is) in
              own ∙ absent.1 name ∙ sym (ap (versions_with noted name) own)
          go false is = sym (ap (λ b. if b then versions_by noted.kind noted.at (versions_in es name) else versions_in es name) (of_other name noted is))

-- ---- one version more, and no member

pub among_more : (selector : List ℕ) (at : ℕ) (es new : Methods) (own : List ℕ) (x y : MethodTrace) → own ≡ selector → Some x ≡ held es own → new ≡ written own es y → y.group ≡ x.group
    → y.versions.items ≡ x.versions.items ++ at ∷ [] → IsMoreAmong selector at es new
among_more selector at es new own x y key there is group versions =
    let here : held es selector ≡ Some x = sym (there ∙ ap (held es) key) in
    let now : IsNamed es selector y new = named_written es new selector own x y key there is in
    record {
      groups = seen_same group_seen es new selector (Some x) y here now group;
      versions = seen_after versions_seen es new selector (λ vs. vs ++ at ∷ []) x y here now versions;
    }

module _ (name : MethodName) (at : ℕ) (es new : Classes) (x y : ClassTrace) (there : held es name.class_name ≡ Some x) (now : IsNamed es name.class_name y new)
    (changed : IsMoreUnder name.side name.selector at x y) where
  group_more : (u : Topic) → group_under y u ≡ group_under x u
  group_more (CommentOf class) = changed.comment
  group_more (MethodOf other) = changed.groups other.side other.selector

  abbrev seen_of : MethodName → Option ClassTrace → List ℕ
  seen_of other o = versions_seen (option_and_then (λ c. held (methods_on c other.side) other.selector) o)

  versions_now : (other : MethodName) → versions_in new other ≡ versions_more (is_same other name) at (versions_in es other)
  versions_now other = go (bytes_eq other.class_name name.class_name) refl
    where
      after_other : (b : Bool) → bytes_eq other.class_name name.class_name ≡ b → held new other.class_name ≡ cond b (Some y) (held es other.class_name)
      after_other b is = now other.class_name ∙ ap (λ b. cond b (Some y) (held es other.class_name)) is

      go : (b : Bool) → bytes_eq other.class_name name.class_name ≡ b → versions_in new other ≡ versions_more (is_same other name) at (versions_in es other)
      go true is =
          ap (seen_of other) (after_other true is)
          ∙ changed.versions other.side other.selector
          ∙ ap (λ b. versions_more (b && same_side other.side name.side && bytes_eq other.selector name.selector) at (versions_on x other.side other.selector)) (sym is)
          ∙ sym (ap (λ o. versions_more (is_same other name) at (seen_of other o)) (ap (held es) (text_same other.class_name name.class_name is) ∙ there))
      go false is =
          ap (seen_of other) (after_other false is)
          ∙ sym (ap (λ b. versions_more (b && same_side other.side name.side && bytes_eq other.selector name.selector) at (versions_in es other)) is)

  pub class_more : IsMoreIn name at es new
  class_more = record {
    groups = λ u. seen_same (option_and_then (λ (c : ClassTrace). group_under c u)) es new name.class_name (Some x) y there now (group_more u) (class_of u);
    removed = seen_same (λ o. option_map_or (λ (c : ClassTrace). c.removed) o 0) es new name.class_name (Some x) y there now changed.removed;
    versions = versions_now;
  }

-- where a method has room its class is there
pub room_in : (name : MethodName) (es : Classes) (x : ClassTrace) → held es name.class_name ≡ Some x → HasRoom (method_in es name) → HasRoom (held (methods_on x name.side) name.selector)
room_in name es x there room = subst (λ o. HasRoom (option_and_then (λ (c : ClassTrace). held (methods_on c name.side) name.selector) o)) there room
