-- Room is made, and nothing is seen to change.
use Rattle.std.proofs.Common.{◌≡◌, ◌∙◌, ap, sym, refl, ℕ, List, [], Option, Some, None, is_some, option_and_then, true}
use Rattle.std.specs.Option.{option_map_or}
use Rattle.s80_base.specs.declared.names.Side.{Side}
use Rattle.s80_base.specs.declared.names.Side.TheVariants.{Instance, Class}
use Rattle.s80_history.specs.declared.trace.MethodTrace.{MethodTrace}
use Rattle.s80_history.specs.declared.trace.ClassTrace.{ClassTrace}
use Rattle.s80_history.specs.Lists.{MethodName}
use Rattle.s80_history.specs.Topics.{Topic, CommentOf, MethodOf, class_of}
use Rattle.s80_history.specs.Traces.{AreAlike, AreAlikeIn, AreAlikeUnder, Classes, Key, Methods, group_seen, group_under, held, methods_on, versions_seen}
use Rattle.s80_history.proofs.Naming.{IsNamed, named_put, named_written, put, seen_same, written}

-- ---- methods

abbrev same_seen : (es mid new : Methods) → AreAlike es mid → AreAlike mid new → AreAlike es new
same_seen es mid new one other = record {
  groups = λ q. other.groups q ∙ one.groups q;
  versions = λ q. other.versions q ∙ one.versions q;
}

named_alike : (es new : Methods) (name : List ℕ) (old : Option MethodTrace) (y : MethodTrace) → held es name ≡ old → IsNamed es name y new → y.group ≡ group_seen old → y.versions.items ≡ versions_seen old
    → AreAlike es new
named_alike es new name old y there now group versions = record {
  groups = seen_same group_seen es new name old y there now group;
  versions = seen_same versions_seen es new name old y there now versions;
}

pub method_written : (es mid new : Methods) (own : List ℕ) (x y : MethodTrace) → AreAlike es mid → Some x ≡ held mid own → new ≡ written own mid y → y.group ≡ x.group
    → y.versions.items ≡ x.versions.items → AreAlike es new
method_written es mid new own x y so_far there is group versions =
    same_seen es mid new so_far (named_alike mid new own (Some x) y (sym there) (named_written mid new own own x y refl there is) group versions)

pub method_put : (es new : Methods) (k : Key) (own : List ℕ) (y : MethodTrace) → held es own ≡ None → k.items ≡ own → new ≡ put es k y → y.group ≡ None → y.versions.items ≡ [] → AreAlike es new
method_put es new k own y none key is group versions = named_alike es new own None y none (named_put es new k own y key is) group versions

-- ---- classes

abbrev versions_under : MethodName → Option ClassTrace → List ℕ
versions_under name o = versions_seen (option_and_then (λ c. held (methods_on c name.side) name.selector) o)

abbrev removed_seen : Option ClassTrace → ℕ
removed_seen o = option_map_or (λ c. c.removed) o 0

group_alike : (x y : ClassTrace) → AreAlikeUnder x y → (u : Topic) → group_under y u ≡ group_under x u
group_alike x y alike (CommentOf class) = alike.comment
group_alike x y alike (MethodOf name) = (alike.methods name.side).groups name.selector

in_alike : (es mid new : Classes) → AreAlikeIn es mid → AreAlikeIn mid new → AreAlikeIn es new
in_alike es mid new one other = record {
  groups = λ u. other.groups u ∙ one.groups u;
  removed = λ class. other.removed class ∙ one.removed class;
  versions = λ name. other.versions name ∙ one.versions name;
}

pub class_written : (es mid new : Classes) (own : List ℕ) (x y : ClassTrace) → AreAlikeIn es mid → Some x ≡ held mid own → new ≡ written own mid y → AreAlikeUnder x y → AreAlikeIn es new
class_written es mid new own x y so_far there is alike =
    let now : IsNamed mid own y new = named_written mid new own own x y refl there is in
    in_alike es mid new so_far (record {
      groups = λ u. seen_same (option_and_then (λ (c : ClassTrace). group_under c u)) mid new own (Some x) y (sym there) now (group_alike x y alike u) (class_of u);
      removed = seen_same removed_seen mid new own (Some x) y (sym there) now alike.removed;
      versions = λ name. seen_same (versions_under name) mid new own (Some x) y (sym there) now ((alike.methods name.side).versions name.selector) name.class_name;
    })

none_on : (y : ClassTrace) → y.instance.entries ≡ [] → y.class.entries ≡ [] → (s : Side) → methods_on y s ≡ []
none_on y instance class Instance = instance
none_on y instance class Class = class

group_none : (y : ClassTrace) → y.comment ≡ None → ((s : Side) → methods_on y s ≡ []) → (u : Topic) → group_under y u ≡ None
group_none y comment none (CommentOf class) = comment
group_none y comment none (MethodOf name) = ap (λ es. group_seen (held es name.selector)) (none name.side)

pub class_put : (es new : Classes) (k : Key) (own : List ℕ) (y : ClassTrace) → held es own ≡ None → k.items ≡ own → new ≡ put es k y → y.removed ≡ 0 → y.comment ≡ None
    → y.instance.entries ≡ [] → y.class.entries ≡ [] → AreAlikeIn es new
class_put es new k own y absent key is removed comment instance class =
    let now : IsNamed es own y new = named_put es new k own y key is in
    let none = none_on y instance class in
    record {
      groups = λ u. seen_same (option_and_then (λ (c : ClassTrace). group_under c u)) es new own None y absent now (group_none y comment none u) (class_of u);
      removed = seen_same removed_seen es new own None y absent now removed;
      versions = λ name. seen_same (versions_under name) es new own None y absent now (ap (λ methods. versions_seen (held methods name.selector)) (none name.side)) name.class_name;
    }

pub is_there : {X : Type 0} (r : Option X) (x : X) → r ≡ Some x → is_some r ≡ true
is_there r x is = ap is_some is
