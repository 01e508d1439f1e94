-- What a tree sends to a class or to its organization, and where it sends nothing.
use Rattle.std.proofs.Common.{◌≡◌, length, ℕ, Option, Some, None, refl, ap, sym, ◌∙◌, arith}
use Rattle.std.specs.List.{slice_get}
use Rattle.s80_base.specs.declared.names.Side.{Side}
use Rattle.s80_base.specs.declared.names.Side.TheVariants.{Instance, Class}
use Rattle.s80_tree.specs.declared.name.NameAt.{NameAt}
use Rattle.s80_tree.specs.Tree.{DoItParts, ExprTree, MessageTree, MessageTrees, messages_list, no_messages, messages}
use Rattle.s80_form.specs.TreeParts.{Finds, IsSentToName, IsSending, IsOrganizing, alone, all_sent, to_side, to_organization}

-- where nothing is found
pub nothing : {X Y : Type 0} (view : X → Y) (P : Y → Type 0) (r : Option X) → r ≡ None → ((y : Y) → P y → ⊥) → Finds view P r
nothing view P None e h = h
nothing view P (Some x) e h = absurd (cc)

-- what is found with one property has the other
pub finds_same : {X Y : Type 0} (view : X → Y) (P Q : Y → Type 0) → ((y : Y) → P y → Q y) → ((y : Y) → Q y → P y) → (r : Option X) → Finds view P r → Finds view Q r
finds_same view P Q to back (Some x) h = to (view x) h
finds_same view P Q to back None h = λ y q. h y (back y q)

-- a way to send a message to a side: to that side, or to its organization
abbrev pub Route : Type 0
Route = Side × MessageTree → MessageTrees

abbrev pub IsRouted : Route → DoItParts → NameAt × Side × MessageTree → Type 0
IsRouted route tree p = IsSentToName tree (p.0, route (p.1, p.2))

-- a tree sends these messages at most
alone_same : (e f : ExprTree) → alone e ≡ alone f → e ≡ f
alone_same e f h = let s = ap (λ (t : DoItParts). t.body) h in cc

sent_same : (n o : NameAt) (ms ks : MessageTrees) → all_sent (n, ms) ≡ all_sent (o, ks) → (n ≡ o) × (ms ≡ ks)
sent_same n o ms ks e = ((cc), (cc))

pub messages_same : (tree : DoItParts) (p q : NameAt × MessageTrees) → IsSentToName tree p → IsSentToName tree q → (p.0 ≡ q.0) × (p.1 ≡ q.1)
messages_same tree p q h i = sent_same p.0 q.0 p.1 q.1 (alone_same (all_sent p) (all_sent q) (sym h.tree_is ∙ i.tree_is))

-- each message to a side, and to its organization, is one
side_same : (s t : Side) (m k : MessageTree) → to_side (s, m) ≡ to_side (t, k) → (s ≡ t) × (m ≡ k)
side_same Instance Instance m k e = (refl, (let same : Some m ≡ Some k = ap (λ ms. slice_get (messages_list ms) 0) e in cc))
side_same Class Class m k e = (refl, (let same : Some m ≡ Some k = ap (λ ms. slice_get (messages_list ms) 1) e in cc))
side_same Instance Class m k e = absurd (omega (arith, ap (λ ms. length (messages_list ms)) e))
side_same Class Instance m k e = absurd (omega (arith, ap (λ ms. length (messages_list ms)) e))

organization_same : (s t : Side) (m k : MessageTree) → to_organization (s, m) ≡ to_organization (t, k) → (s ≡ t) × (m ≡ k)
organization_same Instance Instance m k e = (refl, (let same : Some m ≡ Some k = ap (λ ms. slice_get (messages_list ms) 1) e in cc))
organization_same Class Class m k e = (refl, (let same : Some m ≡ Some k = ap (λ ms. slice_get (messages_list ms) 2) e in cc))
organization_same Instance Class m k e = absurd (omega (arith, ap (λ ms. length (messages_list ms)) e))
organization_same Class Instance m k e = absurd (omega (arith, ap (λ ms. length (messages_list ms)) e))

-- and no message is both
abbrev first_length : MessageTrees → ℕ
first_length no_messages = 0
first_length (messages s es ms) = length s

no_side_organization : (s t : Side) (m k : MessageTree) → to_side (s, m) ≡ to_organization (t, k) → ⊥
no_side_organization Instance Instance m k e = omega (arith, ap (λ ms. length (messages_list ms)) e)
no_side_organization Instance Class m k e = omega (arith, ap (λ ms. length (messages_list ms)) e)
no_side_organization Class Class m k e = omega (arith, ap (λ ms. length (messages_list ms)) e)
no_side_organization Class Instance m k e = omega (arith, ap first_length e)

abbrev pub IsOneToOne : Route → Type 0
IsOneToOne route = (s t : Side) (m k : MessageTree) → route (s, m) ≡ route (t, k) → (s ≡ t) × (m ≡ k)

pub route_same : (route : Route) → IsOneToOne route → (tree : DoItParts) (p q : NameAt × Side × MessageTree) → IsRouted route tree p → IsRouted route tree q → p ≡ q
route_same route one tree (n, s, m) (o, t, k) h i =
    let names = messages_same tree (n, route (s, m)) (o, route (t, k)) h i in
    let parts = one s t m k names.1 in
    ap (λ (x : NameAt). (x, s, m)) names.0 ∙ ap (λ (x : Side). (o, x, m)) parts.0 ∙ ap (λ (x : MessageTree). (o, t, x)) parts.1

pub sending_same : (tree : DoItParts) (p q : NameAt × Side × MessageTree) → IsSending tree p → IsSending tree q → p ≡ q
sending_same tree p q h i = route_same to_side side_same tree p q h i

pub organizing_same : (tree : DoItParts) (p q : NameAt × Side × MessageTree) → IsOrganizing tree p → IsOrganizing tree q → p ≡ q
organizing_same tree p q h i = route_same to_organization organization_same tree p q h i

pub no_sending_organizing : (tree : DoItParts) (p q : NameAt × Side × MessageTree) → IsSending tree p → IsOrganizing tree q → ⊥
no_sending_organizing tree (n, s, m) (o, t, k) h i = no_side_organization s t m k (messages_same tree (n, to_side (s, m)) (o, to_organization (t, k)) h i).1

-- where it sends none
pub no_expression : (tree : DoItParts) → ((e : ExprTree) → tree ≡ alone e → ⊥) → (p : NameAt × MessageTrees) → IsSentToName tree p → ⊥
no_expression tree none p h = none _ h.tree_is

pub no_messages_sent : (tree : DoItParts) (e : ExprTree) → tree ≡ alone e → ((p : NameAt × MessageTrees) → e ≡ all_sent p → ⊥) → (p : NameAt × MessageTrees) → IsSentToName tree p → ⊥
no_messages_sent tree e is none p h = none p (alone_same e (all_sent p) (sym is ∙ h.tree_is))

pub no_route : (route : Route) (tree : DoItParts) (q : NameAt × MessageTrees) → IsSentToName tree q → ((p : Side × MessageTree) → q.1 ≡ route p → ⊥) → (p : NameAt × Side × MessageTree) → IsRouted route tree p → ⊥
no_route route tree q is none p h = none (p.1, p.2) (messages_same tree q (p.0, route (p.1, p.2)) is h).1
