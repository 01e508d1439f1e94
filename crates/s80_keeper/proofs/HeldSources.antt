-- The places of methods hold one source each at most.
use Rattle.std.proofs.Common.{◌≡◌, ℕ, ◌+◌, List, [], ◌∷◌, ◌++◌, refl, sym, ap, ◌∙◌, subst, map as list_map}
use Rattle.std.proofs.lemmas.List.{map-append}
use Rattle.s80_base.specs.declared.names.Side.{Side}
use Rattle.s80_base.specs.declared.names.Side.TheVariants.{Instance, Class}
use Rattle.s80_image.specs.Classes.{ClassView}
use Rattle.s80_image.specs.Methods.{MethodView}
use Rattle.s80_snapshot.specs.Sources.{ImagedMethod, imaged_methods, methods_on}
use Rattle.s80_keeper.specs.Beginning.{AreHeld}
use Rattle.s80_keeper.specs.ImageReading.{HoldSources, methods_in}
use Rattle.s80_keeper.proofs.Spells.{one_text}

-- ---- methods of an image, with and without their classes

abbrev method_in : ImagedMethod → MethodView
method_in m = m.method

without_class : (class : ClassView) (side : Side) (ms : List MethodView) → list_map method_in (methods_on class side ms) ≡ ms
without_class class side [] = refl
without_class class side (m ∷ ms) = ap (λ rest. m ∷ rest) (without_class class side ms)

without_classes : (classes : List ClassView) → list_map method_in (imaged_methods classes) ≡ methods_in classes
without_classes [] = refl
without_classes (c ∷ cs) =
    map-append method_in (methods_on c Instance c.instance ++ methods_on c Class c.class) (imaged_methods cs)
    ∙ (λ i. (map-append method_in (methods_on c Instance c.instance) (methods_on c Class c.class) ∙ (λ j. without_class c Instance c.instance j ++ without_class c Class c.class j)) i ++ without_classes cs i)

hold_so : (log : List ℕ) (ms : List ImagedMethod) (ss : List (List ℕ)) → HoldSources log (list_map method_in ms) ss → AreHeld log ms ss
hold_so log [] [] all = tt
hold_so log [] (s ∷ ss) all = absurd all
hold_so log (m ∷ ms) [] all = absurd all
hold_so log (m ∷ ms) (s ∷ ss) all = (all.0, hold_so log ms ss all.1)

held_so : (log : List ℕ) (ms : List ImagedMethod) (ss : List (List ℕ)) → AreHeld log ms ss → HoldSources log (list_map method_in ms) ss
held_so log [] [] all = tt
held_so log [] (s ∷ ss) all = absurd all
held_so log (m ∷ ms) [] all = absurd all
held_so log (m ∷ ms) (s ∷ ss) all = (all.0, held_so log ms ss all.1)

pub hold_held : (log : List ℕ) (classes : List ClassView) (ss : List (List ℕ)) → HoldSources log (methods_in classes) ss → AreHeld log (imaged_methods classes) ss
hold_held log classes ss all = hold_so log (imaged_methods classes) ss (subst (λ ms. HoldSources log ms ss) (sym (without_classes classes)) all)

pub held_hold : (log : List ℕ) (classes : List ClassView) (ss : List (List ℕ)) → AreHeld log (imaged_methods classes) ss → HoldSources log (methods_in classes) ss
held_hold log classes ss all = subst (λ ms. HoldSources log ms ss) (without_classes classes) (held_so log (imaged_methods classes) ss all)

-- ---- one source

pub one_held : (log : List ℕ) (ms : List ImagedMethod) (ss ts : List (List ℕ)) → AreHeld log ms ss → AreHeld log ms ts → ss ≡ ts
one_held log [] [] [] one two = refl
one_held log [] [] (t ∷ ts) one two = absurd two
one_held log [] (s ∷ ss) ts one two = absurd one
one_held log (m ∷ ms) [] ts one two = absurd one
one_held log (m ∷ ms) (s ∷ ss) [] one two = absurd two
one_held log (m ∷ ms) (s ∷ ss) (t ∷ ts) one two =
    let here : s ≡ t = one_text s t (sym one.0.same ∙ two.0.same) in
    let rest = one_held log ms ss ts one.1 two.1 in
    λ i. here i ∷ rest i

-- ---- several

pub hold_both : (log : List ℕ) (ms ns : List MethodView) (ss ts : List (List ℕ)) → HoldSources log ms ss → HoldSources log ns ts → HoldSources log (ms ++ ns) (ss ++ ts)
hold_both log [] ns [] ts one two = two
hold_both log [] ns (s ∷ ss) ts one two = absurd one
hold_both log (m ∷ ms) ns [] ts one two = absurd one
hold_both log (m ∷ ms) ns (s ∷ ss) ts one two = (one.0, hold_both log ms ns ss ts one.1 two)

-- what holds of several holds of the first, and of the last
pub hold_first : (log : List ℕ) (ms ns : List MethodView) (ss : List (List ℕ)) → HoldSources log (ms ++ ns) ss → (ts : List (List ℕ)) × HoldSources log ms ts
hold_first log [] ns ss all = ([], tt)
hold_first log (m ∷ ms) ns [] all = absurd all
hold_first log (m ∷ ms) ns (s ∷ ss) all = let rest = hold_first log ms ns ss all.1 in (s ∷ rest.0, (all.0, rest.1))

pub hold_last : (log : List ℕ) (ms ns : List MethodView) (ss : List (List ℕ)) → HoldSources log (ms ++ ns) ss → (ts : List (List ℕ)) × HoldSources log ns ts
hold_last log [] ns ss all = (ss, all)
hold_last log (m ∷ ms) ns [] all = absurd all
hold_last log (m ∷ ms) ns (s ∷ ss) all = hold_last log ms ns ss all.1
