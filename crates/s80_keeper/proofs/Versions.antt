-- The newest versions of a method, read at the places of their blocks, and what a condensed list has of it.
use Rattle.std.proofs.Common.{◌≡◌, ◌∙◌, ℕ, zero, suc, ◌-◌, ◌<◌, ◌≤◌, List, [], ◌∷◌, ◌++◌, length, take, get_or, map as list_map, reverse, Some, Result, Ok, Err, refl, sym, ap, subst, arith, append_assoc, append-nil, length-append}
use Rattle.std.specs.Prelude.{slice_get}
use Rattle.std.specs.List.{All, flat_map}
use Rattle.std.proofs.lemmas.Grind.{flat_map-append}
use Rattle.std.proofs.lemmas.List.{length-reverse, map-append, reverse-append, take-map}
use Rattle.std.proofs.lemmas.List.Elements.{All-take}
use Rattle.std.proofs.lemmas.Option.{get_or_from_slice_get}
use Rattle.std.proofs.Math.Seq.{get_or-append_seam}
use Rattle.s80_change.specs.declared.change.Change.{Change}
use Rattle.s80_change.specs.Block.{blocks, IsLawful}
use Rattle.s80_history.specs.History.{HistoryState, IsHistoryOf, version_places}
use Rattle.s80_history.specs.Lists.{MethodName, Placed, versions_of}
use Rattle.s80_fileout.specs.Condensed.{category_put, first_category, kernel_category, newest}
use Rattle.s80_keeper.specs.declared.keep.KeepFault.{KeepFault}
use Rattle.s80_keeper.specs.declared.keep.KeepFault.TheVariants as faults
use Rattle.s80_keeper.specs.ChangesAt.{AreAddedAt}
use Rattle.s80_keeper.specs.Condensing.{IsAdded}
use Rattle.s80_keeper.specs.Source.{IsThis}
use Rattle.s80_keeper.proofs.ChangesPlaced.{Begins, turned, versions_begin}
use Rattle.s80_keeper.proofs.ChangesRead.{read_these}

-- ---- the newest first, and the oldest first

turned_map : {B : Type 0} (f : Placed → B) (ps : List Placed) → list_map f (reverse ps) ≡ reverse (list_map f ps)
turned_map f [] = refl
turned_map f (p ∷ ps) = ap (list_map f) (reverse-append (p ∷ []) ps) ∙ map-append f (reverse ps) (p ∷ []) ∙ ap (λ l. l ++ f p ∷ []) (turned_map f ps) ∙ sym (reverse-append (f p ∷ []) (list_map f ps))

module _ (keep : ℕ) (changes : List Change) (name : MethodName) where
  -- the versions that are kept, with the places of their blocks
  abbrev pub placed_newest : List Placed
  placed_newest = reverse (take keep (versions_of changes name))

  pub places_turned : (h : HistoryState) → IsHistoryOf h changes → reverse (take keep (version_places h name)) ≡ list_map (λ p. p.0) placed_newest
  places_turned h is = ap (λ l. reverse (take keep l)) (is.versions name) ∙ ap reverse (take-map (λ p. p.0) keep (versions_of changes name)) ∙ sym (turned_map (λ p. p.0) (take keep (versions_of changes name)))

  pub versions_turned : list_map (λ p. p.1) placed_newest ≡ newest keep changes name
  versions_turned = turned_map (λ p. p.1) (take keep (versions_of changes name)) ∙ ap reverse (sym (take-map (λ p. p.1) keep (versions_of changes name)))

  pub newest_begin : All IsLawful changes → All (Begins (blocks changes)) placed_newest
  newest_begin lawful = turned (Begins (blocks changes)) (take keep (versions_of changes name)) (All-take (Begins (blocks changes)) keep (versions_of changes name) (versions_begin changes lawful name))

-- ---- what is read is added

-- what isn't read isn't added either
unread_added : (T : Type 0) (fault : KeepFault) (wanted before more now : List Change) → IsThis {T = List Change} wanted (Err fault) → IsAdded {T = T} before more now (Err fault)
unread_added T faults.Memory wanted before more now is = tt
unread_added T (faults.Disk failed) wanted before more now is = tt
unread_added T (faults.Closed failed) wanted before more now is = tt
unread_added T (faults.Full count) wanted before more now is = absurd is
unread_added T (faults.Damaged damage) wanted before more now is = absurd is

pub unadded_so : (T U : Type 0) (fault : KeepFault) (before more now other_before other_more other_now : List Change) → IsAdded {T = T} before more now (Err fault) → IsAdded {T = U} other_before other_more other_now (Err fault)
unadded_so T U faults.Memory before more now other_before other_more other_now is = tt
unadded_so T U (faults.Disk failed) before more now other_before other_more other_now is = tt
unadded_so T U (faults.Closed failed) before more now other_before other_more other_now is = tt
unadded_so T U (faults.Full count) before more now other_before other_more other_now is = absurd is
unadded_so T U (faults.Damaged damage) before more now other_before other_more other_now is = absurd is

pub unadded_this : (T : Type 0) (fault : KeepFault) (wanted before more now : List Change) → IsAdded {T = T} before more now (Err fault) → IsThis {T = List Change} wanted (Err fault)
unadded_this T faults.Memory wanted before more now is = tt
unadded_this T (faults.Disk failed) wanted before more now is = tt
unadded_this T (faults.Closed failed) wanted before more now is = tt
unadded_this T (faults.Full count) wanted before more now is = absurd is
unadded_this T (faults.Damaged damage) wanted before more now is = absurd is

-- what is read at the places of changes of the log is these changes
add_these : (log held places : List ℕ) (ps : List Placed) (before now : List Change) (result : Result (Unit {0}) KeepFault) → held ≡ log → places ≡ list_map (λ p. p.0) ps → All (Begins log) ps → AreAddedAt held places before now result → IsAdded before (list_map (λ p. p.1) ps) now result
add_these log held places ps before now (Ok done) same there begin read = read.1 ∙ ap (λ l. before ++ l) (read_these log held places ps (Ok read.0) same there begin read.2)
add_these log held places ps before now (Err fault) same there begin read = unread_added (Unit {0}) fault (list_map (λ p. p.1) ps) before (list_map (λ p. p.1) ps) now (read_these log held places ps (Err fault) same there begin read)

pub add_newest : (keep : ℕ) (changes : List Change) (name : MethodName) (h : HistoryState) (held places : List ℕ) (before now : List Change) (result : Result (Unit {0}) KeepFault) → All IsLawful changes → IsHistoryOf h changes → held ≡ blocks changes → places ≡ reverse (take keep (version_places h name)) → AreAddedAt held places before now result → IsAdded before (newest keep changes name) now result
add_newest keep changes name h held places before now result lawful is same there read =
    let P : List Change → Type 0 = λ l. IsAdded before l now result in
    subst P (versions_turned keep changes name) (add_these (blocks changes) held places (placed_newest keep changes name) before now result same (there ∙ places_turned keep changes name h is) (newest_begin keep changes name lawful) read)

-- ---- the category

pub first_of_newest : (keep : ℕ) (changes : List Change) → 1 ≤ keep → first_category (take keep changes) ≡ first_category changes
first_of_newest zero changes some = absurd (omega arith)
first_of_newest (suc keep) [] some = refl
first_of_newest (suc keep) (c ∷ cs) some = refl

-- none stands behind the place
pub none_put : (changes before versions : List Change) (from : ℕ) → changes ≡ before ++ reverse versions → from ≡ length before → length changes ≤ from → kernel_category ≡ first_category versions
none_put changes before [] from is here few = refl
none_put changes before (v ∷ vs) from is here few = absurd (omega (arith, ap length is, length-append before (reverse (v ∷ vs)), length-reverse (v ∷ vs), here, few))

-- the last is the newest
pub last_is_put : (changes before versions : List Change) (from : ℕ) (change : Change) → changes ≡ before ++ reverse versions → from ≡ length before → from < length changes → slice_get changes (length changes - 1) ≡ Some change → category_put change ≡ first_category versions
last_is_put changes before [] from change is here some there = absurd (omega (arith, ap length is, length-append before [], here, some))
last_is_put changes before (v ∷ vs) from change is here some there =
    let all : changes ≡ (before ++ reverse vs) ++ v ∷ [] = is ∙ ap (λ l. before ++ l) (reverse-append (v ∷ []) vs) ∙ sym (append_assoc before (reverse vs) (v ∷ [])) in
    let last : length changes - 1 ≡ length (before ++ reverse vs) = omega (arith, ap length all, length-append (before ++ reverse vs) (v ∷ [])) in
    let read : get_or changes (length changes - 1) change ≡ change = get_or_from_slice_get changes (length changes - 1) change change there in
    let same : get_or changes (length changes - 1) change ≡ get_or ((before ++ reverse vs) ++ v ∷ []) (length (before ++ reverse vs)) change = λ i. get_or (all i) (last i) change in
    ap category_put (sym read ∙ same ∙ get_or-append_seam (before ++ reverse vs) v [] change)

-- ---- one method more

pub method_added : (before mid now versions category : List Change) → mid ≡ before ++ versions → now ≡ mid ++ category → now ≡ before ++ (versions ++ category)
method_added before mid now versions category first second = second ∙ ap (λ l. l ++ category) first ∙ append_assoc before versions category

pub each_added : {X : Type 0} (f : X → List Change) (xs : List X) (x : X) (before mid now : List Change) → mid ≡ before ++ flat_map f xs → now ≡ mid ++ f x → now ≡ before ++ flat_map f (xs ++ x ∷ [])
each_added f xs x before mid now first second =
    second ∙ ap (λ l. l ++ f x) first ∙ append_assoc before (flat_map f xs) (f x)
    ∙ ap (λ l. before ++ l) (ap (λ l. flat_map f xs ++ l) (sym (append-nil (f x))) ∙ sym (flat_map-append f xs (x ∷ [])))
