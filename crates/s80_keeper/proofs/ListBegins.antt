-- Where files stand for a list, they begin with what a front of it makes.
use Rattle.std.proofs.Common.{◌≡◌, ◌≢◌, ◌⊎◌, inl, inr, ⊎_elim, ℕ, zero, suc, ◌+◌, ◌<◌, ◌≤◌, Bool, true, false, List, [], ◌∷◌, ◌++◌, length, take, drop, slice_range, Option, Some, None, option_map, refl, sym, ap, ◌∙◌, subst, arith, map as list_map, reverse, length-append}
use Rattle.std.specs.List.{All, AllByRecursion, flat_map}
use Rattle.std.specs.FinMap as map
use Rattle.std.proofs.lemmas.Grind.{flat_map-append}
use Rattle.std.proofs.lemmas.List.{reverse-append}
use Rattle.std.proofs.lemmas.List.Elements.{All-cons, All-filter, All-head, All-map, All-nil, All-push, All-same, All-tail}
use Rattle.std.proofs.lemmas.Slice.{between_is}
use Rattle.s80_base.specs.declared.names.Side.{Side}
use Rattle.s80_base.specs.declared.names.Side.TheVariants.{Instance, Class}
use Rattle.s80_change.specs.declared.change.Change.{Change}
use Rattle.s80_change.specs.Block.{block, blocks, IsLawful, IsList}
use Rattle.s80_disk.specs.Image.{Image}
use Rattle.s80_dict.specs.Dict.{Methods}
use Rattle.s80_mark.specs.declared.mark.MarkState.{MarkState}
use Rattle.s80_class.specs.Classes.{Name, ClassRow, Classes}
use Rattle.s80_apply.specs.List.{AreAccepted, IsBuilt, classes_of, state_after, state_from, state_of}
use Rattle.s80_apply.specs.Named.{AreNamed}
use Rattle.s80_apply.specs.Placed.{ArePlacesOf, PlacedRow, placed_of, without_place}
use Rattle.s80_apply.specs.Seen.{AreSeen}
use Rattle.s80_apply.specs.Source.{AllStand, StandsAt, text_for}
use Rattle.s80_apply.specs.State.{MethodRow, State, kernel_state}
use Rattle.s80_apply.proofs.LastingWithin.{within_last}
use Rattle.s80_history.specs.Lists.{MethodName, Placed, behind_last, is_no_changes, placed_from, puts, set_of, versions_of}
use Rattle.s80_image.specs.Answers.{AreVerified}
use Rattle.s80_image.specs.Image.{ImageView}
use Rattle.s80_image.specs.Together.{classes_by_name}
use Rattle.s80_log.specs.Standing.{FilesStandFor as StandByMark, marked_part}
use Rattle.s80_snapshot.specs.OfList.{IsImageOf, versions_in}
use Rattle.s80_snapshot.specs.Pictured.{CodedRow, CodedState, class_view, method_view, methods_view, sources_of, sources_on}
use Rattle.s80_snapshot.specs.Sources.{AreSourcesOf, imaged_methods}
use Rattle.s80_snapshot.proofs.lemmas.NamedMaps.{each_holds, none_named}
use Rattle.s80_snapshot.proofs.lemmas.ResumedState.{above_named, placed_elsewhere, sources_coded}
use Rattle.s80_snapshot.proofs.lemmas.SameViews.{IsAbove, by_name_again}
use Rattle.s80_keeper.specs.Beginning.{AreBelow, AreHeld, BeginsWith, IsConsistent, IsDecoded, IsStateOf}
use Rattle.s80_keeper.specs.Imaged.{BeginsWithImage, HasImage}
use Rattle.s80_keeper.specs.ImageReading.{HoldSources, methods_in, methods_of_class}
use Rattle.s80_keeper.specs.Reading.{BeginsAsFront, beginning_of}
use Rattle.s80_keeper.proofs.ChangesPlaced.{behind, not_left}
use Rattle.s80_keeper.proofs.Counting.{no_more}
use Rattle.s80_keeper.proofs.Decoding.{decodes}
use Rattle.s80_keeper.proofs.HeldSources.{hold_both, hold_held}
use Rattle.s80_keeper.proofs.Histories.{places_of}
use Rattle.s80_keeper.proofs.OneList.{block_length}

-- ---- lists

pub all_front : {X : Type 0} (P : X → Type 0) (xs ys : List X) → All P (xs ++ ys) → All P xs
all_front P [] ys all = All-nil P
all_front P (x ∷ xs) ys all = All-cons P x xs (All-head P x (xs ++ ys) all) (all_front P xs ys (All-tail P x (xs ++ ys) all))

pub all_behind : {X : Type 0} (P : X → Type 0) (xs ys : List X) → All P (xs ++ ys) → All P ys
all_behind P [] ys all = all
all_behind P (x ∷ xs) ys all = all_behind P xs ys (All-tail P x (xs ++ ys) all)

reversed : {X : Type 0} (P : X → Type 0) (xs : List X) → All P xs → All P (reverse xs)
reversed P [] all = all
reversed P (x ∷ xs) all = All-same P (reverse (x ∷ xs)) (reverse xs ++ x ∷ []) (reverse-append (x ∷ []) xs) (All-push P (reverse xs) x (reversed P xs (All-tail P x xs all)) (All-head P x xs all))

every : {X : Type 0} (P : X → Type 0) (xs : List X) → ((x : X) → P x) → All P xs
every P [] holds = All-nil P
every P (x ∷ xs) holds = All-cons P x xs (holds x) (every P xs holds)

every_entry : {X : Type 0} (P : X → Type 0) (xs : List X) → ((x : X) → P x) → AllByRecursion P xs
every_entry P [] holds = tt
every_entry P (x ∷ xs) holds = (holds x, every_entry P xs holds)

of_mapped : {X Y : Type 0} (P : Y → Type 0) (f : X → Y) (xs : List X) → All P (list_map f xs) → All (λ x. P (f x)) xs
of_mapped P f [] all = All-nil (λ x. P (f x))
of_mapped P f (x ∷ xs) all = All-cons (λ y. P (f y)) x xs (All-head P (f x) (list_map f xs) all) (of_mapped P f xs (All-tail P (f x) (list_map f xs) all))

accepted_front : (state : State) (xs ys : List Change) → AreAccepted state (xs ++ ys) → AreAccepted state xs
accepted_front state [] ys all = tt
accepted_front state (x ∷ xs) ys all = (all.0, accepted_front (state_after x state) xs ys all.1)

pub accepted_behind : (state : State) (xs ys : List Change) → AreAccepted state (xs ++ ys) → AreAccepted (state_from state xs) ys
accepted_behind state [] ys all = all
accepted_behind state (x ∷ xs) ys all = accepted_behind (state_after x state) xs ys all.1

-- ---- the places of a list's changes

below_end : (at : ℕ) (changes : List Change) → All (λ p. p.0 < at + length (blocks changes)) (placed_from at changes)
below_end at [] = All-nil (λ p. p.0 < at + length (blocks []))
below_end at (c ∷ cs) =
    let size = length-append (block c) (blocks cs) in
    let same : (at + length (block c)) + length (blocks cs) ≡ at + length (blocks (c ∷ cs)) = omega (arith, size) in
    let first : at < at + length (blocks (c ∷ cs)) = omega (arith, size, block_length c) in
    All-cons (λ p. p.0 < at + length (blocks (c ∷ cs))) (at, c) (placed_from (at + length (block c)) cs) first
    (subst (λ n. All (λ p. p.0 < n) (placed_from (at + length (block c)) cs)) same (below_end (at + length (block c)) cs))

module _ (changes : List Change) where
  abbrev IsBelow : ℕ → Type 0
  IsBelow at = at < length (blocks changes)

  abbrev HasPlaceBelow : Placed → Type 0
  HasPlaceBelow p = IsBelow p.0

  all_below : All HasPlaceBelow (placed_from 0 changes)
  all_below = subst (λ n. All (λ p. p.0 < n) (placed_from 0 changes)) (omega arith) (below_end 0 changes)

  set_below : All HasPlaceBelow (set_of changes)
  set_below = not_left HasPlaceBelow (behind_last is_no_changes (placed_from 0 changes)) (behind HasPlaceBelow is_no_changes (placed_from 0 changes) all_below)

  versions_below : (name : MethodName) → All IsBelow (versions_in changes name).places
  versions_below name =
      reversed IsBelow (list_map (λ (p : Placed). p.0) (versions_of changes name))
      (All-map IsBelow (λ (p : Placed). p.0) (versions_of changes name) (reversed HasPlaceBelow _ (All-filter (λ p. puts name p.1) HasPlaceBelow (placed_from 0 changes) all_below)))

  image_below : (image : ImageView) → IsImageOf changes image → AreBelow (length (blocks changes)) image
  image_below image of = record {
    change_set = of_mapped IsBelow (λ m. m.at) image.change_set
        (All-same IsBelow _ _ (places_of image.change_set (set_of changes) of.change_set) (All-map IsBelow (λ (p : Placed). p.0) (set_of changes) set_below));
    versions = All-same (λ v. All IsBelow v.places) image.versions (list_map (versions_in changes) of.names) of.versions
        (All-map (λ v. All IsBelow v.places) (versions_in changes) of.names (every (λ name. All IsBelow (versions_in changes name).places) of.names versions_below));
  }

-- ---- sources in a longer log

longer_within : (from_kernel : Bool) (log more : List ℕ) (end : ℕ) → end ≤ length (text_for from_kernel log) → end ≤ length (text_for from_kernel (log ++ more))
longer_within true log more end within = within
longer_within false log more end within = let n = length-append log more in omega (arith, n, within)

front_of : (n : ℕ) (xs ys : List ℕ) → n ≤ length xs → take n (xs ++ ys) ≡ take n xs
front_of zero xs ys within = refl
front_of (suc n) [] ys within = absurd (omega arith)
front_of (suc n) (x ∷ xs) ys within = ap (λ rest. x ∷ rest) (front_of n xs ys (omega arith))

longer_same : (from_kernel : Bool) (log more : List ℕ) (at end : ℕ) → end ≤ length (text_for from_kernel log) → slice_range (text_for from_kernel (log ++ more)) at end ≡ slice_range (text_for from_kernel log) at end
longer_same true log more at end within = refl
longer_same false log more at end within = between_is (log ++ more) at end ∙ ap (drop at) (front_of end log more within) ∙ sym (between_is log at end)

stands_longer : (log more : List ℕ) (row : PlacedRow) → StandsAt log row → StandsAt (log ++ more) row
stands_longer log more row stands = record {
  within = longer_within row.from_kernel log more (row.position + row.length) stands.within;
  same = longer_same row.from_kernel log more row.position (row.position + row.length) stands.within ∙ stands.same;
}

-- ---- the image of a list

-- what is known of all lists
pub record ListLaws : Type 0 where
  pub named : (changes : List Change) → AreNamed (classes_of changes)
  pub tied : (changes : List Change) → ArePlacesOf (placed_of changes) (state_of changes)
  pub stand : (changes : List Change) → AllStand (blocks changes) (placed_of changes)
  pub verified : (changes : List Change) (image : ImageView) → IsList changes → IsImageOf changes image → AreVerified image
  pub fit : (changes : List Change) (image : ImageView) → IsList changes → IsBuilt changes → IsImageOf changes image → AreSourcesOf image.classes (sources_of (λ m. m.source) (placed_of changes))

nothing_coded : (coded : Methods CodedRow) (placed : Methods PlacedRow) → AreSeen (λ m. m.row) coded placed → placed ≡ map.empty → coded ≡ map.empty
nothing_coded coded placed seen none = none_named coded (λ q. without (map.get coded q) (seen.each q ∙ ap (λ (m : Methods PlacedRow). map.get m q) none ∙ map.get-empty _ q))
  where
    without : (o : Option CodedRow) → option_map {U = PlacedRow} (λ m. m.row) o ≡ None → o ≡ None
    without None is = refl
    without (Some row) is = absurd (cc)

seen_twice : (o : Option CodedRow) (placed : Option PlacedRow) (shown : Option MethodRow) → option_map (λ (m : CodedRow). m.row) o ≡ placed → option_map without_place placed ≡ shown → option_map (λ (m : CodedRow). without_place m.row) o ≡ shown
seen_twice None placed shown first second = ap (option_map without_place) first ∙ second
seen_twice (Some m) placed shown first second = ap (option_map without_place) first ∙ second

abbrev row_source : CodedRow → List ℕ
row_source m = m.row.source

module _ (laws : ListLaws) (changes : List Change) (image : ImageView) (of : IsImageOf changes image) where
  abbrev ours : CodedState
  ours = of.state

  abbrev texts : List (List ℕ)
  texts = sources_of (λ (m : PlacedRow). m.source) (placed_of changes)

  classes_list : ours.classes ≡ classes_of changes
  classes_list = of.coded.classes ∙ (laws.tied changes).classes

  all_above : AllByRecursion (λ e. IsAbove e.1) (map.entries ours.classes)
  all_above = each_holds (λ name row. IsAbove row) ours.classes (λ name row is. above_named (classes_of changes) (laws.named changes) (within_last changes).valid name row (ap (λ (c : Classes). map.get c name) (sym classes_list) ∙ is))

  by_name : classes_by_name image.classes ≡ ours.classes
  by_name = ap classes_by_name of.classes ∙ by_name_again ours all_above

  state_so : IsStateOf image texts (beginning_of changes)
  state_so = record {
    coded = ours;
    classes_are = of.classes;
    by_name = sym by_name;
    sources_are = sources_coded (placed_of changes) ours of.coded;
    placed_classes = sym of.coded.classes;
    placed_methods = of.coded.methods;
    classes = sym classes_list;
    methods = λ name side.
        let here = of.coded.methods name side in
        let there = (laws.tied changes).methods name side in
        record {
          keys = here.keys ∙ there.keys;
          each = λ s. seen_twice (map.get (ours.methods name side) s) (map.get ((placed_of changes).methods name side) s) (map.get ((state_of changes).methods name side) s) (here.each s) (there.each s);
        };
    others = λ name side none.
        nothing_coded (ours.methods name side) ((placed_of changes).methods name side) (of.coded.methods name side)
        (placed_elsewhere changes (laws.tied changes) name side (ap (λ (c : Classes). map.get c name) (sym of.coded.classes) ∙ none));
  }

  -- ---- its sources, in a log that goes on

  module _ (more : List ℕ) where
    abbrev log : List ℕ
    log = blocks changes ++ more

    one_stands : (name : Name) (side : Side) (selector : Name) (m : CodedRow) → map.get (ours.methods name side) selector ≡ Some m → StandsAt log m.row
    one_stands name side selector m is =
        stands_longer (blocks changes) more m.row (laws.stand changes name side selector m.row (sym ((of.coded.methods name side).each selector) ∙ ap (option_map (λ (r : CodedRow). r.row)) is))

    hold_on : (es : List (Name × CodedRow)) → AllByRecursion (λ e. StandsAt log e.1.row) es → HoldSources log (list_map method_view es) (list_map (λ (e : Name × CodedRow). row_source e.1) es)
    hold_on [] all = tt
    hold_on (e ∷ es) all = (all.0, hold_on es all.1)

    on_side : (name : Name) (side : Side) → HoldSources log (methods_view (ours.methods name side)) (sources_on row_source (ours.methods name side))
    on_side name side = hold_on (map.entries (ours.methods name side)) (each_holds (λ selector m. StandsAt log m.row) (ours.methods name side) (one_stands name side))

    abbrev sources_in : Name × ClassRow → List (List ℕ)
    sources_in e = sources_on row_source (ours.methods e.0 Instance) ++ sources_on row_source (ours.methods e.0 Class)

    in_classes : (es : List (Name × ClassRow)) → HoldSources log (methods_in (list_map (class_view ours) es)) (flat_map sources_in es)
    in_classes [] = tt
    in_classes (e ∷ es) =
        hold_both log (methods_of_class (class_view ours e)) (methods_in (list_map (class_view ours) es)) (sources_in e) (flat_map sources_in es)
        (hold_both log (methods_view (ours.methods e.0 Instance)) (methods_view (ours.methods e.0 Class)) (sources_on row_source (ours.methods e.0 Instance)) (sources_on row_source (ours.methods e.0 Class)) (on_side e.0 Instance) (on_side e.0 Class))
        (in_classes es)

    all_hold : HoldSources log (methods_in image.classes) texts
    all_hold =
        subst (λ ss. HoldSources log (methods_in image.classes) ss) (sym (sources_coded (placed_of changes) ours of.coded))
        (subst (λ cs. HoldSources log (methods_in cs) (sources_of row_source ours)) (sym of.classes) (in_classes (map.entries ours.classes)))

-- ---- files that stand for a list

blocks_of : (xs ys : List Change) → blocks (xs ++ ys) ≡ blocks xs ++ blocks ys
blocks_of xs ys = flat_map-append block xs ys

module _ (laws : ListLaws) (files : Image) (mark : MarkState) (changes : List Change) (stands : StandByMark files mark changes) (built : IsBuilt changes) where
  module _ (h : BeginsWithImage files mark changes) where
    list_front : IsList h.front
    list_front = record {
      lawful = all_front IsLawful h.front h.behind (subst (All IsLawful) h.parts stands.list.lawful);
      within = (let n = ap (λ l. length (blocks l)) h.parts ∙ ap length (blocks_of h.front h.behind) ∙ length-append (blocks h.front) (blocks h.behind) in omega (arith, n, stands.list.within));
    }

    built_front : IsBuilt h.front
    built_front = accepted_front kernel_state h.front h.behind (subst IsBuilt h.parts built)

    part : marked_part mark files ≡ blocks h.front ++ blocks h.behind
    part = stands.bytes ∙ ap blocks h.parts ∙ blocks_of h.front h.behind

    abbrev front_texts : List (List ℕ)
    front_texts = texts laws h.front h.image h.of_front

    consistent : IsConsistent files mark h.image front_texts
    consistent = record {
      count = (let n = no_more h.front in omega (arith, h.position, h.of_front.count, n));
      below = subst (λ n. AreBelow n h.image) (sym h.position) (image_below h.front h.image h.of_front);
      held = subst (λ log. AreHeld log (imaged_methods h.image.classes) front_texts) (sym part) (hold_held (blocks h.front ++ blocks h.behind) h.image.classes front_texts (all_hold laws h.front h.image h.of_front (blocks h.behind)));
      fit = laws.fit h.front h.image list_front built_front h.of_front;
    }

    begins_front : BeginsWith files mark (beginning_of h.front)
    begins_front = record {
      image = h.image;
      decoded = subst (λ bytes. IsDecoded bytes h.image) (sym h.bytes) (decodes h.image h.lawful (laws.verified h.front h.image list_front h.of_front));
      sources = front_texts;
      consistent = consistent;
      state = state_so laws h.front h.image h.of_front;
      position = sym h.position;
      count = sym h.of_front.count;
    }

  begins_none : mark.image ≡ 255 → BeginsAsFront files mark changes
  begins_none none = record { front = []; behind = changes; parts = refl; begins = inl (none, refl); is_front = inl (none, refl) }

  begins_named : mark.image ≢ 255 → HasImage files mark changes → BeginsAsFront files mark changes
  begins_named named (inl none) = absurd (named none)
  begins_named named (inr h) = record {
    front = h.front;
    behind = h.behind;
    parts = h.parts;
    begins = inr (named, begins_front h);
    is_front = inr (named, list_front h, (h.image, h.bytes, h.lawful, h.of_front));
  }

  pub begins_as_front : HasImage files mark changes → BeginsAsFront files mark changes
  begins_as_front has = ⊎_elim (λ low. begins_named (λ none. omega (arith, low, none)) has) begins_none stands.numbers.image
