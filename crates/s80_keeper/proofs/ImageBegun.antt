-- What a start begins with, of the kernel and of an image.
use Rattle.std.proofs.Common.{◌≡◌, ◌≢◌, ◌⊎◌, inl, inr, ⊎_elim, ℕ, true, false, cond, List, [], ◌∷◌, Option, Some, None, option_map, Result, Ok, Err, IfOk, refl, sym, ap, ◌∙◌, subst, map as list_map}
use Rattle.std.specs.Prelude.{IfErr}
use Rattle.std.specs.FinMap as map
use Rattle.std.specs.FinMap.Entries.{find}
use Rattle.std.specs.Ordering.{eq_by_cmp}
use Rattle.std.specs.Cmp.Lexicographic.{nat_list_cmp_total}
use Rattle.s80_change.specs.declared.change.Change.{Change}
use Rattle.s80_change.specs.Block.{IsList}
use Rattle.s80_disk.specs.Image.{Image}
use Rattle.s80_dict.specs.Dict.{Methods}
use Rattle.s80_dict.specs.Table.{methods_at}
use Rattle.s80_mark.specs.declared.mark.MarkState.{MarkState}
use Rattle.s80_class.specs.Classes.{Name}
use Rattle.s80_apply.specs.Entries.{Entry, row_in, state_row}
use Rattle.s80_apply.specs.Placed.{without_place}
use Rattle.s80_apply.specs.Seen.{AreSeen}
use Rattle.s80_apply.specs.State.{StateOf}
use Rattle.s80_apply.specs.System.{IsSystemBy, SystemState}
use Rattle.s80_history.specs.History.{HistoryState, IsHistoryOf}
use Rattle.s80_image.specs.declared.image.Image.{Image as ImageInMemory}
use Rattle.s80_image.specs.Answers.{AreVerified}
use Rattle.s80_image.specs.Image.{ImageView, view_of}
use Rattle.s80_log.specs.Standing.{marked_part}
use Rattle.s80_snapshot.specs.OfList.{IsImageOf}
use Rattle.s80_snapshot.specs.Pictured.{CodedRow, CodedState, coded_row}
use Rattle.s80_snapshot.specs.Restored.{IsHistoryIn}
use Rattle.s80_snapshot.specs.Sources.{AreSourcesOf, imaged_methods}
use Rattle.s80_snapshot.proofs.lemmas.NamedMaps.{by_text, entries_seen, none_named, seen_entries}
use Rattle.s80_keeper.specs.declared.begin.Begun.{Begun}
use Rattle.s80_keeper.specs.declared.start.Damage.TheVariants.{NoMark, BadMark, LogShort, ImageShort, BadImage, BadBlock, Replay, CountDiffers}
use Rattle.s80_keeper.specs.declared.start.StartFault.{StartFault}
use Rattle.s80_keeper.specs.declared.start.StartFault.TheVariants as faults
use Rattle.s80_keeper.specs.Beginning.{AreHeld, Beginning, BeginsWith, IsConsistent, IsDecoded, IsStateOf, kernel_beginning}
use Rattle.s80_keeper.specs.Imaged.{image_part}
use Rattle.s80_keeper.specs.ImageReading.{HoldSources, IsBegunWith, IsImageFound, IsRestored, RestoresSo, methods_in}
use Rattle.s80_keeper.specs.Reading.{BeginsSo, HasBegun, IsBegun, IsFront}
use Rattle.s80_keeper.proofs.Decoding.{decodes, one_image}
use Rattle.s80_keeper.proofs.HeldSources.{held_hold, hold_held, one_held}

-- ---- methods seen by less

module _ {V W : Type 0} (view : V → W) where
  seen_find : (q : Name) (es : List (Name × V)) → find by_text q (seen_entries view es) ≡ option_map view (find by_text q es)
  seen_find q [] = refl
  seen_find q (e ∷ es) = elim (eq_by_cmp by_text q e.0) as (λ b. cond b (Some (view e.1)) (find by_text q (seen_entries view es)) ≡ option_map view (cond b (Some e.1) (find by_text q es))) [
    | true ↦ refl
    | false ↦ seen_find q es
  ]

  seen_keys : (es : List (Name × V)) → list_map (λ (e : Name × W). e.0) (seen_entries view es) ≡ list_map (λ (e : Name × V). e.0) es
  seen_keys [] = refl
  seen_keys (e ∷ es) = ap (λ l. e.0 ∷ l) (seen_keys es)

  made : Methods V → Methods W
  made m = map.from_entries (seen_entries view (map.entries m))

  made_found : (m : Methods V) (q : Name) → option_map view (map.get m q) ≡ map.get (made m) q
  unfolding made
  made_found m q = ap (option_map view) (map.get-entries m q) ∙ sym (seen_find q (map.entries m)) ∙ sym (map.get-from_entries nat_list_cmp_total (seen_entries view (map.entries m)) q)

  made_seen : (m : Methods V) → AreSeen view m (made m)
  made_seen m = record {
    keys = sym (seen_keys (map.entries m)) ∙ ap (list_map (λ (e : Name × W). e.0)) (entries_seen view m (made m) (made_found m));
    each = made_found m;
  }

  made_empty : (m : Methods V) → m ≡ map.empty → made m ≡ map.empty
  made_empty m none = none_named (made m) (λ q. sym (made_found m q) ∙ ap (λ (k : Methods V). option_map view (map.get k q)) none ∙ ap (option_map view) (map.get-empty by_text q))

  less : StateOf V → StateOf W
  less state = record { classes = state.classes; methods = λ name side. made (state.methods name side) }

seen_twice : {A B C : Type 0} (f : A → B) (g : B → C) (h : A → C) → ((a : A) → g (f a) ≡ h a) → (o : Option A) (p : Option B) (q : Option C) → option_map f o ≡ p → option_map g p ≡ q → option_map h o ≡ q
seen_twice f g h same None p q first second = ap (option_map g) first ∙ second
seen_twice f g h same (Some a) p q first second = ap Some (sym (same a)) ∙ ap (option_map g) first ∙ second

-- a system seen by less
system_less : {W : Type 0} (system : SystemState) (coded : CodedState) (view : CodedRow → W) (entry_view : Entry → W) → ((e : Entry) → view (coded_row e) ≡ entry_view e) → IsSystemBy coded_row system coded → IsSystemBy entry_view system (less view coded)
unfolding less
system_less system coded view entry_view same shown = record {
  classes = shown.classes;
  methods = λ number name side named.
      let here = shown.methods number name side named in
      let there = made_seen view (coded.methods name side) in
      record {
        keys = here.keys ∙ there.keys;
        each = λ s. seen_twice coded_row view entry_view same (map.get (methods_at system.methods number side) s) (map.get (coded.methods name side) s) (map.get (made view (coded.methods name side)) s) (here.each s) (there.each s);
      };
  others = λ name side none. made_empty view (coded.methods name side) (shown.others name side none);
}

-- ---- the kernel

pub kernel_begins : (files : Image) (mark : MarkState) (result : Result Begun StartFault) → mark.image ≡ 255 → IfOk result (λ found. HasBegun kernel_beginning found × IsHistoryOf found.history []) → IfErr result (λ fault. fault ≡ faults.Memory) → IsBegun files mark result
kernel_begins files mark (Ok found) none begun wanting = record {
  begun = kernel_beginning;
  begins = inl (none, refl);
  imaged = λ named. absurd (named none);
  has = begun.0;
  history = λ front is. ⊎_elim (λ no. subst (IsHistoryOf found.history) (sym no.1) begun.1) (λ named. absurd (named.0 none)) is;
}
kernel_begins files mark (Err fault) none begun wanting = subst (λ f. IsBegun files mark (Err f)) (sym wanting) tt

-- ---- an image

module _ (files : Image) (mark : MarkState) (log : List ℕ) (image : ImageInMemory) (size : ℕ) (found : IsImageFound files mark (Ok (image, size))) where
  -- the sources aren't those of the methods
  pub unrestored : (sources : List (List ℕ)) (fault : StartFault) → HoldSources log (methods_in (view_of image).classes) sources → IsRestored (view_of image) sources size (Err fault) → IsBegunWith files mark log (Err fault)
  unrestored sources faults.Memory held is = tt
  unrestored sources (faults.Disk failed) held is = tt
  unrestored sources (faults.Damaged (NoMark count)) held is = absurd is
  unrestored sources (faults.Damaged (BadMark value)) held is = absurd is
  unrestored sources (faults.Damaged (LogShort marked found)) held is = absurd is
  unrestored sources (faults.Damaged (ImageShort marked found)) held is = absurd is
  unrestored sources (faults.Damaged (BadBlock place)) held is = absurd is
  unrestored sources (faults.Damaged (Replay place number)) held is = absurd is
  unrestored sources (faults.Damaged (CountDiffers marked found)) held is = absurd is
  unrestored sources (faults.Damaged (BadImage place)) held is = (
    found.0,
    inr (
      is.0 ∙ found.2,
      (
        view_of image,
        found.1,
        λ count below other others fit.
            let classes = (view_of image).classes in
            let same : other ≡ sources = one_held log (imaged_methods classes) other sources (hold_held log classes other others) (hold_held log classes sources held) in
            is.1 (subst (λ ss. AreSourcesOf classes ss) same fit),
      ),
    ),
  )

-- ---- what is begun with

-- what is known of the images of lists
pub record ImageLaws : Type 0 where
  pub verified : (changes : List Change) (image : ImageView) → IsList changes → IsImageOf changes image → AreVerified image
  pub history : (changes : List Change) (image : ImageView) (history : HistoryState) → IsImageOf changes image → IsHistoryIn image history → IsHistoryOf history changes

module _ (files : Image) (mark : MarkState) (log : List ℕ) (laws : ImageLaws) (named : mark.image ≢ 255) (part : log ≡ marked_part mark files) where
  module _ (found : Begun) (so : RestoresSo files mark log found) where
    abbrev coded : CodedState
    coded = so.system.state

    abbrev begun : Beginning
    begun = record {
      state = less (λ (m : CodedRow). without_place m.row) coded;
      placed = less (λ (m : CodedRow). m.row) coded;
      position = mark.image_position;
      count = so.image.count;
    }

    consistent : IsConsistent files mark so.image so.sources
    consistent = record {
      count = so.count_within;
      below = so.below;
      held = subst (λ l. AreHeld l (imaged_methods so.image.classes) so.sources) part (hold_held log so.image.classes so.sources so.held);
      fit = so.fit;
    }

    state_so : IsStateOf so.image so.sources begun
    unfolding less
    state_so = record {
      coded = coded;
      classes_are = so.system.classes_are;
      by_name = so.system.by_name;
      sources_are = so.system.sources_are;
      placed_classes = refl;
      placed_methods = λ name side. made_seen (λ (m : CodedRow). m.row) (coded.methods name side);
      classes = refl;
      methods = λ name side. made_seen (λ (m : CodedRow). without_place m.row) (coded.methods name side);
      others = so.system.shown.others;
    }

    begins_so : BeginsWith files mark begun
    begins_so = record { image = so.image; decoded = so.decoded; sources = so.sources; consistent = consistent; state = state_so; position = refl; count = refl }

    has_begun : HasBegun begun found
    has_begun = record {
      system = system_less found.system coded (λ (m : CodedRow). without_place m.row) state_row (λ e. refl) so.system.shown;
      places = system_less found.system coded (λ (m : CodedRow). m.row) row_in (λ e. refl) so.system.shown;
      at = so.at;
      count = so.count;
    }

    history_of : (front : List Change) → IsFront files mark front → IsHistoryOf found.history front
    history_of front (inl none) = absurd (named none.0)
    history_of front (inr is) =
        let image = is.2.0 in
        let decoded = subst (λ bytes. IsDecoded bytes image) (sym is.2.1) (decodes image is.2.2 (laws.verified front image is.1 is.2.3)) in
        let same : image ≡ so.image = one_image (image_part mark files) image so.image decoded so.decoded in
        laws.history front so.image found.history (subst (IsImageOf front) same is.2.3) so.history

    image_begins : BeginsSo files mark found
    image_begins = record { begun = begun; begins = inr (named, begins_so); imaged = λ also. so.long; has = has_begun; history = history_of }

  pub begins_with : (result : Result Begun StartFault) → IsBegunWith files mark log result → IsBegun files mark result
  begins_with (Ok found) is = image_begins found is
  begins_with (Err faults.Memory) is = tt
  begins_with (Err (faults.Disk failed)) is = tt
  begins_with (Err (faults.Damaged (NoMark count))) is = absurd is
  begins_with (Err (faults.Damaged (BadMark value))) is = absurd is
  begins_with (Err (faults.Damaged (LogShort marked found))) is = absurd is
  begins_with (Err (faults.Damaged (ImageShort marked found))) is = (named, is.0, is.1, is.2)
  begins_with (Err (faults.Damaged (BadBlock place))) is = absurd is
  begins_with (Err (faults.Damaged (Replay place number))) is = absurd is
  begins_with (Err (faults.Damaged (CountDiffers marked found))) is = absurd is
  begins_with (Err (faults.Damaged (BadImage place))) (long, inl refused) = (named, long, inl refused)
  begins_with (Err (faults.Damaged (BadImage place))) (long, inr unsound) = (
    named,
    long,
    inr (
      unsound.0,
      (
        unsound.1.0,
        unsound.1.1,
        λ sources whole.
            let held = held_hold log unsound.1.0.classes sources (subst (λ l. AreHeld l (imaged_methods unsound.1.0.classes) sources) (sym part) whole.held) in
            unsound.1.2 whole.count whole.below sources held whole.fit,
      ),
    ),
  )
