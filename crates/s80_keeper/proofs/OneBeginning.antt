-- What files begin with is one state.
use Rattle.std.proofs.Common.{◌≡◌, inl, inr, ℕ, List, Some, sym, ap, ◌∙◌, subst}
use Rattle.std.specs.FinMap as map
use Rattle.s80_base.specs.declared.names.Side.{Side}
use Rattle.s80_base.specs.declared.names.Side.TheVariants.{Instance, Class}
use Rattle.s80_disk.specs.Image.{Image}
use Rattle.s80_mark.specs.declared.mark.MarkState.{MarkState}
use Rattle.s80_dict.specs.Dict.{Methods}
use Rattle.s80_class.specs.Classes.{Name, ClassRow, Classes}
use Rattle.s80_apply.specs.Placed.{without_place}
use Rattle.s80_apply.specs.Seen.{AreSeen}
use Rattle.s80_image.specs.Image.{ImageView}
use Rattle.s80_log.specs.Standing.{marked_part}
use Rattle.s80_snapshot.specs.Pictured.{CodedRow, CodedState, classes_view, sources_of}
use Rattle.s80_snapshot.specs.Sources.{imaged_methods}
use Rattle.s80_snapshot.proofs.lemmas.NamedMaps.{by_found, found_holds, same_named}
use Rattle.s80_snapshot.proofs.lemmas.SameViews.{each_same}
use Rattle.s80_keeper.specs.Beginning.{AreHeld, Beginning, Begins, BeginsWith, IsStateOf}
use Rattle.s80_keeper.specs.Imaged.{image_part}
use Rattle.s80_keeper.proofs.Decoding.{one_image}
use Rattle.s80_keeper.proofs.HeldSources.{one_held}

-- ---- the state of an image

seen_same : {X M : Type 0} (view : X → M) (these : Methods X) (those others : Methods M) → AreSeen view these those → AreSeen view these others → those ≡ others
seen_same view these those others one two = same_named those others (λ q. sym (one.each q) ∙ two.each q)

abbrev row_source : CodedRow → List ℕ
row_source m = m.row.source

module _ (image : ImageView) (sources : List (List ℕ)) (one other : Beginning) (a : IsStateOf image sources one) (b : IsStateOf image sources other) where
  abbrev ours : CodedState
  ours = a.coded

  abbrev theirs : CodedState
  theirs = b.coded

  classes_same : theirs.classes ≡ ours.classes
  classes_same = b.by_name ∙ sym a.by_name

  there_same : (name : Name) (row : ClassRow) → map.get ours.classes name ≡ Some row → (ours.methods name Instance ≡ theirs.methods name Instance) × (ours.methods name Class ≡ theirs.methods name Class)
  there_same =
      let views : classes_view ours ≡ classes_view theirs = sym a.classes_are ∙ b.classes_are in
      let texts : sources_of row_source ours ≡ sources_of row_source theirs = sym a.sources_are ∙ b.sources_are in
      found_holds (λ name row. (ours.methods name Instance ≡ theirs.methods name Instance) × (ours.methods name Class ≡ theirs.methods name Class)) ours.classes
      (each_same ours.methods theirs.methods (map.entries ours.classes)
      (views ∙ ap (λ (c : Classes). classes_view (record { classes = c; methods = theirs.methods })) classes_same)
      (texts ∙ ap (λ (c : Classes). sources_of row_source (record { classes = c; methods = theirs.methods })) classes_same))

  methods_same : (name : Name) (side : Side) → theirs.methods name side ≡ ours.methods name side
  methods_same name side = by_found (map.get ours.classes name)
      (λ none. b.others name side (ap (λ (c : Classes). map.get c name) classes_same ∙ none) ∙ sym (a.others name side none))
      (λ row is. sym (on side (there_same name row is)))
    where
      on : (side : Side) → (ours.methods name Instance ≡ theirs.methods name Instance) × (ours.methods name Class ≡ theirs.methods name Class) → ours.methods name side ≡ theirs.methods name side
      on Instance both = both.0
      on Class both = both.1

  states_same : one.state ≡ other.state
  states_same =
      let classes : one.state.classes ≡ other.state.classes = a.classes ∙ sym classes_same ∙ sym b.classes in
      let methods : (name : Name) (side : Side) → one.state.methods name side ≡ other.state.methods name side = λ name side.
      seen_same (λ (m : CodedRow). without_place m.row) (ours.methods name side) (one.state.methods name side) (other.state.methods name side) (a.methods name side)
      (subst (λ (ms : Methods CodedRow). AreSeen (λ (m : CodedRow). without_place m.row) ms (other.state.methods name side)) (methods_same name side) (b.methods name side)) in
      λ i. record { classes = classes i; methods = λ name side. methods name side i }

  placed_same : one.placed ≡ other.placed
  placed_same =
      let classes : one.placed.classes ≡ other.placed.classes = a.placed_classes ∙ sym classes_same ∙ sym b.placed_classes in
      let methods : (name : Name) (side : Side) → one.placed.methods name side ≡ other.placed.methods name side = λ name side.
      seen_same (λ (m : CodedRow). m.row) (ours.methods name side) (one.placed.methods name side) (other.placed.methods name side) (a.placed_methods name side)
      (subst (λ (ms : Methods CodedRow). AreSeen (λ (m : CodedRow). m.row) ms (other.placed.methods name side)) (methods_same name side) (b.placed_methods name side)) in
      λ i. record { classes = classes i; methods = λ name side. methods name side i }

  same_state : one.position ≡ other.position → one.count ≡ other.count → one ≡ other
  same_state position count = λ i. record { state = states_same i; placed = placed_same i; position = position i; count = count i }

-- ---- what files begin with

module _ (files : Image) (mark : MarkState) where
  one_begun : (one other : Beginning) → BeginsWith files mark one → BeginsWith files mark other → one ≡ other
  one_begun one other a b =
      let image : a.image ≡ b.image = one_image (image_part mark files) a.image b.image a.decoded b.decoded in
      let ours = a.consistent.held in
      let theirs = subst (λ (i : ImageView). AreHeld (marked_part mark files) (imaged_methods i.classes) b.sources) (sym image) b.consistent.held in
      let sources : a.sources ≡ b.sources = one_held (marked_part mark files) (imaged_methods a.image.classes) a.sources b.sources ours theirs in
      let state = subst (λ ss. IsStateOf a.image ss other) (sym sources) (subst (λ (i : ImageView). IsStateOf i b.sources other) (sym image) b.state) in
      same_state a.image a.sources one other a.state state (a.position ∙ sym b.position) (a.count ∙ ap (λ (i : ImageView). i.count) image ∙ sym b.count)

  pub one_beginning : (one other : Beginning) → Begins files mark one → Begins files mark other → one ≡ other
  one_beginning one other (inl a) (inl b) = a.1 ∙ sym b.1
  one_beginning one other (inl a) (inr b) = absurd (b.0 a.0)
  one_beginning one other (inr a) (inl b) = absurd (a.0 b.0)
  one_beginning one other (inr a) (inr b) = one_begun one other a.1 b.1
