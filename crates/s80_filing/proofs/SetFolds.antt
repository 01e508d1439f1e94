-- A change set, filed in behind the list before it.
use Rattle.std.proofs.Common.{◌≡◌, ◌∙◌, ◌+◌, ◌||◌, ◌⊎◌, inl, inr, ℕ, Bool, cond, true, false, true≢false, refl, sym, ap, subst, All, List, [], ◌∷◌, ◌++◌, length, map as list_map, append_assoc}
use Rattle.std.specs.List.{list_any}
use Rattle.std.proofs.lemmas.List.Elements.{All-cons, All-head, All-nil, All-tail}
use Rattle.s80_chunk.specs.declared.item.Item.{Item}
use Rattle.s80_chunk.specs.Chunks.{IsReading}
use Rattle.s80_form.specs.declared.form.Form.TheVariants.{NoChanges}
use Rattle.s80_change.specs.declared.change.Change.{Change}
use Rattle.s80_change.specs.declared.change.Change.TheVariants.{Form, Method, DoIt}
use Rattle.s80_change.specs.Block.{block, IsLawful}
use Rattle.s80_history.specs.Lists.{Placed, behind_last, is_left_out, is_no_changes, not_left_out, placed_from, set_of}
use Rattle.s80_apply.specs.List.{state_after, state_from, state_of, AreAccepted, IsBuilt}
use Rattle.s80_apply.specs.State.{State, kernel_state}
use Rattle.s80_apply.proofs.lemmas.Lists.{state_more}
use Rattle.s80_model.specs.Replies.{begun}
use Rattle.s80_model.specs.Settings.{Settings}
use Rattle.s80_fileout.specs.FileText.{IsFileAt, changes_text, header}
use Rattle.s80_fileout.specs.Items.{header_text, IsReadAs, IsShort}
use Rattle.s80_fileout.specs.Moment.{IsMoment}
use Rattle.s80_fileout.proofs.Leading.{Leads}
use Rattle.s80_filing.specs.Filing.{BeginsSet, CanFile, FilesIn, HasRoom, IsNoDoIt, headed}
use Rattle.s80_filing.proofs.FiledIn.{OneAsk}
use Rattle.s80_filing.proofs.FileFiledIn.{bytes_filed_in, state_behind}
use Rattle.s80_filing.proofs.lemmas.SetShort.{kept, kept_placed, placed_are, set_folds}

-- ---- what holds of each of them

kept_all : (P : Change → Type 0) (list : List Change) → All P list → All P (kept list)
kept_all P [] all = all
kept_all P (change ∷ later) all = go (is_left_out change later) (kept_all P later (All-tail P change later all))
  where
    go : (b : Bool) → All P (kept later) → All P (cond b (kept later) (change ∷ kept later))
    go true rest = rest
    go false rest = All-cons P change (kept later) (All-head P change later all) rest

-- no doIt is among them
not_left : (change : Change) (later : List Change) → is_left_out change later ≡ false → IsNoDoIt change
not_left (Form form) later is = tt
not_left (Method m) later is = tt
not_left (DoIt text) later is = absurd (true≢false is)

kept_no_doit : (list : List Change) → All IsNoDoIt (kept list)
kept_no_doit [] = All-nil IsNoDoIt
kept_no_doit (change ∷ later) = go (is_left_out change later) refl (kept_no_doit later)
  where
    go : (b : Bool) → is_left_out change later ≡ b → All IsNoDoIt (kept later) → All IsNoDoIt (cond b (kept later) (change ∷ kept later))
    go true is rest = rest
    go false is rest = All-cons IsNoDoIt change (kept later) (not_left change later is) rest

all_behind : (P : Change → Type 0) (front list : List Change) → All P (front ++ list) → All P list
all_behind P [] list all = all
all_behind P (change ∷ front) list all = all_behind P front list (All-tail P change (front ++ list) all)

-- ---- the set of a list

abbrev begins_one : List Placed → Bool
begins_one ps = list_any (λ q. is_no_changes q.1) ps

-- nothing begins a set
abbrev BeginNone : List Change → Type 0
BeginNone list = All (λ change. is_no_changes change ≡ false) list

none_begins : (at : ℕ) (list : List Change) → BeginNone list → begins_one (placed_from at list) ≡ false
none_begins at [] none = refl
none_begins at (change ∷ list) none =
    ap (λ b. b || begins_one (placed_from (at + length (block change)) list)) (All-head (λ change. is_no_changes change ≡ false) change list none)
    ∙ none_begins (at + length (block change)) list (All-tail (λ change. is_no_changes change ≡ false) change list none)

-- of such a change and what is behind it, by what the changes behind begin
abbrev behind_one : Bool → Bool → Placed → List Placed → List Placed
behind_one later here p ps = cond later (behind_last is_no_changes ps) (cond here ps (p ∷ ps))

-- a list in which nothing begins a set is one
whole_set : (at : ℕ) (list : List Change) → BeginNone list → behind_last is_no_changes (placed_from at list) ≡ placed_from at list
whole_set at [] none = refl
whole_set at (change ∷ list) none =
    let ps = placed_from (at + length (block change)) list in
    (λ i. behind_one (none_begins (at + length (block change)) list (All-tail (λ change. is_no_changes change ≡ false) change list none) i) (All-head (λ change. is_no_changes change ≡ false) change list none i) (at, change) ps)

-- the set begins behind this change
record IsBegun (at : ℕ) (front set : List Change) : Type 0 where
  from : ℕ
  one : begins_one (placed_from at (front ++ Form NoChanges ∷ set)) ≡ true
  set_is : behind_last is_no_changes (placed_from at (front ++ Form NoChanges ∷ set)) ≡ placed_from from set

or_true : (a b : Bool) → b ≡ true → (a || b) ≡ true
or_true true b is = refl
or_true false b is = is

set_begun : (at : ℕ) (front set : List Change) → BeginNone set → IsBegun at front set
set_begun at [] set none = record {
  from = at + length (block (Form NoChanges));
  one = refl;
  set_is = ap (λ b. behind_one b true (at, Form NoChanges) (placed_from (at + length (block (Form NoChanges))) set)) (none_begins (at + length (block (Form NoChanges))) set none);
}
set_begun at (change ∷ front) set none =
    let ps = placed_from (at + length (block change)) (front ++ Form NoChanges ∷ set) in
    let rest = set_begun (at + length (block change)) front set none in
    record {
      from = rest.from;
      one = or_true (is_no_changes change) (begins_one ps) rest.one;
      set_is = ap (λ b. behind_one b (is_no_changes change) (at, change) ps) rest.one ∙ rest.set_is;
    }

-- the changes of the set are those of the second part that aren't left out
set_placed : (list set : List Change) (at : ℕ) → behind_last is_no_changes (placed_from 0 list) ≡ placed_from at set → list_map (λ (p : Placed). p.1) (set_of list) ≡ kept set
set_placed list set at is = ap (λ ps. list_map (λ (p : Placed). p.1) (not_left_out ps)) is ∙ kept_placed (placed_from at set) ∙ ap kept (placed_are at set)

set_kept : (before set : List Change) → BeginsSet before set → list_map (λ (p : Placed). p.1) (set_of (before ++ set)) ≡ kept set
set_kept before set begins = by_front begins.behind
  where
    by_front : (before ≡ []) ⊎ ((front : List Change) × (before ≡ front ++ Form NoChanges ∷ [])) → list_map (λ (p : Placed). p.1) (set_of (before ++ set)) ≡ kept set
    by_front (inl none) = ap (λ l. list_map (λ (p : Placed). p.1) (set_of (l ++ set))) none ∙ set_placed set set 0 (whole_set 0 set begins.none)
    by_front (inr (front, is)) =
        let at = set_begun 0 front set begins.none in
        ap (λ l. list_map (λ (p : Placed). p.1) (set_of l)) (ap (λ l. l ++ set) is ∙ append_assoc front (Form NoChanges ∷ []) set)
        ∙ set_placed (front ++ Form NoChanges ∷ set) set at.from at.set_is

-- ---- the list before it, and behind that the set

state_of_both : (state : State) (before set : List Change) → state_from state (before ++ set) ≡ state_from (state_from state before) set
state_of_both state [] set = refl
state_of_both state (change ∷ before) set = state_of_both (state_after change state) before set

set_accepted : (state : State) (before set : List Change) → AreAccepted state (before ++ set) → AreAccepted (state_from state before) set
set_accepted state [] set all = all
set_accepted state (change ∷ before) set all = set_accepted (state_after change state) before set all.1

-- ---- the file

-- the laws of reading
abbrev OneReading : Type 0
OneReading = (bytes : List ℕ) (given others : List Item) (rest end : List ℕ) → IsReading bytes given rest → IsReading bytes others end → (given ≡ others) × (rest ≡ end)

abbrev ReadAgain : Type 0
ReadAgain = (changes : List Change) (seconds : ℕ) (moment text : List ℕ) → All IsLawful changes → All IsShort changes → IsFileAt changes seconds moment text → IsReadAs text moment changes

module _ (one : OneAsk) (sole : OneReading) (again : ReadAgain) (settings : Settings) (before set : List Change) (seconds : ℕ) (moment : List ℕ)
    (begins : BeginsSet before set) (built : IsBuilt (before ++ set)) (lawful : All IsLawful (before ++ set)) (at : IsMoment seconds moment) where
  -- of these changes
  abbrev files_in : List Change → Type 0
  files_in changes = HasRoom before changes moment → FilesIn (begun settings before) (header moment ++ changes_text changes) (state_of (before ++ set))

  set_leads : Leads (state_of before) (kept set) (λ made. made ≡ state_from (state_of before) set)
  set_leads = set_folds set (state_of before) (set_accepted kernel_state before set built)

  can_file : HasRoom before (kept set) moment → CanFile (headed before moment) (kept set)
  can_file room = record {
    lawful = kept_all IsLawful set (all_behind IsLawful before set lawful);
    short = room.short;
    no_doit = kept_no_doit set;
    accepted = subst (λ s. AreAccepted s (kept set)) (sym (state_more before (DoIt (header_text moment)))) set_leads.0;
    within = room.within;
  }

  kept_files_in : files_in (kept set)
  kept_files_in room =
      let can = can_file room in
      let text : List ℕ = header moment ++ changes_text (kept set) in
      let read = again (kept set) seconds moment text can.lawful can.short (record { at = at; whole = refl }) in (
        headed before moment ++ kept set,
        bytes_filed_in one sole (begun settings before) (kept set) seconds text moment refl at read can,
        state_behind before (kept set) moment ∙ set_leads.1 ∙ sym (state_of_both kernel_state before set),
      )

  pub set_files_in : files_in (list_map (λ (p : Placed). p.1) (set_of (before ++ set)))
  set_files_in = subst files_in (sym (set_kept before set begins)) kept_files_in
