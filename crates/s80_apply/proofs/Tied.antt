-- Where sources stand, and the state: the same classes and methods.
use Rattle.std.proofs.Common.{◌≡◌, ◌∙◌, ◌+◌, ◌&&◌, ℕ, cond, refl, sym, ap, subst, List, [], ◌∷◌, length, Option, Some, None, Result, Ok, Err, is_some, option_map, unwrap_or}
use Rattle.std.specs.Str.{bytes_eq}
use Rattle.std.specs.Ordering.{nat_cmp}
use Rattle.std.specs.Cmp.Lexicographic.{slice_cmp, nat_list_cmp_total}
use Rattle.std.specs.FinMap as map
use Rattle.s80_base.specs.declared.names.Side.{Side}
use Rattle.s80_dict.specs.Dict.{Methods}
use Rattle.s80_dict.specs.Table.{methods_at, same_side}
use Rattle.s80_kernel.specs.Methods.{KernelMethodRow, kernel_methods}
use Rattle.s80_change.specs.Block.{block}
use Rattle.s80_change.specs.declared.change.Change.{Change}
use Rattle.s80_change.specs.declared.change.Change.TheVariants as changes
use Rattle.s80_change.specs.declared.change.Method.{Method as MethodChange}
use Rattle.s80_form.specs.declared.form.Form.{Form}
use Rattle.s80_form.specs.declared.form.Form.TheVariants.{Define, ClassVars, Comment, RemoveMethod, Classify, RemoveClass, NoChanges}
use Rattle.s80_form.specs.declared.refusal.Refusal.{Refusal}
use Rattle.s80_form.specs.declared.refusal.Refusal.TheVariants.{NoSelector}
use Rattle.s80_form.specs.declared.refusal.ManyKind.TheVariants.{Methods as ManyMethods}
use Rattle.s80_class.specs.Classes.{Name, Classes, change_row, with_class_side_vars, with_comment}
use Rattle.s80_apply.specs.Kernel.{kernel_classes}
use Rattle.s80_apply.specs.State.{MethodRow, State, kernel_method, kernel_state, no_methods, put_kernel_methods, put_method, side_of, take_class, take_method}
use Rattle.s80_apply.specs.Accept.{above, accept_checked, accept_form, accepted, classify, define, first_some, keeping_rows, no_method, put_source, refusal_of, refusal_of_class_vars, refusal_of_removal, too_many_methods, unknown_name}
use Rattle.s80_apply.specs.List.{state_after, state_from, state_of, state_or}
use Rattle.s80_apply.specs.Placed.{ArePlacesOf, PlacedRow, PlacedState, keeping_places, placed_after, placed_from, placed_kernel_method, placed_kernel_state, placed_of, without_place}
use Rattle.s80_apply.specs.Seen.{AreSeen}
use Rattle.s80_apply.specs.Entries.{Entry, row_in, state_row}
use Rattle.s80_apply.specs.System.{HasPlaces, IsSystemOf, SystemState}
use Rattle.s80_apply.proofs.Stands.{same_count, seen_empty, seen_put, seen_taken, seen_where}

-- ---- a change of the state, and the same of the places

module _ (placed : PlacedState) (state : State) (tied : ArePlacesOf placed state) where
  put_tied : (class : Name) (side : Side) (selector : List ℕ) (row : PlacedRow) (shown : MethodRow) → without_place row ≡ shown → ArePlacesOf (put_method class side selector row placed) (put_method class side selector shown state)
  put_tied class side selector row shown is = record {
    classes = tied.classes;
    methods = λ name s.
        seen_where without_place (bytes_eq name class && same_side s side) (map.insert (placed.methods name s) selector row) (placed.methods name s) (map.insert (state.methods name s) selector shown) (state.methods name s)
        (seen_put without_place (placed.methods name s) (state.methods name s) selector row shown is (tied.methods name s)) (tied.methods name s);
  }

  taken_tied : (class : Name) (side : Side) (selector : List ℕ) → ArePlacesOf (take_method class side selector placed) (take_method class side selector state)
  taken_tied class side selector = record {
    classes = tied.classes;
    methods = λ name s.
        seen_where without_place (bytes_eq name class && same_side s side) (map.remove (placed.methods name s) selector) (placed.methods name s) (map.remove (state.methods name s) selector) (state.methods name s)
        (seen_taken without_place (placed.methods name s) (state.methods name s) selector (tied.methods name s)) (tied.methods name s);
  }

  gone_tied : (class : Name) → ArePlacesOf (take_class class placed) (take_class class state)
  gone_tied class = record {
    classes = ap (λ (c : Classes). map.remove c class) tied.classes;
    methods = λ name s. seen_where without_place (bytes_eq name class) map.empty (placed.methods name s) map.empty (state.methods name s) (seen_empty without_place) (tied.methods name s);
  }

  classified_tied : (at : ℕ) (name : Name) (side : Side) (selector category : List ℕ) → ArePlacesOf (classify (keeping_places at) name side selector category placed) (classify keeping_rows name side selector category state)
  classified_tied at name side selector category = go (map.get (placed.methods name side) selector) (map.get (state.methods name side) selector) ((tied.methods name side).each selector)
    where
      go : (a : Option PlacedRow) (b : Option MethodRow) → option_map without_place a ≡ b
          → ArePlacesOf (unwrap_or (option_map (λ row. put_method name side selector (record row { category = category }) placed) a) placed) (unwrap_or (option_map (λ row. put_method name side selector (record row { category = category }) state) b) state)
      go None None same = tied
      go None (Some row) same = absurd (cc)
      go (Some row) None same = absurd (cc)
      go (Some row) (Some shown) same =
          let rows : without_place row ≡ shown = cc in
          put_tied name side selector (record row { category = category }) (record shown { category = category }) (ap (λ (r : MethodRow). record r { category = category }) rows)

  -- the classes changed alone
  classes_tied : (change : Classes → Classes) → ArePlacesOf (record placed { classes = change placed.classes }) (record state { classes = change state.classes })
  classes_tied change = record { classes = ap change tied.classes; methods = tied.methods }

  -- ---- it is refused for the same

  accepted_tied : (o p : Option Refusal) (after : PlacedState) (now : State) → o ≡ p → ArePlacesOf after now → ArePlacesOf (state_or (accepted o after) placed) (state_or (accepted p now) state)
  accepted_tied o p after now same then = subst (λ q. ArePlacesOf (state_or (accepted q after) placed) (state_or (accepted p now) state)) (sym same) (both p)
    where
      both : (p : Option Refusal) → ArePlacesOf (state_or (accepted p after) placed) (state_or (accepted p now) state)
      both None = then
      both (Some refusal) = tied

  there_same : (a : Option PlacedRow) (b : Option MethodRow) → option_map without_place a ≡ b → is_some a ≡ is_some b
  there_same None b same = ap is_some same
  there_same (Some row) b same = ap is_some same

  same_method : (name : Name) (side : Side) (selector : List ℕ) → no_method name side selector placed ≡ no_method name side selector state
  same_method name side selector =
      let there : map.contains_key (placed.methods name side) selector ≡ map.contains_key (state.methods name side) selector =
      there_same (map.get (placed.methods name side) selector) (map.get (state.methods name side) selector) ((tied.methods name side).each selector) in
      λ i. first_some (unknown_name name (tied.classes i) ∷ cond (there i) None (Some (NoSelector name side selector)) ∷ [])

  same_place : (m : MethodChange) (selector : List ℕ)
      → first_some (unknown_name m.class_name placed.classes ∷ too_many_methods m selector placed ∷ []) ≡ first_some (unknown_name m.class_name state.classes ∷ too_many_methods m selector state ∷ [])
  same_place m selector =
      let many = same_count without_place (placed.methods m.class_name m.side) (state.methods m.class_name m.side) selector (tied.methods m.class_name m.side) in
      λ i. first_some (unknown_name m.class_name (tied.classes i) ∷ above 16384 ManyMethods (many i) ∷ [])

  -- ---- a change

  form_tied : (form : Form) (at : ℕ) → ArePlacesOf (state_or (accept_form (keeping_places at) form placed) placed) (state_or (accept_form keeping_rows form state) state)
  form_tied (Define d) at =
      accepted_tied (refusal_of d placed.classes) (refusal_of d state.classes) (record placed { classes = define d placed.classes }) (record state { classes = define d state.classes }) (ap (refusal_of d) tied.classes)
      (classes_tied (define d))
  form_tied (ClassVars name names) at =
      accepted_tied (refusal_of_class_vars name names placed.classes) (refusal_of_class_vars name names state.classes) (record placed { classes = change_row (with_class_side_vars names) name placed.classes })
      (record state { classes = change_row (with_class_side_vars names) name state.classes }) (ap (refusal_of_class_vars name names) tied.classes) (classes_tied (change_row (with_class_side_vars names) name))
  form_tied (Comment name text) at =
      accepted_tied (unknown_name name placed.classes) (unknown_name name state.classes) (record placed { classes = change_row (with_comment text) name placed.classes })
      (record state { classes = change_row (with_comment text) name state.classes }) (ap (unknown_name name) tied.classes) (classes_tied (change_row (with_comment text) name))
  form_tied (RemoveMethod name side selector) at =
      accepted_tied (no_method name side selector placed) (no_method name side selector state) (take_method name side selector placed) (take_method name side selector state) (same_method name side selector) (taken_tied name side selector)
  form_tied (Classify name side selector category) at =
      accepted_tied (no_method name side selector placed) (no_method name side selector state) (classify (keeping_places at) name side selector category placed) (classify keeping_rows name side selector category state)
      (same_method name side selector) (classified_tied at name side selector category)
  form_tied (RemoveClass name) at =
      accepted_tied (refusal_of_removal name placed.classes) (refusal_of_removal name state.classes) (take_class name placed) (take_class name state) (ap (refusal_of_removal name) tied.classes) (gone_tied name)
  form_tied NoChanges at = tied

  method_tied : (m : MethodChange) (check : Result (List ℕ) Refusal) (at : ℕ) → ArePlacesOf (state_or (accept_checked (keeping_places at) m check placed) placed) (state_or (accept_checked keeping_rows m check state) state)
  method_tied m (Err refusal) at = tied
  method_tied m (Ok selector) at =
      accepted_tied (first_some (unknown_name m.class_name placed.classes ∷ too_many_methods m selector placed ∷ [])) (first_some (unknown_name m.class_name state.classes ∷ too_many_methods m selector state ∷ []))
      (put_source (keeping_places at) m selector placed) (put_source keeping_rows m selector state) (same_place m selector) (put_tied m.class_name m.side selector ((keeping_places at).put m) (keeping_rows.put m) refl)

  after_tied : (change : Change) (at : ℕ) → ArePlacesOf (placed_after change at placed) (state_after change state)
  after_tied (changes.Form form) at = form_tied form at
  after_tied (changes.Method m) at = method_tied m m.source.selector at
  after_tied (changes.DoIt text) at = tied

-- ---- the kernel

bare_tied : ArePlacesOf (record { classes = kernel_classes; methods = no_methods }) (record { classes = kernel_classes; methods = no_methods })
bare_tied = record { classes = refl; methods = λ name side. seen_empty without_place }

kernel_more : (ks : List KernelMethodRow) (placed : PlacedState) (state : State) → ArePlacesOf placed state → ArePlacesOf (put_kernel_methods placed_kernel_method ks placed) (put_kernel_methods kernel_method ks state)
kernel_more [] placed state tied = tied
kernel_more (k ∷ ks) placed state tied =
    kernel_more ks (put_method k.class (side_of k.on_class_side) k.selector (placed_kernel_method k) placed) (put_method k.class (side_of k.on_class_side) k.selector (kernel_method k) state)
    (put_tied placed state tied k.class (side_of k.on_class_side) k.selector (placed_kernel_method k) (kernel_method k) refl)

pub kernel_tied : ArePlacesOf placed_kernel_state kernel_state
unfolding kernel_state placed_kernel_state
kernel_tied = kernel_more kernel_methods (record { classes = kernel_classes; methods = no_methods }) (record { classes = kernel_classes; methods = no_methods }) bare_tied

-- ---- a list

from_tied : (cs : List Change) (at : ℕ) (placed : PlacedState) (state : State) → ArePlacesOf placed state → ArePlacesOf (placed_from placed at cs) (state_from state cs)
from_tied [] at placed state tied = tied
from_tied (c ∷ cs) at placed state tied = from_tied cs (at + length (block c)) (placed_after c at placed) (state_after c state) (after_tied placed state tied c at)

pub list_tied : (cs : List Change) → ArePlacesOf (placed_of cs) (state_of cs)
list_tied cs = from_tied cs 0 placed_kernel_state kernel_state kernel_tied

-- ---- a system

shown_again : (entries : Option Entry) (rows : Option PlacedRow) (shown : Option MethodRow) → option_map row_in entries ≡ rows → option_map without_place rows ≡ shown → option_map state_row entries ≡ shown
shown_again None rows shown is then = ap (option_map without_place) is ∙ then
shown_again (Some entry) rows shown is then = ap (option_map without_place) is ∙ then

nothing_shown : (placed : Methods PlacedRow) (shown : Methods MethodRow) → placed ≡ map.empty → AreSeen without_place placed shown → shown ≡ map.empty
nothing_shown placed shown none seen =
    map.same_map nat_list_cmp_total (map.slice_cmp-IsAntisymmetric map.nat_cmp-IsAntisymmetric) shown map.empty (λ q.
    sym (seen.each q) ∙ ap (λ (m : Methods PlacedRow). option_map without_place (map.get m q)) none ∙ ap (option_map without_place) (map.get-empty (slice_cmp nat_cmp) q) ∙ sym (map.get-empty (slice_cmp nat_cmp) q))

-- a system with these places has the state
pub system_tied : (system : SystemState) (placed : PlacedState) (state : State) → ArePlacesOf placed state → HasPlaces system placed → IsSystemOf system state
system_tied system placed state tied has = record {
  classes = has.classes ∙ tied.classes;
  methods = λ number name side named.
      let here = has.methods number name side named in
      let there = tied.methods name side in
      record {
        keys = here.keys ∙ there.keys;
        each = λ s. shown_again (map.get (methods_at system.methods number side) s) (map.get (placed.methods name side) s) (map.get (state.methods name side) s) (here.each s) (there.each s);
      };
  others = λ name side none.
      nothing_shown (placed.methods name side) (state.methods name side) (has.others name side (ap (λ (c : Classes). map.get c name) tied.classes ∙ none)) (tied.methods name side);
}
