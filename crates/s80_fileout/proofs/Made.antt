-- The parts of a condensed list as the pieces of what stands in order.
use Rattle.std.proofs.Common.{◌≡◌, ◌∙◌, ◌++◌, ℕ, Bool, true, false, cond, not, refl, sym, ap, List, [], ◌∷◌, Option, Some, None, append-nil, append_assoc}
use Rattle.std.specs.Prelude.{if◌then◌else◌}
use Rattle.std.specs.List.{filter, flat_map}
use Rattle.std.specs.FinMap as finmap
use Rattle.std.proofs.lemmas.List.Concat.{flat_map-append}
use Rattle.std.proofs.lemmas.List.Folds.{flat_map-map}
use Rattle.s80_base.specs.declared.names.Side.{Side}
use Rattle.s80_base.specs.declared.names.Side.TheVariants.{Instance, Class}
use Rattle.s80_kernel.specs.Methods.{KernelMethodRow, found_method}
use Rattle.s80_kernel.specs.Rows.{is_kernel_class}
use Rattle.s80_form.specs.declared.form.Form.TheVariants.{NoChanges, RemoveMethod}
use Rattle.s80_change.specs.declared.change.Change.{Change}
use Rattle.s80_change.specs.declared.change.Change.TheVariants.{Form}
use Rattle.s80_class.specs.Classes.{Name, Classes, ClassRow}
use Rattle.s80_apply.specs.List.{state_of}
use Rattle.s80_apply.specs.State.{MethodRow, State, kernel_state, on_class_side}
use Rattle.s80_fileout.specs.Condensed.{as_change, by_category, classified, for_methods, is_own_at, kept, kernel_category, kernel_part, of_kernel_class, of_method, of_own_class, of_versions, over_kernels, own_part, removals, up_to}
use Rattle.s80_fileout.specs.declared.methods.ListedMethod.{ListedMethod}
use Rattle.s80_fileout.specs.Order.{all_methods, by_row, has_source, kernel_class, listed, made_by, methods_in, methods_on, of_listed, own_class, own_names}
use Rattle.s80_fileout.proofs.Looked.{pieces_by_keys}
use Rattle.s80_fileout.proofs.Pieces.{passing_pieces, pieces_of_passes, pieces_of_pieces}

-- ---- classes

pub kernel_pieces : (state : State) → flat_map (kernel_class state) (finmap.keys state.classes) ≡ kernel_part state
kernel_pieces state = sym (pieces_by_keys (λ name row. by_row (λ n r. if is_kernel_class n then of_kernel_class state n r else []) name row) state.classes)

pub kernel_class_is : (state : State) (name : Name) (row : ClassRow) → finmap.get state.classes name ≡ Some row → is_kernel_class name ≡ true → kernel_class state name ≡ of_kernel_class state name row
kernel_class_is state name row there known = ap (by_row (λ n r. if is_kernel_class n then of_kernel_class state n r else []) name) there ∙ ap (λ b. if b then of_kernel_class state name row else []) known

chosen : (passes : Bool) (name : Name) (row : Option ClassRow) → by_row (λ n r. if passes then of_own_class n r else []) name row ≡ cond passes (by_row of_own_class name row) []
chosen true name None = refl
chosen false name None = refl
chosen true name (Some row) = refl
chosen false name (Some row) = refl

own_at : (classes : Classes) (depth : ℕ) → flat_map (λ (e : Name × ClassRow). if is_own_at classes depth e.0 then of_own_class e.0 e.1 else []) (finmap.entries classes) ≡ flat_map (own_class classes) (filter (is_own_at classes depth) (finmap.keys classes))
own_at classes depth =
    pieces_by_keys (λ name row. by_row (λ n r. if is_own_at classes depth name then of_own_class n r else []) name row) classes
    ∙ ap (λ (g : Name → List Change). flat_map g (finmap.keys classes)) (λ i name. chosen (is_own_at classes depth name) name (finmap.get classes name) i)
    ∙ sym (pieces_of_passes (own_class classes) (is_own_at classes depth) (finmap.keys classes))

pub own_pieces : (state : State) → flat_map (own_class state.classes) (own_names state.classes) ≡ own_part state
own_pieces state =
    pieces_of_pieces (own_class state.classes) (λ depth. filter (is_own_at state.classes depth) (finmap.keys state.classes)) (up_to (finmap.len state.classes))
    ∙ ap (λ (g : ℕ → List Change). flat_map g (up_to (finmap.len state.classes))) (λ i depth. sym (own_at state.classes depth) i)

-- the removal of a method that the state lacks
abbrev pub removal_piece : State → Name → Side → List ℕ → List Change
removal_piece state name side selector = cond (not (finmap.contains_key (state.methods name side) selector)) (Form (RemoveMethod name side selector) ∷ []) []

pub removal_pieces : (state : State) (name : Name) (side : Side) → flat_map (removal_piece state name side) (finmap.keys (kernel_state.methods name side)) ≡ removals state name side
removal_pieces state name side =
    passing_pieces (λ selector. not (finmap.contains_key (state.methods name side) selector)) (λ selector. Form (RemoveMethod name side selector)) (finmap.keys (kernel_state.methods name side))

-- ---- methods

-- what is made of each method that is listed is what is made of the methods
module _ (made : ListedMethod → List Change) (changes : Name → Side → List ℕ → MethodRow → List Change) (alike : (name : Name) (side : Side) (e : List ℕ × MethodRow) → made (listed name side e) ≡ changes name side e.0 e.1) where
  abbrev changes_on : State → Name → Side → List Change
  changes_on state name side = flat_map (λ (e : List ℕ × MethodRow). changes name side e.0 e.1) (by_category (state.methods name side))

  on_side : (state : State) (name : Name) (side : Side) → flat_map made (methods_on state name side) ≡ changes_on state name side
  on_side state name side =
      flat_map-map made (listed name side) (by_category (state.methods name side))
      ∙ ap (λ (g : List ℕ × MethodRow → List Change). flat_map g (by_category (state.methods name side))) (λ i e. alike name side e i)

  in_class : (state : State) (name : Name) → flat_map made (methods_in state name) ≡ flat_map (changes_on state name) (Instance ∷ Class ∷ [])
  in_class state name =
      flat_map-append made (methods_on state name Instance) (methods_on state name Class)
      ∙ (λ i. on_side state name Instance i ++ (on_side state name Class ∙ sym (append-nil (changes_on state name Class))) i)

  pub listed_pieces : (state : State) → flat_map made (all_methods state) ≡ for_methods changes state
  listed_pieces state =
      pieces_of_pieces made (methods_in state) (finmap.keys state.classes)
      ∙ ap (λ (g : Name → List Change). flat_map g (finmap.keys state.classes)) (λ i name. in_class state name i)

module _ (name : Name) (side : Side) where
  made_over : (selector : List ℕ) (row : MethodRow) (own : Option KernelMethodRow)
      → (if has_source row.source own then classified name side selector kernel_category row.category else (as_change name side selector row ∷ [])) ≡ over_kernels name side selector row own
  made_over selector row None = refl
  made_over selector row (Some k) = refl

  made_alike : (e : List ℕ × MethodRow) → made_by (listed name side e) ≡ of_method name side e.0 e.1
  made_alike e = made_over e.0 e.1 (found_method name (on_class_side side) e.0)

-- of the methods of one class
abbrev pub methods_made : State → Name → List Change
methods_made state name = flat_map (λ side. flat_map (λ e. of_method name side e.0 e.1) (by_category (state.methods name side))) (Instance ∷ Class ∷ [])

pub class_pieces : (state : State) (name : Name) → flat_map made_by (methods_in state name) ≡ methods_made state name
class_pieces state name = in_class made_by of_method made_alike state name

pub method_pieces : (state : State) → flat_map made_by (all_methods state) ≡ for_methods of_method state
method_pieces state = listed_pieces made_by of_method made_alike state

-- the list that keeps versions, in the order in which it is made
pub kept_in_order : (count : ℕ) (changes : List Change)
    → kept changes count ≡ kernel_part (state_of changes) ++ own_part (state_of changes) ++ flat_map (of_listed count changes) (all_methods (state_of changes)) ++ Form NoChanges ∷ []
kept_in_order count changes =
    let state : State = state_of changes in
    ap (λ l. l ++ Form NoChanges ∷ []) (sym (append_assoc (kernel_part state) (own_part state) (for_methods (of_versions count changes) state)))
    ∙ ap (λ l. kernel_part state ++ own_part state ++ l ++ Form NoChanges ∷ []) (sym (listed_pieces (of_listed count changes) (of_versions count changes) (λ name side e. refl) state))

-- ---- one part behind the other

module _ {C : Type 0} (before first second third : List C) where
  pub two_added : (one two : List C) → one ≡ before ++ first → two ≡ one ++ second → two ≡ before ++ (first ++ second)
  two_added one two a b = b ∙ ap (λ l. l ++ second) a ∙ append_assoc before first second

  pub three_added : (one two three : List C) → one ≡ before ++ first → two ≡ one ++ second → three ≡ two ++ third → three ≡ before ++ (first ++ (second ++ third))
  three_added one two three a b c =
      c ∙ ap (λ l. l ++ third) (b ∙ ap (λ l. l ++ second) a) ∙ append_assoc (before ++ first) second third ∙ append_assoc before first (second ++ third)
