-- Lists of changes: the state that one change more makes, and what is accepted.
use Rattle.std.proofs.Common.{◌≡◌, ◌∙◌, ℕ, ◌+◌, ◌++◌, refl, sym, ap, subst, List, [], ◌∷◌, length, Option, None, Result, Ok, arith, length-append}
use Rattle.std.proofs.lemmas.Grind.{flat_map-append}
use Rattle.std.proofs.lemmas.List.{append-nil}
use Rattle.std.specs.FinMap as map
use Rattle.s80_change.specs.declared.change.Change.{Change}
use Rattle.s80_change.specs.declared.change.Change.TheVariants as variant
use Rattle.s80_form.specs.declared.definition.Definition.{Definition}
use Rattle.s80_form.specs.declared.form.Form.{Form}
use Rattle.s80_form.specs.declared.form.Form.TheVariants.{Define, ClassVars, Comment, RemoveClass}
use Rattle.s80_form.specs.declared.refusal.Refusal.{Refusal}
use Rattle.s80_change.specs.Block.{block, blocks}
use Rattle.s80_apply.specs.State.{State, StateOf, kernel_state, take_class}
use Rattle.s80_apply.specs.Placed.{PlacedState, placed_after, placed_from, placed_kernel_state, placed_of}
use Rattle.s80_class.specs.Classes.{Name, Classes, change_row, with_class_side_vars, with_comment}
use Rattle.s80_apply.specs.Accept.{accept, accepted, define, refusal_of, refusal_of_class_vars, refusal_of_removal, unknown_name}
use Rattle.s80_apply.specs.List.{AreOfList, state_or, state_after, state_from, state_of, IsAccepted, AreAccepted, IsBuilt}

-- ---- the log

pub blocks_more : (changes : List Change) (change : Change) → blocks (changes ++ change ∷ []) ≡ blocks changes ++ block change
blocks_more changes change = flat_map-append block changes (change ∷ []) ∙ ap (λ last. blocks changes ++ last) (append-nil (block change))

-- ---- the state

pub from_more : (state : State) (changes : List Change) (change : Change) → state_from state (changes ++ change ∷ []) ≡ state_after change (state_from state changes)
from_more state [] change = refl
from_more state (c ∷ cs) change = from_more (state_after c state) cs change

pub state_more : (changes : List Change) (change : Change) → state_of (changes ++ change ∷ []) ≡ state_after change (state_of changes)
state_more changes change = from_more kernel_state changes change

-- ---- the classes of a list with a form more, which they accept

makes : (o : Option Refusal) (before then : State) → o ≡ None → (state_or (accepted o then) before).classes ≡ then.classes
makes o before then none = ap (λ p. (state_or (accepted p then) before).classes) none

one_more : (classes now : Classes) (form : Form) → AreOfList classes → ((state : State) → state.classes ≡ classes → (state_after (variant.Form form) state).classes ≡ now) → AreOfList now
one_more classes now form (cs, is) then =
    (cs ++ variant.Form form ∷ [], sym (ap (λ (s : State). s.classes) (state_more cs (variant.Form form)) ∙ then (state_of cs) (sym is)))

pub of_list_more : (classes : Classes) (d : Definition) → AreOfList classes → refusal_of d classes ≡ None → AreOfList (define d classes)
of_list_more classes d of none = one_more classes (define d classes) (Define d) of (λ state same.
    makes (refusal_of d state.classes) state (record state { classes = define d state.classes }) (ap (refusal_of d) same ∙ none) ∙ ap (define d) same)

pub of_list_given_vars : (classes : Classes) (name : Name) (names : List Name) → AreOfList classes → refusal_of_class_vars name names classes ≡ None → AreOfList (change_row (with_class_side_vars names) name classes)
of_list_given_vars classes name names of none = one_more classes (change_row (with_class_side_vars names) name classes) (ClassVars name names) of (λ state same.
    makes (refusal_of_class_vars name names state.classes) state (record state { classes = change_row (with_class_side_vars names) name state.classes }) (ap (refusal_of_class_vars name names) same ∙ none)
    ∙ ap (change_row (with_class_side_vars names) name) same)

pub of_list_commented : (classes : Classes) (name : Name) (text : List ℕ) → AreOfList classes → unknown_name name classes ≡ None → AreOfList (change_row (with_comment text) name classes)
of_list_commented classes name text of none = one_more classes (change_row (with_comment text) name classes) (Comment name text) of (λ state same.
    makes (unknown_name name state.classes) state (record state { classes = change_row (with_comment text) name state.classes }) (ap (unknown_name name) same ∙ none) ∙ ap (change_row (with_comment text) name) same)

pub of_list_removed : (classes : Classes) (name : Name) → AreOfList classes → refusal_of_removal name classes ≡ None → AreOfList (map.remove classes name)
of_list_removed classes name of none = one_more classes (map.remove classes name) (RemoveClass name) of (λ state same.
    makes (refusal_of_removal name state.classes) state (take_class name state) (ap (refusal_of_removal name) same ∙ none) ∙ ap (λ (c : Classes). map.remove c name) same)

-- ---- the places

-- where the log ends behind one change, and then behind the others
places : (at : ℕ) (c : Change) (cs : List Change) → (at + length (block c)) + length (blocks cs) ≡ at + length (blocks (c ∷ cs))
places at c cs = omega (arith, length-append (block c) (blocks cs))

placed_from_more : (state : PlacedState) (at : ℕ) (changes : List Change) (change : Change) → placed_from state at (changes ++ change ∷ []) ≡ placed_after change (at + length (blocks changes)) (placed_from state at changes)
placed_from_more state at [] change = ap (λ n. placed_after change n state) (omega arith)
placed_from_more state at (c ∷ cs) change =
    placed_from_more (placed_after c at state) (at + length (block c)) cs change
    ∙ ap (λ n. placed_after change n (placed_from (placed_after c at state) (at + length (block c)) cs)) (places at c cs)

pub placed_more : (changes : List Change) (change : Change) → placed_of (changes ++ change ∷ []) ≡ placed_after change (length (blocks changes)) (placed_of changes)
placed_more changes change = placed_from_more placed_kernel_state 0 changes change ∙ ap (λ n. placed_after change n (placed_of changes)) (omega arith)

-- ---- what is accepted

pub accepted_more : (state : State) (changes : List Change) (change : Change) → AreAccepted state changes → IsAccepted (accept change (state_from state changes)) → AreAccepted state (changes ++ change ∷ [])
accepted_more state [] change all one = (one, tt)
accepted_more state (c ∷ cs) change all one = (all.0, accepted_more (state_after c state) cs change all.1 one)

-- a change is accepted by the state that those before it make
pub accepted_from : (state : State) (xs : List Change) (z : Change) (zs : List Change) → AreAccepted state (xs ++ z ∷ zs) → IsAccepted (accept z (state_from state xs))
accepted_from state [] z zs all = all.0
accepted_from state (x ∷ xs) z zs all = accepted_from (state_after x state) xs z zs all.1

pub accepted_here : (xs : List Change) (z : Change) (zs : List Change) → IsBuilt (xs ++ z ∷ zs) → IsAccepted (accept z (state_of xs))
accepted_here xs z zs all = accepted_from kernel_state xs z zs all

-- one change more, which the state of the list accepts
module _ (changes : List Change) (change : Change) where
  pub built_more : IsBuilt changes → IsAccepted (accept change (state_of changes)) → IsBuilt (changes ++ change ∷ [])
  built_more built is = accepted_more kernel_state changes change built is

  pub state_is_more : (now : State) → now ≡ state_after change (state_of changes) → now ≡ state_of (changes ++ change ∷ [])
  state_is_more now is = is ∙ sym (state_more changes change)

  -- whose block is put at the end of their log
  pub places_are_more : (end : ℕ) → end ≡ length (blocks changes) → (now : PlacedState) → now ≡ placed_after change end (placed_of changes) → now ≡ placed_of (changes ++ change ∷ [])
  places_are_more end here now is = is ∙ ap (λ n. placed_after change n (placed_of changes)) here ∙ sym (placed_more changes change)

-- what accepting makes
pub is_accepted : {M : Type 0} (answer : Result (StateOf M) Refusal) (now : StateOf M) → answer ≡ Ok now → IsAccepted answer
is_accepted answer now is = subst IsAccepted (sym is) tt

pub is_after : {M : Type 0} (answer : Result (StateOf M) Refusal) (before now : StateOf M) → answer ≡ Ok now → now ≡ state_or answer before
is_after answer before now is = sym (ap (λ r. state_or r before) is)
