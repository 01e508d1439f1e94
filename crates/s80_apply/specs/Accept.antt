-- Whether a change is accepted, and what it makes of the state.
use Rattle.std.specs.Prelude.{ℕ, ◌+◌, List, [], ◌∷◌, ◌++◌, not, Option, Some, None, Result, Ok, Err, length, find, nat_le, option_map, unwrap_or, if◌then◌else◌}
use Rattle.std.specs.FinMap as map
use Rattle.s80_syntax.specs.Word.{has_name}
use Rattle.s80_kernel.specs.Rows.{is_kernel_class}
use Rattle.s80_change.specs.declared.change.Change.{Change}
use Rattle.s80_change.specs.declared.change.Change.TheVariants.{DoIt}
use Rattle.s80_form.specs.declared.form.Form.{Form}
use Rattle.s80_form.specs.declared.form.Form.TheVariants.{Define, ClassVars, Comment, RemoveMethod, Classify, RemoveClass, NoChanges}
use Rattle.s80_form.specs.declared.definition.Definition.{Definition}
use Rattle.s80_form.specs.declared.refusal.Refusal.{Refusal}
use Rattle.s80_form.specs.declared.refusal.Refusal.TheVariants.{UnknownClass, KernelClass, HasSubclasses, Cycle, Duplicate, BadName, NoSelector, TooMany}
use Rattle.s80_form.specs.declared.refusal.ManyKind.{ManyKind}
use Rattle.s80_form.specs.declared.refusal.ManyKind.TheVariants.{Classes as ManyClasses, InstanceVariables, ClassVariables, ClassSideVariables, Pools, Methods as ManyMethods, BitsVariables}
use Rattle.s80_form.specs.Name.{is_name, is_class_name}
use Rattle.s80_class.specs.Classes.{Name, ClassRow, Classes, change_row, extent_of, has_subclass, is_under, with_class_side_vars, with_comment}
use Rattle.s80_dict.specs.Dict.{Methods}
use Rattle.s80_change.specs.declared.change.Change.TheVariants as change
use Rattle.s80_change.specs.declared.change.Method.{Method}
use Rattle.s80_base.specs.declared.names.Side.{Side}
use Rattle.s80_apply.specs.State.{MethodRow, State, StateOf, put_method, take_class, take_method}

-- how many methods there are with one at this selector
abbrev pub len_with : {X : Type 0} → List ℕ → Methods X → ℕ
len_with selector methods = if map.contains_key methods selector then map.len methods else map.len methods + 1

-- ---- definitions

-- A new class has an empty comment and no class-side variables; one that is there keeps its own.
abbrev pub row_of : Definition → Option ClassRow → ClassRow
row_of d old = record {
  superclass = Some d.superclass;
  kind = d.kind;
  inst_vars = d.inst_vars;
  class_vars = d.class_vars;
  pools = d.pools;
  category = d.category;
  comment = unwrap_or (option_map (λ row. row.comment) old) [];
  class_side_vars = unwrap_or (option_map (λ row. row.class_side_vars) old) [];
}

abbrev pub define : Definition → Classes → Classes
define d classes = map.insert classes d.class_name (row_of d (map.get classes d.class_name))

-- ---- why it may be refused

-- the name of the class, then those of the lists: the first that isn't such a name
abbrev pub bad_name : Definition → Option Refusal
bad_name d = if is_class_name d.class_name then option_map BadName (find (λ name. not (is_name name)) (d.inst_vars ++ (d.class_vars ++ d.pools))) else Some (BadName d.class_name)

-- there is no class of this name
abbrev pub unknown_name : Name → Classes → Option Refusal
unknown_name name classes = if map.contains_key classes name then None else Some (UnknownClass name)

abbrev pub unknown_class : Definition → Classes → Option Refusal
unknown_class d classes = unknown_name d.superclass classes

-- the class of this name is one of the kernel's
abbrev pub kernel_name : Name → Option Refusal
kernel_name name = if is_kernel_class name then Some (KernelClass name) else None

abbrev pub kernel_class : Definition → Option Refusal
kernel_class d = kernel_name d.class_name

-- the new superclass is the class itself or descends from it
abbrev pub cycle : Definition → Classes → Option Refusal
cycle d classes = if is_under classes d.superclass d.class_name then Some (Cycle d.class_name) else None

-- the first name that stands among those before it
abbrev pub first_again : List Name → List Name → Option Name
first_again before [] = None
first_again before (name ∷ names) = if has_name before name then Some name else first_again (before ++ name ∷ []) names

abbrev pub first_some : {T : Type 0} → List (Option T) → Option T
first_some [] = None
first_some (None ∷ others) = first_some others
first_some (Some value ∷ others) = Some value

abbrev pub duplicate : Definition → Option Refusal
duplicate d = option_map Duplicate (first_some (first_again [] d.inst_vars ∷ first_again [] d.class_vars ∷ first_again [] d.pools ∷ []))

abbrev pub above : ℕ → ManyKind → ℕ → Option Refusal
above limit kind count = if nat_le count limit then None else Some (TooMany kind count)

-- the first limit that the classes would pass as they would be
abbrev pub too_many : Definition → Classes → Option Refusal
too_many d classes = first_some (
    above 65536 ManyClasses (map.len (define d classes))
    ∷ above 64 InstanceVariables (extent_of (define d classes) d.class_name).inst_vars
    ∷ above 256 ClassVariables (length d.class_vars)
    ∷ above 64 ClassSideVariables (extent_of (define d classes) d.class_name).class_side_vars
    ∷ above 256 Pools (length d.pools)
    ∷ above 0 BitsVariables (extent_of (define d classes) d.class_name).bits_variables
    ∷ [])

-- the first reason to refuse it, in this order
abbrev pub refusal_of : Definition → Classes → Option Refusal
refusal_of d classes = first_some (bad_name d ∷ unknown_class d classes ∷ kernel_class d ∷ cycle d classes ∷ duplicate d ∷ too_many d classes ∷ [])

abbrev pub accepted : {T : Type 0} → Option Refusal → T → Result T Refusal
accepted None value = Ok value
accepted (Some refusal) value = Err refusal

abbrev pub accept_definition : Definition → Classes → Result Classes Refusal
accept_definition d classes = accepted (refusal_of d classes) (define d classes)

-- ---- other changes of a class

-- the first reason to refuse class-side variables, in this order
abbrev pub refusal_of_class_vars : Name → List Name → Classes → Option Refusal
refusal_of_class_vars name names classes = first_some (
    option_map BadName (find (λ word. not (is_name word)) names)
    ∷ unknown_name name classes
    ∷ kernel_name name
    ∷ option_map Duplicate (first_again [] names)
    ∷ above 64 ClassSideVariables (extent_of (change_row (with_class_side_vars names) name classes) name).class_side_vars
    ∷ [])

-- some class has it as its superclass
abbrev pub has_subclasses : Name → Classes → Option Refusal
has_subclasses name classes = if has_subclass classes name then Some (HasSubclasses name) else None

-- the first reason not to remove a class, in this order
abbrev pub refusal_of_removal : Name → Classes → Option Refusal
refusal_of_removal name classes = first_some (unknown_name name classes ∷ kernel_name name ∷ has_subclasses name classes ∷ [])

-- ---- methods

-- what is kept of a method that is put, and of one that gets another category
pub record Keeping (M : Type 0) : Type 0 where
  pub put : Method → M
  pub under : List ℕ → M → M

-- of a method the state has its category and its source
abbrev pub keeping_rows : Keeping MethodRow
keeping_rows = record {
  put = λ m. record { category = m.category; source = m.source.text };
  under = λ category row. record row { category = category };
}

abbrev pub put_source : {M : Type 0} → Keeping M → Method → List ℕ → StateOf M → StateOf M
put_source keeping m selector state = put_method m.class_name m.side selector (keeping.put m) state

abbrev pub too_many_methods : {M : Type 0} → Method → List ℕ → StateOf M → Option Refusal
too_many_methods m selector state = above 16384 ManyMethods (len_with selector (state.methods m.class_name m.side))

-- a method is refused for its source alone, for its class, or for the number of methods that there would be
abbrev pub accept_checked : {M : Type 0} → Keeping M → Method → Result (List ℕ) Refusal → StateOf M → Result (StateOf M) Refusal
accept_checked keeping m (Err refusal) state = Err refusal
accept_checked keeping m (Ok selector) state =
    accepted (first_some (unknown_name m.class_name state.classes ∷ too_many_methods m selector state ∷ [])) (put_source keeping m selector state)

-- that side of the class has no such method
abbrev pub no_selector : {M : Type 0} → Name → Side → List ℕ → StateOf M → Option Refusal
no_selector name side selector state = if map.contains_key (state.methods name side) selector then None else Some (NoSelector name side selector)

abbrev pub no_method : {M : Type 0} → Name → Side → List ℕ → StateOf M → Option Refusal
no_method name side selector state = first_some (unknown_name name state.classes ∷ no_selector name side selector state ∷ [])

-- a method under another category, where it is there
abbrev pub classify : {M : Type 0} → Keeping M → Name → Side → List ℕ → List ℕ → StateOf M → StateOf M
classify keeping name side selector category state =
    unwrap_or (option_map (λ row. put_method name side selector (keeping.under category row) state) (map.get (state.methods name side) selector)) state

-- ---- changes

-- what a form makes of a state, or the first reason to refuse it
abbrev pub accept_form : {M : Type 0} → Keeping M → Form → StateOf M → Result (StateOf M) Refusal
accept_form keeping (Define d) state = accepted (refusal_of d state.classes) (record state { classes = define d state.classes })
accept_form keeping (ClassVars name names) state =
    accepted (refusal_of_class_vars name names state.classes) (record state { classes = change_row (with_class_side_vars names) name state.classes })
accept_form keeping (Comment name text) state = accepted (unknown_name name state.classes) (record state { classes = change_row (with_comment text) name state.classes })
accept_form keeping (RemoveMethod name side selector) state = accepted (no_method name side selector state) (take_method name side selector state)
accept_form keeping (Classify name side selector category) state = accepted (no_method name side selector state) (classify keeping name side selector category state)
accept_form keeping (RemoveClass name) state = accepted (refusal_of_removal name state.classes) (take_class name state)
accept_form keeping NoChanges state = Ok state

-- What a change makes of a state that keeps so much of a method; or why it is refused. A doIt changes nothing, and is never refused.
abbrev pub accept_with : {M : Type 0} → Keeping M → Change → StateOf M → Result (StateOf M) Refusal
accept_with keeping (change.Form form) state = accept_form keeping form state
accept_with keeping (change.Method m) state = accept_checked keeping m m.source.selector state
accept_with keeping (DoIt text) state = Ok state

abbrev pub accept : Change → State → Result State Refusal
accept change state = accept_with keeping_rows change state
