-- The shortest list that makes a state, and the one that keeps the newest versions of its methods (Goldberg, "Smalltalk-80: The Interactive
-- Programming Environment", on condensing changes).
use Rattle.std.specs.Prelude.{ℕ, zero, suc, ◌==◌, ◌&&◌, not, Bool, false, List, [], ◌∷◌, ◌++◌, length, map as list_map, filter, reverse, take, Option, Some, None, Ok, if◌then◌else◌, codes}
use Rattle.std.specs.List.{flat_map}
use Rattle.std.specs.FinMap as map
use Rattle.std.specs.Str.{bytes_eq}
use Rattle.std.specs.Ordering.{nat_cmp}
use Rattle.std.specs.Cmp.Lexicographic.{slice_cmp}
use Rattle.s80_base.specs.declared.names.Side.{Side}
use Rattle.s80_base.specs.declared.names.Side.TheVariants.{Instance, Class}
use Rattle.s80_dict.specs.Dict.{Methods}
use Rattle.s80_kernel.specs.Methods.{KernelMethodRow, found_method}
use Rattle.s80_kernel.specs.Rows.{is_kernel_class}
use Rattle.s80_form.specs.declared.definition.Definition.{Definition}
use Rattle.s80_form.specs.declared.form.Form.TheVariants.{Define, ClassVars, Comment, RemoveMethod, Classify, RemoveClass, NoChanges}
use Rattle.s80_change.specs.declared.change.Change.{Change}
use Rattle.s80_change.specs.declared.change.Change.TheVariants.{Form, Method, DoIt}
use Rattle.s80_class.specs.Classes.{Name, Classes, ClassRow, lineage}
use Rattle.s80_history.specs.Lists.{MethodName, versions_of}
use Rattle.s80_apply.specs.State.{MethodRow, State, kernel_state, on_class_side}
use Rattle.s80_apply.specs.List.{state_of}

-- ---- classes

-- for each class, in byte order of their names
abbrev pub for_classes : (Name → ClassRow → List Change) → State → List Change
for_classes changes state = flat_map (λ e. changes e.0 e.1) (map.entries state.classes)

-- its comment, if it has one
abbrev pub comment_of : Name → List ℕ → List Change
comment_of name [] = []
comment_of name (b ∷ bs) = Form (Comment name (b ∷ bs)) ∷ []

-- its class-side variables, if it has some
abbrev pub class_vars_of : Name → List Name → List Change
class_vars_of name [] = []
class_vars_of name (v ∷ vs) = Form (ClassVars name (v ∷ vs)) ∷ []

-- the kernel's methods on one side of a class that the state lacks are removed
abbrev pub removals : State → Name → Side → List Change
removals state name side =
    list_map (λ selector. Form (RemoveMethod name side selector)) (filter (λ selector. not (map.contains_key (state.methods name side) selector)) (map.keys (kernel_state.methods name side)))

-- what makes one of the kernel's classes
abbrev pub of_kernel_class : State → Name → ClassRow → List Change
of_kernel_class state name row = comment_of name row.comment ++ (removals state name Instance ++ removals state name Class)

abbrev pub kernel_part : State → List Change
kernel_part state = for_classes (λ name row. if is_kernel_class name then of_kernel_class state name row else []) state

-- a class that has a superclass, as its definition
abbrev pub definition_of : Name → ClassRow → Name → Definition
definition_of name row superclass = record {
  class_name = name;
  superclass = superclass;
  kind = row.kind;
  inst_vars = row.inst_vars;
  class_vars = row.class_vars;
  pools = row.pools;
  category = row.category;
}

abbrev pub defined : Name → ClassRow → Option Name → List Change
defined name row None = []
defined name row (Some superclass) = Form (Define (definition_of name row superclass)) ∷ []

-- what makes a class of one's own
abbrev pub of_own_class : Name → ClassRow → List Change
of_own_class name row = defined name row row.superclass ++ (comment_of name row.comment ++ class_vars_of name row.class_side_vars)

-- it is none of the kernel's, and has so many classes above it and itself
abbrev pub is_own_at : Classes → ℕ → Name → Bool
is_own_at classes depth name = not (is_kernel_class name) && (length (lineage classes name) == depth)

-- the numbers from 1 to this one
abbrev pub up_to : ℕ → List ℕ
up_to zero = []
up_to (suc n) = up_to n ++ suc n ∷ []

-- each class behind its superclass: first those with the fewest classes above them
abbrev pub own_part : State → List Change
own_part state = flat_map (λ depth. for_classes (λ name row. if is_own_at state.classes depth name then of_own_class name row else []) state) (up_to (map.len state.classes))

-- ---- methods

-- the categories of methods in byte order, each once
abbrev pub categories : Methods MethodRow → List (List ℕ)
categories methods = map.keys (map.from_entries {R = slice_cmp nat_cmp} (list_map (λ e. (e.1.category, tt {0})) (map.entries methods)))

-- methods with their selectors, by their categories, and within these by their selectors, in byte order
abbrev pub by_category : Methods MethodRow → List (List ℕ × MethodRow)
by_category methods = flat_map (λ category. filter (λ e. bytes_eq e.1.category category) (map.entries methods)) (categories methods)

-- for each method of each class, those of instances first
abbrev pub for_methods : (Name → Side → List ℕ → MethodRow → List Change) → State → List Change
for_methods changes state = flat_map (λ name. flat_map (λ side. flat_map (λ e. changes name side e.0 e.1) (by_category (state.methods name side))) (Instance ∷ Class ∷ [])) (map.keys state.classes)

abbrev pub as_change : Name → Side → List ℕ → MethodRow → Change
as_change name side selector row = Method (record { class_name = name; side = side; category = row.category; source = record { text = row.source; selector = Ok selector } })

-- a method whose category was this one is put under its own
abbrev pub classified : Name → Side → List ℕ → List ℕ → List ℕ → List Change
classified name side selector before category = if bytes_eq before category then [] else Form (Classify name side selector category) ∷ []

-- the category of all the kernel's methods
abbrev pub kernel_category : List ℕ
kernel_category = codes "kernel"

-- what makes a method, where the kernel has this one at its place
abbrev pub over_kernels : Name → Side → List ℕ → MethodRow → Option KernelMethodRow → List Change
over_kernels name side selector row None = as_change name side selector row ∷ []
over_kernels name side selector row (Some k) = if bytes_eq row.source k.source then classified name side selector kernel_category row.category else as_change name side selector row ∷ []

abbrev pub of_method : Name → Side → List ℕ → MethodRow → List Change
of_method name side selector row = over_kernels name side selector row (found_method name (on_class_side side) selector)

-- ---- files

-- what makes a state of the kernel's
abbrev pub made_with : (Name → Side → List ℕ → MethodRow → List Change) → State → List Change
made_with method state = kernel_part state ++ (own_part state ++ for_methods method state)

-- what a file of all classes has
abbrev pub filed : State → List Change
filed state = made_with of_method state

-- whether a change is on this class
abbrev pub is_on : Name → Change → Bool
is_on name (Form (Define definition)) = bytes_eq name definition.class_name
is_on name (Form (ClassVars class names)) = bytes_eq name class
is_on name (Form (Comment class text)) = bytes_eq name class
is_on name (Form (RemoveMethod class side selector)) = bytes_eq name class
is_on name (Form (Classify class side selector category)) = bytes_eq name class
is_on name (Form (RemoveClass class)) = bytes_eq name class
is_on name (Form NoChanges) = false
is_on name (Method m) = bytes_eq name m.class_name
is_on name (DoIt text) = false

-- what a file of one class has
abbrev pub filed_on : Name → State → List Change
filed_on name state = filter (is_on name) (filed state)

-- ---- condensed lists

-- what makes a state of the kernel's, and begins the change set anew
abbrev pub condensed_with : (Name → Side → List ℕ → MethodRow → List Change) → State → List Change
condensed_with method state = made_with method state ++ Form NoChanges ∷ []

-- the shortest list that does
abbrev pub canon : State → List Change
canon state = condensed_with of_method state

-- the newest versions of a method, at most so many, the oldest first
abbrev pub newest : ℕ → List Change → MethodName → List Change
newest count changes name = reverse (take count (list_map (λ p. p.1) (versions_of changes name)))

abbrev pub category_put : Change → List ℕ
category_put (Method m) = m.category
category_put _ = []

abbrev pub first_category : List Change → List ℕ
first_category [] = kernel_category
first_category (change ∷ changes) = category_put change

-- the category that a method got when it was put last; one that was never put is the kernel's
abbrev pub last_category : List Change → MethodName → List ℕ
last_category changes name = first_category (list_map (λ p. p.1) (versions_of changes name))

abbrev pub of_versions : ℕ → List Change → Name → Side → List ℕ → MethodRow → List Change
of_versions count changes name side selector row =
    let method : MethodName = record { class_name = name; side = side; selector = selector } in
    newest count changes method ++ classified name side selector (last_category changes method) row.category

-- what makes the state of a list, with the newest versions of each method that is there, at most so many
abbrev pub kept : List Change → ℕ → List Change
kept changes count = condensed_with (of_versions count changes) (state_of changes)
