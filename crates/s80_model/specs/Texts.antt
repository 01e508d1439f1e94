-- What is told of the classes and methods of a state.
use Rattle.std.specs.Prelude.{ℕ, ◌+◌, Bool, false, not, List, [], ◌∷◌, ◌++◌, Option, Some, None, Result, Ok, Err, length, codes, decimal, filter, map as list_map, option_map, unwrap_or}
use Rattle.std.specs.List.{flat_map}
use Rattle.std.specs.FinMap as map
use Rattle.std.specs.Str.{bytes_eq}
use Rattle.std.specs.Ordering.{nat_cmp}
use Rattle.std.specs.Cmp.Lexicographic.{slice_cmp}
use Rattle.s80_base.specs.declared.names.Side.{Side}
use Rattle.s80_base.specs.declared.names.Side.TheVariants.{Instance, Class}
use Rattle.s80_dict.specs.Dict.{Methods}
use Rattle.s80_lex.specs.Spelling.{quoted}
use Rattle.s80_kernel.specs.Rows.{is_kernel_class}
use Rattle.s80_form.specs.declared.definition.Definition.{Definition}
use Rattle.s80_form.specs.Definition.{definition_text, joined}
use Rattle.s80_form.specs.Form.{side_text}
use Rattle.s80_form.specs.declared.form.Form.TheVariants as forms
use Rattle.s80_form.specs.declared.refusal.Refusal.{Refusal}
use Rattle.s80_change.specs.declared.change.Change.{Change}
use Rattle.s80_change.specs.declared.change.Change.TheVariants as changes
use Rattle.s80_class.specs.Classes.{Name, ClassRow, Classes}
use Rattle.s80_apply.specs.State.{MethodRow, State, is_kernel_method}

-- how many classes there are beside the kernel's
abbrev pub own_classes : Classes → ℕ
own_classes classes = length (filter (λ name. not (is_kernel_class name)) (map.keys classes))

-- whether a selector has a method on one side of a class that isn't the kernel's in category and source
abbrev pub is_own : Name → Side → List ℕ → Option MethodRow → Bool
is_own name side selector None = false
is_own name side selector (Some row) = not (is_kernel_method name side selector row)

abbrev pub own_methods_in : Name → Side → Methods MethodRow → ℕ
own_methods_in name side methods = length (filter (λ selector. is_own name side selector (map.get methods selector)) (map.keys methods))

-- how many such methods there are on both sides of some classes
abbrev pub own_methods_of : State → List Name → ℕ
own_methods_of state [] = 0
own_methods_of state (name ∷ names) = (own_methods_in name Instance (state.methods name Instance) + own_methods_in name Class (state.methods name Class)) + own_methods_of state names

abbrev pub own_methods : State → ℕ
own_methods state = own_methods_of state (map.keys state.classes)

-- how much there is
abbrev pub recovered_text : ℕ → State → List ℕ
recovered_text count state =
    (codes "recovered " ++ decimal count) ++ ((codes " changes, " ++ decimal (own_classes state.classes))
    ++ ((codes " classes, " ++ decimal (own_methods state)) ++ (codes " methods" ++ 10 ∷ [])))

-- names, each in its line
abbrev pub names_text : List Name → List ℕ
names_text names = flat_map (λ name. name ++ 10 ∷ []) names

-- the names of all classes in byte order
abbrev pub classes_text : Classes → List ℕ
classes_text classes = names_text (map.keys classes)

-- a class as its definition; a class without a superclass shows nil
abbrev pub definition_of : Name → ClassRow → Definition
definition_of name row = record {
  class_name = name;
  superclass = unwrap_or row.superclass (codes "nil");
  kind = row.kind;
  inst_vars = row.inst_vars;
  class_vars = row.class_vars;
  pools = row.pools;
  category = row.category;
}

-- a line of a word and a string
abbrev pub string_line : List ℕ → List ℕ → List ℕ
string_line word text = word ++ (quoted 39 text ++ 10 ∷ [])

-- the lines of a class: its definition, its comment and its class-side variables
abbrev pub class_text : Name → ClassRow → List ℕ
class_text name row =
    (definition_text (definition_of name row) ++ 10 ∷ [])
    ++ (string_line (codes "comment: ") row.comment ++ string_line (codes "class instanceVariableNames: ") (joined row.class_side_vars))

-- ---- the methods of a class

abbrev pub category_at : Methods MethodRow → List ℕ → List ℕ
category_at methods selector = unwrap_or (option_map (λ row. row.category) (map.get methods selector)) []

-- the categories of its methods in byte order, each once
abbrev pub categories : Methods MethodRow → List (List ℕ)
categories methods = map.keys (map.from_entries {R = slice_cmp nat_cmp} (list_map (λ selector. (category_at methods selector, tt {0})) (map.keys methods)))

-- the selectors of a category in byte order, each behind a space
abbrev pub selectors_of : Methods MethodRow → List ℕ → List ℕ
selectors_of methods category = flat_map (λ selector. 32 ∷ selector) (filter (λ selector. bytes_eq (category_at methods selector) category) (map.keys methods))

-- a line for each category, behind this word
abbrev pub category_lines : List ℕ → Methods MethodRow → List ℕ
category_lines word methods = flat_map (λ category. word ++ (quoted 39 category ++ (58 ∷ selectors_of methods category ++ 10 ∷ []))) (categories methods)

abbrev pub methods_text : State → Name → List ℕ
methods_text state name = category_lines [] (state.methods name Instance) ++ category_lines (codes "class ") (state.methods name Class)

-- what is told of the class of this name, where there is one
abbrev pub browsed : State → Name → Option (List ℕ)
browsed state name = option_map (λ row. class_text name row ++ methods_text state name) (map.get state.classes name)

-- ---- changes

-- the selector of a source that is a method
abbrev pub selector_in : Result (List ℕ) Refusal → List ℕ
selector_in (Ok selector) = selector
selector_in (Err refusal) = []

-- a word, and a method by its class, its side and its selector
abbrev pub method_line : List ℕ → Name → Side → List ℕ → List ℕ
method_line word name side selector = word ++ (name ++ (side_text side ++ (32 ∷ selector)))

-- what a change of the set is, without its texts
abbrev pub change_line : Change → List ℕ
change_line (changes.Form (forms.Define d)) = codes "define " ++ d.class_name
change_line (changes.Form (forms.ClassVars name names)) = codes "class-variables " ++ name
change_line (changes.Form (forms.Comment name text)) = codes "comment " ++ name
change_line (changes.Form (forms.RemoveMethod name side selector)) = method_line (codes "remove ") name side selector
change_line (changes.Form (forms.Classify name side selector category)) = method_line (codes "classify ") name side selector
change_line (changes.Form (forms.RemoveClass name)) = codes "remove-class " ++ name
change_line (changes.Form forms.NoChanges) = []
change_line (changes.Method m) = method_line (codes "method ") m.class_name m.side (selector_in m.source.selector)
change_line (changes.DoIt text) = []

-- each in its line
abbrev pub changes_text : List Change → List ℕ
changes_text all = flat_map (λ change. change_line change ++ 10 ∷ []) all

-- the line of a version: its number, and its category
abbrev pub version_line : ℕ → List ℕ → List ℕ
version_line number category = (codes "version " ++ decimal number) ++ (32 ∷ quoted 39 category ++ 10 ∷ [])

-- and behind it its source
abbrev pub version_text : ℕ → Change → List ℕ
version_text number (changes.Method m) = version_line number m.category ++ (m.source.text ++ 10 ∷ [])
version_text number (changes.Form form) = []
version_text number (changes.DoIt text) = []

-- the versions of a method from the newest to the oldest, which is number 1
abbrev pub versions_text : List Change → List ℕ
versions_text [] = []
versions_text (change ∷ older) = version_text (length (change ∷ older)) change ++ versions_text older
