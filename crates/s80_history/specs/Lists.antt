-- The change set of a list and the versions of its methods, with the places of their blocks (Goldberg, "Smalltalk-80: The Interactive
-- Programming Environment").
use Rattle.std.specs.Prelude.{ℕ, ◌+◌, ◌&&◌, ◌||◌, not, Bool, true, false, List, [], ◌∷◌, length, filter, map, reverse, Option, Some, None, Result, Ok, Err, if◌then◌else◌}
use Rattle.std.specs.List.{list_any}
use Rattle.std.specs.Option.{option_map_or}
use Rattle.std.specs.Str.{bytes_eq}
use Rattle.s80_base.specs.declared.names.Side.{Side}
use Rattle.s80_dict.specs.Table.{same_side}
use Rattle.s80_form.specs.declared.refusal.Refusal.{Refusal}
use Rattle.s80_form.specs.declared.form.Form.TheVariants.{Comment, RemoveMethod, Classify, RemoveClass, NoChanges}
use Rattle.s80_change.specs.declared.change.Change.{Change}
use Rattle.s80_change.specs.declared.change.Change.TheVariants.{Form, Method, DoIt}
use Rattle.s80_change.specs.declared.change.Method.{Method as MethodChange}
use Rattle.s80_change.specs.Block.{block}

-- a change with the place at which its block begins
abbrev pub Placed : Type 0
Placed = ℕ × Change

-- changes with the places of their blocks, of which the first begins at this place
abbrev pub placed_from : ℕ → List Change → List Placed
placed_from at [] = []
placed_from at (change ∷ changes) = (at, change) ∷ placed_from (at + length (block change)) changes

-- ---- methods by their names

-- a method, by its class, its side and its selector
pub record MethodName : Type 0 where
  pub class_name : List ℕ
  pub side : Side
  pub selector : List ℕ

abbrev pub is_same : MethodName → MethodName → Bool
is_same one other = bytes_eq one.class_name other.class_name && same_side one.side other.side && bytes_eq one.selector other.selector

abbrev pub named : MethodChange → Result (List ℕ) Refusal → Option MethodName
named m (Ok selector) = Some (record { class_name = m.class_name; side = m.side; selector = selector })
named m (Err refusal) = None

-- the method that a change puts
abbrev pub put_by : Change → Option MethodName
put_by (Method m) = named m m.source.selector
put_by _ = None

abbrev pub puts : MethodName → Change → Bool
puts name change = option_map_or (is_same name) (put_by change) false

-- ---- the change set

-- the class is removed
abbrev pub removes_class : List ℕ → Change → Bool
removes_class class (Form (RemoveClass name)) = bytes_eq class name
removes_class class _ = false

-- the method is removed, or its class
abbrev pub removes : MethodName → Change → Bool
removes name (Form (RemoveMethod class side selector)) = is_same name (record { class_name = class; side = side; selector = selector })
removes name change = removes_class name.class_name change

abbrev pub comments : List ℕ → Change → Bool
comments class (Form (Comment name text)) = bytes_eq class name
comments class _ = false

-- some change passes the first test, and none before it the second
abbrev pub comes_before : (Change → Bool) → (Change → Bool) → List Change → Bool
comes_before passes ends [] = false
comes_before passes ends (change ∷ changes) = passes change || (not (ends change) && comes_before passes ends changes)

-- the method is put again before it is removed
abbrev pub is_put_again : MethodName → List Change → Bool
is_put_again name later = comes_before (puts name) (removes name) later

-- a change that the set doesn't have, by those that follow it: a doIt, and what a later change made superfluous
abbrev pub is_left_out : Change → List Change → Bool
is_left_out (DoIt text) later = true
is_left_out (Method m) later = option_map_or (λ name. is_put_again name later) (named m m.source.selector) true
is_left_out (Form (Classify class side selector category)) later = is_put_again (record { class_name = class; side = side; selector = selector }) later
is_left_out (Form (Comment class text)) later = comes_before (comments class) (removes_class class) later
is_left_out _ later = false

abbrev pub not_left_out : List Placed → List Placed
not_left_out [] = []
not_left_out (p ∷ later) = if is_left_out p.1 (map (λ q. q.1) later) then not_left_out later else p ∷ not_left_out later

abbrev pub is_no_changes : Change → Bool
is_no_changes (Form NoChanges) = true
is_no_changes _ = false

-- what stands behind the last that passes; all where none does
abbrev pub behind_last : (Change → Bool) → List Placed → List Placed
behind_last passes [] = []
behind_last passes (p ∷ ps) = if list_any (λ q. passes q.1) ps then behind_last passes ps else (if passes p.1 then ps else p ∷ ps)

-- the changes behind the last that begins the set anew, without those that are left out, the oldest first
abbrev pub set_of : List Change → List Placed
set_of changes = not_left_out (behind_last is_no_changes (placed_from 0 changes))

-- ---- versions

-- all changes that put the method, the newest first, whatever was removed since
abbrev pub versions_of : List Change → MethodName → List Placed
versions_of changes name = reverse (filter (λ p. puts name p.1) (placed_from 0 changes))
