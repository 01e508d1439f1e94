-- The place that a method takes among classes and dictionaries, or why it is refused.
use Rattle.std.specs.Prelude.{◌≡◌, ◌≤◌, ℕ, List, true, length, Option, Some, None, MatchOption, Result, Ok, Err, ⊤}
use Rattle.std.specs.FinMap as map
use Rattle.s80_dict.specs.Table.{methods_at}
use Rattle.s80_change.specs.declared.change.Change.TheVariants as changes
use Rattle.s80_change.specs.declared.change.Method.{Method as MethodChange}
use Rattle.s80_form.specs.declared.refusal.Refusal.{Refusal}
use Rattle.s80_form.specs.declared.refusal.Refusal.TheVariants.{UnknownClass}
use Rattle.s80_form.specs.declared.refusal.ManyKind.TheVariants.{Methods as ManyMethods}
use Rattle.s80_form.specs.declared.refusal.Refused.{Refused}
use Rattle.s80_form.specs.declared.refusal.Refused.TheVariants as refused
use Rattle.s80_change.specs.Block.{block}
use Rattle.s80_class.specs.Table.{IsNumberOf}
use Rattle.s80_apply.specs.declared.step.PlacedMethod.{PlacedMethod}
use Rattle.s80_apply.specs.Accept.{above, len_with}
use Rattle.s80_apply.specs.Placed.{PlacedRow, keeping_places}
use Rattle.s80_apply.specs.Entries.{row_in}
use Rattle.s80_apply.specs.Codes.{HasCode}
use Rattle.s80_apply.specs.System.{SystemState}

-- a method with the place of its source, whose position is counted from the beginning of its block
abbrev pub row_for : MethodChange → PlacedRow
row_for m = (keeping_places 0).put m

-- it takes its selector on its side of its class
pub record TakesPlace (system : SystemState) (m : MethodChange) (selector : List ℕ) (placed : PlacedMethod) : Type 0 where
  pub selector_is : placed.selector ≡ selector
  pub side : placed.side ≡ m.side
  pub number : IsNumberOf system.table.names placed.number m.class_name
  pub only : (c : ℕ) → IsNumberOf system.table.names c m.class_name → c ≡ placed.number
  pub there : map.contains_key system.table.classes m.class_name ≡ true
  pub few : above 16384 ManyMethods (len_with selector (methods_at system.methods placed.number m.side)) ≡ None
  pub row : row_in placed.entry ≡ row_for m
  pub code : HasCode system.table.classes m.class_name m.side selector placed.entry
  pub near : placed.entry.position ≤ length (block (changes.Method m))

-- why a method of this selector is refused in the class of this number, if it is
abbrev pub refusal_at : SystemState → MethodChange → List ℕ → Option ℕ → Option Refusal
refusal_at system m selector None = Some (UnknownClass m.class_name)
refusal_at system m selector (Some number) = above 16384 ManyMethods (len_with selector (methods_at system.methods number m.side))

-- its class isn't there, or would have too many methods on that side
pub record IsRefusedAt (system : SystemState) (m : MethodChange) (selector : List ℕ) (refusal : Refusal) : Type 0 where
  pub number : Option ℕ
  pub found : MatchOption number (map.get system.table.classes m.class_name ≡ None) (λ c. IsNumberOf system.table.names c m.class_name × (map.contains_key system.table.classes m.class_name ≡ true))
  pub refused : refusal_at system m selector number ≡ Some refusal

-- what is answered for a method of this selector
abbrev pub PlacesAt : SystemState → MethodChange → List ℕ → Result PlacedMethod Refused → Type 0
PlacesAt system m selector (Ok placed) = TakesPlace system m selector placed
PlacesAt system m selector (Err (refused.Refusal refusal)) = IsRefusedAt system m selector refusal
PlacesAt system m selector (Err refused.Memory) = ⊤

abbrev pub Refuses : Refusal → Result PlacedMethod Refused → Type 0
Refuses why (Ok placed) = ⊥
Refuses why (Err (refused.Refusal refusal)) = refusal ≡ why
Refuses why (Err refused.Memory) = ⊤

-- what is answered for a method whose source is this by itself
abbrev pub PlacesIn : SystemState → MethodChange → Result (List ℕ) Refusal → Result PlacedMethod Refused → Type 0
PlacesIn system m (Ok selector) result = PlacesAt system m selector result
PlacesIn system m (Err why) result = Refuses why result
