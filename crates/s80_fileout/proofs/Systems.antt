-- What a system has of the classes and methods of its state.
use Rattle.std.proofs.Common.{◌≡◌, ◌↔◌, ◌∙◌, ◌+◌, not, ℕ, Bool, true, false, refl, sym, ap, List, [], ◌∷◌, Option, Some, None, Ok, is_some, option_map, length, map, slice_range, Bor, arith}
use Rattle.std.specs.Prelude.{IfSome, option_and_then}
use Rattle.std.specs.Option.{option_copied}
use Rattle.std.specs.List.{All, Contains}
use Rattle.std.specs.Ordering.{nat_cmp}
use Rattle.std.specs.Cmp.Lexicographic.{slice_cmp}
use Rattle.std.specs.Str.{bytes_eq}
use Rattle.std.specs.FinMap as finmap
use Rattle.std.proofs.lemmas.List.Elements.{All-contains}
use Rattle.s80_base.specs.declared.names.Side.{Side}
use Rattle.s80_dict.specs.Dict.{Methods}
use Rattle.s80_dict.specs.Table.{methods_at}
use Rattle.s80_kernel.specs.declared.methods.KernelMethod.{KernelMethod}
use Rattle.s80_kernel.specs.Methods.{KernelMethodRow, StandsIn, found_method, held_place, kernel_methods, key_of, place_of}
use Rattle.s80_kernel.specs.Text.{kernel_text}
use Rattle.s80_change.specs.Source.{SourceParts}
use Rattle.s80_class.specs.Classes.{Name, ClassRow}
use Rattle.s80_class.specs.Table.{IsNumberOf, name_of}
use Rattle.s80_apply.specs.Codes.{AreCodes}
use Rattle.s80_apply.specs.Entries.{Entry, state_row}
use Rattle.s80_apply.specs.State.{MethodRow, State, on_class_side}
use Rattle.s80_apply.specs.System.{IsSystemOf, SystemState}
use Rattle.s80_fileout.specs.declared.methods.ListedMethod.{ListedMethod}
use Rattle.s80_fileout.specs.Order.{IsSound, has_source, listed}

abbrev Text : Type 0
Text = List ℕ

-- ---- classes

pub class_row : (system : SystemState) (state : State) (name : Name) (row : ClassRow) → IsSystemOf system state → finmap.get system.table.classes name ≡ Some row → finmap.get state.classes name ≡ Some row
class_row system state name row is there = ap (λ cs. finmap.get cs name) (sym is.classes) ∙ there

pub named_above : (names : List (Option Name)) (superclass : Option ℕ) (number : ℕ) (above : Name) → superclass ≡ Some number → IsNumberOf names number above → option_and_then (name_of names) superclass ≡ Some above
named_above names superclass number above is named = ap (option_and_then (name_of names)) is ∙ ap (λ o. option_and_then (λ (n : Option Name). n) o) named

-- ---- a class that isn't there has no methods

pub no_methods : (system : SystemState) (state : State) (name : Name) (side : Side) → IsSystemOf system state → finmap.get system.table.classes name ≡ None → state.methods name side ≡ finmap.empty
no_methods system state name side is none = is.others name side (ap (λ cs. finmap.get cs name) (sym is.classes) ∙ none)

none_of_none : (es : List (Text × MethodRow)) → length es ≡ 0 → map (λ (e : Text × MethodRow). e.0) es ≡ []
none_of_none [] none = refl
none_of_none (e ∷ es) none = absurd (omega arith)

pub no_keys : (methods : Methods MethodRow) → methods ≡ finmap.empty → finmap.keys methods ≡ []
no_keys methods none = none_of_none (finmap.entries methods) (sym (finmap.len-entries methods) ∙ ap (λ (m : Methods MethodRow). finmap.len m) none ∙ finmap.len-empty (slice_cmp nat_cmp) MethodRow)

pub no_row : (methods : Methods MethodRow) (selector : Text) → methods ≡ finmap.empty → None ≡ finmap.get methods selector
no_row methods selector none = sym (ap (λ (m : Methods MethodRow). finmap.get m selector) none ∙ finmap.get-empty (slice_cmp nat_cmp) selector)

-- ---- the method of a selector

row_of_copied : (found : Option (Bor Entry)) → option_map (λ (e : Bor Entry). state_row e.now) found ≡ option_map state_row (option_copied found)
row_of_copied None = refl
row_of_copied (Some e) = refl

module _ (system : SystemState) (number : ℕ) (name : Name) (side : Side) (selector : Text) (found : Option (Bor Entry)) (is_get : option_copied found ≡ finmap.get (methods_at system.methods number side) selector) where
  pub row_found : (state : State) → IsSystemOf system state → IsNumberOf system.table.names number name → option_map (λ (e : Bor Entry). state_row e.now) found ≡ finmap.get (state.methods name side) selector
  row_found state is named = row_of_copied found ∙ ap (option_map state_row) is_get ∙ (is.methods number name side named).each selector

  pub sound_found : AreCodes system.table system.methods → IfSome found (λ e. IsSound selector e.now)
  sound_found codes = go found is_get
    where
      go : (o : Option (Bor Entry)) → option_copied o ≡ finmap.get (methods_at system.methods number side) selector → IfSome o (λ e. IsSound selector e.now)
      go None h = tt
      go (Some e) h = let has = codes number side selector e.now (sym h) in record { short = has.has_code.short; check = has.has_code.check }

-- there is none
pub row_none : (found : Option (Bor Entry)) (row : Option MethodRow) → option_map (λ (e : Bor Entry). state_row e.now) found ≡ row → found ≡ None → row ≡ None
row_none found row is none = sym is ∙ ap (option_map (λ (e : Bor Entry). state_row e.now)) none

-- whether there is none
pub lacks : (found : Option (Bor Entry)) (row : Option MethodRow) (none : Bool) → option_map (λ (e : Bor Entry). state_row e.now) found ≡ row → is_some found ≡ not none → not (is_some row) ≡ none
lacks found row none is told = ap (λ r. not (is_some r)) (sym is) ∙ same found ∙ ap not told ∙ twice none
  where
    same : (o : Option (Bor Entry)) → not (is_some (option_map (λ (e : Bor Entry). state_row e.now) o)) ≡ not (is_some o)
    same None = refl
    same (Some e) = refl

    twice : (b : Bool) → not (not b) ≡ b
    twice true = refl
    twice false = refl

-- ---- a method as it is listed

pub listed_is : (name : Name) (side : Side) (selector : Text) (entry : Entry) (class category word : Text) (source : SourceParts) → class ≡ name → category ≡ entry.category → word ≡ selector → source.text ≡ entry.source → source.selector ≡ Ok selector
    → ◌≡◌ {A = ListedMethod} (record { selector = word; method = record { class_name = class; side = side; category = category; source = source } }) (listed name side (selector, state_row entry))
listed_is name side selector entry class category word source a b c d e = λ i. record { selector = c i; method = record { class_name = a i; side = side; category = b i; source = record { text = d i; selector = e i } } }

-- ---- the kernel's method of this place

-- what is found by a class, side and selector is the one method that they name
abbrev AreNamed : Type 0
AreNamed = (class : Text) (on_class_side : Bool) (selector : Text) (row : KernelMethodRow) → found_method class on_class_side selector ≡ Some row ↔ Contains kernel_methods row × (key_of row ≡ (class, on_class_side, selector))

module _ (class : Name) (side : Side) (selector source : Text) (on : Bool) (on_is : on ≡ on_class_side side) where
  abbrev looked : Option KernelMethodRow
  looked = found_method class (on_class_side side) selector

  pub source_there : (own : KernelMethod) (same : Bool) → All (StandsIn kernel_text) kernel_methods → AreNamed → Some (held_place own) ≡ option_map place_of (found_method class on selector)
      → same ≡ bytes_eq source (slice_range kernel_text own.position (own.position + own.length)) → same ≡ has_source source looked
  source_there own same stand named found same_is = go looked refl (found ∙ ap (λ s. option_map place_of (found_method class s selector)) on_is)
    where
      go : (o : Option KernelMethodRow) → looked ≡ o → Some (held_place own) ≡ option_map place_of o → same ≡ has_source source looked
      go None is none = absurd (cc)
      go (Some k) is some =
          let places : held_place own ≡ place_of k = cc in
          let stands : StandsIn kernel_text k = All-contains (StandsIn kernel_text) kernel_methods k stand ((named class (on_class_side side) selector k).0 is).0 in
          let here : slice_range kernel_text own.position (own.position + own.length) ≡ k.source = (λ i. slice_range kernel_text (places i).position ((places i).position + (places i).size)) ∙ stands.same in
          same_is ∙ ap (bytes_eq source) here ∙ ap (has_source source) (sym is)
