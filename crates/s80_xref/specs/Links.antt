-- How methods are linked to names: they send them, have them as their selectors, or refer to them.
use Rattle.std.specs.Prelude.{◌≡◌, ◌↔◌, ℕ, Bool, false, List, [], ◌∷◌, ◌++◌, Some, map as list_map}
use Rattle.std.specs.FinMap as map
use Rattle.std.specs.List.{Contains, filter, list_any}
use Rattle.std.specs.Option.{option_map_or}
use Rattle.std.specs.Str.{bytes_eq}
use Rattle.s80_base.specs.declared.names.Side.{Side}
use Rattle.s80_base.specs.declared.names.Side.TheVariants.{Instance, Class}
use Rattle.s80_code.specs.declared.code.Code.{Code}
use Rattle.s80_dict.specs.Dict.{Methods}
use Rattle.s80_apply.specs.Entries.{Entry}
use Rattle.s80_apply.specs.State.{State}
use Rattle.s80_xref.specs.declared.link.Link.{Link}
use Rattle.s80_xref.specs.declared.link.Link.TheVariants as links
use Rattle.s80_xref.specs.declared.places.MethodPlace.{MethodPlace}
use Rattle.s80_xref.specs.Named.{outers_in, sent_in}
use Rattle.s80_xref.specs.Places.{IsOfSelector, RefersTo, Sends, place, places_on}

-- a method is linked so to a name
abbrev pub IsLink : Link → State → List ℕ → MethodPlace → Type 0
IsLink links.Sends state word at = Sends state word at
IsLink links.Implements state word at = IsOfSelector word at
IsLink links.RefersTo state word at = RefersTo state word at

-- all that a selector and a code name so
abbrev pub linked : Link → List ℕ → Code → List (List ℕ)
linked links.Sends selector code = sent_in code
linked links.Implements selector code = selector ∷ []
linked links.RefersTo selector code = outers_in code

-- whether the method of a selector is linked to a word
abbrev pub is_linked : Methods Entry → Link → List ℕ → List ℕ → Bool
is_linked methods link word selector = option_map_or (λ entry. list_any (bytes_eq word) (linked link selector entry.code)) (map.get methods selector) false

-- the methods are those of one side of a class, and name what these are linked to
pub record AreLinked (state : State) (class : List ℕ) (side : Side) (methods : Methods Entry) : Type 0 where
  pub keys : map.keys methods ≡ map.keys (state.methods class side)
  pub links : (link : Link) (word selector : List ℕ) (entry : Entry) → map.get methods selector ≡ Some entry
      → Contains (linked link selector entry.code) word ↔ IsLink link state word (place class side selector)

-- those of a dictionary that are linked to a word, where they stand
abbrev pub places_in : Methods Entry → Link → List ℕ → List ℕ → Side → List MethodPlace
places_in methods link word class side = list_map (place class side) (filter (is_linked methods link word) (map.keys methods))

-- both sides of a class
abbrev pub places_of : State → List ℕ → List MethodPlace
places_of state class = places_on state class Instance ++ (places_on state class Class ++ [])
