-- The places of a history are those of its list's change set.
use Rattle.std.proofs.Common.{◌≡◌, ◌∙◌, ℕ, List, [], ◌∷◌, map as list_map, option_map, Option, Some, None, refl, ap}
use Rattle.s80_form.specs.declared.form.Form.TheVariants.{Define, ClassVars, Comment, RemoveMethod, Classify, RemoveClass, NoChanges}
use Rattle.s80_change.specs.declared.change.Change.{Change}
use Rattle.s80_change.specs.declared.change.Change.TheVariants.{Form, Method, DoIt}
use Rattle.s80_history.specs.declared.noted.Noted.{Noted}
use Rattle.s80_history.specs.declared.noted.NotedKind.TheVariants as kinds
use Rattle.s80_history.specs.Lists.{MethodName, Placed, named, set_of}
use Rattle.s80_history.specs.History.{HistoryState, IsHistoryOf, noting, of_method, set_places}

-- the place of what is noted, if it is
abbrev place_or : ℕ → Option Noted → ℕ
place_or at None = at
place_or at (Some noted) = noted.at

own_method : (at : ℕ) (name : Option MethodName) → place_or at (option_map (λ n. of_method kinds.Method n at) name) ≡ at
own_method at None = refl
own_method at (Some name) = refl

own_place : (at : ℕ) (change : Change) → place_or at (noting at change) ≡ at
own_place at (Form (Define d)) = refl
own_place at (Form (ClassVars class names)) = refl
own_place at (Form (Comment class text)) = refl
own_place at (Form (RemoveMethod class side selector)) = refl
own_place at (Form (Classify class side selector category)) = refl
own_place at (Form (RemoveClass class)) = refl
own_place at (Form NoChanges) = refl
own_place at (Method m) = own_method at (named m m.source.selector)
own_place at (DoIt text) = refl

pub places_of : (members : List Noted) (ps : List Placed) → list_map Some members ≡ list_map (λ p. noting p.0 p.1) ps → list_map (λ noted. noted.at) members ≡ list_map (λ p. p.0) ps
places_of [] [] is = refl
places_of [] (p ∷ ps) is = absurd cc
places_of (m ∷ ms) [] is = absurd cc
places_of (m ∷ ms) (p ∷ ps) is =
    let one : Some m ≡ noting p.0 p.1 = cc in
    let others : list_map Some ms ≡ list_map (λ q. noting q.0 q.1) ps = cc in
    λ i. (ap (place_or p.0) one ∙ own_place p.0 p.1) i ∷ places_of ms ps others i

pub set_stands : (h : HistoryState) (changes : List Change) → IsHistoryOf h changes → set_places h ≡ list_map (λ p. p.0) (set_of changes)
set_stands h changes is = places_of h.members (set_of changes) is.members
