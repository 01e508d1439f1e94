-- Lists to which those are added of which something holds.
use Rattle.std.specs.Prelude.{◌≡◌, ◌↔◌, ◌⊎◌, ◌++◌, ℕ, List}
use Rattle.std.specs.List.{Contains}
use Rattle.s80_xref.specs.declared.places.MethodPlace.{MethodPlace}
use Rattle.s80_xref.specs.Places.{AreThose}

-- those of a list of which this holds stand behind others
abbrev pub Finds : {X : Type 0} → (X → Type 0) → List X → List X → List X → Type 0
Finds {X} P xs before now = (more : List X) × (now ≡ before ++ more) × AreThose P xs more

-- this holds of the word and one of these methods
abbrev pub IsOfSome : (List ℕ → MethodPlace → Type 0) → List MethodPlace → List ℕ → Type 0
IsOfSome P ats word = (at : MethodPlace) × Contains ats at × P word at

-- the words of these methods are there beside others
abbrev pub Gathers : (List ℕ → MethodPlace → Type 0) → List MethodPlace → List (List ℕ) → List (List ℕ) → Type 0
Gathers P ats before now = (word : List ℕ) → Contains now word ↔ (Contains before word ⊎ IsOfSome P ats word)
