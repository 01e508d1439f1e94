-- What is told where methods are sought, or names to which nothing answers.
use Rattle.std.specs.Prelude.{◌≡◌, ℕ, List, [], ◌∷◌, ◌++◌}
use Rattle.std.specs.List.{flat_map}
use Rattle.s80_apply.specs.State.{State}
use Rattle.s80_xref.specs.declared.places.MethodPlace.{MethodPlace}
use Rattle.s80_xref.specs.Places.{AreNames, AreThose, IsOfSelector, IsUndeclared, IsUnimplemented, IsUnsent, RefersTo, Sends, all_places}
use Rattle.s80_model.specs.Texts.{method_line, names_text}
use Rattle.s80_model.specs.declared.item.Query.{Query as SessionQuery}
use Rattle.s80_model.specs.declared.item.Query.TheVariants as queries

-- methods, each in its line: the class, the side and the selector
abbrev pub places_text : List MethodPlace → List ℕ
places_text ats = flat_map (λ at. method_line [] at.class_name at.side at.selector ++ 10 ∷ []) ats

-- the lines are those of just the methods of which this holds, in their order
abbrev pub ArePlaces : State → (MethodPlace → Type 0) → List ℕ → Type 0
ArePlaces state P lines = (found : List MethodPlace) × AreThose P (all_places state) found × (lines ≡ places_text found)

-- those of just the names of which it holds, in byte order
abbrev pub AreNameLines : (List ℕ → Type 0) → List ℕ → Type 0
AreNameLines P lines = (found : List (List ℕ)) × AreNames P found × (lines ≡ names_text found)

-- what is found in a state where this is sought
abbrev pub IsFound : State → SessionQuery → List ℕ → Type 0
IsFound state (queries.Senders selector) lines = ArePlaces state (Sends state selector) lines
IsFound state (queries.Implementors selector) lines = ArePlaces state (IsOfSelector selector) lines
IsFound state (queries.References name) lines = ArePlaces state (RefersTo state name) lines
IsFound state queries.Undeclared lines = AreNameLines (IsUndeclared state) lines
IsFound state queries.Unimplemented lines = AreNameLines (IsUnimplemented state) lines
IsFound state queries.Unsent lines = AreNameLines (IsUnsent state) lines
IsFound state _ lines = ⊥
