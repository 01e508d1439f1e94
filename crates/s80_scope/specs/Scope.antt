-- Which names are declared at a place.
use Rattle.std.specs.Prelude.{ℕ, List, Bool, false, ◌||◌}
use Rattle.s80_syntax.specs.NameSet.{has_word}
use Rattle.s80_scope.specs.declared.fit.scope.Scope.{Scope}
use Rattle.s80_scope.specs.declared.fit.scope.Scope.TheOpen.{Scope-F}
use Rattle.s80_scope.specs.declared.fit.scope.Scope.TheOpen as layer
use Rattle.s80_scope.specs.declared.fit.scope.Scope.TheFolds.{fold-Scope}

abbrev pub has_either : (List ℕ → Bool) → (List ℕ → Bool) → List ℕ → Bool
has_either inner outer word = inner word || outer word

abbrev pub declared_layer : Scope-F (List ℕ → Bool) → List ℕ → Bool
declared_layer layer.Outside = λ word. false
declared_layer (layer.Within names outer) = has_either (has_word names.now) outer.now

abbrev pub declared_in : Scope → List ℕ → Bool
declared_in = fold-Scope (List ℕ → Bool) declared_layer
