-- Which names may be assigned at a place.
use Rattle.std.specs.Prelude.{ℕ, List, Bool, not, ◌&&◌, ◌||◌}
use Rattle.s80_syntax.specs.Word.{is_reserved}
use Rattle.s80_syntax.specs.NameSet.{has_word}
use Rattle.s80_syntax.specs.declared.scope.Scope.{Scope}
use Rattle.s80_syntax.specs.declared.scope.Scope.TheOpen.{Scope-F}
use Rattle.s80_syntax.specs.declared.scope.Scope.TheOpen as layer
use Rattle.s80_syntax.specs.declared.scope.Scope.TheFolds.{fold-Scope}

-- where these are the words of parameters and temporaries
abbrev pub assigns_at_home : (List ℕ → Bool) → (List ℕ → Bool) → List ℕ → Bool
assigns_at_home parameters temporaries word = (not (parameters word) || temporaries word) && not (is_reserved word)

abbrev pub assigns_in_block : (List ℕ → Bool) → (List ℕ → Bool) → List ℕ → Bool
assigns_in_block parameters outer word = parameters word || outer word

abbrev pub assigns_layer : Scope-F (List ℕ → Bool) → List ℕ → Bool
assigns_layer (layer.Home parameters temporaries) = assigns_at_home (has_word parameters.now) (has_word temporaries.now)
assigns_layer (layer.Block parameters outer) = assigns_in_block (has_word parameters.now) outer.now

abbrev pub assigns_in : Scope → List ℕ → Bool
assigns_in = fold-Scope (List ℕ → Bool) assigns_layer
