-- A list that ends by beginning the change set anew has an empty one.
use Rattle.std.proofs.Common.{◌≡◌, ◌∙◌, ◌+◌, ◌||◌, ◌++◌, ℕ, Bool, true, false, if◌then◌else◌, refl, ap, List, [], ◌∷◌, length}
use Rattle.std.specs.List.{list_any}
use Rattle.s80_base.specs.declared.names.Side.{Side}
use Rattle.s80_change.specs.declared.change.Change.{Change}
use Rattle.s80_change.specs.declared.change.Change.TheVariants.{Form}
use Rattle.s80_change.specs.Block.{block}
use Rattle.s80_form.specs.declared.form.Form.TheVariants.{NoChanges}
use Rattle.s80_class.specs.Classes.{Name}
use Rattle.s80_history.specs.Lists.{Placed, behind_last, is_no_changes, not_left_out, placed_from, set_of}
use Rattle.s80_apply.specs.State.{MethodRow, State}
use Rattle.s80_fileout.specs.Condensed.{condensed_with, made_with}

abbrev has_one : List Placed → Bool
has_one ps = list_any (λ q. is_no_changes q.1) ps

-- wherever it begins, nothing stands behind the last that begins the set anew
abbrev Ends : List Change → Type 0
Ends cs = (at : ℕ) → (has_one (placed_from at cs) ≡ true) × (behind_last is_no_changes (placed_from at cs) ≡ [])

or_true : (a b : Bool) → b ≡ true → (a || b) ≡ true
or_true true b is = refl
or_true false b is = is

ends_more : (c : Change) (cs : List Change) → Ends cs → Ends (c ∷ cs)
ends_more c cs ends at =
    let rest = ends (at + length (block c)) in (
      or_true (is_no_changes c) (has_one (placed_from (at + length (block c)) cs)) rest.0,
      ap (λ b. if b then behind_last is_no_changes (placed_from (at + length (block c)) cs)
          else (if is_no_changes c then placed_from (at + length (block c)) cs else (at, c) ∷ placed_from (at + length (block c)) cs)) rest.0 ∙ rest.1,
    )

ends_behind : (cs ds : List Change) → Ends ds → Ends (cs ++ ds)
ends_behind [] ds ends = ends
ends_behind (c ∷ cs) ds ends = ends_more c (cs ++ ds) (ends_behind cs ds ends)

ends_here : Ends (Form NoChanges ∷ [])
ends_here at = (refl, refl)

pub set_is_empty : (method : Name → Side → List ℕ → MethodRow → List Change) (state : State) → set_of (condensed_with method state) ≡ []
set_is_empty method state = ap not_left_out (ends_behind (made_with method state) (Form NoChanges ∷ []) ends_here 0).1
