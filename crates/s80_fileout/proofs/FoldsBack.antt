-- A condensed list folds back: it is accepted, makes the state that it was made of, and has an empty change set; and where versions are kept, just these.
use Rattle.std.proofs.Common.{◌≡◌, ◌≤◌, ℕ, List, [], take, map as list_map, Some, Ok}
use Rattle.std.specs.List.{All}
use Rattle.std.specs.FinMap as map
use Rattle.s80_base.specs.declared.names.Side.{Side}
use Rattle.s80_kernel.specs.Methods.{kernel_methods}
use Rattle.s80_form.specs.Name.{IsSelectorWord}
use Rattle.s80_change.specs.declared.change.Change.{Change}
use Rattle.s80_change.specs.Block.{IsLawful}
use Rattle.s80_change.specs.Check.{IsCheckOf}
use Rattle.s80_class.specs.Classes.{Name}
use Rattle.s80_history.specs.Lists.{Placed, set_of, versions_of}
use Rattle.s80_apply.specs.List.{AreAccepted, IsBuilt, state_of}
use Rattle.s80_apply.specs.State.{MethodRow, kernel_state}
use Rattle.s80_fileout.specs.Condensed.{canon, filed, kept, of_method, of_versions}
use Rattle.s80_fileout.proofs.Condensing.{leads_condensed, leads_made}
use Rattle.s80_fileout.proofs.SetBegun.{set_is_empty}
use Rattle.s80_fileout.proofs.OfMethod.{of_method_sets}
use Rattle.s80_fileout.proofs.KeptVersions.{of_versions_sets}
use Rattle.s80_fileout.proofs.KeptOnce.{versions_kept}
use Rattle.s80_fileout.proofs.LawfulList.{list_lawful}
use Rattle.s80_fileout.proofs.SoundParts.{canon_sound, filed_sound}
use Rattle.s80_fileout.proofs.KeptSound.{kept_sound}

-- ---- what a file of all classes has, of whatever list

pub filed_is_accepted : (changes : List Change) → AreAccepted kernel_state (filed (state_of changes))
filed_is_accepted changes = (leads_made changes of_method (of_method_sets (state_of changes))).0

pub filed_makes_the_state : (changes : List Change) → state_of (filed (state_of changes)) ≡ state_of changes
filed_makes_the_state changes = (leads_made changes of_method (of_method_sets (state_of changes))).1

pub filed_is_lawful : ((source selector : List ℕ) → IsCheckOf source (Ok selector) → IsSelectorWord selector) → All (λ row. IsCheckOf row.source (Ok row.selector)) kernel_methods
    → (changes : List Change) → All IsLawful changes → All IsLawful (filed (state_of changes))
filed_is_lawful sources fit changes lawful = list_lawful sources fit (filed (state_of changes)) (filed_is_accepted changes) (filed_sound changes lawful)

-- ---- the shortest list

pub canon_is_accepted : (changes : List Change) → AreAccepted kernel_state (canon (state_of changes))
canon_is_accepted changes = (leads_condensed changes of_method (of_method_sets (state_of changes))).0

pub canon_makes_the_state : (changes : List Change) → state_of (canon (state_of changes)) ≡ state_of changes
canon_makes_the_state changes = (leads_condensed changes of_method (of_method_sets (state_of changes))).1

pub canon_has_no_set : (changes : List Change) → set_of (canon (state_of changes)) ≡ []
canon_has_no_set changes = set_is_empty of_method (state_of changes)

-- and it is lawful where the list was
pub canon_is_lawful : ((source selector : List ℕ) → IsCheckOf source (Ok selector) → IsSelectorWord selector) → All (λ row. IsCheckOf row.source (Ok row.selector)) kernel_methods
    → (changes : List Change) → All IsLawful changes → All IsLawful (canon (state_of changes))
canon_is_lawful sources fit changes lawful = list_lawful sources fit (canon (state_of changes)) (canon_is_accepted changes) (canon_sound changes lawful)

-- ---- the list that keeps versions, of a list that was built

pub kept_is_accepted : (count : ℕ) → 1 ≤ count → (changes : List Change) → IsBuilt changes → AreAccepted kernel_state (kept changes count)
kept_is_accepted count some changes built = (leads_condensed changes (of_versions count changes) (of_versions_sets count some changes built)).0

pub kept_makes_the_state : (count : ℕ) → 1 ≤ count → (changes : List Change) → IsBuilt changes → state_of (kept changes count) ≡ state_of changes
kept_makes_the_state count some changes built = (leads_condensed changes (of_versions count changes) (of_versions_sets count some changes built)).1

pub kept_has_no_set : (count : ℕ) (changes : List Change) → set_of (kept changes count) ≡ []
kept_has_no_set count changes = set_is_empty (of_versions count changes) (state_of changes)

-- each method of the state has its newest versions, at most so many
pub kept_has_versions : (count : ℕ) (changes : List Change) (name : Name) (side : Side) (selector : List ℕ) (row : MethodRow) → map.get ((state_of changes).methods name side) selector ≡ Some row
    → list_map (λ (p : Placed). p.1) (versions_of (kept changes count) (record { class_name = name; side = side; selector = selector }))
    ≡ take count (list_map (λ (p : Placed). p.1) (versions_of changes (record { class_name = name; side = side; selector = selector })))
kept_has_versions count changes name side selector row is = versions_kept count changes (name, side, selector) row is

pub kept_is_lawful : ((source selector : List ℕ) → IsCheckOf source (Ok selector) → IsSelectorWord selector) → All (λ row. IsCheckOf row.source (Ok row.selector)) kernel_methods
    → (count : ℕ) → 1 ≤ count → (changes : List Change) → IsBuilt changes → All IsLawful changes → All IsLawful (kept changes count)
kept_is_lawful sources fit count some changes built lawful = list_lawful sources fit (kept changes count) (kept_is_accepted count some changes built) (kept_sound count changes built lawful)
