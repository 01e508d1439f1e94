-- The keys that a change writes and uses, in the classes that it is worked in.
use Rattle.std.specs.Prelude.{ℕ, List, [], ◌∷◌, ◌++◌, Result, Ok, Err, if◌then◌else◌}
use Rattle.std.specs.FinMap as map
use Rattle.std.specs.List.{flat_map}
use Rattle.s80_base.specs.declared.names.Side.{Side}
use Rattle.s80_change.specs.declared.change.Change.{Change}
use Rattle.s80_change.specs.declared.change.Change.TheVariants as change
use Rattle.s80_form.specs.declared.form.Form.{Form}
use Rattle.s80_form.specs.declared.form.Form.TheVariants.{Define, ClassVars, Comment, RemoveMethod, Classify, RemoveClass, NoChanges}
use Rattle.s80_form.specs.declared.refusal.Refusal.{Refusal}
use Rattle.s80_class.specs.Classes.{Name, Classes, lineage}
use Rattle.s80_merge.specs.declared.key.Key.{Key}
use Rattle.s80_merge.specs.declared.key.Key.TheVariants.{ClassKey, DefinitionKey, ClassVarsKey, CommentKey, MethodKey}

-- that a class is there, and how it is defined
abbrev pub class_keys : Name → List Key
class_keys name = ClassKey name ∷ DefinitionKey name ∷ []

-- those of a class and of each of its superclasses
abbrev pub line_keys : Name → Classes → List Key
line_keys name classes = flat_map (λ e. class_keys e.0) (lineage classes name)

abbrev pub method_keys : Name → Side → Result (List ℕ) Refusal → List Key
method_keys name side (Ok selector) = MethodKey name side selector ∷ []
method_keys name side (Err refusal) = []

abbrev pub form_writes : Form → Classes → List Key
form_writes (Define d) classes = if map.contains_key classes d.class_name then DefinitionKey d.class_name ∷ [] else class_keys d.class_name
form_writes (ClassVars name names) classes = ClassVarsKey name ∷ []
form_writes (Comment name text) classes = CommentKey name ∷ []
form_writes (RemoveMethod name side selector) classes = MethodKey name side selector ∷ []
form_writes (Classify name side selector category) classes = MethodKey name side selector ∷ []
form_writes (RemoveClass name) classes = class_keys name
form_writes NoChanges classes = []

-- A definition uses the new superclass with all above it, and the class itself where it is there.
abbrev pub form_uses : Form → Classes → List Key
form_uses (Define d) classes = line_keys d.superclass classes ++ (if map.contains_key classes d.class_name then ClassKey d.class_name ∷ [] else [])
form_uses (ClassVars name names) classes = ClassKey name ∷ []
form_uses (Comment name text) classes = ClassKey name ∷ []
form_uses (RemoveMethod name side selector) classes = ClassKey name ∷ []
form_uses (Classify name side selector category) classes = ClassKey name ∷ []
form_uses (RemoveClass name) classes = ClassKey name ∷ []
form_uses NoChanges classes = []

abbrev pub writes : Change → Classes → List Key
writes (change.Form form) classes = form_writes form classes
writes (change.Method m) classes = method_keys m.class_name m.side m.source.selector
writes (change.DoIt text) classes = []

abbrev pub uses : Change → Classes → List Key
uses (change.Form form) classes = form_uses form classes
uses (change.Method m) classes = ClassKey m.class_name ∷ []
uses (change.DoIt text) classes = []
