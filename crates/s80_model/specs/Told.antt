-- What queries are told of the state and the list.
use Rattle.std.specs.Prelude.{ℕ, ◌-◌, Bool, true, false, ◌&&◌, List, [], ◌∷◌, ◌++◌, Option, Some, None, length, codes, take, map as list_map, option_map, if◌then◌else◌}
use Rattle.std.specs.FinMap as map
use Rattle.std.specs.Str.{bytes_eq}
use Rattle.s80_base.specs.declared.names.Side.{Side}
use Rattle.s80_base.specs.declared.names.Side.TheVariants.{Instance, Class}
use Rattle.s80_form.specs.declared.refusal.Refusal.TheVariants.{UnknownClass, BadName, NoSelector}
use Rattle.s80_form.specs.Name.{is_name}
use Rattle.s80_class.specs.Classes.{Name, ClassRow}
use Rattle.s80_apply.specs.State.{State}
use Rattle.s80_apply.specs.List.{state_of}
use Rattle.s80_change.specs.declared.change.Change.{Change}
use Rattle.s80_history.specs.Lists.{set_of, versions_of}
use Rattle.s80_fileout.specs.Condensed.{filed, filed_on}
use Rattle.s80_fileout.specs.FileText.{changes_text as file_text, header}
use Rattle.s80_model.specs.Texts.{recovered_text, classes_text, browsed, changes_text, versions_text}
use Rattle.s80_model.specs.declared.item.Filed.{Filed}
use Rattle.s80_model.specs.declared.item.Filed.TheVariants.{All, Class as OneClass, Set}
use Rattle.s80_model.specs.declared.item.Query.{Query}
use Rattle.s80_model.specs.declared.item.Query.TheVariants.{Recover, Classes as AllClasses, Browse, Source, Versions, Changes, FileOut, Senders, Implementors, References, Undeclared, Unimplemented, Unsent, Snapshot, Condense}
use Rattle.s80_model.specs.declared.reply.Reply.{Reply}
use Rattle.s80_model.specs.declared.reply.Reply.TheVariants.{Refused, Silent, Told}

-- ---- the lines of a class

abbrev pub browse_reply : Name → Option (List ℕ) → Reply
browse_reply name None = Refused (UnknownClass name)
browse_reply name (Some lines) = Told lines

-- ---- the source of a method

abbrev pub class_word : List ℕ
class_word = codes " class"

-- the name in front of the word for the class side
abbrev pub class_side_name : List ℕ → List ℕ
class_side_name spec = take (length spec - length class_word) spec

abbrev pub is_class_side : List ℕ → Bool
is_class_side spec = bytes_eq spec (class_side_name spec ++ class_word) && is_name (class_side_name spec)

-- the class and the side that a word names
abbrev pub side_named : List ℕ → Option (Name × Side)
side_named spec = if is_name spec then Some (spec, Instance) else (if is_class_side spec then Some (class_side_name spec, Class) else None)

-- the source that the state has for a selector on one side of a class, if it has one
abbrev pub source_in : State → Name → Side → List ℕ → Option (List ℕ)
source_in state name side selector = option_map (λ row. row.source) (map.get (state.methods name side) selector)

abbrev pub source_told : Name → Side → List ℕ → Option (List ℕ) → Reply
source_told name side selector None = Refused (NoSelector name side selector)
source_told name side selector (Some source) = Told (source ++ 10 ∷ [])

abbrev pub source_of_class : State → Name → Side → List ℕ → Option ClassRow → Reply
source_of_class state name side selector None = Refused (UnknownClass name)
source_of_class state name side selector (Some row) = source_told name side selector (source_in state name side selector)

abbrev pub source_reply : State → List ℕ → List ℕ → Option (Name × Side) → Reply
source_reply state spec selector None = Refused (BadName spec)
source_reply state spec selector (Some named) = source_of_class state named.0 named.1 selector (map.get state.classes named.0)

-- ---- the versions of a method

-- where there is neither a method now nor a version, there is no selector
abbrev pub versions_told : Name → Side → List ℕ → Bool → List Change → Reply
versions_told name side selector false [] = Refused (NoSelector name side selector)
versions_told name side selector false (change ∷ older) = Told (versions_text (change ∷ older))
versions_told name side selector true versions = Told (versions_text versions)

abbrev pub versions_of_class : List Change → Name → Side → List ℕ → Option ClassRow → Reply
versions_of_class changes name side selector None = Refused (UnknownClass name)
versions_of_class changes name side selector (Some row) =
    versions_told name side selector (map.contains_key ((state_of changes).methods name side) selector)
    (list_map (λ p. p.1) (versions_of changes (record { class_name = name; side = side; selector = selector })))

abbrev pub versions_reply : List Change → List ℕ → List ℕ → Option (Name × Side) → Reply
versions_reply changes spec selector None = Refused (BadName spec)
versions_reply changes spec selector (Some named) = versions_of_class changes named.0 named.1 selector (map.get (state_of changes).classes named.0)

-- ---- files of changes

-- the text of a file of this moment
abbrev pub file_told : List ℕ → List Change → Reply
file_told moment changes = Told (header moment ++ file_text changes)

abbrev pub file_of_class : State → List ℕ → Name → Option ClassRow → Reply
file_of_class state moment name None = Refused (UnknownClass name)
file_of_class state moment name (Some row) = file_told moment (filed_on name state)

abbrev pub file_reply : List Change → List ℕ → Filed → Reply
file_reply changes moment All = file_told moment (filed (state_of changes))
file_reply changes moment (OneClass name) = if is_name name then file_of_class (state_of changes) moment name (map.get (state_of changes).classes name) else Refused (BadName name)
file_reply changes moment Set = file_told moment (list_map (λ p. p.1) (set_of changes))

-- ---- queries

-- what a query is told of a list; a file, what is sought, a snapshot and condensing ask otherwise
abbrev pub told : List Change → Query → Reply
told changes Recover = Told (recovered_text (length changes) (state_of changes))
told changes AllClasses = Told (classes_text (state_of changes).classes)
told changes (Browse name) = if is_name name then browse_reply name (browsed (state_of changes) name) else Refused (BadName name)
told changes (Source spec selector) = source_reply (state_of changes) spec selector (side_named spec)
told changes (Versions spec selector) = versions_reply changes spec selector (side_named spec)
told changes Changes = Told (changes_text (list_map (λ p. p.1) (set_of changes)))
told changes (FileOut filed) = Silent
told changes (Senders selector) = Silent
told changes (Implementors selector) = Silent
told changes (References name) = Silent
told changes Undeclared = Silent
told changes Unimplemented = Silent
told changes Unsent = Silent
told changes Snapshot = Silent
told changes Condense = Silent
