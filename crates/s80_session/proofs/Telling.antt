-- What is told of the source of a method, of its versions, and in files of changes.
use Rattle.std.proofs.Common.{◌≡◌, ℕ, List, Bool, true, false, true≢false, if◌then◌else◌, is_some, sym, ap, ◌∙◌, Option, Some, None, map as list_map}
use Rattle.std.specs.Prelude.{MatchOption}
use Rattle.std.specs.FinMap as map
use Rattle.s80_base.specs.declared.names.Side.{Side}
use Rattle.s80_change.specs.declared.change.Change.{Change}
use Rattle.s80_class.specs.Classes.{Name, Classes, ClassRow}
use Rattle.s80_apply.specs.List.{state_of}
use Rattle.s80_apply.specs.System.{HasNumber, IsSystemOf, SystemState}
use Rattle.s80_fileout.specs.Condensed.{filed_on}
use Rattle.s80_fileout.specs.FileText.{IsFile}
use Rattle.s80_fileout.specs.Moment.{IsMoment}
use Rattle.s80_form.specs.declared.refusal.Refusal.TheVariants.{BadName, UnknownClass}
use Rattle.s80_form.specs.Name.{is_name}
use Rattle.s80_history.specs.Lists.{versions_of}
use Rattle.s80_model.specs.declared.item.Filed.TheVariants.{Class as OneClass}
use Rattle.s80_model.specs.declared.item.Query.TheVariants.{Source, Versions}
use Rattle.s80_model.specs.declared.reply.Reply.{Reply}
use Rattle.s80_model.specs.declared.reply.Reply.TheVariants.{Refused, Told}
use Rattle.s80_session.specs.Replies.{TellsFile}
use Rattle.s80_model.specs.Told.{file_of_class, file_reply, file_told, side_named, source_in, source_of_class, source_reply, source_told, versions_of_class, versions_reply, versions_told, told}

module _ (changes : List Change) (spec selector : List ℕ) (named : Option (Name × Side)) (pair : Name × Side) (is : named ≡ side_named spec) (some : named ≡ Some pair) (row : ClassRow) (there : map.get (state_of changes).classes pair.0 ≡ Some row) (reply : Reply) where
  -- the word names a class that is there, and this is the source that the state has
  pub source_is_told : (source : Option (List ℕ)) → source ≡ source_in (state_of changes) pair.0 pair.1 selector → reply ≡ source_told pair.0 pair.1 selector source → reply ≡ told changes (Source spec selector)
  source_is_told source found is_told =
      let by_name : told changes (Source spec selector) ≡ source_of_class (state_of changes) pair.0 pair.1 selector (map.get (state_of changes).classes pair.0) = ap (source_reply (state_of changes) spec selector) (sym is ∙ some) in
      is_told ∙ ap (source_told pair.0 pair.1 selector) found ∙ sym (by_name ∙ ap (source_of_class (state_of changes) pair.0 pair.1 selector) there)

  -- and these are the versions that the list has
  pub versions_are_told : (is_there : Bool) (versions : List Change) → is_there ≡ map.contains_key ((state_of changes).methods pair.0 pair.1) selector
      → versions ≡ list_map (λ p. p.1) (versions_of changes (record { class_name = pair.0; side = pair.1; selector = selector })) → reply ≡ versions_told pair.0 pair.1 selector is_there versions → reply ≡ told changes (Versions spec selector)
  versions_are_told is_there versions known found is_told =
      let by_name : told changes (Versions spec selector) ≡ versions_of_class changes pair.0 pair.1 selector (map.get (state_of changes).classes pair.0) = ap (versions_reply changes spec selector) (sym is ∙ some) in
      is_told ∙ (λ i. versions_told pair.0 pair.1 selector (known i) (found i)) ∙ sym (by_name ∙ ap (versions_of_class changes pair.0 pair.1 selector) there)

-- ---- files

-- the text of a file, by the changes that it has
pub file_is_told : (listed wanted : List Change) (seconds : ℕ) (text : List ℕ) → listed ≡ wanted → IsFile listed seconds text → (moment : List ℕ) × IsMoment seconds moment × (Told text ≡ file_told moment wanted)
file_is_told listed wanted seconds text is (moment, file) = (moment, file.at, ap Told file.whole ∙ ap (file_told moment) is)

module _ (changes : List Change) (name : Name) (seconds : ℕ) where
  -- what is told by whether the word is a name
  abbrev by_name : List ℕ → Bool → Reply
  by_name moment named = if named then file_of_class (state_of changes) moment name (map.get (state_of changes).classes name) else Refused (BadName name)

  -- it is none
  pub misnamed_told : is_name name ≡ false → (moment : List ℕ) × IsMoment seconds moment → TellsFile changes seconds (OneClass name) (Refused (BadName name))
  misnamed_told named (moment, is) = (moment, is, sym (ap (by_name moment) named))

  -- it is one, and its class is this
  named_told : is_name name ≡ true → (row : Option ClassRow) → map.get (state_of changes).classes name ≡ row → (moment : List ℕ) → file_of_class (state_of changes) moment name row ≡ file_reply changes moment (OneClass name)
  named_told named row there moment = sym (ap (by_name moment) named ∙ ap (file_of_class (state_of changes) moment name) there)

  module _ (system : SystemState) (is : IsSystemOf system (state_of changes)) (named : is_name name ≡ true) where
    -- in the system's classes
    of_system : (row : Option ClassRow) → map.get system.table.classes name ≡ row → map.get (state_of changes).classes name ≡ row
    of_system row there = sym (ap (λ (m : Classes). map.get m name) is.classes) ∙ there

    -- there is no class
    pub unknown_told : (found : Option ℕ) → MatchOption found (map.get system.table.classes name ≡ None) (HasNumber system name) → is_some found ≡ false → (moment : List ℕ) × IsMoment seconds moment → TellsFile changes seconds (OneClass name) (Refused (UnknownClass name))
    unknown_told None none unfound (moment, at) = (moment, at, named_told named None (of_system None none) moment)
    unknown_told (Some number) has unfound moment = absurd (true≢false unfound)

    -- there is one
    pub class_told : (found : Option ℕ) → MatchOption found (map.get system.table.classes name ≡ None) (HasNumber system name) → is_some found ≡ true → (listed : List Change) (text : List ℕ) → listed ≡ filed_on name (state_of changes) → IsFile listed seconds text → TellsFile changes seconds (OneClass name) (Told text)
    class_told None none is_found listed text listed_is file = absurd (true≢false (sym is_found))
    class_told (Some number) has is_found listed text listed_is file =
        let told = file_is_told listed (filed_on name (state_of changes)) seconds text listed_is file in
        (told.0, told.1, told.2 ∙ named_told named (Some has.there.0) (of_system (Some has.there.0) has.there.1) told.0)
