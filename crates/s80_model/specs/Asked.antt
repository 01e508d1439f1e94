-- What an item asks, whatever the list and the section in which it stands.
use Rattle.std.specs.Prelude.{◌≡◌, ◌≢◌, ◌⊎◌, ◌++◌, ◌∷◌, [], ℕ, Bool, List, None, Some, codes}
use Rattle.s80_chunk.specs.declared.item.Role.{Role}
use Rattle.s80_chunk.specs.declared.item.Role.TheVariants as roles
use Rattle.s80_chunk.specs.declared.item.Item.TheVariants as items
use Rattle.s80_tree.specs.Tree.{DoItParts}
use Rattle.s80_syntax.specs.Faults.{IsDoItText}
use Rattle.s80_syntax.specs.Text.{IsDoItOf}
use Rattle.s80_change.specs.declared.change.Change.{Change}
use Rattle.s80_change.specs.declared.change.Change.TheVariants.{Form, Method, DoIt}
use Rattle.s80_change.specs.Source.{SourceParts}
use Rattle.s80_form.specs.Form.{IsCondensingText, IsEvaluatedText, IsFormText, IsSnapshotText}
use Rattle.s80_form.specs.Name.{IsName, IsSelectorWord}
use Rattle.s80_form.specs.declared.refusal.FitWord.TheVariants as fits
use Rattle.s80_form.specs.declared.refusal.Refusal.{Refusal}
use Rattle.s80_form.specs.declared.refusal.Refusal.TheVariants as refusals
use Rattle.s80_change.specs.declared.head.SectionHead.{SectionHead}
use Rattle.s80_change.specs.Check.{IsCheckOf, IsSyntaxRefusal, as_method, size_refusal}
use Rattle.s80_change.specs.Head.{IsHeadOf}
use Rattle.s80_doit.specs.DoIt.{Fits}
use Rattle.s80_model.specs.declared.item.Filed.{Filed}
use Rattle.s80_model.specs.declared.item.Query.{Query as SessionQuery}
use Rattle.s80_model.specs.declared.item.Query.TheVariants as queries
use Rattle.s80_model.specs.declared.item.SessionItem.{SessionItem}
use Rattle.s80_model.specs.declared.item.SessionItem.TheVariants.{Chunk, Unended, Query}
use Rattle.s80_model.specs.Settings.{Settings}

pub data Ask : Type 0 where
  -- it is refused whatever the list
  refuses : Refusal → Ask
  -- a change by its form, or the note of a snapshot, is added
  adds : Change → Ask
  -- a doIt of this text is added and evaluated; what it comes to is told so, and it is stopped or not
  evaluates : List ℕ → List ℕ → Bool → Ask
  -- the condensed list takes the place of the list
  condenses : Ask
  -- a section of this head begins
  opens : SectionHead → Ask
  -- a section begins whose head is refused so
  refuses_head : Refusal → Ask
  -- a method of this source is added to the class of the section; or in a section it is refused so
  adds_source : SourceParts → Ask
  refuses_source : Refusal → Ask
  -- a section ends
  closes : Ask
  -- something is told
  tells : SessionQuery → Ask
  -- a file of changes is told, with this moment in its first line
  files : Filed → List ℕ → Ask
  -- methods or names are sought, and these lines tell what is found
  seeks : SessionQuery → List ℕ → Ask

-- ---- plain texts

-- the text has no tree, or one that doesn't fit, and this is why
abbrev pub IsRefusedText : List ℕ → Refusal → Type 0
IsRefusedText text refusal = IsSyntaxRefusal IsDoItText text refusal ⊎ ((tree : DoItParts) × IsDoItOf text tree × (size_refusal (as_method tree) ≡ Some refusal))

-- the doIt that the list keeps of a snapshot
abbrev pub snapshot_note : List ℕ
snapshot_note = 34 ∷ (codes "----SNAPSHOT----" ++ 34 ∷ [])

-- a text is kept as the change whose form it has; and as the note where it asks for a snapshot
abbrev pub IsKeptAs : List ℕ → Change → Type 0
IsKeptAs text (Form form) = IsFormText text form
IsKeptAs text (Method m) = ⊥
IsKeptAs text (DoIt own) = IsSnapshotText text × (own ≡ snapshot_note)

-- A plain text is refused, or it fits. Then it is added as the change whose form its tree has, or as the note of a snapshot; or it asks to
-- condense, and isn't kept; or else it is added as a doIt, which is evaluated.
abbrev pub AsksPlain : List ℕ → Ask → Type 0
AsksPlain text (refuses refusal) = IsRefusedText text refusal
AsksPlain text (adds change) = Fits text × IsKeptAs text change
AsksPlain text (evaluates own told stopped) = Fits text × (own ≡ text) × IsEvaluatedText text
AsksPlain text condenses = Fits text × IsCondensingText text
AsksPlain text _ = ⊥

-- ---- heads

-- why a head is refused by itself: it is no doIt, or none of the two forms
abbrev pub IsRefusedHead : List ℕ → Refusal → Type 0
IsRefusedHead text (refusals.NoSection own) = (own ≡ text) × ((tree : DoItParts) × IsDoItOf text tree) × ((head : SectionHead) → IsHeadOf text head → ⊥)
IsRefusedHead text refusal = IsSyntaxRefusal IsDoItText text refusal

abbrev pub AsksHead : List ℕ → Ask → Type 0
AsksHead text (opens head) = IsHeadOf text head
AsksHead text (refuses_head refusal) = IsRefusedHead text refusal
AsksHead text _ = ⊥

-- ---- methods

abbrev pub AsksMethod : List ℕ → Ask → Type 0
AsksMethod text (adds_source source) = (source.text ≡ text) × IsCheckOf text source.selector
AsksMethod text _ = ⊥

-- ---- items

-- what a text asks that is too long
abbrev pub ask_of_too_long : Role → ℕ → Ask
ask_of_too_long roles.Plain n = refuses (refusals.TooLarge fits.Chunk n)
ask_of_too_long roles.Head n = refuses_head (refusals.TooLarge fits.Chunk n)
ask_of_too_long roles.Method n = refuses_source (refusals.TooLarge fits.Chunk n)

-- with such a word this is sought, and with another it is refused
abbrev pub AsksOf : (List ℕ → Type 0) → List ℕ → SessionQuery → Ask → Type 0
AsksOf Suits word query ask = (Suits word × ((lines : List ℕ) × (ask ≡ seeks query lines))) ⊎ ((Suits word → ⊥) × (ask ≡ refuses (refusals.BadName word)))

-- what a query asks: a snapshot adds its note, a file has a moment, one condenses, some seek methods or names, and the others are told something
abbrev pub AsksQuery : SessionQuery → Ask → Type 0
AsksQuery queries.Recover ask = ask ≡ tells queries.Recover
AsksQuery queries.Classes ask = ask ≡ tells queries.Classes
AsksQuery (queries.Browse name) ask = ask ≡ tells (queries.Browse name)
AsksQuery (queries.Source spec selector) ask = ask ≡ tells (queries.Source spec selector)
AsksQuery (queries.Versions spec selector) ask = ask ≡ tells (queries.Versions spec selector)
AsksQuery queries.Changes ask = ask ≡ tells queries.Changes
AsksQuery (queries.FileOut filed) ask = (moment : List ℕ) × (ask ≡ files filed moment)
AsksQuery (queries.Senders selector) ask = AsksOf IsSelectorWord selector (queries.Senders selector) ask
AsksQuery (queries.Implementors selector) ask = AsksOf IsSelectorWord selector (queries.Implementors selector) ask
AsksQuery (queries.References name) ask = AsksOf IsName name (queries.References name) ask
AsksQuery queries.Undeclared ask = (lines : List ℕ) × (ask ≡ seeks queries.Undeclared lines)
AsksQuery queries.Unimplemented ask = (lines : List ℕ) × (ask ≡ seeks queries.Unimplemented lines)
AsksQuery queries.Unsent ask = (lines : List ℕ) × (ask ≡ seeks queries.Unsent lines)
AsksQuery queries.Snapshot ask = ask ≡ adds (DoIt snapshot_note)
AsksQuery queries.Condense ask = ask ≡ condenses

abbrev pub Asks : SessionItem → Ask → Type 0
Asks (Chunk (items.Plain text)) ask = AsksPlain text ask
Asks (Chunk (items.Head text)) ask = AsksHead text ask
Asks (Chunk (items.Method text)) ask = AsksMethod text ask
Asks (Chunk items.SectionEnd) ask = ask ≡ closes
Asks (Chunk (items.TooLong role n)) ask = ask ≡ ask_of_too_long role n
Asks Unended ask = ask ≡ refuses refusals.Unended
Asks (Query query) ask = AsksQuery query ask

-- with these settings it asks one thing: for a file the clock is told
abbrev pub IsTimed : Settings → SessionItem → Type 0
IsTimed settings (Query (queries.FileOut filed)) = settings.moment ≢ None
IsTimed settings item = Unit {0}
