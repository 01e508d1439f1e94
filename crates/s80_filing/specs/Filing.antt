-- What filing in a file of changes comes to.
use Rattle.std.specs.Prelude.{◌≡◌, ◌⊎◌, ℕ, ◌≤◌, false, All, length, map, List, [], ◌∷◌, ◌++◌}
use Rattle.s80_chunk.specs.declared.item.Item.{Item}
use Rattle.s80_chunk.specs.Chunks.{IsReading}
use Rattle.s80_change.specs.declared.change.Change.{Change}
use Rattle.s80_change.specs.declared.change.Change.TheVariants.{Form, DoIt}
use Rattle.s80_change.specs.Block.{blocks, log_limit, IsLawful}
use Rattle.s80_form.specs.Form.{IsCondensingText}
use Rattle.s80_form.specs.declared.form.Form.TheVariants.{NoChanges}
use Rattle.s80_apply.specs.List.{state_of, AreAccepted}
use Rattle.s80_apply.specs.State.{State}
use Rattle.s80_history.specs.Lists.{is_no_changes}
use Rattle.s80_doit.specs.DoIt.{Fits}
use Rattle.s80_model.specs.declared.item.SessionItem.{SessionItem}
use Rattle.s80_model.specs.declared.item.SessionItem.TheVariants.{Chunk}
use Rattle.s80_model.specs.declared.reply.Reply.TheVariants.{Accepted, Silent}
use Rattle.s80_model.specs.Asked.{Ask, adds, adds_source, closes, evaluates, opens}
use Rattle.s80_model.specs.Replies.{Work, AllAsk, list_after_all, reply_to, work_after}
use Rattle.s80_fileout.specs.Items.{header_text, IsShort}

abbrev pub IsNoDoIt : Change → Type 0
IsNoDoIt (DoIt text) = ⊥
IsNoDoIt _ = Unit {0}

-- The list accepts these changes, one after the other, of which none is a doIt, and no text is too long for a chunk. With them it is no longer than a log may be.
pub record CanFile (list changes : List Change) : Type 0 where
  pub lawful : All IsLawful changes
  pub short : All IsShort changes
  pub no_doit : All IsNoDoIt changes
  pub accepted : AreAccepted (state_of list) changes
  pub within : length (blocks (list ++ changes)) ≤ log_limit

-- It is taken in: a change is answered by `ok`, and the beginning and the end of a section by nothing. Of what a doIt is told nothing is said, and
-- nothing else is asked.
abbrev pub IsTaken : Work → Ask → Type 0
IsTaken work (adds change) = reply_to work (adds change) ≡ Accepted
IsTaken work (adds_source source) = reply_to work (adds_source source) ≡ Accepted
IsTaken work (opens head) = reply_to work (opens head) ≡ Silent
IsTaken work closes = reply_to work closes ≡ Silent
IsTaken work (evaluates text told stopped) = Unit {0}
IsTaken work ask = ⊥

abbrev pub AllTaken : Work → List Ask → Type 0
AllTaken work [] = Unit {0}
AllTaken work (ask ∷ asks) = IsTaken work ask × AllTaken (work_after work ask) asks

-- whatever these items ask, it is taken in, and they lead to this list
abbrev pub LeadsTo : Work → List SessionItem → List Change → Type 0
LeadsTo work items list = (asks : List Ask) → AllAsk work items asks → (list_after_all work asks ≡ list) × AllTaken work asks

-- and so do those as which the bytes are read
abbrev pub BytesLeadTo : Work → List ℕ → List Change → Type 0
BytesLeadTo work bytes list = (given : List Item) (rest : List ℕ) → IsReading bytes given rest → LeadsTo work (map Chunk given) list

-- a list with the doIt of a file's first line
abbrev pub headed : List Change → List ℕ → List Change
headed list moment = list ++ DoIt (header_text moment) ∷ []

-- ---- what is filed out

-- the bytes, worked so, lead to a list that makes this state
abbrev pub FilesIn : Work → List ℕ → State → Type 0
FilesIn work bytes state = (list : List Change) × BytesLeadTo work bytes list × (state_of list ≡ state)

-- a file of these changes may be worked behind this list: no text is too long for a chunk, and the log doesn't become too long
pub record HasRoom (list changes : List Change) (moment : List ℕ) : Type 0 where
  pub short : All IsShort changes
  pub within : length (blocks (headed list moment ++ changes)) ≤ log_limit

-- the change set of a list of these two parts is made of the second: that stands behind the last change that begins a set, or is the whole list
pub record BeginsSet (before set : List Change) : Type 0 where
  pub none : All (λ change. is_no_changes change ≡ false) set
  pub behind : (before ≡ []) ⊎ ((front : List Change) × (before ≡ front ++ Form NoChanges ∷ []))

-- a doIt has a tree that fits a machine, and doesn't ask to condense
abbrev pub FitsAgain : Change → Type 0
FitsAgain (DoIt text) = Fits text × (IsCondensingText text → ⊥)
FitsAgain _ = Unit {0}
