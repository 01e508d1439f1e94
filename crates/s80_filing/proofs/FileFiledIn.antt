-- A whole file of changes, filed in.
use Rattle.std.proofs.Common.{◌≡◌, ℕ, codes, map, List, [], ◌∷◌, ◌++◌, None, Ok, refl, sym, ap, subst, ◌∙◌, arith}
use Rattle.std.proofs.lemmas.Grind.{flat_map-append}
use Rattle.jiff_core.specs.declared.civil.datetime.DateTime.{DateTime}
use Rattle.s80_lex.specs.Spelling.{doubled, quoted}
use Rattle.s80_chunk.specs.declared.item.Item.{Item}
use Rattle.s80_chunk.specs.declared.item.Item.TheVariants as items
use Rattle.s80_chunk.specs.Chunks.{IsReading}
use Rattle.s80_change.specs.declared.change.Change.{Change}
use Rattle.s80_change.specs.declared.change.Change.TheVariants.{DoIt}
use Rattle.s80_apply.specs.List.{add, state_after, state_from, state_of}
use Rattle.s80_apply.specs.State.{State, kernel_state}
use Rattle.s80_apply.proofs.lemmas.Lists.{state_more}
use Rattle.s80_model.specs.declared.item.SessionItem.TheVariants.{Chunk}
use Rattle.s80_model.specs.declared.section.Section.TheVariants.{Top}
use Rattle.s80_model.specs.Replies.{Work}
use Rattle.s80_fileout.specs.Items.{header_text, items_from, IsReadAs}
use Rattle.s80_fileout.specs.Moment.{civil_text, IsMoment}
use Rattle.s80_fileout.proofs.lemmas.MomentBytes.{doubled_same, moment_lacks}
use Rattle.s80_filing.specs.Filing.{BytesLeadTo, CanFile, LeadsTo, headed}
use Rattle.s80_filing.proofs.FiledIn.{added_ok, filed_in, front_within, OneAsk}
use Rattle.s80_filing.proofs.DoItAsked.{adds_doit, IsEvaluated}
use Rattle.s80_filing.proofs.HeaderAsked.{header_evaluated}

-- ---- the first line as a string

abbrev inner : DateTime → List ℕ
inner dt = codes "From Smalltalk-80, filed out " ++ civil_text dt

header_quoted : (dt : DateTime) → header_text (civil_text dt) ≡ quoted 39 (inner dt)
header_quoted dt =
    let first = codes "From Smalltalk-80, filed out " in
    sym (ap (λ l. 39 ∷ (l ++ 39 ∷ [])) (flat_map-append (doubled 39) first (civil_text dt) ∙ ap (λ l. first ++ l) (doubled_same 39 (civil_text dt) (moment_lacks 39 (omega arith) dt))))

-- ---- the file

module _ (one : OneAsk) (dt : DateTime) (work : Work) (changes : List Change) (top : work.section ≡ Top) (can : CanFile (headed work.changes (civil_text dt)) changes) where
  abbrev text : List ℕ
  text = header_text (civil_text dt)

  header_added : add work.changes (DoIt text) ≡ Ok (work.changes ++ DoIt text ∷ [])
  header_added = added_ok work.changes (DoIt text) tt (front_within (headed work.changes (civil_text dt)) changes can.within)

  behind_header : LeadsTo (record work { changes = headed work.changes (civil_text dt) }) (map Chunk (items_from None changes)) (headed work.changes (civil_text dt) ++ changes)
  behind_header = filed_in one None (record work { changes = headed work.changes (civil_text dt) }) changes top can

  pub whole_filed_in : LeadsTo work (map Chunk (items.Plain text ∷ items_from None changes)) (headed work.changes (civil_text dt) ++ changes)
  whole_filed_in = adds_doit work (map Chunk (items_from None changes)) text _ (subst IsEvaluated (sym (header_quoted dt)) (header_evaluated (inner dt))) header_added behind_header

-- ---- the state

behind_both : (state : State) (list changes : List Change) → state_from state (list ++ changes) ≡ state_from (state_from state list) changes
behind_both state [] changes = refl
behind_both state (change ∷ list) changes = behind_both (state_after change state) list changes

pub state_behind : (list changes : List Change) (moment : List ℕ) → state_of (headed list moment ++ changes) ≡ state_from (state_of list) changes
state_behind list changes moment = behind_both kernel_state (headed list moment) changes ∙ ap (λ s. state_from s changes) (state_more list (DoIt (header_text moment)))

-- ---- the bytes

-- an input has one reading
abbrev pub OneReading : Type 0
OneReading = (bytes : List ℕ) (given others : List Item) (rest end : List ℕ) → IsReading bytes given rest → IsReading bytes others end → (given ≡ others) × (rest ≡ end)

pub bytes_filed_in : OneAsk → OneReading
    → (work : Work) (changes : List Change) (seconds : ℕ) (text moment : List ℕ) → work.section ≡ Top → IsMoment seconds moment → IsReadAs text moment changes → CanFile (headed work.changes moment) changes → BytesLeadTo work text (headed work.changes moment ++ changes)
bytes_filed_in one sole work changes seconds text moment top (dt, civil, is) read can given rest reading =
    let P : List ℕ → Type 0 = λ m. CanFile (headed work.changes m) changes → LeadsTo work (map Chunk (items.Plain (header_text m) ∷ items_from None changes)) (headed work.changes m ++ changes) in
    let leads = subst P (sym is) (whole_filed_in one dt work changes top) can in
    let Q : List Item → Type 0 = λ l. LeadsTo work (map Chunk l) (headed work.changes moment ++ changes) in
    subst Q (sym (sole text given (items.Plain (header_text moment) ∷ items_from None changes) rest read.0 reading read.1).0) leads
