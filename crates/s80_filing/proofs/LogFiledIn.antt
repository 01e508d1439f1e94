-- The log of a list leads to that list.
use Rattle.std.proofs.Common.{◌≡◌, map, All, List, [], ◌∷◌, ◌++◌, refl, sym, subst}
use Rattle.std.proofs.lemmas.List.{append-nil}
use Rattle.std.proofs.lemmas.List.Elements.{All-head, All-tail}
use Rattle.s80_chunk.specs.declared.item.Item.{Item}
use Rattle.s80_chunk.specs.declared.item.Item.TheVariants as items
use Rattle.s80_change.specs.declared.change.Change.{Change}
use Rattle.s80_change.specs.declared.change.Change.TheVariants.{Form, Method, DoIt}
use Rattle.s80_change.specs.Block.{blocks, head_of, IsLawful, IsList}
use Rattle.s80_apply.specs.List.{IsBuilt}
use Rattle.s80_model.specs.declared.item.SessionItem.{SessionItem}
use Rattle.s80_model.specs.declared.item.SessionItem.TheVariants.{Chunk}
use Rattle.s80_model.specs.declared.section.Section.TheVariants as sections
use Rattle.s80_model.specs.Replies.{Work, begun}
use Rattle.s80_model.specs.Settings.{Settings}
use Rattle.s80_fileout.specs.Items.{IsShort}
use Rattle.s80_fileout.proofs.FiledTexts.{all_readable}
use Rattle.s80_filing.specs.Filing.{BytesLeadTo, FitsAgain, LeadsTo}
use Rattle.s80_filing.proofs.FiledIn.{adds_form, adds_method, begins, can_more, ends, grown, is_added, no_items, one_longer, CanAdd, OneAsk}
use Rattle.s80_filing.proofs.DoItAsked.{adds_doit, is_evaluated}
use Rattle.s80_filing.proofs.FileFiledIn.{OneReading}
use Rattle.s80_filing.proofs.LogRead.{log_items, log_reading}

module _ (one : OneAsk) where
  -- changes whose doIts fit a machine, each method in a section of its own
  log_added : (work : Work) (changes : List Change) → work.section ≡ sections.Top → All FitsAgain changes → CanAdd work.changes changes → LeadsTo work (map Chunk (log_items changes)) (work.changes ++ changes)
  log_added work [] top fit can = no_items work (work.changes ++ []) (sym (append-nil work.changes))
  log_added work (Form form ∷ changes) top fit can =
      let rest : List SessionItem = map Chunk (log_items changes) in
      let others = All-tail FitsAgain (Form form) changes fit in
      adds_form one work rest form changes _ can (one_longer rest work (Form form) changes (log_added (grown work (Form form)) changes top others (can_more work.changes changes (Form form) can)))
  log_added work (Method m ∷ changes) top fit can =
      let rest : List SessionItem = map Chunk (log_items changes) in
      let inside : Work = record work { section = sections.Open (head_of m) } in
      let behind : Work = record work { section = sections.Top } in
      let others = All-tail FitsAgain (Method m) changes fit in
      begins one work (Chunk (items.Method m.source.text) ∷ Chunk items.SectionEnd ∷ rest) m changes _ can
      (adds_method one inside (Chunk items.SectionEnd ∷ rest) m changes _ refl can
      (ends one (grown inside (Method m)) rest _ (one_longer rest behind (Method m) changes (log_added (grown behind (Method m)) changes refl others (can_more work.changes changes (Method m) can)))))
  log_added work (DoIt text ∷ changes) top fit can =
      let rest : List SessionItem = map Chunk (log_items changes) in
      let others = All-tail FitsAgain (DoIt text) changes fit in
      let lawful = All-head IsLawful (DoIt text) changes can.lawful in
      let (fits, not_condensing) = All-head FitsAgain (DoIt text) changes fit in
      let evaluated = is_evaluated text fits (record { none = lawful.1; condensing = not_condensing }) in
      adds_doit work rest text _ evaluated (is_added work.changes changes (DoIt text) can) (one_longer rest work (DoIt text) changes (log_added (grown work (DoIt text)) changes top others (can_more work.changes changes (DoIt text) can)))

  pub log_filed_in : OneReading → (settings : Settings) (changes : List Change) → IsBuilt changes → IsList changes → All IsShort changes → All FitsAgain changes → BytesLeadTo (begun settings []) (blocks changes) changes
  log_filed_in sole settings changes built list short fit given rest reading =
      let read = log_reading changes (all_readable changes list.lawful short) in
      let leads = log_added (begun settings []) changes refl fit (record { lawful = list.lawful; accepted = built; within = list.within }) in
      let P : List Item → Type 0 = λ l. LeadsTo (begun settings []) (map Chunk l) changes in
      subst P (sym (sole (blocks changes) given (log_items changes) rest read.0 reading read.1).0) leads
