-- What was filed out makes the same changes where it is filed in.
use Rattle.std.proofs.Common.{◌≡◌, ℕ, All, ◌+◌, ◌≤◌, ◌&&◌, Bool, true, false, bytes_eq, if◌then◌else◌, map, List, [], ◌∷◌, ◌++◌, length, length-append, Option, Some, None, Result, Ok, Err, refl, sym, ap, subst, ◌∙◌, append_assoc, arith}
use Rattle.std.proofs.lemmas.Bool.{and_parts, le-leb}
use Rattle.std.proofs.lemmas.Grind.{flat_map-append}
use Rattle.std.proofs.lemmas.List.{append-nil}
use Rattle.std.proofs.lemmas.List.Elements.{All-head, All-tail}
use Rattle.s80_dict.specs.Table.{same_side}
use Rattle.std.specs.Cmp.Lexicographic.{bytes_decides}
use Rattle.s80_apply.proofs.Places.{side_is}
use Rattle.s80_chunk.specs.declared.item.Item.{Item}
use Rattle.s80_chunk.specs.declared.item.Item.TheVariants as items
use Rattle.s80_form.specs.declared.form.Form.{Form as AnyForm}
use Rattle.s80_form.specs.declared.refusal.Refusal.{Refusal}
use Rattle.s80_form.specs.Form.{form_text}
use Rattle.s80_form.proofs.lemmas.FormTexts.{has_text}
use Rattle.s80_change.specs.declared.change.Change.{Change}
use Rattle.s80_change.specs.declared.change.Change.TheVariants.{Form, Method, DoIt}
use Rattle.s80_change.specs.declared.change.Method.{Method as MethodChange}
use Rattle.s80_change.specs.declared.head.SectionHead.{SectionHead}
use Rattle.s80_change.specs.Block.{block, blocks, head_of, log_limit, IsLawful}
use Rattle.s80_change.specs.Head.{head_text}
use Rattle.s80_change.proofs.HeadBeginning.{text_begins}
use Rattle.s80_apply.specs.Accept.{accept, accept_checked, accepted as accepted_or, first_some, keeping_rows, put_source, too_many_methods, unknown_name}
use Rattle.s80_apply.specs.List.{add, state_of, too_full, refused_or, AreAccepted, IsAccepted}
use Rattle.s80_apply.specs.State.{State}
use Rattle.s80_apply.proofs.lemmas.Lists.{state_more}
use Rattle.s80_doit.specs.DoIt.{Fits}
use Rattle.s80_model.specs.declared.item.SessionItem.{SessionItem}
use Rattle.s80_model.specs.declared.item.SessionItem.TheVariants.{Chunk}
use Rattle.s80_model.specs.declared.section.Section.{Section}
use Rattle.s80_model.specs.declared.section.Section.TheVariants as sections
use Rattle.s80_model.specs.Asked.{Ask, adds, adds_source, closes, opens}
use Rattle.s80_model.specs.declared.reply.Reply.TheVariants.{Accepted}
use Rattle.s80_model.specs.Replies.{Work, AsksIn, AllAsk, list_after_source, list_or, section_of, work_after, list_after_all, reply_to_adding, reply_to_head, reply_to_source}
use Rattle.s80_fileout.specs.FileText.{is_same_head}
use Rattle.s80_fileout.specs.Items.{items_from}
use Rattle.s80_filing.specs.Filing.{AllTaken, CanFile, IsNoDoIt, IsTaken, LeadsTo}
use Rattle.s80_filing.proofs.FormsFit.{form_fits}

-- ---- a list that grows

fits_behind : (r : Result State Refusal) (full : Option Refusal) → IsAccepted r → full ≡ None → refused_or r full ≡ None
fits_behind (Ok state) full is none = none
fits_behind (Err refusal) full is none = absurd is

pub added_ok : (list : List Change) (change : Change) → IsAccepted (accept change (state_of list)) → length (blocks (list ++ change ∷ [])) ≤ log_limit → add list change ≡ Ok (list ++ change ∷ [])
added_ok list change accepted within =
    let size : length (blocks (list ++ change ∷ [])) ≡ length (blocks list) + length (block change) =
    ap length (flat_map-append block list (change ∷ []) ∙ ap (λ l. blocks list ++ l) (append-nil (block change))) ∙ length-append (blocks list) (block change) in
    let room : too_full (length (blocks list)) (length (block change)) ≡ None = rw (le-leb (length (blocks list) + length (block change)) log_limit (omega (arith, size, within))) refl in
    rw (fits_behind (accept change (state_of list)) (too_full (length (blocks list)) (length (block change))) accepted room) refl

pub front_within : (list changes : List Change) → length (blocks (list ++ changes)) ≤ log_limit → length (blocks list) ≤ log_limit
front_within list changes within =
    let whole = ap length (flat_map-append block list changes) ∙ length-append (blocks list) (blocks changes) in
    omega (arith, whole, within)

-- These changes may be added behind the list: each is lawful and accepted behind those before it, and a log has room for them.
pub record CanAdd (list changes : List Change) : Type 0 where
  pub lawful : All IsLawful changes
  pub accepted : AreAccepted (state_of list) changes
  pub within : length (blocks (list ++ changes)) ≤ log_limit

module _ (list changes : List Change) (change : Change) (can : CanAdd list (change ∷ changes)) where
  pub can_more : CanAdd (list ++ change ∷ []) changes
  can_more =
      let P : State → Type 0 = λ s. AreAccepted s changes in
      record {
        lawful = All-tail IsLawful change changes can.lawful;
        accepted = subst P (sym (state_more list change)) can.accepted.1;
        within = let same = ap (λ l. length (blocks l)) (append_assoc list (change ∷ []) changes) in omega (arith, same, can.within);
      }

  pub is_added : add list change ≡ Ok (list ++ change ∷ [])
  is_added = added_ok list change can.accepted.0 (front_within (list ++ change ∷ []) changes can_more.within)

-- the class of a method that is accepted is there
class_there : (unknown many : Option Refusal) (state : State) → IsAccepted (accepted_or (first_some (unknown ∷ many ∷ [])) state) → unknown ≡ None
class_there None many state is = refl
class_there (Some refusal) many state is = absurd is

class_is_known : (m : MethodChange) (state : State) → IsAccepted (accept (Method m) state) → unknown_name m.class_name state.classes ≡ None
class_is_known m state is = by_selector m.source.selector is
  where
    by_selector : (selector : Result (List ℕ) Refusal) → IsAccepted (accept_checked keeping_rows m selector state) → unknown_name m.class_name state.classes ≡ None
    by_selector (Ok selector) is = class_there (unknown_name m.class_name state.classes) (too_many_methods m selector state) (put_source keeping_rows m selector state) is
    by_selector (Err refusal) is = absurd is

heads_same : (one other : SectionHead) → is_same_head one other ≡ true → one ≡ other
heads_same one other is =
    let both = and_parts (bytes_eq one.class_name other.class_name && same_side one.side other.side) (bytes_eq one.category other.category) is in
    let class_and_side = and_parts (bytes_eq one.class_name other.class_name) (same_side one.side other.side) both.0 in
    let class = (bytes_decides one.class_name other.class_name).0 class_and_side.0 in
    let side = side_is one.side other.side class_and_side.1 in
    let category = (bytes_decides one.category other.category).0 both.1 in
    λ i. record { class_name = class i; side = side i; category = category i }

-- ---- items

abbrev pub section_at : Option SectionHead → Section
section_at None = sections.Top
section_at (Some head) = sections.Open head

-- an item of an input asks one thing
abbrev pub OneAsk : Type 0
OneAsk = (work : Work) (item : Item) (ask other : Ask) → AsksIn work (Chunk item) ask → AsksIn work (Chunk item) other → other ≡ ask

-- the work behind a change that was added
abbrev pub grown : Work → Change → Work
grown work change = record work { changes = work.changes ++ change ∷ [] }

-- what the other changes lead to from there is what they all lead to
pub one_longer : (rest : List SessionItem) (work : Work) (change : Change) (changes : List Change) → LeadsTo (grown work change) rest ((work.changes ++ change ∷ []) ++ changes) → LeadsTo (grown work change) rest (work.changes ++ change ∷ changes)
one_longer rest work change changes next = let P : List Change → Type 0 = λ l. LeadsTo (grown work change) rest l in subst P (append_assoc work.changes (change ∷ []) changes) next

-- nothing is left to work
pub no_items : (work : Work) (list : List Change) → work.changes ≡ list → LeadsTo work [] list
no_items work list is [] all = (is, tt)
no_items work list is (ask ∷ asks) all = absurd all

module _ (one : OneAsk) where
  step : (work : Work) (item : Item) (rest : List SessionItem) (expected : Ask) (list : List Change) → AsksIn work (Chunk item) expected → IsTaken work expected → LeadsTo (work_after work expected) rest list → LeadsTo work (Chunk item ∷ rest) list
  step work item rest expected list is taken next [] all = absurd all
  step work item rest expected list is taken next (ask ∷ asks) all =
      let same : ask ≡ expected = one work item expected ask is all.0 in
      let P : Ask → Type 0 = λ a. AllAsk (work_after work a) rest asks in
      let Q : Ask → Type 0 = λ a. IsTaken work a × AllTaken (work_after work a) asks in
      let behind = next asks (subst P same all.1) in
      (ap (λ a. list_after_all (work_after work a) asks) same ∙ behind.0, subst Q (sym same) (taken, behind.1))

  -- a section ends
  pub ends : (work : Work) (rest : List SessionItem) (list : List Change) → LeadsTo (record work { section = sections.Top }) rest list → LeadsTo work (Chunk items.SectionEnd ∷ rest) list
  ends work rest list next = step work items.SectionEnd rest closes list (refl, tt) refl next

  -- a form is added
  pub adds_form : (work : Work) (rest : List SessionItem) (form : AnyForm) (changes list : List Change) → CanAdd work.changes (Form form ∷ changes) → LeadsTo (record work { changes = work.changes ++ Form form ∷ [] }) rest list → LeadsTo work (Chunk (items.Plain (form_text form)) ∷ rest) list
  adds_form work rest form changes list can next =
      let text = has_text form (All-head IsLawful (Form form) changes can.lawful) in
      let fits : Fits (form_text form) = (text.tree, text.tree_is, form_fits text.tree form text.form_is.0) in
      let P : Result (List Change) Refusal → Type 0 = λ r. LeadsTo (record work { changes = list_or r work.changes }) rest list in
      let added = is_added work.changes changes (Form form) can in
      step work (items.Plain (form_text form)) rest (adds (Form form)) list ((fits, text), tt) (ap reply_to_adding added) (subst P (sym added) next)

  -- a section begins, of whose class there is one
  pub begins : (work : Work) (rest : List SessionItem) (m : MethodChange) (changes list : List Change) → CanAdd work.changes (Method m ∷ changes) → LeadsTo (record work { section = sections.Open (head_of m) }) rest list → LeadsTo work (Chunk (items.Head (head_text (head_of m))) ∷ rest) list
  begins work rest m changes list can next =
      let lawful = All-head IsLawful (Method m) changes can.lawful in
      let known = class_is_known m (state_of work.changes) can.accepted.0 in
      let P : Option Refusal → Type 0 = λ r. LeadsTo (record work { section = section_of (head_of m) r }) rest list in
      step work (items.Head (head_text (head_of m))) rest (opens (head_of m)) list (text_begins (head_of m) lawful.head, tt) (ap reply_to_head known) (subst P (sym known) next)

  -- a method is added in its section
  pub adds_method : (work : Work) (rest : List SessionItem) (m : MethodChange) (changes list : List Change) → work.section ≡ sections.Open (head_of m) → CanAdd work.changes (Method m ∷ changes) → LeadsTo (record work { changes = work.changes ++ Method m ∷ [] }) rest list → LeadsTo work (Chunk (items.Method m.source.text) ∷ rest) list
  adds_method work rest m changes list in_section can next =
      let lawful = All-head IsLawful (Method m) changes can.lawful in
      let P : Result (List Change) Refusal → Type 0 = λ r. LeadsTo (record work { changes = list_or r work.changes }) rest list in
      let Q : Section → Type 0 = λ s. LeadsTo (record work { changes = list_after_source work.changes s m.source }) rest list in
      let R : Section → Type 0 = λ s. reply_to_source work.changes s m.source ≡ Accepted in
      let added = is_added work.changes changes (Method m) can in
      step work (items.Method m.source.text) rest (adds_source m.source) list ((refl, lawful.check), tt) (subst R (sym in_section) (ap reply_to_adding added)) (subst Q (sym in_section) (subst P (sym added) next))

  -- ---- changes

  abbrev Leads : Option SectionHead → Work → List Change → List Change → Type 0
  Leads section work changes list = LeadsTo work (map Chunk (items_from section changes)) list

  in_a_section : (work : Work) (section : SectionHead) (m : MethodChange) (changes list : List Change) → CanAdd work.changes (Method m ∷ changes) → work.section ≡ sections.Open section → ((w : Work) → w.changes ≡ work.changes → w.section ≡ sections.Open (head_of m) → LeadsTo w (Chunk (items.Method m.source.text) ∷ map Chunk (items_from (Some (head_of m)) changes)) list)
      → (same : Bool) → is_same_head section (head_of m) ≡ same → LeadsTo work (map Chunk ((if same then [] else items.SectionEnd ∷ items.Head (head_text (head_of m)) ∷ []) ++ items.Method m.source.text ∷ items_from (Some (head_of m)) changes)) list
  in_a_section work section m changes list can in_section next true same = next work refl (in_section ∙ ap sections.Open (heads_same section (head_of m) same))
  in_a_section work section m changes list can in_section next false same =
      let source : List SessionItem = Chunk (items.Method m.source.text) ∷ map Chunk (items_from (Some (head_of m)) changes) in
      ends work (Chunk (items.Head (head_text (head_of m))) ∷ source) list (begins (record work { section = sections.Top }) source m changes list can (next (record work { section = sections.Open (head_of m) }) refl refl))

  -- none of the changes is a doIt
  all_added : (section : Option SectionHead) (work : Work) (changes : List Change) → work.section ≡ section_at section → All IsNoDoIt changes → CanAdd work.changes changes → Leads section work changes (work.changes ++ changes)
  all_added None work [] at none can = no_items work (work.changes ++ []) (sym (append-nil work.changes))
  all_added (Some head) work [] at none can = ends work [] (work.changes ++ []) (no_items (record work { section = sections.Top }) (work.changes ++ []) (sym (append-nil work.changes)))
  all_added section work (DoIt text ∷ changes) at none can = absurd (All-head IsNoDoIt (DoIt text) changes none)
  all_added None work (Form form ∷ changes) at none can =
      let rest : List SessionItem = map Chunk (items_from None changes) in
      let others = All-tail IsNoDoIt (Form form) changes none in
      adds_form work rest form changes _ can (one_longer rest work (Form form) changes (all_added None (grown work (Form form)) changes at others (can_more work.changes changes (Form form) can)))
  all_added (Some head) work (Form form ∷ changes) at none can =
      let top : Work = record work { section = sections.Top } in
      let rest : List SessionItem = map Chunk (items_from None changes) in
      let others = All-tail IsNoDoIt (Form form) changes none in
      ends work (Chunk (items.Plain (form_text form)) ∷ rest) _ (adds_form top rest form changes _ can (one_longer rest top (Form form) changes (all_added None (grown top (Form form)) changes refl others (can_more work.changes changes (Form form) can))))
  all_added None work (Method m ∷ changes) at none can =
      let inside : Work = record work { section = sections.Open (head_of m) } in
      let rest : List SessionItem = map Chunk (items_from (Some (head_of m)) changes) in
      let others = All-tail IsNoDoIt (Method m) changes none in
      begins work (Chunk (items.Method m.source.text) ∷ rest) m changes _ can
      (adds_method inside rest m changes _ refl can (one_longer rest inside (Method m) changes (all_added (Some (head_of m)) (grown inside (Method m)) changes refl others (can_more work.changes changes (Method m) can))))
  all_added (Some head) work (Method m ∷ changes) at none can =
      let rest : List SessionItem = map Chunk (items_from (Some (head_of m)) changes) in
      let others = All-tail IsNoDoIt (Method m) changes none in
      in_a_section work head m changes _ can at (λ w same_list inside.
      let Q : List Change → Type 0 = λ l. CanAdd l (Method m ∷ changes) in
      let can_there = subst Q (sym same_list) can in
      let P : List Change → Type 0 = λ l. LeadsTo w (Chunk (items.Method m.source.text) ∷ rest) (l ++ Method m ∷ changes) in
      subst P same_list (adds_method w rest m changes _ inside can_there (one_longer rest w (Method m) changes (all_added (Some (head_of m)) (grown w (Method m)) changes inside others (can_more w.changes changes (Method m) can_there)))))
      (is_same_head head (head_of m)) refl

  pub filed_in : (section : Option SectionHead) (work : Work) (changes : List Change) → work.section ≡ section_at section → CanFile work.changes changes → Leads section work changes (work.changes ++ changes)
  filed_in section work changes at can = all_added section work changes at can.no_doit (record { lawful = can.lawful; accepted = can.accepted; within = can.within })
