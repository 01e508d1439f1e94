-- Items at work, one by one.
use Rattle.std.proofs.Common.{◌≡◌, ◌∙◌, ◌++◌, ℕ, Bool, true, false, cond, refl, sym, ap, subst, List, [], ◌∷◌, Option, Some, None, Result, Ok, Err}
use Rattle.s80_change.specs.declared.change.Change.{Change}
use Rattle.s80_form.specs.declared.refusal.Refusal.{Refusal}
use Rattle.s80_form.specs.declared.refusal.Refused.{Refused}
use Rattle.s80_form.specs.declared.refusal.Refused.TheVariants as refused
use Rattle.s80_apply.specs.Accept.{accept, unknown_name}
use Rattle.s80_apply.specs.List.{state_after}
use Rattle.s80_apply.specs.State.{State}
use Rattle.s80_apply.specs.System.{IsSystemOf, SystemState}
use Rattle.s80_merge.specs.Work.{IsWorked}
use Rattle.s80_chunk.specs.declared.item.Role.{Role}
use Rattle.s80_chunk.specs.declared.item.Role.TheVariants as roles
use Rattle.s80_form.specs.declared.refusal.FitWord.TheVariants as fits
use Rattle.s80_form.specs.declared.refusal.Refusal.TheVariants as refusals
use Rattle.std.specs.FinMap as map
use Rattle.std.specs.Prelude.{MatchOption, is_some, if◌then◌else◌}
use Rattle.s80_tree.specs.declared.method.MethodTree.{MethodTree}
use Rattle.s80_syntax.specs.Faults.{IsDoItText}
use Rattle.s80_change.specs.declared.change.Change.TheVariants as changes
use Rattle.s80_change.specs.declared.change.Method.{Method}
use Rattle.s80_change.specs.declared.head.SectionHead.{SectionHead}
use Rattle.s80_change.specs.declared.head.HeadFault.TheVariants.{NoSection as NoHead}
use Rattle.s80_change.specs.Check.{IsSyntaxRefusal}
use Rattle.s80_change.specs.Head.{IsHeadFault}
use Rattle.s80_change.specs.Source.{SourceParts}
use Rattle.s80_class.specs.Classes.{Classes}
use Rattle.s80_apply.specs.System.{HasNumber}
use Rattle.s80_model.specs.Asked.{Ask, Asks, AsksMethod, AsksPlain, IsRefusedHead, adds_source, ask_of_too_long, evaluates, opens, refuses}
use Rattle.s80_model.specs.Plain.{IsPlain}
use Rattle.s80_model.specs.declared.plain.Plain.TheVariants as plain
use Rattle.s80_model.specs.Replies.{method_in}
use Rattle.s80_model.specs.declared.item.SessionItem.{SessionItem}
use Rattle.s80_model.specs.declared.section.Section.TheVariants as sections
use Rattle.s80_joining.specs.declared.given.Given.{Given}
use Rattle.s80_joining.specs.declared.given.Given.TheVariants.{Bad}
use Rattle.s80_joining.specs.declared.theirs.Theirs.{Theirs}
use Rattle.s80_joining.specs.Given.{HasCome}
use Rattle.s80_joining.specs.Theirs.{Become, Comes, ComesBy, HasTaken, IsAt, Takes, Worked, after_ask, after_change, after_source, begun_from, in_section, is_passed_over, refused_in, with_change}

-- ---- items, one more

-- more items become what their last makes of what is before it
pub become_more : (before : Result Worked Refusal) (items : List SessionItem) (item : SessionItem) (worked : Worked) (ask : Ask)
    → Become before items (Ok worked) → Asks item ask → (next : Result Worked Refusal) → after_ask worked ask ≡ next → Become before (items ++ item ∷ []) next
become_more (Err refusal) items item worked ask is asks next leads = absurd (let impossible : Ok worked ≡ Err refusal = is in cc)
become_more (Ok first) [] item worked ask is asks next leads =
    let same : worked ≡ first = let both : Ok worked ≡ Ok first = is in cc in
    (ask, asks, ended (after_ask first ask) next (sym leads ∙ ap (λ w. after_ask w ask) same))
  where
    ended : (made next : Result Worked Refusal) → next ≡ made → Become made [] next
    ended (Ok w) next is = is
    ended (Err refusal) next is = is
become_more (Ok first) (other ∷ items) item worked ask (asked, so, rest) asks next leads =
    (asked, so, become_more (after_ask first asked) items item worked ask rest asks next leads)

pub takes_one : (state : State) (items : List SessionItem) (item : SessionItem) (theirs now : Theirs) (result : Result (Unit {0}) Refused) → HasTaken theirs state items
    → ((worked : Worked) → IsAt theirs worked → ComesBy (Asks item) worked now result) → Takes now state (items ++ item ∷ []) result
takes_one state items item theirs now (Ok done) (worked, is, at) comes =
    let (ask, asks, (next, leads, here)) = comes worked at in
    (next, become_more (Ok (begun_from state)) items item worked ask is asks (Ok next) leads, here)
takes_one state items item theirs now (Err (refused.Refusal refusal)) (worked, is, at) comes =
    let (ask, asks, leads) = comes worked at in
    become_more (Ok (begun_from state)) items item worked ask is asks (Err refusal) leads
takes_one state items item theirs now (Err refused.Memory) taken comes = tt

-- behind a bad item nothing is worked
pub stays_bad : (before : Result Worked Refusal) (items more : List SessionItem) (refusal : Refusal) → Become before items (Err refusal) → Become before (items ++ more) (Err refusal)
stays_bad (Err other) items more refusal is = is
stays_bad (Ok worked) [] more refusal is = absurd (let impossible : Err refusal ≡ Ok worked = is in cc)
stays_bad (Ok worked) (item ∷ items) more refusal (ask, asks, rest) = (ask, asks, stays_bad (after_ask worked ask) items more refusal rest)

pub bad_stays : (given : Given) (refusal : Refusal) (state : State) (items : List SessionItem) (item : SessionItem) → given ≡ Bad refusal → HasCome given state items → HasCome given state (items ++ item ∷ [])
bad_stays given refusal state items item is come =
    subst (λ (g : Given). HasCome g state (items ++ item ∷ [])) (sym is) (stays_bad (Ok (begun_from state)) items (item ∷ []) refusal (subst (λ (g : Given). HasCome g state items) is come))

-- ---- what is asked

-- this is asked, and it comes so
pub by_ask : (AsksSo : Ask → Type 0) (worked : Worked) (ask : Ask) (now : Theirs) (result : Result (Unit {0}) Refused) → AsksSo ask → Comes (after_ask worked ask) now result → ComesBy AsksSo worked now result
by_ask AsksSo worked ask now (Ok done) asks comes = (ask, asks, comes)
by_ask AsksSo worked ask now (Err (refused.Refusal refusal)) asks comes = (ask, asks, comes)
by_ask AsksSo worked ask now (Err refused.Memory) asks comes = tt

-- ---- changes

-- a change that is passed over
pub passed : (worked : Worked) (change : Change) (now : Theirs) → true ≡ is_passed_over change → IsAt now worked → Comes (after_change worked change) now (Ok tt)
passed worked change now is at = (worked, ap (λ (b : Bool). cond b (Ok worked) (with_change worked change (accept change worked.state))) (sym is), at)

-- one that isn't, and is worked
pub worked_on : (worked : Worked) (change : Change) (theirs now : Theirs) → is_passed_over change ≡ false → IsAt theirs worked → IsWorked worked.state change now.system (Ok tt)
    → now.section ≡ theirs.section → now.changes ≡ theirs.changes ++ change ∷ [] → Comes (after_change worked change) now (Ok tt)
worked_on worked change theirs now is at (accepted, made) section changes =
    let next : Worked = record worked { changes = worked.changes ++ change ∷ []; state = state_after change worked.state } in
    let here : IsAt now next = record { made = made; section = section ∙ at.section; changes = changes ∙ ap (λ cs. cs ++ change ∷ []) at.changes } in
    (next, ap (λ (b : Bool). cond b (Ok worked) (with_change worked change (accept change worked.state))) is ∙ ap (with_change worked change) accepted, here)

pub refused_change : (worked : Worked) (change : Change) (system : SystemState) (now : Theirs) (why : Refused) → is_passed_over change ≡ false
    → IsWorked worked.state change system (Err why) → Comes (after_change worked change) now (Err why)
refused_change worked change system now (refused.Refusal refusal) is (accepted, stays) =
    ap (λ (b : Bool). cond b (Ok worked) (with_change worked change (accept change worked.state))) is ∙ ap (with_change worked change) accepted
refused_change worked change system now refused.Memory is worked_so = tt

-- ---- texts that are too long

-- outside an open section a method is passed over
pub long_outside : (worked : Worked) (role : Role) (n : ℕ) (theirs : Theirs) → role ≡ roles.Method → ((refusal : Refusal) → refused_in worked worked.section refusal ≡ Ok worked) → IsAt theirs worked
    → Comes (after_ask worked (ask_of_too_long role n)) theirs (Ok tt)
long_outside worked role n theirs is outside at = (worked, ap (λ r. after_ask worked (ask_of_too_long r n)) is ∙ outside (refusals.TooLarge fits.Chunk n), at)

-- ---- plain texts

pub plain_refused : (text : List ℕ) (worked : Worked) (now : Theirs) (why : Refused) → IsPlain text (Err why) → ComesBy (AsksPlain text) worked now (Err why)
plain_refused text worked now (refused.Refusal refusal) is = (refuses refusal, is, refl)
plain_refused text worked now refused.Memory is = tt

-- a doIt is passed over, whatever it would be told
pub plain_evaluated : (text own : List ℕ) (method : MethodTree) (worked : Worked) (now : Theirs) → IsPlain text (Ok (plain.Evaluate own method)) → IsAt now worked → ComesBy (AsksPlain text) worked now (Ok tt)
plain_evaluated text own method worked now (same, is, evaluated) at = (evaluates own [] false, ((is.tree, is.tree_is, is.fits), same, evaluated), (worked, refl, at))

-- ---- heads

pub syntax_refused : (text : List ℕ) (refusal : Refusal) → IsSyntaxRefusal IsDoItText text refusal → IsRefusedHead text refusal
syntax_refused text (refusals.NoSection own) h = absurd h
syntax_refused text (refusals.Syntax kind place) h = h
syntax_refused text refusals.Unended h = h
syntax_refused text (refusals.TooLarge _ _) h = h
syntax_refused text (refusals.UnknownClass _) h = h
syntax_refused text (refusals.KernelClass _) h = h
syntax_refused text (refusals.HasSubclasses _) h = h
syntax_refused text (refusals.Cycle _) h = h
syntax_refused text (refusals.Duplicate _) h = h
syntax_refused text (refusals.BadName _) h = h
syntax_refused text (refusals.NoSelector _ _ _) h = h
syntax_refused text (refusals.TooMany _ _) h = h
syntax_refused text (refusals.LogFull _) h = h

pub no_head : (text : List ℕ) → IsHeadFault text NoHead → IsRefusedHead text (refusals.NoSection text)
no_head text h = (refl, h.0, h.1)

-- a class that is found is there
found_there : (system : SystemState) (name : List ℕ) (found : Option ℕ) → MatchOption found (map.get system.table.classes name ≡ None) (HasNumber system name) → is_some found ≡ true
    → unknown_name name system.table.classes ≡ None
found_there system name None is some = absurd (let impossible : false ≡ true = some in cc)
found_there system name (Some number) is some =
    ap (λ (o : Option _). if is_some o then None else Some (refusals.UnknownClass name)) is.there.1

pub opened : (worked : Worked) (head : SectionHead) (theirs : Theirs) (found : Option ℕ) → MatchOption found (map.get theirs.system.table.classes head.class_name ≡ None) (HasNumber theirs.system head.class_name)
    → is_some found ≡ true → IsAt theirs worked → Comes (after_ask worked (opens head)) (record theirs { section = sections.Open head }) (Ok tt)
opened worked head theirs found is some at =
    let there : unknown_name head.class_name worked.state.classes ≡ None =
    sym (ap (λ (c : Classes). unknown_name head.class_name c) at.made.classes) ∙ found_there theirs.system head.class_name found is some in
    (record worked { section = sections.Open head }, ap (in_section worked head) there, record { made = at.made; section = refl; changes = at.changes })

-- ---- methods

pub by_method : (text : List ℕ) (source : SourceParts) (head : SectionHead) (method : Method) (worked : Worked) (theirs now : Theirs) (result : Result (Unit {0}) Refused) → AsksMethod text (adds_source source)
    → theirs.section ≡ sections.Open head → changes.Method method ≡ method_in head source → IsAt theirs worked → Comes (after_change worked (changes.Method method)) now result
    → ComesBy (AsksMethod text) worked now result
by_method text source head method worked theirs now result asks open_in is at comes =
    let same : after_change worked (changes.Method method) ≡ after_source worked worked.section source =
    ap (after_change worked) is ∙ sym (ap (λ s. after_source worked s source) (sym at.section ∙ open_in)) in
    by_ask (AsksMethod text) worked (adds_source source) now result asks (subst (λ next. Comes next now result) same comes)

-- outside an open section it is passed over
pub method_outside : (text : List ℕ) (source : SourceParts) (worked : Worked) (now : Theirs) → AsksMethod text (adds_source source) → after_source worked worked.section source ≡ Ok worked → IsAt now worked
    → ComesBy (AsksMethod text) worked now (Ok tt)
method_outside text source worked now asks outside at = (adds_source source, asks, (worked, outside, at))

-- ---- before the first item

pub none_taken : (theirs : Theirs) (state : State) → IsSystemOf theirs.system state → theirs.section ≡ sections.Top → theirs.changes ≡ [] → HasTaken theirs state []
none_taken theirs state made section changes = (begun_from state, refl, record { made = made; section = section; changes = changes })
