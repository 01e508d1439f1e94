-- The changes that are worked from the state of a list are lawful.
use Rattle.std.proofs.Common.{All, ◌≡◌, ◌≤◌, ◌∙◌, ◌++◌, ℕ, Bool, true, false, cond, refl, sym, ap, subst, List, [], ◌∷◌, length, Option, Some, None, Result, Ok, Err, append_assoc, append-nil}
use Rattle.std.specs.Prelude.{⊤}
use Rattle.std.proofs.lemmas.List.Elements.{All-head, All-nil, All-push, All-tail}
use Rattle.s80_chunk.specs.Chunks.{IsChunkText, longest}
use Rattle.s80_chunk.specs.declared.item.Item.TheVariants as items
use Rattle.s80_chunk.specs.declared.item.Role.{Role}
use Rattle.s80_chunk.specs.declared.item.Role.TheVariants as roles
use Rattle.s80_form.specs.declared.refusal.FitWord.TheVariants as fits
use Rattle.s80_form.specs.declared.refusal.Refusal.{Refusal}
use Rattle.s80_form.specs.declared.refusal.Refusal.TheVariants.{TooLarge}
use Rattle.s80_change.specs.declared.change.Change.{Change}
use Rattle.s80_change.specs.declared.change.Change.TheVariants.{Form, Method, DoIt}
use Rattle.s80_change.specs.declared.head.SectionHead.{SectionHead}
use Rattle.s80_change.specs.Block.{IsLawful}
use Rattle.s80_change.specs.Source.{SourceParts}
use Rattle.s80_apply.specs.Accept.{accept, unknown_name}
use Rattle.s80_apply.specs.List.{IsAccepted, classes_of, state_after, state_of}
use Rattle.s80_apply.specs.Named.{AreNamed}
use Rattle.s80_apply.specs.State.{State}
use Rattle.s80_apply.proofs.lemmas.Lists.{is_accepted, is_after, state_more}
use Rattle.s80_model.specs.declared.item.SessionItem.{SessionItem}
use Rattle.s80_model.specs.declared.item.SessionItem.TheVariants.{Chunk, Query, Unended}
use Rattle.s80_model.specs.declared.section.Section.{Section}
use Rattle.s80_model.specs.declared.section.Section.TheVariants as sections
use Rattle.s80_model.specs.Asked.{Ask, Asks, AsksHead, AsksMethod, AsksPlain, IsKeptAs, adds, adds_source, ask_of_too_long, closes, condenses, evaluates, files, opens, refuses, refuses_head, refuses_source, seeks, tells}
use Rattle.s80_model.specs.Replies.{method_in}
use Rattle.s80_model.specs.Section.{IsBriefSection}
use Rattle.s80_joining.specs.declared.theirs.Theirs.{Theirs}
use Rattle.s80_joining.specs.Theirs.{AreWorked, Become, HasTaken, IsGiven, Worked, after_ask, after_change, after_source, begun_from, in_section, is_passed_over, refused_in, with_change}
use Rattle.s80_joining.proofs.LawfulForms.{form_lawful, source_lawful}

-- behind a list: the work makes the state of both, its changes are lawful, and the head of its section is brief
record IsLawfulWork (list : List Change) (worked : Worked) : Type 0 where
  pub state_is : worked.state ≡ state_of (list ++ worked.changes)
  pub lawful : All IsLawful worked.changes
  pub brief : IsBriefSection worked.section

abbrev IfLawful : List Change → Result Worked Refusal → Type 0
IfLawful list (Ok worked) = IsLawfulWork list worked
IfLawful list (Err refusal) = ⊤

-- the law of the classes of lists
abbrev pub ClassesNamed : Type 0
ClassesNamed = (changes : List Change) → AreNamed (classes_of changes)

-- ---- one item

module _ (law : ClassesNamed) (list : List Change) (worked : Worked) (so : IsLawfulWork list worked) where
  named : AreNamed worked.state.classes
  named = subst (λ (s : State). AreNamed s.classes) (sym so.state_is) (law (list ++ worked.changes))

  -- a change that is lawful where it is accepted
  change_worked : (change : Change) → (IsAccepted (accept change worked.state) → IsLawful change) → (answer : Result State Refusal) → accept change worked.state ≡ answer
      → IfLawful list (with_change worked change answer)
  change_worked change lawful (Err refusal) is = tt
  change_worked change lawful (Ok now) is = record {
    state_is = is_after (accept change worked.state) worked.state now is ∙ ap (state_after change) so.state_is ∙ sym (state_more (list ++ worked.changes) change) ∙ ap state_of (append_assoc list worked.changes (change ∷ []));
    lawful = All-push IsLawful worked.changes change so.lawful (lawful (is_accepted (accept change worked.state) now is));
    brief = so.brief;
  }

  change_passed : (change : Change) → (IsAccepted (accept change worked.state) → IsLawful change) → (passed : Bool) → IfLawful list (cond passed (Ok worked) (with_change worked change (accept change worked.state)))
  change_passed change lawful true = so
  change_passed change lawful false = change_worked change lawful (accept change worked.state) refl

  -- a doIt is passed over
  plain_added : (text : List ℕ) (change : Change) → IsKeptAs text change → IfLawful list (after_change worked change)
  plain_added text (Form form) is = change_passed (Form form) (form_lawful text form worked.state named is) (is_passed_over (Form form))
  plain_added text (Method m) is = absurd is
  plain_added text (DoIt own) is = so

  plain_worked : (text : List ℕ) (ask : Ask) → AsksPlain text ask → IfLawful list (after_ask worked ask)
  plain_worked text (refuses refusal) h = tt
  plain_worked text (adds change) h = plain_added text change h.1
  plain_worked text (evaluates own told stopped) h = so
  plain_worked text condenses h = so
  plain_worked text (opens head) h = absurd h
  plain_worked text (refuses_head refusal) h = absurd h
  plain_worked text (adds_source source) h = absurd h
  plain_worked text (refuses_source refusal) h = absurd h
  plain_worked text closes h = absurd h
  plain_worked text (tells query) h = absurd h
  plain_worked text (files filed moment) h = absurd h
  plain_worked text (seeks query lines) h = absurd h

  -- in another section
  moved : (section : Section) → IsBriefSection section → IsLawfulWork list (record worked { section = section })
  moved section brief = record { state_is = so.state_is; lawful = so.lawful; brief = brief }

  head_opened : (head : SectionHead) → IsBriefSection (sections.Open head) → (why : Option Refusal) → IfLawful list (in_section worked head why)
  head_opened head brief None = moved (sections.Open head) brief
  head_opened head brief (Some refusal) = tt

  head_worked : (text : List ℕ) (ask : Ask) → AsksHead text ask → IfLawful list (after_ask worked ask)
  head_worked text (refuses refusal) h = absurd h
  head_worked text (adds change) h = absurd h
  head_worked text (evaluates own told stopped) h = absurd h
  head_worked text condenses h = absurd h
  head_worked text (opens head) h = head_opened head h.head_is.brief (unknown_name head.class_name worked.state.classes)
  head_worked text (refuses_head refusal) h = tt
  head_worked text (adds_source source) h = absurd h
  head_worked text (refuses_source refusal) h = absurd h
  head_worked text closes h = absurd h
  head_worked text (tells query) h = absurd h
  head_worked text (files filed moment) h = absurd h
  head_worked text (seeks query lines) h = absurd h

  refused_worked : (section : Section) (refusal : Refusal) → IfLawful list (refused_in worked section refusal)
  refused_worked (sections.Open head) refusal = tt
  refused_worked sections.Top refusal = so
  refused_worked sections.Refused refusal = so

  module _ (text : List ℕ) (chunk : IsChunkText text) (short : length text ≤ longest) where
    source_worked : (source : SourceParts) → AsksMethod text (adds_source source) → (section : Section) → IsBriefSection section → IfLawful list (after_source worked section source)
    source_worked source asks (sections.Open head) brief =
        change_passed (method_in head source) (source_lawful text head source worked.state named brief asks chunk short) (is_passed_over (method_in head source))
    source_worked source asks sections.Top brief = so
    source_worked source asks sections.Refused brief = so

    method_worked : (ask : Ask) → AsksMethod text ask → IfLawful list (after_ask worked ask)
    method_worked (refuses refusal) h = absurd h
    method_worked (adds change) h = absurd h
    method_worked (evaluates own told stopped) h = absurd h
    method_worked condenses h = absurd h
    method_worked (opens head) h = absurd h
    method_worked (refuses_head refusal) h = absurd h
    method_worked (adds_source source) h = source_worked source h worked.section so.brief
    method_worked (refuses_source refusal) h = absurd h
    method_worked closes h = absurd h
    method_worked (tells query) h = absurd h
    method_worked (files filed moment) h = absurd h
    method_worked (seeks query lines) h = absurd h

  too_long_worked : (role : Role) (n : ℕ) → IfLawful list (after_ask worked (ask_of_too_long role n))
  too_long_worked roles.Plain n = tt
  too_long_worked roles.Head n = tt
  too_long_worked roles.Method n = refused_worked worked.section (TooLarge fits.Chunk n)

  item_worked : (item : SessionItem) (ask : Ask) → IsGiven item → Asks item ask → IfLawful list (after_ask worked ask)
  item_worked (Chunk (items.Plain text)) ask given h = plain_worked text ask h
  item_worked (Chunk (items.Head text)) ask given h = head_worked text ask h
  item_worked (Chunk (items.Method text)) ask given h = method_worked text given.0 given.1 ask h
  item_worked (Chunk items.SectionEnd) ask given h = subst (λ a. IfLawful list (after_ask worked a)) (sym h) (moved sections.Top tt)
  item_worked (Chunk (items.TooLong role n)) ask given h = subst (λ a. IfLawful list (after_ask worked a)) (sym h) (too_long_worked role n)
  item_worked Unended ask given h = subst (λ a. IfLawful list (after_ask worked a)) (sym h) tt
  item_worked (Query query) ask given h = absurd given

-- ---- items

items_worked : ClassesNamed → (list : List Change) (before : Result Worked Refusal) (items : List SessionItem) (worked : Worked) → All IsGiven items → IfLawful list before → Become before items (Ok worked) → All IsLawful worked.changes
items_worked law list (Err refusal) items worked given so is = absurd (let impossible : Ok worked ≡ Err refusal = is in cc)
items_worked law list (Ok first) [] worked given so is =
    let same : first ≡ worked = let both : Ok worked ≡ Ok first = is in cc in
    subst (λ (w : Worked). All IsLawful w.changes) same so.lawful
items_worked law list (Ok first) (item ∷ items) worked given so (ask, asks, rest) =
    items_worked law list (after_ask first ask) items worked (All-tail IsGiven item items given) (item_worked law list first so item ask (All-head IsGiven item items given) asks) rest

theirs_lawful : ClassesNamed → (list : List Change) (items : List SessionItem) (worked : Worked) → All IsGiven items → AreWorked (state_of list) items (Ok worked) → All IsLawful worked.changes
theirs_lawful law list items worked given is =
    let begins : IsLawfulWork list (begun_from (state_of list)) = record { state_is = ap state_of (sym (append-nil list)); lawful = All-nil IsLawful; brief = tt } in
    items_worked law list (Ok (begun_from (state_of list))) items worked given begins is

pub taken_lawful : ClassesNamed → (list : List Change) (items : List SessionItem) (theirs : Theirs) → All IsGiven items → HasTaken theirs (state_of list) items → All IsLawful theirs.changes
taken_lawful law list items theirs given (worked, is, at) = subst (All IsLawful) (sym at.changes) (theirs_lawful law list items worked given is)
