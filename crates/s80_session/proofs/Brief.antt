-- The section behind what an item asks is brief.
use Rattle.std.proofs.Common.{◌≡◌, inl, inr, ℕ, Option, Some, None}
use Rattle.s80_chunk.specs.declared.item.Item.TheVariants as items
use Rattle.s80_chunk.specs.declared.item.Role.{Role}
use Rattle.s80_chunk.specs.declared.item.Role.TheVariants as roles
use Rattle.s80_form.specs.declared.refusal.Refusal.{Refusal}
use Rattle.s80_change.specs.Head.{IsBriefHead}
use Rattle.s80_change.specs.declared.head.SectionHead.{SectionHead}
use Rattle.s80_model.specs.declared.item.Query.{Query as SessionQuery}
use Rattle.s80_model.specs.declared.item.Query.TheVariants as queries
use Rattle.s80_model.specs.declared.item.SessionItem.{SessionItem}
use Rattle.s80_model.specs.declared.item.SessionItem.TheVariants.{Chunk, Unended, Query}
use Rattle.s80_model.specs.Asked.{Ask, Asks, refuses, adds, evaluates, condenses, opens, refuses_head, adds_source, refuses_source, closes, tells, files, seeks, ask_of_too_long, AsksQuery}
use Rattle.s80_model.specs.Replies.{Work, refusal_of_head, section_of, work_after}
use Rattle.s80_model.specs.Section.{IsBriefSection}

no_opening : (role : Role) (n : ℕ) (head : SectionHead) → opens head ≡ ask_of_too_long role n → ⊥
no_opening roles.Plain n head e = cc
no_opening roles.Head n head e = cc
no_opening roles.Method n head e = cc

no_question : (query : SessionQuery) (head : SectionHead) → AsksQuery query (opens head) → ⊥
no_question queries.Recover head e = cc
no_question queries.Classes head e = cc
no_question (queries.Browse name) head e = cc
no_question (queries.Source spec selector) head e = cc
no_question (queries.Versions spec selector) head e = cc
no_question queries.Changes head e = cc
no_question (queries.FileOut filed) head (moment, e) = cc
no_question (queries.Senders selector) head (inl (suits, (lines, e))) = cc
no_question (queries.Senders selector) head (inr (fails, e)) = cc
no_question (queries.Implementors selector) head (inl (suits, (lines, e))) = cc
no_question (queries.Implementors selector) head (inr (fails, e)) = cc
no_question (queries.References name) head (inl (suits, (lines, e))) = cc
no_question (queries.References name) head (inr (fails, e)) = cc
no_question queries.Undeclared head (lines, e) = cc
no_question queries.Unimplemented head (lines, e) = cc
no_question queries.Unsent head (lines, e) = cc
no_question queries.Snapshot head e = cc
no_question queries.Condense head e = cc

-- a head that a text is has the name and the category of its tree
brief_head : (item : SessionItem) (head : SectionHead) → Asks item (opens head) → IsBriefHead head
brief_head (Chunk (items.Head text)) head asks = asks.head_is.brief
brief_head (Chunk (items.Plain text)) head asks = absurd asks
brief_head (Chunk (items.Method text)) head asks = absurd asks
brief_head (Chunk items.SectionEnd) head asks = absurd (cc)
brief_head (Chunk (items.TooLong role n)) head asks = absurd (no_opening role n head asks)
brief_head Unended head asks = absurd (cc)
brief_head (Query query) head asks = absurd (no_question query head asks)

opened : (head : SectionHead) (refusal : Option Refusal) → IsBriefHead head → IsBriefSection (section_of head refusal)
opened head None brief = brief
opened head (Some refusal) brief = tt

pub brief_after : (work : Work) (item : SessionItem) (ask : Ask) → Asks item ask → IsBriefSection work.section → IsBriefSection (work_after work ask).section
brief_after work item (opens head) asks brief = opened head (refusal_of_head work.changes head) (brief_head item head asks)
brief_after work item (refuses_head refusal) asks brief = tt
brief_after work item closes asks brief = tt
brief_after work item (refuses refusal) asks brief = brief
brief_after work item (adds change) asks brief = brief
brief_after work item (evaluates text told stopped) asks brief = brief
brief_after work item condenses asks brief = brief
brief_after work item (adds_source source) asks brief = brief
brief_after work item (refuses_source refusal) asks brief = brief
brief_after work item (tells query) asks brief = brief
brief_after work item (files filed moment) asks brief = brief
brief_after work item (seeks query lines) asks brief = brief
