-- Heads that are refused, and texts that are too long.
use Rattle.std.proofs.Common.{◌≡◌, ℕ, List, refl, ap, Some}
use Rattle.s80_chunk.specs.declared.item.Role.{Role}
use Rattle.s80_chunk.specs.declared.item.Role.TheVariants as roles
use Rattle.s80_tree.specs.Tree.{DoItParts}
use Rattle.s80_syntax.specs.Faults.{IsDoItText}
use Rattle.s80_syntax.specs.Text.{IsDoItOf}
use Rattle.s80_form.specs.declared.refusal.Refusal.{Refusal}
use Rattle.s80_form.specs.declared.refusal.Refusal.TheVariants as refusals
use Rattle.s80_change.specs.declared.head.SectionHead.{SectionHead}
use Rattle.s80_change.specs.Check.{IsSyntaxRefusal}
use Rattle.s80_change.specs.Head.{IsHeadOf}
use Rattle.s80_model.specs.declared.reply.Answer.{Answer}
use Rattle.s80_model.specs.declared.reply.Reply.TheVariants.{Refused}
use Rattle.s80_model.specs.declared.section.Section.TheVariants as sections
use Rattle.s80_model.specs.Asked.{Ask, refuses_head, AsksHead, IsRefusedHead, ask_of_too_long}
use Rattle.s80_model.specs.Replies.{IsAnswer, Work, work_after}
use Rattle.s80_model.specs.Section.{section_or}

-- ---- heads that are refused by themselves

syntax_refused : (text : List ℕ) (refusal : Refusal) → IsSyntaxRefusal IsDoItText text refusal → IsRefusedHead text refusal
syntax_refused text (refusals.NoSection own) h = absurd h
syntax_refused text (refusals.Syntax kind place) h = h
syntax_refused text refusals.Unended h = h
syntax_refused text (refusals.TooLarge _ _) h = h
syntax_refused text (refusals.UnknownClass _) h = h
syntax_refused text (refusals.KernelClass _) h = h
syntax_refused text (refusals.HasSubclasses _) h = h
syntax_refused text (refusals.Cycle _) h = h
syntax_refused text (refusals.Duplicate _) h = h
syntax_refused text (refusals.BadName _) h = h
syntax_refused text (refusals.NoSelector _ _ _) h = h
syntax_refused text (refusals.TooMany _ _) h = h
syntax_refused text (refusals.LogFull _) h = h

-- what a refused head is answered
refused_so : (work : Work) (text : List ℕ) (refusal : Refusal) (answer : Answer) → IsRefusedHead text refusal → answer ≡ record { reply = Refused refusal; section = Some sections.Refused }
    → (ask : Ask) × AsksHead text ask × IsAnswer work ask answer
refused_so work text refusal answer refused is = (refuses_head refusal, refused, (ap (λ (a : Answer). a.reply) is, ap (λ (a : Answer). section_or a.section work.section) is))

pub no_doit : (work : Work) (text : List ℕ) (refusal : Refusal) (answer : Answer) → IsSyntaxRefusal IsDoItText text refusal → answer ≡ record { reply = Refused refusal; section = Some sections.Refused }
    → (ask : Ask) × AsksHead text ask × IsAnswer work ask answer
no_doit work text refusal answer h is = refused_so work text refusal answer (syntax_refused text refusal h) is

pub no_head : (work : Work) (text : List ℕ) (answer : Answer) → ((tree : DoItParts) × IsDoItOf text tree) × ((head : SectionHead) → IsHeadOf text head → ⊥) → answer ≡ record { reply = Refused (refusals.NoSection text); section = Some sections.Refused }
    → (ask : Ask) × AsksHead text ask × IsAnswer work ask answer
no_head work text answer h is = refused_so work text (refusals.NoSection text) answer (refl, h.0, h.1) is

-- ---- texts that are too long

pub too_long_stays : (work : Work) (role : Role) (n : ℕ) → (work_after work (ask_of_too_long role n)).changes ≡ work.changes
too_long_stays work roles.Plain n = refl
too_long_stays work roles.Head n = refl
too_long_stays work roles.Method n = refl
