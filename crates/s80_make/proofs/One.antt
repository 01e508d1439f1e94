-- What is asked of generated input is one list, and so is what its replies come to.
use Rattle.std.proofs.Common.{All, ◌≡◌, ◌∙◌, ℕ, ℤ, Bool, List, [], ◌∷◌, map, sym, ap, subst, Option, Result, Ok, Err}
use Rattle.std.proofs.lemmas.List.Elements.{All-push}
use Rattle.s80_form.specs.declared.refusal.Refusal.{Refusal}
use Rattle.s80_change.specs.declared.change.Change.{Change}
use Rattle.s80_change.specs.declared.change.Change.TheVariants.{DoIt}
use Rattle.s80_apply.specs.List.{add, state_of}
use Rattle.s80_doit.specs.Answer.{AnswersSmall}
use Rattle.s80_model.specs.declared.item.Query.TheVariants.{Condense}
use Rattle.s80_model.specs.declared.item.SessionItem.{SessionItem}
use Rattle.s80_model.specs.declared.item.SessionItem.TheVariants.{Chunk, Query}
use Rattle.s80_model.specs.Asked.{Ask, IsTimed, refuses, adds, evaluates, condenses, opens, refuses_head, adds_source, refuses_source, closes, tells, files, seeks}
use Rattle.s80_model.specs.Replies.{AllAsk, Work, work_after}
use Rattle.s80_model.specs.Settings.{Settings}
use Rattle.s80_model.proofs.lemmas.Timed.{chunks_timed}
use Rattle.s80_make.specs.declared.tally.Tally.{Tally}
use Rattle.s80_make.specs.Items.{classes_items, make_items}
use Rattle.s80_make.specs.Tally.{Counts, CountsAdded, CountsAll, with_doit}

-- in the state of a list a doIt answers one SmallInteger, or none
abbrev pub OneSmall : Type 0
OneSmall = (changes : List Change) (text : List ℕ) (budget : ℕ) (told other : List ℕ) (stopped also : Bool) (small another : Option ℤ)
    → AnswersSmall (state_of changes) text budget told stopped small → AnswersSmall (state_of changes) text budget other also another → another ≡ small

-- items ask one list, where the clock is told to those that file out
abbrev pub OneList : Type 0
OneList = (work : Work) (items : List SessionItem) (asks others : List Ask) → All (IsTimed work.settings) items → AllAsk work items asks → AllAsk work items others → others ≡ asks

added_once : OneSmall → (r : Result (List Change) Refusal) (text : List ℕ) (settings : Settings) (told : List ℕ) (stopped : Bool) (before now other : Tally) → CountsAdded r text settings told stopped before now → CountsAdded r text settings told stopped before other
    → other ≡ now
added_once law (Ok changes) text settings told stopped before now other (small, answers, is) (another, also, are) =
    are ∙ ap (λ (s : Option ℤ). with_doit stopped s before) (law changes text settings.budget told told stopped stopped small another answers also) ∙ sym is
added_once law (Err refusal) text settings told stopped before now other is are = are ∙ sym is

counted_once : OneSmall → (work : Work) (ask : Ask) (before now other : Tally) → Counts work ask before now → Counts work ask before other → other ≡ now
counted_once law work (evaluates text told stopped) before now other is are = added_once law (add work.changes (DoIt text)) text work.settings told stopped before now other is are
counted_once law work (refuses refusal) before now other is are = are ∙ sym is
counted_once law work (adds change) before now other is are = are ∙ sym is
counted_once law work condenses before now other is are = are ∙ sym is
counted_once law work (opens head) before now other is are = are ∙ sym is
counted_once law work (refuses_head refusal) before now other is are = are ∙ sym is
counted_once law work (adds_source source) before now other is are = are ∙ sym is
counted_once law work (refuses_source refusal) before now other is are = are ∙ sym is
counted_once law work closes before now other is are = are ∙ sym is
counted_once law work (tells query) before now other is are = are ∙ sym is
counted_once law work (files filed moment) before now other is are = are ∙ sym is
counted_once law work (seeks query lines) before now other is are = are ∙ sym is

pub all_counted_once : OneSmall → (work : Work) (asks : List Ask) (before now other : Tally) → CountsAll work asks before now → CountsAll work asks before other → other ≡ now
all_counted_once law work [] before now other is are = are ∙ sym is
all_counted_once law work (ask ∷ asks) before now other (mid, counts, all) (again, also, others) =
    let P : Tally → Type 0 = λ t. CountsAll (work_after work ask) asks t other in
    all_counted_once law (work_after work ask) asks mid now other all (subst P (counted_once law work ask before mid again counts also) others)

pub one_list : OneList → (work : Work) (count : ℕ) (asks others : List Ask) → AllAsk work (make_items count) asks → AllAsk work (make_items count) others → others ≡ asks
one_list law work count asks others =
    law work (make_items count) asks others
    (All-push (IsTimed work.settings) (map Chunk (classes_items count)) (Query Condense) (chunks_timed work.settings (classes_items count)) tt)
