-- Changes that are added one by one.
use Rattle.std.proofs.Common.{◌≡◌, ◌∙◌, ◌++◌, ◌||◌, refl, sym, subst, List, [], ◌∷◌, length, append_assoc, append-nil, Option, Some, None, is_some, Result, Ok, Err}
use Rattle.s80_change.specs.declared.change.Change.{Change}
use Rattle.s80_form.specs.declared.refusal.Refusal.{Refusal}
use Rattle.s80_apply.specs.List.{add, added, refusal_to, state_of}
use Rattle.s80_change.specs.Block.{blocks}
use Rattle.s80_model.specs.Asked.{Ask}
use Rattle.s80_model.specs.Replies.{Work, any_trouble, is_trouble as is_refused, list_after_all, list_or, reply_to_adding}
use Rattle.s80_joining.specs.Outcome.{Joined, asks_behind, joined, joining_asks, with_joined}

-- what is added stands at the end
at_end : (list : List Change) (change : Change) (why : Option Refusal) (now : List Change) → added why (list ++ change ∷ []) ≡ Ok now → list ++ change ∷ [] ≡ now
at_end list change None now is = cc is
at_end list change (Some refusal) now is = absurd (cc is)

module _ (work : Work) (change : Change) (asks : List Ask) (rest : Joined) where
  -- the work with a change more
  abbrev more : List Change → Work
  more list = record work { changes = list }

  list_on : (answer : Result (List Change) Refusal) → ((now : List Change) → answer ≡ Ok now → work.changes ++ change ∷ [] ≡ now)
      → list_after_all (more (work.changes ++ change ∷ [])) asks ≡ (work.changes ++ change ∷ []) ++ rest.changes
      → list_after_all (more (list_or answer work.changes)) (asks_behind answer asks) ≡ work.changes ++ (with_joined change answer rest).changes
  list_on (Ok now) ends is =
      subst (λ l. list_after_all (more l) asks ≡ work.changes ++ (change ∷ rest.changes)) (ends now refl) (is ∙ append_assoc work.changes (change ∷ []) rest.changes)
  list_on (Err refusal) ends is = sym (append-nil work.changes)

  trouble_on : (answer : Result (List Change) Refusal) → ((now : List Change) → answer ≡ Ok now → work.changes ++ change ∷ [] ≡ now)
      → any_trouble (more (work.changes ++ change ∷ [])) asks ≡ is_some rest.refusal
      → (is_refused (reply_to_adding answer) || any_trouble (more (list_or answer work.changes)) (asks_behind answer asks)) ≡ is_some (with_joined change answer rest).refusal
  trouble_on (Ok now) ends is = subst (λ l. any_trouble (more l) asks ≡ is_some rest.refusal) (ends now refl) is
  trouble_on (Err refusal) ends is = refl

-- the list behind all that is asked is that with those that are accepted
pub list_joined : (work : Work) (changes : List Change) → list_after_all work (joining_asks work.changes changes) ≡ work.changes ++ (joined work.changes changes).changes
list_joined work [] = sym (append-nil work.changes)
list_joined work (change ∷ changes) =
    let list : List Change = work.changes ++ change ∷ [] in
    list_on work change (joining_asks list changes) (joined list changes) (add work.changes change)
    (λ now is. at_end work.changes change (refusal_to (state_of work.changes) (length (blocks work.changes)) change) now is) (list_joined (record work { changes = list }) changes)

-- something of it is refused where one of them is
pub trouble_joined : (work : Work) (changes : List Change) → any_trouble work (joining_asks work.changes changes) ≡ is_some (joined work.changes changes).refusal
trouble_joined work [] = refl
trouble_joined work (change ∷ changes) =
    let list : List Change = work.changes ++ change ∷ [] in
    trouble_on work change (joining_asks list changes) (joined list changes) (add work.changes change)
    (λ now is. at_end work.changes change (refusal_to (state_of work.changes) (length (blocks work.changes)) change) now is) (trouble_joined (record work { changes = list }) changes)
