-- What first items ask is the front of what all of them ask.
use Rattle.std.proofs.Common.{All, ◌≡◌, List, [], ◌∷◌, ◌++◌, refl, ap, ◌∙◌}
use Rattle.s80_model.specs.declared.item.SessionItem.{SessionItem}
use Rattle.s80_model.specs.Asked.{Ask, IsTimed}
use Rattle.s80_model.specs.Replies.{AllAsk, Work, work_after}

-- items ask one list, where the clock is told to those that file out
abbrev pub OneList : Type 0
OneList = (work : Work) (items : List SessionItem) (asks others : List Ask) → All (IsTimed work.settings) items → AllAsk work items asks → AllAsk work items others → others ≡ asks

-- what the first items ask of all that is asked
first_of_all : (work : Work) (items others : List SessionItem) (all : List Ask) → AllAsk work (items ++ others) all → (first : List Ask) × (more : List Ask) × (all ≡ first ++ more) × AllAsk work items first
first_of_all work [] others all h = ([], all, refl, tt)
first_of_all work (item ∷ items) others [] h = absurd h
first_of_all work (item ∷ items) others (ask ∷ all) h =
    let (first, more, is, asked) = first_of_all (work_after work ask) items others all h.1 in
    (ask ∷ first, more, ap (λ l. ask ∷ l) is, (h.0, asked))

pub goes_on_asking : OneList → (work : Work) (items others : List SessionItem) (asks all : List Ask) → All (IsTimed work.settings) items → AllAsk work items asks → AllAsk work (items ++ others) all → (more : List Ask) × (all ≡ asks ++ more)
goes_on_asking one work items others asks all timed h k =
    let (first, more, is, asked) = first_of_all work items others all k in
    (more, is ∙ ap (λ l. l ++ more) (one work items asks first timed h asked))
