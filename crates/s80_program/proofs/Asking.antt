-- Commands that ask for something, and what they work.
use Rattle.std.proofs.Common.{◌≡◌, ℕ, subst}
use Rattle.s80_model.specs.declared.item.SessionItem.{SessionItem}
use Rattle.s80_model.specs.declared.item.SessionItem.TheVariants.{Query}
use Rattle.s80_session.specs.Files.{IsAsking}
use Rattle.s80_program.specs.Command.{Command, Run, Merge, Do, Tell, Make, Takes, Merges, Works, Makes, IsAskingCommand, job_of}

same_item : (one other : SessionItem) → Works one ≡ Works other → one ≡ other
same_item one other is = cc is

-- a command that asks works an item that asks
pub item_asks : (command : Command) (item : SessionItem) → job_of command ≡ Works item → IsAskingCommand command → IsAsking item
item_asks Run item is asks = absurd asks
item_asks Merge item is asks = absurd asks
item_asks (Do text) item is asks = absurd asks
item_asks (Tell query) item is asks = subst IsAsking (same_item (Query query) item is) asks
item_asks (Make count) item is asks = absurd asks

-- so it is no run
pub no_run : (command : Command) → job_of command ≡ Takes → IsAskingCommand command → ⊥
no_run Run is asks = asks
no_run Merge is asks = asks
no_run (Do text) is asks = asks
no_run (Tell query) is asks = let bad : Works (Query query) ≡ Takes = is in cc
no_run (Make count) is asks = asks

-- nor does it merge
pub no_merging : (command : Command) → job_of command ≡ Merges → IsAskingCommand command → ⊥
no_merging Run is asks = asks
no_merging Merge is asks = asks
no_merging (Do text) is asks = asks
no_merging (Tell query) is asks = let bad : Works (Query query) ≡ Merges = is in cc
no_merging (Make count) is asks = asks

-- nor does it make classes
pub no_making : (command : Command) (classes : ℕ) → job_of command ≡ Makes classes → IsAskingCommand command → ⊥
no_making Run classes is asks = asks
no_making Merge classes is asks = asks
no_making (Do text) classes is asks = asks
no_making (Tell query) classes is asks = let bad : Works (Query query) ≡ Makes classes = is in cc
no_making (Make count) classes is asks = asks
