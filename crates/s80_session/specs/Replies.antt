-- Replies that are held, and the room for them.
use Rattle.std.specs.Prelude.{◌≡◌, ◌⊎◌, ℕ, ◌<◌, ◌≤◌, List, length, ⊤}
use Rattle.s80_chunk.specs.declared.item.Item.TheVariants as items
use Rattle.s80_change.specs.declared.change.Change.{Change}
use Rattle.s80_fileout.specs.Moment.{IsMoment}
use Rattle.s80_form.specs.declared.refusal.Refusal.{Refusal}
use Rattle.s80_model.specs.declared.item.Filed.{Filed}
use Rattle.s80_model.specs.declared.item.Query.{Query as SessionQuery}
use Rattle.s80_model.specs.declared.item.SessionItem.{SessionItem}
use Rattle.s80_model.specs.declared.item.SessionItem.TheVariants.{Chunk}
use Rattle.s80_model.specs.declared.reply.Reply.{Reply}
use Rattle.s80_model.specs.declared.reply.Reply.TheVariants.{Silent, Accepted, Refused, Evaluated, Told}
use Rattle.s80_model.specs.Asked.{AsksQuery, refuses, seeks}
use Rattle.s80_model.specs.Replies.{IsSo, Work}
use Rattle.s80_model.specs.Told.{file_reply}

-- their bytes, and for how many more there is room
pub record HeldReplies : Type 0 where
  pub bytes : List ℕ
  pub room : ℕ

-- there is room for a reply, where what it answers was kept
abbrev pub HasRoom : Reply → ℕ → Type 0
HasRoom Silent room = ⊤
HasRoom Accepted room = 3 ≤ room
HasRoom (Refused refusal) room = ⊤
HasRoom (Evaluated lines stopped) room = length lines ≤ room
HasRoom (Told text) room = ⊤

-- a head keeps nothing, and may go unanswered
abbrev pub HasRoomFor : SessionItem → Reply → ℕ → Type 0
HasRoomFor (Chunk (items.Head text)) reply room = ⊤
HasRoomFor item reply room = HasRoom reply room

-- a reply isn't held: there is no such room, or nothing was kept for it
abbrev pub LacksRoom : Reply → ℕ → Type 0
LacksRoom Silent room = ⊥
LacksRoom Accepted room = room < 3
LacksRoom (Refused refusal) room = ⊤
LacksRoom (Evaluated lines stopped) room = room < length lines
LacksRoom (Told text) room = ⊤

-- what is told where a file of this list is asked for in this second
abbrev pub TellsFile : List Change → ℕ → Filed → Reply → Type 0
TellsFile changes seconds filed reply = (moment : List ℕ) × IsMoment seconds moment × (reply ≡ file_reply changes moment filed)

-- what is told in this work where methods or names are sought, or why that is refused
abbrev pub TellsSought : Work → SessionQuery → Reply → Type 0
TellsSought work query reply =
    ((lines : List ℕ) × AsksQuery query (seeks query lines) × IsSo work (seeks query lines) × (reply ≡ Told lines)) ⊎ ((refusal : Refusal) × AsksQuery query (refuses refusal) × (reply ≡ Refused refusal))
