-- What is put of a file that was filed out files in again.
use Rattle.std.proofs.Common.{◌≡◌, ◌++◌, ℕ, List, [], map, Option, Some, None, Result, Ok, Err, sym, subst}
use Rattle.std.specs.Prelude.{OnOk}
use Rattle.s80_apply.specs.List.{state_of, IsBuilt}
use Rattle.s80_change.specs.declared.change.Change.{Change}
use Rattle.s80_change.specs.Block.{IsList}
use Rattle.s80_disk.specs.Image.{Image}
use Rattle.s80_disk.specs.Shown.{Shown}
use Rattle.s80_history.specs.Lists.{set_of}
use Rattle.s80_fileout.specs.Condensed.{filed}
use Rattle.s80_fileout.specs.Moment.{IsMoment}
use Rattle.s80_filing.specs.Filing.{BeginsSet, FilesIn, HasRoom}
use Rattle.s80_model.specs.declared.item.Filed.TheVariants.{All as AllClasses, Class as OneClass, Set}
use Rattle.s80_model.specs.declared.item.Query.TheVariants as queries
use Rattle.s80_model.specs.declared.item.SessionItem.{SessionItem}
use Rattle.s80_model.specs.declared.item.SessionItem.TheVariants.{Chunk, Unended, Query}
use Rattle.s80_model.specs.Asked.{Ask, files}
use Rattle.s80_model.specs.Replies.{AsksIn, IsSo, Work, begun, reply_text, reply_to}
use Rattle.s80_model.specs.Settings.{IsNow, Settings}
use Rattle.s80_session.specs.declared.end.SessionEnd.{SessionEnd}
use Rattle.s80_session.specs.declared.session.Session.{Session}
use Rattle.s80_session.specs.FiledIn.{FiledOut, PutsFile}
use Rattle.s80_session.specs.Session.{Was}
use Rattle.s80_session.specs.Working.{Stepped}

-- the moment of a file is that of some second
some_second : (clock : Option ℕ) (moment : List ℕ) → IsNow clock moment → (seconds : ℕ) × IsMoment seconds moment
some_second None moment is = is
some_second (Some seconds) moment is = (seconds, is)

-- the laws of filing in
pub record FileLaws : Type 0 where
  pub all : (work : Work) (settings : Settings) (seconds : ℕ) (moment : List ℕ) → IsList work.changes → IsMoment seconds moment → HasRoom [] (filed (state_of work.changes)) moment
      → FilesIn (begun settings []) (reply_text (reply_to work (files AllClasses moment))) (state_of work.changes)
  pub set : (work : Work) (settings : Settings) (before set : List Change) (seconds : ℕ) (moment : List ℕ) → work.changes ≡ before ++ set → BeginsSet before set → IsBuilt work.changes → IsList work.changes
      → IsMoment seconds moment → HasRoom before (map (λ p. p.1) (set_of work.changes)) moment
      → FilesIn (begun settings before) (reply_text (reply_to work (files Set moment))) (state_of work.changes)

module _ (laws : FileLaws) (work : Work) (built : IsBuilt work.changes) (list : IsList work.changes) where
  -- what was asked was answered by such bytes
  files_in : (item : SessionItem) (ask : Ask) → AsksIn work item ask → FiledOut work item (reply_text (reply_to work ask))
  files_in (Query (queries.FileOut AllClasses)) ask ((moment, is), so) =
      let P : Ask → Type 0 = λ a. FiledOut work (Query (queries.FileOut AllClasses)) (reply_text (reply_to work a)) in
      let second = some_second work.settings.moment moment (subst (IsSo work) is so) in
      subst P (sym is) (moment, subst (IsSo work) is so, λ settings room. laws.all work settings second.0 moment list second.1 room)
  files_in (Query (queries.FileOut Set)) ask ((moment, is), so) =
      let P : Ask → Type 0 = λ a. FiledOut work (Query (queries.FileOut Set)) (reply_text (reply_to work a)) in
      let second = some_second work.settings.moment moment (subst (IsSo work) is so) in
      subst P (sym is) (moment, subst (IsSo work) is so, λ settings before set parts begins room. laws.set work settings before set second.0 moment parts begins built list second.1 room)
  files_in (Query (queries.FileOut (OneClass name))) ask asks = tt
  files_in (Query (queries.Source spec selector)) ask asks = tt
  files_in (Query queries.Recover) ask asks = tt
  files_in (Query queries.Classes) ask asks = tt
  files_in (Query (queries.Browse name)) ask asks = tt
  files_in (Query (queries.Versions spec selector)) ask asks = tt
  files_in (Query queries.Changes) ask asks = tt
  files_in (Query (queries.Senders selector)) ask asks = tt
  files_in (Query (queries.Implementors selector)) ask asks = tt
  files_in (Query (queries.References name)) ask asks = tt
  files_in (Query queries.Undeclared) ask asks = tt
  files_in (Query queries.Unimplemented) ask asks = tt
  files_in (Query queries.Unsent) ask asks = tt
  files_in (Query queries.Snapshot) ask asks = tt
  files_in (Query queries.Condense) ask asks = tt
  files_in (Chunk item) ask asks = tt
  files_in Unended ask asks = tt

  pub puts_file : (r : Result (Unit {0}) SessionEnd) (may_leave : Image → Type 0) (now : Shown) (session : Session) (was : Was) (put : List ℕ) (item : SessionItem) → Stepped r may_leave now session was work put item → OnOk r (PutsFile work item put now.taken)
  puts_file (Ok done) may_leave now session was put item (ask, asks, troubled, run, at) = (reply_text (reply_to work ask), at.taken, files_in item ask asks)
  puts_file (Err end) may_leave now session was put item stepped = tt
