use Rattle.std.proofs.Common.{◌≡◌, take, drop, IsTrue, arith, ap, ◌∙◌}
use Rattle.s80_log.specs.Log.{held_in, log_file}
use Rattle.s80_change.specs.Blocks.{AreUnended}
use Rattle.s80_log.proofs.Reading.{piece_of, begins_whole, none_after, none_whole, held_length}
use Rattle.s80_log.proofs.log.Log.read_block.Goals as goal
use Rattle.s80_log.proofs.log.Log.read_block.Goals.{In_ok-change}

-- the piece is the first bytes of what the log holds from the place on
piece : (g : _) (c : In_ok-change g) → IsTrue (g.D.Disk.tells c.args.disk.now) → c.deref.result.now ≡ take c.min.result (drop c.args.at (held_in (g.D.Disk.reads c.args.disk.now) c.args.self.now))
piece g c told =
    let reads = g.D.Disk.reads c.args.disk.now in
    let file = c.pieces.invariant.untouched.same c.file.result ∙ ap reads c.file.ensures in
    c.deref.ensures.value ∙ c.in_ok-bytes.ensures.bytes (c.pieces.invariant.untouched.telling ∙ told) ∙ ap (λ l. take c.min.result (drop c.args.at l)) file ∙ piece_of c.min.result c.args.at c.args.self.now.end _ (omega (arith, c.length.ensures, c.saturating_sub-within.ensures, c.min.ensures))

pub returns-in-Found-clause-begins : goal.returns-in-Found-clause-begins
returns-in-Found-clause-begins g c = λ told.
    let found = rw c.in-Found.is at c.in_ok-change.ensures in
    begins_whole c.min.result c.deref.result.now _ c.in-Found.change (piece g (goal.at.returns-in-Found-clause-begins g c).In_ok-change told) found.0

pub returns-in-Absent-clause-none : goal.returns-in-Absent-clause-none
returns-in-Absent-clause-none g c = λ told.
    none_after c.min.result c.deref.result.now _ (piece g (goal.at.returns-in-Absent-clause-none g c).In_ok-change told) (rw c.in-Absent.is at c.in_ok-change.ensures)

pub returns-then-size-within-clause-none : goal.returns-then-size-within-clause-none
returns-then-size-within-clause-none g c = λ told.
    let unended : AreUnended c.deref.result.now = rw c.in-Unended.is at c.in_ok-change.ensures in
    none_whole c.min.result c.deref.result.now _ (piece g (goal.at.returns-then-size-within-clause-none g c).In_ok-change told)
    (omega (arith, held_length c.args.at c.args.self.now.end (g.D.Disk.reads c.args.disk.now (log_file c.args.self.now.number)), c.length.ensures, c.saturating_sub-within.ensures, c.min.ensures, c.if-size-within.true))
    unended.none
