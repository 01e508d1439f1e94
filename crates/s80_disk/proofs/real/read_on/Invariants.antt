use Rattle.std.proofs.Common.{◌≡◌, ◌≤◌, ◌-◌, length, take}
use Rattle.std.specs.Io.KnownBytes.{Consumes}
use Rattle.s80_disk.proofs.real.read_on.Given as goal

abbrev pub decreases-loop-count : goal.decreases-loop-count
decreases-loop-count g l = length l.initial.buf - l.count

abbrev pub invariant-loop-count : goal.invariant-loop-count
invariant-loop-count g l = record {
  bound : l.count ≤ length l.buf;
  same : length l.buf ≡ length l.initial.buf;
  bytes : Consumes (g.F.Read.remaining l.fn.file) (g.F.Read.remaining l.file) (take l.count l.buf);
}
