use Rattle.std.specs.Io.KnownBytes.{Keeps}
use Rattle.s80_disk.proofs.streams.read_some.Given as goal

abbrev pub invariant-loop : goal.invariant-loop
invariant-loop g l = Keeps (g.F.Read.remaining l.fn.reader) (g.F.Read.remaining l.reader)
