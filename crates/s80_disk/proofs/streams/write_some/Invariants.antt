use Rattle.std.specs.Io.KnownBytes.{Keeps}
use Rattle.s80_disk.proofs.streams.write_some.Given as goal

abbrev pub invariant-loop : goal.invariant-loop
invariant-loop g l = Keeps (g.F.Write.contents l.fn.writer) (g.F.Write.contents l.writer)
