use Rattle.s80_chunk.proofs.Looking.{front_taken}
use Rattle.s80_chunk.proofs.scanner.Scanner.take_run.Goals as goal

pub returns-clause-taken : goal.returns-clause-taken
returns-clause-taken c = λ taken h.
    front_taken c.args.self.now c.add_run.new.self taken c.args.bytes.now c.args.place c.run_length-count.result c.requires.text c.run_length-count.ensures.within c.run_length-count.ensures.plain (c.add_run.ensures.rest, c.add_run.ensures.kept) h
