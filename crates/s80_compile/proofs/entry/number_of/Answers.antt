use Rattle.std.proofs.Common.{◌∷◌, [], arith}
use Rattle.s80_code.specs.Entries.{entries_of, entry_of}
use Rattle.s80_compile.proofs.Numbers.{few, is_there, below, put}
use Rattle.s80_compile.proofs.entry.number_of.Goals as goal

pub overflow_cast-result : goal.overflow_cast-result
overflow_cast-result c = omega (arith, below (entries_of c.args.frame.now) c.in-Some.number (entry_of c.args.entry) c.requires.room c.in-Some.ensures)

pub returns-in-Some : goal.returns-in-Some
returns-in-Some c = is_there (entries_of c.args.frame.now) c.in-Some.number (entry_of c.args.entry) c.requires.room c.in-Some.ensures

pub overflow_cast-result-in-None : goal.overflow_cast-result-in-None
overflow_cast-result-in-None c = omega (arith, c.count-count.ensures, few (entries_of c.args.frame.now) (entry_of c.args.entry ∷ []) c.requires.room)

pub returns-in_ok-push-in-None : goal.returns-in_ok-push-in-None
returns-in_ok-push-in-None c =
    put (entries_of c.args.frame.now) (entries_of c.push.new.self) c.count-count.result (entry_of c.args.entry) c.requires.room
    c.in-None.ensures c.count-count.ensures c.in_ok-push-in-None.ensures.ok
