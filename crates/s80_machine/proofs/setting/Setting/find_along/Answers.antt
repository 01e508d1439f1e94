use Rattle.std.proofs.Common.{sym}
use Rattle.s80_machine.proofs.setting.Setting.find_along.Goals as goal

pub lookup_from-requires-clause-behind : goal.lookup_from-requires-clause-behind
lookup_from-requires-clause-behind c = sym c.requires.ready.numbers.class
