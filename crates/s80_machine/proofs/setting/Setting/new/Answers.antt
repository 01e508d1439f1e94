use Rattle.std.proofs.Common.{refl}
use Rattle.s80_machine.proofs.setting.Setting.new.Goals as goal

pub returns-clause-given : goal.returns-clause-given
returns-clause-given c = refl

pub returns-clause-ready : goal.returns-clause-ready
returns-clause-ready c = record {
  known = c.requires.known;
  kernel = c.requires.kernel;
  numbers = c.in_ok-of.ensures;
  selectors = c.in_ok-special_selectors.ensures;
  unknown = c.in_ok-from_bytes.ensures;
  sides = c.requires.sides;
}
