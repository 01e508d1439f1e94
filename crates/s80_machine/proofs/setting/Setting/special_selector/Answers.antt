use Rattle.std.proofs.Common.{ap, arith, length, sym}
use Rattle.std.proofs.lemmas.Option.{slice_get_past}
use Rattle.s80_code.specs.Special.{special_selectors}
use Rattle.s80_machine.proofs.setting.Setting.special_selector.Goals as goal

pub returns-else-from-count : goal.returns-else-from-count
returns-else-from-count c =
    sym (slice_get_past special_selectors c.args.number (omega (arith, c.if-from-count.false, c.from.ensures, c.count.ensures, ap length c.requires.selectors)))
