use Rattle.std.proofs.Common.{◌==◌, None, Some, ap, false}
use Rattle.std.specs.Option.{option_map_or}
use Rattle.s80_machine.proofs.CameClasses.{counts_them}
use Rattle.s80_machine.proofs.sends.takes.Goals as goal

pub returns-in-Some : goal.returns-in-Some
returns-in-Some c = ap (λ o. option_map_or (λ n. n == c.args.count) o false) (counts_them c.args.text.now (Some c.in-Some.parameters) c.in-Some.ensures)

pub returns-in-None : goal.returns-in-None
returns-in-None c = ap (λ o. option_map_or (λ n. n == c.args.count) o false) (counts_them c.args.text.now None c.in-None.ensures)
