use Rattle.std.proofs.Common.{◌+◌, ◌*◌, length}
use Rattle.s80_machine.proofs.machine.Machine.+sending.Given as goal

abbrev pub decreases-send_to : goal.decreases-send_to
decreases-send_to l = 2 * length l.arguments.items + 1

abbrev pub decreases-run_found : goal.decreases-run_found
decreases-run_found l = 2 * length l.arguments.items
