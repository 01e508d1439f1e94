use Rattle.std.proofs.Common.{◌≡◌, ◌≤◌, ◌<◌, ◌+◌, ◌*◌, ◌-◌, ℕ, length}
use Rattle.s80_base.specs.Literal.{literals_of, no_literals}
use Rattle.s80_image.specs.Literals.{elements, literal_at}
use Rattle.s80_image.proofs.literals.+literal.Given as goal

abbrev pub decreases-literal : goal.decreases-literal
decreases-literal l = 3 * length l.bytes.now + 1

abbrev pub decreases-literal_behind : goal.decreases-literal_behind
decreases-literal_behind l = 3 * length l.bytes.now + 2

abbrev pub decreases-elements : goal.decreases-elements
decreases-elements l = 3 * length l.bytes.now + 3

abbrev pub invariant-elements-loop : goal.invariant-elements-loop
invariant-elements-loop l = record {
  read : (most : ℕ) → length l.bytes < most → elements (literal_at most) (literals_of l.items) (l.count - l.counter) l.rest ≡ elements (literal_at most) no_literals l.count l.bytes;
  shorter : length l.rest ≤ length l.bytes;
}
