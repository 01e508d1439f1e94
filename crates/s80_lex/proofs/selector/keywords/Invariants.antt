use Rattle.std.proofs.Common.{◌≡◌, ◌+◌, ◌≤◌, false, drop}
use Rattle.std.specs.Prelude.{option_map}
use Rattle.s80_lex.specs.Selector.{keywords_from}
use Rattle.s80_lex.proofs.selector.keywords.Given as goal

abbrev pub invariant-loop-byte : goal.invariant-loop-byte
invariant-loop-byte l =
    (l.count ≤ l.byte-index)
    × (keywords_from false l.bytes ≡ option_map (λ m. l.count + m) (keywords_from l.in_name (drop l.byte-index l.bytes)))
