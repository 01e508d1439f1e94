-- What is written so far: a quote, and the bytes seen, with each quote doubled.
use Rattle.std.proofs.Common.{◌≡◌, ◌++◌, take}
use Rattle.std.specs.List.{flat_map}
use Rattle.s80_lex.specs.Spelling.{doubled}
use Rattle.s80_form.proofs.text_parts.add_quoted.Given as goal

abbrev pub invariant-loop-byte : goal.invariant-loop-byte
invariant-loop-byte l = l.text ≡ l.initial.text ++ flat_map (doubled 39) (take l.byte-index l.string)
