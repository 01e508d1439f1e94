-- A line, and the parts that were read, as contracts see them.
use Rattle.std.specs.Prelude.{ℕ, map, ◌∷◌}
use Rattle.s80_line.specs.declared.line.Line.{Line}
use Rattle.s80_line.specs.declared.words.Parts.{Parts}
use Rattle.s80_line.specs.Line.{LineParts, Read}

abbrev pub shown : Line → LineParts
shown line = record { folder = line.folder; command = line.command; arguments = line.arguments.items; budget = line.budget; keep = line.keep }

-- what was read where these are the parts
abbrev pub parts_shown : Parts → Read
parts_shown parts = record {
  budgets = map (λ s. s.now) parts.budgets.items;
  keeps = map (λ s. s.now) parts.keeps.items;
  plains = parts.folder.now ∷ parts.command.now ∷ map (λ s. s.now) parts.arguments.items;
}

-- the line of these plain words and numbers
abbrev pub line_shown : Parts → ℕ → ℕ → LineParts
line_shown parts budget keep = record {
  folder = parts.folder.now;
  command = parts.command.now;
  arguments = map (λ s. s.now) parts.arguments.items;
  budget = budget;
  keep = keep;
}
