-- Sections as they follow one another.
use Rattle.std.specs.Prelude.{Option, Some, None}
use Rattle.s80_change.specs.Head.{IsBriefHead}
use Rattle.s80_model.specs.declared.section.Section.{Section}
use Rattle.s80_model.specs.declared.section.Section.TheVariants.{Top, Open, Refused}

-- the section in which the next item stands, where it may be another one
abbrev pub section_or : Option Section → Section → Section
section_or None before = before
section_or (Some section) before = section

-- the head of an open section is brief
abbrev pub IsBriefSection : Section → Type 0
IsBriefSection Top = Unit {0}
IsBriefSection (Open head) = IsBriefHead head
IsBriefSection Refused = Unit {0}
