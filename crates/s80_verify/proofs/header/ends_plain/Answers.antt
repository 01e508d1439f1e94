use Rattle.std.proofs.Common.{sym, ◌∙◌, map}
use Rattle.s80_code.specs.Entries.{entry_of}
use Rattle.s80_verify.proofs.HeaderLemmas.{entries_plain, when_entries_plain, owned_plain, unowned_plain}
use Rattle.s80_verify.proofs.header.ends_plain.Goals as goal

pub returns-in-Some : goal.returns-in-Some
returns-in-Some c =
    let (class, side, e) = c.in-Some.ensures in
    let h = owned_plain (map entry_of c.args.entries.now) (map entry_of c.in-Some.plain.now) class side e in (
      λ r. h.0 (entries_plain c.in-Some.plain.now (sym c.are_plain.ensures ∙ r)),
      λ p. c.are_plain.ensures ∙ when_entries_plain c.in-Some.plain.now (h.1 p),
    )

pub returns-in-None : goal.returns-in-None
returns-in-None c =
    let h = unowned_plain (map entry_of c.args.entries.now) c.in-None.ensures in (
      λ r. h.0 (entries_plain c.args.entries.now (sym c.are_plain-in-None.ensures ∙ r)),
      λ p. c.are_plain-in-None.ensures ∙ when_entries_plain c.args.entries.now (h.1 p),
    )
