use Rattle.std.proofs.Common.{◌∙◌}
use Rattle.s80_code.proofs.LineLemmas.{whole_line}
use Rattle.s80_code.proofs.listing.append_line.Goals as goal

pub returns : goal.returns
returns c =
    whole_line c.args.at c.args.bytes.now c.args.text.now _ _ _ _ c.requires
    (c.as_bytes.ensures.value ∙ c.in_ok-place.ensures.ok)
    c.in_ok-append.ensures.ok c.in_ok-append_bytes.ensures c.in_ok-append-2.ensures.ok
