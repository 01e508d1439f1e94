use Rattle.std.proofs.Common.{◌∙◌, sym}
use Rattle.std.specs.List.{list_any}
use Rattle.std.specs.Str.{bytes_eq}
use Rattle.s80_code.specs.Entries.{entries_of}
use Rattle.s80_xref.specs.Named.{sent_in}
use Rattle.s80_xref.proofs.Leading.{passed_by}
use Rattle.s80_xref.proofs.code.sends.Goals as goal

pub loop-instruction-preserved : goal.loop-instruction-preserved
loop-instruction-preserved c =
    passed_by c.args.code.now.bytes (entries_of c.args.code.now.literals) (bytes_eq c.args.selector.now) c.in-Some.instruction c.loop-instruction.at c.in-Some.width
    c.is_sent_by.result (list_any (bytes_eq c.args.selector.now) (sent_in c.args.code.now))
    (sym c.decode.ensures ∙ c.in-Some.is) c.is_sent_by.ensures c.if-is_sent_by.false c.loop-instruction.invariant
