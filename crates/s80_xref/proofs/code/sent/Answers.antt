use Rattle.std.proofs.Common.{◌∙◌, sym}
use Rattle.s80_code.specs.Entries.{entries_of}
use Rattle.s80_xref.specs.Named.{sent_in}
use Rattle.s80_xref.proofs.Leading.{noted}
use Rattle.s80_xref.proofs.code.sent.Goals as goal

pub loop-instruction-preserved : goal.loop-instruction-preserved
loop-instruction-preserved c =
    noted c.args.code.now.bytes (entries_of c.args.code.now.literals) c.loop-instruction.names c.add_sent.new.names (sent_in c.args.code.now)
    c.in-Some.instruction c.loop-instruction.at c.in-Some.width (sym c.decode.ensures ∙ c.in-Some.is) c.in_ok-add_sent.ensures c.loop-instruction.invariant
