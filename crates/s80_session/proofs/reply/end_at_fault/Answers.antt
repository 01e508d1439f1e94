use Rattle.std.proofs.Common.{◌≡◌, ◌∙◌, sym}
use Rattle.s80_session.proofs.Outcomes.{ends_it}
use Rattle.s80_session.proofs.reply.end_at_fault.Goals as goal

pub unreachable-requires : goal.unreachable-requires
unreachable-requires c = ends_it c.args.fault c.in-Ok.field-0 c.requires (sym c.refusal_at_fault.ensures ∙ c.in-Ok.is)

pub returns : goal.returns
returns c = sym c.refusal_at_fault.ensures ∙ c.in-Err.is
