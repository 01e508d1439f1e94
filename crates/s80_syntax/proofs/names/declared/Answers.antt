use Rattle.std.proofs.Common.{sym, ap, ◌∙◌}
use Rattle.s80_syntax.specs.Word.{is_reserved}
use Rattle.s80_syntax.proofs.Parameters.{declared_here}
use Rattle.s80_syntax.proofs.names.declared.Goals as goal

pub returns-in_ok-name_at-in-Some : goal.returns-in_ok-name_at-in-Some
returns-in_ok-name_at-in-Some c = declared_here _ _ _ _ c.in-Some.token c.requires c.in-Some.ensures.0 c.in-Some.ensures.1 (ap is_reserved (sym c.bytes.ensures) ∙ sym c.if-not-is_reserved.ensures) c.in_ok-name_at-in-Some.ensures.0 c.in_ok-name_at-in-Some.ensures.1
