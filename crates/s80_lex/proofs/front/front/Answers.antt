use Rattle.std.proofs.Common.{sym}
use Rattle.s80_lex.specs.declared.class.Class.TheVariants as class
use Rattle.s80_lex.specs.declared.token.TokenKind.TheVariants.{Assign, Binary}
use Rattle.s80_lex.proofs.lemmas.Standing.{other_stands, byte_wrong, other_none, operator_either, separator_stands}
use Rattle.s80_lex.proofs.lemmas.Taken.{binary_takes, underscore_takes, mark_takes}
use Rattle.s80_lex.proofs.front.front.Goals as goal

pub returns-in-Letter : goal.returns-in-Letter
returns-in-Letter c = other_stands c.word-kind.result.0 c.word-kind.result.1 c.args.bytes.now c.word-kind.ensures (λ e. let f = c.in-Letter.ensures in cc)

pub returns-in-Special : goal.returns-in-Special
returns-in-Special c =
    let operator = operator_either c.args.bytes.now c.first_class.result c.first_class.ensures c.in-Special.is in
    other_stands Binary c.operator_len.result c.args.bytes.now (binary_takes c.operator_len.result c.args.bytes.now operator.0 c.operator_len.ensures) operator.1

pub returns-in-Underscore : goal.returns-in-Underscore
returns-in-Underscore c = other_stands Assign 1 c.args.bytes.now (underscore_takes c.args.bytes.now (sym c.in-Underscore.ensures)) (λ e. let f = c.in-Underscore.ensures in cc)

pub returns-in-Colon : goal.returns-in-Colon
returns-in-Colon c = other_stands c.colon-kind.result.0 c.colon-kind.result.1 c.args.bytes.now c.colon-kind.ensures (λ e. let f = c.in-Colon.ensures in cc)

pub returns-in-Mark : goal.returns-in-Mark
returns-in-Mark c = other_stands c.in-Mark.kind 1 c.args.bytes.now (mark_takes c.in-Mark.kind c.args.bytes.now (sym c.in-Mark.ensures)) (λ e. let f = c.in-Mark.ensures in cc)

pub returns-in-Other : goal.returns-in-Other
returns-in-Other c =
    let e = sym c.in-Other.ensures in
    byte_wrong c.args.bytes.now class.Other c.requires e tt (other_none c.args.bytes.now e)

pub returns-in-Separator : goal.returns-in-Separator
returns-in-Separator c = separator_stands c.args.bytes.now (sym c.in-Separator.ensures)
