use Rattle.std.proofs.Common.{true, false, subst}
use Rattle.std.proofs.lemmas.List.{take_rest}
use Rattle.s80_lex.specs.Spelling.{begins_with, IsSelector}
use Rattle.s80_lex.specs.Front.{IsMost, Lacks}
use Rattle.s80_lex.proofs.lemmas.Fronts.{at_rest}
use Rattle.s80_lex.proofs.lemmas.Signs.{array_takes, symbol_takes, no_symbol}
use Rattle.s80_lex.proofs.word.symbol.Goals as goal

pub returns-then-begins_with : goal.returns-then-begins_with
returns-then-begins_with c = array_takes c.args.bytes.now c.requires (at_rest (begins_with 40) c.args.bytes.now 1 true c.if-begins_with.ensures)

pub returns-in_err-length : goal.returns-in_err-length
returns-in_err-length c =
    let none = subst (Lacks IsSelector) (take_rest c.args.bytes.now 1) c.in_err-length.ensures in
    rw c.from_residual.ensures (no_symbol c.args.bytes.now c.requires (at_rest (begins_with 40) c.args.bytes.now 1 false c.if-begins_with.ensures) none)

pub returns : goal.returns
returns c =
    let most = subst (IsMost IsSelector c.in_ok-length.length) (take_rest c.args.bytes.now 1) c.in_ok-length.ensures in
    symbol_takes c.in_ok-length.length c.args.bytes.now c.requires (at_rest (begins_with 40) c.args.bytes.now 1 false c.if-begins_with.ensures) most
