use Rattle.std.proofs.Common.{◌∙◌, ap}
use Rattle.std.proofs.lemmas.Result.{on_ok_weaker}
use Rattle.s80_code.specs.Entries.{entries_of}
use Rattle.s80_code.specs.Special.{special_number}
use Rattle.s80_compile.proofs.Singles.{plain_named, super_named}
use Rattle.s80_compile.proofs.pieces.send_selector.Goals as goal

pub returns-then-to_super : goal.returns-then-to_super
returns-then-to_super c =
    on_ok_weaker c.send_to_super.result
    (super_named c.args.to_super c.args.selector.now c.args.arguments (entries_of c.args.frame.now) (entries_of c.selector.new.frame) c.in_ok-number.number c.args.code.now c.send_to_super.new.code
    c.if-to_super.true c.in_ok-number.ensures) c.send_to_super.ensures

pub returns-in_ok-number-in-None : goal.returns-in_ok-number-in-None
returns-in_ok-number-in-None c =
    on_ok_weaker c.send.result
    (plain_named c.args.to_super c.args.selector.now c.args.arguments (entries_of c.args.frame.now) (entries_of c.selector-in-None.new.frame) c.in_ok-number-in-None.number c.args.code.now c.send.new.code
    c.if-to_super.false (c.in-None.ensures.is ∙ ap special_number c.bytes.ensures) c.in_ok-number-in-None.ensures) c.send.ensures
