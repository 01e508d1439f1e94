use Rattle.s80_object.specs.declared.value.Value.TheVariants as value
use Rattle.s80_prims.proofs.ClassesBodies.{there}
use Rattle.s80_prims.proofs.PrintBodies.{ok_behind, ok_same, plain_is, symbol_plain}
use Rattle.s80_prims.proofs.print.write_plain.Goals as goal

pub write_body-requires-clause-there : goal.write_body-requires-clause-there
write_body-requires-clause-there c = there c.args.classes.now c.args.objects.now c.args.v c.in-Object.field-0 c.in-Object.is c.requires.value

pub returns-in_ok-write-in-Symbol : goal.returns-in_ok-write-in-Symbol
returns-in_ok-write-in-Symbol c =
    ok_behind c.write_text.result c.args.front.now c.write-in-Symbol.new.self c.write_text.new.front _ _ _
    (symbol_plain c.args.classes.now c.args.objects.now c.args.v c.in-Symbol.field-0 c.in-Symbol.is) c.in_ok-write-in-Symbol.ensures c.write_text.ensures

pub returns-in-Context : goal.returns-in-Context
returns-in-Context c =
    ok_same c.write-in-Context.result c.args.front.now c.write-in-Context.new.self _ _ (plain_is c.args.classes.now c.args.objects.now c.args.v value.Context c.in-Context.is)
    c.write-in-Context.ensures

pub returns-in-Transcript : goal.returns-in-Transcript
returns-in-Transcript c =
    ok_same c.write-in-Transcript.result c.args.front.now c.write-in-Transcript.new.self _ _
    (plain_is c.args.classes.now c.args.objects.now c.args.v value.Transcript c.in-Transcript.is) c.write-in-Transcript.ensures

pub returns-in-Smalltalk : goal.returns-in-Smalltalk
returns-in-Smalltalk c =
    ok_same c.write-in-Smalltalk.result c.args.front.now c.write-in-Smalltalk.new.self _ _
    (plain_is c.args.classes.now c.args.objects.now c.args.v value.Smalltalk c.in-Smalltalk.is) c.write-in-Smalltalk.ensures
