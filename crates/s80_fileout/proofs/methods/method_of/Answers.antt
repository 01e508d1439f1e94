use Rattle.std.proofs.Common.{◌≡◌, ◌∙◌, ap}
use Rattle.std.specs.FinMap as finmap
use Rattle.std.specs.Option.{option_copied}
use Rattle.s80_dict.specs.Slots.{DictValue}
use Rattle.s80_dict.specs.Table.{MethodsValue, methods_at}
use Rattle.s80_apply.specs.Entries.{Entry}
use Rattle.s80_fileout.proofs.Systems.{no_methods, no_row, row_found, sound_found}
use Rattle.s80_fileout.proofs.methods.method_of.Goals as goal
use Rattle.s80_fileout.proofs.methods.method_of.Goals.{After-get}

found_by : (c : After-get) → option_copied c.get.result ≡ finmap.get (methods_at c.args.system.now.methods c.in-Some.number c.args.side) c.args.selector.now
found_by c =
    c.get.ensures.value ∙ ap (λ (d : DictValue Entry). finmap.get d.methods c.args.selector.now) c.dict.ensures
    ∙ ap (λ (m : MethodsValue Entry). finmap.get (methods_at m c.in-Some.number c.args.side) c.args.selector.now) c.methods.ensures.methods

pub returns-in-Some-clause-row : goal.returns-in-Some-clause-row
returns-in-Some-clause-row c = λ state is.
    row_found c.args.system.now c.in-Some.number c.args.class_name.now c.args.side c.args.selector.now c.get.result (found_by c) state is c.in-Some.ensures.named

pub returns-in-Some-clause-sound : goal.returns-in-Some-clause-sound
returns-in-Some-clause-sound c =
    sound_found c.args.system.now c.in-Some.number c.args.class_name.now c.args.side c.args.selector.now c.get.result (found_by c) c.methods.ensures.codes

pub returns-in-None-clause-row : goal.returns-in-None-clause-row
returns-in-None-clause-row c = λ state is.
    no_row (state.methods c.args.class_name.now c.args.side) c.args.selector.now (no_methods c.args.system.now state c.args.class_name.now c.args.side is c.in-None.ensures)
