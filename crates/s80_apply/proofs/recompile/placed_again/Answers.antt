use Rattle.std.proofs.Common.{◌∙◌, IfOk, Vec, Global, subst, sym}
use Rattle.s80_class.specs.Classes.{Classes}
use Rattle.s80_apply.specs.declared.step.PlacedMethod.{PlacedMethod}
use Rattle.s80_apply.specs.Limits.{IsWithin}
use Rattle.s80_apply.specs.System.{AreRecompiled, SystemState, with_entry}
use Rattle.s80_apply.proofs.Again.{new_above, new_named, old_above, table_back, with_same}
use Rattle.s80_apply.proofs.Recompiled.{recompiled_from}
use Rattle.s80_apply.proofs.recompile.placed_again.Goals as goal

pub replace-entry-requires-clause-superclass : goal.replace-entry-requires-clause-superclass
replace-entry-requires-clause-superclass c =
    old_above c.args.classes.now c.replace-old.new.self c.args.number c.args.entry c.replace-old.result c.requires.valid c.requires.class c.requires.superclass c.replace-old.ensures.old c.replace-old.ensures.classes c.replace-old.ensures.names

pub returns-in_err-recompiled-clause-same : goal.returns-in_err-recompiled-clause-same
returns-in_err-recompiled-clause-same c =
    table_back c.args.classes.now c.replace-old.new.self c.args.number c.args.entry c.replace-old.result c.requires.valid c.requires.class c.requires.superclass c.replace-old.ensures.old c.replace-old.ensures.classes c.replace-old.ensures.names
    c.replace-entry.new.self c.replace-entry.ensures.classes c.replace-entry.ensures.names (c.replace-entry.ensures.spare ∙ c.replace-old.ensures.spare)

pub returns-clause-same : goal.returns-clause-same
returns-clause-same c =
    table_back c.args.classes.now c.replace-old.new.self c.args.number c.args.entry c.replace-old.result c.requires.valid c.requires.class c.requires.superclass c.replace-old.ensures.old c.replace-old.ensures.classes c.replace-old.ensures.names
    c.replace-entry.new.self c.replace-entry.ensures.classes c.replace-entry.ensures.names (c.replace-entry.ensures.spare ∙ c.replace-old.ensures.spare)

pub returns-clause-classes : goal.returns-clause-classes
returns-clause-classes c =
    with_same c.args.classes.now c.replace-old.new.self c.args.number c.args.entry c.replace-old.result c.requires.valid c.requires.class c.requires.superclass c.replace-old.ensures.old c.replace-old.ensures.classes c.replace-old.ensures.names
    c.replace-entry.result c.replace-entry.ensures.old

pub returns-clause-can_put : goal.returns-clause-can_put
returns-clause-can_put c =
    let table = c.args.classes.now in
    let changed = c.replace-old.new.self in
    let new = c.replace-entry.result in
    let before : SystemState = record { table = table; methods = c.args.methods.now } in
    let now : SystemState = record { table = changed; methods = c.args.methods.now } in
    let same =
    with_same table changed c.args.number c.args.entry c.replace-old.result c.requires.valid c.requires.class c.requires.superclass c.replace-old.ensures.old c.replace-old.ensures.classes c.replace-old.ensures.names
    new c.replace-entry.ensures.old in
    let are : AreRecompiled now changed.classes new.class_name c.in_ok-recompiled.field-0.items =
    subst (λ r. IfOk r (λ (ps : Vec PlacedMethod Global). AreRecompiled now changed.classes new.class_name ps.items)) c.in_ok-recompiled.was (c.recompiled_family-recompiled.ensures new.class_name c.replace-entry.ensures.old.named) in
    record {
      may_put = (
        new_named table changed c.args.number c.args.entry c.replace-old.result c.requires.valid c.requires.class c.requires.superclass c.replace-old.ensures.old c.replace-old.ensures.classes c.replace-old.ensures.names
            new c.replace-entry.ensures.old,
        new_above table changed c.args.number c.args.entry c.replace-old.result c.requires.valid c.requires.class c.requires.superclass c.replace-old.ensures.old c.replace-old.ensures.classes c.replace-old.ensures.names
            new c.replace-entry.ensures.old,
      );
      within = subst IsWithin (sym same) c.requires.within;
      room = tt;
      recompiled = recompiled_from now before (with_entry table new) new.class_name c.in_ok-recompiled.field-0.items c.replace-old.ensures.names (λ i. c.args.methods.now)
          (subst (λ (m : Classes). AreRecompiled now m new.class_name c.in_ok-recompiled.field-0.items) (c.replace-old.ensures.classes ∙ sym same) are);
    }
