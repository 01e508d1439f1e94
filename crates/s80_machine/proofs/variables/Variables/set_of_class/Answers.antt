use Rattle.std.proofs.Common.{◌∙◌, Some, ap, is_some, refl, sym}
use Rattle.std.specs.Option.{option_copied_mut}
use Rattle.std.proofs.lemmas.Result.{on_ok_weaker}
use Rattle.s80_machine.specs.declared.variables.Variables.{Variables}
use Rattle.s80_machine.specs.Seen.{held_by_name}
use Rattle.s80_machine.proofs.KeptVariables.{by_name, class_set, class_written, entries_in, found_by_name, name_written, some_mut}
use Rattle.s80_machine.proofs.variables.Variables.set_of_class.Goals as goal

pub unwrap-of_class-requires : goal.unwrap-of_class-requires
unwrap-of_class-requires c =
    some_mut c.get_mut.result
    (ap is_some (found_by_name c.add_class.new.self.of_classes.entries c.bytes.result.now c.args.class.now _ c.bytes.ensures c.get_mut.ensures.value) ∙ c.in_ok-add_class.ensures.there)

pub returns : goal.returns
returns c =
    let mid = c.add_class.new.self in
    let es = mid.of_classes.entries in
    let class = c.args.class.now in
    let w = c.set_named.new.variables in
    let new : Variables = record { of_classes = c.get_mut.follows.lender w; outer = mid.outer; of_class_sides = mid.of_class_sides } in
    let there = ap is_some (by_name es c.bytes.result.now ∙ ap (held_by_name es) c.bytes.ensures) ∙ c.in_ok-add_class.ensures.there in
    let before = sym (found_by_name es c.bytes.result.now class (Some c.unwrap-of_class.result.now) c.bytes.ensures (ap option_copied_mut (sym c.unwrap-of_class.ensures) ∙ c.get_mut.ensures.value)) in
    let written = name_written es new.of_classes.entries c.bytes.result.now class w c.bytes.ensures there ((c.get_mut.follows.holds w).0) in
    on_ok_weaker c.set_named.result
    (λ put. class_set c.args.self.now mid new class c.args.name.now c.args.value c.in_ok-add_class.ensures.same refl refl
    (class_written entries_in es new.of_classes.entries class c.args.name.now c.unwrap-of_class.result.now w c.args.value before written put)) c.set_named.ensures
