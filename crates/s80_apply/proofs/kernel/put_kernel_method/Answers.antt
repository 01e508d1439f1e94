use Rattle.std.proofs.Common.{◌≡◌, ◌≤◌, ◌∙◌, ◌&&◌, List, ℕ, Ok, ap, cond, length, nat_eq, subst, sym}
use Rattle.std.specs.FinMap as map
use Rattle.s80_dict.specs.Table.{same_side}
use Rattle.s80_change.specs.Check.{IsCheckOf}
use Rattle.s80_class.specs.Table.{IsNumberOf}
use Rattle.s80_apply.specs.Codes.{HasCode}
use Rattle.s80_apply.specs.Placed.{PlacedRow}
use Rattle.s80_apply.proofs.Booting.{held_short}
use Rattle.s80_apply.proofs.Codes.{code_is}
use Rattle.s80_apply.proofs.Places.{some_same}
use Rattle.s80_apply.proofs.kernel.put_kernel_method.Goals as goal

pub returns-in-Some-clause-put : goal.returns-in-Some-clause-put
returns-in-Some-clause-put c =
    let m = c.args.method.now in
    let table = c.args.classes.now in
    let entry = c.in_ok-entry-in-Some.entry in
    let source = c.in_ok-source.source in
    let class_is : c.in_ok-class_name.class_name ≡ m.class_name.now = c.in_ok-class_name.ensures ∙ c.as_bytes.ensures.value in
    let selector_is : c.in_ok-selector.selector ≡ m.selector.now = c.in_ok-selector.ensures ∙ c.as_bytes-2.ensures.value in
    let named : IsNumberOf table.names c.in-Some.number m.class_name.now = subst (λ (n : List ℕ). IsNumberOf table.names c.in-Some.number n) class_is c.in-Some.ensures.found in
    let check : IsCheckOf source (Ok m.selector.now) = subst (λ bytes. IsCheckOf bytes (Ok m.selector.now)) (sym c.in_ok-source.ensures) c.requires.fits in
    let code : HasCode table.classes m.class_name.now c.side_of-side.result m.selector.now entry =
    code_is table.classes m.class_name.now c.side_of-side.result m.selector.now source entry c.in_ok-code-in-Some.code (ap (λ (row : PlacedRow). row.source) c.in_ok-entry-in-Some.ensures.row ∙ sym c.in_ok-source.ensures) c.in_ok-entry-in-Some.ensures.code
    (subst (λ bytes. length bytes ≤ 65535) (sym c.in_ok-source.ensures) (held_short m c.requires.short)) check (c.in_ok-code-in-Some.ensures m.class_name.now m.selector.now named check) in
    record {
      number = c.in-Some.number;
      named = named;
      only = λ n is. sym (some_same c.in-Some.number n (c.in-Some.ensures.only n (subst (λ (name : List ℕ). IsNumberOf table.names n name) (sym class_is) is)));
      entry = entry;
      row = c.in_ok-entry-in-Some.ensures.row;
      code = subst (λ s. HasCode table.classes m.class_name.now s m.selector.now entry) c.side_of-side.ensures code;
      methods = λ n s. c.insert.ensures.methods n s ∙
          (λ i. cond (nat_eq n c.in-Some.number && same_side s (c.side_of-side.ensures i)) (map.insert (c.in_ok-make_room-in-Some.ensures.methods n s i) (selector_is i) entry) (c.in_ok-make_room-in-Some.ensures.methods n s i));
    }
