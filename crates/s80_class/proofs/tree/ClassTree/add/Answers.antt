use Rattle.std.proofs.Common.{◌≡◌, ◌∙◌, ◌-◌, refl, sym, ap, subst, ◌+◌, length, cond, arith, vec_len}
use Rattle.std.specs.Result.{is_ok}
use Rattle.std.specs.List.{insert}
use Rattle.s80_class.specs.Table.{Table}
use Rattle.s80_class.specs.Below.{Has, IsWith, IsIndexed}
use Rattle.s80_class.proofs.Families.{known_table}
use Rattle.s80_class.proofs.Keeping.{names_rise}
use Rattle.s80_class.proofs.Calls.{added_kept, added_classes}
use Rattle.s80_class.proofs.Indexed.{new_number, indexed_more}
use Rattle.s80_class.proofs.tree.ClassTree.add.Goals as goal

pub place-at-requires : goal.place-at-requires
place-at-requires c = rw (c.deref.ensures.value, c.deref-2.ensures.value) (names_rise c.self.inside.entries.items c.self.inside.order.items c.self.invariant.kept)

-- the number is that of no class yet
pub put_below-requires-clause-new : goal.put_below-requires-clause-new
put_below-requires-clause-new c = λ has.
    let pairs = c.self.inside.subclasses.items in
    let count : c.len-number.result ≡ length c.self.inside.entries.items = omega arith in
    new_number c.self.inside.entries.items pairs c.self.invariant.indexed c.args.entry.superclass (subst (λ n. Has pairs (c.args.entry.superclass, n)) count has)

pub invariant_of-self : goal.invariant_of-self
invariant_of-self c =
    let order = c.self.inside.order.items in
    let at = c.place-at.result in
    let number = c.len-number.result in
    let place = rw (c.deref.ensures.value, c.deref-2.ensures.value, c.bytes.ensures) at c.place-at.ensures in
    let numbers = c.insert.ensures.items ∙ ap (λ r. cond (is_ok r) (insert order at number) order) c.unwrap.ensures in
    let count : number ≡ length c.self.inside.entries.items = omega arith in
    let ordered : vec_len c.insert.new.self ≡ vec_len c.self.inside.order + 1 = c.insert.ensures.len ∙ ap (λ r. cond (is_ok r) (vec_len c.self.inside.order + 1) (vec_len c.self.inside.order)) c.unwrap.ensures in
    let pairs = c.self.inside.subclasses.items in
    let with = subst (λ n. IsWith pairs (c.args.entry.superclass, n) c.put_below.new.pairs.items) count c.put_below.ensures.with in
    let spare : c.self.inside.spare ≡ c.args.self.now.spare = ap (λ (t : Table). t.spare) c.self.view_is in
    record {
      kept = added_kept c.self.inside.entries.items order c.self.invariant.kept c.self.inside.spare c.args.self.now c.self.view_is c.args.entry c.requires.new c.requires.superclass
          c.push_reserved.new.self.items c.push_reserved.ensures.items c.insert.new.self.items at number numbers count place;
      indexed = subst (λ es. IsIndexed es c.put_below.new.pairs.items) (sym c.push_reserved.ensures.items)
          (indexed_more c.self.inside.entries.items pairs c.self.invariant.indexed c.args.entry c.put_below.new.pairs.items with);
      room = omega arith;
      order_room = omega arith;
      below_room = omega arith;
      numbers = omega arith;
    }

pub returns-clause-classes : goal.returns-clause-classes
returns-clause-classes c =
    added_classes c.self.inside.entries.items c.self.inside.order.items c.self.invariant.kept c.self.inside.spare c.args.self.now c.self.view_is c.args.entry c.requires.new c.requires.superclass
    c.push_reserved.new.self.items c.push_reserved.ensures.items

pub returns-clause-known : goal.returns-clause-known
returns-clause-known c =
    known_table c.push_reserved.new.self.items c.insert.new.self.items (invariant_of-self c).kept (c.self.inside.spare - 1) _ refl
