use Rattle.std.proofs.Common.{◌∙◌, refl, ap, sym, subst, set, IsSome, arith}
use Rattle.s80_class.proofs.Keeping.{names_rise, class_within}
use Rattle.s80_class.proofs.Calls.{entry_at, entry_of_class, entry_shown, is_entry_at, place_named, removed_at, removed_kept, removed_classes, removed_names}
use Rattle.s80_class.specs.Table.{Table, IsClass}
use Rattle.s80_class.specs.Kept.{IsKept}
use Rattle.s80_class.proofs.Families.{known_table}
use Rattle.s80_class.proofs.lemmas.Rows.{IsAt}
use Rattle.s80_class.specs.Below.{IsIndexed}
use Rattle.s80_class.proofs.Indexed.{is_there, indexed_less}
use Rattle.s80_class.proofs.tree.ClassTree.remove.Goals.{After-unwrap-old}
use Rattle.s80_class.proofs.tree.ClassTree.remove.Goals as goal

pub place-at-requires : goal.place-at-requires
place-at-requires c = rw (c.deref.ensures.value, c.deref-2.ensures.value) (names_rise c.self.inside.entries.items c.self.inside.order.items c.self.invariant.kept)

pub remove-requires : goal.remove-requires
remove-requires c =
    let es = c.self.inside.entries.items in
    let order = c.self.inside.order.items in
    let kept = c.self.invariant.kept in
    let spare = c.self.inside.spare in
    let table = c.args.self.now in
    let place = rw (c.deref.ensures.value, c.deref-2.ensures.value, c.name_in.ensures, c.deref-3.ensures.value) at c.place-at.ensures in
    let old = entry_of_class es order kept spare table c.self.view_is c.args.c c.requires.class in
    let within = removed_at es order kept spare table c.self.view_is c.args.c old.0 old.1 c.requires.alone c.place-at.result
    (place_named es order kept spare table c.self.view_is c.args.c old.0 old.1 c.place-at.result place) in
    omega (arith, within)

pub index_mut-requires : goal.index_mut-requires
index_mut-requires c =
    let class = subst (λ (t : Table). IsClass t.names c.args.c) (sym c.self.view_is) c.requires.class in
    omega (arith, class_within c.self.inside.entries.items c.self.inside.order.items c.self.invariant.kept c.args.c class)

pub unwrap-old-requires : goal.unwrap-old-requires
unwrap-old-requires c =
    let some = is_entry_at c.self.inside.entries.items c.self.inside.order.items c.self.invariant.kept c.self.inside.spare c.args.self.now c.self.view_is c.args.c c.index_mut.result.now
    c.requires.class c.index_mut.ensures.value in
    subst IsSome (sym (c.take.ensures.value ∙ some.1)) refl

-- the entry that was there
old_at : (c : After-unwrap-old) → IsAt c.self.inside.entries.items c.args.c c.unwrap-old.result
old_at c =
    entry_at c.self.inside.entries.items c.self.inside.order.items c.self.invariant.kept c.self.inside.spare c.args.self.now c.self.view_is c.args.c c.index_mut.result.now c.unwrap-old.result
    c.requires.class c.index_mut.ensures.value (sym c.take.ensures.value ∙ c.unwrap-old.ensures)

pub take_below-requires-clause-there : goal.take_below-requires-clause-there
take_below-requires-clause-there c = is_there c.self.inside.entries.items c.self.inside.subclasses.items c.self.invariant.indexed c.args.c c.unwrap-old.result (old_at (goal.at.take_below-requires-clause-there c).After-unwrap-old)

-- what is kept without it
kept_without : (c : After-unwrap-old) → IsKept (set c.self.inside.entries.items c.args.c c.take.new.self) c.remove.new.self.items
kept_without c =
    let es = c.self.inside.entries.items in
    let order = c.self.inside.order.items in
    let kept = c.self.invariant.kept in
    let spare = c.self.inside.spare in
    let table = c.args.self.now in
    let place = rw (c.deref.ensures.value, c.deref-2.ensures.value, c.name_in.ensures, c.deref-3.ensures.value) at c.place-at.ensures in
    removed_kept es order kept spare table c.self.view_is c.args.c c.unwrap-old.result (old_at c) c.requires.alone (set es c.args.c c.take.new.self) (ap (set es c.args.c) c.take.ensures.after)
    c.remove.new.self.items c.place-at.result c.remove.ensures.items (place_named es order kept spare table c.self.view_is c.args.c c.unwrap-old.result (old_at c) c.place-at.result place)

pub invariant_of-self : goal.invariant_of-self
invariant_of-self c =
    let es = c.self.inside.entries.items in
    record {
      kept = kept_without (goal.at.invariant_of-self c).After-unwrap-old;
      indexed = subst (λ o. IsIndexed (set es c.args.c o) c.take_below.new.pairs.items) (sym c.take.ensures.after)
          (indexed_less es c.self.inside.subclasses.items c.self.invariant.indexed c.args.c c.unwrap-old.result (old_at (goal.at.invariant_of-self c).After-unwrap-old) c.take_below.new.pairs.items c.take_below.ensures.without);
      room = c.self.invariant.room;
      order_room = omega (arith, c.self.invariant.order_room);
      below_room = omega (arith, c.self.invariant.below_room);
      numbers = c.self.invariant.numbers;
    }

pub returns-clause-old : goal.returns-clause-old
returns-clause-old c =
    entry_shown c.self.inside.entries.items c.self.inside.order.items c.self.invariant.kept c.self.inside.spare c.args.self.now c.self.view_is c.args.c c.unwrap-old.result (old_at (goal.at.returns-clause-old c).After-unwrap-old)

pub returns-clause-classes : goal.returns-clause-classes
returns-clause-classes c =
    let es = c.self.inside.entries.items in
    removed_classes es c.self.inside.order.items c.self.invariant.kept c.self.inside.spare c.args.self.now c.self.view_is c.args.c c.unwrap-old.result (old_at (goal.at.returns-clause-classes c).After-unwrap-old) c.requires.alone
    (set es c.args.c c.take.new.self) (ap (set es c.args.c) c.take.ensures.after)

pub returns-clause-names : goal.returns-clause-names
returns-clause-names c =
    let es = c.self.inside.entries.items in
    removed_names es c.self.inside.order.items c.self.invariant.kept c.self.inside.spare c.args.self.now c.self.view_is c.args.c c.unwrap-old.result (old_at (goal.at.returns-clause-names c).After-unwrap-old) c.requires.alone
    (set es c.args.c c.take.new.self) (ap (set es c.args.c) c.take.ensures.after)

pub returns-clause-known : goal.returns-clause-known
returns-clause-known c =
    known_table (set c.self.inside.entries.items c.args.c c.take.new.self) c.remove.new.self.items (kept_without (goal.at.returns-clause-known c).After-unwrap-old) c.self.inside.spare _ refl
