use Rattle.std.proofs.Common.{◌∙◌, refl, ap, sym, subst, set, arith}
use Rattle.s80_class.proofs.lemmas.Rows.{IsAt}
use Rattle.s80_class.proofs.Calls.{entry_at, entry_shown, replaced_kept, replaced_classes, replaced_names}
use Rattle.s80_class.specs.Kept.{IsKept}
use Rattle.s80_class.proofs.Families.{known_table}
use Rattle.s80_class.specs.Below.{IsIndexed}
use Rattle.s80_class.proofs.Indexed.{is_there, one_superclass, indexed_other}
use Rattle.s80_class.proofs.tree.ClassTree.replace.Goals.{After-unwrap-old}
use Rattle.s80_class.proofs.tree.ClassTree.replace.Goals as goal

-- the entry that was there
old_at : (c : After-unwrap-old) → IsAt c.self.inside.entries.items c.args.c c.unwrap-old.result
old_at c =
    entry_at c.self.inside.entries.items c.self.inside.order.items c.self.invariant.kept c.self.inside.spare c.args.self.now c.self.view_is c.args.c c.index_mut.result.now c.unwrap-old.result
    (c.args.entry.class_name, c.requires.named) c.index_mut.ensures.value (sym c.replace.ensures.value ∙ c.unwrap-old.ensures)

pub move_below-requires-clause-there : goal.move_below-requires-clause-there
move_below-requires-clause-there c = is_there c.self.inside.entries.items c.self.inside.subclasses.items c.self.invariant.indexed c.args.c c.unwrap-old.result (old_at (goal.at.move_below-requires-clause-there c).After-unwrap-old)

pub move_below-requires-clause-one : goal.move_below-requires-clause-one
move_below-requires-clause-one c = one_superclass c.self.inside.entries.items c.self.inside.subclasses.items c.self.invariant.indexed c.args.c c.unwrap-old.result (old_at (goal.at.move_below-requires-clause-one c).After-unwrap-old)

-- what is kept with the new entry
kept_with : (c : After-unwrap-old) → IsKept (set c.self.inside.entries.items c.args.c c.replace.new.self) c.self.inside.order.items
kept_with c =
    let es = c.self.inside.entries.items in
    replaced_kept es c.self.inside.order.items c.self.invariant.kept c.self.inside.spare c.args.self.now c.self.view_is c.args.c c.unwrap-old.result c.args.entry (old_at c) c.requires.named
    (set es c.args.c c.replace.new.self) (ap (set es c.args.c) c.replace.ensures.after) c.requires.superclass

pub invariant_of-self : goal.invariant_of-self
invariant_of-self c =
    let es = c.self.inside.entries.items in
    record {
      kept = kept_with (goal.at.invariant_of-self c).After-unwrap-old;
      indexed = subst (λ o. IsIndexed (set es c.args.c o) c.move_below.new.pairs.items) (sym c.replace.ensures.after)
          (indexed_other es c.self.inside.subclasses.items c.self.invariant.indexed c.args.c c.unwrap-old.result (old_at (goal.at.invariant_of-self c).After-unwrap-old) c.args.entry c.move_below.new.pairs.items c.move_below.ensures.moved);
      room = c.self.invariant.room;
      order_room = c.self.invariant.order_room;
      below_room = omega (arith, c.self.invariant.below_room);
      numbers = c.self.invariant.numbers;
    }

pub returns-clause-old : goal.returns-clause-old
returns-clause-old c =
    entry_shown c.self.inside.entries.items c.self.inside.order.items c.self.invariant.kept c.self.inside.spare c.args.self.now c.self.view_is c.args.c c.unwrap-old.result (old_at (goal.at.returns-clause-old c).After-unwrap-old)

pub returns-clause-classes : goal.returns-clause-classes
returns-clause-classes c =
    let es = c.self.inside.entries.items in
    replaced_classes es c.self.inside.order.items c.self.invariant.kept c.self.inside.spare c.args.self.now c.self.view_is c.args.c c.unwrap-old.result c.args.entry (old_at (goal.at.returns-clause-classes c).After-unwrap-old) c.requires.named
    (set es c.args.c c.replace.new.self) (ap (set es c.args.c) c.replace.ensures.after)

pub returns-clause-names : goal.returns-clause-names
returns-clause-names c =
    let es = c.self.inside.entries.items in
    replaced_names es c.self.inside.order.items c.self.invariant.kept c.self.inside.spare c.args.self.now c.self.view_is c.args.c c.unwrap-old.result c.args.entry (old_at (goal.at.returns-clause-names c).After-unwrap-old) c.requires.named
    (set es c.args.c c.replace.new.self) (ap (set es c.args.c) c.replace.ensures.after)

pub returns-clause-known : goal.returns-clause-known
returns-clause-known c =
    known_table (set c.self.inside.entries.items c.args.c c.replace.new.self) c.self.inside.order.items (kept_with (goal.at.returns-clause-known c).After-unwrap-old) c.self.inside.spare _ refl
