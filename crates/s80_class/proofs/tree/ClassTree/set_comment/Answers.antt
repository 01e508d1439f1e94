use Rattle.std.proofs.Common.{◌∙◌, refl, ap, sym, Some}
use Rattle.std.specs.Option.{option_copied_mut}
use Rattle.s80_class.specs.Classes.{change_row, with_comment}
use Rattle.s80_class.proofs.lemmas.Rows.{IsAt}
use Rattle.s80_class.proofs.Calls.{entry_at}
use Rattle.s80_class.proofs.Families.{known_table}
use Rattle.s80_class.proofs.Commenting.{old_comment, commented_kept, commented_names, commented_classes, commented_indexed}
use Rattle.s80_class.proofs.tree.ClassTree.set_comment.Goals.{After-replace}
use Rattle.s80_class.proofs.tree.ClassTree.set_comment.Goals as goal

-- the entry that was there
old_at : (c : After-replace) → IsAt c.self.inside.entries.items c.args.c c.unwrap-entry.result.now
old_at c =
    entry_at c.self.inside.entries.items c.self.inside.order.items c.self.invariant.kept c.self.inside.spare c.args.self.now c.self.view_is c.args.c c.index_mut.result.now c.unwrap-entry.result.now
    c.requires c.index_mut.ensures.value (sym c.as_mut.ensures.value ∙ ap option_copied_mut c.unwrap-entry.ensures)

pub invariant_of-self : goal.invariant_of-self
invariant_of-self c =
    let es = c.self.inside.entries.items in
    let order = c.self.inside.order.items in
    let at = old_at (goal.at.invariant_of-self c).After-replace in
    record {
      kept = commented_kept es order c.self.invariant.kept c.self.inside.spare c.args.self.now c.self.view_is c.args.c c.unwrap-entry.result.now at c.replace.new.dest;
      indexed = commented_indexed es order c.self.invariant.kept c.self.inside.spare c.args.self.now c.self.view_is c.args.c c.unwrap-entry.result.now at c.replace.new.dest
          c.self.inside.subclasses.items c.self.invariant.indexed;
      room = c.self.invariant.room;
      order_room = c.self.invariant.order_room;
      below_room = c.self.invariant.below_room;
      numbers = c.self.invariant.numbers;
    }

pub returns-clause-old : goal.returns-clause-old
returns-clause-old c = λ name named.
    old_comment c.self.inside.entries.items c.self.inside.order.items c.self.invariant.kept c.self.inside.spare c.args.self.now c.self.view_is c.args.c c.unwrap-entry.result.now
    (old_at (goal.at.returns-clause-old c).After-replace) name named
    ∙ ap Some (sym c.replace.ensures.value)

pub returns-clause-classes : goal.returns-clause-classes
returns-clause-classes c = λ name named.
    commented_classes c.self.inside.entries.items c.self.inside.order.items c.self.invariant.kept c.self.inside.spare c.args.self.now c.self.view_is c.args.c c.unwrap-entry.result.now
    (old_at (goal.at.returns-clause-classes c).After-replace) c.replace.new.dest name named
    ∙ ap (λ text. change_row (with_comment text) name c.args.self.now.classes) c.replace.ensures.after

pub returns-clause-names : goal.returns-clause-names
returns-clause-names c =
    commented_names c.self.inside.entries.items c.self.inside.order.items c.self.invariant.kept c.self.inside.spare c.args.self.now c.self.view_is c.args.c c.unwrap-entry.result.now
    (old_at (goal.at.returns-clause-names c).After-replace) c.replace.new.dest

pub returns-clause-known : goal.returns-clause-known
returns-clause-known c =
    known_table _ c.self.inside.order.items
    (commented_kept c.self.inside.entries.items c.self.inside.order.items c.self.invariant.kept c.self.inside.spare c.args.self.now c.self.view_is c.args.c c.unwrap-entry.result.now
    (old_at (goal.at.returns-clause-known c).After-replace) c.replace.new.dest)
    c.self.inside.spare _ refl
