use Rattle.s80_form.proofs.read.by_word.Goals as goal

pub returns-in-InstanceVariableNames : goal.returns-in-InstanceVariableNames
returns-in-InstanceVariableNames c = rw c.in-InstanceVariableNames.is c.class_vars.ensures

pub returns-in-Comment : goal.returns-in-Comment
returns-in-Comment c = rw c.in-Comment.is c.comment.ensures

pub returns-in-RemoveClassNamed : goal.returns-in-RemoveClassNamed
returns-in-RemoveClassNamed c = rw c.in-RemoveClassNamed.is c.removed_class.ensures
