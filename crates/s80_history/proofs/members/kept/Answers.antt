use Rattle.s80_history.proofs.Counting.{kept_read, left_read}
use Rattle.s80_history.proofs.members.kept.Goals as goal

pub returns-then-members-member : goal.returns-then-members-member
returns-then-members-member c =
    kept_read c.args.members.now c.args.i c.index-members-i.result c.index-members-member.result c.requires.within c.requires.groups c.index-members-i.is c.index-members-member.is c.if-members-member.true

pub returns-else-members-member : goal.returns-else-members-member
returns-else-members-member c =
    left_read c.args.members.now c.args.i c.index-members-i.result c.index-members-member.result c.requires.within c.requires.groups c.index-members-i.is c.index-members-member.is c.if-members-member.false
