use Rattle.std.proofs.Common.{◌≡◌, length, rules}
use Rattle.s80_history.proofs.Counting.{added_new}
use Rattle.s80_history.proofs.members.add.Goals as goal

pub returns-then-is_new : goal.returns-then-is_new
returns-then-is_new c =
    let number : c.len-number.result ≡ length c.args.members.now.items = search rules in
    added_new c.args.members.now.items c.push_reserved.new.self.items c.args.noted c.args.group c.len-number.result c.index_mut.result.now c.push_reserved.ensures.items number c.requires.group
    c.index_mut.ensures.value c.if-is_new.ensures
