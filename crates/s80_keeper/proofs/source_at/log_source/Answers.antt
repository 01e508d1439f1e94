use Rattle.std.proofs.Common.{◌≡◌, ◌+◌, ◌≤◌, length, take, drop, ap, ◌∙◌, rules, tests}
use Rattle.s80_keeper.proofs.Pieces.{front_is, read_whole}
use Rattle.s80_keeper.proofs.source_at.log_source.Goals as goal

pub returns-clause-answer : goal.returns-clause-answer
returns-clause-answer g c = λ told.
    let reads = g.D.Disk.reads c.args.disk.now in
    let within : c.args.position + c.args.size ≤ c.args.log.now.end = search (rules, tests) in
    let filled : length c.read_at.new.buf ≡ c.in_ok-piece.piece.len = search rules in
    let whole : c.deref.result.now ≡ c.read_at.new.buf = c.deref.ensures.value ∙ front_is c.in_ok-piece.piece.len c.read_at.new.buf _ filled in
    let sized : length c.deref.result.now ≡ c.args.size = search rules in
    let some : c.in_ok-count.count ≤ length c.deref.result.now = search rules in
    let all : length c.deref.result.now ≤ c.in_ok-count.count = search rules in
    let same = ap (take c.in_ok-count.count) whole ∙ c.in_ok-count.ensures.bytes told ∙ ap (λ f. take c.in_ok-count.count (drop c.args.position (reads f))) c.file.ensures in
    read_whole _ c.deref.result.now c.args.log.now.end c.args.position c.args.size c.in_ok-count.count c.spelled_at.result within sized some all same c.spelled_at.ensures
