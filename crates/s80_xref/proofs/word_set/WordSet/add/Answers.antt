use Rattle.std.proofs.Common.{◌≡◌, ◌≤◌, ◌∙◌, ◌||◌, length, ap, arith, rules}
use Rattle.std.specs.List.{list_any}
use Rattle.std.specs.Str.{bytes_eq}
use Rattle.std.proofs.lemmas.List.{take_all}
use Rattle.s80_xref.proofs.WordSets.{added_before}
use Rattle.s80_xref.proofs.word_set.WordSet.add.Goals as goal

pub loop-i-preserved : goal.loop-i-preserved
loop-i-preserved c =
    let same : c.in_ok-to_vec.field-0.items ≡ c.at.result.now = search rules in
    λ other.
    added_before (bytes_eq other) c.args.words.now c.loop-i.i c.at.result.now (list_any (bytes_eq other) c.args.self.now) (list_any (bytes_eq other) c.loop-i.self) (list_any (bytes_eq other) c.insert.new.self)
    (bytes_eq other c.in_ok-to_vec.field-0.items) c.at.ensures (c.loop-i.invariant other) (ap (bytes_eq other) same) (c.in_ok-insert.ensures other)

pub returns : goal.returns
returns c = λ other.
    let past : length c.args.words.now ≤ c.loop-i.i = omega (arith, c.loop-i-test.false, c.count-i-end.ensures) in
    c.loop-i.invariant other ∙ ap (λ words. list_any (bytes_eq other) c.args.self.now || list_any (bytes_eq other) words) (take_all c.loop-i.i c.args.words.now past)
