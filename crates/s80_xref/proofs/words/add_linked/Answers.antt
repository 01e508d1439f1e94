use Rattle.std.proofs.Common.{◌≡◌, ◌≤◌, ◌∙◌, ◌||◌, Some, length, ap, arith}
use Rattle.std.specs.Prelude.{slice_get}
use Rattle.std.specs.FinMap as finmap
use Rattle.std.specs.List.{list_any}
use Rattle.std.specs.Str.{bytes_eq}
use Rattle.std.proofs.lemmas.List.{take_all}
use Rattle.s80_xref.specs.Links.{is_linked}
use Rattle.s80_xref.proofs.WordSets.{added_behind}
use Rattle.s80_xref.proofs.words.add_linked.Goals as goal

pub loop-i-preserved : goal.loop-i-preserved
loop-i-preserved c =
    let methods = c.args.methods.now.methods in
    let selector = c.at.result.now in
    let read : slice_get (finmap.keys methods) c.loop-i.i ≡ Some selector = cc (c.at.ensures, c.in_ok-selectors.ensures) in
    λ word.
    added_behind (is_linked methods c.args.link word) (finmap.keys methods) c.loop-i.i selector (list_any (bytes_eq word) c.args.words.now) (list_any (bytes_eq word) c.loop-i.words) (list_any (bytes_eq word) c.add.new.self)
    (list_any (bytes_eq word) c.in_ok-more.more) read (c.loop-i.invariant word) (c.in_ok-more.ensures word) (c.in_ok-add.ensures word)

pub returns : goal.returns
returns c = λ word.
    let methods = c.args.methods.now.methods in
    let past : length (finmap.keys methods) ≤ c.loop-i.i = omega (arith, c.loop-i-test.false, c.count-i-end.ensures, ap length c.in_ok-selectors.ensures) in
    c.loop-i.invariant word ∙ ap (λ ks. list_any (bytes_eq word) c.args.words.now || list_any (is_linked methods c.args.link word) ks) (take_all c.loop-i.i (finmap.keys methods) past)
