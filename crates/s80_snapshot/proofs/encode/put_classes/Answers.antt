use Rattle.std.proofs.Common.{◌≡◌, ◌≤◌, ◌∙◌, ◌++◌, length, Some, refl, ap, subst, arith}
use Rattle.std.specs.Prelude.{slice_get}
use Rattle.std.specs.FinMap as finmap
use Rattle.s80_class.specs.Classes.{Classes}
use Rattle.s80_class.specs.Known.{IsKnown}
use Rattle.s80_class.specs.Table.{Table}
use Rattle.s80_snapshot.specs.Pictured.{classes_view}
use Rattle.s80_snapshot.specs.Put.{class_put}
use Rattle.s80_snapshot.proofs.Pieces.{all_of_them, none_yet, one_more}
use Rattle.s80_snapshot.proofs.Put.{classes_listed, keys_counted}
use Rattle.s80_snapshot.proofs.Shown.{is_shown, state_shown}
use Rattle.s80_snapshot.proofs.encode.put_classes.Goals as goal

pub loop-i-init : goal.loop-i-init
loop-i-init c = λ state is.
    let classes : c.classes-classes.result.now.classes ≡ state.classes = ap (λ (t : Table). t.classes) c.classes-classes.ensures.table ∙ is.classes in
    none_yet (λ k. class_put state k (finmap.get state.classes k)) (finmap.keys state.classes) c.args.out.now.items (finmap.len state.classes) c.count.result c.put_count.new.out.items (c.count.ensures.count ∙ ap (λ (cs : Classes). finmap.len cs) classes) c.in_ok-put_count.ensures.bytes

pub loop-i-preserved : goal.loop-i-preserved
loop-i-preserved c = λ state is.
    let name = c.at.result.now in
    let read : slice_get (finmap.keys state.classes) c.loop-i.i ≡ Some name = cc (c.at.ensures, c.in_ok-names.ensures, c.classes-classes.ensures.table, is.classes) in
    one_more (λ k. class_put state k (finmap.get state.classes k)) (finmap.keys state.classes) c.args.out.now.items (finmap.len state.classes) c.loop-i.i name c.loop-i.out.items c.put_class.new.out.items read (c.loop-i.invariant state is) (c.in_ok-put_class.ensures state is)

pub returns : goal.returns
returns c =
    let system = c.args.system.now in
    let state = state_shown system in
    let is = is_shown system (subst IsKnown c.classes-classes.ensures.table c.count.ensures.known) in
    let past : length (finmap.keys state.classes) ≤ c.loop-i.i = omega (arith, c.loop-i-test.false, c.count-i-end.ensures, ap length c.in_ok-names.ensures, ap (λ (t : Table). length (finmap.keys t.classes)) c.classes-classes.ensures.table) in
    record {
      classes = classes_view state;
      are = record { state = state; shown = is; classes_are = refl };
      bytes = all_of_them (λ k. class_put state k (finmap.get state.classes k)) (finmap.keys state.classes) c.args.out.now.items (finmap.len state.classes) c.loop-i.i c.loop-i.out.items past (keys_counted state) (c.loop-i.invariant state is)
          ∙ ap (λ b. c.args.out.now.items ++ b) (classes_listed state);
    }
