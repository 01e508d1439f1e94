use Rattle.std.proofs.Common.{◌≡◌, ◌≤◌, ◌∙◌, ◌++◌, ℕ, List, length, Some, refl, sym, ap, arith}
use Rattle.std.specs.Prelude.{slice_get}
use Rattle.std.specs.FinMap as finmap
use Rattle.s80_snapshot.specs.Put.{method_put}
use Rattle.s80_snapshot.proofs.Pieces.{all_of_them, none_yet, one_more}
use Rattle.s80_snapshot.proofs.Put.{methods_listed}
use Rattle.s80_snapshot.proofs.encode.put_methods.Goals as goal

pub loop-i-init : goal.loop-i-init
loop-i-init c =
    let m = c.args.methods.now.methods in
    let keys = finmap.keys m in
    none_yet (λ k. method_put k (finmap.get m k)) keys c.args.out.now.items (length keys) c.count.result c.put_count.new.out.items (c.count.ensures ∙ ap length c.in_ok-selectors.ensures) c.in_ok-put_count.ensures.bytes

pub loop-i-preserved : goal.loop-i-preserved
loop-i-preserved c =
    let m = c.args.methods.now.methods in
    let keys = finmap.keys m in
    let selector = c.at.result.now in
    let read : slice_get keys c.loop-i.i ≡ Some selector = ap (λ (ks : List (List ℕ)). slice_get ks c.loop-i.i) (sym c.in_ok-selectors.ensures) ∙ c.at.ensures in
    one_more (λ k. method_put k (finmap.get m k)) keys c.args.out.now.items (length keys) c.loop-i.i selector c.loop-i.out.items c.put_method_at.new.out.items read c.loop-i.invariant c.in_ok-put_method_at.ensures

pub returns : goal.returns
returns c =
    let m = c.args.methods.now.methods in
    let keys = finmap.keys m in
    let past : length keys ≤ c.loop-i.i = omega (arith, c.loop-i-test.false, c.count-i-end.ensures, ap length c.in_ok-selectors.ensures) in
    all_of_them (λ k. method_put k (finmap.get m k)) keys c.args.out.now.items (length keys) c.loop-i.i c.loop-i.out.items past refl c.loop-i.invariant
    ∙ ap (λ b. c.args.out.now.items ++ b) (methods_listed m)
