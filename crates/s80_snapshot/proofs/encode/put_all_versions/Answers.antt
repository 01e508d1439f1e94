use Rattle.std.proofs.Common.{◌≡◌, ◌<◌, ◌≤◌, ◌∙◌, ◌^◌, ◌++◌, ◌+◌, ◌∷◌, [], List, length, take, None, Some, refl, sym, ap, arith}
use Rattle.std.specs.Prelude.{slice_get}
use Rattle.std.proofs.lemmas.List.{take_all}
use Rattle.std.proofs.lemmas.List.Elements.{All-nil, All-push, All-same}
use Rattle.s80_history.specs.Lists.{MethodName}
use Rattle.s80_history.specs.Order.{AreMethodsOf}
use Rattle.s80_image.specs.History.{versions}
use Rattle.s80_snapshot.specs.Pictured.{versions_view}
use Rattle.s80_snapshot.proofs.Pieces.{all_of_them, is_past, is_within, listed_map, none_yet, one_more, take_next}
use Rattle.s80_snapshot.proofs.encode.put_all_versions.Goals as goal

pub loop-class_name-init : goal.loop-class_name-init
loop-class_name-init c = λ names are.
    let history = c.args.history.now in
    (none_yet (λ name. (versions None).spell (versions_view history name)) names c.args.out.now.items c.key_count-count.result c.key_count-count.result c.put_count.new.out.items refl c.in_ok-put_count.ensures.bytes, All-nil (λ name. length (versions_view history name).places < 2 ^ 32))

pub loop-class_name-preserved : goal.loop-class_name-preserved
loop-class_name-preserved c = λ names are.
    let history = c.args.history.now in
    let i = c.loop-class_name.i in
    let name : MethodName = record { class_name = c.in-Some.class_name.now; side = c.in-Some.side; selector = c.in-Some.selector.now } in
    let read : slice_get names i ≡ Some name = sym (c.in-Some.ensures.key names are) in
    let so_far = c.loop-class_name.invariant names are in (
      one_more (λ name. (versions None).spell (versions_view history name)) names c.args.out.now.items c.key_count-count.result i name c.loop-class_name.out.items c.put_versions_of.new.out.items read so_far.0 c.in_ok-put_versions_of.ensures.bytes,
      All-same (λ name. length (versions_view history name).places < 2 ^ 32) (take (i + 1) names) (take i names ++ name ∷ []) (take_next names i name read) (All-push (λ name. length (versions_view history name).places < 2 ^ 32) (take i names) name so_far.1 c.in_ok-put_versions_of.ensures.short),
    )

pub loop-class_name-smaller : goal.loop-class_name-smaller
loop-class_name-smaller c =
    let names = c.in-Some.ensures.names in
    let name : MethodName = record { class_name = c.in-Some.class_name.now; side = c.in-Some.side; selector = c.in-Some.selector.now } in
    omega (arith, is_within names.0 c.loop-class_name.i name (sym (c.in-Some.ensures.key names.0 names.1)), c.key_count-count.ensures names.0 names.1)

pub returns : goal.returns
returns c =
    let history = c.args.history.now in
    let names : (names : List MethodName) × AreMethodsOf history names = c.key_at.ensures.names in
    let so_far = c.loop-class_name.invariant names.0 names.1 in
    let past : length names.0 ≤ c.loop-class_name.i = is_past names.0 c.loop-class_name.i (sym (c.in_default.ensures.key names.0 names.1)) in
    let counted : c.key_count-count.result ≡ length names.0 = c.key_count-count.ensures names.0 names.1 in
    record {
      names = names.0;
      those = names.1;
      short = omega (arith, counted, c.in_ok-put_count.ensures.short);
      places = All-same (λ name. length (versions_view history name).places < 2 ^ 32) names.0 (take c.loop-class_name.i names.0) (sym (take_all c.loop-class_name.i names.0 past)) so_far.1;
      bytes = all_of_them (λ name. (versions None).spell (versions_view history name)) names.0 c.args.out.now.items c.key_count-count.result c.loop-class_name.i c.loop-class_name.out.items past (sym counted) so_far.0
          ∙ ap (λ b. c.args.out.now.items ++ b) (sym (listed_map (versions None).spell (versions_view history) names.0));
    }
