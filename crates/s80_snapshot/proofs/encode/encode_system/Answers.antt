use Rattle.std.proofs.Common.{◌∙◌, ◌<◌, ◌^◌, length, map, None, refl, sym, arith, rules}
use Rattle.std.proofs.lemmas.List.{length-map}
use Rattle.s80_image.specs.Classes.{class}
use Rattle.s80_image.specs.History.{noted, versions}
use Rattle.s80_image.specs.Image.{ImageView}
use Rattle.s80_image.specs.Spelling.{head_bytes, listed}
use Rattle.s80_snapshot.specs.Pictured.{versions_view}
use Rattle.s80_snapshot.proofs.Put.{all_of_map, in_four}
use Rattle.s80_snapshot.proofs.encode.encode_system.Goals as goal

pub returns : goal.returns
returns c =
    let system = c.args.system.now in
    let history = c.args.history.now in
    let count = c.args.count in
    let classes = c.in_ok-put_classes.ensures in
    let all = c.in_ok-put_all_versions.ensures in
    let image : ImageView = record { count = count; classes = classes.classes; change_set = history.members; versions = map (versions_view history) all.names } in (
      image,
      record { count_is = refl; classes = classes.are; change_set = refl; names = all.names; those = all.those; versions = refl },
      record {
        change_set = c.in_ok-put_change_set.ensures.short;
        versions = omega (arith, length-map all.names (versions_view history), all.short);
        places = all_of_map (λ v. length v.places < 2 ^ 32) (versions_view history) all.names all.places;
      },
      c.from_vec.ensures
          ∙ in_four c.put_head.new.out.items c.put_classes.new.out.items c.put_change_set.new.out.items c.put_all_versions.new.out.items (head_bytes count) (listed (class None).spell image.classes) (listed (noted None).spell image.change_set) (listed (versions None).spell image.versions)
          (search rules) classes.bytes c.in_ok-put_change_set.ensures.bytes all.bytes
          ∙ sym (c.lists_are_spelled_member_by_member.ensures.image image),
    )
