use Rattle.std.proofs.Common.{◌++◌}
use Rattle.std.specs.Prelude.{None}
use Rattle.s80_image.specs.Classes.{names, variables}
use Rattle.s80_image.proofs.Spelled.{two, variables_pairs}
use Rattle.s80_image.proofs.encode.put_variables.Goals as goal

pub returns : goal.returns
returns c = let v = c.args.variables.now in two c.args.out.now.items c.put_both_names.new.out.items c.put_both_names-2.new.out.items ((names 0 None).spell v.instance ++ (names 0 None).spell v.class) ((names 0 None).spell v.pools ++ (names 0 None).spell v.class_side) ((variables None).spell v) c.in_ok-put_both_names.ensures c.in_ok-put_both_names-2.ensures (variables_pairs v)
