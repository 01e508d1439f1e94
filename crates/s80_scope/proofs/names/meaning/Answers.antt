use Rattle.std.proofs.Common.{◌<◌, length, sym, rules}
use Rattle.std.specs.Str.{bytes_eq}
use Rattle.s80_scope.proofs.lemmas.Places.{last_place_below}
use Rattle.s80_scope.proofs.names.meaning.Goals as goal

pub overflow_cast-result : goal.overflow_cast-result
overflow_cast-result c =
    let below : c.in-Some-last_variable.place < length c.args.shape.now.inst_vars = last_place_below (bytes_eq c.bytes-2.result.now) c.args.shape.now.inst_vars c.in-Some-last_variable.place (sym c.in-Some-last_variable.ensures) in
    search rules
