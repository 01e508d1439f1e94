-- The code of a system.
use Rattle.std.specs.Prelude.{refl}
use Rattle.std.specs.Coded.{Coded, code_by, coded×}
use Rattle.s80_verify.specs.contracts.verified.Verified.{the_row}
use Rattle.s80_dict.specs.Table.{MethodsValue, table_code as methods_code}
use Rattle.s80_class.specs.Table.{Table}
use Rattle.s80_class.specs.Kept.{table_code}
use Rattle.s80_apply.specs.Entries.{Entry}
use Rattle.s80_apply.specs.System.{SystemState}

abbrev pub system_code : Coded SystemState
system_code = code_by (Table × MethodsValue Entry) (coded× table_code (methods_code the_row.coded)) (λ s. (s.table, s.methods)) (λ p. record { table = p.0; methods = p.1 }) (λ _. refl)
