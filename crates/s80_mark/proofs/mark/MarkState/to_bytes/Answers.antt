use Rattle.std.proofs.Common.{List, ℕ, ◌++◌, ◌∙◌, ap, replicate, rules}
use Rattle.std.specs.Prelude.{slice_set}
use Rattle.std.specs.Int.{w64, from_be_bytes}
use Rattle.std.proofs.lemmas.Nat.{from_be_bytes-to_be_bytes_8}
use Rattle.std.proofs.lemmas.Slice.{between-put_mid}
use borrow.Rule.Slice.PartMut.{put_mid}
use Rattle.s80_mark.proofs.Spelling.{spelled}
use Rattle.s80_mark.proofs.mark.MarkState.to_bytes.Goals as goal

pub returns : goal.returns
returns c =
    -- the bytes up to the format, and the count behind them
    let front : List ℕ = slice_set (put_mid 26 8 (put_mid 18 8 (slice_set (put_mid 9 8 (slice_set (c.copy_from_slice.new.self ++ replicate 35 0) 8 c.args.self.log) c.copy_from_slice-2.new.self) 17 c.args.self.image) c.copy_from_slice-3.new.self) c.copy_from_slice-4.new.self) 34 c.args.self.format in
    let last : List ℕ = c.copy_from_slice-5.new.self in
    spelled (put_mid 35 8 front last) c.args.self c.requires (search rules) (search rules) (search rules) (search rules) (search rules) (search rules) (search rules)
    (ap (from_be_bytes w64) (between-put_mid 35 8 front last 43 (search rules) (search rules) ∙ c.copy_from_slice-5.ensures.after ∙ c.to_be_bytes-5.ensures) ∙ from_be_bytes-to_be_bytes_8 c.args.self.count (search rules))
