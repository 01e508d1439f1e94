-- The mark that bytes spell, field by field.
use Rattle.std.proofs.Common.{◌≡◌, ℕ, List, ◌∙◌, ap}
use Rattle.std.specs.Prelude.{slice_index, ◌==◌, if◌then◌else◌}
use Rattle.s80_mark.specs.declared.mark.MarkState.{MarkState}
use Rattle.s80_mark.specs.Mark.{format_two, word_at, count_in, mark_of}

-- behind the format of marks that count there is their count
count_is : (bytes : List ℕ) (format count : ℕ) → format ≡ format_two → word_at bytes 35 ≡ count → count_in format bytes ≡ count
count_is bytes format count two is = ap (λ (f : ℕ). if f == 0 then 0 else word_at bytes 35) two ∙ is

pub spelled : (bytes : List ℕ) (mark : MarkState) → mark.format ≡ format_two → word_at bytes 0 ≡ mark.sequence → slice_index bytes 8 ≡ mark.log → word_at bytes 9 ≡ mark.log_length → slice_index bytes 17 ≡ mark.image → word_at bytes 18 ≡ mark.image_length → word_at bytes 26 ≡ mark.image_position → slice_index bytes 34 ≡ mark.format → word_at bytes 35 ≡ mark.count → mark_of bytes ≡ mark
spelled bytes mark two sequence log log_length image image_length image_position format count =
    let counted = count_is bytes (slice_index bytes 34) mark.count (format ∙ two) count in
    λ i. record {
      sequence = sequence i;
      log = log i;
      log_length = log_length i;
      image = image i;
      image_length = image_length i;
      image_position = image_position i;
      format = format i;
      count = counted i;
    }
