-- A second has one moment, and changes that are filed out in it have one file.
use Rattle.std.proofs.Common.{◌≡◌, ◌∙◌, ◌++◌, ℕ, ℤ, nat_abs, sym, ap, List, [], ◌∷◌}
use Rattle.jiff_core.specs.declared.civil.datetime.DateTime.{DateTime}
use Rattle.jiff_core.proofs.DateLemmas.{epoch_day_injective}
use Rattle.jiff_core.proofs.DateTimeLemmas.{civil_nanos_injective, time_nanos_injective}
use Rattle.s80_change.specs.declared.change.Change.{Change}
use Rattle.s80_fileout.specs.FileText.{changes_text, header, IsFile}
use Rattle.s80_fileout.specs.Moment.{civil_text, four_digits, two_digits, IsCivil, IsMoment}

-- what a civil time shows, by its parts
abbrev shown : ℤ → ℕ → ℕ → ℕ → ℕ → ℕ → List ℕ
shown year month day hour minute second =
    (four_digits (nat_abs year) ++ (45 ∷ two_digits month ++ (45 ∷ two_digits day))) ++ (84 ∷ two_digits hour ++ (58 ∷ two_digits minute ++ (58 ∷ two_digits second ++ (90 ∷ []))))

one_text : (seconds : ℕ) (one other : DateTime) → IsCivil seconds one → IsCivil seconds other → civil_text other ≡ civil_text one
one_text seconds one other civil also =
    let parts = civil_nanos_injective other one (also ∙ sym civil) in
    let date = epoch_day_injective other.date one.date parts.0 in
    let time = time_nanos_injective other.time one.time parts.1 in
    λ i. shown (date.0 i) (date.1 i) (date.2 i) (time.0 i) (time.1 i) (time.2 i)

pub one_moment : (seconds : ℕ) (one other : List ℕ) → IsMoment seconds one → IsMoment seconds other → other ≡ one
one_moment seconds one other (dt, civil, is) (also_dt, also_civil, also_is) = also_is ∙ one_text seconds dt also_dt civil also_civil ∙ sym is

pub one_file : (changes : List Change) (seconds : ℕ) (one other : List ℕ) → IsFile changes seconds one → IsFile changes seconds other → other ≡ one
one_file changes seconds one other (moment, file) (also_moment, also_file) =
    also_file.whole ∙ ap (λ m. header m ++ changes_text changes) (one_moment seconds moment also_moment file.at also_file.at) ∙ sym file.whole
