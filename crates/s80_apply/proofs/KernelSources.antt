-- Each of the kernel's sources, read.
use Rattle.std.proofs.Common.{◌≡◌, refl, Option, Some, None, Ok, is_some, true, List, ℕ, bytes_eq}
use Rattle.std.specs.List.{All, list_all}
use Rattle.std.specs.Prelude.{slice_index_or}
use Rattle.std.proofs.lemmas.List.Sums.{AllPass-from_list_all}
use Rattle.s80_lex.specs.Number.{number_literal}
use Rattle.s80_syntax.specs.Lexeme.{lexemes}
use Rattle.s80_syntax.specs.Word.{is_reserved}
use Rattle.s80_scope.specs.FitLiterals.{is_special}
use Rattle.s80_change.specs.Check.{IsCheckOf}
use Rattle.s80_kernel.specs.Methods.{kernel_methods}
use Rattle.s80_apply.proofs.KernelTold.{◌>>=◌, told}
use Rattle.s80_apply.proofs.KernelScan.{tokens_in}
use Rattle.s80_apply.proofs.KernelMarks.{same_bytes}
use Rattle.s80_apply.proofs.KernelMethods.{method_in}
use Rattle.s80_apply.proofs.KernelLawful.{lawful_method}
use Rattle.s80_apply.proofs.KernelSizes.{is_small, small_fits}

-- a source that is a method of this selector and fits
abbrev fitting : (source selector : List ℕ) → Option (IsCheckOf source (Ok selector))
fitting source selector = do
  t ← tokens_in source
  m ← method_in (lexemes source t.tokens)
  lawful ← lawful_method m.0
  small ← told (is_small m.0)
  same ← told (bytes_eq selector m.0.selector)
  Some (m.0, record { tokens = t.tokens; are_tokens = t.are_tokens; method = m.1; lawful = lawful }, small_fits m.0 small, same_bytes selector m.0.selector same)

of_some : {P : Type 0} (o : Option P) → is_some o ≡ true → P
of_some None e = absurd (cc)
of_some (Some x) e = x

all_of : {X : Type 0} (P : X → Type 0) (test : (x : X) → Option (P x)) (xs : List X) → list_all (λ x. is_some (test x)) xs ≡ true → All P xs
all_of P test xs e = λ k d below. of_some (test (slice_index_or xs k d)) (AllPass-from_list_all (λ x. is_some (test x)) xs e k d below)

all_read : list_all (λ row. is_some (fitting row.source row.selector)) kernel_methods ≡ true
unfolding kernel_methods number_literal is_reserved is_special
all_read = refl

pub all_fit : All (λ row. IsCheckOf row.source (Ok row.selector)) kernel_methods
all_fit = all_of (λ row. IsCheckOf row.source (Ok row.selector)) (λ row. fitting row.source row.selector) kernel_methods all_read
