-- Good entries are lawful.
use Rattle.std.proofs.Common.{◌≡◌, ◌<◌, ◌^◌, ◌++◌, ℕ, Bool, true, false, nat_lt, refl, sym, subst, List, [], ◌∷◌, length, arith, w32, SFits}
use Rattle.std.specs.Prelude.{ℤ, pos, negsuc}
use Rattle.std.specs.Int.{cast_signed, cast_unsigned, to_be_bytes}
use Rattle.std.proofs.lemmas.Bool.Decides.{nat_tests}
use Rattle.std.proofs.lemmas.Int.{to_z-of_z}
use Rattle.s80_base.specs.Literal.{LiteralTree, LiteralTrees, small, character, str, symbol, array, true_literal, false_literal, nil_literal, number, no_literals, literals, kind_number}
use Rattle.s80_base.specs.SameLiteral.{same_number}
use Rattle.s80_base.specs.declared.literal.NumberKind.{NumberKind}
use Rattle.s80_base.specs.declared.literal.NumberKind.TheVariants.{Float, LargeNegative, LargePositive}
use Rattle.s80_base.specs.declared.names.Side.{Side}
use Rattle.s80_base.specs.declared.names.Side.TheVariants.{Instance, Class}
use Rattle.s80_code.specs.Entries.{EntryTree, constant, class_variable, outer, owner, extension}
use Rattle.s80_form.specs.Name.{is_class_name, is_name}
use Rattle.s80_image.specs.Format.{mapped, text}
use Rattle.s80_image.specs.Literals.{are_lawful_literals, count_of, entry, is_lawful_literal, literal_bytes, literals_bytes, number_kind_of, signed}
use Rattle.s80_image.specs.Methods.{frame}
use Rattle.s80_image.specs.Parts.{at_most, class_text, flag, name_text, side, source}
use Rattle.s80_snapshot.proofs.BriefLiterals.{AreBriefLiterals, IsBriefLiteral, IsSmall}
use Rattle.s80_snapshot.proofs.GoodEntries.{AreGood, IsGoodClass, IsGoodEntry, IsGoodWord}
use Rattle.s80_snapshot.proofs.PassingFormats.{AllPass, AreBytes, Passes, back_bytes, below, both_true, front_bytes, list_passes, pair_passes, text_where_passes, word32_passes}

-- ---- literals

same_self : (z : ℤ) → same_number z z ≡ true
same_self (pos n) = grind (arith, nat_tests)
same_self (negsuc n) = grind (arith, nat_tests)

fits : (z : ℤ) → IsSmall z → SFits w32 z
fits (pos n) low = record { sfits = omega (arith, low) }
fits (negsuc n) low = record { sfits = omega (arith, low) }

unsigned_below : (z : ℤ) → IsSmall z → cast_unsigned w32 z < 2 ^ 32
unsigned_below (pos n) low = omega (arith, low)
unsigned_below (negsuc n) low = omega arith

small_lawful : (z : ℤ) → IsSmall z → signed.lawful z ≡ true
small_lawful z low =
    both_true (nat_lt (cast_unsigned w32 z) (2 ^ 32)) (same_number (cast_signed w32 (cast_unsigned w32 z)) z) (below (cast_unsigned w32 z) (2 ^ 32) (unsigned_below z low))
    (subst (λ y. same_number y z ≡ true) (sym (to_z-of_z w32 z (fits z low))) (same_self z))

kind_lawful : (k : NumberKind) → (mapped number_kind_of kind_number (at_most 2)).lawful k ≡ true
kind_lawful LargePositive = refl
kind_lawful LargeNegative = refl
kind_lawful Float = refl

mutual
  literal_lawful : (v : LiteralTree) → IsBriefLiteral v → AreBytes (literal_bytes v) → is_lawful_literal v ≡ true
  literal_lawful (small z) brief bytes = small_lawful z brief
  literal_lawful (character c) brief bytes = below c 256 bytes.1.0
  literal_lawful (str t) brief bytes = below (length t) (2 ^ 32) brief
  literal_lawful (symbol t) brief bytes = below (length t) (2 ^ 32) brief
  literal_lawful (array vs) brief bytes =
      both_true (nat_lt (count_of vs) (2 ^ 32)) (are_lawful_literals vs) (below (count_of vs) (2 ^ 32) brief.0)
      (literals_lawful vs brief.1 (back_bytes (to_be_bytes w32 (count_of vs)) (literals_bytes vs) bytes.1))
  literal_lawful true_literal brief bytes = refl
  literal_lawful false_literal brief bytes = refl
  literal_lawful nil_literal brief bytes = refl
  literal_lawful (number k t) brief bytes = both_true ((mapped number_kind_of kind_number (at_most 2)).lawful k) (text.lawful t) (kind_lawful k) (below (length t) (2 ^ 32) brief)

  literals_lawful : (vs : LiteralTrees) → AreBriefLiterals vs → AreBytes (literals_bytes vs) → are_lawful_literals vs ≡ true
  literals_lawful no_literals brief bytes = refl
  literals_lawful (literals v vs) brief bytes =
      both_true (is_lawful_literal v) (are_lawful_literals vs) (literal_lawful v brief.0 (front_bytes (literal_bytes v) (literals_bytes vs) bytes))
      (literals_lawful vs brief.1 (back_bytes (literal_bytes v) (literals_bytes vs) bytes))

-- ---- entries

pub class_passes : (class : List ℕ) → IsGoodClass class → Passes class_text class
class_passes class good = text_where_passes is_class_name class good.brief good.named

pub word_passes : (word : List ℕ) → IsGoodWord word → Passes name_text word
word_passes word good = text_where_passes is_name word good.brief good.named

pub side_passes : (s : Side) → Passes side s
side_passes Instance bytes = refl
side_passes Class bytes = refl

pub flag_passes : (b : Bool) → Passes flag b
flag_passes true bytes = refl
flag_passes false bytes = refl

pub source_passes : (b : Bool) → Passes source b
source_passes true bytes = refl
source_passes false bytes = refl

entry_passes : (e : EntryTree) → IsGoodEntry e → Passes entry e
unfolding entry
entry_passes (constant v) good bytes = literal_lawful v good bytes
entry_passes (class_variable class word) good bytes = pair_passes class_text (λ _. name_text) (class, word) (class_passes class good.0) (word_passes word good.1) bytes.1
entry_passes (outer word) good bytes = word_passes word good bytes.1
entry_passes (owner class s) good bytes = pair_passes class_text (λ _. side) (class, s) (class_passes class good) (side_passes s) bytes.1
entry_passes (extension n) good bytes = word32_passes n good bytes.1

entries_pass : (before es : List EntryTree) → AreGood es → AllPass (λ _. entry) before es
entries_pass before [] good = tt
entries_pass before (e ∷ es) good = (entry_passes e good.0, entries_pass (before ++ e ∷ []) es good.1)

pub frame_passes : (es : List EntryTree) → length es < 2 ^ 32 → AreGood es → Passes frame es
unfolding frame
frame_passes es few good = list_passes (λ _. true) (λ _. entry) es few refl (entries_pass [] es good)
