-- Operands within their range, selectors of special messages, and one number of parameters for each selector.
use Rattle.std.proofs.Common.{◌≡◌, ◌∙◌, ap, sym, subst, refl, ℕ, ◌-◌, ◌≤◌, ◌==◌, inl, inr, cond, find, List, [], ◌∷◌, Option, Some, None, Bool, true, false, drop, get_or, slice_get, nat_le, arith, if◌then◌else◌}
use Rattle.std.specs.Option.{option_map_or}
use Rattle.std.specs.List.{AllByRecursion}
use Rattle.std.proofs.lemmas.Bool.Decides.{nat_tests}
use Rattle.s80_code.specs.declared.instruction.Instruction.{Instruction}
use Rattle.s80_code.specs.declared.instruction.Instruction.TheVariants.{PushFixed, ReturnFixed, SendSpecial}
use Rattle.s80_code.specs.Special.{special_arguments, special_selectors}
use Rattle.s80_code.specs.Table.{Form, alone, with_one, with_two, Row, rows, has, row_of, formed, decoded, Stands}
use Rattle.s80_code.proofs.lemmas.TableLemmas.{value, by_row, holds_below, below_holds}
use Rattle.s80_lex.specs.Selector.{IsSelectorOf, is_name, is_binary, keywords_of}
use Rattle.s80_lex.proofs.lemmas.SelectorLemmas.{name_is, binary_is, keywords_then, keywords_when, name_no_binary, name_is_none, binary_is_none, none_some}
use Rattle.s80_machine.proofs.lemmas.SoundLists.{both_true, same_number}

abbrev pub IsInRange : Instruction → Type 0
IsInRange (PushFixed n) = n ≤ 7
IsInRange (ReturnFixed n) = n ≤ 7
IsInRange (SendSpecial n) = n ≤ 31
IsInRange _ = Unit {0}

abbrev FormIsInRange : ℕ → Form → Type 0
FormIsInRange most (alone f) = (i : ℕ) → i ≤ most → IsInRange (f i)
FormIsInRange most (with_one f) = (i b : ℕ) → IsInRange (f i b)
FormIsInRange most (with_two f) = (i b c : ℕ) → IsInRange (f i b c)

abbrev RowIsInRange : Row → Type 0
RowIsInRange r = FormIsInRange (r.last - r.first) r.form

found_with : {A : Type 0} (P : A → Type 0) (p : A → Bool) (xs : List A) (x : A) → AllByRecursion P xs → find p xs ≡ Some x → P x × (p x ≡ true)
found_with P p [] x all e = cc
found_with P p (y ∷ ys) x all e = by_test (p y) refl (found_with P p ys x all.1) e
  where
    by_test : (b : Bool) → p y ≡ b → (find p ys ≡ Some x → P x × (p x ≡ true)) → cond b (Some y) (find p ys) ≡ Some x → P x × (p x ≡ true)
    by_test true is later e = (subst P (value e) all.0, subst (λ z. p z ≡ true) (value e) is)
    by_test false is later e = later e

rows_in_range : AllByRecursion RowIsInRange rows
rows_in_range = search arith

below_last : (b : ℕ) (r : Row) → has b r ≡ true → b - r.first ≤ r.last - r.first
below_last b r h =
    let g = both_true (nat_le r.first b) (nat_le b r.last) h in
    let last : b ≤ r.last = grind (arith, nat_tests) in
    omega (arith, last)

formed_in_range : (f : Form) (most i : ℕ) (behind : List ℕ) (d : Instruction × ℕ) → FormIsInRange most f → i ≤ most → formed f i behind ≡ Some d → IsInRange d.0
formed_in_range (alone f) most i behind d h le e = subst (λ (d : Instruction × ℕ). IsInRange d.0) (value e) (h i le)
formed_in_range (with_one f) most i [] d h le e = cc
formed_in_range (with_one f) most i (b ∷ behind) d h le e = subst (λ (d : Instruction × ℕ). IsInRange d.0) (value e) (h i b)
formed_in_range (with_two f) most i [] d h le e = cc
formed_in_range (with_two f) most i (b ∷ []) d h le e = cc
formed_in_range (with_two f) most i (b ∷ c ∷ behind) d h le e = subst (λ (d : Instruction × ℕ). IsInRange d.0) (value e) (h i b c)

row_in_range : (o : Option Row) (b : ℕ) (behind : List ℕ) (d : Instruction × ℕ) → ((r : Row) → o ≡ Some r → RowIsInRange r × (has b r ≡ true)) → by_row o b behind ≡ Some d → IsInRange d.0
row_in_range None b behind d h e = cc
row_in_range (Some r) b behind d h e = formed_in_range r.form (r.last - r.first) (b - r.first) behind d (h r refl).0 (below_last b r (h r refl).1) e

row_of_in_range : (b : ℕ) (r : Row) → row_of b ≡ Some r → RowIsInRange r × (has b r ≡ true)
unfolding row_of
row_of_in_range b r e = found_with RowIsInRange (has b) rows r rows_in_range e

decoded_in_range : (bytes : List ℕ) (d : Instruction × ℕ) → decoded bytes ≡ Some d → IsInRange d.0
decoded_in_range [] d e = cc
decoded_in_range (b ∷ behind) d e = row_in_range (row_of b) b behind d (row_of_in_range b) e

pub in_range : (bytes : List ℕ) (at next : ℕ) (i : Instruction) → Stands bytes at i next → IsInRange i
in_range bytes at next i s = decoded_in_range (drop at bytes) (i, s.width) s.is_decoded

-- ---- one number of parameters

pub one_selector : (word : List ℕ) (m n : ℕ) → IsSelectorOf m word → IsSelectorOf n word → m ≡ n
one_selector word m n (inl a) (inl b) = a.1 ∙ sym b.1
one_selector word m n (inl a) (inr (inl b)) = absurd (name_no_binary word a.0 b.0)
one_selector word m n (inl a) (inr (inr b)) = absurd (none_some word n (name_is_none word a.0) b)
one_selector word m n (inr (inl a)) (inl b) = absurd (name_no_binary word b.0 a.0)
one_selector word m n (inr (inl a)) (inr (inl b)) = a.1 ∙ sym b.1
one_selector word m n (inr (inl a)) (inr (inr b)) = absurd (none_some word n (binary_is_none word a.0) b)
one_selector word m n (inr (inr a)) (inl b) = absurd (none_some word m (name_is_none word b.0) a)
one_selector word m n (inr (inr a)) (inr (inl b)) = absurd (none_some word m (binary_is_none word b.0) a)
one_selector word m n (inr (inr a)) (inr (inr b)) = value (sym (keywords_when m word a) ∙ keywords_when n word b)

-- ---- special messages

abbrev takes_parameters : ℕ → List ℕ → Bool
takes_parameters n word = if is_name word then n == 0 else (if is_binary word then n == 1 else option_map_or (λ m. m == n) (keywords_of word) false)

takes_them : (n : ℕ) (word : List ℕ) → takes_parameters n word ≡ true → IsSelectorOf n word
takes_them n word h = named (is_name word) (is_binary word) (keywords_of word) refl refl refl h
  where
    named : (a b : Bool) (o : Option ℕ) → is_name word ≡ a → is_binary word ≡ b → keywords_of word ≡ o → (if a then n == 0 else (if b then n == 1 else option_map_or (λ m. m == n) o false)) ≡ true → IsSelectorOf n word
    named true b o e f g h = inl (name_is word e, same_number n 0 h)
    named false true o e f g h = inr (inl (binary_is word f, same_number n 1 h))
    named false false None e f g h = cc
    named false false (Some m) e f g h = inr (inr (keywords_then n word (g ∙ ap (λ k. Some k) (same_number m n h))))

abbrev special_fits : ℕ → Bool
special_fits n = option_map_or (takes_parameters (get_or special_arguments n 0)) (slice_get special_selectors n) false

all_special_fit : holds_below special_fits 32 ≡ true
all_special_fit = refl

pub special_there : (n : ℕ) → n ≤ 31 → (word : List ℕ) × (slice_get special_selectors n ≡ Some word) × IsSelectorOf (get_or special_arguments n 0) word
special_there n le = go (slice_get special_selectors n) (below_holds special_fits 32 n all_special_fit (omega (arith, le)))
  where
    go : (o : Option (List ℕ)) → option_map_or (takes_parameters (get_or special_arguments n 0)) o false ≡ true → (word : List ℕ) × (o ≡ Some word) × IsSelectorOf (get_or special_arguments n 0) word
    go None h = cc
    go (Some word) h = (word, refl, takes_them (get_or special_arguments n 0) word h)
