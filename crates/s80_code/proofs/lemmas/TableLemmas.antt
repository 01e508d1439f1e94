-- What the table says of all bytes.
use Rattle.std.proofs.Common.{◌≡◌, ◌≢◌, ◌==◌, pos, ◌+ℤ◌, ◌-ℤ◌, ◌*ℤ◌, ℕ, zero, suc, ◌+◌, ◌-◌, ◌*◌, ◌<◌, ◌≤◌, Bool, ◌↔◌, ◌⊎◌, true, false, not, ◌&&◌, ◌||◌, nat_le, nat_lt, find, slice_get, cond, inl, inr, List, [], ◌∷◌, ◌++◌, length, take, drop, slice_range, refl, sym, ap, subst, ◌∙◌, Option, Some, None, IsSome, is_some, arith, option_and_then, take-append-drop, length-drop}
use Rattle.std.proofs.Common.{rules}
use Rattle.std.proofs.lemmas.Bool.{cases_lt}
use Rattle.std.proofs.lemmas.Bool.Decides.{nat_tests}
use Rattle.std.specs.Option.{unwrap_or, option_map_or}
use Rattle.std.specs.List.{list_all, list_any}
use Rattle.s80_code.specs.declared.instruction.Instruction.{Instruction}
use Rattle.s80_code.specs.declared.instruction.Instruction.TheVariants.{Jump, JumpOnTrue, JumpOnFalse}
use Rattle.s80_code.specs.ByWidth.{if_with_one, with_one_at, if_with_two, with_two_at}
use Rattle.s80_code.specs.Table.{Form, alone, with_one, with_two, Row, row, rows, has, row_of, formed, decoded, is_unused, Stands, form_width, width_of}

pub value : {A : Type 0} {x y : A} → Some x ≡ Some y → x ≡ y
value {x = x} e = ap (λ o. unwrap_or o x) e

-- what an instruction of this form says of its bytes
pub record Sees (f : Form) (i b : ℕ) (behind : List ℕ) (d : Instruction × ℕ) : Type 0 where
  pub some : 1 ≤ d.1
  pub few : d.1 ≤ 3
  pub within : d.1 ≤ length (b ∷ behind)
  pub rest : List ℕ
  pub front : take d.1 (b ∷ behind) ≡ b ∷ rest
  pub same : (other : List ℕ) → formed f i (rest ++ other) ≡ Some d

pub formed_sees : (f : Form) (i b : ℕ) (behind : List ℕ) (d : Instruction × ℕ) → formed f i behind ≡ Some d → Sees f i b behind d
formed_sees (alone f) i b behind d e =
    subst (λ (d : Instruction × ℕ). Sees (alone f) i b behind d) (value e)
    (record { some = omega arith; few = omega arith; within = omega arith; rest = []; front = refl; same = λ other. refl })
formed_sees (with_one f) i b [] d e = cc
formed_sees (with_one f) i b (c ∷ behind) d e =
    subst (λ (d : Instruction × ℕ). Sees (with_one f) i b (c ∷ behind) d) (value e)
    (record { some = omega arith; few = omega arith; within = omega arith; rest = c ∷ []; front = refl; same = λ other. refl })
formed_sees (with_two f) i b [] d e = cc
formed_sees (with_two f) i b (c ∷ []) d e = cc
formed_sees (with_two f) i b (c ∷ x ∷ behind) d e =
    subst (λ (d : Instruction × ℕ). Sees (with_two f) i b (c ∷ x ∷ behind) d) (value e)
    (record { some = omega arith; few = omega arith; within = omega arith; rest = c ∷ x ∷ []; front = refl; same = λ other. refl })

-- the same of any row, or none
abbrev pub by_row : Option Row → ℕ → List ℕ → Option (Instruction × ℕ)
by_row o b behind = option_and_then (λ r. formed r.form (b - r.first) behind) o

pub record Front (o : Option Row) (b : ℕ) (behind : List ℕ) (d : Instruction × ℕ) : Type 0 where
  pub some : 1 ≤ d.1
  pub few : d.1 ≤ 3
  pub within : d.1 ≤ length (b ∷ behind)
  pub rest : List ℕ
  pub front : take d.1 (b ∷ behind) ≡ b ∷ rest
  pub same : (other : List ℕ) → by_row o b (rest ++ other) ≡ Some d

pub row_sees : (o : Option Row) (b : ℕ) (behind : List ℕ) (d : Instruction × ℕ) → by_row o b behind ≡ Some d → Front o b behind d
row_sees None b behind d e = cc
row_sees (Some r) b behind d e =
    let s = formed_sees r.form (b - r.first) b behind d e in
    record { some = s.some; few = s.few; within = s.within; rest = s.rest; front = s.front; same = s.same }

-- what is decoded has one to three bytes, which alone say what it is
pub record Decodes (bytes : List ℕ) (d : Instruction × ℕ) : Type 0 where
  pub some : 1 ≤ d.1
  pub few : d.1 ≤ 3
  pub within : d.1 ≤ length bytes
  pub same : (other : List ℕ) → decoded (take d.1 bytes ++ other) ≡ Some d

pub decodes : (bytes : List ℕ) (d : Instruction × ℕ) → decoded bytes ≡ Some d → Decodes bytes d
decodes [] d e = cc
decodes (b ∷ behind) d e =
    let s = row_sees (row_of b) b behind d e in
    record {
      some = s.some;
      few = s.few;
      within = s.within;
      same = λ other. ap (λ front. decoded (front ++ other)) s.front ∙ s.same other;
    }

pub true_or_false : (b : Bool) → (b ≡ true) ⊎ (b ≡ false)
true_or_false true = inl refl
true_or_false false = inr refl

-- a test that holds of each number below a bound
abbrev pub holds_below : (ℕ → Bool) → ℕ → Bool
holds_below p zero = true
holds_below p (suc n) = p n && holds_below p n

pub and_first : (x y : Bool) → (x && y) ≡ true → x ≡ true
and_first true y e = refl
and_first false y e = cc

pub and_second : (x y : Bool) → (x && y) ≡ true → y ≡ true
and_second true y e = e
and_second false y e = cc

pub below_holds : (p : ℕ → Bool) (n k : ℕ) → holds_below p n ≡ true → k < n → p k ≡ true
below_holds p zero k e h = absurd (omega arith)
below_holds p (suc n) k e h =
    let here : p n ≡ true = and_first _ _ e in
    elim (cases_lt k n) [ inl less ↦ below_holds p n k (and_second _ _ e) less | inr last ↦ let is : n ≡ k = omega arith in subst (λ (j : ℕ). p j ≡ true) is here ]

-- a byte has a row exactly where it isn't unused
abbrev pub agrees : ℕ → Bool
agrees b = cond (is_unused b) (not (is_some (row_of b))) (is_some (row_of b))

pub all_agree : holds_below agrees 256 ≡ true
unfolding row_of
all_agree = refl

pub used_has_row : (b : ℕ) → b < 256 → is_unused b ≡ false → is_some (row_of b) ≡ true
used_has_row b h e = rw e at (below_holds agrees 256 b all_agree h)

pub unused_is_byte : (b : ℕ) → is_unused b ≡ true → b < 256
unused_is_byte b e = grind (arith, nat_tests)

pub unused_has_none : (b : ℕ) → is_unused b ≡ true → row_of b ≡ None
unused_has_none b e =
    no_row (row_of b) (rw e at (below_holds agrees 256 b all_agree (unused_is_byte b e)))
  where
    no_row : (o : Option Row) → not (is_some o) ≡ true → o ≡ None
    no_row None e = refl
    no_row (Some r) e = cc

pub formed_some : (f : Form) (i c d : ℕ) (more : List ℕ) → IsSome (formed f i (c ∷ d ∷ more))
formed_some (alone f) i c d more = search rules
formed_some (with_one f) i c d more = search rules
formed_some (with_two f) i c d more = search rules

pub row_some : (o : Option Row) (b c d : ℕ) (more : List ℕ) → is_some o ≡ true → IsSome (by_row o b (c ∷ d ∷ more))
row_some None b c d more e = cc
row_some (Some r) b c d more e = formed_some r.form (b - r.first) c d more

pub used_is_decoded : (b c d : ℕ) (more : List ℕ) → b < 256 → is_unused b ≡ false → IsSome (decoded (b ∷ c ∷ d ∷ more))
used_is_decoded b c d more h e = row_some (row_of b) b c d more (used_has_row b h e)

pub unused_is_not : (b : ℕ) (more : List ℕ) → is_unused b ≡ true → decoded (b ∷ more) ≡ None
unused_is_not b more e = ap (λ o. by_row o b more) (unused_has_none b e)

pub or_second : (x y : Bool) → y ≡ true → (x || y) ≡ true
or_second true y e = refl
or_second false y e = e

pub find_later : {A : Type 0} (here later rest : Bool) (y x : A) (found : Option A) → cond here (not later) rest ≡ true → later ≡ true → (rest ≡ true → found ≡ Some x) → cond here (Some y) found ≡ Some x
find_later true true rest y x found one h f = cc
find_later true false rest y x found one h f = cc
find_later false later rest y x found one h f = f one

pub in_row : (b last : ℕ) → b ≤ last → nat_lt last 256 ≡ true → b < 256
in_row b last h e = grind (arith, nat_tests)

pub is_in : (b first last : ℕ) → first ≤ b → b ≤ last → (nat_le first b && nat_le b last) ≡ true
is_in b first last low high = grind (arith, nat_tests)

-- where no instruction stands
pub none_short : (f : Form) (i b : ℕ) (behind : List ℕ) → formed f i behind ≡ None → length (b ∷ behind) < form_width f
none_short (alone f) i b behind e = cc
none_short (with_one f) i b [] e = omega arith
none_short (with_one f) i b (c ∷ behind) e = cc
none_short (with_two f) i b [] e = omega arith
none_short (with_two f) i b (c ∷ []) e = omega arith
none_short (with_two f) i b (c ∷ d ∷ behind) e = cc

pub short_none : (f : Form) (i b : ℕ) (behind : List ℕ) → length (b ∷ behind) < form_width f → formed f i behind ≡ None
short_none (alone f) i b behind h = absurd (omega arith)
short_none (with_one f) i b [] h = refl
short_none (with_one f) i b (c ∷ behind) h = absurd (omega arith)
short_none (with_two f) i b [] h = refl
short_none (with_two f) i b (c ∷ []) h = refl
short_none (with_two f) i b (c ∷ d ∷ behind) h = absurd (omega arith)

abbrev pub row_width : Option Row → ℕ
row_width o = option_map_or (λ r. form_width r.form) o 0

pub row_none_short : (o : Option Row) (b : ℕ) (behind : List ℕ) → is_some o ≡ true → by_row o b behind ≡ None → length (b ∷ behind) < row_width o
row_none_short None b behind some e = cc
row_none_short (Some r) b behind some e = none_short r.form (b - r.first) b behind e

pub row_short_none : (o : Option Row) (b : ℕ) (behind : List ℕ) → length (b ∷ behind) < row_width o → by_row o b behind ≡ None
row_short_none None b behind h = refl
row_short_none (Some r) b behind h = short_none r.form (b - r.first) b behind h

pub none_where : (b : ℕ) (behind : List ℕ) → b < 256 → decoded (b ∷ behind) ≡ None → (is_unused b ≡ true) ⊎ (length (b ∷ behind) < width_of b)
none_where b behind h e =
    elim (true_or_false (is_unused b)) [ inl unused ↦ inl unused | inr used ↦ inr (row_none_short (row_of b) b behind (used_has_row b h used) e) ]

pub where_none : (b : ℕ) (behind : List ℕ) → (is_unused b ≡ true) ⊎ (length (b ∷ behind) < width_of b) → decoded (b ∷ behind) ≡ None
where_none b behind (inl unused) = unused_is_not b behind unused
where_none b behind (inr short) = row_short_none (row_of b) b behind short

pub none_law : (b : ℕ) (behind : List ℕ) → b < 256 → decoded (b ∷ behind) ≡ None ↔ (is_unused b ≡ true) ⊎ (length (b ∷ behind) < width_of b)
none_law b behind h = (none_where b behind h, where_none b behind)

-- at most one element passes
abbrev pub at_most_one : {A : Type 0} → (A → Bool) → List A → Bool
at_most_one p [] = true
at_most_one p (x ∷ xs) = cond (p x) (not (list_any p xs)) (at_most_one p xs)

pub any_at : {A : Type 0} (p : A → Bool) (xs : List A) (k : ℕ) (x : A) → slice_get xs k ≡ Some x → p x ≡ true → list_any p xs ≡ true
any_at p [] k x e h = cc
any_at p (y ∷ ys) zero x e h = ap (λ b. b || list_any p ys) (ap p (value e) ∙ h)
any_at p (y ∷ ys) (suc k) x e h = or_second (p y) (list_any p ys) (any_at p ys k x e h)

pub all_at : {A : Type 0} (p : A → Bool) (xs : List A) (k : ℕ) (x : A) → slice_get xs k ≡ Some x → list_all p xs ≡ true → p x ≡ true
all_at p [] k x e h = cc
all_at p (y ∷ ys) zero x e h = ap p (sym (value e)) ∙ and_first (p y) (list_all p ys) h
all_at p (y ∷ ys) (suc k) x e h = all_at p ys k x e (and_second (p y) (list_all p ys) h)

pub find_one : {A : Type 0} (p : A → Bool) (xs : List A) (k : ℕ) (x : A) → slice_get xs k ≡ Some x → p x ≡ true → at_most_one p xs ≡ true → find p xs ≡ Some x
find_one p [] k x e h one = cc
find_one p (y ∷ ys) zero x e h one = ap (λ b. cond b (Some y) (find p ys)) (ap p (value e) ∙ h) ∙ e
find_one p (y ∷ ys) (suc k) x e h one =
    find_later (p y) (list_any p ys) (at_most_one p ys) y x (find p ys) one (any_at p ys k x e h) (λ more. find_one p ys k x e h more)

-- no byte stands in two rows, and no row goes beyond the bytes
pub one_row_each : holds_below (λ b. at_most_one (has b) rows) 256 ≡ true
one_row_each = refl

pub rows_have_bytes : list_all (λ r. nat_lt r.last 256) rows ≡ true
rows_have_bytes = refl

pub row_found : (k b : ℕ) (r : Row) → slice_get rows k ≡ Some r → r.first ≤ b → b ≤ r.last → row_of b ≡ Some r
unfolding row_of
row_found k b r e low high =
    let end : nat_lt r.last 256 ≡ true = all_at (λ r. nat_lt r.last 256) rows k r e rows_have_bytes in
    let byte : b < 256 = in_row b r.last high end in
    find_one (has b) rows k r e (is_in b r.first r.last low high) (below_holds (λ b. at_most_one (has b) rows) 256 b one_row_each byte)

pub row_law : (k b : ℕ) (r : Row) (behind : List ℕ) → slice_get rows k ≡ Some r → r.first ≤ b → b ≤ r.last → decoded (b ∷ behind) ≡ formed r.form (b - r.first) behind
row_law k b r behind e low high = ap (λ o. by_row o b behind) (row_found k b r e low high)

-- the same, for what the code asks
pub one_is : (k b c : ℕ) (r : Row) → slice_get rows k ≡ Some r → r.first ≤ b → b ≤ r.last → with_one_at b c ≡ if_with_one r.form (b - r.first) c
one_is k b c r e low high = ap (λ o. option_and_then (λ r. if_with_one r.form (b - r.first) c) o) (row_found k b r e low high)

pub jump_at : (b c : ℕ) → 160 ≤ b → b ≤ 167 → with_one_at b c ≡ Some (Jump ((pos (b - 160) -ℤ pos 4) *ℤ pos 256 +ℤ pos c))
jump_at b c low high = one_is 22 b c (row 160 167 (with_one (λ i c. Jump ((pos i -ℤ pos 4) *ℤ pos 256 +ℤ pos c)))) refl low high

pub true_at : (b c : ℕ) → 168 ≤ b → b ≤ 171 → with_one_at b c ≡ Some (JumpOnTrue (pos ((b - 168) * 256 + c)))
true_at b c low high = one_is 23 b c (row 168 171 (with_one (λ i c. JumpOnTrue (pos (i * 256 + c))))) refl low high

pub false_at : (b c : ℕ) → 172 ≤ b → b ≤ 175 → with_one_at b c ≡ Some (JumpOnFalse (pos ((b - 172) * 256 + c)))
false_at b c low high = one_is 24 b c (row 172 175 (with_one (λ i c. JumpOnFalse (pos (i * 256 + c))))) refl low high

-- of all bytes 132 and 134 alone have two bytes behind them
abbrev pub is_two : Form → Bool
is_two (alone f) = false
is_two (with_one f) = false
is_two (with_two f) = true

abbrev pub has_two : Option Row → Bool
has_two None = false
has_two (Some r) = is_two r.form

abbrev pub two_or_none : ℕ → Bool
two_or_none b = b == 132 || (b == 134 || not (has_two (row_of b)))

pub two_have_two : holds_below two_or_none 256 ≡ true
unfolding row_of
two_have_two = refl

pub no_two_form : (f : Form) (i c d : ℕ) → not (is_two f) ≡ true → if_with_two f i c d ≡ None
no_two_form (alone f) i c d h = refl
no_two_form (with_one f) i c d h = refl
no_two_form (with_two f) i c d h = cc

pub no_two_row : (o : Option Row) (b c d : ℕ) → not (has_two o) ≡ true → option_and_then (λ r. if_with_two r.form (b - r.first) c d) o ≡ None
no_two_row None b c d h = refl
no_two_row (Some r) b c d h = no_two_form r.form (b - r.first) c d h

pub third : (x y z : Bool) → (x || (y || z)) ≡ true → x ≡ false → y ≡ false → z ≡ true
third true y z h no_x no_y = cc
third false true z h no_x no_y = cc
third false false z h no_x no_y = h

pub differs : (m n : ℕ) → m ≢ n → (m == n) ≡ false
differs m n h = grind (arith, nat_tests)

pub no_two_at : (b c d : ℕ) → b < 256 → b ≢ 132 → b ≢ 134 → with_two_at b c d ≡ None
no_two_at b c d h first second =
    no_two_row (row_of b) b c d
    (third (b == 132) (b == 134) (not (has_two (row_of b))) (below_holds two_or_none 256 b two_have_two h) (differs b 132 first) (differs b 134 second))

-- the bytes of what stands at a place
pub same_place : (bytes other : List ℕ) (at next : ℕ) (x : Instruction) → Stands bytes at x next → slice_range other at next ≡ slice_range bytes at next → Stands other at x next
same_place bytes other at next x s e =
    let width : next - at ≡ s.width = omega (arith, s.behind) in
    let d = decodes (drop at bytes) (x, s.width) s.is_decoded in
    let front : take s.width (drop at other) ≡ take s.width (drop at bytes) =
    ap (λ w. take w (drop at other)) (sym width) ∙ e ∙ ap (λ w. take w (drop at bytes)) width in
    record {
      width = s.width;
      is_decoded =
          ap decoded (sym (take-append-drop s.width (drop at other)))
          ∙ ap (λ f. decoded (f ++ drop s.width (drop at other))) front
          ∙ d.same (drop s.width (drop at other));
      behind = s.behind;
    }

pub place_law : (bytes : List ℕ) (at next : ℕ) (x : Instruction) → Stands bytes at x next → (at < next) × (next ≤ length bytes) × ((other : List ℕ) → slice_range other at next ≡ slice_range bytes at next → Stands other at x next)
place_law bytes at next x s =
    let d = decodes (drop at bytes) (x, s.width) s.is_decoded in
    (omega (arith, d.some, s.behind), omega (arith, d.some, d.within, s.behind, length-drop at bytes), λ other e. same_place bytes other at next x s e)
