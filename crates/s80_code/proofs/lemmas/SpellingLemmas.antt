-- What is spelled is decoded, and nothing shorter says the same.
use Rattle.std.proofs.Common.{◌≡◌, ℕ, zero, suc, ◌+◌, ◌-◌, ◌*◌, ◌/◌, ◌%◌, ◌≤◌, ◌<◌, ◌==◌, ◌&&◌, nat_le, nat_lt, ℤ, pos, negsuc, ◌+ℤ◌, ◌-ℤ◌, ◌*ℤ◌, Bool, true, false, find, List, [], ◌∷◌, ◌++◌, length, take, drop, slice_get, slice_range, Option, Some, None, refl, sym, ap, ap₂, subst, ◌∙◌, arith, cond, if◌then◌else◌}
use Rattle.std.specs.List.{All, AllByRecursion}
use Rattle.std.proofs.lemmas.List.Elements.{All-head, All-tail}
use Rattle.std.proofs.lemmas.Bool.Decides.{nat_tests}
use Rattle.std.proofs.Math.IntN.{+ℤ_assoc, +ℤ_idl, +ℤ_invl, +ℤ-neg_ℤ_cancel, pos-+ℤ-pos}
use Rattle.s80_code.specs.declared.instruction.Storage.{Storage}
use Rattle.s80_code.specs.declared.instruction.Storage.TheVariants.{Receiver, Temporary, Constant, Variable}
use Rattle.s80_code.specs.declared.instruction.Instruction.{Instruction}
use Rattle.s80_code.specs.declared.instruction.Instruction.TheVariants.{Push, Store, PopInto, PushFixed, ReturnFixed, ReturnTop, ReturnFromBlock, Send, SendSuper, SendSpecial, Pop, Duplicate, PushContext, Jump, JumpOnTrue, JumpOnFalse}
use Rattle.s80_code.specs.Table.{Form, alone, with_one, with_two, Row, row, rows, has, row_of, formed, storage, decoded}
use Rattle.s80_code.specs.Spelling.{operand, short_below, spelled_push, spelled_pop, packed, spelled_send, far, near, spelled_jump, distance_of, spelled, IsSmall, IsInReach, IsAhead, IsSpellable, Written}
use Rattle.s80_code.proofs.lemmas.TableLemmas.{value, by_row, row_law, same_place}

-- ---- what is spelled is decoded

-- these bytes are the instruction, whatever follows
abbrev pub Tells : Instruction → List ℕ → Type 0
Tells i bytes = (rest : List ℕ) → decoded (bytes ++ rest) ≡ Some (i, length bytes)

-- of two spellings by a test
pub by_either : (P : List ℕ → Type 0) (t : Bool) (a b : List ℕ) → (t ≡ true → P a) → (t ≡ false → P b) → P (if t then a else b)
by_either P true a b f g = f refl
by_either P false a b f g = g refl

behind_first : (first i : ℕ) → (first + i) - first ≡ i
behind_first first i = omega arith

pub one_byte : (k first last : ℕ) (f : ℕ → Instruction) (i : ℕ) → slice_get rows k ≡ Some (row first last (alone f)) → first + i ≤ last → Tells (f i) ((first + i) ∷ [])
one_byte k first last f i e h rest = row_law k (first + i) (row first last (alone f)) rest e (omega arith) h ∙ ap (λ n. Some (f n, 1)) (behind_first first i)

pub two_bytes : (k first last : ℕ) (f : ℕ → ℕ → Instruction) (i b : ℕ) → slice_get rows k ≡ Some (row first last (with_one f)) → first + i ≤ last → Tells (f i b) ((first + i) ∷ b ∷ [])
two_bytes k first last f i b e h rest = row_law k (first + i) (row first last (with_one f)) (b ∷ rest) e (omega arith) h ∙ ap (λ n. Some (f n b, 2)) (behind_first first i)

pub three_bytes : (k first last : ℕ) (f : ℕ → ℕ → ℕ → Instruction) (i b c : ℕ) → slice_get rows k ≡ Some (row first last (with_two f)) → first + i ≤ last → Tells (f i b c) ((first + i) ∷ b ∷ c ∷ [])
three_bytes k first last f i b c e h rest = row_law k (first + i) (row first last (with_two f)) (b ∷ c ∷ rest) e (omega arith) h ∙ ap (λ n. Some (f n b c, 3)) (behind_first first i)

-- the same for another word for the instruction
as_is : (i j : Instruction) (bytes : List ℕ) → i ≡ j → Tells i bytes → Tells j bytes
as_is i j bytes e h rest = h rest ∙ ap (λ i. Some (i, length bytes)) e

-- the storage by the two parts of its byte
abbrev storage_by : ℕ → ℕ → Storage
storage_by q r = if q == 0 then Receiver r else (if q == 1 then Temporary r else (if q == 2 then Constant r else Variable r))

first_part : (q k : ℕ) → k < 64 → (64 * q + k) / 64 ≡ q
first_part q k h = omega arith

last_part : (q k : ℕ) → k < 64 → (64 * q + k) % 64 ≡ k
last_part q k h = omega arith

pub operand_back : (s : Storage) → IsSmall s → storage (operand s) ≡ s
operand_back (Receiver k) h = let first : k / 64 ≡ 0 = omega arith in let last : k % 64 ≡ k = omega arith in ap₂ storage_by first last
operand_back (Temporary k) h = ap₂ storage_by (first_part 1 k h) (last_part 1 k h)
operand_back (Constant k) h = ap₂ storage_by (first_part 2 k h) (last_part 2 k h)
operand_back (Variable k) h = ap₂ storage_by (first_part 3 k h) (last_part 3 k h)

long_push : (s : Storage) → IsSmall s → Tells (Push s) (128 ∷ operand s ∷ [])
long_push s h = as_is _ _ (128 ∷ operand s ∷ []) (ap Push (operand_back s h)) (two_bytes 10 128 128 (λ _ b. Push (storage b)) 0 (operand s) refl (omega arith))

store_tells : (s : Storage) → IsSmall s → Tells (Store s) (129 ∷ operand s ∷ [])
store_tells s h = as_is _ _ (129 ∷ operand s ∷ []) (ap Store (operand_back s h)) (two_bytes 11 129 129 (λ _ b. Store (storage b)) 0 (operand s) refl (omega arith))

long_pop : (s : Storage) → IsSmall s → Tells (PopInto s) (130 ∷ operand s ∷ [])
long_pop s h = as_is _ _ (130 ∷ operand s ∷ []) (ap PopInto (operand_back s h)) (two_bytes 12 130 130 (λ _ b. PopInto (storage b)) 0 (operand s) refl (omega arith))

-- one byte below the limit of a row, else two
short_or_long : (k first last limit long : ℕ) (f : ℕ → Instruction) (number : ℕ) (s : Storage) → slice_get rows k ≡ Some (row first last (alone f)) → first + limit ≡ suc last
    → Tells (f number) (long ∷ operand s ∷ []) → Tells (f number) (short_below limit first number long s)
short_or_long k first last limit long f number s e ends other =
    by_either (Tells (f number)) (nat_lt number limit) ((first + number) ∷ []) (long ∷ operand s ∷ []) (λ t. one_byte k first last f number e (grind (arith, nat_tests))) (λ t. other)

push_tells : (s : Storage) → IsSmall s → Tells (Push s) (spelled_push s)
push_tells (Receiver k) h = short_or_long 0 0 15 16 128 (λ i. Push (Receiver i)) k (Receiver k) refl refl (long_push (Receiver k) h)
push_tells (Temporary k) h = short_or_long 1 16 31 16 128 (λ i. Push (Temporary i)) k (Temporary k) refl refl (long_push (Temporary k) h)
push_tells (Constant k) h = short_or_long 2 32 63 32 128 (λ i. Push (Constant i)) k (Constant k) refl refl (long_push (Constant k) h)
push_tells (Variable k) h = short_or_long 3 64 95 32 128 (λ i. Push (Variable i)) k (Variable k) refl refl (long_push (Variable k) h)

pop_tells : (s : Storage) → IsSmall s → Tells (PopInto s) (spelled_pop s)
pop_tells (Receiver k) h = short_or_long 4 96 103 8 130 (λ i. PopInto (Receiver i)) k (Receiver k) refl refl (long_pop (Receiver k) h)
pop_tells (Temporary k) h = short_or_long 5 104 111 8 130 (λ i. PopInto (Temporary i)) k (Temporary k) refl refl (long_pop (Temporary k) h)
pop_tells (Constant k) h = long_pop (Constant k) h
pop_tells (Variable k) h = long_pop (Variable k) h

upper : (n k : ℕ) → k < 32 → (32 * n + k) / 32 ≡ n
upper n k h = omega arith

lower : (n k : ℕ) → k < 32 → (32 * n + k) % 32 ≡ k
lower n k h = omega arith

packed_tells : (f : ℕ → ℕ → Instruction) (short long : ℕ) → ((b : ℕ) → Tells (f (b / 32) (b % 32)) (short ∷ b ∷ [])) → ((n k : ℕ) → Tells (f n k) (long ∷ n ∷ k ∷ []))
    → (n k : ℕ) → Tells (f n k) (packed short long n k)
packed_tells f short long in_one in_two n k =
    by_either (Tells (f n k)) (nat_lt n 8 && nat_lt k 32) (short ∷ (32 * n + k) ∷ []) (long ∷ n ∷ k ∷ [])
    (λ t. let low : k < 32 = grind (arith, nat_tests) in as_is _ _ (short ∷ (32 * n + k) ∷ []) (ap₂ f (upper n k low) (lower n k low)) (in_one (32 * n + k)))
    (λ t. in_two n k)

one_byte_send : (n k : ℕ) → n < 3 → k < 16 → Tells (Send n k) ((208 + 16 * n + k) ∷ [])
one_byte_send zero k h l = one_byte 26 208 223 (λ i. Send 0 i) k refl (omega arith)
one_byte_send (suc zero) k h l = one_byte 27 224 239 (λ i. Send 1 i) k refl (omega arith)
one_byte_send (suc (suc zero)) k h l = one_byte 28 240 255 (λ i. Send 2 i) k refl (omega arith)
one_byte_send (suc (suc (suc n))) k h l = absurd (omega arith)

send_tells : (n k : ℕ) → Tells (Send n k) (spelled_send n k)
send_tells n k =
    by_either (Tells (Send n k)) (nat_lt n 3 && nat_lt k 16) ((208 + 16 * n + k) ∷ []) (packed 131 132 n k)
    (λ t. one_byte_send n k (grind (arith, nat_tests)) (grind (arith, nat_tests)))
    (λ t. packed_tells Send 131 132 (λ b. two_bytes 13 131 131 (λ _ b. Send (b / 32) (b % 32)) 0 b refl (omega arith)) (λ n k. three_bytes 14 132 132 (λ _ b c. Send b c) 0 n k refl (omega arith)) n k)

super_tells : (n k : ℕ) → Tells (SendSuper n k) (packed 133 134 n k)
super_tells n k =
    packed_tells SendSuper 133 134 (λ b. two_bytes 15 133 133 (λ _ b. SendSuper (b / 32) (b % 32)) 0 b refl (omega arith)) (λ n k. three_bytes 16 134 134 (λ _ b c. SendSuper b c) 0 n k refl (omega arith)) n k

-- ---- jumps

parts : (d : ℕ) → (d / 256) * 256 + d % 256 ≡ d
parts d = omega arith

nearer : (d : ℕ) → 1 ≤ d → (d - 1) + 1 ≡ d
nearer d h = omega arith

near_tells : (k short last first : ℕ) (f : ℕ → Instruction) (d : ℕ) → slice_get rows k ≡ Some (row short last (alone (λ i. f (i + 1)))) → short + 7 ≡ last
    → Tells (f d) (far first d) → Tells (f d) (near short first d)
near_tells k short last first f d e ends other =
    by_either (Tells (f d)) (nat_le 1 d && nat_le d 8) ((short + (d - 1)) ∷ []) (far first d)
    (λ t. let some : 1 ≤ d = grind (arith, nat_tests) in
    let few : d ≤ 8 = grind (arith, nat_tests) in
    as_is _ _ ((short + (d - 1)) ∷ []) (ap f (nearer d some)) (one_byte k short last (λ i. f (i + 1)) (d - 1) e (omega arith)))
    (λ t. other)

abbrev long : ℕ → ℕ → ℤ
long i b = (pos i -ℤ pos 4) *ℤ pos 256 +ℤ pos b

-- the pages before the place that follows: there are four
pages : (q r : ℕ) → q < 4 → long (4 + q) r ≡ pos (q * 256 + r)
pages zero r h = refl
pages (suc zero) r h = refl
pages (suc (suc zero)) r h = refl
pages (suc (suc (suc zero))) r h = refl
pages (suc (suc (suc (suc q)))) r h = absurd (omega arith)

four_on : (q : ℕ) → 160 + (4 + q) ≡ 164 + q
four_on q = omega arith

pub ahead : (d : ℕ) → d < 1024 → Tells (Jump (pos d)) (far 164 d)
ahead d h =
    subst (λ (b : ℕ). Tells (Jump (pos d)) (b ∷ d % 256 ∷ [])) (four_on (d / 256))
    (as_is _ _ ((160 + (4 + d / 256)) ∷ d % 256 ∷ []) (ap Jump (pages (d / 256) (d % 256) (omega arith) ∙ ap pos (parts d)))
    (two_bytes 22 160 167 (λ i b. Jump (long i b)) (4 + d / 256) (d % 256) refl (omega arith)))

below : (a b d : ℕ) → b ≡ suc d + a → pos a -ℤ pos b ≡ negsuc d
below a b d e =
    let step : negsuc d +ℤ pos b ≡ pos a =
    ap (λ n. negsuc d +ℤ pos n) e ∙ ap (λ z. negsuc d +ℤ z) (sym (pos-+ℤ-pos (suc d) a)) ∙ sym (+ℤ_assoc (negsuc d) (pos (suc d)) (pos a))
    ∙ ap (λ z. z +ℤ pos a) (+ℤ_invl (pos (suc d))) ∙ +ℤ_idl (pos a) in
    ap (λ z. z -ℤ pos b) (sym step) ∙ +ℤ-neg_ℤ_cancel (negsuc d) (pos b)

behind_page : (q r d : ℕ) → q < 4 → r < 256 → q * 256 + r + d ≡ 1023 → long q r ≡ negsuc d
behind_page zero r d h k e = below r 1024 d (omega (arith, e))
behind_page (suc zero) r d h k e = below r 768 d (omega (arith, e))
behind_page (suc (suc zero)) r d h k e = below r 512 d (omega (arith, e))
behind_page (suc (suc (suc zero))) r d h k e = below r 256 d (omega (arith, e))
behind_page (suc (suc (suc (suc q)))) r d h k e = absurd (omega arith)

back : (place d : ℕ) → place + d ≡ 1023 → Tells (Jump (negsuc d)) (far 160 place)
back place d e =
    as_is _ _ (far 160 place) (ap Jump (behind_page (place / 256) (place % 256) d (omega arith) (omega arith) (omega arith)))
    (two_bytes 22 160 167 (λ i b. Jump (long i b)) (place / 256) (place % 256) refl (omega arith))

jump_tells : (d : ℤ) → IsInReach d → Tells (Jump d) (spelled_jump d)
jump_tells (pos d) h = near_tells 20 144 151 164 (λ d. Jump (pos d)) d refl refl (ahead d h)
jump_tells (negsuc d) h = back (1023 - d) d (omega arith)

true_tells : (d : ℤ) → IsAhead d → Tells (JumpOnTrue d) (far 168 (distance_of d))
true_tells (pos d) h = as_is _ _ (far 168 d) (ap (λ d. JumpOnTrue (pos d)) (parts d)) (two_bytes 23 168 171 (λ i b. JumpOnTrue (pos (i * 256 + b))) (d / 256) (d % 256) refl (omega arith))
true_tells (negsuc d) h = absurd h

false_tells : (d : ℤ) → IsAhead d → Tells (JumpOnFalse d) (near 152 172 (distance_of d))
false_tells (pos d) h =
    near_tells 21 152 159 172 (λ d. JumpOnFalse (pos d)) d refl refl
    (as_is _ _ (far 172 d) (ap (λ d. JumpOnFalse (pos d)) (parts d)) (two_bytes 24 172 175 (λ i b. JumpOnFalse (pos (i * 256 + b))) (d / 256) (d % 256) refl (omega arith)))
false_tells (negsuc d) h = absurd h

pub spelled_tells : (i : Instruction) → IsSpellable i → Tells i (spelled i)
unfolding spelled
spelled_tells (Push s) h = push_tells s h
spelled_tells (Store s) h = store_tells s h
spelled_tells (PopInto s) h = pop_tells s h
spelled_tells (PushFixed k) h = one_byte 6 112 119 PushFixed k refl (omega arith)
spelled_tells (ReturnFixed k) h = one_byte 7 120 123 ReturnFixed k refl (omega arith)
spelled_tells ReturnTop h = one_byte 8 124 124 (λ _. ReturnTop) 0 refl (omega arith)
spelled_tells ReturnFromBlock h = one_byte 9 125 125 (λ _. ReturnFromBlock) 0 refl (omega arith)
spelled_tells (Send n k) h = send_tells n k
spelled_tells (SendSuper n k) h = super_tells n k
spelled_tells (SendSpecial k) h = one_byte 25 176 207 SendSpecial k refl (omega arith)
spelled_tells Pop h = one_byte 17 135 135 (λ _. Pop) 0 refl (omega arith)
spelled_tells Duplicate h = one_byte 18 136 136 (λ _. Duplicate) 0 refl (omega arith)
spelled_tells PushContext h = one_byte 19 137 137 (λ _. PushContext) 0 refl (omega arith)
spelled_tells (Jump d) h = jump_tells d h
spelled_tells (JumpOnTrue d) h = true_tells d h
spelled_tells (JumpOnFalse d) h = false_tells d h

-- ---- nothing shorter says the same

-- an instruction has a spelling, of at most so many bytes
pub record Spells (width : ℕ) (i : Instruction) : Type 0 where
  pub spellable : IsSpellable i
  pub short : length (spelled i) ≤ width

small_either : (t : Bool) (s u : Storage) → IsSmall s → IsSmall u → IsSmall (if t then s else u)
small_either true s u h k = h
small_either false s u h k = k

storage_small : (b : ℕ) → IsSmall (storage b)
storage_small b =
    let low : b % 64 < 64 = omega arith in
    small_either (b / 64 == 0) (Receiver (b % 64)) _ low (small_either (b / 64 == 1) (Temporary (b % 64)) _ low (small_either (b / 64 == 2) (Constant (b % 64)) (Variable (b % 64)) low low))

below_few : (limit first k long : ℕ) (s : Storage) → length (short_below limit first k long s) ≤ 2
below_few limit first k long s = by_either (λ bytes. length bytes ≤ 2) (nat_lt k limit) ((first + k) ∷ []) (long ∷ operand s ∷ []) (λ t. omega arith) (λ t. omega arith)

below_one : (limit first k long : ℕ) (s : Storage) → k < limit → length (short_below limit first k long s) ≤ 1
below_one limit first k long s h = by_either (λ bytes. length bytes ≤ 1) (nat_lt k limit) ((first + k) ∷ []) (long ∷ operand s ∷ []) (λ t. omega arith) (λ t. absurd (grind (arith, nat_tests)))

push_few : (s : Storage) → length (spelled_push s) ≤ 2
push_few (Receiver k) = below_few 16 0 k 128 (Receiver k)
push_few (Temporary k) = below_few 16 16 k 128 (Temporary k)
push_few (Constant k) = below_few 32 32 k 128 (Constant k)
push_few (Variable k) = below_few 32 64 k 128 (Variable k)

pop_few : (s : Storage) → length (spelled_pop s) ≤ 2
pop_few (Receiver k) = below_few 8 96 k 130 (Receiver k)
pop_few (Temporary k) = below_few 8 104 k 130 (Temporary k)
pop_few (Constant k) = omega arith
pop_few (Variable k) = omega arith

packed_few : (short long n k : ℕ) → length (packed short long n k) ≤ 3
packed_few short long n k = by_either (λ bytes. length bytes ≤ 3) (nat_lt n 8 && nat_lt k 32) (short ∷ (32 * n + k) ∷ []) (long ∷ n ∷ k ∷ []) (λ t. omega arith) (λ t. omega arith)

packed_two : (short long n k : ℕ) → n < 8 → k < 32 → length (packed short long n k) ≤ 2
packed_two short long n k h l = by_either (λ bytes. length bytes ≤ 2) (nat_lt n 8 && nat_lt k 32) (short ∷ (32 * n + k) ∷ []) (long ∷ n ∷ k ∷ []) (λ t. omega arith) (λ t. absurd (grind (arith, nat_tests)))

send_few : (n k most : ℕ) → 1 ≤ most → length (packed 131 132 n k) ≤ most → length (spelled_send n k) ≤ most
send_few n k most some h = by_either (λ bytes. length bytes ≤ most) (nat_lt n 3 && nat_lt k 16) ((208 + 16 * n + k) ∷ []) (packed 131 132 n k) (λ t. some) (λ t. h)

send_one : (n k : ℕ) → n < 3 → k < 16 → length (spelled_send n k) ≤ 1
send_one n k h l = by_either (λ bytes. length bytes ≤ 1) (nat_lt n 3 && nat_lt k 16) ((208 + 16 * n + k) ∷ []) (packed 131 132 n k) (λ t. omega arith) (λ t. absurd (grind (arith, nat_tests)))

near_few : (short first d : ℕ) → length (near short first d) ≤ 2
near_few short first d = by_either (λ bytes. length bytes ≤ 2) (nat_le 1 d && nat_le d 8) ((short + (d - 1)) ∷ []) (far first d) (λ t. omega arith) (λ t. omega arith)

near_one : (short first d : ℕ) → 1 ≤ d → d ≤ 8 → length (near short first d) ≤ 1
near_one short first d low high = by_either (λ bytes. length bytes ≤ 1) (nat_le 1 d && nat_le d 8) ((short + (d - 1)) ∷ []) (far first d) (λ t. omega arith) (λ t. absurd (grind (arith, nat_tests)))

jump_few : (d : ℤ) → length (spelled_jump d) ≤ 2
jump_few (pos d) = near_few 144 164 d
jump_few (negsuc d) = omega arith

-- each row's distance is in reach
long_reach : (i b : ℕ) → i < 8 → b < 256 → IsInReach (long i b)
long_reach zero b h l = subst IsInReach (sym (below b 1024 (1023 - b) (omega arith))) (omega arith)
long_reach (suc zero) b h l = subst IsInReach (sym (below b 768 (767 - b) (omega arith))) (omega arith)
long_reach (suc (suc zero)) b h l = subst IsInReach (sym (below b 512 (511 - b) (omega arith))) (omega arith)
long_reach (suc (suc (suc zero))) b h l = subst IsInReach (sym (below b 256 (255 - b) (omega arith))) (omega arith)
long_reach (suc (suc (suc (suc q)))) b h l =
    let same : 4 + q ≡ suc (suc (suc (suc q))) = omega arith in
    subst (λ (i : ℕ). IsInReach (long i b)) same (subst IsInReach (sym (pages q b (omega arith))) (omega arith))

-- all instructions of a row, from its first byte to its last
abbrev pub FormSpells : Form → ℕ → Type 0
FormSpells (alone f) most = (i : ℕ) → i ≤ most → Spells 1 (f i)
FormSpells (with_one f) most = (i b : ℕ) → i ≤ most → b < 256 → Spells 2 (f i b)
FormSpells (with_two f) most = (i b c : ℕ) → i ≤ most → b < 256 → c < 256 → Spells 3 (f i b c)

abbrev pub RowSpells : Row → Type 0
RowSpells r = FormSpells r.form (r.last - r.first)

rows_spell : AllByRecursion RowSpells rows
unfolding spelled
rows_spell = (
  λ i h. record { spellable = omega arith; short = below_one 16 0 i 128 (Receiver i) (omega arith) },
  (
    λ i h. record { spellable = omega arith; short = below_one 16 16 i 128 (Temporary i) (omega arith) },
    (
      λ i h. record { spellable = omega arith; short = below_one 32 32 i 128 (Constant i) (omega arith) },
      (
        λ i h. record { spellable = omega arith; short = below_one 32 64 i 128 (Variable i) (omega arith) },
        (
          λ i h. record { spellable = omega arith; short = below_one 8 96 i 130 (Receiver i) (omega arith) },
          (
            λ i h. record { spellable = omega arith; short = below_one 8 104 i 130 (Temporary i) (omega arith) },
            (
              λ i h. record { spellable = omega arith; short = omega arith },
              (
                λ i h. record { spellable = omega arith; short = omega arith },
                (
                  λ i h. record { spellable = tt; short = omega arith },
                  (
                    λ i h. record { spellable = tt; short = omega arith },
                    (
                      λ i b h l. record { spellable = storage_small b; short = push_few (storage b) },
                      (
                        λ i b h l. record { spellable = storage_small b; short = omega arith },
                        (
                          λ i b h l. record { spellable = storage_small b; short = pop_few (storage b) },
                          (
                            λ i b h l. record { spellable = (omega arith, omega arith); short = send_few (b / 32) (b % 32) 2 (omega arith) (packed_two 131 132 (b / 32) (b % 32) (omega arith) (omega arith)) },
                            (
                              λ i b c h l k. record { spellable = (l, k); short = send_few b c 3 (omega arith) (packed_few 131 132 b c) },
                              (
                                λ i b h l. record { spellable = (omega arith, omega arith); short = packed_two 133 134 (b / 32) (b % 32) (omega arith) (omega arith) },
                                (
                                  λ i b c h l k. record { spellable = (l, k); short = packed_few 133 134 b c },
                                  (
                                    λ i h. record { spellable = tt; short = omega arith },
                                    (
                                      λ i h. record { spellable = tt; short = omega arith },
                                      (
                                        λ i h. record { spellable = tt; short = omega arith },
                                        (
                                          λ i h. record { spellable = omega arith; short = near_one 144 164 (i + 1) (omega arith) (omega arith) },
                                          (
                                            λ i h. record { spellable = omega arith; short = near_one 152 172 (i + 1) (omega arith) (omega arith) },
                                            (
                                              λ i b h l. record { spellable = long_reach i b (omega arith) l; short = jump_few (long i b) },
                                              (
                                                λ i b h l. record { spellable = omega arith; short = omega arith },
                                                (
                                                  λ i b h l. record { spellable = omega arith; short = near_few 152 172 (i * 256 + b) },
                                                  (
                                                    λ i h. record { spellable = omega arith; short = omega arith },
                                                    (
                                                      λ i h. record { spellable = (omega arith, omega arith); short = send_one 0 i (omega arith) (omega arith) },
                                                      (
                                                        λ i h. record { spellable = (omega arith, omega arith); short = send_one 1 i (omega arith) (omega arith) },
                                                        (
                                                          λ i h. record { spellable = (omega arith, omega arith); short = send_one 2 i (omega arith) (omega arith) },
                                                          tt,
                                                        ),
                                                      ),
                                                    ),
                                                  ),
                                                ),
                                              ),
                                            ),
                                          ),
                                        ),
                                      ),
                                    ),
                                  ),
                                ),
                              ),
                            ),
                          ),
                        ),
                      ),
                    ),
                  ),
                ),
              ),
            ),
          ),
        ),
      ),
    ),
  ),
)

-- ---- a row that is found has the byte

found_has : {A : Type 0} (P : A → Type 0) (p : A → Bool) (xs : List A) (x : A) → AllByRecursion P xs → find p xs ≡ Some x → P x × (p x ≡ true)
found_has P p [] x all e = cc
found_has P p (y ∷ ys) x all e = by_test (p y) refl (found_has P p ys x all.1) e
  where
    by_test : (b : Bool) → p y ≡ b → (find p ys ≡ Some x → P x × (p x ≡ true)) → cond b (Some y) (find p ys) ≡ Some x → P x × (p x ≡ true)
    by_test true here later e = (subst P (value e) all.0, ap p (sym (value e)) ∙ here)
    by_test false here later e = later e

within_row : (b first last : ℕ) → (nat_le first b && nat_le b last) ≡ true → b - first ≤ last - first
within_row b first last h = grind (arith, nat_tests)

formed_spells : (f : Form) (i most : ℕ) (behind : List ℕ) (d : Instruction × ℕ) → FormSpells f most → i ≤ most → All (λ b. b < 256) behind → formed f i behind ≡ Some d → Spells d.1 d.0
formed_spells (alone f) i most behind d h low bytes e = subst (λ (d : Instruction × ℕ). Spells d.1 d.0) (value e) (h i low)
formed_spells (with_one f) i most [] d h low bytes e = cc
formed_spells (with_one f) i most (b ∷ behind) d h low bytes e = subst (λ (d : Instruction × ℕ). Spells d.1 d.0) (value e) (h i b low (All-head (λ b. b < 256) b behind bytes))
formed_spells (with_two f) i most [] d h low bytes e = cc
formed_spells (with_two f) i most (b ∷ []) d h low bytes e = cc
formed_spells (with_two f) i most (b ∷ c ∷ behind) d h low bytes e =
    subst (λ (d : Instruction × ℕ). Spells d.1 d.0) (value e) (h i b c low (All-head (λ b. b < 256) b (c ∷ behind) bytes) (All-head (λ b. b < 256) c behind (All-tail (λ b. b < 256) b (c ∷ behind) bytes)))

row_spells : (o : Option Row) (b : ℕ) (behind : List ℕ) (d : Instruction × ℕ) → ((r : Row) → o ≡ Some r → RowSpells r × (has b r ≡ true)) → All (λ b. b < 256) behind → by_row o b behind ≡ Some d → Spells d.1 d.0
row_spells None b behind d h bytes e = cc
row_spells (Some r) b behind d h bytes e =
    formed_spells r.form (b - r.first) (r.last - r.first) behind d (h r refl).0 (within_row b r.first r.last (h r refl).1) bytes e

row_of_spells : (b : ℕ) (r : Row) → row_of b ≡ Some r → RowSpells r × (has b r ≡ true)
unfolding row_of
row_of_spells b r e = found_has RowSpells (has b) rows r rows_spell e

pub decoded_spells : (bytes : List ℕ) (i : Instruction) (width : ℕ) → All (λ b. b < 256) bytes → decoded bytes ≡ Some (i, width) → Spells width i
decoded_spells [] i width bytes e = cc
decoded_spells (b ∷ behind) i width bytes e = row_spells (row_of b) b behind (i, width) (row_of_spells b) (All-tail (λ b. b < 256) b behind bytes) e

-- ---- at a place

pub written_elsewhere : (bytes other : List ℕ) (at next : ℕ) (i : Instruction) → Written bytes at i next → slice_range other at next ≡ slice_range bytes at next → Written other at i next
written_elsewhere bytes other at next i w e = record { stands = same_place bytes other at next i w.stands e; here = e ∙ w.here }

-- the first byte of what stands between two places
pub first_byte : (bytes rest : List ℕ) (at next b : ℕ) → slice_range bytes at next ≡ b ∷ rest → slice_get bytes at ≡ Some b
first_byte bytes rest at next b e = sym (dropped bytes at) ∙ begins (next - at) (drop at bytes) e
  where
    dropped : (bytes : List ℕ) (n : ℕ) → slice_get (drop n bytes) 0 ≡ slice_get bytes n
    dropped bytes zero = refl
    dropped [] (suc n) = refl
    dropped (x ∷ bytes) (suc n) = dropped bytes n

    begins : (n : ℕ) (bytes : List ℕ) → take n bytes ≡ b ∷ rest → slice_get bytes 0 ≡ Some b
    begins zero bytes e = cc
    begins (suc n) [] e = cc
    begins (suc n) (x ∷ bytes) e = ap (λ l. slice_get l 0) e
