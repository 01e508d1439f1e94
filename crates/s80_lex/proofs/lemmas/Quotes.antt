-- Quoted texts at the front of a text.
use Rattle.std.proofs.Common.{◌≡◌, ◌≢◌, ℕ, ◌+◌, ◌≤◌, ◌<◌, List, [], ◌∷◌, ◌++◌, Bool, true, false, cond, take, drop, length, get_or, refl, ap, sym, ◌∙◌, arith, append_assoc, take-append-drop, ◌==◌, add-zero, length-take, length-drop, get_or-drop, None}
use Rattle.std.specs.List.{flat_map}
use Rattle.std.proofs.lemmas.Bool.{eqb-true, eqb-false, eq-eqb, ne_eqb}
use Rattle.std.proofs.lemmas.List.{append-nil, take_more, take_all}
use Rattle.s80_lex.specs.Spelling.{doubled, unended, quoted, IsQuoted, NotNext, begins_with}
use Rattle.s80_lex.specs.Front.{IsMost, FindsQuoted}

-- how a byte stands in a quoted text
doubled_quote : (q b : ℕ) → (b == q) ≡ true → doubled q b ≡ q ∷ q ∷ []
doubled_quote q b e = ap (λ t. cond t (q ∷ q ∷ []) (b ∷ [])) e

doubled_other : (q b : ℕ) → (b == q) ≡ false → doubled q b ≡ b ∷ []
doubled_other q b e = ap (λ t. cond t (q ∷ q ∷ []) (b ∷ [])) e

-- a text, from its second byte on
inner : ℕ → List ℕ → List ℕ → List ℕ
inner q text rest = flat_map (doubled q) text ++ rest

inner_quote : (q b : ℕ) (text rest : List ℕ) → (b == q) ≡ true → flat_map (doubled q) (b ∷ text) ++ rest ≡ q ∷ q ∷ (flat_map (doubled q) text ++ rest)
inner_quote q b text rest e = ap (λ l. (l ++ flat_map (doubled q) text) ++ rest) (doubled_quote q b e)

inner_other : (q b : ℕ) (text rest : List ℕ) → (b == q) ≡ false → flat_map (doubled q) (b ∷ text) ++ rest ≡ b ∷ (flat_map (doubled q) text ++ rest)
inner_other q b text rest e = ap (λ l. (l ++ flat_map (doubled q) text) ++ rest) (doubled_other q b e)

-- what goes on behind a quote isn't ended by it
goes_on : (q b : ℕ) (text rest r : List ℕ) → NotNext q r → (t : Bool) → (b == q) ≡ t → q ∷ r ≡ flat_map (doubled q) (b ∷ text) ++ rest → ⊥
goes_on q b text rest r e true i h =
    let s : q ∷ r ≡ q ∷ q ∷ (flat_map (doubled q) text ++ rest) = h ∙ inner_quote q b text rest i in
    let next : r ≡ q ∷ (flat_map (doubled q) text ++ rest) = cc in
    let yes : begins_with q r ≡ true = ap (begins_with q) next ∙ eq-eqb q q refl in
    cc
goes_on q b text rest r e false i h =
    let s : q ∷ r ≡ b ∷ (flat_map (doubled q) text ++ rest) = h ∙ inner_other q b text rest i in
    let same : b ≡ q = cc in
    eqb-false b q i same

-- a byte and what follows it
next_same : (q b c : ℕ) (xs ys r s : List ℕ) (t u : Bool) → (b == q) ≡ t → (c == q) ≡ u → flat_map (doubled q) (b ∷ xs) ++ r ≡ flat_map (doubled q) (c ∷ ys) ++ s → (b ≡ c) × (flat_map (doubled q) xs ++ r ≡ flat_map (doubled q) ys ++ s)
next_same q b c xs ys r s true true i j h =
    let k : q ∷ q ∷ (flat_map (doubled q) xs ++ r) ≡ q ∷ q ∷ (flat_map (doubled q) ys ++ s) = sym (inner_quote q b xs r i) ∙ h ∙ inner_quote q c ys s j in
    let first : b ≡ q = eqb-true b q i in
    let second : c ≡ q = eqb-true c q j in
    (first ∙ sym second, cc)
next_same q b c xs ys r s true false i j h =
    let k : q ∷ q ∷ (flat_map (doubled q) xs ++ r) ≡ c ∷ (flat_map (doubled q) ys ++ s) = sym (inner_quote q b xs r i) ∙ h ∙ inner_other q c ys s j in
    let same : c ≡ q = cc in
    absurd (eqb-false c q j same)
next_same q b c xs ys r s false true i j h =
    let k : b ∷ (flat_map (doubled q) xs ++ r) ≡ q ∷ q ∷ (flat_map (doubled q) ys ++ s) = sym (inner_other q b xs r i) ∙ h ∙ inner_quote q c ys s j in
    let same : b ≡ q = cc in
    absurd (eqb-false b q i same)
next_same q b c xs ys r s false false i j h =
    let k : b ∷ (flat_map (doubled q) xs ++ r) ≡ c ∷ (flat_map (doubled q) ys ++ s) = sym (inner_other q b xs r i) ∙ h ∙ inner_other q c ys s j in
    (cc, cc)

-- one text stands behind a quote
pub quoted_same : (q : ℕ) (xs ys r s : List ℕ) → NotNext q r → NotNext q s → flat_map (doubled q) xs ++ q ∷ r ≡ flat_map (doubled q) ys ++ q ∷ s → xs ≡ ys
quoted_same q [] [] r s d e h = refl
quoted_same q [] (c ∷ ys) r s d e h = absurd (goes_on q c ys (q ∷ s) r d (c == q) refl h)
quoted_same q (b ∷ xs) [] r s d e h = absurd (goes_on q b xs (q ∷ r) s e (b == q) refl (sym h))
quoted_same q (b ∷ xs) (c ∷ ys) r s d e h =
    let next = next_same q b c xs ys (q ∷ r) (q ∷ s) (b == q) (c == q) refl refl h in
    let more : xs ≡ ys = quoted_same q xs ys r s d e next.1 in
    let first : b ≡ c = next.0 in
    cc

-- a text that ends isn't without end
pub quoted_ends : (q : ℕ) (xs ys r : List ℕ) → NotNext q r → flat_map (doubled q) xs ++ q ∷ r ≡ flat_map (doubled q) ys ++ [] → ⊥
quoted_ends q [] [] r d h = cc
quoted_ends q [] (c ∷ ys) r d h = goes_on q c ys [] r d (c == q) refl h
quoted_ends q (b ∷ xs) [] r d h = empty (b == q) refl
  where
    empty : (t : Bool) → (b == q) ≡ t → ⊥
    empty true i = let k : q ∷ q ∷ (flat_map (doubled q) xs ++ q ∷ r) ≡ [] = sym (inner_quote q b xs (q ∷ r) i) ∙ h in cc
    empty false i = let k : b ∷ (flat_map (doubled q) xs ++ q ∷ r) ≡ [] = sym (inner_other q b xs (q ∷ r) i) ∙ h in cc
quoted_ends q (b ∷ xs) (c ∷ ys) r d h = quoted_ends q xs ys r d (next_same q b c xs ys (q ∷ r) [] (b == q) (c == q) refl refl h).1

tail_same : (a b : ℕ) (xs ys : List ℕ) → a ∷ xs ≡ b ∷ ys → xs ≡ ys
tail_same a b xs ys h = cc

spread : (q : ℕ) (text rest : List ℕ) → quoted q text ++ rest ≡ q ∷ (flat_map (doubled q) text ++ q ∷ rest)
spread q text rest = append_assoc (unended q text) (q ∷ []) rest

-- one quoted text stands at a place
pub one_quoted : (q : ℕ) (word rest w r : List ℕ) → IsQuoted q word rest → IsQuoted q w r → w ++ r ≡ word ++ rest → w ≡ word
one_quoted q word rest w r h k t =
    let s : quoted q k.text ++ r ≡ quoted q h.text ++ rest = ap (λ l. l ++ r) (sym k.spelled) ∙ t ∙ ap (λ l. l ++ rest) h.spelled in
    let same : k.text ≡ h.text = quoted_same q k.text h.text r rest k.ended h.ended
    (tail_same q q (flat_map (doubled q) k.text ++ q ∷ r) (flat_map (doubled q) h.text ++ q ∷ rest) (sym (spread q k.text r) ∙ s ∙ spread q h.text rest)) in
    k.spelled ∙ ap (quoted q) same ∙ sym h.spelled

pub unended_or_quoted : (q : ℕ) (text word rest : List ℕ) → word ++ rest ≡ unended q text → IsQuoted q word rest → ⊥
unended_or_quoted q text word rest t h =
    let s : quoted q h.text ++ rest ≡ unended q text = ap (λ l. l ++ rest) (sym h.spelled) ∙ t in
    quoted_ends q h.text text rest h.ended (tail_same q q (flat_map (doubled q) h.text ++ q ∷ rest) (flat_map (doubled q) text ++ []) (sym (spread q h.text rest) ∙ s ∙ sym (append-nil (unended q text))))

-- one byte more
flat_push : (q b : ℕ) (text : List ℕ) → flat_map (doubled q) (text ++ b ∷ []) ≡ flat_map (doubled q) text ++ doubled q b
flat_push q b [] = append-nil (doubled q b)
flat_push q b (c ∷ text) = ap (λ l. doubled q c ++ l) (flat_push q b text) ∙ sym (append_assoc (doubled q c) (flat_map (doubled q) text) (doubled q b))

-- how far one pass has come
abbrev pub SoFar : ℕ → ℕ → List ℕ → Type 0
SoFar q n bytes = (text : List ℕ) × (take n bytes ≡ unended q text)

pub so_far_one : (q n : ℕ) (bytes : List ℕ) → n < length bytes → get_or bytes n 0 ≢ q → SoFar q n bytes → SoFar q (n + 1) bytes
so_far_one q n bytes lt e s =
    let b : ℕ = get_or bytes n 0 in
    (s.0 ++ b ∷ [], take_more bytes n 0 lt ∙ ap (λ l. l ++ b ∷ []) s.1 ∙ sym (ap (λ l. q ∷ l) (flat_push q b s.0 ∙ ap (λ l. flat_map (doubled q) s.0 ++ l) (doubled_other q b (ne_eqb b q e)))))

begins_get : (q : ℕ) (rest : List ℕ) → begins_with q rest ≡ true → get_or rest 0 0 ≡ q
begins_get q [] e = absurd (cc)
begins_get q (b ∷ rest) e = eqb-true b q e

begins_some : (q : ℕ) (rest : List ℕ) → begins_with q rest ≡ true → 0 < length rest
begins_some q [] e = absurd (cc)
begins_some q (b ∷ rest) e = omega arith

pub so_far_two : (q n : ℕ) (bytes : List ℕ) → n < length bytes → get_or bytes n 0 ≡ q → begins_with q (drop (n + 1) bytes) ≡ true → SoFar q n bytes → SoFar q (n + 2) bytes
so_far_two q n bytes lt e f s =
    let more : n + 1 < length bytes = omega (arith, begins_some q (drop (n + 1) bytes) f, length-drop (n + 1) bytes) in
    let next : get_or bytes (n + 1) 0 ≡ q = ap (λ i. get_or bytes i 0) (sym (add-zero (n + 1))) ∙ sym (get_or-drop (n + 1) bytes 0 0) ∙ begins_get q (drop (n + 1) bytes) f in
    let two : n + 2 ≡ n + 1 + 1 = omega arith in
    let seen : take (n + 2) bytes ≡ (unended q s.0 ++ q ∷ []) ++ q ∷ [] =
    ap (λ m. take m bytes) two ∙ take_more bytes (n + 1) 0 more ∙ ap (λ l. l ++ get_or bytes (n + 1) 0 ∷ []) (take_more bytes n 0 lt ∙ ap (λ l. l ++ get_or bytes n 0 ∷ []) s.1 ∙ ap (λ b. unended q s.0 ++ b ∷ []) e) ∙ ap (λ b. (unended q s.0 ++ q ∷ []) ++ b ∷ []) next in
    (s.0 ++ q ∷ [], seen ∙ append_assoc (unended q s.0) (q ∷ []) (q ∷ []) ∙ sym (ap (λ l. q ∷ l) (flat_push q q s.0 ∙ ap (λ l. flat_map (doubled q) s.0 ++ l) (doubled_quote q q (eq-eqb q q refl)))))

pub so_far_starts : (q : ℕ) (bytes : List ℕ) → begins_with q bytes ≡ true → SoFar q 1 bytes
so_far_starts q [] e = absurd (cc)
so_far_starts q (b ∷ bytes) e = ([], ap (λ c. c ∷ []) (eqb-true b q e))

pub quoted_found : (q n : ℕ) (bytes : List ℕ) → n < length bytes → get_or bytes n 0 ≡ q → begins_with q (drop (n + 1) bytes) ≡ false → SoFar q n bytes → IsMost (IsQuoted q) (n + 1) bytes
quoted_found q n bytes lt e f s =
    let here : IsQuoted q (take (n + 1) bytes) (drop (n + 1) bytes) = record {
      text = s.0;
      spelled = take_more bytes n 0 lt ∙ ap (λ l. l ++ get_or bytes n 0 ∷ []) s.1 ∙ ap (λ b. unended q s.0 ++ b ∷ []) e;
      ended = f;
    } in
    record {
      fits = omega arith;
      here = here;
      longest = λ w r t k.
          let same : w ≡ take (n + 1) bytes = one_quoted q (take (n + 1) bytes) (drop (n + 1) bytes) w r here k (t ∙ sym (take-append-drop (n + 1) bytes)) in
          omega (arith, ap length same, length-take (n + 1) bytes);
    }

pub quoted_open : (q n : ℕ) (bytes : List ℕ) → length bytes ≤ n → SoFar q n bytes → FindsQuoted q None bytes
quoted_open q n bytes le s = (s.0, sym (take_all n bytes le) ∙ s.1)
