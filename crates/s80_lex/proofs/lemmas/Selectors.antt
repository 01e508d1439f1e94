-- Selectors at the front of a text.
use Rattle.std.proofs.Common.{◌≡◌, ◌≢◌, ℕ, ◌≤◌, inl, inr, List, [], ◌∷◌, ◌++◌, Option, Some, None, take, drop, length, refl, ap, sym, ◌∙◌, subst, arith, append_assoc, length-append, take-append-drop, length-take-le}
use Rattle.std.specs.List.{prefix_len, flat_map, AllByRecursion}
use Rattle.std.specs.Char.{is_ascii_alphanumeric}
use Rattle.s80_lex.specs.declared.class.Class.TheVariants.{Special}
use Rattle.s80_lex.specs.Spelling.{IsName, AreKeywords, IsBinary, IsOperator, IsSelector, keyword}
use Rattle.s80_lex.specs.Front.{first_class, IsMost, Lacks, Finds}
use Rattle.s80_lex.proofs.lemmas.Runs.{run_longest}
use Rattle.s80_lex.proofs.Words.{name_first, name_passes, keyword_run, keyword_length}

pub binary_first : (w r : List ℕ) → IsBinary w → IsOperator (first_class (w ++ r))
binary_first [] r h = absurd h
binary_first (b ∷ []) r h = h
binary_first (b ∷ c ∷ []) r h = h.0
binary_first (b ∷ c ∷ d ∷ w) r h = absurd h

-- a letter begins no binary selector
pub name_or_binary : (w r v s : List ℕ) → w ++ r ≡ v ++ s → IsName w → IsBinary v → ⊥
name_or_binary w r v s t n b = subst IsOperator (ap first_class (sym t) ∙ name_first w r n) (binary_first v s b)

-- a name is no longer than the keywords at its place
name_shorter : (names : List (List ℕ)) (w r rest : List ℕ) → names ≢ [] → AllByRecursion IsName names → w ++ r ≡ flat_map keyword names ++ rest → IsName w → length w ≤ length (flat_map keyword names)
name_shorter [] w r rest some h t n = absurd (some refl)
name_shorter (o ∷ names) w r rest some h t n =
    let s : w ++ r ≡ keyword o ++ (flat_map keyword names ++ rest) = t ∙ append_assoc (keyword o) (flat_map keyword names) rest in
    let run : prefix_len is_ascii_alphanumeric (w ++ r) ≡ length o = ap (prefix_len is_ascii_alphanumeric) s ∙ keyword_run o (flat_map keyword names ++ rest) h.0 in
    omega (arith, run_longest is_ascii_alphanumeric w r (name_passes w n), keyword_length o, length-append (keyword o) (flat_map keyword names))

keywords_or_binary : (names : List (List ℕ)) (rest v s : List ℕ) → names ≢ [] → AllByRecursion IsName names → v ++ s ≡ flat_map keyword names ++ rest → IsBinary v → ⊥
keywords_or_binary [] rest v s some h t b = some refl
keywords_or_binary (o ∷ names) rest v s some h t b =
    let spread : o ++ ((58 ∷ flat_map keyword names) ++ rest) ≡ flat_map keyword (o ∷ names) ++ rest =
    sym (append_assoc o (58 ∷ flat_map keyword names) rest) ∙ ap (λ l. l ++ rest) (sym (append_assoc o (58 ∷ []) (flat_map keyword names))) in
    name_or_binary o ((58 ∷ flat_map keyword names) ++ rest) v s (spread ∙ sym t) h.0 b

pub keywords_select : (n : ℕ) (text : List ℕ) → IsMost AreKeywords n text → IsMost IsSelector n text
keywords_select n text m = record { fits = m.fits; here = inl m.here; longest = longest }
  where
    whole : (w r : List ℕ) → w ++ r ≡ text → w ++ r ≡ flat_map keyword m.here.joined.names ++ drop n text
    whole w r t = t ∙ sym (take-append-drop n text) ∙ ap (λ l. l ++ drop n text) m.here.joined.spelled

    long : length (flat_map keyword m.here.joined.names) ≡ n
    long = ap length (sym m.here.joined.spelled) ∙ length-take-le n text m.fits

    longest : (w r : List ℕ) → w ++ r ≡ text → IsSelector w r → length w ≤ n
    longest w r t (inl k) = m.longest w r t k
    longest w r t (inr (inl h)) = omega (arith, long, name_shorter m.here.joined.names w r (drop n text) m.here.joined.some m.here.joined.named (whole w r t) h)
    longest w r t (inr (inr b)) = absurd (keywords_or_binary m.here.joined.names (drop n text) w r m.here.joined.some m.here.joined.named (whole w r t) b)

pub name_selects : (n : ℕ) (text : List ℕ) → Lacks AreKeywords text → IsMost (λ word _. IsName word) n text → IsMost IsSelector n text
name_selects n text none m = record { fits = m.fits; here = inr (inl m.here); longest = longest }
  where
    longest : (w r : List ℕ) → w ++ r ≡ text → IsSelector w r → length w ≤ n
    longest w r t (inl k) = absurd (none w r t k)
    longest w r t (inr (inl h)) = m.longest w r t h
    longest w r t (inr (inr b)) = absurd (name_or_binary (take n text) (drop n text) w r (take-append-drop n text ∙ sym t) m.here b)

pub binary_selects : (found : Option ℕ) (text : List ℕ) → Lacks AreKeywords text → Lacks (λ word _. IsName word) text → Finds (λ word _. IsBinary word) found text → Finds IsSelector found text
binary_selects (Some n) text none nameless m = record { fits = m.fits; here = inr (inr m.here); longest = longest }
  where
    longest : (w r : List ℕ) → w ++ r ≡ text → IsSelector w r → length w ≤ n
    longest w r t (inl k) = absurd (none w r t k)
    longest w r t (inr (inl h)) = absurd (nameless w r t h)
    longest w r t (inr (inr b)) = m.longest w r t b
binary_selects None text none nameless m = nothing
  where
    nothing : Lacks IsSelector text
    nothing w r t (inl k) = none w r t k
    nothing w r t (inr (inl h)) = nameless w r t h
    nothing w r t (inr (inr b)) = m w r t b

-- two special characters, where the second isn't a minus
pub binary_two : (text : List ℕ) → IsOperator (first_class text) → first_class (drop 1 text) ≡ Special → IsMost (λ word _. IsBinary word) 2 text
binary_two [] i e = absurd i
binary_two (b ∷ []) i e = absurd (cc)
binary_two (b ∷ c ∷ text) i e = record { fits = omega arith; here = (i, e); longest = longest }
  where
    longest : (w r : List ℕ) → w ++ r ≡ b ∷ c ∷ text → IsBinary w → length w ≤ 2
    longest [] r t h = omega arith
    longest (x ∷ []) r t h = omega arith
    longest (x ∷ y ∷ []) r t h = omega arith
    longest (x ∷ y ∷ z ∷ w) r t h = absurd h

-- or one
pub binary_one : (text : List ℕ) → IsOperator (first_class text) → (first_class (drop 1 text) ≡ Special → ⊥) → IsMost (λ word _. IsBinary word) 1 text
binary_one [] i apart = absurd i
binary_one (b ∷ text) i apart = record { fits = omega arith; here = i; longest = longest }
  where
    longest : (w r : List ℕ) → w ++ r ≡ b ∷ text → IsBinary w → length w ≤ 1
    longest [] r t h = omega arith
    longest (x ∷ []) r t h = omega arith
    longest (x ∷ y ∷ []) r t h = absurd (apart (ap (λ l. first_class (drop 1 l)) (sym t) ∙ h.1))
    longest (x ∷ y ∷ z ∷ w) r t h = absurd h
