-- Joined keywords at the front of a text.
use Rattle.std.proofs.Common.{◌≡◌, ◌≢◌, ℕ, ◌+◌, ◌-◌, ◌≤◌, List, [], ◌∷◌, ◌++◌, take, drop, length, refl, ap, sym, ◌∙◌, subst, arith, append_assoc, length-append, take-append-drop, length-take-le, length-drop}
use Rattle.std.specs.List.{prefix_len, flat_map, AllByRecursion}
use Rattle.std.specs.Char.{is_ascii_alphanumeric}
use Rattle.std.proofs.lemmas.List.{append-nil, take_rest, drop-drop}
use Rattle.s80_lex.specs.declared.class.Class.TheVariants.{Letter}
use Rattle.s80_lex.specs.Spelling.{IsName, IsKeyword, AreKeywords, keyword, NotNext}
use Rattle.s80_lex.specs.Front.{first_class, IsMost, Lacks}
use Rattle.s80_lex.proofs.Classes.{letter_differs}
use Rattle.s80_lex.proofs.lemmas.Fronts.{split_same}
use Rattle.s80_lex.proofs.Stages.{take_both}
use Rattle.s80_lex.proofs.Words.{name_first, keyword_run, keyword_length}

-- one list of keywords, and one more at its end
named_push : (names : List (List ℕ)) (name : List ℕ) → AllByRecursion IsName names → IsName name → AllByRecursion IsName (names ++ name ∷ [])
named_push [] name h k = (k, tt)
named_push (n ∷ names) name h k = (h.0, named_push names name h.1 k)

joined_push : (names : List (List ℕ)) (name : List ℕ) → flat_map keyword (names ++ name ∷ []) ≡ flat_map keyword names ++ keyword name
joined_push [] name = append-nil (keyword name)
joined_push (n ∷ names) name = ap (λ l. keyword n ++ l) (joined_push names name) ∙ sym (append_assoc (keyword n) (flat_map keyword names) (keyword name))

some_push : (names : List (List ℕ)) (name : List ℕ) → names ++ name ∷ [] ≢ []
some_push [] name e = cc
some_push (n ∷ names) name e = cc

pub one_keyword : (word rest : List ℕ) → IsKeyword word rest → AreKeywords word rest
one_keyword word rest k = record {
  count = 1;
  joined = record {
    names = k.name ∷ [];
    some = some_push [] k.name;
    named = (k.named, tt);
    spelled = k.spelled ∙ sym (append-nil (keyword k.name));
    counted = refl;
  };
  ended = k.ended;
}

pub more_keywords : (words word rest : List ℕ) → AreKeywords words (word ++ rest) → IsKeyword word rest → AreKeywords (words ++ word) rest
more_keywords words word rest h k = record {
  count = length (h.joined.names ++ k.name ∷ []);
  joined = record {
    names = h.joined.names ++ k.name ∷ [];
    some = some_push h.joined.names k.name;
    named = named_push h.joined.names k.name h.joined.named k.named;
    spelled = ap (λ w. w ++ word) h.joined.spelled ∙ ap (λ w. flat_map keyword h.joined.names ++ w) k.spelled ∙ sym (joined_push h.joined.names k.name);
    counted = refl;
  };
  ended = k.ended;
}

-- no equals sign stands before keywords
not_next : (names : List (List ℕ)) (rest : List ℕ) → AllByRecursion IsName names → NotNext 61 rest → NotNext 61 (flat_map keyword names ++ rest)
not_next [] rest h e = e
not_next ([] ∷ names) rest h e = absurd h.0
not_next ((b ∷ name) ∷ names) rest h e = letter_differs b h.0.0

-- where one list of keywords ends and no keyword follows, no list is longer
joined_longest : (others names : List (List ℕ)) (left rest : List ℕ) → AllByRecursion IsName others → AllByRecursion IsName names → NotNext 61 left → Lacks IsKeyword rest → flat_map keyword others ++ left ≡ flat_map keyword names ++ rest → length (flat_map keyword others) ≤ length (flat_map keyword names)
joined_longest [] names left rest h k e none t = omega arith
joined_longest (o ∷ others) [] left rest h k e none t =
    absurd (none (keyword o) (flat_map keyword others ++ left) (sym (append_assoc (keyword o) (flat_map keyword others) left) ∙ t)
    (record { name = o; named = h.0; spelled = refl; ended = not_next others left h.1 e }))
joined_longest (o ∷ others) (n ∷ names) left rest h k e none t =
    let os : List ℕ = flat_map keyword others ++ left in
    let ns : List ℕ = flat_map keyword names ++ rest in
    let s : keyword o ++ os ≡ keyword n ++ ns = sym (append_assoc (keyword o) (flat_map keyword others) left) ∙ t ∙ append_assoc (keyword n) (flat_map keyword names) rest in
    let long : length o ≡ length n = sym (keyword_run o os h.0) ∙ ap (prefix_len is_ascii_alphanumeric) s ∙ keyword_run n ns k.0 in
    let both = split_same (keyword o) os (keyword n) ns (omega (arith, keyword_length o, keyword_length n)) s in
    let shorter : length (flat_map keyword others) ≤ length (flat_map keyword names) = joined_longest others names left rest h.1 k.1 e none both.1 in
    omega (arith, length-append (keyword o) (flat_map keyword others), length-append (keyword n) (flat_map keyword names), keyword_length o, keyword_length n)

pub keywords_most : (n : ℕ) (text : List ℕ) → n ≤ length text → AreKeywords (take n text) (drop n text) → Lacks IsKeyword (drop n text) → IsMost AreKeywords n text
keywords_most n text fits h none = record {
  fits = fits;
  here = h;
  longest = λ w r t k.
      let s : flat_map keyword k.joined.names ++ r ≡ flat_map keyword h.joined.names ++ drop n text =
      ap (λ l. l ++ r) (sym k.joined.spelled) ∙ t ∙ sym (take-append-drop n text) ∙ ap (λ l. l ++ drop n text) h.joined.spelled in
      let short : length (flat_map keyword k.joined.names) ≤ length (flat_map keyword h.joined.names) =
      joined_longest k.joined.names h.joined.names r (drop n text) k.joined.named h.joined.named k.ended none s in
      omega (arith, ap length k.joined.spelled, ap length h.joined.spelled, length-take-le n text fits);
}

-- joined keywords begin with a keyword
pub first_keyword : (names : List (List ℕ)) (word rest text : List ℕ) → names ≢ [] → AllByRecursion IsName names → word ≡ flat_map keyword names → NotNext 61 rest → word ++ rest ≡ text → Lacks IsKeyword text → ⊥
first_keyword [] word rest text some h s e t none = some refl
first_keyword (n ∷ names) word rest text some h s e t none =
    none (keyword n) (flat_map keyword names ++ rest) (sym (append_assoc (keyword n) (flat_map keyword names) rest) ∙ ap (λ w. w ++ rest) (sym s) ∙ t)
    (record { name = n; named = h.0; spelled = refl; ended = not_next names rest h.1 e })

pub no_keywords : (text : List ℕ) → Lacks IsKeyword text → Lacks AreKeywords text
no_keywords text none w r t k = first_keyword k.joined.names w r text k.joined.some k.joined.named k.joined.spelled k.ended t none

-- and with a letter
pub keywords_first : (names : List (List ℕ)) (word rest : List ℕ) → names ≢ [] → AllByRecursion IsName names → word ≡ flat_map keyword names → first_class (word ++ rest) ≡ Letter
keywords_first [] word rest some h s = absurd (some refl)
keywords_first (n ∷ names) word rest some h s =
    ap (λ w. first_class (w ++ rest)) s
    ∙ ap first_class (ap (λ l. l ++ rest) (append_assoc n (58 ∷ []) (flat_map keyword names)) ∙ append_assoc n (58 ∷ flat_map keyword names) rest)
    ∙ name_first n ((58 ∷ flat_map keyword names) ++ rest) h.0

-- the loop over keywords
pub keywords_start : (n : ℕ) (bytes : List ℕ) → IsMost IsKeyword n bytes → (n ≤ length bytes) × AreKeywords (take n bytes) (drop n bytes)
keywords_start n bytes m = (m.fits, one_keyword (take n bytes) (drop n bytes) m.here)

pub keywords_step : (n k : ℕ) (bytes : List ℕ) → n ≤ length bytes → AreKeywords (take n bytes) (drop n bytes) → IsMost IsKeyword k (take (length bytes - n) (drop n bytes)) → (n + k ≤ length bytes) × AreKeywords (take (n + k) bytes) (drop (n + k) bytes)
keywords_step n k bytes fits words seen =
    let most : IsMost IsKeyword k (drop n bytes) = subst (IsMost IsKeyword k) (take_rest bytes n) seen in
    let word : List ℕ = take k (drop n bytes) in
    let rest : List ℕ = drop k (drop n bytes) in
    let before : AreKeywords (take n bytes) (word ++ rest) = subst (AreKeywords (take n bytes)) (sym (take-append-drop k (drop n bytes))) words in (
      omega (arith, most.fits, length-drop n bytes),
      subst (λ w. AreKeywords w (drop (n + k) bytes)) (sym (take_both n k bytes fits)) (subst (AreKeywords (take n bytes ++ word)) (drop-drop k n bytes) (more_keywords (take n bytes) word rest before most.here)),
    )

pub keywords_end : (n : ℕ) (bytes : List ℕ) → n ≤ length bytes → AreKeywords (take n bytes) (drop n bytes) → Lacks IsKeyword (take (length bytes - n) (drop n bytes)) → IsMost AreKeywords n bytes
keywords_end n bytes fits words none = keywords_most n bytes fits words (subst (Lacks IsKeyword) (take_rest bytes n) none)
