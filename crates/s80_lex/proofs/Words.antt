-- Names and keywords at the front of a text.
use Rattle.std.proofs.Common.{◌≡◌, ℕ, ◌+◌, ◌-◌, ◌≤◌, List, [], ◌∷◌, ◌++◌, Bool, true, false, cond, not, take, drop, length, refl, ap, sym, ◌∙◌, subst, arith, one-add, append_assoc, length-append, take-append-drop}
use Rattle.std.specs.List.{prefix_len}
use Rattle.std.specs.Char.{is_ascii_alphanumeric}
use Rattle.std.proofs.lemmas.Bool.{eqb-true, and_parts, not-true}
use Rattle.std.proofs.lemmas.List.{drop_at}
use Rattle.std.proofs.lemmas.List.Sums.{prefix_len-le-length}
use Rattle.s80_lex.specs.declared.class.Class.TheVariants.{Letter}
use Rattle.s80_lex.specs.Spelling.{Passes, IsName, IsKeyword, keyword, begins_with, NotNext}
use Rattle.s80_lex.specs.Front.{first_class, ends_keyword, IsMost, Lacks}
use Rattle.s80_lex.proofs.Classes.{letter}
use Rattle.s80_lex.proofs.lemmas.Fronts.{at_rest, most_from, most_unique}
use Rattle.s80_lex.proofs.lemmas.Runs.{run_passes, run_longest, run_ends}

pub name_passes : (w : List ℕ) → IsName w → Passes is_ascii_alphanumeric w
name_passes [] h = absurd h
name_passes (b ∷ w) h = (letter b h.0, h.1)

-- a name begins with a letter
pub name_first : (w r : List ℕ) → IsName w → first_class (w ++ r) ≡ Letter
name_first [] r h = absurd h
name_first (b ∷ w) r h = h.0

take_run : (p : ℕ → Bool) (b : ℕ) (bs : List ℕ) → p b ≡ true → take (prefix_len p (b ∷ bs)) (b ∷ bs) ≡ b ∷ take (prefix_len p bs) bs
take_run p b bs e = ap (λ t. take (cond t (1 + prefix_len p bs) 0) (b ∷ bs)) e ∙ ap (λ m. take m (b ∷ bs)) (one-add (prefix_len p bs))

run_name : (text : List ℕ) → first_class text ≡ Letter → IsName (take (prefix_len is_ascii_alphanumeric text) text)
run_name [] e = cc
run_name (b ∷ bs) e = subst IsName (sym (take_run is_ascii_alphanumeric b bs (letter b e))) (e, run_passes is_ascii_alphanumeric bs)

pub name_most : (text : List ℕ) → first_class text ≡ Letter → IsMost (λ word _. IsName word) (prefix_len is_ascii_alphanumeric text) text
name_most text e = record {
  fits = prefix_len-le-length is_ascii_alphanumeric text;
  here = run_name text e;
  longest = λ w r t h. subst (λ l. length w ≤ prefix_len is_ascii_alphanumeric l) t (run_longest is_ascii_alphanumeric w r (name_passes w h));
}

pub no_name : (text : List ℕ) → (first_class text ≡ Letter → ⊥) → Lacks (λ word _. IsName word) text
no_name text e w r t h = e (ap first_class (sym t) ∙ name_first w r h)

-- behind the name of a keyword stands its colon
colon_next : (rest : List ℕ) → ends_keyword rest ≡ true → (rest ≡ 58 ∷ drop 1 rest) × NotNext 61 (drop 1 rest)
colon_next [] e = absurd (cc)
colon_next (b ∷ bs) e =
    let parts = and_parts (begins_with 58 (b ∷ bs)) (not (begins_with 61 bs)) e in
    (ap (λ c. c ∷ bs) (eqb-true b 58 parts.0), not-true (begins_with 61 bs) parts.1)

ends : (rest : List ℕ) → NotNext 61 rest → ends_keyword (58 ∷ rest) ≡ true
ends rest e = ap not e

pub keyword_append : (name rest : List ℕ) → keyword name ++ rest ≡ name ++ 58 ∷ rest
keyword_append name rest = append_assoc name (58 ∷ []) rest

-- the name of a keyword is as long as the run of letters and digits
pub keyword_run : (name rest : List ℕ) → IsName name → prefix_len is_ascii_alphanumeric (keyword name ++ rest) ≡ length name
keyword_run name rest h = ap (prefix_len is_ascii_alphanumeric) (keyword_append name rest) ∙ run_ends is_ascii_alphanumeric name 58 rest (name_passes name h) refl

pub keyword_length : (name : List ℕ) → length (keyword name) ≡ length name + 1
keyword_length name = length-append name (58 ∷ [])

-- what a keyword at the front shows
pub keyword_shows : (text word rest : List ℕ) → word ++ rest ≡ text → IsKeyword word rest → (first_class text ≡ Letter) × (length word ≡ prefix_len is_ascii_alphanumeric text + 1) × (ends_keyword (drop (prefix_len is_ascii_alphanumeric text) text) ≡ true)
keyword_shows text word rest t h =
    let whole : keyword h.name ++ rest ≡ text = ap (λ w. w ++ rest) (sym h.spelled) ∙ t in
    let run : prefix_len is_ascii_alphanumeric text ≡ length h.name = ap (prefix_len is_ascii_alphanumeric) (sym whole) ∙ keyword_run h.name rest h.named in
    let spread : h.name ++ 58 ∷ rest ≡ text = sym (keyword_append h.name rest) ∙ whole in (
      ap first_class (sym spread) ∙ name_first h.name (58 ∷ rest) h.named,
      omega (arith, ap length h.spelled, keyword_length h.name),
      ap (λ n. ends_keyword (drop n text)) run ∙ ap (λ l. ends_keyword (drop (length h.name) l)) (sym spread) ∙ ap ends_keyword (drop_at h.name (58 ∷ rest) (length h.name) refl) ∙ ends rest h.ended,
    )

pub keyword_most : (text : List ℕ) → first_class text ≡ Letter → ends_keyword (drop (prefix_len is_ascii_alphanumeric text) text) ≡ true → IsMost IsKeyword (prefix_len is_ascii_alphanumeric text + 1) text
keyword_most text e h =
    let n : ℕ = prefix_len is_ascii_alphanumeric text in
    let name : List ℕ = take n text in
    let next = colon_next (drop n text) h in
    let rest : List ℕ = drop 1 (drop n text) in
    let named : IsName name = run_name text e in
    let whole : text ≡ keyword name ++ rest = sym (take-append-drop n text) ∙ ap (λ l. name ++ l) next.0 ∙ sym (keyword_append name rest) in
    let long : n ≡ length name = ap (prefix_len is_ascii_alphanumeric) whole ∙ keyword_run name rest named in
    most_from IsKeyword (keyword name) rest (record { name = name; named = named; spelled = refl; ended = next.1 })
    (λ w r t k. let shown = keyword_shows text w r (t ∙ sym whole) k in omega (arith, keyword_length name, shown.1))
    text (n + 1) whole (omega (arith, keyword_length name))

pub no_keyword : (text : List ℕ) → ends_keyword (drop (prefix_len is_ascii_alphanumeric text) text) ≡ false → Lacks IsKeyword text
no_keyword text e w r t h = let shown = keyword_shows text w r t h in cc

pub no_letter : (text : List ℕ) → (first_class text ≡ Letter → ⊥) → Lacks IsKeyword text
no_letter text e w r t h = e (keyword_shows text w r t h).0

-- what was seen behind a run
pub run_seen : (n : ℕ) (text : List ℕ) (b : Bool) → n ≡ prefix_len is_ascii_alphanumeric text → b ≡ ends_keyword (take (length text - n) (drop n text)) → ends_keyword (drop (prefix_len is_ascii_alphanumeric text) text) ≡ b
run_seen n text b e h = ap (λ m. ends_keyword (drop m text)) (sym e) ∙ at_rest ends_keyword text n b h

-- a name has the length of its run
pub name_run : (n : ℕ) (text : List ℕ) → IsMost (λ word _. IsName word) n text → (first_class text ≡ Letter) × (n ≡ prefix_len is_ascii_alphanumeric text)
name_run n text m =
    let e : first_class text ≡ Letter = ap first_class (sym (take-append-drop n text)) ∙ name_first (take n text) (drop n text) m.here in
    (e, most_unique (λ word _. IsName word) n (prefix_len is_ascii_alphanumeric text) text m (name_most text e))
