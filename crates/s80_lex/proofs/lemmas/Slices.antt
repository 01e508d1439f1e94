-- Tokens as slices of their text.
use Rattle.std.proofs.Common.{◌≡◌, ℕ, ◌+◌, ◌-◌, ◌≤◌, List, [], ◌∷◌, ◌++◌, take, drop, length, refl, ap, sym, ◌∙◌, subst, arith, append_assoc, length-append}
use Rattle.std.specs.List.{AllByRecursion, All, AllPairs}
use Rattle.std.specs.Prelude.{slice_range}
use Rattle.std.proofs.lemmas.List.{append-nil, take_at, drop_at}
use Rattle.std.proofs.lemmas.List.Elements.{All-from_recursion}
use Rattle.std.proofs.lemmas.List.Kept.{AllPairs-cons}
use Rattle.s80_lex.specs.declared.part.Part.{Part}
use Rattle.s80_lex.specs.declared.part.Part.TheVariants as part
use Rattle.s80_lex.specs.declared.token.Token.{Token}
use Rattle.s80_lex.specs.Spelling.{IsToken}
use Rattle.s80_lex.specs.Number.{IsLawfulNumber}
use Rattle.s80_lex.specs.Text.{IsPart, AreParts, AreTokens, IsSlice, text_of, token_of, tokens_of}
use Rattle.s80_lex.proofs.lemmas.Standing.{part_some}

all_append : {A : Type 0} (P : A → Type 0) (xs ys : List A) → AllByRecursion P xs → AllByRecursion P ys → AllByRecursion P (xs ++ ys)
all_append P [] ys h k = k
all_append P (x ∷ xs) ys h k = (h.0, all_append P xs ys h.1 k)

slice_is : (done word rest text : List ℕ) → text ≡ done ++ (word ++ rest) → slice_range text (length done) (length done + length word) ≡ word
slice_is done word rest text t =
    let long : length done + length word - length done ≡ length word = omega arith in
    ap (λ n. take n (drop (length done) text)) long ∙ ap (λ l. take (length word) (drop (length done) l)) t
    ∙ ap (take (length word)) (drop_at done (word ++ rest) (length done) refl) ∙ take_at word rest (length word) refl

part_slice : (p : Part) (done word rest text : List ℕ) → text ≡ done ++ (word ++ rest) → IsPart p word rest → AllByRecursion (IsSlice text) (token_of p (length done) (length done + length word))
part_slice part.Separator done word rest text t h = tt
part_slice part.Comment done word rest text t h = tt
part_slice (part.Token kind) done word rest text t h =
    let slice : slice_range text (length done) (length done + length word) ≡ word = slice_is done word rest text t in
    let left : drop (length done + length word) text ≡ rest =
    ap (drop (length done + length word)) (t ∙ sym (append_assoc done word rest)) ∙ drop_at (done ++ word) rest (length done + length word) (length-append done word) in (
      record {
        some = omega (arith, part_some (part.Token kind) word rest h);
        within = omega (arith, ap length t, length-append done (word ++ rest), length-append word rest);
        spelled = subst (λ w. IsToken kind w (drop (length done + length word) text)) (sym slice) (subst (IsToken kind word) (sym left) h.0.token);
        lawful = λ e. subst IsLawfulNumber (sym slice) (h.1 e);
      },
      tt,
    )

parts_slices : (parts : List (Part × List ℕ)) (done rest text : List ℕ) → text ≡ done ++ (text_of parts ++ rest) → AreParts parts rest → AllByRecursion (IsSlice text) (tokens_of (length done) parts)
parts_slices [] done rest text t h = tt
parts_slices (p ∷ parts) done rest text t h =
    let next : text ≡ done ++ (p.1 ++ (text_of parts ++ rest)) = t ∙ ap (λ l. done ++ l) (append_assoc p.1 (text_of parts) rest) in
    let more : text ≡ (done ++ p.1) ++ (text_of parts ++ rest) = next ∙ sym (append_assoc done p.1 (text_of parts ++ rest)) in
    all_append (IsSlice text) (token_of p.0 (length done) (length done + length p.1)) (tokens_of (length done + length p.1) parts)
    (part_slice p.0 done p.1 (text_of parts ++ rest) text next h.0)
    (subst (λ n. AllByRecursion (IsSlice text) (tokens_of n parts)) (length-append done p.1) (parts_slices parts (done ++ p.1) rest text more h.1))

pub slices : (tokens : List Token) (text : List ℕ) → AreTokens tokens text → All (IsSlice text) tokens
slices tokens text h =
    subst (All (IsSlice text)) (sym h.listed) (All-from_recursion (IsSlice text) (tokens_of 0 h.parts)
    (parts_slices h.parts [] [] text (h.whole ∙ sym (append-nil (text_of h.parts))) h.each))

-- each token begins where or after the one before it ends
token_from : (p : Part) (at from to : ℕ) → at ≤ from → AllByRecursion (λ t. at ≤ t.from) (token_of p from to)
token_from part.Separator at from to le = tt
token_from part.Comment at from to le = tt
token_from (part.Token kind) at from to le = (le, tt)

tokens_from : (parts : List (Part × List ℕ)) (at from : ℕ) → at ≤ from → AllByRecursion (λ t. at ≤ t.from) (tokens_of from parts)
tokens_from [] at from le = tt
tokens_from (p ∷ parts) at from le =
    all_append (λ (t : Token). at ≤ t.from) (token_of p.0 from (from + length p.1)) (tokens_of (from + length p.1) parts)
    (token_from p.0 at from (from + length p.1) le) (tokens_from parts at (from + length p.1) (omega arith))

abbrev InOrder : List Token → Type 0
InOrder tokens = AllPairs (λ (a b : Token). a.to ≤ b.from) tokens

part_order : (p : Part) (from to : ℕ) (tokens : List Token) → AllByRecursion (λ t. to ≤ t.from) tokens → InOrder tokens → InOrder (token_of p from to ++ tokens)
part_order part.Separator from to tokens h k = k
part_order part.Comment from to tokens h k = k
part_order (part.Token kind) from to tokens h k =
    AllPairs-cons (λ (a b : Token). a.to ≤ b.from) (record { kind = kind; from = from; to = to }) tokens (All-from_recursion (λ t. to ≤ t.from) tokens h) k

parts_order : (parts : List (Part × List ℕ)) (from : ℕ) → InOrder (tokens_of from parts)
parts_order [] from = λ i j d lt le. absurd (omega arith)
parts_order (p ∷ parts) from =
    part_order p.0 from (from + length p.1) (tokens_of (from + length p.1) parts)
    (tokens_from parts (from + length p.1) (from + length p.1) (omega arith)) (parts_order parts (from + length p.1))

pub in_order : (tokens : List Token) (text : List ℕ) → AreTokens tokens text → AllPairs (λ (a b : Token). a.to ≤ b.from) tokens
in_order tokens text h = subst InOrder (sym h.listed) (parts_order h.parts 0)
