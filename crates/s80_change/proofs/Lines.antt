-- Chunks that bytes begin with, and what stands behind them.
use Rattle.std.proofs.Common.{◌≡◌, ◌≢◌, inl, inr, ℕ, ◌+◌, ◌-◌, ◌<◌, ◌≤◌, true, false, List, [], ◌∷◌, ◌++◌, length, get_or, take, drop, Err, Ok, refl, sym, ap, ◌∙◌, arith, append_assoc, append-nil, length-append, length-drop, length-take}
use Rattle.std.specs.Prelude.{⊤, nat_eq, ◌⊎◌}
use Rattle.std.specs.List.{starts_with}
use Rattle.std.proofs.lemmas.Bool.{true≢false}
use Rattle.std.proofs.lemmas.Bool.Decides.{Decides-eqb}
use Rattle.std.proofs.lemmas.Slice.Eq.{starts_is}
use Rattle.s80_chunk.specs.Chunks.{mark, spell, chunk, IsNoMark}
use Rattle.s80_chunk.proofs.lemmas.Spelling.{chunk_unique, not_ended}
use Rattle.s80_change.specs.declared.front.NoFraming.{NoFraming}
use Rattle.s80_change.specs.declared.front.NoFraming.TheVariants.{Memory, Absent, Unended}
use Rattle.s80_change.specs.Fronts.{HasFirst, IsFirst, IsEnd, HasChunk, IsFirstChunk, line}

-- a chunk and what follows it, as its spelled text and then the mark
regrouped : (text after : List ℕ) → chunk text ++ after ≡ spell text ++ mark ∷ after
regrouped text after = append_assoc (spell text) (mark ∷ []) after

end_is_no_mark : (end more : List ℕ) → IsEnd end → IsNoMark (end ++ more)
end_is_no_mark [] more is = absurd is
end_is_no_mark (b ∷ end) more is = is

-- ---- the chunk

-- the bytes end with the spelled text
pub ends_there : (bytes text rest : List ℕ) → bytes ≡ spell text ++ rest → length rest < 1 → IsFirstChunk bytes (Err Unended)
ends_there bytes text [] e short = (text, inl (e ∙ append-nil (spell text)))
ends_there bytes text (a ∷ rest) e short = absurd (omega arith)

-- or with a mark behind it
pub ends_at_mark : (bytes text rest : List ℕ) → bytes ≡ spell text ++ rest → length rest ≡ 1 → get_or rest 0 0 ≡ mark → IsFirstChunk bytes (Err Unended)
ends_at_mark bytes text [] e one first = absurd (omega arith)
ends_at_mark bytes text (a ∷ []) e one first = (text, inr (e ∙ ap (λ b. spell text ++ b ∷ []) first))
ends_at_mark bytes text (a ∷ b ∷ rest) e one first = absurd (omega arith)

chunk_size : (bytes text after : List ℕ) → bytes ≡ chunk text ++ after → length bytes - length after ≡ length (chunk text)
chunk_size bytes text after e =
    let n = simp length-append at (ap length e) in
    simp length-append (omega arith)

-- a mark stands behind the text, and then a byte that is none
pub chunk_there : (bytes text rest : List ℕ) (count : ℕ) → bytes ≡ spell text ++ rest → 2 ≤ length rest → get_or rest 0 0 ≡ mark → get_or rest 1 0 ≢ mark
    → count ≡ length bytes - length (take (length rest - 1) (drop 1 rest)) → IsFirstChunk bytes (Ok (text, count))
chunk_there bytes text [] count e long first second counted = absurd (omega arith)
chunk_there bytes text (a ∷ []) count e long first second counted = absurd (omega arith)
chunk_there bytes text (a ∷ b ∷ rest) count e long first second counted =
    let begins : bytes ≡ chunk text ++ b ∷ rest = e ∙ ap (λ c. spell text ++ c ∷ b ∷ rest) first ∙ sym (regrouped text (b ∷ rest)) in
    let same : length (take (length (a ∷ b ∷ rest) - 1) (drop 1 (a ∷ b ∷ rest))) ≡ length (b ∷ rest) = simp (length-take, length-drop) (omega arith) in
    record {
      after = b ∷ rest;
      begins = begins;
      ends = second;
      counted = counted ∙ ap (λ n. length bytes - n) same ∙ chunk_size bytes text (b ∷ rest) begins;
    }

-- ---- the line

same_behind : (xs ys zs : List ℕ) → xs ++ ys ≡ xs ++ zs → ys ≡ zs
same_behind [] ys zs e = e
same_behind (x ∷ xs) ys zs e = same_behind xs ys zs (cc)

regrouped_line : (end text after : List ℕ) → line end text ++ after ≡ spell text ++ mark ∷ (end ++ after)
regrouped_line end text after = append_assoc (chunk text) end after ∙ regrouped text (end ++ after)

pub line_unique : (end text other after more : List ℕ) → IsEnd end → line end text ++ after ≡ line end other ++ more → (text ≡ other) × (after ≡ more)
line_unique end text other after more is e =
    let both = chunk_unique text other (end ++ after) (end ++ more) (end_is_no_mark end after is) (end_is_no_mark end more is) (sym (regrouped_line end text after) ∙ e ∙ regrouped_line end other more) in
    (both.0, same_behind end after more both.1)

no_end_is_empty : (end more : List ℕ) → IsEnd end → [] ≡ end ++ more → ⊥
no_end_is_empty [] more is e = is
no_end_is_empty (b ∷ end) more is e = cc

no_line_in_text : (end text x after : List ℕ) → IsEnd end → spell text ≡ line end x ++ after → ⊥
no_line_in_text end text x after is e = not_ended text x (end ++ after) (end_is_no_mark end after is) (e ∙ regrouped_line end x after)

no_line_in_chunk : (end text x after : List ℕ) → IsEnd end → chunk text ≡ line end x ++ after → ⊥
no_line_in_chunk end text x after is e = no_end_is_empty end after is (chunk_unique text x [] (end ++ after) tt (end_is_no_mark end after is) (e ∙ regrouped_line end x after)).1

-- where there is no chunk there is no line
pub no_chunk : (end bytes : List ℕ) (fault : NoFraming) → IsEnd end → IsFirstChunk bytes (Err fault) → IsFirst (line end) (λ _. ⊤) bytes (Err fault)
no_chunk end bytes Memory is none = tt
no_chunk end bytes Absent is none = absurd none
no_chunk end bytes Unended is (text, inl e) = (
  record { value = text; more = mark ∷ end; goes_on = regrouped text end ∙ ap (λ l. l ++ mark ∷ end) (sym e); some = λ f. cc },
  λ x after proper whole. no_line_in_text end text x after is (sym e ∙ whole),
)
no_chunk [] bytes Unended is (text, inr e) = absurd is
no_chunk (b ∷ end) bytes Unended is (text, inr e) = (
  record { value = text; more = b ∷ end; goes_on = ap (λ l. l ++ b ∷ end) (sym e); some = λ f. cc },
  λ x after proper whole. no_line_in_chunk (b ∷ end) text x after is (sym e ∙ whole),
)

behind : (xs ys : List ℕ) → drop (length xs) (xs ++ ys) ≡ ys
behind [] ys = refl
behind (x ∷ xs) ys = behind xs ys

-- what stands behind the chunk
rest_is : (bytes text rest : List ℕ) (count : ℕ) (has : HasChunk bytes text count) → rest ≡ drop count bytes → rest ≡ has.after
rest_is bytes text rest count has e = e ∙ ap (λ n. drop n bytes) has.counted ∙ ap (drop (length (chunk text))) has.begins ∙ behind (chunk text) has.after

front_is : (bytes front : List ℕ) → starts_with nat_eq bytes front ≡ true → bytes ≡ front ++ drop (length front) bytes
front_is bytes front is = (starts_is Decides-eqb bytes front _ refl).0 is

no_front : (bytes front rest : List ℕ) → starts_with nat_eq bytes front ≡ false → bytes ≡ front ++ rest → ⊥
no_front bytes front rest not e = true≢false (sym ((starts_is Decides-eqb bytes front _ refl).1 rest e) ∙ not)

-- the end stands there
pub line_there : (end bytes text rest : List ℕ) (count : ℕ) → HasChunk bytes text count → rest ≡ drop count bytes → starts_with nat_eq rest end ≡ true
    → HasFirst (line end) (λ _. ⊤) bytes text (count + length end)
line_there end bytes text rest count has behind_is starts =
    let after = sym (rest_is bytes text rest count has behind_is) ∙ front_is rest end starts in
    record {
      proper = tt;
      after = drop (length end) rest;
      begins = has.begins ∙ ap (λ l. chunk text ++ l) after ∙ sym (append_assoc (chunk text) end (drop (length end) rest));
      counted = ap (λ n. n + length end) has.counted ∙ sym (length-append (chunk text) end);
    }

-- any line in the bytes, with whatever follows them, has its end where the chunk's is
end_behind : (end bytes text rest more x after : List ℕ) (count : ℕ) → HasChunk bytes text count → rest ≡ drop count bytes → IsEnd end
    → bytes ++ more ≡ line end x ++ after → rest ++ more ≡ end ++ after
end_behind end bytes text rest more x after count has behind_is is e =
    let own : bytes ++ more ≡ spell text ++ mark ∷ (has.after ++ more) =
    ap (λ l. l ++ more) has.begins ∙ append_assoc (chunk text) has.after more ∙ regrouped text (has.after ++ more) in
    let both = chunk_unique text x (has.after ++ more) (end ++ after) (end_is_no_mark has.after more has.ends) (end_is_no_mark end after is) (sym own ∙ e ∙ regrouped_line end x after) in
    ap (λ l. l ++ more) (rest_is bytes text rest count has behind_is) ∙ both.1

-- the bytes end inside the end
pub line_unended : (end bytes text rest : List ℕ) (count : ℕ) → HasChunk bytes text count → rest ≡ drop count bytes → IsEnd end
    → starts_with nat_eq rest end ≡ false → starts_with nat_eq end rest ≡ true → IsFirst (line end) (λ _. ⊤) bytes (Err Unended)
line_unended end bytes text rest count has behind_is is none starts =
    let more = drop (length rest) end in
    let own = front_is end rest starts in
    let whole : bytes ≡ chunk text ++ rest = has.begins ∙ ap (λ l. chunk text ++ l) (sym (rest_is bytes text rest count has behind_is)) in (
      record {
        value = text;
        more = more;
        goes_on = ap (λ l. chunk text ++ l) own ∙ sym (append_assoc (chunk text) rest more) ∙ ap (λ l. l ++ more) (sym whole);
        some = λ f. no_front rest end [] none (sym (own ∙ ap (λ l. rest ++ l) f ∙ append-nil rest) ∙ sym (append-nil end));
      },
      λ x after proper e. no_front rest end after none (sym (append-nil rest) ∙ end_behind end bytes text rest [] x after count has behind_is is (append-nil bytes ∙ e)),
    )

-- of two fronts of the same bytes one is a front of the other
one_in_other : (xs ys more after : List ℕ) → xs ++ more ≡ ys ++ after → ((r : List ℕ) × (xs ≡ ys ++ r)) ⊎ ((r : List ℕ) × (ys ≡ xs ++ r))
one_in_other [] ys more after e = inr (ys, refl)
one_in_other (x ∷ xs) [] more after e = inl (x ∷ xs, refl)
one_in_other (x ∷ xs) (y ∷ ys) more after e =
    let heads : x ≡ y = cc in
    elim (one_in_other xs ys more after cc) [
      | inl r ↦ inl (r.0, (let s = r.1 in cc))
      | inr r ↦ inr (r.0, (let s = r.1 in cc))
    ]

-- another byte stands in its place
pub line_absent : (end bytes text rest : List ℕ) (count : ℕ) → HasChunk bytes text count → rest ≡ drop count bytes → IsEnd end
    → starts_with nat_eq rest end ≡ false → starts_with nat_eq end rest ≡ false → IsFirst (line end) (λ _. ⊤) bytes (Err Absent)
line_absent end bytes text rest count has behind_is is none other = λ more x after proper e.
    elim (one_in_other rest end more after (end_behind end bytes text rest more x after count has behind_is is e)) [
      | inl r ↦ no_front rest end r.0 none r.1
      | inr r ↦ no_front end rest r.0 other r.1
    ]
