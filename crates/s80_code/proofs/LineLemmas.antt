-- The lines of a listing.
use Rattle.std.proofs.Common.{◌≡◌, ℕ, zero, suc, ◌+◌, ◌-◌, ◌≤◌, List, [], ◌∷◌, ◌++◌, length, map, flat_map, take, drop, slice_range, refl, sym, ap, subst, ◌∙◌, Some, None, arith, append_assoc, length-drop, drop-drop, append-nil, codes, decimal}
use Rattle.std.specs.List.{join_with_byte}
use Rattle.std.specs.Option.{option_map_or}
use Rattle.s80_code.specs.declared.instruction.Instruction.{Instruction}
use Rattle.s80_code.specs.Table.{decoded}
use Rattle.s80_code.specs.Listing.{hex_byte, spaced, line, lines, disassembly}
use Rattle.s80_code.proofs.lemmas.TableLemmas.{decodes}

-- bytes behind a space each are bytes parted by spaces, behind a space
pub spaced_parted : (b : ℕ) (bytes : List ℕ) → flat_map spaced (b ∷ bytes) ≡ 32 ∷ join_with_byte 32 (map hex_byte (b ∷ bytes))
spaced_parted b [] = refl
spaced_parted b (c ∷ bytes) = ap (λ more. spaced b ++ more) (spaced_parted c bytes)

pub line_is : (at : ℕ) (bytes : List ℕ) → 1 ≤ length bytes → (decimal at ++ codes " ") ++ (flat_map spaced bytes ++ 10 ∷ []) ≡ line at bytes
line_is at [] h = absurd (omega arith)
line_is at (b ∷ bytes) h =
    append_assoc (decimal at) (codes " ") _
    ∙ ap (λ more. decimal at ++ (codes " " ++ (more ++ 10 ∷ []))) (spaced_parted b bytes)

pub whole_line : (at : ℕ) (bytes old place first second new : List ℕ) → 1 ≤ length bytes → place ≡ decimal at ++ codes " " → first ≡ old ++ place → second ≡ first ++ flat_map spaced bytes → new ≡ second ++ 10 ∷ [] → new ≡ old ++ line at bytes
whole_line at bytes old place first second new h p f s n =
    n
    ∙ ap (λ text. text ++ 10 ∷ []) (s ∙ ap (λ text. text ++ flat_map spaced bytes) (f ∙ ap (λ text. old ++ text) p))
    ∙ append_assoc (old ++ (decimal at ++ codes " ")) (flat_map spaced bytes) (10 ∷ [])
    ∙ append_assoc old (decimal at ++ codes " ") (flat_map spaced bytes ++ 10 ∷ [])
    ∙ ap (λ text. old ++ text) (line_is at bytes h)

-- a text that has all lines of the instructions up to a place
pub record SoFar (bytes : List ℕ) (at : ℕ) (text : List ℕ) : Type 0 where
  pub in_range : at ≤ length bytes
  pub most : ℕ
  pub enough : length bytes ≤ most + at
  pub whole : text ++ lines most at (drop at bytes) ≡ disassembly bytes

pub begun : (bytes : List ℕ) → SoFar bytes 0 []
begun bytes = record { in_range = omega arith; most = length bytes; enough = omega arith; whole = refl }

pub one_line : (most at : ℕ) (bytes : List ℕ) (i : Instruction) (w : ℕ) → decoded bytes ≡ Some (i, w) → length bytes ≤ most → (less : ℕ) × (most ≡ suc less) × (lines most at bytes ≡ line at (take w bytes) ++ lines less (at + w) (drop w bytes))
one_line zero at bytes i w e h = let d = decodes bytes (i, w) e in absurd (omega (arith, d.some, d.within))
one_line (suc less) at bytes i w e h =
    (less, refl, ap (λ o. option_map_or (λ d. line at (take d.1 bytes) ++ lines less (at + d.1) (drop d.1 bytes)) o []) e)

pub no_line : (most at : ℕ) (bytes : List ℕ) → decoded bytes ≡ None → lines most at bytes ≡ []
no_line zero at bytes e = refl
no_line (suc less) at bytes e = ap (λ o. option_map_or (λ d. line at (take d.1 bytes) ++ lines less (at + d.1) (drop d.1 bytes)) o []) e

pub further : (bytes : List ℕ) (at : ℕ) (text : List ℕ) (i : Instruction) (w : ℕ) → SoFar bytes at text → decoded (drop at bytes) ≡ Some (i, w) → SoFar bytes (at + w) (text ++ line at (slice_range bytes at (at + w)))
further bytes at text i w s e =
    let d = decodes (drop at bytes) (i, w) e in
    let left : length (drop at bytes) ≤ s.most = omega (arith, s.in_range, s.enough, length-drop at bytes) in
    let one = one_line s.most at (drop at bytes) i w e left in
    let width : (at + w) - at ≡ w = omega arith in
    record {
      in_range = omega (arith, s.in_range, d.within, length-drop at bytes);
      most = one.0;
      enough = omega (arith, s.enough, d.some, one.1);
      whole =
          ap (λ n. (text ++ line at (take n (drop at bytes))) ++ lines one.0 (at + w) (drop (at + w) bytes)) width
          ∙ append_assoc text (line at (take w (drop at bytes))) _
          ∙ ap (λ rest. text ++ (line at (take w (drop at bytes)) ++ lines one.0 (at + w) rest)) (sym (drop-drop w at bytes))
          ∙ ap (λ more. text ++ more) (sym one.2)
          ∙ s.whole;
    }

pub goes_on : (bytes seen text new : List ℕ) (at : ℕ) (i : Instruction) (w : ℕ) → SoFar bytes at text → Some (i, w) ≡ decoded (drop at bytes) → seen ≡ bytes → new ≡ text ++ line at (slice_range seen at (at + w)) → SoFar bytes (at + w) new
goes_on bytes seen text new at i w s e same is =
    let all : text ++ line at (slice_range bytes at (at + w)) ≡ new =
    sym (is ∙ ap (λ b. text ++ line at (slice_range b at (at + w))) same) in
    subst (λ (t : List ℕ). SoFar bytes (at + w) t) all (further bytes at text i w s (sym e))

pub ended : (bytes : List ℕ) (at : ℕ) (text : List ℕ) → SoFar bytes at text → decoded (drop at bytes) ≡ None → text ≡ disassembly bytes
ended bytes at text s e =
    sym (append-nil text) ∙ ap (λ more. text ++ more) (sym (no_line s.most at (drop at bytes) e)) ∙ s.whole
