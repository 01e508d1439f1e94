-- Sources stand at the places that the state says: in the kernel's text, or in the blocks of the list.
use Rattle.std.proofs.Common.{◌≡◌, ◌≢◌, ◌∙◌, ◌≤◌, ◌+◌, ◌++◌, ℕ, Bool, true, false, refl, sym, ap, subst, List, [], ◌∷◌, length, take, drop, get_or, slice_range, arith, length-append, append_assoc}
use Rattle.std.specs.List.{All}
use Rattle.std.proofs.Math.Seq.{take-append_seam, drop-append_seam}
use Rattle.std.proofs.lemmas.Bool.{ne_eqb}
use Rattle.std.proofs.lemmas.List.{append-nil, drop-take, take-append-le}
use Rattle.std.proofs.lemmas.List.Elements.{All-head, All-tail}
use Rattle.std.proofs.lemmas.Slice.{between_is}
use Rattle.s80_chunk.specs.Chunks.{mark, spell, chunk}
use Rattle.s80_kernel.specs.Text.{kernel_text}
use Rattle.s80_kernel.specs.Methods.{KernelMethodRow, IsPlainSource, StandsIn, kernel_methods}
use Rattle.s80_change.specs.declared.change.Change.{Change}
use Rattle.s80_change.specs.declared.change.Change.TheVariants as changes
use Rattle.s80_change.specs.declared.change.Method.{Method}
use Rattle.s80_change.specs.Head.{head_text}
use Rattle.s80_change.specs.Block.{block, blocks, head_of}
use Rattle.s80_apply.specs.State.{no_methods}
use Rattle.s80_apply.specs.Placed.{PlacedRow, PlacedState, keeping_places, placed_after, placed_from, placed_kernel_method, placed_kernel_state, placed_of, source_offset}
use Rattle.s80_apply.specs.Kernel.{kernel_classes}
use Rattle.s80_apply.specs.Source.{text_for, StandsAt, AllStand}
use Rattle.s80_apply.proofs.OfMethods.{HoldsOfPut, changed_holds, each_none, kernel_holds}

-- ---- parts of a text

-- what stands between two parts
slice_middle : (front middle back : List ℕ) → slice_range (front ++ (middle ++ back)) (length front) (length front + length middle) ≡ middle
slice_middle front middle back =
    between_is (front ++ (middle ++ back)) (length front) (length front + length middle)
    ∙ drop-take (length front) (length middle) (front ++ (middle ++ back))
    ∙ ap (take (length middle)) (drop-append_seam front (middle ++ back))
    ∙ take-append_seam middle back

-- more bytes behind change no part
slice_longer : (bytes more : List ℕ) (p n : ℕ) → p + n ≤ length bytes → slice_range (bytes ++ more) p (p + n) ≡ slice_range bytes p (p + n)
slice_longer bytes more p n within =
    between_is (bytes ++ more) p (p + n) ∙ ap (drop p) (take-append-le (p + n) bytes more within) ∙ sym (between_is bytes p (p + n))

within_longer : (b : Bool) (bytes more : List ℕ) (n : ℕ) → n ≤ length (text_for b bytes) → n ≤ length (text_for b (bytes ++ more))
within_longer true bytes more n within = within
within_longer false bytes more n within = omega (arith, within, length-append bytes more)

same_longer : (b : Bool) (bytes more : List ℕ) (p n : ℕ) → p + n ≤ length (text_for b bytes) → slice_range (text_for b (bytes ++ more)) p (p + n) ≡ slice_range (text_for b bytes) p (p + n)
same_longer true bytes more p n within = refl
same_longer false bytes more p n within = slice_longer bytes more p n within

stands_longer : (bytes more : List ℕ) (row : PlacedRow) → StandsAt bytes row → StandsAt (bytes ++ more) row
stands_longer bytes more row stands = record {
  within = within_longer row.from_kernel bytes more (row.position + row.length) stands.within;
  same = same_longer row.from_kernel bytes more row.position row.length stands.within ∙ stands.same;
}

all_longer : (bytes more : List ℕ) (state : PlacedState) → AllStand bytes state → AllStand (bytes ++ more) state
all_longer bytes more state all = λ name side selector row is. stands_longer bytes more row (all name side selector row is)

-- ---- the kernel

-- a source without marks is its own spelling
spelled_plain : (source : List ℕ) → All (λ b. b ≢ 33) source → spell source ≡ source
spelled_plain [] all = refl
spelled_plain (b ∷ bs) all =
    (rw (ne_eqb b mark (All-head (λ b. b ≢ 33) b bs all)) refl) ∙ ap (λ rest. b ∷ rest) (spelled_plain bs (All-tail (λ b. b ≢ 33) b bs all))

kernel_stands : (log : List ℕ) (k : KernelMethodRow) → StandsIn kernel_text k → IsPlainSource k.source → StandsAt log (placed_kernel_method k)
kernel_stands log k stands plain = record { within = stands.ends; same = stands.same ∙ sym (spelled_plain k.source plain.unmarked) }

-- ---- a method of the log

-- what stands in its block before the source, and behind it
abbrev in_front : Method → List ℕ
in_front m = mark ∷ chunk (head_text (head_of m)) ++ 10 ∷ []

abbrev behind : List ℕ
behind = mark ∷ 32 ∷ mark ∷ 10 ∷ []

block_parts : (m : Method) → block (changes.Method m) ≡ in_front m ++ (spell m.source.text ++ behind)
block_parts m =
    ap (λ rest. mark ∷ (chunk (head_text (head_of m)) ++ (10 ∷ rest))) (append_assoc (spell m.source.text) (mark ∷ []) (32 ∷ mark ∷ 10 ∷ []))
    ∙ sym (ap (λ rest. mark ∷ rest) (append_assoc (chunk (head_text (head_of m))) (10 ∷ []) (spell m.source.text ++ behind)))

log_parts : (log : List ℕ) (m : Method) → log ++ block (changes.Method m) ≡ (log ++ in_front m) ++ (spell m.source.text ++ behind)
log_parts log m = ap (λ b. log ++ b) (block_parts m) ∙ sym (append_assoc log (in_front m) (spell m.source.text ++ behind))

log_stands : (log : List ℕ) (m : Method) → StandsAt (log ++ block (changes.Method m)) ((keeping_places (length log)).put m)
log_stands log m =
    let at : length (log ++ in_front m) ≡ length log + source_offset m = length-append log (in_front m) in
    let size = ap length (log_parts log m) in
    record {
      within = omega (arith, at, size, length-append (log ++ in_front m) (spell m.source.text ++ behind), length-append (spell m.source.text) behind);
      same =
          ap (λ bytes. slice_range bytes (length log + source_offset m) (length log + source_offset m + length (spell m.source.text))) (log_parts log m)
          ∙ ap (λ n. slice_range ((log ++ in_front m) ++ (spell m.source.text ++ behind)) n (n + length (spell m.source.text))) (sym at)
          ∙ slice_middle (log ++ in_front m) (spell m.source.text) behind;
    }

-- ---- a change

-- of whatever selector and category
abbrev Stands : List ℕ → List ℕ → PlacedRow → Type 0
Stands log selector row = StandsAt log row

classified_stands : (log selector category : List ℕ) (row : PlacedRow) → StandsAt log row → StandsAt log (record row { category = category })
classified_stands log selector category row stands = record { within = stands.within; same = stands.same }

module _ (log : List ℕ) (change : Change) where
  abbrev whole : List ℕ
  whole = log ++ block change

  after_stands : (state : PlacedState) → AllStand log state → AllStand whole (placed_after change (length log) state)
  after_stands state all =
      changed_holds (Stands whole) (keeping_places (length log)) (classified_stands whole) change state (put change refl) (all_longer log (block change) state all)
    where
      put : (c : Change) → c ≡ change → HoldsOfPut (Stands whole) (keeping_places (length log)) (classified_stands whole) c
      put (changes.Form form) is = tt
      put (changes.Method m) is = λ selector fits. subst (λ (c : Change). StandsAt (log ++ block c) ((keeping_places (length log)).put m)) is (log_stands log m)
      put (changes.DoIt text) is = tt

-- ---- a list

from_stands : (log : List ℕ) (state : PlacedState) (cs : List Change) → AllStand log state → AllStand (log ++ blocks cs) (placed_from state (length log) cs)
from_stands log state [] all = subst (λ bytes. AllStand bytes state) (sym (append-nil log)) all
from_stands log state (c ∷ cs) all =
    subst (λ n. AllStand (log ++ blocks (c ∷ cs)) (placed_from (placed_after c (length log) state) n cs)) (length-append log (block c))
    (subst (λ bytes. AllStand bytes (placed_from (placed_after c (length log) state) (length (log ++ block c)) cs)) (append_assoc log (block c) (blocks cs))
    (from_stands (log ++ block c) (placed_after c (length log) state) cs (after_stands log c state all)))

module _ (stand : All (StandsIn kernel_text) kernel_methods) (plain : All (λ row. IsPlainSource row.source) kernel_methods) where
  state_stands : (log : List ℕ) → AllStand log placed_kernel_state
  unfolding placed_kernel_state
  state_stands log =
      kernel_holds (Stands log) placed_kernel_method kernel_methods (λ k d below. kernel_stands log (get_or kernel_methods k d) (stand k d below) (plain k d below)) (record { classes = kernel_classes; methods = no_methods })
      (λ name side. each_none (Stands log))

  pub list_stands : (cs : List Change) → AllStand (blocks cs) (placed_of cs)
  list_stands cs = from_stands [] placed_kernel_state cs (state_stands [])
