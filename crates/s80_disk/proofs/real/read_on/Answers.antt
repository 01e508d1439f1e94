use Rattle.std.proofs.Common.{◌≡◌, ◌+◌, ◌-◌, ◌≤◌, ℕ, List, ◌++◌, rules, arith, length, take, drop, slice_range, sym, ap, ◌∙◌, subst, le_refl, drop_at, length-take-le}
use Rattle.std.proofs.lemmas.Slice.{take-put_mid_below}
use Rattle.std.specs.Io.KnownBytes.{Consumes}
use Rattle.std.proofs.KnownBytes.{Consumes-trans}
use borrow.Rule.Slice.PartMut.{put_mid, post_of}
use lib.Seq.{take-add, take-append-le}
use Rattle.s80_disk.proofs.real.read_on.Goals as goal

-- what is filled so far and a piece behind it are what is filled then
take_split : (a n : ℕ) (old new : List ℕ) → take a new ≡ take a old → take a old ++ slice_range new a (a + n) ≡ take (a + n) new
take_split a n old new front =
    let same : (a + n) - a ≡ n = omega arith in
    ap (λ l. l ++ slice_range new a (a + n)) (sym front) ∙ ap (λ k. take a new ++ take k (drop a new)) same ∙ sym (take-add a n new)

slice_range-put_mid : (a k n : ℕ) (xs ys : List ℕ) → a ≤ length xs → n ≤ length ys → slice_range (put_mid a k xs ys) a (a + n) ≡ take n ys
slice_range-put_mid a k n xs ys within fits =
    let same : (a + n) - a ≡ n = omega arith in
    let after = post_of a k xs in
    ap (take ((a + n) - a)) (drop_at (take a xs) (ys ++ after) a (length-take-le a xs within)) ∙ ap (λ m. take m (ys ++ after)) same ∙ take-append-le n ys after fits

pub loop-count-preserved : goal.loop-count-preserved
loop-count-preserved g c =
    let from = c.loop-count.count in
    let more = c.in_ok-more.more in
    let room = length c.loop-count.buf - from in
    let within = c.loop-count.invariant.bound in
    let part = slice_range-put_mid from room more c.loop-count.buf c.read_some.new.buf within c.in_ok-more.ensures.bound.0 in
    let joined = take_split from more c.loop-count.buf (put_mid from room c.loop-count.buf c.read_some.new.buf) (take-put_mid_below _ _ _ _ _ (le_refl _) within) in
    record {
      bound = search rules;
      same = search rules;
      bytes = subst (Consumes _ _) (ap (λ l. take from c.loop-count.buf ++ l) (sym part) ∙ joined) (Consumes-trans _ _ _ _ _ c.loop-count.invariant.bytes c.in_ok-more.ensures.bytes.0);
    }
