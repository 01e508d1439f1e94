-- A piece of which a front is put.
use Rattle.std.proofs.Common.{◌≡◌, ℕ, ◌+◌, ◌≤◌, List, [], ◌++◌, length, take, drop, refl, sym, ◌∙◌, ap, subst, arith, append_assoc, take-append-drop, length-drop}
use Rattle.std.specs.Prelude.{Option, Some, None}
use Rattle.std.specs.Io.KnownBytes.{Appends}
use Rattle.std.proofs.lemmas.List.{take-take, drop-take, drop-drop, append-nil}
use Rattle.s80_disk.specs.Image.{Image}
use Rattle.s80_disk.specs.Moments.{Beside, Elapses, LeavesOnly}
use Rattle.s80_disk.specs.Shown.{Shown, Faults}
use Rattle.s80_disk.proofs.lemmas.Run.{started, goes_on}
use Rattle.s80_session.specs.Putting.{IsAsBefore}

-- so much of a piece is put, and the rest is left
pub record UnderWay {O : Type 0} (may_leave : O → Image → Type 0) (moment : O → ℕ) (left_since : O → ℕ → ℕ → Image → Type 0) (shown : O → Shown) (faults : O → Faults) (start now : O) (piece rest : List ℕ) : Type 0 where
  pub count : ℕ
  pub rest_is : rest ≡ drop count piece
  pub no_more : count ≤ length piece
  pub bytes : Appends (shown start).taken (shown now).taken (take count piece)
  pub told_is : (shown now).told ≡ (shown start).told + count
  pub shown_is : shown now ≡ record (shown start) { taken = (shown now).taken; told = (shown now).told }
  pub faults_is : faults now ≡ record (faults start) { write = (faults now).write }
  pub faultless : (faults now).write ≡ (faults start).write
  pub images : (c : Image) → may_leave now c → may_leave start c
  pub run : LeavesOnly moment left_since start now (IsAsBefore (may_leave start) (shown start).told (length piece))

append-more : (a b c : Option (List ℕ)) (xs ys : List ℕ) → Appends a b xs → Appends b c ys → Appends a c (xs ++ ys)
append-more None b c xs ys h k = tt
append-more (Some a) None c xs ys h k = absurd h
append-more (Some a) (Some b) None xs ys h k = absurd k
append-more (Some a) (Some b) (Some c) xs ys h k = k ∙ ap (λ (l : List ℕ). l ++ ys) h ∙ append_assoc a xs ys

append-none : (a : Option (List ℕ)) → Appends a a []
append-none None = tt
append-none (Some a) = sym (append-nil a)

take-more : (n m : ℕ) (xs : List ℕ) → take n xs ++ take m (drop n xs) ≡ take (n + m) xs
take-more n m xs =
    (λ i. sym (take-take n (n + m) xs (omega arith)) i ++ sym (drop-take n m xs) i) ∙ take-append-drop n (take (n + m) xs)

module _ {O : Type 0} (may_leave : O → Image → Type 0) (moment : O → ℕ) (left_since : O → ℕ → ℕ → Image → Type 0) (beside : O → Beside) (shown : O → Shown) (faults : O → Faults) (told_beside : (o : O) → (beside o).told ≡ (shown o).told) (start : O) (piece : List ℕ) where
  pub begun : ((n : ℕ) (c : Image) → left_since start (moment start) n c → may_leave start c × (n ≡ (beside start).told)) → UnderWay may_leave moment left_since shown faults start start piece piece
  begun only_now = record {
    count = 0;
    rest_is = refl;
    no_more = omega arith;
    bytes = append-none (shown start).taken;
    told_is = omega arith;
    shown_is = refl;
    faults_is = refl;
    faultless = refl;
    images = λ c h. h;
    run = started moment left_since start (IsAsBefore (may_leave start) (shown start).told (length piece)) (λ n c left. let h = only_now n c left in let same = told_beside start in record { no_fewer = omega (arith, h.1, same); no_more = omega (arith, h.1, same); was = h.0 });
  }

  -- a put more, of n bytes
  pub went_on : (mid now : O) (rest : List ℕ) (n : ℕ) → UnderWay may_leave moment left_since shown faults start mid piece rest → n ≤ length rest → Appends (shown mid).taken (shown now).taken (take n rest) → (shown now).told ≡ (shown mid).told + n
      → shown now ≡ record (shown mid) { taken = (shown now).taken; told = (shown now).told } → faults now ≡ record (faults mid) { write = (faults now).write } → (faults now).write ≡ (faults mid).write → ((c : Image) → may_leave now c → may_leave mid c) → Elapses moment left_since may_leave beside mid now
      → UnderWay may_leave moment left_since shown faults start now piece (drop n rest)
  went_on mid now rest n so_far fits bytes told_is shown_is faults_is faultless images time =
      let size : so_far.count + n ≤ length piece = (let h = ap (λ (l : List ℕ). length l) so_far.rest_is in omega (arith, h, length-drop so_far.count piece, so_far.no_more)) in
      let told_now = told_beside now in
      record {
        count = so_far.count + n;
        rest_is = ap (λ (l : List ℕ). drop n l) so_far.rest_is ∙ drop-drop n so_far.count piece;
        no_more = size;
        bytes =
            let same : take n rest ≡ take n (drop so_far.count piece) = ap (λ (l : List ℕ). take n l) so_far.rest_is in
            let P : List ℕ → Type 0 = λ l. Appends (shown start).taken (shown now).taken l in
            subst P (ap (λ (l : List ℕ). take so_far.count piece ++ l) same ∙ take-more so_far.count n piece) (append-more (shown start).taken (shown mid).taken (shown now).taken (take so_far.count piece) (take n rest) so_far.bytes bytes);
        told_is = omega (arith, told_is, so_far.told_is);
        shown_is = shown_is ∙ ap (λ (s : Shown). record s { taken = (shown now).taken; told = (shown now).told }) so_far.shown_is;
        faults_is = faults_is ∙ ap (λ (f : Faults). record f { write = (faults now).write }) so_far.faults_is;
        faultless = faultless ∙ so_far.faultless;
        images = λ c left. so_far.images c (images c left);
        run = goes_on moment left_since may_leave beside start mid now (IsAsBefore (may_leave start) (shown start).told (length piece)) so_far.run time (λ c left. record { no_fewer = omega (arith, told_now, told_is, so_far.told_is); no_more = omega (arith, told_now, told_is, so_far.told_is, size); was = so_far.images c (images c left) });
      }
