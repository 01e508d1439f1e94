-- Frames of 38 words, and what a write over the upper ones leaves.
use Rattle.std.proofs.Common.{◌≡◌, ◌∙◌, ◌+◌, ◌-◌, ◌*◌, ◌≤◌, ◌<◌, ℕ, zero, suc, refl, sym, ap, ap₂, arith, List, [], ◌∷◌, ◌++◌, length, take, drop, length-append, take_all, replicate, append_assoc}
use Rattle.std.proofs.lemmas.List.{take-append-le, drop-drop, drop-take}
use Rattle.std.proofs.Math.Seq.{take-append_seam, drop-append_seam, take-add}
use Rattle.std.proofs.lemmas.List.{length-drop, length-take-le}
use Rattle.std.specs.List.{refill}
use Rattle.std.specs.Prelude.{slice_index_or}
use Rattle.s80_frames.specs.Frames.{frames_of, upper, with_upper, joined}
use Rattle.s80_frames.specs.BlockLending.{written_from}

module _ {X : Type 0} where
  pub length-frames_of : (n : ℕ) (xs : List X) → length (frames_of n xs) ≡ n
  length-frames_of zero xs = refl
  length-frames_of (suc n) xs = let e = length-frames_of n (drop 38 xs) in omega arith

  skip : (j : ℕ) (xs : List X) → drop (j * 38) (drop 38 xs) ≡ drop (suc j * 38) xs
  skip j xs = let e : 38 + j * 38 ≡ suc j * 38 = omega arith in drop-drop (j * 38) 38 xs ∙ ap (λ n. drop n xs) e

  frames_of-add : (j k : ℕ) (xs : List X) → frames_of (j + k) xs ≡ frames_of j xs ++ frames_of k (drop (j * 38) xs)
  frames_of-add zero k xs = let e : 0 + k ≡ k = omega arith in rw e refl
  frames_of-add (suc j) k xs =
      let e : suc j + k ≡ suc (j + k) = omega arith in
      rw e (ap (λ fs. take 38 xs ∷ fs) (frames_of-add j k (drop 38 xs) ∙ ap (λ ys. frames_of j (drop 38 xs) ++ frames_of k ys) (skip j xs)))

  take-take_le : (n m : ℕ) (xs : List X) → n ≤ m → take n (take m xs) ≡ take n xs
  take-take_le zero m xs le = refl
  take-take_le (suc n) zero xs le = absurd (omega arith)
  take-take_le (suc n) (suc m) [] le = refl
  take-take_le (suc n) (suc m) (x ∷ xs) le = ap (λ ys. x ∷ ys) (take-take_le n m xs (omega arith))

  -- they are the first words alone
  frames_of-take : (k m : ℕ) (xs : List X) → k * 38 ≤ m → frames_of k (take m xs) ≡ frames_of k xs
  frames_of-take zero m xs le = refl
  frames_of-take (suc k) m xs le =
      let e : m ≡ 38 + (m - 38) = omega arith in
      let rest : k * 38 ≤ m - 38 = omega arith in
      ap₂ (λ f fs. f ∷ fs) (take-take_le 38 m xs (omega arith))
      (ap (λ i. frames_of k (drop 38 (take i xs))) e ∙ ap (frames_of k) (drop-take 38 (m - 38) xs) ∙ frames_of-take k (m - 38) (drop 38 xs) rest)

  joined-frames_of : (k : ℕ) (xs : List X) → joined (frames_of k xs) ≡ take (k * 38) xs
  joined-frames_of zero xs = refl
  joined-frames_of (suc k) xs =
      let e : 38 + k * 38 ≡ suc k * 38 = omega arith in
      ap (λ ys. take 38 xs ++ ys) (joined-frames_of k (drop 38 xs)) ∙ sym (take-add 38 (k * 38) xs) ∙ ap (λ n. take n xs) e

  written-front : (m : ℕ) (w rest : List X) → take m (w ++ drop (length w) rest) ≡ take m (w ++ drop (length w) (take m rest))
  written-front zero w rest = refl
  written-front (suc m) [] rest = sym (take-take_le (suc m) (suc m) rest (omega arith))
  written-front (suc m) (x ∷ w) [] = refl
  written-front (suc m) (x ∷ w) (y ∷ rest) = ap (λ ys. x ∷ ys) (written-front m w rest)

  -- a write past the first j frames
  module _ (j k : ℕ) (xs w : List X) (long : (j + k) * 38 ≤ length xs) where
    abbrev rest : List X
    rest = drop (j * 38) xs

    abbrev put : List X
    put = w ++ drop (length w) rest

    abbrev zs : List X
    zs = take (j * 38) xs ++ put

    front_long : length (take (j * 38) xs) ≡ j * 38
    front_long = length-take-le (j * 38) xs (omega arith)

    put_long : k * 38 ≤ length put
    put_long = let a = length-append w (drop (length w) rest) in let b = length-drop (length w) rest in let c = length-drop (j * 38) xs in omega arith

    zs_long : (j + k) * 38 ≤ length zs
    zs_long = let a = length-append (take (j * 38) xs) put in let b = front_long in let c = put_long in omega arith

    below : frames_of j zs ≡ frames_of j xs
    below =
        sym (frames_of-take j (j * 38) zs (omega arith))
        ∙ ap (frames_of j) (ap (λ n. take n zs) (sym front_long) ∙ take-append_seam (take (j * 38) xs) put)
        ∙ frames_of-take j (j * 38) xs (omega arith)

    above : drop (j * 38) zs ≡ put
    above = ap (λ n. drop n zs) (sym front_long) ∙ drop-append_seam (take (j * 38) xs) put

    over : frames_of (j + k) zs ≡ frames_of j xs ++ frames_of k (refill (k * 38) (take (k * 38) rest) w)
    over =
        frames_of-add j k zs ∙ ap₂ (λ fs gs. fs ++ gs) below
        (ap (frames_of k) above ∙ sym (frames_of-take k (k * 38) put (omega arith)) ∙ ap (frames_of k) (written-front (k * 38) w rest))

    abbrev F : List (List X)
    F = frames_of (j + k) xs

    parts : F ≡ frames_of j xs ++ frames_of k rest
    parts = frames_of-add j k xs

    place : length F - k ≡ j
    place = let e = length-frames_of (j + k) xs in omega arith

    front : take (length F - k) F ≡ frames_of j xs
    front = ap₂ (λ n fs. take n fs) (place ∙ sym (length-frames_of j xs)) parts ∙ take-append_seam (frames_of j xs) (frames_of k rest)

    back : drop (length F - k) F ≡ frames_of k rest
    back = ap₂ (λ n fs. drop n fs) (place ∙ sym (length-frames_of j xs)) parts ∙ drop-append_seam (frames_of j xs) (frames_of k rest)

    upper_is : joined (upper k F) ≡ take (k * 38) rest
    upper_is = ap joined back ∙ joined-frames_of k rest

    with_is : with_upper k F w ≡ frames_of (j + k) zs
    with_is = ap₂ (λ fs ws. fs ++ frames_of k (refill (k * 38) ws w)) front upper_is ∙ sym over

    -- the words that a block holds after the write
    items_are : (len : ℕ) (t : List X) → len ≡ length xs → frames_of (j + k) (take len (zs ++ t)) ≡ with_upper k F w
    items_are len t is =
        let z = zs_long in
        frames_of-take (j + k) len (zs ++ t) (omega arith)
        ∙ sym (frames_of-take (j + k) ((j + k) * 38) (zs ++ t) (omega arith))
        ∙ ap (frames_of (j + k)) (take-append-le ((j + k) * 38) zs t zs_long)
        ∙ frames_of-take (j + k) ((j + k) * 38) zs (omega arith)
        ∙ sym with_is

-- the k upper ones of n frames
module _ {X : Type 0} (n k : ℕ) (xs : List X) (few : k ≤ n) (long : n * 38 ≤ length xs) where
  split : n ≡ (n - k) + k
  split = omega arith

  starts : n * 38 - k * 38 ≡ (n - k) * 38
  starts = omega arith

  fits : ((n - k) + k) * 38 ≤ length xs
  fits = omega arith

  abbrev lent : List X
  lent = take (n * 38 - (n * 38 - k * 38)) (drop (n * 38 - k * 38) xs)

  -- the words lent are the upper frames
  pub lent_are : frames_of k lent ≡ upper k (frames_of n xs)
  lent_are =
      let c : n * 38 - (n * 38 - k * 38) ≡ k * 38 = omega arith in
      ap₂ (λ i j. frames_of k (take i (drop j xs))) c starts ∙ frames_of-take k (k * 38) (drop ((n - k) * 38) xs) (omega arith)
      ∙ sym (back (n - k) k xs [] fits) ∙ ap (λ m. upper k (frames_of m xs)) (sym split)

  pub lent_long : length lent ≡ k * 38
  lent_long = let d = length-drop (n * 38 - k * 38) xs in
      length-take-le (n * 38 - (n * 38 - k * 38)) (drop (n * 38 - k * 38) xs) (omega arith) ∙ (let c : n * 38 - (n * 38 - k * 38) ≡ k * 38 = omega arith in c)

  -- and what is written over them is those frames
  pub written_is : (w : List X) → frames_of n (written_from xs (n * 38 - k * 38) w) ≡ with_upper k (frames_of n xs) w
  written_is w =
      ap₂ (λ m i. let zs = take i xs ++ (w ++ drop (length w) (drop i xs)) in frames_of m (take (length xs) (zs ++ drop (length zs) xs))) split starts
      ∙ items_are (n - k) k xs w fits (length xs) (drop (length (zs (n - k) k xs w fits)) xs) refl
      ∙ ap (λ m. with_upper k (frames_of m xs) w) (sym split)

module _ {X : Type 0} where
  pub frames_of-below : (n m : ℕ) (xs : List X) → n ≤ m → take n (frames_of m xs) ≡ frames_of n xs
  frames_of-below n m xs le =
      let e : m ≡ n + (m - n) = omega arith in
      ap (λ i. take n (frames_of i xs)) e
      ∙ ap₂ (λ i fs. take i fs) (sym (length-frames_of n xs)) (frames_of-add n (m - n) xs)
      ∙ take-append_seam (frames_of n xs) (frames_of (m - n) (drop (n * 38) xs))

  -- words that come after leave the frames
  pub frames_of-front : (n : ℕ) (xs more : List X) → n * 38 ≤ length xs → frames_of n (xs ++ more) ≡ frames_of n xs
  frames_of-front n xs more few =
      sym (frames_of-take n (n * 38) (xs ++ more) (omega arith))
      ∙ ap (frames_of n) (take-append-le (n * 38) xs more few)
      ∙ frames_of-take n (n * 38) xs (omega arith)

  pub each_long : (n : ℕ) (xs : List X) → n * 38 ≤ length xs → (i : ℕ) (d : List X) → i < length (frames_of n xs) → length (slice_index_or (frames_of n xs) i d) ≡ 38
  each_long zero xs long i d lt = absurd (omega arith)
  each_long (suc n) xs long zero d lt = length-take-le 38 xs (omega arith)
  each_long (suc n) xs long (suc i) d lt = let cut = length-drop 38 xs in each_long n (drop 38 xs) (omega arith) i d (omega arith)

  pub one_frame : (r : List X) → length r ≡ 38 → r ∷ [] ≡ frames_of 1 r
  one_frame r long = ap (λ f. f ∷ []) (sym (ap (λ i. take i r) (sym long) ∙ take_all (length r) r (omega arith)))

  pub two_frames : (r : List X) → length r ≡ 76 → take 38 r ∷ drop 38 r ∷ [] ≡ frames_of 2 r
  two_frames r long =
      let cut = length-drop 38 r in
      ap (λ f. take 38 r ∷ f ∷ []) (sym (take_all 38 (drop 38 r) (omega arith)))

  pub first_long : (r : List X) → length r ≡ 76 → length (take 38 r) ≡ 38
  first_long r long = length-take-le 38 r (omega arith)

  pub second_long : (r : List X) → length r ≡ 76 → length (drop 38 r) ≡ 38
  second_long r long = let cut = length-drop 38 r in omega arith

  replicate_more : (n : ℕ) (x : X) → replicate n x ++ x ∷ [] ≡ replicate (suc n) x
  replicate_more zero x = refl
  replicate_more (suc n) x = ap (λ l. x ∷ l) (replicate_more n x)

  -- one blank more behind the words
  pub blank_more : (words items : List X) (i : ℕ) (x : X) → items ≡ words ++ replicate (i - length words) x → length words ≤ i → items ++ x ∷ [] ≡ words ++ replicate (i + 1 - length words) x
  blank_more words items i x is le =
      let n = length words in let e : suc (i - n) ≡ i + 1 - n = omega arith in
      ap (λ l. l ++ x ∷ []) is ∙ append_assoc words (replicate (i - n) x) (x ∷ []) ∙ ap (λ l. words ++ l) (replicate_more (i - n) x) ∙ ap (λ k. words ++ replicate k x) e

  -- the frames in a copy of the first m words with others behind them
  pub frames_of-copied : (n m : ℕ) (xs copy more : List X) → copy ≡ take m xs → n * 38 ≤ m → m ≤ length xs → frames_of n (copy ++ more) ≡ frames_of n xs
  frames_of-copied n m xs copy more is few enough =
      let long = ap length is ∙ length-take-le m xs enough in
      frames_of-front n copy more (omega arith) ∙ ap (frames_of n) is ∙ frames_of-take n m xs few

  -- for callers: a write over the upper frames keeps their number
  pub length_with_upper : (k : ℕ) (frames : List (List X)) (w : List X) → k ≤ length frames → length (with_upper k frames w) ≡ length frames
  length_with_upper k frames w le =
      let ws : List X = refill (k * 38) (joined (upper k frames)) w in
      let a = length-append (take (length frames - k) frames) (frames_of k ws) in
      let b = length-take-le (length frames - k) frames (omega arith) in
      let c = length-frames_of k ws in
      omega arith

  -- for callers: two whole frames written over the upper two are those frames
  pub two_written : (frames : List (List X)) (lower higher : List X) → length lower ≡ 38 → length higher ≡ 38
      → with_upper 2 frames (lower ++ higher) ≡ take (length frames - 2) frames ++ lower ∷ higher ∷ []
  two_written frames lower higher l h =
      let whole : length (lower ++ higher) ≡ 76 = (let a = length-append lower higher in omega arith) in
      let old : List X = joined (upper 2 frames) in
      let rest : take 76 ((lower ++ higher) ++ drop (length (lower ++ higher)) old) ≡ lower ++ higher =
      take-append-le 76 (lower ++ higher) (drop (length (lower ++ higher)) old) (omega arith) ∙ take_all 76 (lower ++ higher) (omega arith) in
      ap (λ fs. take (length frames - 2) frames ++ fs) (ap (frames_of 2) rest ∙ sym (two_frames (lower ++ higher) whole)
      ∙ ap₂ (λ f g. f ∷ g ∷ []) (ap (λ i. take i (lower ++ higher)) (sym l) ∙ take-append_seam lower higher) (ap (λ i. drop i (lower ++ higher)) (sym l) ∙ drop-append_seam lower higher))

  -- and one over the top one
  pub one_written : (frames : List (List X)) (frame : List X) → length frame ≡ 38 → with_upper 1 frames frame ≡ take (length frames - 1) frames ++ frame ∷ []
  one_written frames frame long =
      let old : List X = joined (upper 1 frames) in
      let rest : take 38 (frame ++ drop (length frame) old) ≡ frame = take-append-le 38 frame (drop (length frame) old) (omega arith) ∙ take_all 38 frame (omega arith) in
      ap (λ fs. take (length frames - 1) frames ++ fs) (ap (frames_of 1) rest ∙ sym (one_frame frame long))
