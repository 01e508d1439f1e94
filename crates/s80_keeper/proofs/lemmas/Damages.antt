-- Files have one damage at most, and then stand for no list.
use Rattle.std.proofs.Common.{◌≡◌, ◌≢◌, ◌⊎◌, inl, inr, ⊎_elim, ℕ, ◌+◌, ◌<◌, ◌≤◌, List, [], ◌∷◌, ◌++◌, length, take, drop, Some, None, Option, refl, sym, ap, ◌∙◌, subst, arith, append_assoc, append-nil, length-append, length-take}
use Rattle.std.specs.List.{All}
use Rattle.std.proofs.lemmas.List.Elements.{All-push}
use Rattle.std.proofs.Math.Seq.{drop-append_seam}
use Rattle.s80_change.specs.declared.change.Change.{Change}
use Rattle.s80_form.specs.declared.refusal.Refusal.{Refusal}
use Rattle.s80_change.specs.Block.{block, blocks, IsLawful}
use Rattle.s80_change.specs.Blocks.{BeginsWithNone}
use Rattle.s80_form.specs.Refusal.{refusal_number}
use Rattle.s80_disk.specs.declared.disk.FileId.TheVariants.{Mark}
use Rattle.s80_disk.specs.Image.{Image}
use Rattle.s80_mark.specs.declared.mark.MarkState.{MarkState}
use Rattle.s80_mark.specs.Mark.{format_two, valid_mark}
use Rattle.s80_mark.specs.Found.{HasLawfulNumbers, IsFirstUnlawful, longer_log}
use Rattle.s80_log.specs.Log.{log_file}
use Rattle.s80_log.specs.Standing.{FilesStandFor as StandByMark}
use Rattle.s80_keeper.specs.declared.start.Damage.{Damage}
use Rattle.s80_keeper.specs.declared.start.Damage.TheVariants.{NoMark, BadMark, LogShort, ImageShort, BadImage, BadBlock, Replay, CountDiffers}
use Rattle.s80_apply.specs.List.{IsBuilt, refusal_to, state_from}
use Rattle.s80_apply.specs.State.{kernel_state}
use Rattle.s80_apply.proofs.lemmas.Lists.{blocks_more}
use Rattle.std.proofs.lemmas.Grind.{flat_map-append}
use Rattle.s80_keeper.specs.Beginning.{Beginning, Begins, IsBadImage, IsConsistent}
use Rattle.s80_keeper.specs.Imaged.{HasImage, image_file, image_part}
use Rattle.s80_image.specs.Image.{image_bytes}
use Rattle.s80_keeper.specs.Reading.{BeginsAsFront, ListsBegin, beginning_of}
use Rattle.s80_keeper.specs.Standing.{FilesStandFor}
use Rattle.s80_keeper.specs.Start.{EndsBehind, HasMark, ReadsTo, IsDamage, image_length, log_length}
use Rattle.s80_keeper.proofs.Decoding.{not_refused, one_image, one_refused_place}
use Rattle.s80_keeper.proofs.ListBegins.{accepted_behind, all_behind}
use Rattle.s80_keeper.proofs.OneBeginning.{one_beginning}
use Rattle.s80_keeper.proofs.OneList.{block_length, one_list, one_mark, some_log}
use Rattle.s80_keeper.proofs.Readings.{one_refused, refuses_last, stops_last}

-- ---- the mark

-- it is valid, or there is none
some_mark : (files : Image) (mark : MarkState) → valid_mark (files Mark) ≡ Some mark → valid_mark (files Mark) ≡ None → ⊥
some_mark files mark some none = let h : Some mark ≡ None = sym some ∙ none in cc

not_lawful : (mark : MarkState) (value : ℕ) → HasLawfulNumbers mark → IsFirstUnlawful mark value → ⊥
not_lawful mark value lawful (inl log) = omega (arith, lawful.log, log.0)
not_lawful mark value lawful (inr (inl image)) = ⊎_elim (λ low. omega (arith, low, image.1)) image.2 lawful.image
not_lawful mark value lawful (inr (inr format)) = ⊎_elim format.2 format.3 lawful.format

one_value : (mark : MarkState) (one other : ℕ) → IsFirstUnlawful mark one → IsFirstUnlawful mark other → one ≡ other
one_value mark one other (inl a) (inl b) = a.1 ∙ sym b.1
one_value mark one other (inl a) (inr (inl b)) = absurd (omega (arith, a.0, b.0))
one_value mark one other (inl a) (inr (inr b)) = absurd (omega (arith, a.0, b.0))
one_value mark one other (inr (inl a)) (inl b) = absurd (omega (arith, a.0, b.0))
one_value mark one other (inr (inl a)) (inr (inl b)) = a.3 ∙ sym b.3
one_value mark one other (inr (inl a)) (inr (inr b)) = absurd (⊎_elim (λ low. omega (arith, low, a.1)) a.2 b.1)
one_value mark one other (inr (inr a)) (inl b) = absurd (omega (arith, a.0, b.0))
one_value mark one other (inr (inr a)) (inr (inl b)) = absurd (⊎_elim (λ low. omega (arith, low, b.1)) b.2 a.1)
one_value mark one other (inr (inr a)) (inr (inr b)) = a.4 ∙ sym b.4

-- bytes of which n are the first are at least n
has_all : (n : ℕ) (xs ys : List ℕ) → take n xs ≡ ys → n ≡ length ys → n ≤ length xs
has_all n xs ys e same = let m = simp length-take at (ap length e) in omega arith

nothing : (xs : List ℕ) → length xs ≡ 0 → xs ≡ []
nothing [] e = refl
nothing (x ∷ xs) e = absurd (omega arith)

-- ---- how far files with a damage are in order

-- all is in order up to what is begun with
record HasBeginning (files : Image) : Type 0 where
  mark : MarkState
  begun : Beginning
  has_mark : HasMark files mark
  long : mark.log_length ≤ log_length files mark
  imaged : mark.image ≢ 255 → mark.image_length ≤ image_length files mark
  begins : Begins files mark begun

abbrev behind_begins : (files : Image) (mark : MarkState) (begun : Beginning) → EndsBehind files mark begun → HasBeginning files
behind_begins files mark begun ends =
    record { mark = mark; begun = begun; has_mark = ends.names.has_mark; long = ends.names.long; imaged = λ named. ends.imaged; begins = ends.begins }

abbrev reading_begins : (files : Image) (mark : MarkState) (begun : Beginning) (xs : List Change) (r : List ℕ) → ReadsTo files mark begun xs r → HasBeginning files
reading_begins files mark begun xs r reads =
    record { mark = mark; begun = begun; has_mark = reads.has_mark; long = reads.long; imaged = reads.imaged; begins = reads.begins }

bad_block_begins : (files : Image) (place : ℕ) → IsDamage files (BadBlock place) → HasBeginning files
bad_block_begins files place (inl ends) = behind_begins files ends.0 ends.1 ends.2
bad_block_begins files place (inr bad) = reading_begins files bad.0 bad.1 bad.2 bad.3 bad.4

abbrev replay_begins : (files : Image) (place number : ℕ) → IsDamage files (Replay place number) → HasBeginning files
replay_begins files place number is = reading_begins files is.0 is.1 is.2 (block is.3 ++ is.4) is.6

abbrev count_begins : (files : Image) (marked found : ℕ) → IsDamage files (CountDiffers marked found) → HasBeginning files
count_begins files marked found is = reading_begins files is.0 is.1 is.2 [] is.3

-- files with a damage have a log that holds something
pub damaged_has_log : (files : Image) (damage : Damage) → IsDamage files damage → 0 < longer_log files
damaged_has_log files (NoMark count) is = is.0
damaged_has_log files (BadMark value) is = is.0
damaged_has_log files (LogShort marked found) is = is.1.some
damaged_has_log files (ImageShort marked found) is = is.1.has_mark.some
damaged_has_log files (BadImage place) is = is.1.has_mark.some
damaged_has_log files (BadBlock place) is = (bad_block_begins files place is).has_mark.some
damaged_has_log files (Replay place number) is = (replay_begins files place number is).has_mark.some
damaged_has_log files (CountDiffers marked found) is = (count_begins files marked found is).has_mark.some

-- ---- what excludes what comes behind it

module _ (files : Image) where
  no_mark : (count : ℕ) (mark : MarkState) → IsDamage files (NoMark count) → HasMark files mark → ⊥
  no_mark count mark none has = some_mark files mark has.valid none.1

  bad_mark : (value : ℕ) (mark : MarkState) → IsDamage files (BadMark value) → HasMark files mark → ⊥
  bad_mark value mark bad has =
      let P : MarkState → Type 0 = λ m. IsFirstUnlawful m value in
      not_lawful mark value has.numbers (subst P (one_mark files bad.1.0 mark bad.1.1 has.valid) bad.1.2)

  short_log : (marked found : ℕ) (mark : MarkState) → IsDamage files (LogShort marked found) → HasMark files mark → mark.log_length ≤ log_length files mark → ⊥
  short_log marked found mark short has long =
      let P : MarkState → Type 0 = λ m. m.log_length ≤ log_length files m in
      let same = subst P (one_mark files mark short.0 has.valid short.1.valid) long in
      omega (arith, same, short.2, short.3, short.4)

  short_image : (marked found : ℕ) (mark : MarkState) → IsDamage files (ImageShort marked found) → HasMark files mark → (mark.image ≢ 255 → mark.image_length ≤ image_length files mark) → ⊥
  short_image marked found mark short has imaged =
      let P : MarkState → Type 0 = λ m. m.image ≢ 255 → m.image_length ≤ image_length files m in
      let same = subst P (one_mark files mark short.0 has.valid short.1.has_mark.valid) imaged short.1.named in
      omega (arith, same, short.2, short.3, short.4)

  bad_image : (place : ℕ) → IsDamage files (BadImage place) → HasBeginning files → ⊥
  bad_image place bad past =
      let P : MarkState → Type 0 = λ m. Begins files m past.begun in
      excluded bad.3 (subst P (one_mark files past.mark bad.0 past.has_mark.valid bad.1.has_mark.valid) past.begins)
    where
      excluded : IsBadImage files bad.0 place → Begins files bad.0 past.begun → ⊥
      excluded is (inl none) = bad.1.named none.0
      excluded (inl refused) (inr begins) = not_refused (image_part bad.0 files) begins.1.image place begins.1.decoded refused
      excluded (inr unsound) (inr begins) =
          let same = one_image (image_part bad.0 files) begins.1.image unsound.1.0 begins.1.decoded unsound.1.1 in
          unsound.1.2 begins.1.sources (subst (λ i. IsConsistent files bad.0 i begins.1.sources) same begins.1.consistent)

-- ---- each by itself

module _ (files : Image) where
  one_bad_mark : (one other : ℕ) → IsDamage files (BadMark one) → IsDamage files (BadMark other) → one ≡ other
  one_bad_mark one other a b =
      let P : MarkState → Type 0 = λ m. IsFirstUnlawful m one in
      one_value b.1.0 one other (subst P (one_mark files a.1.0 b.1.0 a.1.1 b.1.1) a.1.2) b.1.2

  one_short_log : (marked found again other : ℕ) → IsDamage files (LogShort marked found) → IsDamage files (LogShort again other) → (marked ≡ again) × (found ≡ other)
  one_short_log marked found again other one two =
      let same = one_mark files one.0 two.0 one.1.valid two.1.valid in
      (one.2 ∙ ap (λ (m : MarkState). m.log_length) same ∙ sym two.2, one.3 ∙ ap (log_length files) same ∙ sym two.3)

  one_short_image : (marked found again other : ℕ) → IsDamage files (ImageShort marked found) → IsDamage files (ImageShort again other) → (marked ≡ again) × (found ≡ other)
  one_short_image marked found again other one two =
      let same = one_mark files one.0 two.0 one.1.has_mark.valid two.1.has_mark.valid in
      (one.2 ∙ ap (λ (m : MarkState). m.image_length) same ∙ sym two.2, one.3 ∙ ap (image_length files) same ∙ sym two.3)

  one_bad_place : (mark : MarkState) (place again : ℕ) → IsBadImage files mark place → IsBadImage files mark again → place ≡ again
  one_bad_place mark place again (inl a) (inl b) = one_refused_place (image_part mark files) place again a b
  one_bad_place mark place again (inl a) (inr b) = absurd (not_refused (image_part mark files) b.1.0 place b.1.1 a)
  one_bad_place mark place again (inr a) (inl b) = absurd (not_refused (image_part mark files) a.1.0 again a.1.1 b)
  one_bad_place mark place again (inr a) (inr b) = a.0 ∙ sym b.0

  one_bad_image : (place again : ℕ) → IsDamage files (BadImage place) → IsDamage files (BadImage again) → place ≡ again
  one_bad_image place again one two =
      one_bad_place two.0 place again (subst (λ m. IsBadImage files m place) (one_mark files one.0 two.0 one.1.has_mark.valid two.1.has_mark.valid) one.3) two.3

-- ---- the blocks behind what is begun with

module _ (files : Image) (mark : MarkState) (begun : Beginning) where
  abbrev Reads : List Change → List ℕ → Type 0
  Reads xs r = ReadsTo files mark begun xs r

  -- no block begins at the place, where one should
  abbrev IsBad : ℕ → Type 0
  IsBad place =
      (EndsBehind files mark begun × (place ≡ begun.position))
      ⊎ ((xs : List Change) × (r : List ℕ) × Reads xs r × (place ≡ begun.position + length (blocks xs)) × (r ≢ []) × BeginsWithNone r)

  -- one begins there whose change is refused
  abbrev IsRefusedBy : ℕ → ℕ → Type 0
  IsRefusedBy place number =
      (xs : List Change) × (x : Change) × (r : List ℕ) × (refusal : Refusal) × Reads xs (block x ++ r) × (place ≡ begun.position + length (blocks xs))
      × IsLawful x × (refusal_to (state_from begun.state xs) place x ≡ Some refusal) × (number ≡ refusal_number refusal)

  -- all are read, and are other than so many
  abbrev IsMiscounted : ℕ → ℕ → Type 0
  IsMiscounted marked found = (xs : List Change) × Reads xs [] × (mark.format ≡ format_two) × (marked ≡ mark.count) × (found ≡ begun.count + length xs) × (marked ≢ found)

  same_bytes : (xs : List Change) (r : List ℕ) (ys : List Change) (s : List ℕ) → Reads xs r → Reads ys s → blocks xs ++ r ≡ blocks ys ++ s
  same_bytes xs r ys s one two = sym one.bytes ∙ two.bytes

  not_behind : (xs : List Change) (r : List ℕ) → EndsBehind files mark begun → Reads xs r → ⊥
  not_behind xs r ends reads = omega (arith, ends.over, reads.reached)

  -- why a change is refused, at its place
  refused_there : (xs : List Change) (x : Change) (place : ℕ) (refusal : Refusal) → place ≡ begun.position + length (blocks xs) → refusal_to (state_from begun.state xs) place x ≡ Some refusal → refusal_to (state_from begun.state xs) (begun.position + length (blocks xs)) x ≡ Some refusal
  refused_there xs x place refusal here is = ap (λ n. refusal_to (state_from begun.state xs) n x) (sym here) ∙ is

  bad_once : (place again : ℕ) → IsBad place → IsBad again → place ≡ again
  bad_once place again (inl a) (inl b) = a.1 ∙ sym b.1
  bad_once place again (inl a) (inr b) = absurd (not_behind b.0 b.1 a.0 b.2)
  bad_once place again (inr a) (inl b) = absurd (not_behind a.0 a.1 b.0 a.2)
  bad_once place again (inr a) (inr b) =
      let e = same_bytes a.0 a.1 b.0 b.1 a.2 b.2 in
      let less = stops_last a.0 a.1 b.0 b.1 e a.2.lawful b.2.lawful a.5 in
      let more = stops_last b.0 b.1 a.0 a.1 (sym e) b.2.lawful a.2.lawful b.5 in
      omega (arith, less, more, a.3, b.3)

  bad_or_refused : (place again number : ℕ) → IsBad place → IsRefusedBy again number → ⊥
  bad_or_refused place again number (inl a) b = not_behind b.0 (block b.1 ++ b.2) a.0 b.4
  bad_or_refused place again number (inr a) b =
      let ys = b.0 in
      let y = b.1 in
      let e = same_bytes a.0 a.1 ys (block y ++ b.2) a.2 b.4 in
      let more = blocks_more ys y in
      let e2 : blocks a.0 ++ a.1 ≡ blocks (ys ++ y ∷ []) ++ b.2 = e ∙ sym (append_assoc (blocks ys) (block y) b.2) ∙ ap (λ l. l ++ b.2) (sym more) in
      let last = stops_last a.0 a.1 (ys ++ y ∷ []) b.2 e2 a.2.lawful (All-push IsLawful ys y b.4.lawful b.6) a.5 in
      let n = ap length more ∙ length-append (blocks ys) (block y) in
      let least = refuses_last begun.state begun.position ys y b.2 a.0 a.1 b.3 b.6 a.2.lawful a.2.within a.2.accepted (refused_there ys y again b.3 b.5 b.7) (sym e) b.4.lawful in
      omega (arith, last, least, n, block_length y)

  same_refusal : (answer : Option Refusal) (one other : Refusal) → answer ≡ Some one → answer ≡ Some other → one ≡ other
  same_refusal answer one other e k = let both = sym e ∙ k in cc

  refused_once : (place number again other : ℕ) → IsRefusedBy place number → IsRefusedBy again other → (place ≡ again) × (number ≡ other)
  refused_once place number again other one two =
      let e = same_bytes one.0 (block one.1 ++ one.2) two.0 (block two.1 ++ two.2) one.4 two.4 in
      let same = one_refused begun.state begun.position one.0 one.1 one.2 two.0 two.1 two.2 one.3 two.3 one.4.lawful two.4.lawful one.4.within two.4.within one.4.accepted two.4.accepted one.6 two.6
      (refused_there one.0 one.1 place one.3 one.5 one.7) (refused_there two.0 two.1 again two.3 two.5 two.7) e in
      let list = same.0 in
      let change = same.1 in
      let here = one.5 ∙ ap (λ l. begun.position + length (blocks l)) list ∙ sym two.5 in
      let refusals = same_refusal (refusal_to (state_from begun.state one.0) place one.1) one.3 two.3 one.7 ((λ i. refusal_to (state_from begun.state (list i)) (here i) (change i)) ∙ two.7) in
      (here, one.8 ∙ ap refusal_number refusals ∙ sym two.8)

  -- where all blocks are read
  module _ (xs : List Change) (whole : Reads xs []) where
    bytes_whole : (ys : List Change) (s : List ℕ) → Reads ys s → blocks ys ++ s ≡ blocks xs
    bytes_whole ys s reads = same_bytes ys s xs [] reads whole ∙ append-nil (blocks xs)

    whole_not_bad : (place : ℕ) → IsBad place → ⊥
    whole_not_bad place (inl a) = not_behind xs [] a.0 whole
    whole_not_bad place (inr a) =
        let e = bytes_whole a.0 a.1 a.2 in
        let last = stops_last a.0 a.1 xs [] (e ∙ sym (append-nil (blocks xs))) a.2.lawful whole.lawful a.5 in
        let n = sym (length-append (blocks a.0) a.1) ∙ ap length e in
        a.4 (nothing a.1 (omega arith))

    whole_not_refused : (place number : ℕ) → IsRefusedBy place number → ⊥
    whole_not_refused place number a =
        let e = bytes_whole a.0 (block a.1 ++ a.2) a.4 in
        let n = sym (length-append (blocks a.0) (block a.1 ++ a.2)) ∙ ap length e in
        let m = length-append (block a.1) a.2 in
        let last = refuses_last begun.state begun.position a.0 a.1 a.2 xs [] a.3 a.6 whole.lawful whole.within whole.accepted (refused_there a.0 a.1 place a.3 a.5 a.7) (e ∙ sym (append-nil (blocks xs))) a.4.lawful in
        omega (arith, last, n, m, block_length a.1)

    pub whole_same : (ys : List Change) → Reads ys [] → ys ≡ xs
    whole_same ys reads = one_list ys xs reads.lawful whole.lawful (sym (append-nil (blocks ys)) ∙ bytes_whole ys [] reads)

    whole_counted : (mark.format ≡ format_two → mark.count ≡ begun.count + length xs) → (marked found : ℕ) → IsMiscounted marked found → ⊥
    whole_counted counted marked found a = a.5 (a.3 ∙ counted a.2 ∙ ap (λ l. begun.count + length l) (sym (whole_same a.0 a.1)) ∙ sym a.4)

  counted_once : (marked found again other : ℕ) → IsMiscounted marked found → IsMiscounted again other → (marked ≡ again) × (found ≡ other)
  counted_once marked found again other one two =
      (one.3 ∙ sym two.3, one.4 ∙ ap (λ l. begun.count + length l) (whole_same two.0 two.1 one.0 one.1) ∙ sym two.4)

-- ---- two damages by one mark and one beginning

module _ (files : Image) (past : HasBeginning files) where
  moved : (P : MarkState → Beginning → Type 0) (other : HasBeginning files) → P other.mark other.begun → P past.mark past.begun
  moved P other h =
      let marks = one_mark files other.mark past.mark other.has_mark.valid past.has_mark.valid in
      let begins = subst (λ m. Begins files m other.begun) marks other.begins in
      subst (P past.mark) (one_beginning files past.mark other.begun past.begun begins past.begins) (subst (λ m. P m other.begun) marks h)

  bad_here : (place : ℕ) → IsDamage files (BadBlock place) → IsBad files past.mark past.begun place
  bad_here place (inl a) = moved (λ m b. IsBad files m b place) (behind_begins files a.0 a.1 a.2) (inl (a.2, a.3))
  bad_here place (inr a) = moved (λ m b. IsBad files m b place) (reading_begins files a.0 a.1 a.2 a.3 a.4) (inr (a.2, a.3, a.4, a.5, a.6, a.7))

  refused_here : (place number : ℕ) → IsDamage files (Replay place number) → IsRefusedBy files past.mark past.begun place number
  refused_here place number a = moved (λ m b. IsRefusedBy files m b place number) (replay_begins files place number a) (a.2, a.3, a.4, a.5, a.6, a.7, a.8, a.9, a.10)

  miscounted_here : (marked found : ℕ) → IsDamage files (CountDiffers marked found) → IsMiscounted files past.mark past.begun marked found
  miscounted_here marked found a = moved (λ m b. IsMiscounted files m b marked found) (count_begins files marked found a) (a.2, a.3, a.4, a.5, a.6, a.7)

-- ---- one damage

module _ (files : Image) where
  two_bad : (place again : ℕ) → IsDamage files (BadBlock place) → IsDamage files (BadBlock again) → place ≡ again
  two_bad place again h k =
      let past = bad_block_begins files place h in
      bad_once files past.mark past.begun place again (bad_here files past place h) (bad_here files past again k)

  bad_and_refused : (place again number : ℕ) → IsDamage files (BadBlock place) → IsDamage files (Replay again number) → ⊥
  bad_and_refused place again number h k =
      let past = bad_block_begins files place h in
      bad_or_refused files past.mark past.begun place again number (bad_here files past place h) (refused_here files past again number k)

  bad_and_counted : (place marked found : ℕ) → IsDamage files (BadBlock place) → IsDamage files (CountDiffers marked found) → ⊥
  bad_and_counted place marked found h k = whole_not_bad files k.0 k.1 k.2 k.3 place (bad_here files (count_begins files marked found k) place h)

  two_refused : (place number again other : ℕ) → IsDamage files (Replay place number) → IsDamage files (Replay again other) → (place ≡ again) × (number ≡ other)
  two_refused place number again other h k =
      let past = replay_begins files place number h in
      refused_once files past.mark past.begun place number again other (refused_here files past place number h) (refused_here files past again other k)

  refused_and_counted : (place number marked found : ℕ) → IsDamage files (Replay place number) → IsDamage files (CountDiffers marked found) → ⊥
  refused_and_counted place number marked found h k = whole_not_refused files k.0 k.1 k.2 k.3 place number (refused_here files (count_begins files marked found k) place number h)

  two_counted : (marked found again other : ℕ) → IsDamage files (CountDiffers marked found) → IsDamage files (CountDiffers again other) → (marked ≡ again) × (found ≡ other)
  two_counted marked found again other h k =
      let past = count_begins files marked found h in
      counted_once files past.mark past.begun marked found again other (miscounted_here files past marked found h) (miscounted_here files past again other k)

  mark_or_none : (count value : ℕ) → IsDamage files (NoMark count) → IsDamage files (BadMark value) → ⊥
  mark_or_none count value none bad = some_mark files bad.1.0 bad.1.1 none.1

  pub one_damage : (one other : Damage) → IsDamage files one → IsDamage files other → one ≡ other
  one_damage (NoMark count) (NoMark again) h k = ap NoMark (h.2 ∙ sym k.2)
  one_damage (NoMark count) (BadMark value) h k = absurd (mark_or_none count value h k)
  one_damage (NoMark count) (LogShort marked found) h k = absurd (no_mark files count k.0 h k.1)
  one_damage (NoMark count) (ImageShort marked found) h k = absurd (no_mark files count k.0 h k.1.has_mark)
  one_damage (NoMark count) (BadImage place) h k = absurd (no_mark files count k.0 h k.1.has_mark)
  one_damage (NoMark count) (BadBlock place) h k = absurd (no_mark files count (bad_block_begins files place k).mark h (bad_block_begins files place k).has_mark)
  one_damage (NoMark count) (Replay place number) h k = absurd (no_mark files count (replay_begins files place number k).mark h (replay_begins files place number k).has_mark)
  one_damage (NoMark count) (CountDiffers marked found) h k = absurd (no_mark files count (count_begins files marked found k).mark h (count_begins files marked found k).has_mark)
  one_damage (BadMark value) (NoMark count) h k = absurd (mark_or_none count value k h)
  one_damage (BadMark value) (BadMark again) h k = ap BadMark (one_bad_mark files value again h k)
  one_damage (BadMark value) (LogShort marked found) h k = absurd (bad_mark files value k.0 h k.1)
  one_damage (BadMark value) (ImageShort marked found) h k = absurd (bad_mark files value k.0 h k.1.has_mark)
  one_damage (BadMark value) (BadImage place) h k = absurd (bad_mark files value k.0 h k.1.has_mark)
  one_damage (BadMark value) (BadBlock place) h k = absurd (bad_mark files value (bad_block_begins files place k).mark h (bad_block_begins files place k).has_mark)
  one_damage (BadMark value) (Replay place number) h k = absurd (bad_mark files value (replay_begins files place number k).mark h (replay_begins files place number k).has_mark)
  one_damage (BadMark value) (CountDiffers marked found) h k = absurd (bad_mark files value (count_begins files marked found k).mark h (count_begins files marked found k).has_mark)
  one_damage (LogShort marked found) (NoMark count) h k = absurd (no_mark files count h.0 k h.1)
  one_damage (LogShort marked found) (BadMark value) h k = absurd (bad_mark files value h.0 k h.1)
  one_damage (LogShort marked found) (LogShort again other) h k =
      let same = one_short_log files marked found again other h k in
      λ i. LogShort (same.0 i) (same.1 i)
  one_damage (LogShort marked found) (ImageShort again other) h k = absurd (short_log files marked found k.0 h k.1.has_mark k.1.long)
  one_damage (LogShort marked found) (BadImage place) h k = absurd (short_log files marked found k.0 h k.1.has_mark k.1.long)
  one_damage (LogShort marked found) (BadBlock place) h k = absurd (short_log files marked found (bad_block_begins files place k).mark h (bad_block_begins files place k).has_mark (bad_block_begins files place k).long)
  one_damage (LogShort marked found) (Replay place number) h k = absurd (short_log files marked found (replay_begins files place number k).mark h (replay_begins files place number k).has_mark (replay_begins files place number k).long)
  one_damage (LogShort marked found) (CountDiffers again other) h k = absurd (short_log files marked found (count_begins files again other k).mark h (count_begins files again other k).has_mark (count_begins files again other k).long)
  one_damage (ImageShort marked found) (NoMark count) h k = absurd (no_mark files count h.0 k h.1.has_mark)
  one_damage (ImageShort marked found) (BadMark value) h k = absurd (bad_mark files value h.0 k h.1.has_mark)
  one_damage (ImageShort marked found) (LogShort again other) h k = absurd (short_log files again other h.0 k h.1.has_mark h.1.long)
  one_damage (ImageShort marked found) (ImageShort again other) h k =
      let same = one_short_image files marked found again other h k in
      λ i. ImageShort (same.0 i) (same.1 i)
  one_damage (ImageShort marked found) (BadImage place) h k = absurd (short_image files marked found k.0 h k.1.has_mark (λ named. k.2))
  one_damage (ImageShort marked found) (BadBlock place) h k = absurd (short_image files marked found (bad_block_begins files place k).mark h (bad_block_begins files place k).has_mark (bad_block_begins files place k).imaged)
  one_damage (ImageShort marked found) (Replay place number) h k = absurd (short_image files marked found (replay_begins files place number k).mark h (replay_begins files place number k).has_mark (replay_begins files place number k).imaged)
  one_damage (ImageShort marked found) (CountDiffers again other) h k = absurd (short_image files marked found (count_begins files again other k).mark h (count_begins files again other k).has_mark (count_begins files again other k).imaged)
  one_damage (BadImage place) (NoMark count) h k = absurd (no_mark files count h.0 k h.1.has_mark)
  one_damage (BadImage place) (BadMark value) h k = absurd (bad_mark files value h.0 k h.1.has_mark)
  one_damage (BadImage place) (LogShort marked found) h k = absurd (short_log files marked found h.0 k h.1.has_mark h.1.long)
  one_damage (BadImage place) (ImageShort marked found) h k = absurd (short_image files marked found h.0 k h.1.has_mark (λ named. h.2))
  one_damage (BadImage place) (BadImage again) h k = ap BadImage (one_bad_image files place again h k)
  one_damage (BadImage place) (BadBlock again) h k = absurd (bad_image files place h (bad_block_begins files again k))
  one_damage (BadImage place) (Replay again number) h k = absurd (bad_image files place h (replay_begins files again number k))
  one_damage (BadImage place) (CountDiffers marked found) h k = absurd (bad_image files place h (count_begins files marked found k))
  one_damage (BadBlock place) (NoMark count) h k = absurd (no_mark files count (bad_block_begins files place h).mark k (bad_block_begins files place h).has_mark)
  one_damage (BadBlock place) (BadMark value) h k = absurd (bad_mark files value (bad_block_begins files place h).mark k (bad_block_begins files place h).has_mark)
  one_damage (BadBlock place) (LogShort marked found) h k = absurd (short_log files marked found (bad_block_begins files place h).mark k (bad_block_begins files place h).has_mark (bad_block_begins files place h).long)
  one_damage (BadBlock place) (ImageShort marked found) h k = absurd (short_image files marked found (bad_block_begins files place h).mark k (bad_block_begins files place h).has_mark (bad_block_begins files place h).imaged)
  one_damage (BadBlock place) (BadImage again) h k = absurd (bad_image files again k (bad_block_begins files place h))
  one_damage (BadBlock place) (BadBlock again) h k = ap BadBlock (two_bad place again h k)
  one_damage (BadBlock place) (Replay again number) h k = absurd (bad_and_refused place again number h k)
  one_damage (BadBlock place) (CountDiffers marked found) h k = absurd (bad_and_counted place marked found h k)
  one_damage (Replay place number) (NoMark count) h k = absurd (no_mark files count (replay_begins files place number h).mark k (replay_begins files place number h).has_mark)
  one_damage (Replay place number) (BadMark value) h k = absurd (bad_mark files value (replay_begins files place number h).mark k (replay_begins files place number h).has_mark)
  one_damage (Replay place number) (LogShort marked found) h k = absurd (short_log files marked found (replay_begins files place number h).mark k (replay_begins files place number h).has_mark (replay_begins files place number h).long)
  one_damage (Replay place number) (ImageShort marked found) h k = absurd (short_image files marked found (replay_begins files place number h).mark k (replay_begins files place number h).has_mark (replay_begins files place number h).imaged)
  one_damage (Replay place number) (BadImage again) h k = absurd (bad_image files again k (replay_begins files place number h))
  one_damage (Replay place number) (BadBlock again) h k = absurd (bad_and_refused again place number k h)
  one_damage (Replay place number) (Replay again other) h k =
      let same = two_refused place number again other h k in
      λ i. Replay (same.0 i) (same.1 i)
  one_damage (Replay place number) (CountDiffers marked found) h k = absurd (refused_and_counted place number marked found h k)
  one_damage (CountDiffers marked found) (NoMark count) h k = absurd (no_mark files count (count_begins files marked found h).mark k (count_begins files marked found h).has_mark)
  one_damage (CountDiffers marked found) (BadMark value) h k = absurd (bad_mark files value (count_begins files marked found h).mark k (count_begins files marked found h).has_mark)
  one_damage (CountDiffers marked found) (LogShort again other) h k = absurd (short_log files again other (count_begins files marked found h).mark k (count_begins files marked found h).has_mark (count_begins files marked found h).long)
  one_damage (CountDiffers marked found) (ImageShort again other) h k = absurd (short_image files again other (count_begins files marked found h).mark k (count_begins files marked found h).has_mark (count_begins files marked found h).imaged)
  one_damage (CountDiffers marked found) (BadImage place) h k = absurd (bad_image files place k (count_begins files marked found h))
  one_damage (CountDiffers marked found) (BadBlock place) h k = absurd (bad_and_counted place marked found k h)
  one_damage (CountDiffers marked found) (Replay place number) h k = absurd (refused_and_counted place number marked found k h)
  one_damage (CountDiffers marked found) (CountDiffers again other) h k =
      let same = two_counted marked found again other h k in
      λ i. CountDiffers (same.0 i) (same.1 i)

-- ---- no damage

-- all blocks of the marked part are read, and the mark counts their changes
pub record IsWhole (files : Image) : Type 0 where
  pub mark : MarkState
  pub begun : Beginning
  pub changes : List Change
  pub reads : ReadsTo files mark begun changes []
  pub counted : mark.format ≡ format_two → mark.count ≡ begun.count + length changes

module _ (files : Image) (whole : IsWhole files) where
  abbrev past : HasBeginning files
  past = reading_begins files whole.mark whole.begun whole.changes [] whole.reads

  pub no_damage : (damage : Damage) → IsDamage files damage → ⊥
  no_damage (NoMark count) is = no_mark files count whole.mark is whole.reads.has_mark
  no_damage (BadMark value) is = bad_mark files value whole.mark is whole.reads.has_mark
  no_damage (LogShort marked found) is = short_log files marked found whole.mark is whole.reads.has_mark whole.reads.long
  no_damage (ImageShort marked found) is = short_image files marked found whole.mark is whole.reads.has_mark whole.reads.imaged
  no_damage (BadImage place) is = bad_image files place is past
  no_damage (BadBlock place) is = whole_not_bad files whole.mark whole.begun whole.changes whole.reads place (bad_here files past place is)
  no_damage (Replay place number) is = whole_not_refused files whole.mark whole.begun whole.changes whole.reads place number (refused_here files past place number is)
  no_damage (CountDiffers marked found) is = whole_counted files whole.mark whole.begun whole.changes whole.reads whole.counted marked found (miscounted_here files past marked found is)

-- ---- files that stand for a list

-- a list by a mark is read whole, behind a front of it
module _ (begin : ListsBegin) (files : Image) (mark : MarkState) (changes : List Change) (stands : StandByMark files mark changes) (image : HasImage files mark changes) (built : IsBuilt changes) (some : 0 < longer_log files) where
  pub front_begun : BeginsAsFront files mark changes
  front_begun = begin files mark changes stands image built

  abbrev front_of_list : List Change
  front_of_list = front_begun.front

  abbrev rest_of_list : List Change
  rest_of_list = front_begun.behind

  long_image : HasImage files mark changes → mark.image ≢ 255 → mark.image_length ≤ image_length files mark
  long_image (inl none) named = absurd (named none)
  long_image (inr h) named = has_all mark.image_length (files (image_file mark.image)) (image_bytes h.image) h.bytes h.whole

  parts : blocks changes ≡ blocks front_of_list ++ blocks rest_of_list
  parts = ap blocks front_begun.parts ∙ flat_map-append block front_of_list rest_of_list

  pub list_reads : ReadsTo files mark (beginning_of front_of_list) rest_of_list []
  list_reads =
      let size = ap length parts ∙ length-append (blocks front_of_list) (blocks rest_of_list) in
      record {
        has_mark = record { some = some; valid = stands.valid; numbers = stands.numbers };
        long = has_all mark.log_length (files (log_file mark.log)) (blocks changes) stands.bytes stands.whole;
        imaged = long_image image;
        begins = front_begun.begins;
        reached = omega (arith, size, stands.whole);
        lawful = all_behind IsLawful front_of_list rest_of_list (subst (All IsLawful) front_begun.parts stands.list.lawful);
        accepted = accepted_behind kernel_state front_of_list rest_of_list (subst IsBuilt front_begun.parts built);
        within = λ some. omega (arith, size, stands.list.within);
        bytes = ap (drop (length (blocks front_of_list))) (stands.bytes ∙ parts) ∙ drop-append_seam (blocks front_of_list) (blocks rest_of_list) ∙ sym (append-nil (blocks rest_of_list));
      }

  list_whole : IsWhole files
  list_whole = record {
    mark = mark;
    begun = beginning_of front_of_list;
    changes = rest_of_list;
    reads = list_reads;
    counted = λ two. stands.counted two ∙ ap length front_begun.parts ∙ length-append front_of_list rest_of_list;
  }

pub no_list : ListsBegin → (files : Image) (damage : Damage) (changes : List Change) → IsDamage files damage → FilesStandFor files changes → ⊥
no_list begin files damage changes is (inl stands) = some_log files stands.0 (damaged_has_log files damage is)
no_list begin files damage changes is (inr stands) = no_damage files (list_whole begin files stands.0 changes stands.1 stands.2 stands.3 (damaged_has_log files damage is)) damage is
