-- Files call for one answer.
use Rattle.std.proofs.Common.{◌≡◌, ◌≢◌, ◌<◌, ◌≤◌, ◌⊎◌, inl, inr, ⊎_elim, ℕ, length, refl, sym, ◌∙◌, ap, subst, arith, Some, None, Result, Ok, Err}
use Rattle.s80_disk.specs.declared.disk.FileId.TheVariants.{Mark, Log0, Log1}
use Rattle.s80_disk.specs.Image.{Image}
use Rattle.s80_mark.specs.declared.mark.MarkState.{MarkState}
use Rattle.s80_mark.specs.declared.read.Found.{Found}
use Rattle.s80_mark.specs.declared.read.Found.TheVariants.{Fresh, Mark as Marked}
use Rattle.s80_mark.specs.declared.read.MarkFault.{MarkFault}
use Rattle.s80_mark.specs.declared.read.MarkFault.TheVariants.{Disk, NoGate, BadField}
use Rattle.s80_mark.specs.Mark.{valid_mark}
use Rattle.s80_mark.specs.Found.{AreLogsEmpty, longer_log, HasLawfulNumbers, IsFirstUnlawful, IsAnswer, IsDiskFault}

-- not both: empty logs, and a longer one
some_log : (files : Image) → AreLogsEmpty files → 0 < longer_log files → ⊥
some_log files empty some =
    let zero0 : length (files Log0) ≡ 0 = ap length empty.0 in
    let zero1 : length (files Log1) ≡ 0 = ap length empty.1 in
    omega arith

-- one valid mark
same_mark : (one other : MarkState) → Some one ≡ Some other → one ≡ other
same_mark one other e = cc

-- an image number isn't both lawful and not
no_image : (image : ℕ) → (image ≤ 1) ⊎ (image ≡ 255) → 1 < image → image ≢ 255 → ⊥
no_image image lawful above other = ⊎_elim (λ low. omega (arith, low, above)) other lawful

-- lawful numbers have no first unlawful one
not_lawful : (mark : MarkState) (value : ℕ) → HasLawfulNumbers mark → IsFirstUnlawful mark value → ⊥
not_lawful mark value lawful (inl log) = omega (arith, lawful.log, log.0)
not_lawful mark value lawful (inr (inl image)) = no_image mark.image lawful.image image.1 image.2
not_lawful mark value lawful (inr (inr format)) = ⊎_elim format.2 format.3 lawful.format

-- the first unlawful number is one
one_value : (mark : MarkState) (one other : ℕ) → IsFirstUnlawful mark one → IsFirstUnlawful mark other → one ≡ other
one_value mark one other (inl a) (inl b) = a.1 ∙ sym b.1
one_value mark one other (inl a) (inr (inl b)) = absurd (omega (arith, a.0, b.0))
one_value mark one other (inl a) (inr (inr b)) = absurd (omega (arith, a.0, b.0))
one_value mark one other (inr (inl a)) (inl b) = absurd (omega (arith, a.0, b.0))
one_value mark one other (inr (inl a)) (inr (inl b)) = a.3 ∙ sym b.3
one_value mark one other (inr (inl a)) (inr (inr b)) = absurd (no_image mark.image b.1 a.1 a.2)
one_value mark one other (inr (inr a)) (inl b) = absurd (omega (arith, a.0, b.0))
one_value mark one other (inr (inr a)) (inr (inl b)) = absurd (no_image mark.image a.1 b.1 b.2)
one_value mark one other (inr (inr a)) (inr (inr b)) = a.4 ∙ sym b.4

-- a valid mark is there, or isn't
some_mark : (files : Image) (mark : MarkState) → valid_mark (files Mark) ≡ Some mark → valid_mark (files Mark) ≡ None → ⊥
some_mark files mark some none = let h : Some mark ≡ None = sym some ∙ none in cc

-- the valid mark is lawful, or isn't
lawful_once : (files : Image) (mark again : MarkState) (value : ℕ) → valid_mark (files Mark) ≡ Some mark → valid_mark (files Mark) ≡ Some again → HasLawfulNumbers mark → IsFirstUnlawful again value → ⊥
lawful_once files mark again value one other lawful first =
    let P : MarkState → Type 0 = HasLawfulNumbers in
    not_lawful again value (subst P (same_mark mark again (sym one ∙ other)) lawful) first

pub one_answer : (files : Image) (one other : Result Found MarkFault) → IsAnswer files one → IsAnswer files other → IsDiskFault one ⊎ IsDiskFault other ⊎ (one ≡ other)
one_answer files (Err (Disk failed)) other h k = inl (failed, refl)
one_answer files one (Err (Disk failed)) h k = inr (inl (failed, refl))
one_answer files (Ok Fresh) (Ok Fresh) h k = inr (inr refl)
one_answer files (Ok Fresh) (Ok (Marked mark)) h k = absurd (some_log files h k.0)
one_answer files (Ok Fresh) (Err (NoGate count)) h k = absurd (some_log files h k.0)
one_answer files (Ok Fresh) (Err (BadField value)) h k = absurd (some_log files h k.0)
one_answer files (Ok (Marked mark)) (Ok Fresh) h k = absurd (some_log files k h.0)
one_answer files (Err (NoGate count)) (Ok Fresh) h k = absurd (some_log files k h.0)
one_answer files (Err (BadField value)) (Ok Fresh) h k = absurd (some_log files k h.0)
one_answer files (Ok (Marked mark)) (Ok (Marked again)) h k = inr (inr (ap (λ (m : MarkState). Ok (Marked m)) (same_mark mark again (sym h.1 ∙ k.1))))
one_answer files (Ok (Marked mark)) (Err (NoGate count)) h k = absurd (some_mark files mark h.1 k.1)
one_answer files (Ok (Marked mark)) (Err (BadField value)) h k = absurd (lawful_once files mark k.1.0 value h.1 k.1.1 h.2 k.1.2)
one_answer files (Err (NoGate count)) (Ok (Marked mark)) h k = absurd (some_mark files mark k.1 h.1)
one_answer files (Err (NoGate count)) (Err (NoGate again)) h k = inr (inr (ap (λ (n : ℕ). Err (NoGate n)) (h.2 ∙ sym k.2)))
one_answer files (Err (NoGate count)) (Err (BadField value)) h k = absurd (some_mark files k.1.0 k.1.1 h.1)
one_answer files (Err (BadField value)) (Ok (Marked mark)) h k = absurd (lawful_once files mark h.1.0 value k.1 h.1.1 k.2 h.1.2)
one_answer files (Err (BadField value)) (Err (NoGate count)) h k = absurd (some_mark files h.1.0 h.1.1 k.1)
one_answer files (Err (BadField value)) (Err (BadField again)) h k =
    let same = same_mark h.1.0 k.1.0 (sym h.1.1 ∙ k.1.1) in
    let P : MarkState → Type 0 = λ m. IsFirstUnlawful m value in
    inr (inr (ap (λ (n : ℕ). Err (BadField n)) (one_value k.1.0 value again (subst P same h.1.2) k.1.2)))
