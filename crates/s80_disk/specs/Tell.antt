-- How time goes on for a disk in memory, and for an object that holds one.
use Rattle.std.specs.Prelude.{◌≡◌, ◌⊎◌, ℕ, true, List, ◌∷◌, length, refl}
use mathlib.Core.Logic.{inl, inr}
use Rattle.std.proofs.Common.{sym, ◌∙◌, ap, subst, arith, ⊎_elim}
use Rattle.s80_disk.specs.declared.memory.MemDisk.{MemDisk}
use Rattle.s80_disk.specs.Image.{Image}
use Rattle.s80_disk.specs.Moments.{Beside, Elapses}
use Rattle.s80_disk.specs.Keeps.{FilesStay, NoMoment}
use Rattle.s80_disk.specs.History.{Event, leaves, left_in, told_after}
use Rattle.s80_disk.specs.History.Event.{Counted}
use Rattle.s80_disk.specs.Memory.{events_of, first_files, files_of, told_by, images_of, images_since, moment_of, beside_of, calls_failed, Tells}

-- time goes on by one event
pub pushed : (d e : MemDisk) (event : Event) → events_of e ≡ event ∷ events_of d → first_files e ≡ first_files d → Elapses moment_of images_since images_of beside_of d e
pushed d e event is first = record {
  later = let h = ap (λ (l : List Event). length l) is in omega (arith, h);
  nothing_else = λ t k c le left. from_new t k c (to_new t k c left);
  keeps = λ t k c le left. let P : Image → Type 0 = λ f. left_in f (events_of e) t k c in subst P (sym first) (let R : List Event → Type 0 = λ l. left_in (first_files d) l t k c in subst R (sym is) (inr left));
}
  where
    to_new : (t k : ℕ) (c : Image) → images_since e t k c → left_in (first_files e) (event ∷ events_of d) t k c
    to_new t k c left = let R : List Event → Type 0 = λ l. left_in (first_files e) l t k c in subst R is left

    from_new : (t k : ℕ) (c : Image) → left_in (first_files e) (event ∷ events_of d) t k c → images_since d t k c ⊎ (images_of e c × (k ≡ told_by e))
    from_new t k c (inl now) = inr (let R : List Event → Type 0 = λ l. leaves (first_files e) l c × (k ≡ told_after l) in subst R (sym is) (now.1, now.2))
    from_new t k c (inr before) = inl (let P : Image → Type 0 = λ f. left_in f (events_of d) t k c in subst P first before)

-- time goes on for it as for its disk
pub lifted : {D O : Type 0} (disk : O → D) (moment : D → ℕ) (left_since : D → ℕ → ℕ → Image → Type 0) (may_leave : D → Image → Type 0) (beside : D → Beside) (beside_all : O → Beside) (old new : O) → (beside (disk new)).told ≡ (beside_all new).told → Elapses moment left_since may_leave beside (disk old) (disk new) → Elapses (λ o. moment (disk o)) (λ o. left_since (disk o)) (λ o. may_leave (disk o)) beside_all old new
lifted disk moment left_since may_leave beside beside_all old new told time = record {
  later = time.later;
  nothing_else = λ t n c le left. ⊎_elim (λ h. inl h) (λ h. inr (h.0, h.1 ∙ told)) (time.nothing_else t n c le left);
  keeps = time.keeps;
}

-- a disk that stays tells nothing new
pub told_by_itself : (d e : MemDisk) → e ≡ d → Tells d e
told_by_itself d e is = record {
  first = ap first_files is;
  current = ap files_of is;
  faults = ap calls_failed is;
  events = inl (ap events_of is);
}

-- time goes on where nothing happens
stood : (d e : MemDisk) → events_of e ≡ events_of d → first_files e ≡ first_files d → Elapses moment_of images_since images_of beside_of d e
stood d e is first = record {
  later = let h = ap (λ (l : List Event). length l) is in omega (arith, h);
  nothing_else = λ t k c le left. inl (let P : Image → Type 0 = λ f. left_in f (events_of d) t k c in subst P first (let R : List Event → Type 0 = λ l. left_in (first_files e) l t k c in subst R is left));
  keeps = λ t k c le left. let P : Image → Type 0 = λ f. left_in f (events_of e) t k c in subst P (sym first) (let R : List Event → Type 0 = λ l. left_in (first_files d) l t k c in subst R (sym is) left);
}

passes : (d e : MemDisk) → Tells d e → Elapses moment_of images_since images_of beside_of d e
passes d e tells = ⊎_elim (λ h. stood d e h tells.first) (λ h. pushed d e (Counted h.0) h.1 tells.first) tells.events

no_image_more : (d e : MemDisk) → Tells d e → (c : Image) → images_of e c → images_of d c
no_image_more d e tells c left =
    let P : Image → Type 0 = λ f. leaves f (events_of d) c in
    let R : List Event → Type 0 = λ l. leaves (first_files e) l c in
    subst P tells.first (⊎_elim (λ h. subst R h left) (λ h. subst R h.1 left) tells.events)

-- the files of an object that holds a disk stay where the disk tells at most a count more
pub files_stay : {O : Type 0} (disk : O → MemDisk) (beside : O → Beside) (old new : O) → Tells (disk old) (disk new) → told_by (disk new) ≡ (beside new).told → FilesStay (λ o. true) (λ o. files_of (disk o)) (λ o. images_of (disk o)) (λ o. moment_of (disk o)) (λ o. images_since (disk o)) (λ o. calls_failed (disk o)) beside old new
files_stay disk beside old new tells told = record {
  tells_same = refl;
  reads_same = λ file. ap (λ (image : Image). image file) tells.current;
  crash = no_image_more (disk old) (disk new) tells;
  time = lifted disk moment_of images_since images_of beside_of beside old new told (passes (disk old) (disk new) tells);
  no_fault = tells.faults;
}

pub no_moment : {O : Type 0} (disk : O → MemDisk) (old new : O) → disk new ≡ disk old → NoMoment (λ o. moment_of (disk o)) (λ o. images_since (disk o)) old new
no_moment disk old new is = record {
  same = ap moment_of is;
  past = λ t told c left. let P : MemDisk → Type 0 = λ d. images_since d t told c in subst P is left;
}
