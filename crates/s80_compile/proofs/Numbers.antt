-- Numbers of entries in the frame.
use Rattle.std.proofs.Common.{◌≡◌, ℕ, ◌+◌, ◌<◌, ◌≤◌, Bool, true, false, List, [], ◌∷◌, ◌++◌, length, slice_get, Some, refl, ap, sym, ◌∙◌, arith, inl, inr, true≢false, length-append}
use Rattle.std.specs.List.{Contains}
use Rattle.std.proofs.lemmas.List.{append-nil}
use Rattle.std.proofs.lemmas.Bool.{cases_lt}
use Rattle.std.proofs.lemmas.Option.{slice_get_within, get_or_from_slice_get, slice_get-get_or}
use Rattle.std.proofs.Math.Seq.{get_or-append_seam}
use Rattle.s80_code.specs.Entries.{EntryTree}
use Rattle.s80_compile.specs.Compiles.{AreFirsts}
use Rattle.s80_compile.specs.Emitted.{Finds, HasRoom}
use Rattle.s80_compile.specs.Same.{AreOther, IsNamed, same_entry}
use Rattle.s80_compile.proofs.Firsts.{frame_few, room_second, room_first}
use Rattle.s80_compile.proofs.Sameness.{entry_is_same, entry_looks_same}

pub contained : (frame : List EntryTree) (n : ℕ) (x : EntryTree) → slice_get frame n ≡ Some x → Contains frame x
contained frame n x e = (n, slice_get_within frame n x e, get_or_from_slice_get frame n x x e)

pub few : (frame wanted : List EntryTree) → HasRoom frame wanted → length frame ≤ 60
few frame wanted r = frame_few frame (room_first frame [] wanted r)

pub found : (frame : List EntryTree) (n : ℕ) (x entry : EntryTree) (same : Bool) → slice_get frame n ≡ Some x → same ≡ same_entry x entry → same ≡ true → slice_get frame n ≡ Some entry
found frame n x entry same e told yes_same = e ∙ ap Some (entry_is_same x entry (sym told ∙ yes_same))

pub is_there : (frame : List EntryTree) (n : ℕ) (entry : EntryTree) → HasRoom frame (entry ∷ []) → slice_get frame n ≡ Some entry → Finds entry frame frame n
is_there frame n entry r here =
    record { added = []; is = sym (append-nil frame); firsts = inl (contained frame n entry here, refl); here = here; low = omega (arith, slice_get_within frame n entry here, few frame (entry ∷ []) r) }

pub below : (frame : List EntryTree) (n : ℕ) (entry : EntryTree) → HasRoom frame (entry ∷ []) → slice_get frame n ≡ Some entry → n < 60
below frame n entry r here = omega (arith, slice_get_within frame n entry here, few frame (entry ∷ []) r)

pub none_looks : (frame : List EntryTree) (n : ℕ) (entry : EntryTree) → length frame ≤ n → AreOther frame n entry → AreOther frame (length frame) entry
none_looks frame n entry all other k x low e is = other k x (omega (arith, low, all)) e is

pub other_begun : (frame : List EntryTree) (entry : EntryTree) → AreOther frame 0 entry
other_begun frame entry k x low e same = omega (arith, low)

pub other_next : (frame : List EntryTree) (n : ℕ) (x entry : EntryTree) (same : Bool) → IsNamed entry → AreOther frame n entry → slice_get frame n ≡ Some x → same ≡ same_entry x entry → same ≡ false → AreOther frame (n + 1) entry
other_next frame n x entry same named before e told not_same k y low f is =
    elim (cases_lt k n) [
      | inl early ↦ before k y early f is
      | inr late ↦
          let place : k ≡ n = omega (arith, late, low) in
          let here : Some y ≡ Some x = sym f ∙ ap (slice_get frame) place ∙ e in
          let x_is : x ≡ entry = sym (some_is here) ∙ is in
          true≢false (sym (entry_looks_same entry named) ∙ ap (λ z. same_entry z entry) (sym x_is) ∙ sym told ∙ not_same)
    ]
  where
    some_is : {a b : EntryTree} → Some a ≡ Some b → a ≡ b
    some_is e = cc

pub fresh : (frame : List EntryTree) (n : ℕ) (entry : EntryTree) → length frame ≤ n → AreOther frame n entry → Contains frame entry → ⊥
fresh frame n entry all other (k, within, is) = other k entry (omega (arith, within, all)) (slice_get-get_or frame k entry within ∙ ap Some is) refl

pub put : (frame new : List EntryTree) (count : ℕ) (entry : EntryTree) → HasRoom frame (entry ∷ []) → AreOther frame (length frame) entry → count ≡ length frame → new ≡ frame ++ entry ∷ [] → Finds entry frame new count
put frame new count entry r other counted is =
    let firsts : AreFirsts frame (entry ∷ []) (entry ∷ []) = inr (fresh frame (length frame) entry (omega arith) other, ([], refl, refl)) in
    let here : slice_get new count ≡ Some entry =
    ap (λ l. slice_get l count) is ∙ ap (slice_get (frame ++ entry ∷ [])) counted
    ∙ slice_get-get_or (frame ++ entry ∷ []) (length frame) entry (omega (arith, length-append frame (entry ∷ []))) ∙ ap Some (get_or-append_seam frame entry [] entry) in
    let bound = frame_few (frame ++ entry ∷ []) (room_second frame (entry ∷ []) [] (entry ∷ []) r firsts) in
    record { added = entry ∷ []; is = is; firsts = firsts; here = here; low = omega (arith, counted, bound, length-append frame (entry ∷ [])) }
