-- A list that is accepted is lawful where its forms are brief, and its methods lawful.
use Rattle.std.proofs.Common.{◌≡◌, ◌⊎◌, inl, inr, ◌∙◌, ◌++◌, ℕ, refl, sym, ap, subst, List, [], ◌∷◌, Ok, append_assoc, append-nil}
use Rattle.std.specs.List.{All, flat_map}
use Rattle.std.proofs.lemmas.List.Elements.{All-nil, All-push}
use Rattle.s80_kernel.specs.Methods.{kernel_methods}
use Rattle.s80_form.specs.Form.{IsBriefForm}
use Rattle.s80_form.specs.Name.{IsSelectorWord}
use Rattle.s80_change.specs.declared.change.Change.{Change}
use Rattle.s80_change.specs.declared.change.Change.TheVariants.{Form, Method, DoIt}
use Rattle.s80_change.specs.Block.{IsLawful, IsLawfulMethod}
use Rattle.s80_change.specs.Check.{IsCheckOf}
use Rattle.s80_apply.specs.Accept.{accept}
use Rattle.s80_apply.specs.List.{AreAccepted, IsAccepted, IsBuilt, state_after, state_of}
use Rattle.s80_apply.specs.State.{State, kernel_state}
use Rattle.s80_apply.proofs.Lawful.{form_lawful}
use Rattle.s80_apply.proofs.lemmas.Lists.{state_more}
use Rattle.s80_fileout.proofs.Elements.{IsIn, flat_in, in_either}

-- what is lawful where it is accepted
abbrev pub IsSound : Change → Type 0
IsSound (Form form) = IsBriefForm form
IsSound (Method m) = IsLawfulMethod m
IsSound (DoIt text) = ⊥

abbrev pub AreSound : List Change → Type 0
AreSound cs = (x : Change) → IsIn x cs → IsSound x

-- ---- lists of such

pub sound_none : AreSound []
sound_none x at = absurd at

pub sound_one : (c : Change) → IsSound c → AreSound (c ∷ [])
sound_one c sound x (inl same) = subst IsSound (sym same) sound
sound_one c sound x (inr none) = absurd none

pub sound_both : (cs ds : List Change) → AreSound cs → AreSound ds → AreSound (cs ++ ds)
sound_both cs ds first second x at = either (in_either x cs ds at)
  where
    either : IsIn x cs ⊎ IsIn x ds → IsSound x
    either (inl here) = first x here
    either (inr there) = second x there

pub sound_flat : {X : Type 0} (f : X → List Change) (xs : List X) → ((x : X) → IsIn x xs → AreSound (f x)) → AreSound (flat_map f xs)
sound_flat f xs each x at = let of = flat_in f x xs at in each of.0 of.1 x of.2

-- ---- they are lawful

module _ (sources : (source selector : List ℕ) → IsCheckOf source (Ok selector) → IsSelectorWord selector) (fit : All (λ row. IsCheckOf row.source (Ok row.selector)) kernel_methods) where
  one_lawful : (done : List Change) (c : Change) → All IsLawful done → IsSound c → IsAccepted (accept c (state_of done)) → IsLawful c
  one_lawful done (Form form) lawful sound is = form_lawful sources fit done form lawful sound is
  one_lawful done (Method m) lawful sound is = sound
  one_lawful done (DoIt text) lawful sound is = absurd sound

  lawful_from : (cs done : List Change) (s : State) → s ≡ state_of done → All IsLawful done → AreAccepted s cs → AreSound cs → All IsLawful (done ++ cs)
  lawful_from [] done s at lawful accepted sound = subst (All IsLawful) (sym (append-nil done)) lawful
  lawful_from (c ∷ cs) done s at lawful accepted sound =
      let mine : IsLawful c = one_lawful done c lawful (sound c (inl refl)) (subst (λ t. IsAccepted (accept c t)) at accepted.0) in
      subst (All IsLawful) (append_assoc done (c ∷ []) cs)
      (lawful_from cs (done ++ c ∷ []) (state_after c s) (ap (state_after c) at ∙ sym (state_more done c)) (All-push IsLawful done c lawful mine) accepted.1 (λ x there. sound x (inr there)))

  pub list_lawful : (cs : List Change) → IsBuilt cs → AreSound cs → All IsLawful cs
  list_lawful cs built sound = lawful_from cs [] kernel_state refl (All-nil IsLawful) built sound
