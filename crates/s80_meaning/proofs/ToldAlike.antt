-- What trees come to is told as the run's outcome that it is.
use Rattle.std.proofs.Common.{◌≡◌, ◌∙◌, ℕ, List, ◌++◌, codes, refl, sym, ap, subst, Some, option_map}
use Rattle.s80_class.specs.Table.{Table}
use Rattle.s80_code.specs.declared.code.Code.{Code}
use Rattle.s80_dict.specs.Table.{MethodsValue}
use Rattle.s80_dict.specs.declared.dict.MethodEntry.{MethodEntry}
use Rattle.s80_object.specs.Objects.{State as Objects}
use Rattle.s80_object.specs.declared.value.Value.{Value}
use Rattle.s80_prims.specs.declared.stop.End.{End}
use Rattle.s80_prims.specs.declared.stop.End.TheVariants.{Answer, Stopped}
use Rattle.s80_prims.specs.declared.stop.Outcome.{Outcome}
use Rattle.s80_print.specs.Outcome.{end_text, line_end, outcome_text}
use Rattle.s80_machine.specs.Shared.{outcome_of}
use Rattle.s80_machine.specs.World.{World}
use Rattle.s80_meaning.specs.Agreement.{IsOfTrees}
use Rattle.s80_meaning.specs.Image.{image}
use Rattle.s80_meaning.specs.Meaning.{Methods, eval}
use Rattle.s80_meaning.specs.Renamed.{AreToldAlike, EndAlike}
use Rattle.s80_meaning.specs.Tree.{Meant}
use Rattle.s80_meaning.proofs.Natural.{printed_image}

same_end : (end : End) → EndAlike end end
same_end (Answer v) = refl
same_end (Stopped stop) = refl

-- where blocks begin isn't told
end_text_image : (t : Table) (at : Value → ℕ → ℕ) (s : Objects) (end : End) → end_text t (image at s) end ≡ end_text t s end
end_text_image t at s (Answer v) = ap (λ (l : List ℕ). codes "=> " ++ l) (printed_image at t s v)
end_text_image t at s (Stopped stop) = refl

text_alike : (t : Table) (at : Value → ℕ → ℕ) (end : End) (v w : World) → w.transcript ≡ v.transcript → w.objects ≡ image at v.objects → outcome_text t (outcome_of end w) ≡ outcome_text t (outcome_of end v)
text_alike t at end v w transcript objects =
    (λ i. transcript i ++ (line_end (transcript i) ++ end_text t (objects i) end)) ∙ ap (λ (l : List ℕ). v.transcript ++ (line_end v.transcript ++ l)) (end_text_image t at v.objects end)

pub told_alike : (t : Table) (codes : MethodsValue (MethodEntry Code)) (code : Code) (budget : ℕ) (methods : Methods) (meant : Meant) (ran : Outcome) → IsOfTrees t codes code budget methods meant ran
    → (outcome : Outcome) × (eval t methods meant budget ≡ Some outcome) × AreToldAlike t t outcome ran
told_alike t codes code budget methods meant ran h = (
  outcome_of h.end h.world,
  ap (option_map (λ (p : End × World). outcome_of p.0 p.1)) h.evaluates,
  record {
    end = subst (λ (o : Outcome). EndAlike h.end o.end) (sym h.ran_is) (same_end h.end);
    ticks = ap (λ (o : Outcome). o.ticks) h.ran_is ∙ h.same.ticks;
    text = ap (outcome_text t) h.ran_is ∙ text_alike t _ h.end h.world h.ran_world h.same.transcript h.same.objects;
  },
)
