-- What a doIt comes to is told alike under other numbers of the classes.
use Rattle.std.proofs.Common.{◌≡◌, ◌∙◌, ◌++◌, ℕ, suc, refl, sym, ap, subst, List, [], codes, Option, Some, None}
use Rattle.std.specs.Option.{option_map}
use Rattle.s80_base.specs.declared.names.Side.{Side}
use Rattle.s80_class.specs.Classes.{Name}
use Rattle.s80_class.specs.Table.{Table, name_of}
use Rattle.s80_class.proofs.lemmas.Numbers.{value}
use Rattle.s80_object.specs.declared.value.Value.{Value}
use Rattle.s80_object.specs.declared.value.Value.TheVariants.{Small, Character, Nil, True, False, Symbol, Number, ClassRef, Object, Context, Transcript, Smalltalk}
use Rattle.s80_prims.specs.declared.stop.End.TheVariants as end
use Rattle.s80_prims.specs.declared.stop.Outcome.{Outcome}
use Rattle.s80_print.specs.Outcome.{line_end}
use Rattle.s80_machine.specs.Shared.{outcome_of}
use Rattle.s80_machine.specs.World.{World, Variable, doit, own, first_value, first_world}
use Rattle.s80_meaning.specs.Meaning.{Out, Methods, activated, ended, eval, evaluated}
use Rattle.s80_meaning.specs.Renamed.{AreOneHouse, AreToldAlike, IsByName, small_of}
use Rattle.s80_meaning.specs.Tree.{Meant}
use Rattle.s80_meaning.proofs.RenamedNumbers.{IsRenumbering, is_renumbering, named_so, renumbered}
use Rattle.s80_meaning.proofs.RenamedObjects.{renamed}
use Rattle.s80_meaning.proofs.RenamedClasses.{printed_same}
use Rattle.s80_meaning.proofs.RenamedWorld.{first_renamed, renamed_world}
use Rattle.s80_meaning.proofs.RenamedOut.{gives, answers, returns, stopped, unfinished}
use Rattle.s80_meaning.proofs.RenamedActivations.{Houses, Same, activated_alike}
use Rattle.s80_meaning.proofs.RenamedTrees.{evaluated_alike}

-- a SmallInteger has no number of a class
small_renamed : (r : ℕ → ℕ) (v : Value) → small_of (end.Answer (renamed r v)) ≡ small_of (end.Answer v)
small_renamed r (Small n) = refl
small_renamed r (Character c) = refl
small_renamed r Nil = refl
small_renamed r True = refl
small_renamed r False = refl
small_renamed r (Symbol n) = refl
small_renamed r (Number n) = refl
small_renamed r (ClassRef c side) = refl
small_renamed r (Object n) = refl
small_renamed r Context = refl
small_renamed r Transcript = refl
small_renamed r Smalltalk = refl

module _ (p : Houses) where
  abbrev Told : Option Outcome → Option Outcome → Type 0
  Told o q = (outcome : Outcome) → o ≡ Some outcome → (other : Outcome) × (q ≡ Some other) × AreToldAlike p.t p.u outcome other

  abbrev of_out : Table → Methods → Out Value → Option Outcome
  of_out t methods o = option_map (λ q. outcome_of q.0 q.1) (ended t methods p.meant p.budget o)

  answer_told : (v : Value) (w : World) (vs : Variable → Value) → AreToldAlike p.t p.u (outcome_of (end.Answer v) w) (outcome_of (end.Answer (renamed p.r v)) (renamed_world p.r w vs))
  answer_told v w vs = record {
    end = small_renamed p.r v;
    ticks = refl;
    text = ap (λ text. w.transcript ++ (line_end w.transcript ++ (codes "=> " ++ text))) (printed_same p.t p.u p.r p.is w.objects v);
  }

  out_told : (o q : Out Value) → Same p o q → Told (of_out p.t p.methods o) (of_out p.u p.others q)
  out_told o q (gives v w f vs h) outcome is =
      (outcome_of (end.Answer (renamed p.r v)) (renamed_world p.r w vs), refl, subst (λ k. AreToldAlike p.t p.u k (outcome_of (end.Answer (renamed p.r v)) (renamed_world p.r w vs))) (value is) (answer_told v w vs))
  out_told o q (answers v w vs h) outcome is = cc
  out_told o q (returns k v w vs h) outcome is = cc
  out_told o q (stopped stop w vs h) outcome is = (
    outcome_of (end.Stopped stop) (renamed_world p.r w vs),
    refl,
    subst (λ k. AreToldAlike p.t p.u k (outcome_of (end.Stopped stop) (renamed_world p.r w vs))) (value is) (record { end = refl; ticks = refl; text = refl }),
  )
  out_told o q unfinished outcome is = cc

  told_alike : Told (eval p.t p.methods p.meant p.budget) (eval p.u p.others p.meant p.budget)
  told_alike =
      out_told (activated p.t p.methods p.meant p.budget (evaluated p.t p.methods p.meant p.budget (suc p.budget)) doit p.meant Nil [] [] (first_world p.t) (own []))
      (activated p.u p.others p.meant p.budget (evaluated p.u p.others p.meant p.budget (suc p.budget)) doit p.meant Nil [] [] (first_world p.u) (own []))
      (activated_alike p (evaluated p.t p.methods p.meant p.budget (suc p.budget)) (evaluated p.u p.others p.meant p.budget (suc p.budget)) (evaluated_alike p (suc p.budget))
      doit p.meant Nil [] [] (first_world p.t) (own []) (first_value p.u) (first_renamed p.t p.u p.r p.is))

-- ---- one house under two numberings

module _ (t u : Table) (methods others : Methods) (one : AreOneHouse t u methods others) where
  numbering : IsRenumbering t u (renumbered t u)
  numbering = is_renumbering t u one.house.known one.other.known one.classes one.house.kernel

  methods_same : (c : ℕ) (side : Side) (selector : List ℕ) → others (renumbered t u c) side selector ≡ methods c side selector
  methods_same c side selector = of (name_of t.names c) refl
    where
      to : ℕ
      to = renumbered t u c

      named : name_of u.names to ≡ name_of t.names c
      named = numbering.named c

      of : (o : Option Name) → name_of t.names c ≡ o → others to side selector ≡ methods c side selector
      of None is = one.other.nowhere to side selector (named ∙ is) ∙ sym (one.house.nowhere c side selector is)
      of (Some name) is = one.same_methods name c to (named_so t.names c name is) (named_so u.names to name (named ∙ is)) side selector

  pub by_name : (meant : Meant) (budget : ℕ) → IsByName t u methods others meant budget
  by_name meant budget =
      told_alike (record {
        t = t;
        u = u;
        r = renumbered t u;
        is = numbering;
        methods = methods;
        others = others;
        same = methods_same;
        meant = meant;
        budget = budget;
      })
