-- A run that comes to an outcome ends in a world, of which it is the outcome.
use Rattle.std.proofs.Common.{◌≡◌, sym, refl, ℕ, zero, suc, Some}
use Rattle.s80_class.specs.Table.{Table}
use Rattle.s80_code.specs.declared.code.Code.{Code}
use Rattle.s80_code.proofs.lemmas.TableLemmas.{value}
use Rattle.s80_dict.specs.Table.{MethodsValue}
use Rattle.s80_dict.specs.declared.dict.MethodEntry.{MethodEntry}
use Rattle.s80_prims.specs.declared.stop.End.{End}
use Rattle.s80_prims.specs.declared.stop.Outcome.{Outcome}
use Rattle.s80_machine.specs.World.{World}
use Rattle.s80_machine.specs.Turn.{Turn, Goes, Ends, Stuck}
use Rattle.s80_machine.specs.Step.{turn}
use Rattle.s80_machine.specs.Run.{after, executed}
use Rattle.s80_machine.specs.Shared.{outcome_of}
use Rattle.s80_meaning.specs.Agreement.{turns}

module _ (t : Table) (codes : MethodsValue (MethodEntry Code)) (code : Code) (budget : ℕ) where
  pub record RunEnds (now : Turn) (ran : Outcome) : Type 0 where
    pub end : End
    pub world : World
    pub steps : ℕ
    pub leads : turns t codes code budget steps now ≡ Ends end world
    pub ran_is : ran ≡ outcome_of end world

  pub run_ends : (n : ℕ) (now : Turn) (ran : Outcome) → after t codes code budget now (executed t codes code budget n) ≡ Some ran → RunEnds now ran
  run_ends n (Ends end w) ran e = record { end = end; world = w; steps = zero; leads = refl; ran_is = sym (value e) }
  run_ends n Stuck ran e = cc
  run_ends zero (Goes s) ran e = cc
  run_ends (suc n) (Goes s) ran e =
      let behind = run_ends n (turn t codes code budget s) ran e in
      record { end = behind.end; world = behind.world; steps = suc behind.steps; leads = behind.leads; ran_is = behind.ran_is }
