-- A run comes to one outcome.
use Rattle.std.proofs.Common.{◌≡◌, ◌∙◌, sym, ℕ, zero, suc, Some}
use Rattle.s80_class.specs.Table.{Table}
use Rattle.s80_code.specs.declared.code.Code.{Code}
use Rattle.s80_code.proofs.lemmas.TableLemmas.{value}
use Rattle.s80_dict.specs.Table.{MethodsValue}
use Rattle.s80_dict.specs.declared.dict.MethodEntry.{MethodEntry}
use Rattle.s80_prims.specs.declared.stop.Outcome.{Outcome}
use Rattle.s80_machine.specs.Turn.{Turn, Goes, Ends, Stuck}
use Rattle.s80_machine.specs.Step.{turn}
use Rattle.s80_machine.specs.Run.{after, executed, RunsTo, start}

module _ (t : Table) (methods : MethodsValue (MethodEntry Code)) (code : Code) (budget : ℕ) where
  -- the number of steps that are tried doesn't matter, once they are enough
  pub one_outcome : (at : Turn) (n m : ℕ) (one other : Outcome) → after t methods code budget at (executed t methods code budget n) ≡ Some one
      → after t methods code budget at (executed t methods code budget m) ≡ Some other → one ≡ other
  one_outcome Stuck n m one other e f = cc
  one_outcome (Ends end w) n m one other e f = value (sym e ∙ f)
  one_outcome (Goes s) zero m one other e f = cc
  one_outcome (Goes s) (suc n) zero one other e f = cc
  one_outcome (Goes s) (suc n) (suc m) one other e f = one_outcome (turn t methods code budget s) n m one other e f

  pub runs_to_one : (one other : Outcome) → RunsTo t methods code budget one → RunsTo t methods code budget other → one ≡ other
  runs_to_one one other r q = one_outcome (start t methods code budget) r.0 q.0 one other r.1 q.1
