-- Code means its trees.
use Rattle.std.proofs.Common.{ℕ}
use Rattle.s80_class.specs.Table.{Table}
use Rattle.s80_code.specs.declared.code.Code.{Code}
use Rattle.s80_dict.specs.Table.{MethodsValue}
use Rattle.s80_dict.specs.declared.dict.MethodEntry.{MethodEntry}
use Rattle.s80_prims.specs.declared.stop.Outcome.{Outcome}
use Rattle.s80_machine.specs.Run.{RunsTo, start}
use Rattle.s80_meaning.specs.Agreement.{MeansItsTrees}
use Rattle.s80_meaning.proofs.Agreed.{setting}
use Rattle.s80_meaning.proofs.Assembled.{method_at, ready, starts_by}
use Rattle.s80_meaning.proofs.DoitFollows.{doit_ends}
use Rattle.s80_meaning.proofs.RunEnds.{run_ends}

pub means_its_trees : (t : Table) (codes : MethodsValue (MethodEntry Code)) (code : Code) (budget : ℕ) (ran : Outcome) → RunsTo t codes code budget ran → MeansItsTrees t codes code budget ran
means_its_trees t codes code budget ran runs methods meant class side agree is =
    let starts = starts_by t methods meant codes code budget class side agree is in
    let machine = run_ends t codes code budget runs.0 (start t codes code budget) ran runs.1 in
    let tree = doit_ends (setting t methods meant codes code budget starts) (ready t methods meant codes code budget class side agree is) (machine.end, machine.world) (machine.steps, machine.leads) in
    record {
      end = machine.end;
      world = tree.0;
      ran_world = machine.world;
      evaluates = tree.1;
      ends = (machine.steps, machine.leads);
      ran_is = machine.ran_is;
      starts = starts;
      begin = method_at t methods meant codes code budget class side agree is;
      same = tree.2;
    }
