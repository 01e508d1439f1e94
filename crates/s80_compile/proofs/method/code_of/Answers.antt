use Rattle.std.proofs.Common.{refl}
use Rattle.s80_code.specs.Entries.{entries_of}
use Rattle.s80_tree.specs.Tree.{method_of}
use Rattle.s80_scope.specs.Fit.{measures}
use Rattle.s80_scope.specs.FitStack.{stack, temporaries}
use Rattle.s80_core.specs.Core.{core_of}
use Rattle.s80_core.proofs.lemmas.FitAll.{fits_small}
use Rattle.s80_compile.specs.Compiles.{last_entries}
use Rattle.s80_compile.proofs.Headed.{begins, whole}
use Rattle.s80_compile.proofs.method.code_of.Goals as goal

pub emit-requires : goal.emit-requires
emit-requires c =
    begins (temporaries (method_of c.args.tree.now)) (stack (method_of c.args.tree.now)) (entries_of c.empty-literals.result) (core_of c.args.core.now)
    c.empty-literals.ensures c.requires.core (fits_small (measures (method_of c.args.tree.now)) c.requires.fits).temporaries

pub returns : goal.returns
returns c =
    let all = whole (core_of c.args.core.now) (entries_of c.empty-literals.result) (entries_of c.emit.new.frame) (entries_of c.add_last_entries.new.literals)
    (last_entries (method_of c.args.tree.now) (core_of c.args.core.now) c.args.owner.now c.args.side)
    c.emit.new.code c.empty-bytes.result c.empty-literals.ensures c.empty-bytes.ensures c.in_ok-emit.ensures c.in_ok-add_last_entries.ensures in
    record {
      flag = c.flag_of.ensures;
      arguments = c.count.ensures;
      primitive = refl;
      temporaries = c.in_ok-temporaries.ensures.0;
      large = c.in_ok-temporaries.ensures.1;
      plain = entries_of c.emit.new.frame;
      firsts = all.firsts;
      frame = all.frame;
      body = all.body;
    }
