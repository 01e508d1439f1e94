use Rattle.std.proofs.Common.{◌≡◌, ◌∙◌, true, sym, true≢false}
use Rattle.s80_tree.specs.Tree.{method_of}
use Rattle.s80_syntax.specs.declared.fault.ParseFault.TheVariants.{Memory}
use Rattle.s80_method.proofs.Fitting.{no_refusal}
use Rattle.s80_method.proofs.code.tree_of.Goals as goal

pub prove-unreachable-requires : goal.prove-unreachable-requires
prove-unreachable-requires c =
    let memory : c.in-Err.fault ≡ Memory = c.no_fault_beside_a_tree.ensures.method c.args.source.now c.requires.fits.1.0 c.in-Err.fault c.requires.fits.1.1 c.in-Err.ensures.fault in
    let same : c.eq.result ≡ true = rw memory at c.eq.ensures in
    true≢false (sym same ∙ c.if-prove.true)

pub returns-in-Ok-clause-fits : goal.returns-in-Ok-clause-fits
returns-in-Ok-clause-fits c = no_refusal c.args.source.now c.requires.fits.0 (method_of c.in-Ok.tree) c.in-Ok.ensures.tree c.requires.fits.1
