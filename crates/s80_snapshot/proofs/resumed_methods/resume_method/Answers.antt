use Rattle.std.proofs.Common.{subst}
use Rattle.s80_snapshot.specs.Resuming.{FindsSource, listed_of, selector_of}
use Rattle.s80_snapshot.proofs.ResumingOne.{is_resumed}
use Rattle.s80_snapshot.proofs.resumed_methods.resume_method.Goals as goal

pub returns : goal.returns
returns c =
    let m = listed_of c.args.listed.now in
    is_resumed c.one_tree.ensures.method c.one_code.ensures.method m c.args.text c.in-Some.source c.args.system.now c.put.new.system
    (subst (FindsSource (selector_of m) c.args.text) c.in-Some.is c.in_ok-source.ensures) c.requires c.in_ok-put.ensures c.has_code.ensures.codes c.has_code.result c.has_code.ensures.same
