use Rattle.std.proofs.lemmas.Result.{on_ok_weaker}
use Rattle.s80_xref.specs.Links.{IsLink}
use Rattle.s80_xref.proofs.Gathering.{gathers_linked, gathers_none}
use Rattle.s80_xref.proofs.words.add_side.Goals as goal

pub returns-in-Some : goal.returns-in-Some
returns-in-Some c = λ state is.
    on_ok_weaker c.add_linked.result
    (λ grown. gathers_linked state c.args.class_name.now c.args.side c.in-Some.methods.now.methods c.args.link (c.in-Some.ensures state is) c.args.words.now c.add_linked.new.words grown)
    c.add_linked.ensures

pub returns-in-None : goal.returns-in-None
returns-in-None c = λ state is. gathers_none state c.args.class_name.now c.args.side (IsLink c.args.link state) c.args.words.now (c.in-None.ensures state is)
