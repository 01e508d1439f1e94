use Rattle.std.proofs.lemmas.Result.{on_ok_weaker}
use Rattle.s80_xref.specs.Links.{IsLink, places_in}
use Rattle.s80_xref.proofs.Linking.{those_linked, those_of_none}
use Rattle.s80_xref.proofs.places.add_places.Goals as goal

pub returns-in-Some : goal.returns-in-Some
returns-in-Some c = λ state is.
    let methods = c.in-Some.methods.now.methods in
    let class = c.args.class_name.now in
    let word = c.args.word.now in
    on_ok_weaker c.add_found.result
    (λ more. (places_in methods c.args.link word class c.args.side, more, those_linked state class c.args.side methods c.args.link word (c.in-Some.ensures state is)))
    c.add_found.ensures

pub returns-in-None : goal.returns-in-None
returns-in-None c = λ state is. those_of_none state c.args.class_name.now c.args.side (IsLink c.args.link state c.args.word.now) c.args.places.now (c.in-None.ensures state is)
