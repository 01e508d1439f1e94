use Rattle.std.proofs.Common.{◌≡◌, ◌∙◌, ◌++◌, None, Some, sym, ap, append-nil}
use Rattle.std.specs.FinMap as finmap
use Rattle.std.proofs.lemmas.Result.{on_ok_weaker}
use Rattle.s80_class.specs.Classes.{Classes}
use Rattle.s80_snapshot.specs.Put.{class_put}
use Rattle.s80_snapshot.proofs.encode.put_class.Goals as goal

pub returns-in-Some : goal.returns-in-Some
returns-in-Some c = λ state is.
    let name = c.args.class_name.now in
    let row = c.in-Some.ensures.there.0 in
    let there : finmap.get state.classes name ≡ Some row = ap (λ (cs : Classes). finmap.get cs name) (sym is.classes) ∙ c.in-Some.ensures.there.1 in
    on_ok_weaker c.put_class_at.result
    (λ put. put ∙ ap (λ o. c.args.out.now.items ++ class_put state name o) (sym there))
    (c.put_class_at.ensures state name row is c.in-Some.ensures.named there)

pub returns-in-None : goal.returns-in-None
returns-in-None c = λ state is.
    let name = c.args.class_name.now in
    let none : finmap.get state.classes name ≡ None = ap (λ (cs : Classes). finmap.get cs name) (sym is.classes) ∙ c.in-None.ensures in
    sym (append-nil c.args.out.now.items) ∙ ap (λ o. c.args.out.now.items ++ class_put state name o) (sym none)
