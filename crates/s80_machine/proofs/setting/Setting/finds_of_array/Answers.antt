use Rattle.std.proofs.Common.{◌≡◌, ◌∙◌, ap, codes, rules, sym, tests}
use Rattle.s80_class.proofs.lemmas.Numbers.{number_names}
use Rattle.s80_machine.specs.Came.{given_of}
use Rattle.s80_machine.proofs.CameQuick.{finds_primitive}
use Rattle.s80_machine.proofs.setting.Setting.finds_of_array.Goals as goal

pub find-requires-clause-class : goal.find-requires-clause-class
find-requires-clause-class c = (codes "Array", number_names c.args.self.now.classes.now.names (codes "Array") c.args.self.now.kernel.array c.requires.numbers.array)

pub returns : goal.returns
returns c = λ is.
    let same : c.code.result.now.primitive ≡ c.args.primitive = search (rules, tests) in
    finds_primitive (given_of c.args.self.now) c.args.self.now.kernel.array c.args.number c.args.primitive c.in-Some.selector.now c.in-Some-find.found c.in-Some.ensures c.in-Some-find.ensures
    (ap (λ code. code.primitive) (sym c.code.ensures.code) ∙ same)
