use Rattle.std.proofs.Common.{◌∙◌, ap, slice_get}
use Rattle.s80_object.proofs.lemmas.Kept.{texts_of}
use Rattle.s80_machine.proofs.KeptMethods.{got, read_at}
use Rattle.s80_machine.proofs.methods.Methods.get.Goals as goal

pub returns : goal.returns
returns c =
    got (texts_of c.self.inside.keys.keys) c.self.inside.activated.items c.args.self.now c.self.invariant.0 c.self.view_is c.args.number c.copied.result
    (c.copied.ensures ∙ read_at c.deref.result.now c.args.number c.get.result c.get.ensures.lookup.1 c.get.ensures.lookup.3 ∙ ap (λ l. slice_get l c.args.number) c.deref.ensures.value)
