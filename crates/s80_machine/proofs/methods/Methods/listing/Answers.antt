use Rattle.std.proofs.Common.{◌∙◌, Some, ap, option_copied, sym}
use Rattle.std.specs.Option.{option_map}
use Rattle.s80_object.proofs.lemmas.Kept.{texts_of}
use Rattle.s80_machine.proofs.KeptListings.{all_kept, none_read, one_read}
use Rattle.s80_machine.proofs.methods.Methods.listing.Goals as goal

pub returns-in_err-get : goal.returns-in_err-get
returns-in_err-get c =
    ap option_copied c.from_residual.ensures
    ∙ ap (option_map (λ l. l.items)) (sym (none_read c.deref.result.now c.self.inside.listings.items c.deref.ensures.value c.args.number c.in_err-get.ensures.lookup.3))
    ∙ all_kept c.self.inside.activated.items c.self.inside.listings.items c.self.invariant.1 (texts_of c.self.inside.keys.keys) c.args.self.now c.self.invariant.0.count c.self.view_is c.args.number

pub returns : goal.returns
returns c =
    let l = c.in_ok-get.field-0.now in
    ap Some c.as_slice.ensures.value
    ∙ ap (option_map (λ l. l.items)) (sym (one_read c.deref.result.now c.self.inside.listings.items c.deref.ensures.value c.args.number l c.in_ok-get.ensures.lookup.1 c.in_ok-get.ensures.lookup.3.0))
    ∙ all_kept c.self.inside.activated.items c.self.inside.listings.items c.self.invariant.1 (texts_of c.self.inside.keys.keys) c.args.self.now c.self.invariant.0.count c.self.view_is c.args.number
