use Rattle.std.proofs.Common.{◌∙◌, ap, option_copied}
use Rattle.s80_object.proofs.lemmas.Kept.{texts_of}
use Rattle.s80_machine.proofs.KeptListings.{entry_there, none_read, none_there, one_read, some_kept}
use Rattle.s80_machine.proofs.methods.Methods.instruction.Goals as goal

pub returns-in_err-get : goal.returns-in_err-get
returns-in_err-get c = λ m there.
    let read = none_read c.deref.result.now c.self.inside.listings.items c.deref.ensures.value c.args.number c.in_err-get.ensures.lookup.3 in
    absurd (some_kept c.self.inside.activated.items c.self.inside.listings.items c.self.invariant.1 (texts_of c.self.inside.keys.keys) c.args.self.now c.self.view_is c.args.number m there read)

pub returns-in_err-get-2 : goal.returns-in_err-get-2
returns-in_err-get-2 c = λ m there.
    let l = c.in_ok-get.field-0.now in
    let listing = one_read c.deref.result.now c.self.inside.listings.items c.deref.ensures.value c.args.number l c.in_ok-get.ensures.lookup.1 c.in_ok-get.ensures.lookup.3.0 in
    let read = none_read c.deref-2.result.now l.items c.deref-2.ensures.value c.args.place c.in_err-get-2.ensures.lookup.3 in
    ap option_copied c.from_residual-in_err-get-2.ensures
    ∙ none_there c.self.inside.activated.items c.self.inside.listings.items c.self.invariant.1 (texts_of c.self.inside.keys.keys) c.args.self.now c.self.view_is c.args.number m there l listing c.args.place read

pub returns : goal.returns
returns c = λ m there.
    let l = c.in_ok-get.field-0.now in
    let entry = c.in_ok-get-2.field-0.now in
    let listing = one_read c.deref.result.now c.self.inside.listings.items c.deref.ensures.value c.args.number l c.in_ok-get.ensures.lookup.1 c.in_ok-get.ensures.lookup.3.0 in
    let read = one_read c.deref-2.result.now l.items c.deref-2.ensures.value c.args.place entry c.in_ok-get-2.ensures.lookup.1 c.in_ok-get-2.ensures.lookup.3.0 in
    c.as_ref.ensures.value
    ∙ entry_there c.self.inside.activated.items c.self.inside.listings.items c.self.invariant.1 (texts_of c.self.inside.keys.keys) c.args.self.now c.self.view_is c.args.number m there l listing c.args.place entry read
