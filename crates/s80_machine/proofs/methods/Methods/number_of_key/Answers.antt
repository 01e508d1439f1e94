use Rattle.std.proofs.Common.{◌≡◌, ◌∙◌, ◌++◌, ◌∷◌, [], arith, refl, subst, sym}
use Rattle.s80_object.proofs.lemmas.Kept.{none_of, texts_of}
use Rattle.s80_machine.specs.declared.methods.Activated.{Activated}
use Rattle.s80_machine.specs.Seen.{AreActivated, AreListed, Numbers, key_in, methods_of}
use Rattle.s80_machine.proofs.KeptListings.{listings_of, one_more_listed}
use Rattle.s80_machine.proofs.KeptMethods.{new_activated, new_texts, number_new, number_there}
use Rattle.s80_machine.proofs.methods.Methods.number_of_key.Goals as goal

pub returns-in-Some : goal.returns-in-Some
returns-in-Some c =
    number_there c.self.inside.keys.keys c.self.inside.activated.items c.args.self.now c.self.invariant.0 c.self.view_is c.args.key.now c.args.key.now refl c.requires.key
    c.args.code.now c.in-Some.number c.in-Some.ensures.index c.in-Some.ensures.found

pub invariant_of-self-2 : goal.invariant_of-self-2
invariant_of-self-2 c =
    let ks = c.self.inside.keys.keys in
    let done = c.self.inside.activated.items in
    let t = c.args.key.now in
    let none = none_of c.get_index_of.result c.in_default.not-Some ∙ c.get_index_of.ensures.found in
    let copied : c.in_ok-kept.kept.items ≡ c.args.key.now = c.in_ok-kept.ensures.items_if_clones_equal (λ x y same. same) in
    let a : Activated = record { place = c.args.place; code = c.code-code.result; holds_block = c.holds_block.result } in
    let l = c.in_ok-listing.listing in
    let new = sym (c.push_reserved-2.ensures.items ∙ (λ i. c.in_ok-reserve.ensures.items i ++ a ∷ [])) in
    let new_listings = sym (c.push_reserved.ensures.items ∙ (λ i. c.in_ok-reserve-2.ensures.items i ++ l ∷ [])) in
    let are : AreActivated (texts_of c.insert.new.self.keys) (done ++ a ∷ []) =
    new_activated ks done c.args.self.now c.self.invariant.0 c.self.view_is t t refl c.requires.key none a (texts_of c.insert.new.self.keys)
    (new_texts ks done c.args.self.now c.self.invariant.0 c.self.view_is t t refl c.requires.key none c.in_ok-kept.kept c.insert.new.self.keys copied c.in_ok-insert.ensures.keys)
    (omega (arith, c.in-Ok.ensures.0, c.in-Ok.ensures.1, c.len.ensures.len)) (record { place = c.requires.place; holds = c.holds_block.ensures }) in
    let listed = subst (λ ls. AreListed (done ++ a ∷ []) (listings_of ls)) new_listings (one_more_listed done c.self.inside.listings.items c.self.invariant.1 a l c.in_ok-listing.ensures) in
    subst (λ xs. AreActivated (texts_of c.insert.new.self.keys) xs × AreListed xs (listings_of c.push_reserved.new.self.items)) new (are, listed)

pub returns : goal.returns
returns c =
    let ks = c.self.inside.keys.keys in
    let done = c.self.inside.activated.items in
    let t = c.args.key.now in
    let none = none_of c.get_index_of.result c.in_default.not-Some ∙ c.get_index_of.ensures.found in
    let copied : c.in_ok-kept.kept.items ≡ c.args.key.now = c.in_ok-kept.ensures.items_if_clones_equal (λ x y same. same) in
    let a : Activated = record { place = c.args.place; code = c.code-code.result; holds_block = c.holds_block.result } in
    subst (λ xs. Numbers (key_in t) c.args.code.now c.args.self.now (methods_of (texts_of c.insert.new.self.keys) xs) c.in-Ok.number)
    (sym (c.push_reserved-2.ensures.items ∙ (λ i. c.in_ok-reserve.ensures.items i ++ a ∷ [])))
    (number_new ks done c.args.self.now c.self.invariant.0 c.self.view_is t t refl c.requires.key none c.args.code.now c.in-Ok.number a (texts_of c.insert.new.self.keys)
    (c.in-Ok.ensures.1 ∙ c.len.ensures.len)
    (new_texts ks done c.args.self.now c.self.invariant.0 c.self.view_is t t refl c.requires.key none c.in_ok-kept.kept c.insert.new.self.keys copied c.in_ok-insert.ensures.keys) c.code-code.ensures.code)
