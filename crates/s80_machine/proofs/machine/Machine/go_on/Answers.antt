use Rattle.std.proofs.Common.{◌∙◌, ap, slice_get}
use Rattle.std.specs.Option.{option_map}
use Rattle.s80_machine.specs.Turn.{Context}
use Rattle.s80_machine.specs.Seen.{Method, listing}
use Rattle.s80_machine.proofs.CameFar.{is_behind}
use Rattle.s80_machine.proofs.machine.Machine.go_on.Goals as goal

pub returns : goal.returns
returns c = λ on s same shows.
    is_behind on c.args.self.now s shows c.go_on.new.self c.go_on.new.objects c.go_on.new.ticks c.in-Some.active.now c.in-Some-listing.listing.now c.in-Some.ensures
    (c.in-Some-listing.ensures ∙ ap (λ (k : Context). option_map (λ (m : Method). listing m.code.bytes) (slice_get c.args.self.now.methods k.method)) c.active-2.view_is)
    (λ code rest listed there. c.go_on.ensures on code c.in-Some.active.now rest same listed there)
