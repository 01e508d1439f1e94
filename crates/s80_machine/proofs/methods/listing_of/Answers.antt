use Rattle.std.proofs.Common.{arith}
use Rattle.s80_machine.proofs.KeptListings.{all_listed, one_listed}
use Rattle.s80_machine.proofs.methods.listing_of.Goals as goal

pub loop-at-preserved : goal.loop-at-preserved
loop-at-preserved c =
    let l = c.loop-at.invariant in
    record {
      size = l.size;
      made = one_listed c.args.code.now.bytes c.loop-at.at c.loop-at.listing.items l.made c.decode.result c.push.new.self.items (omega (arith, c.loop-at-test.true, l.size)) c.decode.ensures c.in_ok-push.ensures.items;
    }

pub returns : goal.returns
returns c = all_listed c.args.code.now.bytes c.loop-at.at c.loop-at.listing.items c.loop-at.invariant.made (omega (arith, c.loop-at-test.false, c.loop-at.invariant.size))
