use Rattle.s80_machine.specs.Sites.{site_in}
use Rattle.s80_machine.proofs.KeptSites.{row_noted}
use Rattle.s80_machine.proofs.sites.Sites.note.Goals as goal

pub returns : goal.returns
returns c =
    row_noted c.add_rows.new.self.rows.items c.args.sending.row c.args.sending.place c.index_mut.result.now c.put.new.row (record { class = c.args.sending.class; side = c.args.sending.side; target = c.args.target }) c.in_ok-add_rows.ensures.there
    c.index_mut.ensures.value c.put.result (site_in c.args.self.now) c.add_rows.ensures.same c.put.ensures
