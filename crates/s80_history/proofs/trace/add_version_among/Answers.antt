use Rattle.std.proofs.Common.{◌≡◌, ◌∙◌, Some, ap, subst, sym}
use Rattle.s80_history.specs.Traces.{HasRoom, held}
use Rattle.s80_history.proofs.Noting.{among_more}
use Rattle.s80_history.proofs.trace.add_version_among.Goals as goal

pub add_version-requires : goal.add_version-requires
add_version-requires c =
    let there : held c.args.methods.now.entries c.args.selector.now ≡ Some c.in-Some.method.now = sym (c.in-Some.ensures.value ∙ ap (held c.args.methods.now.entries) c.bytes.ensures) in
    subst HasRoom there c.requires

pub returns-in-Some : goal.returns-in-Some
returns-in-Some c =
    among_more c.args.selector.now c.args.at c.args.methods.now.entries (c.get_mut.follows.lender c.add_version.new.self).entries c.bytes.result.now
    c.in-Some.method.now c.add_version.new.self c.bytes.ensures c.in-Some.ensures.value ((c.get_mut.follows.holds c.add_version.new.self).0) c.add_version.ensures.group c.add_version.ensures.versions
