use Rattle.std.proofs.Common.{◌∙◌, ◌++◌, ◌∷◌, [], refl, sym, ap, append-nil}
use Rattle.std.proofs.lemmas.List.{take_all}
use Rattle.s80_history.specs.declared.noted.Noted.{Noted}
use Rattle.s80_snapshot.proofs.Restoring.{member_more, read_at}
use Rattle.s80_snapshot.proofs.history.restore_members.Goals as goal

pub loop-member-init : goal.loop-member-init
loop-member-init c = (sym (append-nil c.args.history.now.members), λ name. refl)

pub loop-member-preserved : goal.loop-member-preserved
loop-member-preserved c =
    let members = c.args.members.now in
    let i = c.loop-member.member-index in
    let x = c.member-item.result in (
      member_more members i x c.args.history.now.members c.loop-member.history.members c.restore_member.new.self.members (read_at members i x c.loop-member-test.true c.member-item.is) c.loop-member.invariant.0
          (c.in_ok-restore_member.ensures.ok ∙ ap (λ (m : Noted). c.loop-member.history.members ++ m ∷ []) c.in_ok-copied.ensures),
      λ name. c.in_ok-restore_member.ensures.versions name ∙ c.loop-member.invariant.1 name,
    )

pub returns-clause-members : goal.returns-clause-members
returns-clause-members c = c.loop-member.invariant.0 ∙ ap (λ l. c.args.history.now.members ++ l) (take_all c.loop-member.member-index c.args.members.now c.loop-member-test.false)

pub returns-clause-versions : goal.returns-clause-versions
returns-clause-versions c = c.loop-member.invariant.1

pub returns-in_err-restore_member-clause-versions : goal.returns-in_err-restore_member-clause-versions
returns-in_err-restore_member-clause-versions c = λ name. c.in_err-restore_member.ensures.versions name ∙ c.loop-member.invariant.1 name
