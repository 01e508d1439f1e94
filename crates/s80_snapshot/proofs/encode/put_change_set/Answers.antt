use Rattle.std.proofs.Common.{◌≡◌, ◌≤◌, ◌∙◌, ◌++◌, Bor, List, length, None, map, refl, sym, ap, arith}
use Rattle.std.proofs.lemmas.List.{length-map}
use Rattle.s80_history.specs.declared.noted.Noted.{Noted}
use Rattle.s80_image.specs.History.{noted}
use Rattle.s80_image.specs.Spelling.{listed}
use Rattle.s80_snapshot.proofs.Pieces.{all_of_them, listed_map, none_yet}
use Rattle.s80_snapshot.proofs.encode.put_change_set.Goals as goal

pub loop-member-init : goal.loop-member-init
loop-member-init c =
    let items = c.deref-member-items.result.now in
    let counted : c.len.result ≡ length items = omega (arith, c.len.ensures, c.deref-member-items.ensures.len) in
    none_yet (λ (m : Bor Noted). (noted None).spell m.now) items c.args.out.now.items (length items) c.len.result c.put_count.new.out.items counted c.in_ok-put_count.ensures.bytes

pub returns-clause-bytes : goal.returns-clause-bytes
returns-clause-bytes c =
    let items = c.deref-member-items.result.now in
    let members : map (λ (m : Bor Noted). m.now) items ≡ c.args.history.now.members = ap (map (λ (m : Bor Noted). m.now)) c.deref-member-items.ensures.value ∙ c.in_ok-members.ensures in
    let past : length items ≤ c.loop-member.member-index = omega (arith, c.loop-member-test.false) in
    all_of_them (λ (m : Bor Noted). (noted None).spell m.now) items c.args.out.now.items (length items) c.loop-member.member-index c.loop-member.out.items past refl c.loop-member.invariant
    ∙ ap (λ b. c.args.out.now.items ++ b) (sym (listed_map (noted None).spell (λ (m : Bor Noted). m.now) items) ∙ ap (listed (noted None).spell) members)

pub returns-clause-short : goal.returns-clause-short
returns-clause-short c =
    let items = c.deref-member-items.result.now in
    let members : map (λ (m : Bor Noted). m.now) items ≡ c.args.history.now.members = ap (map (λ (m : Bor Noted). m.now)) c.deref-member-items.ensures.value ∙ c.in_ok-members.ensures in
    let same : length c.args.history.now.members ≡ length items = ap (λ (ms : List Noted). length ms) (sym members) ∙ length-map items (λ (m : Bor Noted). m.now) in
    omega (arith, same, c.len.ensures, c.deref-member-items.ensures.len, c.in_ok-put_count.ensures.short)
