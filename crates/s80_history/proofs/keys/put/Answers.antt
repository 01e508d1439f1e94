use Rattle.std.proofs.Common.{◌≡◌, ◌∙◌, ap, cond, is_ok, length, subst, ◌≤◌}
use Rattle.std.specs.List.{insert}
use Rattle.s80_history.specs.Keys.{key_name, names_in}
use Rattle.s80_history.proofs.Keying.{IsPoint, is_there, put_again, put_anew}
use Rattle.s80_history.proofs.keys.put.Goals as goal

pub returns-then-is_at : goal.returns-then-is_at
returns-then-is_at c =
    let n = key_name c.args.key in
    let at = c.place-at.result in
    put_again c.args.key c.args.keys.now.items at (subst (λ xs. IsPoint n xs at) c.deref.ensures.value c.place-at.ensures.point) (c.if-is_at.ensures ∙ ap (λ xs. is_there n xs at) c.deref-2.ensures.value)

pub returns : goal.returns
returns c =
    let xs = c.args.keys.now.items in
    let n = key_name c.args.key in
    let at = c.place-at.result in
    let items : c.insert.new.self.items ≡ insert xs at c.args.key = c.insert.ensures.items ∙ ap (λ r. cond (is_ok r) (insert xs at c.args.key) xs) c.unwrap.ensures in
    ap names_in items
    ∙ put_anew c.args.key xs at (subst (λ ys. at ≤ length ys) c.deref.ensures.value c.place-at.ensures.bound) (subst (λ ys. IsPoint n ys at) c.deref.ensures.value c.place-at.ensures.point)
    (c.if-is_at.ensures ∙ ap (λ ys. is_there n ys at) c.deref-2.ensures.value)
