use Rattle.std.proofs.Common.{◌≡◌, ◌∷◌, [], ◌++◌, IsTrue, List, ℕ, length, sym, ◌∙◌, ap, subst, arith}
use Rattle.std.specs.List.{list_all}
use Rattle.s80_disk.specs.declared.recorded.Recorded.{Recorded}
use Rattle.s80_disk.specs.declared.recorded.Recorded.TheVariants.{Write}
use Rattle.s80_disk.specs.History.{history, is_within}
use Rattle.s80_disk.proofs.Pushed.{history-write, within-write}
use Rattle.s80_disk.proofs.memory.calls.note_write.Goals as goal
use Rattle.s80_disk.proofs.memory.calls.note_write.Goals.{After-note}

items : (c : After-note) → c.note.new.calls.items ≡ c.args.calls.now.items ++ Write c.args.file c.args.at (length c.args.pieces.now.items) (length c.args.piece.now) ∷ []
items c =
    let from : c.len-from.result ≡ length c.args.pieces.now.items = omega (arith, c.len-from.ensures) in
    c.note.ensures.items ∙ ap (λ (n : ℕ). c.args.calls.now.items ++ Write c.args.file c.args.at n (length c.args.piece.now) ∷ []) from

pub returns-clause-newest : goal.returns-clause-newest
returns-clause-newest c =
    (λ i. history (c.append.ensures.items i) (items c i)) ∙ history-write c.args.pieces.now.items c.args.piece.now c.args.room c.args.calls.now.items c.args.file c.args.at c.requires.within

pub returns-clause-within : goal.returns-clause-within
returns-clause-within c =
    let P : List ℕ → List Recorded → Type 0 = λ pieces calls. IsTrue (list_all (is_within (length pieces) c.args.room) calls) in
    let step = within-write c.args.pieces.now.items c.args.piece.now c.args.room c.args.calls.now.items c.args.file c.args.at c.requires.fits c.requires.within in
    subst (λ (l : List ℕ). P l c.note.new.calls.items) (sym c.append.ensures.items) (subst (P (c.args.pieces.now.items ++ c.args.piece.now)) (sym (items c)) step)
