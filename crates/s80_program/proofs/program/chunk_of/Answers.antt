use Rattle.std.proofs.Common.{sym, ap, subst, ◌∙◌}
use Rattle.s80_chunk.specs.declared.item.Item.{Item}
use Rattle.s80_chunk.specs.declared.item.Role.TheVariants.{Plain}
use Rattle.s80_chunk.specs.Chunks.{item_of}
use Rattle.s80_model.specs.declared.item.SessionItem.TheVariants.{Chunk}
use Rattle.s80_session.specs.Working.{IsReadable}
use Rattle.s80_program.specs.Command.{behind_separators}
use Rattle.s80_program.proofs.Separators.{is_chunk_text, readable_plain}
use Rattle.s80_program.proofs.program.chunk_of.Goals as goal

pub returns-clause-readable : goal.returns-clause-readable
returns-clause-readable c =
    let P : Item → Type 0 = λ i. IsReadable (Chunk i) in
    let is = c.text_item.ensures.item ∙ ap (item_of Plain) (c.in_ok-behind.ensures ∙ c.behind_separators.ensures) in
    subst P (sym is) (readable_plain (behind_separators c.args.text.now) (is_chunk_text c.args.text.now c.requires))
