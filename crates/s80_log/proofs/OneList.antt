-- Files stand for one list.
use Rattle.std.proofs.Common.{◌≡◌, ◌<◌, ℕ, List, [], ◌∷◌, ◌++◌, length, Some, refl, sym, ap, ◌∙◌, arith, length-append}
use Rattle.s80_change.specs.declared.change.Change.{Change}
use Rattle.s80_change.specs.declared.framing.Framing.{Framing}
use Rattle.s80_change.specs.declared.framing.Framing.TheVariants.{Plain, Section}
use Rattle.s80_change.specs.Block.{framed, framing_of, block, blocks, IsLawful}
use Rattle.std.specs.List.{All}
use Rattle.std.proofs.lemmas.List.Elements.{All-head, All-tail}
use Rattle.s80_change.proofs.lemmas.BlockLaws.{block_unique}
use Rattle.s80_disk.specs.Image.{Image}
use Rattle.s80_mark.specs.declared.mark.MarkState.{MarkState}
use Rattle.s80_log.specs.Standing.{marked_part, FilesStandFor}

-- a framing isn't empty
framed_length : (framing : Framing) → 0 < length (framed framing)
framed_length (Plain text) = simp length-append (omega arith)
framed_length (Section head source) = omega arith

-- nor is a block
pub some_block : (change : Change) (after : List ℕ) → [] ≡ block change ++ after → ⊥
some_block change after e = omega (arith, ap length e ∙ length-append (block change) after, framed_length (framing_of change))

pub one_list : (changes other : List Change) → All IsLawful changes → All IsLawful other → blocks changes ≡ blocks other → changes ≡ other
one_list [] [] one two e = refl
one_list [] (d ∷ ds) one two e = absurd (some_block d (blocks ds) e)
one_list (c ∷ cs) [] one two e = absurd (some_block c (blocks cs) (sym e))
one_list (c ∷ cs) (d ∷ ds) one two e =
    let both = block_unique c d (blocks cs) (blocks ds) (All-head IsLawful c cs one) (All-head IsLawful d ds two) e in
    let first = both.0 in
    let others = one_list cs ds (All-tail IsLawful c cs one) (All-tail IsLawful d ds two) both.1 in
    cc

-- two marks that are the valid one
one_mark : (mark other : MarkState) → Some mark ≡ Some other → mark ≡ other
one_mark mark other e = cc

pub one_standing : (files : Image) (mark other_mark : MarkState) (changes other : List Change) → FilesStandFor files mark changes → FilesStandFor files other_mark other → (mark ≡ other_mark) × (changes ≡ other)
one_standing files mark other_mark changes other one two =
    let same = one_mark mark other_mark (sym one.valid ∙ two.valid) in
    (same, one_list changes other one.list.lawful two.list.lawful (sym one.bytes ∙ ap (λ m. marked_part m files) same ∙ two.bytes))
