-- Files stand for one list at most.
use Rattle.std.proofs.Common.{◌≡◌, inl, inr, ℕ, zero, suc, ◌<◌, Bool, true, false, List, [], ◌∷◌, ◌++◌, length, take, Some, refl, sym, ap, ◌∙◌, arith, length-append, if◌then◌else◌}
use Rattle.s80_change.specs.declared.change.Change.{Change}
use Rattle.s80_change.specs.declared.framing.Framing.{Framing}
use Rattle.s80_change.specs.declared.framing.Framing.TheVariants.{Plain, Section}
use Rattle.s80_change.specs.Block.{framed, framing_of, block, blocks, IsLawful}
use Rattle.std.specs.List.{All}
use Rattle.std.proofs.lemmas.List.Elements.{All-head, All-tail}
use Rattle.s80_change.proofs.lemmas.BlockLaws.{block_unique}
use Rattle.s80_disk.specs.declared.disk.FileId.TheVariants.{Mark, Log0, Log1}
use Rattle.s80_disk.specs.Image.{Image}
use Rattle.s80_mark.specs.declared.mark.MarkState.{MarkState}
use Rattle.s80_mark.specs.Mark.{valid_mark}
use Rattle.s80_mark.specs.Found.{AreLogsEmpty, longer_log}
use Rattle.s80_log.specs.Log.{log_file}
use Rattle.s80_log.specs.Standing.{FilesStandFor as StandByMark, marked_part}
use Rattle.s80_keeper.specs.Standing.{FilesStandFor}

-- a framing isn't empty
framed_length : (framing : Framing) → 0 < length (framed framing)
framed_length (Plain text) = simp length-append (omega arith)
framed_length (Section head source) = omega arith

pub block_length : (change : Change) → 0 < length (block change)
block_length change = framed_length (framing_of change)

-- nor is a block
some_block : (change : Change) (after : List ℕ) → [] ≡ block change ++ after → ⊥
some_block change after e = omega (arith, ap length e ∙ length-append (block change) after, block_length change)

pub one_list : (changes other : List Change) → All IsLawful changes → All IsLawful other → blocks changes ≡ blocks other → changes ≡ other
one_list [] [] one two e = refl
one_list [] (d ∷ ds) one two e = absurd (some_block d (blocks ds) e)
one_list (c ∷ cs) [] one two e = absurd (some_block c (blocks cs) (sym e))
one_list (c ∷ cs) (d ∷ ds) one two e =
    let both = block_unique c d (blocks cs) (blocks ds) (All-head IsLawful c cs one) (All-head IsLawful d ds two) e in
    let first = both.0 in
    let others = one_list cs ds (All-tail IsLawful c cs one) (All-tail IsLawful d ds two) both.1 in
    cc

pub no_blocks : (changes : List Change) → blocks changes ≡ [] → changes ≡ []
no_blocks [] e = refl
no_blocks (c ∷ cs) e = absurd (some_block c (blocks cs) (sym e))

take_of_none : (n : ℕ) (xs : List ℕ) → xs ≡ [] → take n xs ≡ []
take_of_none zero xs e = refl
take_of_none (suc n) [] e = refl
take_of_none (suc n) (x ∷ xs) e = absurd (cc)

empty_log : (files : Image) → AreLogsEmpty files → (first : Bool) → files (if first then Log0 else Log1) ≡ []
empty_log files empty true = empty.0
empty_log files empty false = empty.1

-- empty logs have nothing marked
pub empty_part : (files : Image) (mark : MarkState) → AreLogsEmpty files → marked_part mark files ≡ []
empty_part files mark empty = take_of_none mark.log_length (files (log_file mark.log)) (empty_log files empty _)

pub empty_list : (files : Image) (mark : MarkState) (changes : List Change) → AreLogsEmpty files → StandByMark files mark changes → changes ≡ []
empty_list files mark changes empty stands = no_blocks changes (sym stands.bytes ∙ empty_part files mark empty)

-- files have one valid mark at most
pub one_mark : (files : Image) (mark other : MarkState) → valid_mark (files Mark) ≡ Some mark → valid_mark (files Mark) ≡ Some other → mark ≡ other
one_mark files mark other one two = let both : Some mark ≡ Some other = sym one ∙ two in cc

-- and so one part of a log that counts
pub one_part : (files : Image) (mark other : MarkState) → valid_mark (files Mark) ≡ Some mark → valid_mark (files Mark) ≡ Some other → marked_part mark files ≡ marked_part other files
one_part files mark other one two = ap (λ m. marked_part m files) (one_mark files mark other one two)

pub one_standing : (files : Image) (changes other : List Change) → FilesStandFor files changes → FilesStandFor files other → changes ≡ other
one_standing files changes other (inl one) (inl two) = one.1 ∙ sym two.1
one_standing files changes other (inl one) (inr two) = one.1 ∙ sym (empty_list files two.0 other one.0 two.1)
one_standing files changes other (inr one) (inl two) = empty_list files one.0 changes two.0 one.1 ∙ sym two.1
one_standing files changes other (inr one) (inr two) =
    one_list changes other one.1.list.lawful two.1.list.lawful (sym one.1.bytes ∙ one_part files one.0 two.0 one.1.valid two.1.valid ∙ two.1.bytes)

-- not both: empty logs, and a longer one
pub some_log : (files : Image) → AreLogsEmpty files → 0 < longer_log files → ⊥
some_log files empty some =
    let zero0 : length (files Log0) ≡ 0 = ap length empty.0 in
    let zero1 : length (files Log1) ≡ 0 = ap length empty.1 in
    omega arith
