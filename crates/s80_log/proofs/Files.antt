-- Files that stand for a list, and what a write past the marked part leaves of them.
use Rattle.std.proofs.Common.{◌≡◌, ◌≢◌, ℕ, zero, suc, ◌+◌, ◌-◌, ◌≤◌, min, Bool, true, false, List, [], ◌∷◌, ◌++◌, length, take, drop, sym, ap, ◌∙◌, arith, append-nil, length-append, length-take, if◌then◌else◌}
use Rattle.std.proofs.lemmas.List.{take-append-drop, take-append-le}
use Rattle.std.proofs.lemmas.Grind.{flat_map-append}
use Rattle.std.proofs.lemmas.List.Elements.{All-push}
use Rattle.std.proofs.Math.Seq.{take-add}
use Rattle.s80_change.specs.declared.change.Change.{Change}
use Rattle.s80_change.specs.Block.{block, blocks, log_limit, IsLawful, IsList}
use Rattle.s80_disk.specs.declared.disk.FileId.{FileId}
use Rattle.s80_disk.specs.declared.disk.FileId.TheVariants.{Mark, Log0, Log1}
use Rattle.s80_disk.specs.Image.{Image, Wrote, Torn, OnFile}
use Rattle.s80_mark.specs.declared.mark.MarkState.{MarkState}
use Rattle.s80_log.specs.Log.{log_file}
use Rattle.s80_log.specs.Standing.{marked_part, FilesStandFor}

either_is_no_mark : (b : Bool) → (if b then Log0 else Log1) ≡ Mark → ⊥
either_is_no_mark true e = cc
either_is_no_mark false e = cc

-- a log isn't the mark file
pub log_is_no_mark : (number : ℕ) → Mark ≡ log_file number → ⊥
log_is_no_mark number e = either_is_no_mark _ (sym e)

-- the two logs are two files
pub logs_differ : (number : ℕ) → number ≤ 1 → log_file number ≡ log_file (1 - number) → ⊥
logs_differ zero le e = cc
logs_differ (suc zero) le e = cc
logs_differ (suc (suc number)) le e = omega (arith, le)

-- where another file changes, the marked part stays
pub part_elsewhere : (mark : MarkState) (file : FileId) (change : List ℕ → List ℕ → Type 0) (d c : Image) → log_file mark.log ≢ file → OnFile file change d c → marked_part mark c ≡ marked_part mark d
part_elsewhere mark file change d c ne step = ap (take mark.log_length) (step.others (log_file mark.log) ne)

-- what is read of the mark and of the marked part is all that counts
pub stands_on : (files other : Image) (mark : MarkState) (changes : List Change) → FilesStandFor files mark changes → other Mark ≡ files Mark → marked_part mark other ≡ marked_part mark files → FilesStandFor other mark changes
stands_on files other mark changes stands same_mark same_part =
    record { valid = rw same_mark stands.valid; numbers = stands.numbers; list = stands.list; whole = stands.whole; bytes = same_part ∙ stands.bytes; counted = stands.counted }

take_shorter : (k m : ℕ) (xs : List ℕ) → k ≤ length (take m xs) → take k (take m xs) ≡ take k xs
take_shorter k m xs le = sym (take-append-le k (take m xs) (drop m xs) le) ∙ ap (take k) (take-append-drop m xs)

-- bytes before the place of a write stay
pub torn_front : (k at n : ℕ) (old new : List ℕ) → Torn at n old new → k ≤ at → k ≤ length old → take k new ≡ take k old
torn_front k at n old new torn le within =
    let m = min at (length old) in
    let old_long : k ≤ length (take m old) = rw length-take (omega arith) in
    let new_long : k ≤ length (take m new) = rw torn.before old_long in
    sym (take_shorter k m new new_long) ∙ ap (take k) torn.before ∙ take_shorter k m old old_long

-- a list whose first k bytes are k has them
pub has_all : (k : ℕ) (xs ys : List ℕ) → take k xs ≡ ys → k ≡ length ys → k ≤ length xs
has_all k xs ys e n = let m = simp length-take at (ap length e) in omega arith

-- what is written at a place stands behind what stood before it
pub wrote_behind : (at : ℕ) (piece old new : List ℕ) → Wrote at piece old new → at ≤ length old → take (at + length piece) new ≡ take at old ++ piece
wrote_behind at piece old new wrote within =
    let m : min at (length old) ≡ at = omega arith in
    let front : take at new ≡ take at old = rw m at wrote.before in
    take-add at (length piece) new ∙ ap (λ l. l ++ take (length piece) (drop at new)) front ∙ ap (λ l. take at old ++ l) wrote.here

-- one change more
pub blocks_more : (changes : List Change) (change : Change) → blocks (changes ++ change ∷ []) ≡ blocks changes ++ block change
blocks_more changes change = flat_map-append block changes (change ∷ []) ∙ ap (λ l. blocks changes ++ l) (append-nil (block change))

pub list_more : (changes : List Change) (change : Change) (at n : ℕ) → IsList changes → IsLawful change → at ≡ length (blocks changes) → n ≡ length (block change) → at + n ≤ log_limit → IsList (changes ++ change ∷ [])
list_more changes change at n list lawful whole size within = record {
  lawful = All-push IsLawful changes change list.lawful lawful;
  within = rw (blocks_more changes change, length-append) (omega arith);
}
