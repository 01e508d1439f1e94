-- The other log, begun while this one counts.
use Rattle.std.proofs.Common.{◌≡◌, ℕ, ◌-◌, ◌≤◌, Bool, List, [], refl, sym, ap, ◌∙◌, subst, arith}
use Rattle.std.proofs.lemmas.List.Elements.{All-nil}
use Rattle.s80_change.specs.declared.change.Change.{Change}
use Rattle.s80_change.specs.Block.{IsLawful}
use Rattle.s80_disk.specs.Image.{Image, CutShort, OnFile}
use Rattle.s80_mark.specs.declared.mark.MarkState.{MarkState}
use Rattle.s80_log.specs.Log.{LogEnd, log_file}
use Rattle.s80_log.specs.Standing.{marked_part, FilesStandFor, StandsFor}
use Rattle.s80_log.specs.Commit.{HoldsBeside}
use Rattle.s80_log.proofs.Files.{logs_differ, part_elsewhere}

module _ (mark : MarkState) (kept : List Change) (which : ℕ) (named : mark.log ≡ which) (within : which ≤ 1) where
  -- a cut of the other log leaves the marked part
  pub cut_elsewhere : (d c : Image) → FilesStandFor d mark kept → OnFile (log_file (1 - which)) (CutShort 0) d c → marked_part mark c ≡ marked_part mark d
  cut_elsewhere d c stands step = part_elsewhere mark (log_file (1 - which)) (CutShort 0) d c (λ e. logs_differ which within (sym (ap log_file named) ∙ e)) step

  -- from its start it reads as no block
  pub begun : (log : LogEnd) (tells : Bool) (reads : Image) (may_leave : Image → Type 0) → log ≡ record { number = 1 - which; end = 0 } → StandsFor tells reads may_leave mark kept → HoldsBeside tells reads may_leave log mark kept []
  begun log tells reads may_leave is stands =
      let P : LogEnd → Type 0 = λ l. HoldsBeside tells reads may_leave l mark kept [] in
      subst P (sym is) record {
        stands = stands;
        named = omega (arith, named, within);
        number = omega (arith, within);
        list = record { lawful = All-nil IsLawful; within = omega arith };
        whole = refl;
        bytes = refl;
      }
