-- What an outside shows after a call of its disk, its source, its sink or its clock.
use Rattle.std.proofs.Common.{◌≡◌, ℕ, Bool, List, sym, ap, ◌∙◌}
use Rattle.std.specs.Prelude.{Option}
use Rattle.s80_disk.specs.declared.disk.FileId.{FileId}
use Rattle.s80_disk.specs.Image.{Image}
use Rattle.s80_disk.specs.Moments.{Beside}
use Rattle.s80_disk.specs.Keeps.{FilesStay, InputStays, OutputStays}
use Rattle.s80_disk.specs.Shown.{Shown, Faults}

module _ {O : Type 0} {tells : O → Bool} {reads : O → Image} {left taken : O → Option (List ℕ)} {told : O → ℕ} {seconds : O → Option ℕ} {read write : O → ℕ} {beside : O → Beside} {shown : O → Shown}
    (beside_is : (o : O) → beside o ≡ record { left = left o; taken = taken o; told = told o; read_faults = read o; write_faults = write o; seconds = seconds o })
    (shown_is : (o : O) → shown o ≡ record { tells = tells o; files = reads o; left = left o; taken = taken o; told = told o; seconds = seconds o }) where
  -- the bytes told are those that are shown
  pub told_beside : (o : O) → (beside o).told ≡ (shown o).told
  told_beside o = ap (λ b. b.told) (beside_is o) ∙ sym (ap (λ s. s.told) (shown_is o))

  -- a call of the disk changes nothing that is shown but the files
  pub but_for_files : (o p : O) → tells p ≡ tells o → beside p ≡ beside o → shown p ≡ record (shown o) { files = (shown p).files }
  but_for_files o p tells_same same =
      let b = sym (beside_is p) ∙ same ∙ beside_is o in
      rw (shown_is o, shown_is p) (λ i. record { tells = tells_same i; files = reads p; left = (b i).left; taken = (b i).taken; told = (b i).told; seconds = (b i).seconds })

  -- nothing that is shown changes
  pub nothing_shown : (o p : O) → tells p ≡ tells o → ((file : FileId) → reads p file ≡ reads o file) → beside p ≡ beside o → shown p ≡ shown o
  nothing_shown o p tells_same reads_same same =
      let b = sym (beside_is p) ∙ same ∙ beside_is o in
      rw (shown_is o, shown_is p) (λ i. record { tells = tells_same i; files = λ file. reads_same file i; left = (b i).left; taken = (b i).taken; told = (b i).told; seconds = (b i).seconds })

  module _ {disk : O → ℕ} {may_leave : O → Image → Type 0} {moment : O → ℕ} {left_since : O → ℕ → ℕ → Image → Type 0} where
    -- a take changes nothing that is shown but what is left of the input
    pub but_for_left : (o p : O) → FilesStay tells reads may_leave moment left_since disk beside o p → OutputStays (beside o) (beside p) → shown p ≡ record (shown o) { left = (shown p).left }
    but_for_left o p files output =
        let u = sym (ap (λ b. b.taken) (beside_is p)) ∙ output.taken ∙ ap (λ b. b.taken) (beside_is o) in
        let v = sym (ap (λ b. b.told) (beside_is p)) ∙ output.told ∙ ap (λ b. b.told) (beside_is o) in
        let w = sym (ap (λ b. b.seconds) (beside_is p)) ∙ output.seconds ∙ ap (λ b. b.seconds) (beside_is o) in
        rw (shown_is o, shown_is p) (λ i. record { tells = files.tells_same i; files = λ file. files.reads_same file i; left = left p; taken = u i; told = v i; seconds = w i })

    -- a put changes nothing that is shown but the output
    pub but_for_output : (o p : O) → FilesStay tells reads may_leave moment left_since disk beside o p → InputStays (beside o) (beside p) → shown p ≡ record (shown o) { taken = (shown p).taken; told = (shown p).told }
    but_for_output o p files input =
        let u = sym (ap (λ b. b.left) (beside_is p)) ∙ input.left ∙ ap (λ b. b.left) (beside_is o) in
        let w = sym (ap (λ b. b.seconds) (beside_is p)) ∙ input.seconds ∙ ap (λ b. b.seconds) (beside_is o) in
        rw (shown_is o, shown_is p) (λ i. record { tells = files.tells_same i; files = λ file. files.reads_same file i; left = u i; taken = taken p; told = told p; seconds = w i })

module _ {O : Type 0} {left taken : O → Option (List ℕ)} {told : O → ℕ} {seconds : O → Option ℕ} {read write disk : O → ℕ} {beside : O → Beside} {faults : O → Faults}
    (beside_is : (o : O) → beside o ≡ record { left = left o; taken = taken o; told = told o; read_faults = read o; write_faults = write o; seconds = seconds o })
    (faults_is : (o : O) → faults o ≡ record { read = read o; write = write o; disk = disk o }) where
  -- a call of the disk fails there alone
  pub but_for_disk : (o p : O) → beside p ≡ beside o → faults p ≡ record (faults o) { disk = (faults p).disk }
  but_for_disk o p same =
      let b = sym (beside_is p) ∙ same ∙ beside_is o in
      rw (faults_is o, faults_is p) (λ i. record { read = (b i).read_faults; write = (b i).write_faults; disk = disk p })

  -- a take fails at the input alone
  pub but_for_read : (o p : O) → disk p ≡ disk o → OutputStays (beside o) (beside p) → faults p ≡ record (faults o) { read = (faults p).read }
  but_for_read o p still output =
      let v = sym (ap (λ b. b.write_faults) (beside_is p)) ∙ output.write_faults ∙ ap (λ b. b.write_faults) (beside_is o) in
      rw (faults_is o, faults_is p) (λ i. record { read = read p; write = v i; disk = still i })

  -- a put fails at the output alone
  pub but_for_write : (o p : O) → disk p ≡ disk o → InputStays (beside o) (beside p) → faults p ≡ record (faults o) { write = (faults p).write }
  but_for_write o p still input =
      let v = sym (ap (λ b. b.read_faults) (beside_is p)) ∙ input.read_faults ∙ ap (λ b. b.read_faults) (beside_is o) in
      rw (faults_is o, faults_is p) (λ i. record { read = v i; write = write p; disk = still i })

  -- the clock doesn't fail
  pub no_fault : (o p : O) → disk p ≡ disk o → beside p ≡ beside o → faults p ≡ faults o
  no_fault o p still same =
      let b = sym (beside_is p) ∙ same ∙ beside_is o in
      rw (faults_is o, faults_is p) (λ i. record { read = (b i).read_faults; write = (b i).write_faults; disk = still i })
