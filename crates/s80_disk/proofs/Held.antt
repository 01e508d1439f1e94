-- What a crash may leave of one file, call by call.
use Rattle.std.proofs.Common.{◌≡◌, ◌≢◌, ⊎_elim, ℕ, zero, suc, ◌+◌, ◌-◌, ◌<◌, ◌≤◌, Bool, true, false, IsTrue, MatchBool, List, [], ◌∷◌, ◌++◌, length, take, drop, get_or, refl, sym, ◌∙◌, ap, subst, arith}
use Rattle.std.specs.Prelude.{if◌then◌else◌}
use Rattle.std.specs.List.{IsAfterLastMatch}
use Rattle.std.proofs.lemmas.Bool.{cases_Bool, MatchBool-at_true, MatchBool-at_false, both_ways, cond-true, cond-false}
use Rattle.std.proofs.lemmas.List.{take_more, take_all, get_or_default}
use Rattle.s80_disk.specs.declared.disk.FileId.{FileId}
use Rattle.s80_disk.specs.declared.disk.FileId.TheVariants.{Mark, Log0, Log1, Image0, Image1}
use Rattle.s80_disk.specs.declared.recorded.Recorded.{Recorded}
use Rattle.s80_disk.specs.declared.recorded.Recorded.TheVariants.{Write, Cut, Sync, Told}
use Rattle.s80_disk.specs.Image.{Image, Torn, CutShort, OnFile}
use Rattle.s80_disk.specs.Five.{same_file}
use Rattle.s80_disk.specs.History.{Event, event_of, history, contents, synced, leaves}
use Rattle.s80_disk.specs.History.Event.{PieceAt, CutTo, Synced, Counted}
use Rattle.s80_disk.specs.Laws.{same_self, same_is, differs, reads_one}
use Rattle.s80_disk.specs.Crash.{replaced, MayHold, syncs}
use Rattle.s80_disk.proofs.Mixed.{mixed, both, leaves-mixed}
use Rattle.s80_disk.proofs.Pushed.{history-push}
use Rattle.s80_disk.proofs.Steps.{untorn, uncut}

-- one call more
pub history_more : (pieces : List ℕ) (calls : List Recorded) (i : ℕ) (call : Recorded) → i < length calls → call ≡ get_or calls i call → history pieces (take (i + 1) calls) ≡ event_of pieces call ∷ history pieces (take i calls)
history_more pieces calls i call h is =
    ap (history pieces) (take_more calls i call h ∙ ap (λ (x : Recorded). take i calls ++ x ∷ []) (sym is))
    ∙ history-push pieces (take i calls) call

-- what a step makes of one file and of the images
on_replaced : (file other : FileId) (change : List ℕ → List ℕ → Type 0) (old new : List ℕ) (d c : Image) → MatchBool (same_file other file) (change old new) (new ≡ old) → OnFile other change d c → OnFile other change (replaced file old d) (replaced file new c)
on_replaced file other change old new d c h step = ⊎_elim here elsewhere (cases_Bool (same_file other file))
  where
    at_file : change old new → OnFile file change d c → OnFile file change (replaced file old d) (replaced file new c)
    at_file fits s = record {
      here = let P : Bool → Type 0 = λ b. change (if b then old else d file) (if b then new else c file) in subst P (sym (same_self file)) fits;
      others = λ o ne. let P : Bool → Type 0 = λ b. (if b then new else c o) ≡ (if b then old else d o) in subst P (sym (differs file o ne)) (s.others o ne);
    }

    here : same_file other file ≡ true → OnFile other change (replaced file old d) (replaced file new c)
    here e =
        let is : other ≡ file = same_is other file e in
        subst (λ (f : FileId). OnFile f change (replaced file old d) (replaced file new c)) (sym is) (at_file (MatchBool-at_true (change old new) (new ≡ old) e h) (subst (λ (f : FileId). OnFile f change d c) is step))

    elsewhere : same_file other file ≡ false → OnFile other change (replaced file old d) (replaced file new c)
    elsewhere e =
        let ne : other ≢ file = λ is. both_ways (same_file other file) e (ap (λ (f : FileId). same_file f file) is ∙ same_self file) in
        record {
          here = let P : Bool → Type 0 = λ b. change (if b then old else d other) (if b then new else c other) in subst P (sym (differs file other ne)) step.here;
          others = λ o ne'. both (λ x y. y ≡ x) (same_file file o) old (d o) new (c o) (MatchBool-at_false (change old new) (new ≡ old) e h) (step.others o ne');
        }

-- how the bytes of a file may change by an event
abbrev pub StepOf : FileId → Event → List ℕ → List ℕ → Type 0
StepOf file (PieceAt other at piece) old new = MatchBool (same_file other file) (Torn at (length piece) old new) (new ≡ old)
StepOf file (CutTo other to) old new = MatchBool (same_file other file) (CutShort to old new) (new ≡ old)
StepOf file (Synced other) old new = (same_file other file ≡ false) × (new ≡ old)
StepOf file (Counted count) old new = new ≡ old

pub may_hold_step : (first : Image) (events : List Event) (file : FileId) (event : Event) (old new : List ℕ) → StepOf file event old new → MayHold first events file old → MayHold first (event ∷ events) file new
may_hold_step first events file (PieceAt other at piece) old new step held c left = (replaced file old left.0, held left.0 left.1, on_replaced file other (Torn at (length piece)) old new left.0 c step left.2)
may_hold_step first events file (CutTo other to) old new step held c left = (replaced file old left.0, held left.0 left.1, on_replaced file other (CutShort to) old new left.0 c step left.2)
may_hold_step first events file (Synced other) old new step held c left =
    let ne : other ≢ file = λ is. both_ways (same_file other file) step.0 (ap (λ (f : FileId). same_file f file) is ∙ same_self file) in (
      subst (λ (l : List ℕ). leaves first events (replaced file l c)) (sym step.1) (held c left.0),
      let P : Bool → Type 0 = λ b. (if b then new else c other) ≡ contents first events other in subst P (sym (differs file other ne)) left.1,
    )
may_hold_step first events file (Counted count) old new step held c left = subst (λ (l : List ℕ). leaves first events (replaced file l c)) (sym step) (held c left)

if_same : (b : Bool) (x x' y : List ℕ) → (b ≡ true → x ≡ x') → (if b then x else y) ≡ (if b then x' else y)
if_same true x x' y h = h refl
if_same false x x' y h = refl

-- a crash may leave what is read of a file
pub may_hold_contents : (first : Image) (events : List Event) (file : FileId) → MayHold first events file (contents first events file)
may_hold_contents first events file c left =
    let same : (other : FileId) → mixed file (contents first events) c other ≡ replaced file (contents first events file) c other = λ other. if_same (same_file file other) (contents first events other) (contents first events file) (c other) (λ e. ap (contents first events) (sym (same_is file other e))) in
    subst (leaves first events) (λ i other. same other i) (leaves-mixed first file events (contents first events) c (reads_one first events) left)

-- a fact of each of the five files
pub each_file : (P : FileId → Type 0) → P Mark → P Log0 → P Log1 → P Image0 → P Image1 → (file : FileId) → P file
each_file P mark log0 log1 image0 image1 Mark = mark
each_file P mark log0 log1 image0 image1 Log0 = log0
each_file P mark log0 log1 image0 image1 Log1 = log1
each_file P mark log0 log1 image0 image1 Image0 = image0
each_file P mark log0 log1 image0 image1 Image1 = image1

-- the files, each as a crash may leave it
pub all_hold : (first : Image) (events : List Event) (image : Image) → ((file : FileId) → MayHold first events file (image file)) → leaves first events image
all_hold first events image held =
    let whole = held Image1 _ (held Image0 _ (held Log1 _ (held Log0 _ (held Mark (contents first events) (reads_one first events))))) in
    let put : Image → Image = λ c. replaced Image1 (image Image1) (replaced Image0 (image Image0) (replaced Log1 (image Log1) (replaced Log0 (image Log0) (replaced Mark (image Mark) c)))) in
    subst (leaves first events) (λ i file. each_file (λ f. put (contents first events) f ≡ image f) refl refl refl refl refl file i) whole

-- what holds before each of some calls holds after the last
along : (Q : ℕ → Type 0) (n k : ℕ) → Q n → ((i : ℕ) → n ≤ i → i < n + k → Q i → Q (i + 1)) → Q (n + k)
along Q n zero start step = subst Q (omega arith) start
along Q n (suc k) start step =
    let more : n + k + 1 ≡ n + suc k = omega arith in
    subst Q more (step (n + k) (omega arith) (omega arith) (along Q n k start (λ i le lt. step i le (omega arith))))

module _ (first : Image) (pieces : List ℕ) (file : FileId) where
  -- what holds of no event, and wherever the newest event synced the file, holds up to the last sync
  at_sync : (R : List Event → Type 0) (calls : List Recorded) (n : ℕ) → R [] → ((call : Recorded) (events : List Event) → IsTrue (syncs file call) → R (event_of pieces call ∷ events)) → n ≤ length calls → IsAfterLastMatch (syncs file) calls n → R (history pieces (take n calls))
  at_sync R calls zero none newest within last = none
  at_sync R calls (suc m) none newest within last =
      let call : Recorded = get_or calls m (Told 0) in
      let before : suc m - 1 ≡ m = omega arith in
      let more : m + 1 ≡ suc m = omega arith in
      let is_sync : IsTrue (syncs file call) = subst (λ (k : ℕ). IsTrue (syncs file (get_or calls k (Told 0)))) before (last.1 (omega arith) (Told 0)) in
      let is : history pieces (take (suc m) calls) ≡ event_of pieces call ∷ history pieces (take m calls) = ap (λ (k : ℕ). history pieces (take k calls)) (sym more) ∙ history_more pieces calls m call (omega arith) (get_or_default calls m (Told 0) call (omega arith)) in
      subst R (sym is) (newest call (history pieces (take m calls)) is_sync)

  settles : (call : Recorded) (events : List Event) → IsTrue (syncs file call) → (c : Image) → leaves first (event_of pieces call ∷ events) c → c file ≡ contents first (event_of pieces call ∷ events) file
  settles (Write other at from size) events h c left = absurd (cc h)
  settles (Cut other to) events h c left = absurd (cc h)
  settles (Sync other) events h c left = let P : FileId → Type 0 = λ f. c f ≡ contents first events f in subst P (same_is other file h) left.1
  settles (Told count) events h c left = absurd (cc h)

  -- a crash leaves of a file what it held when it was last synced, as long as no other call follows
  pub settled : (calls : List Recorded) (n : ℕ) → n ≤ length calls → IsAfterLastMatch (syncs file) calls n → (c : Image) → leaves first (history pieces (take n calls)) c → c file ≡ contents first (history pieces (take n calls)) file
  settled calls n = at_sync (λ events. (c : Image) → leaves first events c → c file ≡ contents first events file) calls n (λ c left. left file) settles

  synced_now : (call : Recorded) (events : List Event) → IsTrue (syncs file call) → synced first (event_of pieces call ∷ events) file ≡ contents first (event_of pieces call ∷ events) file
  synced_now (Write other at from size) events h = absurd (cc h)
  synced_now (Cut other to) events h = absurd (cc h)
  synced_now (Sync other) events h = cond-true (same_file other file) (contents first events file) (synced first events file) h
  synced_now (Told count) events h = absurd (cc h)

  synced_then : (call : Recorded) (events : List Event) → syncs file call ≡ false → synced first (event_of pieces call ∷ events) file ≡ synced first events file
  synced_then (Write other at from size) events h = refl
  synced_then (Cut other to) events h = refl
  synced_then (Sync other) events h = cond-false (same_file other file) (contents first events file) (synced first events file) h
  synced_then (Told count) events h = refl

  match_both : (b : Bool) (P Q : Type 0) → P → Q → MatchBool b P Q
  match_both true P Q p q = p
  match_both false P Q p q = q

  -- a call that no sync of the file is may have done nothing to it
  undone : (call : Recorded) (bytes : List ℕ) → syncs file call ≡ false → StepOf file (event_of pieces call) bytes bytes
  undone (Write other at from size) bytes h = match_both (same_file other file) (Torn at (length (take size (drop from pieces))) bytes bytes) (bytes ≡ bytes) (untorn at (length (take size (drop from pieces))) bytes) refl
  undone (Cut other to) bytes h = match_both (same_file other file) (CutShort to bytes bytes) (bytes ≡ bytes) (uncut to bytes) refl
  undone (Sync other) bytes h = (h, refl)
  undone (Told count) bytes h = refl

  -- what holds up to the last sync, and goes on at each call that doesn't sync the file, holds in the end
  after_sync : (Q : List Event → Type 0) (calls : List Recorded) (n : ℕ) → n ≤ length calls → IsAfterLastMatch (syncs file) calls n → ((call : Recorded) (events : List Event) → syncs file call ≡ false → Q events → Q (event_of pieces call ∷ events)) → Q (history pieces (take n calls)) → Q (history pieces calls)
  after_sync Q calls n within last step start =
      let k : ℕ = length calls - n in
      let all : n + k ≡ length calls = omega arith in
      let whole : take (n + k) calls ≡ calls = take_all (n + k) calls (omega arith) in
      subst (λ (l : List Recorded). Q (history pieces l)) whole (along (λ i. Q (history pieces (take i calls))) n k start (λ i le lt before. one i (last.0 i (Told 0) le (omega arith)) (omega arith) before))
    where
      one : (i : ℕ) → syncs file (get_or calls i (Told 0)) ≡ false → i < length calls → Q (history pieces (take i calls)) → Q (history pieces (take (i + 1) calls))
      one i none within' before =
          let call : Recorded = get_or calls i (Told 0) in
          subst Q (sym (history_more pieces calls i call within' (get_or_default calls i (Told 0) call within'))) (step call (history pieces (take i calls)) none before)

  -- what a file held when it was last synced may be left, and is what the definition says
  pub may_hold_synced : (calls : List Recorded) (n : ℕ) → n ≤ length calls → IsAfterLastMatch (syncs file) calls n → MayHold first (history pieces calls) file (contents first (history pieces (take n calls)) file)
  may_hold_synced calls n within last =
      let bytes : List ℕ = contents first (history pieces (take n calls)) file in
      after_sync (λ events. MayHold first events file bytes) calls n within last (λ call events h held. may_hold_step first events file (event_of pieces call) bytes bytes (undone call bytes h) held) (may_hold_contents first (history pieces (take n calls)) file)

  pub synced_is : (calls : List Recorded) (n : ℕ) → n ≤ length calls → IsAfterLastMatch (syncs file) calls n → contents first (history pieces (take n calls)) file ≡ synced first (history pieces calls) file
  synced_is calls n within last =
      let bytes : List ℕ = contents first (history pieces (take n calls)) file in
      after_sync (λ events. bytes ≡ synced first events file) calls n within last (λ call events h is. is ∙ sym (synced_then call events h)) (sym (at_sync (λ events. synced first events file ≡ contents first events file) calls n refl synced_now within last))
