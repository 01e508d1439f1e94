-- Where a crash by a choice puts the choice's bytes.
use Rattle.std.proofs.Common.{◌≡◌, ◌≢◌, ⊎_elim, ℕ, ◌+◌, ◌-◌, ◌<◌, ◌≤◌, min, Bool, true, false, IsTrue, MatchBool, List, ◌∷◌, length, take, drop, get_or, refl, sym, ◌∙◌, ap, subst, arith, length-take, length-drop}
use Rattle.std.specs.Prelude.{◌&&◌, nat_le}
use Rattle.std.specs.List.{IsAfterLastMatch, list_all}
use Rattle.std.proofs.lemmas.Bool.{cases_Bool, cases_lt, MatchBool-at_true, MatchBool-at_false, both_ways, leb-true, and_parts}
use Rattle.std.proofs.lemmas.List.Recursion.{and_at}
use Rattle.std.proofs.lemmas.List.{take_min, get_or_default, get_or-take, get_or-drop}
use Rattle.s80_disk.specs.declared.disk.FileId.{FileId}
use Rattle.s80_disk.specs.declared.recorded.Recorded.{Recorded}
use Rattle.s80_disk.specs.declared.recorded.Recorded.TheVariants.{Write, Cut, Sync, Told}
use Rattle.s80_disk.specs.Image.{Image, Torn, CutShort, OnFile}
use Rattle.s80_disk.specs.Five.{same_file}
use Rattle.s80_disk.specs.History.{Event, event_of, history, is_within, contents, leaves}
use Rattle.s80_disk.specs.History.Event.{PieceAt, CutTo, Synced, Counted}
use Rattle.s80_disk.specs.Laws.{same_self, same_is}
use Rattle.s80_disk.specs.Crash.{any_byte, MayHold, Spreads, Scattered, Tears, syncs}
use Rattle.s80_disk.proofs.Held.{history_more, StepOf, may_hold_step, may_hold_contents, settled}

-- two lists that agree on a front or a back
front_same : (xs ys : List ℕ) (n k : ℕ) → take n xs ≡ take n ys → k < n → get_or xs k 0 ≡ get_or ys k 0
front_same xs ys n k same lt = sym (get_or-take n xs k 0 lt) ∙ ap (λ (l : List ℕ). get_or l k 0) same ∙ get_or-take n ys k 0 lt

back_same : (xs ys : List ℕ) (n k : ℕ) → drop n xs ≡ drop n ys → n ≤ k → get_or xs k 0 ≡ get_or ys k 0
back_same xs ys n k same le =
    let is : n + (k - n) ≡ k = omega arith in
    let at : get_or xs (n + (k - n)) 0 ≡ get_or ys (n + (k - n)) 0 = sym (get_or-drop n xs (k - n) 0) ∙ ap (λ (l : List ℕ). get_or l (k - n) 0) same ∙ get_or-drop n ys (k - n) 0 in
    let P : ℕ → Type 0 = λ j. get_or xs j 0 ≡ get_or ys j 0 in subst P is at

-- where this byte isn't the choice's, the other bytes reach and have it
abbrev Certain : ℕ → List ℕ → List ℕ → ℕ → Type 0
Certain choice bytes others place = get_or bytes place 0 ≢ any_byte choice place → (place < length others) × (get_or others place 0 ≡ get_or bytes place 0)

module _ (choice : ℕ) (old new d c : List ℕ) (longest : length d ≤ length old) (certain : (place : ℕ) → place < length old → Certain choice old d place) where
  -- the same at a place that a step left alone
  kept_certain : (place : ℕ) → place < length old → get_or new place 0 ≡ get_or old place 0 → ((place < length d) → (place < length c) × (get_or c place 0 ≡ get_or d place 0)) → Certain choice new c place
  kept_certain place within same step ne =
      let before = certain place within (λ is. ne (same ∙ is)) in
      let after = step before.0 in
      (after.0, after.1 ∙ before.1 ∙ sym same)

  torn_certain : (at n : ℕ) → Scattered choice at (at + n) old new → Torn at n d c → (place : ℕ) → place < length new → Certain choice new c place
  torn_certain at n scattered torn place within =
      ⊎_elim front (λ behind. ⊎_elim (middle behind) back (cases_lt place (at + n))) (cases_lt place (min at (length old)))
    where
      front : place < min at (length old) → Certain choice new c place
      front lt = kept_certain place (omega arith) (front_same new old (min at (length old)) place scattered.before lt) (λ reaches. (omega (arith, torn.no_shorter), front_same c d (min at (length d)) place torn.before (omega arith)))

      middle : min at (length old) ≤ place → place < at + n → Certain choice new c place
      middle behind lt ne = absurd (ne (scattered.here place behind lt))

      back : at + n ≤ place → Certain choice new c place
      back le = kept_certain place (omega (arith, scattered.length_is)) (back_same new old (at + n) place scattered.after le) (λ reaches. (omega (arith, torn.no_shorter), back_same c d (at + n) place torn.after le))

  cut_certain : (n : ℕ) → Scattered choice n (length old) old new → CutShort n d c → (place : ℕ) → place < length new → Certain choice new c place
  cut_certain n scattered short place within =
      ⊎_elim front behind (cases_lt place (min n (length old)))
    where
      front : place < min n (length old) → Certain choice new c place
      front lt = kept_certain place (omega arith) (front_same new old (min n (length old)) place scattered.before lt) (λ reaches. (omega (arith, short.no_shorter), front_same c d n place short.front (omega arith)))

      behind : min n (length old) ≤ place → Certain choice new c place
      behind le ne = absurd (ne (scattered.here place le (omega (arith, scattered.length_is))))

module _ (first : Image) (events : List Event) (pieces : List ℕ) (room : ℕ) (file : FileId) (choice : ℕ) (old new : List ℕ) (before : Spreads choice (leaves first events) file old) where
  -- a file that stayed
  stayed : (now : Image → Type 0) → ((c : Image) → now c → (d : Image) × leaves first events d × (c file ≡ d file)) → new ≡ old → Spreads choice now file new
  stayed now from is = record {
    longest = λ c left. let d = from c left in omega (arith, ap length is, ap length d.2, before.longest d.0 d.1);
    certain = λ c place left within ne.
        let d = from c left in
        let same : get_or new place 0 ≡ get_or old place 0 = ap (λ (l : List ℕ). get_or l place 0) is in
        let was = before.certain d.0 place d.1 (omega (arith, ap length is)) (λ e. ne (same ∙ e)) in
        (omega (arith, was.0, ap length d.2), ap (λ (l : List ℕ). get_or l place 0) d.2 ∙ was.1 ∙ sym same);
  }

  -- a file that was torn
  spread_torn : (other : FileId) (at n : ℕ) → other ≡ file → Scattered choice at (at + n) old new → Spreads choice (λ c. (d : Image) × leaves first events d × OnFile other (Torn at n) d c) file new
  spread_torn other at n is scattered = subst (λ (f : FileId). Spreads choice (λ c. (d : Image) × leaves first events d × OnFile f (Torn at n) d c) file new) (sym is) (record {
    longest = λ c left. omega (arith, before.longest left.0 left.1, left.2.here.no_longer, scattered.length_is);
    certain = λ c place left within. torn_certain choice old new (left.0 file) (c file) (before.longest left.0 left.1) (λ p. before.certain left.0 p left.1) at n scattered left.2.here place within;
  })

  spread_cut : (other : FileId) (n : ℕ) → other ≡ file → Scattered choice n (length old) old new → Spreads choice (λ c. (d : Image) × leaves first events d × OnFile other (CutShort n) d c) file new
  spread_cut other n is scattered = subst (λ (f : FileId). Spreads choice (λ c. (d : Image) × leaves first events d × OnFile f (CutShort n) d c) file new) (sym is) (record {
    longest = λ c left. omega (arith, before.longest left.0 left.1, left.2.here.no_longer, scattered.length_is);
    certain = λ c place left within. cut_certain choice old new (left.0 file) (c file) (before.longest left.0 left.1) (λ p. before.certain left.0 p left.1) n scattered left.2.here place within;
  })

  piece_size : (at from size : ℕ) → IsTrue (nat_le (from + size) (length pieces) && nat_le (at + size) room) → length (take size (drop from pieces)) ≡ size
  piece_size at from size h =
      let fits : from + size ≤ length pieces = leb-true (from + size) (length pieces) (and_parts (nat_le (from + size) (length pieces)) (nat_le (at + size) room) h).0 in
      omega (arith, length-take size (drop from pieces), length-drop from pieces)

  differs_from : (other : FileId) → same_file other file ≡ false → file ≢ other
  differs_from other e is = both_ways (same_file other file) e (ap (same_file other) is ∙ same_self other)

  -- the choice's bytes spread by one call more
  pub spread_step : (call : Recorded) → IsTrue (is_within (length pieces) room call) → Tears choice file call old new → Spreads choice (leaves first (event_of pieces call ∷ events)) file new
  spread_step (Write other at from size) within tears =
      let n : ℕ = length (take size (drop from pieces)) in
      let is : n ≡ size = piece_size at from size within in
      ⊎_elim
      (λ e. spread_torn other at n (same_is other file e) (subst (λ (k : ℕ). Scattered choice at (at + k) old new) (sym is) (MatchBool-at_true (Scattered choice at (at + size) old new) (new ≡ old) e tears)))
      (λ e. stayed (leaves first (PieceAt other at (take size (drop from pieces)) ∷ events)) (λ c left. (left.0, left.1, left.2.others file (differs_from other e))) (MatchBool-at_false (Scattered choice at (at + size) old new) (new ≡ old) e tears))
      (cases_Bool (same_file other file))
  spread_step (Cut other to) within tears =
      ⊎_elim
      (λ e. spread_cut other to (same_is other file e) (MatchBool-at_true (Scattered choice to (length old) old new) (new ≡ old) e tears))
      (λ e. stayed (leaves first (CutTo other to ∷ events)) (λ c left. (left.0, left.1, left.2.others file (differs_from other e))) (MatchBool-at_false (Scattered choice to (length old) old new) (new ≡ old) e tears))
      (cases_Bool (same_file other file))
  spread_step (Sync other) within tears = stayed (leaves first (Synced other ∷ events)) (λ c left. (c, left.0, refl)) tears
  spread_step (Told count) within tears = stayed (leaves first (Counted count ∷ events)) (λ c left. (c, left, refl)) tears

  torn_by : (at n : ℕ) → Scattered choice at (at + n) old new → Torn at n old new
  torn_by at n scattered = record { before = scattered.before; after = scattered.after; no_shorter = omega (arith, scattered.length_is); no_longer = omega (arith, scattered.length_is) }

  cut_by : (n : ℕ) → Scattered choice n (length old) old new → CutShort n old new
  cut_by n scattered =
      let same : length new ≡ length old = omega (arith, scattered.length_is) in
      record {
        front = sym (take_min n new) ∙ ap (λ (k : ℕ). take (min n k) new) same ∙ scattered.before ∙ take_min n old;
        no_shorter = omega (arith, same);
        no_longer = omega (arith, same);
      }

  match_first : (b : Bool) (P P' Q : Type 0) → (P → P') → MatchBool b P Q → MatchBool b P' Q
  match_first true P P' Q f h = f h
  match_first false P P' Q f h = h

  -- which is a step that a crash may leave
  pub tears_step : (call : Recorded) → IsTrue (is_within (length pieces) room call) → syncs file call ≡ false → Tears choice file call old new → StepOf file (event_of pieces call) old new
  tears_step (Write other at from size) within none tears =
      let n : ℕ = length (take size (drop from pieces)) in
      match_first (same_file other file) (Scattered choice at (at + size) old new) (Torn at n old new) (new ≡ old) (λ scattered. torn_by at n (subst (λ (k : ℕ). Scattered choice at (at + k) old new) (sym (piece_size at from size within)) scattered)) tears
  tears_step (Cut other to) within none tears = match_first (same_file other file) (Scattered choice to (length old) old new) (CutShort to old new) (new ≡ old) (cut_by to) tears
  tears_step (Sync other) within none tears = (none, tears)
  tears_step (Told count) within none tears = tears

-- what a file may hold by so many calls, and how the choice's bytes are spread over it
pub record Stands (first : Image) (events : List Event) (file : FileId) (choice : ℕ) (bytes : List ℕ) : Type 0 where
  pub held : MayHold first events file bytes
  pub spread : Spreads choice (leaves first events) file bytes

module _ (first : Image) (pieces : List ℕ) (file : FileId) (choice : ℕ) (calls : List Recorded) (n : ℕ) (within : n ≤ length calls) (last : IsAfterLastMatch (syncs file) calls n) where
  pub stands_first : Stands first (history pieces (take n calls)) file choice (contents first (history pieces (take n calls)) file)
  stands_first =
      let same = settled first pieces file calls n within last in
      record {
        held = may_hold_contents first (history pieces (take n calls)) file;
        spread = record {
          longest = λ c left. omega (arith, ap length (same c left));
          certain = λ c place left lt ne. (omega (arith, ap length (same c left)), ap (λ (l : List ℕ). get_or l place 0) (same c left));
        };
      }

  pub stands_more : (room i : ℕ) (d : Recorded) (old new : List ℕ) → IsTrue (list_all (is_within (length pieces) room) calls) → i < length (take (length calls - n) (drop n calls)) → Tears choice file (get_or (take (length calls - n) (drop n calls)) i d) old new → Stands first (history pieces (take (n + i) calls)) file choice old → Stands first (history pieces (take (n + (i + 1)) calls)) file choice new
  stands_more room i d old new all lt tears before =
      let call : Recorded = get_or calls (n + i) d in
      let lt' : i < length calls - n = omega (arith, length-take (length calls - n) (drop n calls), length-drop n calls) in
      let read : get_or (take (length calls - n) (drop n calls)) i d ≡ call = get_or-take (length calls - n) (drop n calls) i d lt' ∙ get_or-drop n calls i d in
      let torn : Tears choice file call old new = subst (λ (x : Recorded). Tears choice file x old new) read tears in
      let fits : IsTrue (is_within (length pieces) room call) = and_at (list_all (is_within (length pieces) room)) (is_within (length pieces) room) refl (λ x xs. refl) calls (n + i) d (omega arith) all in
      let none : syncs file call ≡ false = last.0 (n + i) d (omega arith) (omega arith) in
      let sum : n + i + 1 ≡ n + (i + 1) = omega arith in
      let is : event_of pieces call ∷ history pieces (take (n + i) calls) ≡ history pieces (take (n + (i + 1)) calls) = sym (history_more pieces calls (n + i) call (omega arith) (get_or_default calls (n + i) d call (omega arith))) ∙ ap (λ (k : ℕ). history pieces (take k calls)) sum in
      let events : List Event = history pieces (take (n + i) calls) in
      subst (λ (l : List Event). Stands first l file choice new) is (record {
        held = may_hold_step first events file (event_of pieces call) old new (tears_step first events pieces room file choice old new before.spread call fits none torn) before.held;
        spread = spread_step first events pieces room file choice old new before.spread call fits torn;
      })
