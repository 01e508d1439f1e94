-- The parts of a list that are read: its change set, and its base block by block.
use Rattle.std.proofs.Common.{◌≡◌, ◌∙◌, ℕ, ◌+◌, ◌<◌, ◌≤◌, List, [], ◌∷◌, ◌++◌, length, Result, Ok, Err, refl, sym, ap, subst, arith, append_assoc, append-nil, length-append}
use Rattle.std.proofs.lemmas.Grind.{flat_map-append}
use Rattle.s80_change.specs.declared.change.Change.{Change}
use Rattle.s80_change.specs.Block.{block, blocks}
use Rattle.s80_base.specs.Causes.{Rose}
use Rattle.s80_disk.specs.Image.{Image}
use Rattle.s80_disk.specs.Shown.{Faults}
use Rattle.s80_joining.specs.declared.base.Base.{Base}
use Rattle.s80_joining.specs.Base.{IsBaseOf}
use Rattle.s80_keeper.specs.declared.keep.KeepFault.{KeepFault}
use Rattle.s80_keeper.specs.declared.keep.KeepFault.TheVariants as faults
use Rattle.s80_keeper.specs.Answers.{IfKeepDisk, UnlessKeepDisk}
use Rattle.s80_keeper.specs.ChangesAt.{ArePlaced, IsPlacedAt}
use Rattle.s80_keeper.specs.Keeper.{KeeperState}
use Rattle.s80_keeper.specs.Source.{IsThis, after_reading}
use Rattle.s80_keeper.proofs.OneList.{block_length}
use Rattle.s80_session.specs.Putting.{IsAsBefore}

-- ---- what isn't read

-- that the log is full is never told
pub never_full : (T : Type 0) (places : List ℕ) (result : Result T KeepFault) → ArePlaced places result → (count : ℕ) → result ≡ Err (faults.Full count) → ⊥
never_full T places result placed count is = let P : Result T KeepFault → Type 0 = λ r. ArePlaced places r in subst P is placed

pub never_full_at : (T : Type 0) (at : ℕ) (result : Result T KeepFault) → IsPlacedAt at result → (count : ℕ) → result ≡ Err (faults.Full count) → ⊥
never_full_at T at result placed count is = let P : Result T KeepFault → Type 0 = λ r. IsPlacedAt at r in subst P is placed

-- what was to be read isn't known, whatever it is
pub unread_so : (T U : Type 0) (one : T) (other : U) (fault : KeepFault) → IsThis one (Err fault) → IsThis other (Err fault)
unread_so T U one other faults.Memory this = tt
unread_so T U one other (faults.Disk failed) this = tt
unread_so T U one other (faults.Closed failed) this = tt
unread_so T U one other (faults.Full count) this = absurd this
unread_so T U one other (faults.Damaged damage) this = absurd this

-- the keeper is left so, whatever was to be read
pub left_so : (T U : Type 0) (fault : KeepFault) (keeper : KeeperState) → after_reading {T = T} (Err fault) keeper ≡ after_reading {T = U} (Err fault) keeper
left_so T U faults.Memory keeper = refl
left_so T U (faults.Disk failed) keeper = refl
left_so T U (faults.Closed failed) keeper = refl
left_so T U (faults.Full count) keeper = refl
left_so T U (faults.Damaged damage) keeper = refl

-- what is answered at a fault, whatever was to be read
abbrev pub failed_so : (T : Type 0) → KeepFault → Result T KeepFault
failed_so T fault = Err fault

fault_same : (T : Type 0) (one other : KeepFault) → failed_so T one ≡ failed_so T other → one ≡ other
fault_same T one other e = cc

pub fails_so : (T U : Type 0) (one other : KeepFault) → failed_so T one ≡ failed_so T other → failed_so U one ≡ failed_so U other
fails_so T U one other e = ap (failed_so U) (fault_same T one other e)

-- ---- calls that read, one behind another

pub read_on : (before mid : Image → Type 0) (first then_told : ℕ) → then_told ≡ first → ((c : Image) → mid c → before c) → (told : ℕ) (c : Image) → IsAsBefore mid then_told 0 told c → IsAsBefore before first 0 told c
read_on before mid first then_told same less told c h = record { no_fewer = omega (arith, h.no_fewer, same); no_more = omega (arith, h.no_more, same); was = less c h.was }

-- ---- block by block

-- a front of the changes was read up to this place, and this is their base
pub record HasReadTo (base : Base) (changes : List Change) (at : ℕ) : Type 0 where
  pub done : List Change
  pub rest : List Change
  pub all : changes ≡ done ++ rest
  pub here : at ≡ length (blocks done)
  pub base_is : IsBaseOf base done

pub none_read : (base : Base) (changes : List Change) → IsBaseOf base [] → HasReadTo base changes 0
none_read base changes none = record { done = []; rest = changes; all = refl; here = refl; base_is = none }

-- there is a change behind those that were read: it is read, or isn't known
record IsNext (changes done : List Change) (result : Result (Change × ℕ) KeepFault) : Type 0 where
  change : Change
  behind : List Change
  all : changes ≡ done ++ change ∷ behind
  read : IsThis (change, length (blocks (done ++ change ∷ []))) result

-- how long all blocks are
blocks_by : (changes done : List Change) (change : Change) (behind : List Change) → changes ≡ done ++ change ∷ behind → length (blocks changes) ≡ length (blocks done) + (length (block change) + length (blocks behind))
blocks_by changes done change behind all =
    let n = ap (λ l. length (blocks l)) all ∙ ap length (flat_map-append block done (change ∷ behind)) ∙ length-append (blocks done) (block change ++ blocks behind) in
    n ∙ ap (λ k. length (blocks done) + k) (length-append (block change) (blocks behind))

-- what reading a block answers, where P is what the keeper knows
module _ (P : List Change → Type 0) (changes : List Change) (knows : P changes) (at end : ℕ) (end_is : end ≡ length (blocks changes)) (result : Result (Change × ℕ) KeepFault) (reads : (before behind : List Change) (change : Change) → P (before ++ change ∷ behind) → at ≡ length (blocks before) → IsThis (change, length (blocks (before ++ change ∷ []))) result) where
  next_by : (done rest : List Change) → at < end → changes ≡ done ++ rest → at ≡ length (blocks done) → IsNext changes done result
  next_by done [] within all here = absurd (let n = ap (λ l. length (blocks l)) (all ∙ append-nil done) in omega (arith, n, here, end_is, within))
  next_by done (change ∷ behind) within all here = record { change = change; behind = behind; all = all; read = reads done behind change (subst P all knows) here }

pub more_read : (P : List Change → Type 0) (changes : List Change) → P changes → (at end : ℕ) → end ≡ length (blocks changes) → at < end → (found : Change × ℕ)
    → ((before behind : List Change) (change : Change) → P (before ++ change ∷ behind) → at ≡ length (blocks before) → IsThis (change, length (blocks (before ++ change ∷ []))) (Ok found))
    → (base now : Base) → HasReadTo base changes at → ((list : List Change) → IsBaseOf base list → IsBaseOf now (list ++ found.0 ∷ [])) → HasReadTo now changes found.1
more_read P changes knows at end end_is within found reads base now h takes =
    let n = next_by P changes knows at end end_is (Ok found) reads h.done h.rest within h.all h.here in
    let same : found.0 ≡ n.change = ap (λ (p : Change × ℕ). p.0) n.read in
    record {
      done = h.done ++ n.change ∷ [];
      rest = n.behind;
      all = n.all ∙ sym (append_assoc h.done (n.change ∷ []) n.behind);
      here = ap (λ (p : Change × ℕ). p.1) n.read;
      base_is = subst (λ c. IsBaseOf now (h.done ++ c ∷ [])) same (takes h.done h.base_is);
    }

-- where a block isn't known, nothing is
pub none_known : (P : List Change → Type 0) (changes : List Change) → P changes → (at end : ℕ) → end ≡ length (blocks changes) → at < end → (fault : KeepFault)
    → ((before behind : List Change) (change : Change) → P (before ++ change ∷ behind) → at ≡ length (blocks before) → IsThis {T = Change × ℕ} (change, length (blocks (before ++ change ∷ []))) (Err fault))
    → (base : Base) → HasReadTo base changes at → (wanted : List Change) → IsThis wanted (Err fault)
none_known P changes knows at end end_is within fault reads base h wanted =
    let n = next_by P changes knows at end end_is (Err fault) reads h.done h.rest within h.all h.here in
    unread_so (Change × ℕ) (List Change) (n.change, length (blocks (h.done ++ n.change ∷ []))) wanted fault n.read

-- behind the last block all were read
all_by : (changes done rest : List Change) (at end : ℕ) → changes ≡ done ++ rest → at ≡ length (blocks done) → end ≡ length (blocks changes) → end ≤ at → changes ≡ done
all_by changes done [] at end all here end_is past = all ∙ append-nil done
all_by changes done (change ∷ behind) at end all here end_is past = absurd (let n = blocks_by changes done change behind all in let some = block_length change in omega (arith, n, some, here, end_is, past))

pub all_read : (base : Base) (changes : List Change) (at end : ℕ) → HasReadTo base changes at → end ≡ length (blocks changes) → end ≤ at → IsBaseOf base changes
all_read base changes at end h end_is past = subst (IsBaseOf base) (sym (all_by changes h.done h.rest at end h.all h.here end_is past)) h.base_is

-- ---- the counts of faults

pub cause_so : (T U : Type 0) (fault : KeepFault) (first before now : ℕ) → before ≡ first → IfKeepDisk {T = T} (Err fault) (λ failed. Rose before now) → IfKeepDisk {T = U} (Err fault) (λ failed. Rose first now)
cause_so T U faults.Memory first before now same cause = tt
cause_so T U (faults.Disk failed) first before now same cause = subst (λ n. Rose n now) same cause
cause_so T U (faults.Closed failed) first before now same cause = tt
cause_so T U (faults.Full count) first before now same cause = tt
cause_so T U (faults.Damaged damage) first before now same cause = tt

pub stay_so : (T U : Type 0) (fault : KeepFault) (first before now : ℕ) → before ≡ first → UnlessKeepDisk {T = T} (Err fault) (now ≡ before) → UnlessKeepDisk {T = U} (Err fault) (now ≡ first)
stay_so T U faults.Memory first before now same stay = stay ∙ same
stay_so T U (faults.Disk failed) first before now same stay = tt
stay_so T U (faults.Closed failed) first before now same stay = stay ∙ same
stay_so T U (faults.Full count) first before now same stay = stay ∙ same
stay_so T U (faults.Damaged damage) first before now same stay = stay ∙ same

pub counted_so : (before now : Faults) → now ≡ before → now ≡ record before { disk = now.disk }
counted_so before now same = subst (λ (f : Faults). f ≡ record before { disk = f.disk }) (sym same) refl
