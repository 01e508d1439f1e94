-- Instructions that change the active context alone.
use Rattle.std.proofs.Common.{◌≡◌, ◌∙◌, ap, sym, subst, refl, ℕ, zero, suc, pos, ◌+◌, ◌-◌, ◌+ℤ◌, ◌<◌, ℤ, List, [], ◌∷◌, Bool, true, false, length, get_or, slice_get, reverse, take, drop, Option, Some, None, arith, if◌then◌else◌}
use Rattle.std.specs.Bool.{beq}
use Rattle.std.specs.Prelude.{MatchBool}
use Rattle.s80_code.specs.declared.code.Code.{Code}
use Rattle.s80_code.specs.declared.instruction.Instruction.{Instruction}
use Rattle.s80_code.specs.declared.instruction.Instruction.TheVariants.{JumpOnFalse, JumpOnTrue, PopInto, Push, Store}
use Rattle.s80_code.specs.declared.instruction.Storage.{Storage}
use Rattle.s80_code.specs.declared.instruction.Storage.TheVariants.{Receiver, Temporary}
use Rattle.s80_code.specs.Table.{decoded}
use Rattle.s80_code.proofs.lemmas.TableLemmas.{value}
use Rattle.s80_object.specs.Objects.{State as Objects}
use Rattle.s80_object.specs.declared.value.Value.{Value}
use Rattle.s80_object.specs.declared.value.Value.TheVariants.{False, True}
use Rattle.s80_prims.specs.declared.stop.Stop.TheVariants.{NonBoolean}
use Rattle.s80_machine.specs.World.{World, Activation, with_objects, with_temporary}
use Rattle.s80_machine.specs.Turn.{Context, Goes, State, Turn, given, goes_on, place_at, stops}
use Rattle.s80_machine.specs.Shared.{decided}
use Rattle.s80_machine.specs.Turn as turn
use Rattle.s80_machine.specs.Step.{act, jump, store, turn_at}
use Rattle.s80_machine.specs.Counted.{block_in}
use Rattle.s80_machine.specs.Seen.{Given, listing}
use Rattle.s80_machine.specs.declared.quick.Quick.{Quick}
use Rattle.s80_machine.specs.Quick.{IsQuick}
use Rattle.s80_machine.specs.Stretch.{Leads, LeadsFar, LeadsOn, Local, Tries, local, stored_in, world_of}
use Rattle.s80_machine.proofs.KeptListings.{some_listed}
use Rattle.s80_machine.proofs.SeenStacks.{seen_first}

-- ---- the last of a list

read : (xs : List Value) (n : ℕ) (v : Value) → Some v ≡ slice_get xs n → (n < length xs) × (v ≡ get_or xs n v)
read [] n v e = cc
read (x ∷ xs) zero v e = (omega (arith), value e)
read (x ∷ xs) (suc n) v e = let r = read xs n v e in (omega (arith, r.0), r.1)

-- it is on top of the stack that is seen
pub on_top : (xs : List Value) (v : Value) → Some v ≡ slice_get xs (length xs - 1) → reverse xs ≡ v ∷ reverse (take (length xs - 1) xs)
on_top xs v e = let r = read xs (length xs - 1) v e in seen_first xs v (omega (arith, r.0)) r.1

-- ---- which instruction

pub tries_as : (on : Given) (code : Code) (i j : Instruction) (next : ℕ) (old new : Local) (done : Bool) → i ≡ j → Tries on code j next old new done → Tries on code i next old new done
tries_as on code i j next old new done is tries = subst (λ k. Tries on code k next old new done) (sym is) tries

module _ (on : Given) (code : Code) (next ticks : ℕ) where
  -- ---- pushes

  pub stored_pushes : (c new : Context) (objects : Objects) (storage : Storage) (v : Value) (done : Bool) → ((w : World) → w.objects ≡ objects → stored_in w c storage ≡ Some v)
      → MatchBool done (new ≡ record c { place = next; stack = v ∷ c.stack }) (new ≡ c) → Tries on code (Push storage) next (local c objects ticks) (local new objects ticks) done
  stored_pushes c new objects storage v false told h = ap (λ c. local c objects ticks) h
  stored_pushes c new objects storage v true told h =
      subst (λ (n : Context). Leads on code (Push storage) next (local c objects ticks) (local n objects ticks)) (sym h)
      (record { method = refl; step = λ rest w. by_storage storage rest (world_of (local c objects ticks) w) (told (world_of (local c objects ticks) w) refl) })
    where
      by_storage : (storage : Storage) (rest : List Context) (w : World) → stored_in w c storage ≡ Some v
          → act on.table on.methods on.code on.budget code c next rest w (Push storage) ≡ goes_on c next (v ∷ c.stack) rest w
      by_storage (Receiver i) rest w is = ap (λ o. given o (λ v. goes_on c next (v ∷ c.stack) rest w)) is
      by_storage (Temporary i) rest w is = ap (λ o. given o (λ v. goes_on c next (v ∷ c.stack) rest w)) is
      by_storage _ rest w is = cc

  -- ---- the top

  module _ (a old : Context) (shows : a ≡ old) (xs : List Value) (stack : a.stack ≡ reverse xs) (v : Value) (top : Some v ≡ slice_get xs (length xs - 1)) where
    abbrev below : List Value
    below = reverse (take (length xs - 1) xs)

    seen : a.stack ≡ v ∷ below
    seen = stack ∙ on_top xs v top

    module _ (i : ℕ) (activation : Activation) (objects changed : Objects) (told : (w : World) → with_temporary (with_objects w objects) a.activation i v ≡ Some (with_objects w changed, activation)) where
      stores : (left : List Value) (rest : List Context) (w : World)
          → store on.table on.methods on.code on.budget code a next rest (world_of (local a objects ticks) w) (Temporary i) v left
          ≡ goes_on (record a { activation = activation }) next left rest (world_of (local a changed ticks) w)
      stores left rest w = ap (λ o. given o (λ (p : World × Activation). goes_on (record a { activation = p.1 }) next left rest p.0)) (told (record w { ticks = ticks }))

      pub top_stored : Leads on code (Store (Temporary i)) next (local old objects ticks) (local (record a { activation = activation; place = next }) changed ticks)
      top_stored =
          subst (λ (c : Context). Leads on code (Store (Temporary i)) next (local c objects ticks) (local (record a { activation = activation; place = next }) changed ticks)) shows
          (record {
            method = refl;
            step = λ rest w.
                ap (λ s. turn.popped s (λ v below. store on.table on.methods on.code on.budget code a next rest (world_of (local a objects ticks) w) (Temporary i) v (v ∷ below))) seen
                ∙ stores (v ∷ below) rest w ∙ ap (λ s. goes_on (record a { activation = activation }) next s rest (world_of (local a changed ticks) w)) (sym seen);
          })

      pub top_moved : (ys : List Value) → ys ≡ take (length xs - 1) xs
          → Leads on code (PopInto (Temporary i)) next (local old objects ticks) (local (record a { activation = activation; place = next; stack = reverse ys }) changed ticks)
      top_moved ys is =
          subst (λ (c : Context). Leads on code (PopInto (Temporary i)) next (local c objects ticks) (local (record a { activation = activation; place = next; stack = reverse ys }) changed ticks)) shows
          (record {
            method = refl;
            step = λ rest w.
                ap (λ s. turn.popped s (store on.table on.methods on.code on.budget code a next rest (world_of (local a objects ticks) w) (Temporary i))) seen
                ∙ stores below rest w ∙ ap (λ zs. goes_on (record a { activation = activation }) next (reverse zs) rest (world_of (local a changed ticks) w)) (sym is);
          })

    -- ---- jumps

    decided_as : (v : Value) (t : Bool) (a b n : Turn) → Some t ≡ decided v (Some true) (Some false) None → decided v a b n ≡ (if t then a else b)
    decided_as True t a b n e = sym (ap (λ x. if x then a else b) (value e))
    decided_as False t a b n e = sym (ap (λ x. if x then a else b) (value e))
    decided_as _ t a b n e = cc

    module _ (objects : Objects) (distance : ℤ) (t : Bool) (decides : Some t ≡ decided v (Some true) (Some false) None) (place : ℕ) where
      jumps : (s : List Value) (rest : List Context) (w : World) → Some place ≡ place_at (pos next +ℤ distance) → jump on.table on.methods on.code on.budget distance a next s rest w ≡ goes_on a place s rest w
      jumps s rest w is = ap (λ o. given o (λ to. goes_on a to s rest w)) (sym is)

      by_wanted : (wanted t : Bool) (s : List Value) (rest : List Context) (w : World) → Some place ≡ (if beq t wanted then place_at (pos next +ℤ distance) else Some next)
          → (if t then (if wanted then jump on.table on.methods on.code on.budget distance a next s rest w else goes_on a next s rest w) else (if wanted then goes_on a next s rest w else jump on.table on.methods on.code on.budget distance a next s rest w))
          ≡ goes_on a place s rest w
      by_wanted true true s rest w is = jumps s rest w is
      by_wanted false false s rest w is = jumps s rest w is
      by_wanted true false s rest w is = ap (λ n. goes_on a n s rest w) (sym (value is))
      by_wanted false true s rest w is = ap (λ n. goes_on a n s rest w) (sym (value is))

      abbrev chooses : Bool → List Context → World → Value → List Value → Turn
      chooses wanted rest w v s =
          decided v (if wanted then jump on.table on.methods on.code on.budget distance a next s rest w else goes_on a next s rest w)
          (if wanted then goes_on a next s rest w else jump on.table on.methods on.code on.budget distance a next s rest w) (stops NonBoolean w)

      acts : (wanted : Bool) (rest : List Context) (w : World)
          → act on.table on.methods on.code on.budget code a next rest w (if wanted then JumpOnTrue distance else JumpOnFalse distance) ≡ turn.popped a.stack (chooses wanted rest w)
      acts true rest w = refl
      acts false rest w = refl

      pub decided_leads : (wanted : Bool) (ys : List Value) → Some place ≡ (if beq t wanted then place_at (pos next +ℤ distance) else Some next) → ys ≡ take (length xs - 1) xs
          → Leads on code (if wanted then JumpOnTrue distance else JumpOnFalse distance) next (local old objects ticks) (local (record a { place = place; stack = reverse ys }) objects ticks)
      decided_leads wanted ys to is =
          subst (λ (c : Context). Leads on code (if wanted then JumpOnTrue distance else JumpOnFalse distance) next (local c objects ticks) (local (record a { place = place; stack = reverse ys }) objects ticks)) shows
          (record {
            method = refl;
            step = λ rest w0.
                let w = world_of (local a objects ticks) w0 in
                acts wanted rest w ∙ ap (λ s. turn.popped s (chooses wanted rest w)) seen
                ∙ decided_as v t (if wanted then jump on.table on.methods on.code on.budget distance a next below rest w else goes_on a next below rest w)
                (if wanted then goes_on a next below rest w else jump on.table on.methods on.code on.budget distance a next below rest w) (stops NonBoolean w) decides
                ∙ by_wanted wanted t below rest w to ∙ ap (λ zs. goes_on a place (reverse zs) rest w) (sym is);
          })

-- ---- so many instructions

pub record KeepsOn (q : Quick) (entries : List (Option (Instruction × ℕ))) (old new : Local) : Type 0 where
  pub stays : block_in new.context.activation ≡ block_in old.context.activation
  pub goes : (on : Given) (code : Code) → IsQuick on q → entries ≡ listing code.bytes → (n : ℕ) × LeadsFar on code n old new

module _ (q : Quick) (entries : List (Option (Instruction × ℕ))) where
  pub keeps_first : (l : Local) → KeepsOn q entries l l
  keeps_first l = record { stays = refl; goes = λ on code same listed. (0, refl) }

  module _ (old mid new : Local) (keeps : KeepsOn q entries old mid) (i : Instruction) (width next : ℕ) (there : slice_get entries mid.context.place ≡ Some (Some (i, width))) (sum : next ≡ mid.context.place + width)
      (stays : block_in new.context.activation ≡ block_in mid.context.activation) (done : Bool) (tries : (on : Given) (code : Code) → IsQuick on q → Tries on code i next mid new done) where
    leads_on : (on : Given) (code : Code) → entries ≡ listing code.bytes → Leads on code i next mid new → LeadsOn on code mid new
    leads_on on code listed leads =
        let is : decoded (drop mid.context.place code.bytes) ≡ Some (i, width) = some_listed code.bytes mid.context.place (Some (i, width)) (ap (λ es. slice_get es mid.context.place) (sym listed) ∙ there) in
        record {
          method = leads.method;
          step = λ rest w.
              ap (turn_at on.table on.methods on.code on.budget mid.context rest (world_of mid w) code) is
              ∙ ap (λ to. act on.table on.methods on.code on.budget code mid.context to rest (world_of mid w) i) (sym sum) ∙ leads.step rest w;
        }

    pub keeps_more : KeepsOn q entries old new
    keeps_more = record { stays = stays ∙ keeps.stays; goes = λ on code same listed. by_done on code listed (keeps.goes on code same listed) done (tries on code same) }
      where
        by_done : (on : Given) (code : Code) → entries ≡ listing code.bytes → (n : ℕ) × LeadsFar on code n old mid → (done : Bool) → Tries on code i next mid new done → (n : ℕ) × LeadsFar on code n old new
        by_done on code listed (n, far) false same = (n, subst (LeadsFar on code n old) (sym same) far)
        by_done on code listed (n, far) true leads = (suc n, (mid, far, leads_on on code listed leads))
