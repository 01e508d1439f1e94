-- What stretches of instructions do of the items of Arrays.
use Rattle.std.proofs.Common.{◌≡◌, ◌∙◌, ◌==◌, ap, ap₂, sym, subst, refl, ℕ, suc, ◌+◌, ◌<◌, ◌≤◌, List, [], ◌∷◌, true, false, length, get_or, set, reverse, take, slice_get, nat_lt, Option, Some, None, unwrap_or, arith, if◌then◌else◌, IsTrue}
use Rattle.std.specs.Option.{option_map_or}
use Rattle.std.proofs.lemmas.Bool.Decides.{nat_tests}
use Rattle.std.proofs.lemmas.List.{take_all, take_more_set}
use Rattle.s80_base.specs.declared.names.Side.TheVariants.{Instance}
use Rattle.s80_class.specs.Lookup.{Found, IsFound, Place, first_found, places_up}
use Rattle.s80_class.specs.Table.{Table}
use Rattle.s80_code.specs.Special.{special_selectors}
use Rattle.s80_code.specs.declared.code.Code.{Code}
use Rattle.s80_code.specs.declared.instruction.Instruction.TheVariants.{SendSpecial}
use Rattle.s80_dict.specs.declared.dict.MethodEntry.{MethodEntry}
use Rattle.s80_object.specs.Objects.{State as Objects}
use Rattle.s80_object.specs.declared.value.Value.{Value}
use Rattle.s80_object.specs.declared.value.Value.TheVariants.{ClassRef}
use Rattle.s80_prims.specs.Classes.{class_of}
use Rattle.s80_prims.specs.Primitives.{World as Reached, done, primitive}
use Rattle.s80_prims.specs.declared.stop.Stop.TheVariants.{Budget}
use Rattle.s80_machine.specs.World.{World, Key, changed, method, one_tick, reached}
use Rattle.s80_machine.specs.Turn.{Context, Turn, given, goes_on, message_off, stops, waiting}
use Rattle.s80_machine.specs.Shared.{Block, at_once, block_with, does_not_understand, is_value}
use Rattle.s80_machine.specs.Step.{activated, block_activated, by_effect, by_primitive, found_turn, performed, places_for, places_of, sent, special_turn}
use Rattle.s80_machine.specs.declared.quick.Quick.{Quick}
use Rattle.s80_machine.specs.Quick.{FindsPrimitive, IsArray, IsQuick, Puts}
use Rattle.s80_machine.specs.Seen.{FoundCode, Given}
use Rattle.s80_machine.specs.Stretch.{Leads, local, world_of}
use Rattle.s80_machine.proofs.CameAtOnce.{no_integers}
use Rattle.s80_machine.proofs.SeenStacks.{answered, last_first, one_more_first, turned}

-- ---- what a message finds

pub finds_primitive : (on : Given) (class n p : ℕ) (selector : List ℕ) (g : FoundCode) → Some selector ≡ slice_get special_selectors n
    → IsFound (first_found on.methods selector (places_up on.table class Instance)) (Some g) → g.entry.now.code.primitive ≡ p → FindsPrimitive on class n p
finds_primitive on class n p selector g named found is = go (first_found on.methods selector (places_up on.table class Instance)) refl found
  where
    go : (o : Option (Found (MethodEntry Code))) → first_found on.methods selector (places_up on.table class Instance) ≡ o → IsFound o (Some g) → FindsPrimitive on class n p
    go None e found = absurd found
    go (Some f) e found = record { selector = selector; found = f; named = sym named; finds = e; is = sym (ap (λ (x : MethodEntry Code). x.code.primitive) found.2) ∙ is }

-- ---- a message that finds a primitive

module _ (on : Given) (class n p : ℕ) (f : FindsPrimitive on class n p) (no_block : (p == 81) ≡ false) (no_message : (p == 83) ≡ false) (c : Context) (next : ℕ) (rest : List Context) (w : World)
    (r : Value) (arguments stack : List Value) where
  abbrev below : List Context
  below = waiting c next stack ∷ rest

  abbrev key : Key
  key = method f.found.class f.found.side f.selector

  abbrev otherwise : Turn
  otherwise = activated on.table on.methods on.code on.budget key f.found.entry.code r arguments below (one_tick w)

  abbrev activates : Block → Turn
  activates b = block_activated on.table on.methods on.code on.budget b arguments below w

  abbrev asks : World → Option Turn
  asks = performed on.table on.methods on.code on.budget r arguments below

  abbrev sends : List ℕ → Turn
  sends selector = sent on.table on.methods on.code on.budget (places_for on.table on.methods on.code on.budget w r) selector r arguments below w

  abbrev along : List Place → World → Turn
  along places = found_turn on.table on.methods on.code on.budget (first_found on.methods f.selector places) (first_found on.methods does_not_understand places) asks f.selector r arguments below

  abbrev by_number : ℕ → Turn
  by_number k =
      if k == 81
      then option_map_or (λ b. block_activated on.table on.methods on.code on.budget b arguments below (one_tick w)) (block_with w.objects r (length arguments)) otherwise
      else (if k == 83 then unwrap_or (asks (one_tick w)) otherwise else by_primitive on.table on.methods on.code on.budget k r arguments otherwise below (one_tick w))

  pub answers : None ≡ at_once on.table w.objects n r arguments → is_value n ≡ false → class_of on.table w.objects r ≡ ClassRef class Instance → w.ticks < on.budget
      → (v : Value) (after : Reached) → primitive on.table p r arguments (reached (one_tick w)) ≡ done after v
      → special_turn on.table on.methods on.code on.budget n c next rest w r arguments stack ≡ goes_on c next (v ∷ stack) rest (changed (one_tick w) after)
  answers none plain is_class less v after effect =
      ap (λ o. option_map_or (λ v. goes_on c next (v ∷ stack) rest w) o
      (option_map_or activates (if is_value n then block_with w.objects r (length arguments) else None) (given (slice_get special_selectors n) sends))) (sym none)
      ∙ ap (λ b. option_map_or activates (if b then block_with w.objects r (length arguments) else None) (given (slice_get special_selectors n) sends)) plain
      ∙ ap (λ o. given o sends) f.named
      ∙ ap (λ b. if b then along (places_for on.table on.methods on.code on.budget w r) (one_tick w) else stops (Budget on.budget) w) some
      ∙ ap (λ k. along (places_of on.table on.methods on.code on.budget k) (one_tick w)) is_class
      ∙ ap (λ o. found_turn on.table on.methods on.code on.budget o (first_found on.methods does_not_understand (places_up on.table class Instance)) asks f.selector r arguments below (one_tick w)) f.finds
      ∙ ap by_number f.is
      ∙ ap (λ b. if b
      then option_map_or (λ b. block_activated on.table on.methods on.code on.budget b arguments below (one_tick w)) (block_with w.objects r (length arguments)) otherwise
      else (if p == 83 then unwrap_or (asks (one_tick w)) otherwise else by_primitive on.table on.methods on.code on.budget p r arguments otherwise below (one_tick w))) no_block
      ∙ ap (λ b. if b then unwrap_or (asks (one_tick w)) otherwise else by_primitive on.table on.methods on.code on.budget p r arguments otherwise below (one_tick w)) no_message
      ∙ ap (λ e. by_effect on.table on.methods on.code on.budget e.applied (changed (one_tick w) e.world) otherwise below (one_tick w)) effect
    where
      some : nat_lt w.ticks on.budget ≡ true
      some = grind (arith, nat_tests, less)

-- ---- items in a stretch

module _ (on : Given) (code : Code) (next ticks more : ℕ) (q : Quick) (quick : IsQuick on q) (a old : Context) (shows : a ≡ old) (xs : List Value) (stack : a.stack ≡ reverse xs) (below : ℕ)
    (within : ticks < q.budget) (counted : more ≡ suc ticks) where
  abbrev deep : List Value
  deep = reverse (take below xs)

  less : ticks < on.budget
  less = subst (λ b. ticks < b) (sym quick.budget) within

  pub item_read_leads : below + 2 ≡ length xs → (array place v : Value) → array ≡ get_or xs below array → place ≡ get_or xs (below + 1) place → (objects : Objects) → IsTrue q.reads → IsArray q.array objects array
      → ((t : Table) (w : Reached) → w.objects ≡ objects → primitive t 60 array (place ∷ []) w ≡ done w v) → (ys : List Value) → ys ≡ take (below + 1) (set xs below v)
      → Leads on code (SendSpecial 16) next (local old objects ticks) (local (record a { place = next; stack = reverse ys }) objects more)
  item_read_leads all array place v array_is place_is objects reads is_array effect ys is =
      subst (λ (c : Context). Leads on code (SendSpecial 16) next (local c objects ticks) (local (record a { place = next; stack = reverse ys }) objects more)) shows
      (record {
        method = refl;
        step = λ rest w0.
            let w = world_of (local a objects ticks) w0 in
            ap (λ s. message_off 1 [] s (special_turn on.table on.methods on.code on.budget 16 a next rest w)) seen
            ∙ answers on q.array 16 60 (quick.reads reads) refl refl a next rest w array (place ∷ []) deep (no_integers 16 refl array place) refl (is_array on.table) less v (reached (one_tick w)) (effect on.table (reached (one_tick w)) refl)
            ∙ ap₂ (λ s n. goes_on a next s rest (world_of (local a objects n) w0)) (sym (answered xs below all v ys is)) (sym counted);
      })
    where
      seen : a.stack ≡ place ∷ (array ∷ deep)
      seen = stack ∙ turned xs below all place array ∙ ap₂ (λ p r. p ∷ (r ∷ deep)) (sym place_is) (sym array_is)

  pub item_put_leads : below + 3 ≡ length xs → (array place to : Value) → array ≡ get_or xs below array → place ≡ get_or xs (below + 1) place → to ≡ get_or xs (below + 2) to
      → (objects new : Objects) → Puts q array place to objects ticks new more → (ys : List Value) → ys ≡ take (below + 1) (set xs below to)
      → Leads on code (SendSpecial 17) next (local old objects ticks) (local (record a { place = next; stack = reverse ys }) new more)
  item_put_leads all array place to array_is place_is to_is objects new puts ys is =
      subst (λ (c : Context). Leads on code (SendSpecial 17) next (local c objects ticks) (local (record a { place = next; stack = reverse ys }) new more)) shows
      (record {
        method = refl;
        step = λ rest w0.
            let w = world_of (local a objects ticks) w0 in
            ap (λ s. message_off 2 [] s (special_turn on.table on.methods on.code on.budget 17 a next rest w)) seen
            ∙ answers on q.array 17 61 (quick.puts puts.puts) refl refl a next rest w array (place ∷ to ∷ []) deep refl refl (puts.is_array on.table) less to (record (reached (one_tick w)) { objects = new })
            (puts.effect on.table (reached (one_tick w)) refl)
            ∙ ap₂ (λ s n. goes_on a next s rest (world_of (local a new n) w0)) (sym left) (sym counted);
      })
    where
      first : below < length xs
      first = omega (arith, all)

      second : below + 1 < length xs
      second = omega (arith, all)

      third : below + 2 < length xs
      third = omega (arith, all)

      long : length xs ≤ (below + 2) + 1
      long = omega (arith, all)

      same : below + 2 ≡ (below + 1) + 1
      same = omega (arith)

      seen : a.stack ≡ to ∷ (place ∷ (array ∷ deep))
      seen =
          stack ∙ ap reverse (sym (take_all ((below + 2) + 1) xs long)) ∙ one_more_first xs (below + 2) to third to_is
          ∙ ap (λ l. to ∷ l) (ap (λ n. reverse (take n xs)) same ∙ one_more_first xs (below + 1) place second place_is ∙ ap (λ l. place ∷ l) (one_more_first xs below array first array_is))

      left : reverse ys ≡ to ∷ deep
      left = ap reverse (is ∙ take_more_set xs below to first) ∙ last_first (take below xs) to
