-- The value of a dictionary by its slots, as its methods cite it.
use Rattle.std.proofs.Common.{◌≡◌, ◌∙◌, ℕ, ◌+◌, ◌-◌, ◌≤◌, arith, Bool, cond, true, false, not, refl, sym, ap, ap₂, subst, Option, Some, None, is_some, true≢false, zero, suc}
use Rattle.std.specs.List.{IsDistinct}
use Rattle.std.specs.Map.{lookup, set_value, keys_of}
use Rattle.std.specs.FinMap as map
use Rattle.std.specs.Int.{from_bool}
use Rattle.indexmap.specs.IndexMap.{insert_entry}
use Rattle.s80_dict.specs.Dict.{Bytes, has_room}
use Rattle.s80_dict.specs.declared.dict.MethodEntry.{MethodEntry}
use Rattle.s80_dict.specs.Slots.{DictValue, IsSound, same_bytes, methods_of, room_of}
use Rattle.s80_dict.proofs.SlotLemmas.{R, o, Key, Slots, at_key, flat, get-methods_of, room_lookup, methods_put, room-set_value, methods_taken, methods_absent, filled-added, room-added, room-kept, none_found, one_more, present}

module _ {C : Type 0} (es : Slots (MethodEntry C)) (d : DictValue (MethodEntry C)) (shows : record { methods = methods_of es; room = room_of es } ≡ d) where
  -- ---- what is found

  pub get_is : (q q' : Bytes) (r : Option (Option (MethodEntry C))) → q' ≡ q → IsDistinct same_bytes (keys_of es) → r ≡ lookup (at_key q') es → flat r ≡ map.get d.methods q
  get_is q q' r key distinct found =
      ap flat found ∙ sym (get-methods_of q' es distinct) ∙ ap₂ (λ (m : DictValue (MethodEntry C)) k. map.get m.methods k) shows key

  pub there_is : (q q' : Bytes) → q' ≡ q → has_room d.room q ≡ true → is_some (lookup (at_key q') es) ≡ true
  there_is q q' key room = sym (room_lookup q' es) ∙ ap₂ (λ (m : DictValue (MethodEntry C)) k. has_room m.room k) shows key ∙ room

  pub put_is : (q q' : Bytes) (v : MethodEntry C) (es' : Slots (MethodEntry C)) → q' ≡ q → is_some (lookup (at_key q') es) ≡ true → es' ≡ set_value (at_key q') es (Some v)
      → methods_of es' ≡ map.insert d.methods q v
  put_is q q' v es' key there is = ap methods_of is ∙ methods_put q' v es there ∙ ap₂ (λ (m : DictValue (MethodEntry C)) k. map.insert m.methods k v) shows key

  pub room_is : (q' : Bytes) (x : Option (MethodEntry C)) (es' : Slots (MethodEntry C)) → es' ≡ set_value (at_key q') es x → room_of es' ≡ d.room
  room_is q' x es' is = ap room_of is ∙ room-set_value q' x es ∙ ap (λ (m : DictValue (MethodEntry C)). m.room) shows

  pub taken_is : (q q' : Bytes) (es' : Slots (MethodEntry C)) → q' ≡ q → IsDistinct same_bytes (keys_of es) → es' ≡ set_value (at_key q') es None → methods_of es' ≡ map.remove d.methods q
  taken_is q q' es' key distinct is = ap methods_of is ∙ methods_taken q' es distinct ∙ ap₂ (λ (m : DictValue (MethodEntry C)) k. map.remove m.methods k) shows key

  pub absent_is : (q q' : Bytes) → q' ≡ q → IsDistinct same_bytes (keys_of es) → None ≡ lookup (at_key q') es → methods_of es ≡ map.remove d.methods q
  absent_is q q' key distinct absent = methods_absent q' es distinct (sym absent) ∙ ap₂ (λ (m : DictValue (MethodEntry C)) k. map.remove m.methods k) shows key

  -- ---- a selector more that has room

  pub room_same : room_of es ≡ d.room
  room_same = ap (λ (m : DictValue (MethodEntry C)). m.room) shows

  pub has_is : (q q' : Bytes) → q' ≡ q → true ≡ is_some (lookup (at_key q') es) → has_room d.room q ≡ true
  has_is q q' key there = sym (ap₂ (λ (m : DictValue (MethodEntry C)) k. has_room m.room k) shows key) ∙ room_lookup q' es ∙ sym there

  module _ (k : Key) (es' : Slots (MethodEntry C)) (is : es' ≡ insert_entry same_bytes es k None) where
    pub added_methods : (q' : Bytes) → q' ≡ k.items → false ≡ is_some (lookup (at_key q') es) → methods_of es' ≡ d.methods
    added_methods q' key absent =
        let none : lookup (at_key k.items) es ≡ None = subst (λ (q : Bytes). lookup (at_key q) es ≡ None) key (none_found _ (sym absent)) in
        ap methods_of is ∙ ap map.from_entries (filled-added k es none) ∙ ap (λ (m : DictValue (MethodEntry C)). m.methods) shows

    pub added_room : (q : Bytes) → k.items ≡ q → has_room (room_of es') q ≡ true
    added_room q key = ap₂ (λ (xs : Slots (MethodEntry C)) p. has_room (room_of xs) p) is (sym key) ∙ room-added k None es

    pub kept_room : (q : Bytes) → has_room d.room q ≡ true → has_room (room_of es') q ≡ true
    kept_room q h = ap (λ (xs : Slots (MethodEntry C)). has_room (room_of xs) q) is ∙ room-kept k q None es (ap (λ (m : DictValue (MethodEntry C)). has_room m.room q) shows ∙ h)

  -- ---- every selector of the map has room

  pub has_room_is : IsDistinct same_bytes (keys_of es) → (k : Bytes) → is_some (map.get d.methods k) ≡ true → has_room d.room k ≡ true
  has_room_is distinct k there = has_is k k refl (sym (present _ (ap is_some (get_is k k _ refl distinct refl) ∙ there)))

  -- ---- how many are filled

  pub count_is : (n : ℕ) → IsSound es n → n ≡ map.len d.methods
  count_is n sound = sound.counted ∙ ap (λ (m : DictValue (MethodEntry C)). map.len m.methods) shows

  pub sound_put : (q : Bytes) (v : MethodEntry C) (es' : Slots (MethodEntry C)) (before : Option (MethodEntry C)) (is_new : Bool) (n : ℕ) → IsSound es n → before ≡ map.get d.methods q → is_some before ≡ not is_new
      → methods_of es' ≡ map.insert d.methods q v → IsDistinct same_bytes (keys_of es') → IsSound es' (n + from_bool is_new)
  sound_put q v es' before is_new n sound was told is distinct = record {
    distinct = distinct;
    counted = sym (ap (λ b. cond b n (n + 1)) told ∙ one_more is_new n) ∙ ap₂ (λ (r : Option (MethodEntry C)) m. cond (is_some r) m (m + 1)) was (count_is n sound)
        ∙ sym (ap map.len is ∙ map.len-insert o d.methods q v);
  }

  pub sound_taken : (q : Bytes) (es' : Slots (MethodEntry C)) (before : Option (MethodEntry C)) (n : ℕ) → IsSound es n → before ≡ map.get d.methods q
      → methods_of es' ≡ map.remove d.methods q → IsDistinct same_bytes (keys_of es') → IsSound es' (cond (is_some before) (n - 1) n)
  sound_taken q es' before n sound was is distinct = record {
    distinct = distinct;
    counted = ap₂ (λ (r : Option (MethodEntry C)) m. cond (is_some r) (m - 1) m) was (count_is n sound)
        ∙ sym (ap map.len is ∙ map.len-remove o d.methods q);
  }

  pub some_filled : (q : Bytes) (v : MethodEntry C) (n : ℕ) → IsSound es n → Some v ≡ map.get d.methods q → 1 ≤ n
  some_filled q v n sound was =
      elim n as (λ m. n ≡ m → 1 ≤ m) [
        | zero ↦ λ none. absurd (true≢false (ap is_some (was ∙ ap (λ m. map.get m q) (map.empty_of_len d.methods (sym (count_is n sound) ∙ none)) ∙ map.get-empty R q)))
        | suc m ↦ λ _. omega arith
      ] refl

  pub sound_same : (es' : Slots (MethodEntry C)) (n : ℕ) → IsSound es n → methods_of es' ≡ d.methods → IsDistinct same_bytes (keys_of es') → IsSound es' n
  sound_same es' n sound is distinct = record { distinct = distinct; counted = count_is n sound ∙ sym (ap map.len is) }
