-- The input of a merge, taken piece by piece, and its items into a second change set.
use Rattle.std.proofs.Common.{◌≡◌, ℕ, ◌+◌, ◌-◌, ◌≤◌, List, [], ◌∷◌, ◌++◌, length, take, drop, refl, sym, ap, subst, ◌∙◌, inl, inr, Ok, Err, Option, Some, None, Bool, false, append_assoc, arith, IfSome, IfNone}
use Rattle.std.specs.Prelude.{option_to_list}
use Rattle.std.proofs.lemmas.List.{append-nil, map-append, take_all}
use Rattle.std.proofs.lemmas.List.Elements.{All-push}
use Rattle.s80_chunk.specs.declared.item.Item.{Item}
use Rattle.s80_chunk.specs.declared.rest.Rest.{Rest}
use Rattle.s80_chunk.specs.declared.rest.Rest.TheVariants as rests
use Rattle.s80_chunk.specs.Chunks.{IsSound}
use Rattle.s80_chunk.specs.Held.{Held, EndsWith, HasRead, HoldsNoMore, fed}
use Rattle.s80_disk.specs.Image.{Image}
use Rattle.s80_disk.specs.Shown.{Shown}
use Rattle.s80_disk.specs.Moments.{LeavesOnly}
use Rattle.s80_disk.proofs.lemmas.Run.{joined, started}
use Rattle.s80_apply.specs.List.{state_of}
use Rattle.s80_apply.specs.State.{State}
use Rattle.s80_joining.specs.declared.given.Given.{Given}
use Rattle.s80_joining.specs.Given.{HasCome}
use Rattle.s80_joining.specs.Theirs.{IsGiven}
use Rattle.s80_model.specs.declared.item.SessionItem.{SessionItem}
use Rattle.s80_model.specs.declared.item.SessionItem.TheVariants.{Chunk, Unended}
use Rattle.s80_session.specs.declared.end.SessionEnd.{SessionEnd}
use Rattle.s80_session.specs.declared.end.SessionEnd.TheVariants as ends
use Rattle.s80_session.specs.Merging.{HasAll, HasSome, HasTakenIn, IsFed, IsTaking, Uncome}
use Rattle.s80_session.specs.Putting.{IsAsBefore}
use Rattle.s80_session.specs.Run.{chunks, input_limit}
use Rattle.s80_session.specs.Working.{HasReadSome, Takes}
use Rattle.s80_session.proofs.Answering.{holds_none, read_none, read_some}
use Rattle.s80_session.proofs.Finishing.{unended_items}
use Rattle.s80_session.proofs.Taking.{none_held}
use Rattle.s80_session.proofs.Works.{next_part}

-- ---- items

-- an item that a reader gives is sound
sound_item : (o : Option Item) (item : Item) (held : Held) (bytes : List ℕ) (items : List Item) → o ≡ Some item → IfSome o (λ found. (fed : List ℕ) (before : List Item) → HasRead held fed before → IsSound found) → HasRead held bytes items → IsSound item
sound_item o item held bytes items is sound read = (let P : Option Item → Type 0 = λ x. IfSome x (λ found. (fed : List ℕ) (before : List Item) → HasRead held fed before → IsSound found) in subst P is sound) bytes items read

-- an item more behind any
pub some_more : (given now : Given) (item : SessionItem) → ((state : State) (items : List SessionItem) → HasCome given state items → IsGiven item → HasCome now state (items ++ item ∷ [])) → IsGiven item → HasSome given → HasSome now
some_more given now item takes fits (list, items, all, come) = (list, items ++ item ∷ [], All-push IsGiven items item all fits, takes (state_of list) items come fits)

-- the items of these bytes so far: they may hold more
pub record IsWithin (given : Given) (reader : Held) (state : State) (bytes : List ℕ) : Type 0 where
  pub items : List Item
  pub taking : IsTaking given reader state bytes items

abbrev pub begins_within : (given : Given) (reader : Held) (state : State) (bytes : List ℕ) (items : List Item) → IsTaking given reader state bytes items → IsWithin given reader state bytes
begins_within given reader state bytes items t = record { items = items; taking = t }

-- what the reader looked for: an item, or that there is none
module _ (held reader : Held) (o : Option Item) (gives : (fed : List ℕ) (before : List Item) → HasRead held fed before → HasRead reader fed (before ++ option_to_list o)) where
  pub reads_on : (item : Item) → o ≡ Some item → HasReadSome held → HasReadSome reader
  reads_on item is (bytes, items, read) = (bytes, items ++ item ∷ [], read_some reader bytes items o item is (gives bytes items read))

  pub reads_no_more : o ≡ None → HasReadSome held → HasReadSome reader
  reads_no_more is (bytes, items, read) = (bytes, items, read_none reader bytes items o is (gives bytes items read))

  module _ (given : Given) where
    -- it is taken in
    module _ (now : Given) (item : Item) (is : o ≡ Some item) (sound : IfSome o (λ found. (fed : List ℕ) (before : List Item) → HasRead held fed before → IsSound found))
        (takes : (state : State) (items : List SessionItem) → HasCome given state items → IsGiven (Chunk item) → HasCome now state (items ++ Chunk item ∷ [])) where
      pub took_item : (state : State) (bytes : List ℕ) → IsWithin given held state bytes → IsWithin now reader state bytes
      took_item state bytes x =
          let P : List SessionItem → Type 0 = λ l. HasCome now state l in
          let read = x.taking.read in
          record {
            items = x.items ++ item ∷ [];
            taking = record {
              read = read_some reader bytes x.items o item is (gives bytes x.items read);
              come = subst P (sym (map-append Chunk x.items (item ∷ []))) (takes state (chunks x.items) x.taking.come (sound_item o item held bytes x.items is sound read));
            };
          }

      pub took_some : HasReadSome held → HasSome given → HasSome now
      took_some (bytes, items, read) some = some_more given now (Chunk item) takes (sound_item o item held bytes items is sound read) some

    -- all of them are
    pub took_all : (state : State) (bytes : List ℕ) → o ≡ None → IfNone o ((fed : List ℕ) (before : List Item) → HasRead held fed before → HoldsNoMore held.ended fed before) → reader.ended ≡ held.ended → IsWithin given held state bytes → HasTakenIn given reader state bytes
    took_all state bytes is none same x =
        let read = x.taking.read in
        record {
          items = x.items;
          taking = record { read = read_none reader bytes x.items o is (gives bytes x.items read); come = x.taking.come };
          no_more = holds_none o held reader.ended bytes x.items is none read same;
        }

-- ---- the parts of a piece

-- these parts were fed, and what is whole of them is taken in
pub record TakesParts (given : Given) (reader : Held) (state : State) (bytes : List ℕ) (first : List Item) (piece : List ℕ) (done : ℕ) : Type 0 where
  pub items : List Item
  pub taking : IsTaking given reader state (bytes ++ take done piece) items
  pub none : HoldsNoMore false bytes first → HoldsNoMore false (bytes ++ take done piece) items

module _ (state : State) (bytes : List ℕ) (first : List Item) (piece : List ℕ) where
  pub parts_start : (given : Given) (reader : Held) → IsTaking given reader state bytes first → TakesParts given reader state bytes first piece 0
  parts_start given reader t =
      let P : List ℕ → Type 0 = λ l. IsTaking given reader state l first in
      let Q : List ℕ → Type 0 = λ l. HoldsNoMore false l first in
      record {
        items = first;
        taking = subst P (sym (append-nil bytes)) t;
        none = λ none. subst Q (sym (append-nil bytes)) none;
      }

  -- a part more
  pub parts_more : (given now : Given) (had part reader : Held) (done count : ℕ) → ((fed : List ℕ) (items : List Item) → HasRead had fed items → HasRead part (fed ++ take count (take (length piece - done) (drop done piece))) items) → part.ended ≡ false → reader.ended ≡ part.ended
      → ((s : State) (fed : List ℕ) (items : List Item) → IsTaking given part s fed items → HasTakenIn now reader s fed) → TakesParts given had state bytes first piece done → TakesParts now reader state bytes first piece (done + count)
  parts_more given now had part reader done count feeds opened same took x =
      let all = bytes ++ take (done + count) piece in
      let P : List ℕ → Type 0 = λ l. HasRead part l x.items in
      let read = subst P (next_part bytes piece done count) (feeds (bytes ++ take done piece) x.items x.taking.read) in
      let t = took state all x.items (record { read = read; come = x.taking.come }) in
      let Q : Bool → Type 0 = λ b. HoldsNoMore b all t.items in
      record { items = t.items; taking = t.taking; none = λ none. subst Q (same ∙ opened) t.no_more }

  -- the whole piece
  pub parts_all : (given : Given) (reader : Held) (done : ℕ) → length piece ≤ done → reader.ended ≡ false → HoldsNoMore false bytes first → TakesParts given reader state bytes first piece done → HasTakenIn given reader state (bytes ++ piece)
  parts_all given reader done long opened none x =
      let P : List ℕ → Type 0 = λ l. HasTakenIn given reader state (bytes ++ l) in
      let Q : Bool → Type 0 = λ b. HoldsNoMore b (bytes ++ take done piece) x.items in
      subst P (take_all done piece long) (record { items = x.items; taking = x.taking; no_more = subst Q (sym opened) (x.none none) })

-- ---- the pieces of the input

-- a front of the input was fed, and what is whole of it is taken in
pub record TakesFront (given : Given) (reader : Held) (now : Shown) (state : State) (input : List ℕ) : Type 0 where
  pub bytes : List ℕ
  pub left : List ℕ
  pub items : List Item
  pub input_is : input ≡ bytes ++ left
  pub left_is : now.left ≡ Some left
  pub taking : IsTaking given reader state bytes items
  pub none : HoldsNoMore false bytes items

pub front_start : (given : Given) (reader : Held) (now : Shown) (state : State) (input : List ℕ) → now.left ≡ Some input → IsTaking given reader state [] [] → TakesFront given reader now state input
front_start given reader now state input left_is t = record { bytes = []; left = input; items = []; input_is = refl; left_is = left_is; taking = t; none = none_held }

-- no more of the input came
uncome : (end : SessionEnd) (given : Given) (held : Held) (old now : Shown) (state : State) (input buf : List ℕ) (n : ℕ) (x : TakesFront given held old state input) → fed held ≡ n → Takes (Err end) now n buf x.left → Uncome end now input
uncome (ends.Read failed) given held old now state input buf n x counted t = record { got = x.bytes; left = x.left; input_is = x.input_is; left_is = t }
uncome ends.TooLong given held old now state input buf n x counted t = record {
  got = x.bytes;
  next = t.0;
  left = t.1;
  input_is = x.input_is ∙ ap (λ (l : List ℕ). x.bytes ++ l) t.2;
  limit = sym x.taking.read.counted ∙ counted ∙ t.4;
  left_is = t.3;
}
uncome ends.Memory given held old now state input buf n x counted t = absurd t
uncome (ends.Write failed) given held old now state input buf n x counted t = absurd t
uncome (ends.Disk failed) given held old now state input buf n x counted t = absurd t
uncome (ends.Damaged damage) given held old now state input buf n x counted t = absurd t

module _ (given : Given) (held : Held) (old now : Shown) (state : State) (input buf : List ℕ) (n : ℕ) (x : TakesFront given held old state input) where
  pub front_ends : (end : SessionEnd) → fed held ≡ n → ((left : List ℕ) → old.left ≡ Some left → Takes (Err end) now n buf left) → Uncome end now input
  front_ends end counted took = uncome end given held old now state input buf n x counted (took x.left x.left_is)

  module _ (count : ℕ) (took : (left : List ℕ) → old.left ≡ Some left → Takes (Ok count) now n buf left) where
    -- a piece more
    pub front_more : (next : Given) (reader : Held) → reader.ended ≡ false → ((s : State) (fed : List ℕ) (items : List Item) → IsTaking given held s fed items → HoldsNoMore false fed items → HasTakenIn next reader s (fed ++ take count buf)) → TakesFront next reader now state input
    front_more next reader opened takes =
        let t = took x.left x.left_is in
        let h = takes state x.bytes x.items x.taking x.none in
        let P : Bool → Type 0 = λ b. HoldsNoMore b (x.bytes ++ take count buf) h.items in
        record {
          bytes = x.bytes ++ take count buf;
          left = t.0;
          items = h.items;
          input_is = x.input_is ∙ ap (λ (l : List ℕ). x.bytes ++ l) t.1 ∙ sym (append_assoc x.bytes (take count buf) t.0);
          left_is = t.2;
          taking = h.taking;
          none = subst P opened h.no_more;
        }

    -- the input is at its end
    pub front_last : (reader : Held) → count ≡ 0 → fed held ≤ input_limit → ((fed : List ℕ) (items : List Item) → HasRead held fed items → HasRead reader fed items) → IsFed given reader now state input
    front_last reader none within reads =
        let t = took x.left x.left_is in
        let nothing : x.left ≡ [] = t.1 ∙ ap (λ (k : ℕ). take k buf ++ t.0) none ∙ t.3 none in
        let input_is : input ≡ x.bytes = x.input_is ∙ ap (λ (l : List ℕ). x.bytes ++ l) nothing ∙ append-nil x.bytes in
        let P : List ℕ → Type 0 = λ l. HasRead reader l x.items in
        let size : length input ≡ fed held = ap length input_is ∙ sym x.taking.read.counted in
        record {
          items = x.items;
          taking = record { read = subst P (sym input_is) (reads x.bytes x.items x.taking.read); come = x.taking.come };
          left = t.2 ∙ ap Some (t.3 none);
          within = omega (arith, size, within);
        }

-- ---- the end of the input

-- all that is whole is taken in
module _ (given : Given) (reader : Held) (now : Shown) (state : State) (input : List ℕ) (t : HasTakenIn given reader state input) (left : now.left ≡ Some []) (within : length input ≤ input_limit) (rest : Rest) (ended : (fed : List ℕ) (items : List Item) → HasRead reader fed items → EndsWith rest fed items) where
  -- behind it stand separators alone
  pub all_clean : rest ≡ rests.Clean → HasAll given now state input
  all_clean is =
      let P : Rest → Type 0 = λ r. EndsWith r input t.items in
      let h = subst P is (ended input t.items t.taking.read) in
      record { items = chunks t.items; all = (t.items, h.0, h.1, inl (h.2, refl)); come = t.taking.come; left = left; within = within }

  -- or an item that doesn't end
  pub all_unended : (next : Given) (place : ℕ) → rest ≡ rests.Unended place → ((s : State) (items : List SessionItem) → HasCome given s items → IsGiven Unended → HasCome next s (items ++ Unended ∷ [])) → HasAll next now state input
  all_unended next place is takes =
      let P : Rest → Type 0 = λ r. EndsWith r input t.items in
      let h = subst P is (ended input t.items t.taking.read) in
      record { items = chunks t.items ++ Unended ∷ []; all = unended_items input t.items place h; come = takes state (chunks t.items) t.taking.come tt; left = left; within = within }

-- ---- what is shown, and what a crash leaves

-- the input alone is taken, and taken again
pub shown_on : (a b c : Shown) → b ≡ record a { left = b.left } → c ≡ record b { left = c.left } → c ≡ record a { left = c.left }
shown_on a b c first second = second ∙ ap (λ (s : Shown). record s { left = c.left }) first

module _ {D : Type 0} (moment : D → ℕ) (left_since : D → ℕ → ℕ → Image → Type 0) (may_leave : D → Image → Type 0) (shown : D → Shown) where
  -- no call was made
  pub as_before_start : (now : D) → ((told : ℕ) (c : Image) → left_since now (moment now) told c → may_leave now c × (told ≡ (shown now).told)) → LeavesOnly moment left_since now now (IsAsBefore (may_leave now) (shown now).told 0)
  as_before_start now only = started moment left_since now (IsAsBefore (may_leave now) (shown now).told 0) (λ told c left. let h = only told c left in record { no_fewer = omega (arith, h.1); no_more = omega (arith, h.1); was = h.0 })

  -- calls that only take, one after another
  pub as_before_on : (begun mid now : D) → shown mid ≡ record (shown begun) { left = (shown mid).left } → ((c : Image) → may_leave mid c → may_leave begun c) → LeavesOnly moment left_since begun mid (IsAsBefore (may_leave begun) (shown begun).told 0) → LeavesOnly moment left_since mid now (IsAsBefore (may_leave mid) (shown mid).told 0)
      → LeavesOnly moment left_since begun now (IsAsBefore (may_leave begun) (shown begun).told 0)
  as_before_on begun mid now same fewer first second =
      let told_same : (shown mid).told ≡ (shown begun).told = ap (λ (s : Shown). s.told) same in
      joined moment left_since begun mid now (IsAsBefore (may_leave begun) (shown begun).told 0) (IsAsBefore (may_leave mid) (shown mid).told 0) first second
      (λ told c h. record { no_fewer = omega (arith, told_same, h.no_fewer); no_more = omega (arith, told_same, h.no_more); was = fewer c h.was })
