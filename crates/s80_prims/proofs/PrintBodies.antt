-- What is printed of each body.
use Rattle.std.proofs.Common.{◌≡◌, ◌∙◌, ◌+◌, ◌<◌, ◌≤◌, ℕ, suc, zero, cond, true, refl, sym, ap, subst, List, [], ◌∷◌, ◌++◌, All, codes, length, take, map, flat_map, Option, Some, None, Result, Ok, Err, OnOk, unwrap_or, option_and_then, slice_get, pos, arith, append_assoc}
use Rattle.std.specs.Result.{IsOk}
use Rattle.std.specs.Option.{IsSome, option_map, option_map_or}
use Rattle.std.proofs.lemmas.List.{append-nil, take_all}
use Rattle.std.proofs.lemmas.List.Elements.{All-head, All-tail}
use Rattle.std.proofs.lemmas.Option.{slice_get-get_or}
use Rattle.std.proofs.lemmas.Result.{on_ok_weaker}
use Rattle.s80_class.specs.Table.{Table, IsClass, class_name}
use Rattle.s80_object.specs.Body.{BodyTree, pointers, bytes, words, home, block, bytes_of, items_of, kind_of}
use Rattle.s80_object.specs.Objects.{State, body_at, home_parts_of, item, items_at, read_at, text_of}
use Rattle.s80_object.specs.declared.value.BodyKind.{BodyKind}
use Rattle.s80_object.specs.declared.value.BodyKind.TheVariants as kind
use Rattle.s80_object.specs.declared.value.ObjectFault.{ObjectFault}
use Rattle.s80_object.specs.declared.value.ObjectFault.TheVariants as fault
use Rattle.s80_object.specs.declared.value.Value.{Value}
use Rattle.s80_object.specs.declared.value.Value.TheVariants as value
use Rattle.s80_prims.specs.declared.front.Front.{Front}
use Rattle.s80_prims.specs.Classes.{is_kind_of}
use Rattle.s80_prims.specs.Front.{Holds, Writes}
use Rattle.s80_prims.specs.Known.{AreKnown, BodyIsKnown, IsKnown}
use Rattle.s80_prims.specs.Printed.{array_text, body_text, bytes_text, element, is_array, plain, plain_body, whole, with_article}
use Rattle.s80_prims.proofs.ClassesNumbered.{none_is_some, some_of}

-- ---- one text behind another

pub writes_both : (a b c : Front) (x y : List ℕ) → Writes a b x → Writes b c y → Writes a c (x ++ y)
writes_both a b c x y f g = λ w h. subst (Holds c) (append_assoc w x y) (g (w ++ x) (f w h))

pub ok_same : {T E : Type 0} (r : Result T E) (a b : Front) (x y : List ℕ) → x ≡ y → OnOk r (Writes a b x) → OnOk r (Writes a b y)
ok_same r a b x y same h = subst (λ z. OnOk r (Writes a b z)) same h

pub ok_behind : {T E : Type 0} (r : Result T E) (a b c : Front) (x y z : List ℕ) → x ++ y ≡ z → Writes a b x → OnOk r (Writes b c y) → OnOk r (Writes a c z)
ok_behind r a b c x y z same f h = on_ok_weaker r (λ g. subst (Writes a c) same (writes_both a b c x y f g)) h

-- ---- bodies

-- a value with a body is an object
object_of : (s : State) (v : Value) (b : BodyTree) → body_at s v ≡ Some b → (n : ℕ) × (v ≡ value.Object n)
object_of s (value.Small n) b h = absurd (none_is_some h)
object_of s (value.Character n) b h = absurd (none_is_some h)
object_of s value.Nil b h = absurd (none_is_some h)
object_of s value.True b h = absurd (none_is_some h)
object_of s value.False b h = absurd (none_is_some h)
object_of s (value.Symbol n) b h = absurd (none_is_some h)
object_of s (value.Number n) b h = absurd (none_is_some h)
object_of s (value.ClassRef c side) b h = absurd (none_is_some h)
object_of s (value.Object n) b h = (n, refl)
object_of s value.Context b h = absurd (none_is_some h)
object_of s value.Transcript b h = absurd (none_is_some h)
object_of s value.Smalltalk b h = absurd (none_is_some h)

plain_of : (t : Table) (s : State) (v : Value) (b : BodyTree) → body_at s v ≡ Some b → plain_body t b ≡ plain t s v
plain_of t s v b h =
    let o = object_of s v b h in
    subst (λ x. body_at s x ≡ Some b → plain_body t b ≡ plain t s x) (sym o.1) (λ h. sym (ap (λ p. option_map_or (plain_body t) p []) h)) h

whole_of : (t : Table) (s : State) (v : Value) (b : BodyTree) → body_at s v ≡ Some b → body_text t s b ≡ whole t s v
whole_of t s v b h =
    let o = object_of s v b h in
    subst (λ x. body_at s x ≡ Some b → body_text t s b ≡ whole t s x) (sym o.1) (λ h. sym (ap (λ p. option_map_or (body_text t s) p []) h)) h

body_known : (t : Table) (s : State) (v : Value) (b : BodyTree) → AreKnown t s → body_at s v ≡ Some b → BodyIsKnown t s b
body_known t s v b known h =
    let o = object_of s v b h in
    subst (λ x. body_at s x ≡ Some b → BodyIsKnown t s b) (sym o.1) (λ h. known o.0 b h) h

-- ---- bodies of a class

pointers_not_bytes : kind.Pointers ≡ kind.Bytes → ⊥
pointers_not_bytes e = cc

words_not_bytes : kind.Words ≡ kind.Bytes → ⊥
words_not_bytes e = cc

kind_known : (t : Table) (s : State) (b : BodyTree) (c : ℕ) (k : BodyKind) → BodyIsKnown t s b → Some (c, k) ≡ kind_of b → IsClass t.names c
kind_known t s (pointers class fields items) c k known h = subst (IsClass t.names) (sym (ap (λ (o : Option (ℕ × BodyKind)). (unwrap_or o (c, k)).0) h)) known.0
kind_known t s (bytes class items) c k known h = subst (IsClass t.names) (sym (ap (λ (o : Option (ℕ × BodyKind)). (unwrap_or o (c, k)).0) h)) known
kind_known t s (words class items) c k known h = subst (IsClass t.names) (sym (ap (λ (o : Option (ℕ × BodyKind)). (unwrap_or o (c, k)).0) h)) known
kind_known t s (home method receiver temporaries) c k known h = absurd (none_is_some (sym h))
kind_known t s (block base start arguments) c k known h = absurd (none_is_some (sym h))

body_with : {X : Type 0} (f : BodyTree → Option X) (o : Option BodyTree) (x : X) → Some x ≡ option_and_then f o → (b : BodyTree) × (o ≡ Some b) × (Some x ≡ f b)
body_with f None x h = absurd (none_is_some (sym h))
body_with f (Some b) x h = (b, refl, h)

pub class_known : (t : Table) (s : State) (v : Value) (c : ℕ) (k : BodyKind) → AreKnown t s → Some (c, k) ≡ option_and_then kind_of (body_at s v) → IsClass t.names c
class_known t s v c k known h = let b = body_with kind_of (body_at s v) (c, k) h in kind_known t s b.0 c k (body_known t s v b.0 known b.1) b.2

pub pointers_plain : (t : Table) (s : State) (v : Value) (c : ℕ) → Some (c, kind.Pointers) ≡ option_and_then kind_of (body_at s v) → with_article (class_name t c) ≡ plain t s v
pointers_plain t s v c h = let b = body_with kind_of (body_at s v) (c, kind.Pointers) h in go b.0 b.2 ∙ plain_of t s v b.0 b.1
  where
    go : (b : BodyTree) → Some (c, kind.Pointers) ≡ kind_of b → with_article (class_name t c) ≡ plain_body t b
    go (pointers class fields items) h = ap (λ (o : Option (ℕ × BodyKind)). with_article (class_name t (unwrap_or o (c, kind.Pointers)).0)) h
    go (bytes class items) h = absurd (pointers_not_bytes (ap (λ (o : Option (ℕ × BodyKind)). (unwrap_or o (c, kind.Pointers)).1) h))
    go (words class items) h = ap (λ (o : Option (ℕ × BodyKind)). with_article (class_name t (unwrap_or o (c, kind.Pointers)).0)) h
    go (home method receiver temporaries) h = absurd (none_is_some (sym h))
    go (block base start arguments) h = absurd (none_is_some (sym h))

pub words_plain : (t : Table) (s : State) (v : Value) (c : ℕ) → Some (c, kind.Words) ≡ option_and_then kind_of (body_at s v) → with_article (class_name t c) ≡ plain t s v
words_plain t s v c h = let b = body_with kind_of (body_at s v) (c, kind.Words) h in go b.0 b.2 ∙ plain_of t s v b.0 b.1
  where
    go : (b : BodyTree) → Some (c, kind.Words) ≡ kind_of b → with_article (class_name t c) ≡ plain_body t b
    go (pointers class fields items) h = ap (λ (o : Option (ℕ × BodyKind)). with_article (class_name t (unwrap_or o (c, kind.Words)).0)) h
    go (bytes class items) h = absurd (words_not_bytes (ap (λ (o : Option (ℕ × BodyKind)). (unwrap_or o (c, kind.Words)).1) h))
    go (words class items) h = ap (λ (o : Option (ℕ × BodyKind)). with_article (class_name t (unwrap_or o (c, kind.Words)).0)) h
    go (home method receiver temporaries) h = absurd (none_is_some (sym h))
    go (block base start arguments) h = absurd (none_is_some (sym h))

pub bytes_plain : (t : Table) (s : State) (v : Value) (c : ℕ) → Some (c, kind.Bytes) ≡ option_and_then kind_of (body_at s v)
    → bytes_text t c (unwrap_or (option_and_then bytes_of (body_at s v)) []) ≡ plain t s v
bytes_plain t s v c h =
    let b = body_with kind_of (body_at s v) (c, kind.Bytes) h in
    ap (λ o. bytes_text t c (unwrap_or (option_and_then bytes_of o) [])) b.1 ∙ go b.0 b.2 ∙ plain_of t s v b.0 b.1
  where
    go : (b : BodyTree) → Some (c, kind.Bytes) ≡ kind_of b → bytes_text t c (unwrap_or (bytes_of b) []) ≡ plain_body t b
    go (pointers class fields items) h = absurd (pointers_not_bytes (sym (ap (λ (o : Option (ℕ × BodyKind)). (unwrap_or o (c, kind.Bytes)).1) h)))
    go (bytes class items) h = ap (λ (o : Option (ℕ × BodyKind)). bytes_text t (unwrap_or o (c, kind.Bytes)).0 items) h
    go (words class items) h = absurd (words_not_bytes (sym (ap (λ (o : Option (ℕ × BodyKind)). (unwrap_or o (c, kind.Bytes)).1) h)))
    go (home method receiver temporaries) h = absurd (none_is_some (sym h))
    go (block base start arguments) h = absurd (none_is_some (sym h))

-- ---- homes and blocks

pub home_plain : (t : Table) (s : State) (v : Value) (p : ℕ × Value) → Some p ≡ option_and_then home_parts_of (body_at s v) → codes "a MethodContext" ≡ plain t s v
home_plain t s v p h = let b = body_with home_parts_of (body_at s v) p h in go b.0 b.2 ∙ plain_of t s v b.0 b.1
  where
    go : (b : BodyTree) → Some p ≡ home_parts_of b → codes "a MethodContext" ≡ plain_body t b
    go (pointers class fields items) h = absurd (none_is_some (sym h))
    go (bytes class items) h = absurd (none_is_some (sym h))
    go (words class items) h = absurd (none_is_some (sym h))
    go (home method receiver temporaries) h = refl
    go (block base start arguments) h = absurd (none_is_some (sym h))

-- what is neither of a class nor a home
left_block : (b : BodyTree) → None ≡ kind_of b → None ≡ home_parts_of b → (base : Value) × (start : ℕ) × (arguments : ℕ) × (b ≡ block base start arguments)
left_block (pointers class fields items) h g = absurd (none_is_some h)
left_block (bytes class items) h g = absurd (none_is_some h)
left_block (words class items) h g = absurd (none_is_some h)
left_block (home method receiver temporaries) h g = absurd (none_is_some g)
left_block (block base start arguments) h g = (base, start, arguments, refl)

pub block_plain : (t : Table) (s : State) (v : Value) → IsSome (body_at s v) → None ≡ option_and_then kind_of (body_at s v) → None ≡ option_and_then home_parts_of (body_at s v)
    → codes "a BlockContext" ≡ plain t s v
block_plain t s v there h g =
    let b = some_of (body_at s v) there in
    let l = left_block b.0 (h ∙ ap (option_and_then kind_of) b.1) (g ∙ ap (option_and_then home_parts_of) b.1) in
    sym (ap (plain_body t) l.3) ∙ plain_of t s v b.0 b.1

-- ---- arrays

-- an object of a class is an array by its class
pub array_whole : (t : Table) (s : State) (v : Value) (c : ℕ) → Some c ≡ option_map (λ k. k.0) (option_and_then kind_of (body_at s v)) → is_kind_of t c (codes "Array") ≡ true
    → array_text t s (unwrap_or (items_at s v) []) ≡ whole t s v
array_whole t s v c h is = go (body_at s v) refl h
  where
    array : (b : BodyTree) → Some c ≡ option_map (λ k. k.0) (kind_of b) → is_array t b ≡ true
    array (pointers class fields items) h = sym (ap (λ o. is_kind_of t (unwrap_or o c) (codes "Array")) h) ∙ is
    array (bytes class items) h = sym (ap (λ o. is_kind_of t (unwrap_or o c) (codes "Array")) h) ∙ is
    array (words class items) h = sym (ap (λ o. is_kind_of t (unwrap_or o c) (codes "Array")) h) ∙ is
    array (home method receiver temporaries) h = absurd (none_is_some (sym h))
    array (block base start arguments) h = absurd (none_is_some (sym h))

    go : (o : Option BodyTree) → body_at s v ≡ o → Some c ≡ option_map (λ k. k.0) (option_and_then kind_of o) → array_text t s (unwrap_or (items_at s v) []) ≡ whole t s v
    go None e h = absurd (none_is_some (sym h))
    go (Some b) e h =
        ap (λ o. array_text t s (unwrap_or (option_and_then items_of o) [])) e
        ∙ sym (ap (λ x. cond x (array_text t s (unwrap_or (items_of b) [])) (plain_body t b)) (array b h)) ∙ whole_of t s v b e

pub item_ok : (s : State) (v : Value) (i : ℕ) (r : Result Value ObjectFault) → i < length (unwrap_or (items_at s v) []) → r ≡ item s v (i + 1) → IsOk r
item_ok s v i r h is =
    let next : i + 1 ≡ suc i = omega arith in
    subst IsOk (sym (is ∙ ap (item s v) next)) (go (items_at s v) h)
  where
    go : (o : Option (List Value)) → i < length (unwrap_or o []) → IsOk (read_at o (Some i))
    go None h = absurd (omega (arith, h))
    go (Some values) h = subst (λ x. IsOk (option_map_or Ok x (Err fault.Range))) (sym (slice_get-get_or values i value.Nil h)) refl

all_at : {X : Type 0} (P : X → Type 0) (xs : List X) (i : ℕ) (x : X) → All P xs → slice_get xs i ≡ Some x → P x
all_at P [] i x all h = absurd (none_is_some h)
all_at P (y ∷ ys) zero x all h = subst P (ap (λ o. unwrap_or o y) h) (All-head P y ys all)
all_at P (y ∷ ys) (suc i) x all h = all_at P ys i x (All-tail P y ys all) h

small_known : (t : Table) (s : State) (items : List ℕ) (i : ℕ) (x : Value) → slice_get (map (λ n. value.Small (pos n)) items) i ≡ Some x → IsKnown t s x
small_known t s [] i x h = absurd (none_is_some h)
small_known t s (n ∷ items) zero x h = subst (IsKnown t s) (ap (λ o. unwrap_or o (value.Small (pos n))) h) tt
small_known t s (n ∷ items) (suc i) x h = small_known t s items i x h

pub item_known : (t : Table) (s : State) (v : Value) (i : ℕ) (x : Value) → AreKnown t s → slice_get (unwrap_or (items_at s v) []) i ≡ Some x → IsKnown t s x
item_known t s v i x known h = go (body_at s v) refl h
  where
    from : (b : BodyTree) → BodyIsKnown t s b → slice_get (unwrap_or (items_of b) []) i ≡ Some x → IsKnown t s x
    from (pointers class fields items) known h = all_at (IsKnown t s) items i x known.1.1 h
    from (bytes class items) known h = small_known t s items i x h
    from (words class items) known h = small_known t s items i x h
    from (home method receiver temporaries) known h = absurd (none_is_some h)
    from (block base start arguments) known h = absurd (none_is_some h)

    go : (o : Option BodyTree) → body_at s v ≡ o → slice_get (unwrap_or (option_and_then items_of o) []) i ≡ Some x → IsKnown t s x
    go None e h = absurd (none_is_some h)
    go (Some b) e h = from b (body_known t s v b known e) h

one_more : {X : Type 0} (f : X → List ℕ) (xs : List X) (i : ℕ) (x : X) → slice_get xs i ≡ Some x → flat_map f (take i xs) ++ f x ≡ flat_map f (take (suc i) xs)
one_more f [] i x h = absurd (none_is_some h)
one_more f (y ∷ ys) zero x h = sym (ap f (ap (λ o. unwrap_or o y) h)) ∙ sym (append-nil (f y))
one_more f (y ∷ ys) (suc i) x h = append_assoc (f y) (flat_map f (take i ys)) (f x) ∙ ap (λ r. f y ++ r) (one_more f ys i x h)

pub element_written : (t : Table) (s : State) (a b c : Front) (items : List Value) (i : ℕ) (x : Value) → Writes a b (40 ∷ flat_map (element t s) (take i items)) → slice_get items i ≡ Some x
    → Writes b c (element t s x) → Writes a c (40 ∷ flat_map (element t s) (take (i + 1) items))
element_written t s a b c items i x before is next_element =
    let next : suc i ≡ i + 1 = omega arith in
    subst (Writes a c) (ap (λ r. 40 ∷ r) (one_more (element t s) items i x is ∙ ap (λ n. flat_map (element t s) (take n items)) next))
    (writes_both a b c (40 ∷ flat_map (element t s) (take i items)) (element t s x) before next_element)

pub array_ended : (t : Table) (s : State) {T E : Type 0} (r : Result T E) (a b c : Front) (items : List Value) (i count : ℕ) → count ≡ length items → count ≤ i
    → Writes a b (40 ∷ flat_map (element t s) (take i items)) → OnOk r (Writes b c (41 ∷ [])) → OnOk r (Writes a c (array_text t s items))
array_ended t s r a b c items i count size past before h =
    ok_behind r a b c (40 ∷ flat_map (element t s) (take i items)) (41 ∷ []) (array_text t s items)
    (ap (λ xs. 40 ∷ (flat_map (element t s) xs ++ 41 ∷ [])) (take_all i items (omega (arith, size, past)))) before h

-- ---- symbols

pub symbol_plain : (t : Table) (s : State) (v : Value) (n : ℕ) → v ≡ value.Symbol n → (35 ∷ []) ++ unwrap_or (text_of s v) [] ≡ plain t s v
symbol_plain t s v n is = subst (λ x. (35 ∷ []) ++ unwrap_or (text_of s x) [] ≡ plain t s x) (sym is) refl

pub plain_is : (t : Table) (s : State) (v x : Value) → v ≡ x → plain t s x ≡ plain t s v
plain_is t s v x is = sym (ap (plain t s) is)
