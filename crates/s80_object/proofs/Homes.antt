-- A home is there once it is made, and stays one.
use Rattle.std.proofs.Common.{◌≡◌, ◌∙◌, ℕ, zero, suc, ◌++◌, List, [], ◌∷◌, length, slice_get, Some, Ok, refl, sym, ap₂, subst}
use Rattle.s80_object.specs.declared.value.Value.{Value}
use Rattle.s80_object.specs.declared.value.Value.TheVariants.{Small, Character, Nil, True, False, Symbol, Number, ClassRef, Object, Context, Transcript, Smalltalk}
use Rattle.s80_object.specs.Body.{BodyTree, home}
use Rattle.s80_object.specs.Objects.{State, Makes, IsHome, body_at}

last_is : (bs : List BodyTree) (b : BodyTree) → slice_get (bs ++ b ∷ []) (length bs) ≡ Some b
last_is [] b = refl
last_is (a ∷ bs) b = last_is bs b

-- what was just made is there
pub made_there : (old new : State) (b : BodyTree) (v : Value) → Makes old b new (Ok v) → body_at new v ≡ Some b
made_there old new b v made = ap₂ body_at made.1.0 made.0 ∙ last_is old.bodies b

pub home_there : (old new : State) (method : ℕ) (receiver : Value) (temporaries : List Value) (v : Value) → Makes old (home method receiver temporaries) new (Ok v) → IsHome (body_at new v)
home_there old new method receiver temporaries v made = subst IsHome (sym (made_there old new (home method receiver temporaries) v made)) tt

in_front : (bs more : List BodyTree) (n : ℕ) → IsHome (slice_get bs n) → IsHome (slice_get (bs ++ more) n)
in_front [] more n is = absurd is
in_front (b ∷ bs) more zero is = is
in_front (b ∷ bs) more (suc n) is = in_front bs more n is

-- a home stays one where more is made
pub home_stays : (old new : State) (more : List BodyTree) → new.bodies ≡ old.bodies ++ more → (v : Value) → IsHome (body_at old v) → IsHome (body_at new v)
home_stays old new more is (Object n) there = subst (λ bs. IsHome (slice_get bs n)) (sym is) (in_front old.bodies more n there)
home_stays old new more is (Small n) there = absurd there
home_stays old new more is (Character c) there = absurd there
home_stays old new more is Nil there = absurd there
home_stays old new more is True there = absurd there
home_stays old new more is False there = absurd there
home_stays old new more is (Symbol n) there = absurd there
home_stays old new more is (Number n) there = absurd there
home_stays old new more is (ClassRef c side) there = absurd there
home_stays old new more is Context there = absurd there
home_stays old new more is Transcript there = absurd there
home_stays old new more is Smalltalk there = absurd there
