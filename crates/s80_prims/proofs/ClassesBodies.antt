-- Bodies that are there, and their classes.
use Rattle.std.proofs.Common.{◌≡◌, ◌∙◌, ◌<◌, ℕ, ap, subst, length, is_some}
use Rattle.std.specs.Option.{IsSome}
use Rattle.std.proofs.lemmas.Option.{slice_get-get_or}
use Rattle.s80_class.specs.Table.{Table}
use Rattle.s80_object.specs.Body.{block}
use Rattle.s80_object.specs.Objects.{State, body_at}
use Rattle.s80_object.specs.declared.value.Value.{Value}
use Rattle.s80_object.specs.declared.value.Value.TheVariants as value
use Rattle.s80_prims.specs.Known.{IsKnown}

pub there : (t : Table) (s : State) (v : Value) (n : ℕ) → v ≡ value.Object n → IsKnown t s v → IsSome (body_at s v)
there t s v n is known =
    let inside : n < length s.bodies = subst (IsKnown t s) is known in
    ap (λ v. is_some (body_at s v)) is ∙ ap is_some (slice_get-get_or s.bodies n (block value.Nil 0 0) inside)
