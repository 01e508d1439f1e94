use Rattle.std.proofs.Common.{◌≡◌, ◌≢◌, ◌++◌, ◌-◌, ◌∙◌, List, ℕ, length, take, Option, Some, Bor, MatchOption, sym, ap, subst}
use Rattle.std.proofs.lemmas.Bool.Decides.{Decides-eqb}
use Rattle.std.proofs.lemmas.Slice.Eq.{strip_suffix_is}
use Rattle.s80_base.specs.declared.names.Side.TheVariants.{Class}
use Rattle.s80_form.specs.Name.{is_name}
use Rattle.s80_model.proofs.Naming.{class_named, no_class_named, no_side_named}
use Rattle.s80_model.proofs.side.side_named.Goals as goal
use Rattle.s80_model.proofs.side.side_named.Goals.{in_default-via-in-Some+else-is_name-2, in_default-via-in_default}

pub returns-in_ok-from_bytes-in-Some : goal.returns-in_ok-from_bytes-in-Some
returns-in_ok-from_bytes-in-Some c =
    let s = c.bytes-bytes.result.now in
    let p = c.as_slice.result.now in
    let name = c.in-Some.name.now in
    let P : Option (Bor (List ℕ)) → Type 0 = λ r. MatchOption r ((front : List ℕ) → s ≢ front ++ p) (λ x. s ≡ x.now ++ p) in
    let is : s ≡ name ++ p = subst P c.in-Some.is (strip_suffix_is Decides-eqb s p c.strip_suffix.result c.strip_suffix.ensures.cases) in
    let named = c.in-Some.ensures.cases.1 ∙ (λ i. take (length (c.bytes-bytes.ensures i) - length (c.as_slice.ensures i)) (c.bytes-bytes.ensures i)) in
    ap (λ n. Some (n, Class)) c.in_ok-from_bytes-in-Some.ensures
    ∙ class_named c.args.spec.now name (ap is_name (sym c.bytes-bytes.ensures) ∙ sym c.if-is_name.ensures) named (sym c.bytes-bytes.ensures ∙ is ∙ ap (λ q. name ++ q) c.as_slice.ensures) (sym c.if-is_name-2.ensures)

pub returns-in_default : goal.returns-in_default
returns-in_default c =
    let s = c.bytes-bytes.result.now in
    let p = c.as_slice.result.now in
    let unnamed = ap is_name (sym c.bytes-bytes.ensures) ∙ sym c.if-is_name.ensures in
    let P : Option (Bor (List ℕ)) → Type 0 = λ r. MatchOption r ((front : List ℕ) → s ≢ front ++ p) (λ x. s ≡ x.now ++ p) in
    let found = strip_suffix_is Decides-eqb s p c.strip_suffix.result c.strip_suffix.ensures.cases in
    elim c.in_default.branch [
      | in_default-via-in-Some+else-is_name-2 w ↦ no_class_named c.args.spec.now w.in-Some.name.now unnamed
          (w.in-Some.ensures.cases.1 ∙ (λ i. take (length (c.bytes-bytes.ensures i) - length (c.as_slice.ensures i)) (c.bytes-bytes.ensures i)))
          (sym w.if-is_name-2.ensures)
      | in_default-via-in_default w ↦ no_side_named c.args.spec.now unnamed
          (λ front e. subst P w.in_default.is found front (c.bytes-bytes.ensures ∙ e ∙ ap (λ q. front ++ q) (sym c.as_slice.ensures)))
    ]
