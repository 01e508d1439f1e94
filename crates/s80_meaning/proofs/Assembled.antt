-- What the simulation needs, from codes that agree with their trees: places for the real blocks of each method, and what its code says.
use Rattle.std.proofs.Common.{◌≡◌, ◌∙◌, sym, subst, refl, ℕ, List, Option, Some, None}
use Rattle.s80_base.specs.declared.names.Side.{Side}
use Rattle.s80_class.specs.Table.{Table}
use Rattle.s80_code.specs.declared.code.Code.{Code}
use Rattle.s80_code.proofs.lemmas.TableLemmas.{value}
use Rattle.s80_core.specs.Elaborate.{elaborated}
use Rattle.s80_compile.proofs.lemmas.SentCore.{core_sent}
use Rattle.s80_dict.specs.Table.{MethodsValue}
use Rattle.s80_dict.specs.declared.dict.MethodEntry.{MethodEntry}
use Rattle.s80_machine.specs.Step.{code_for}
use Rattle.s80_machine.specs.World.{Key}
use Rattle.s80_meaning.specs.Agreement.{Agree, IsCodeFor}
use Rattle.s80_meaning.specs.Meaning.{Methods, meant_for}
use Rattle.s80_meaning.specs.Places.{MethodAt}
use Rattle.s80_meaning.specs.Tree.{Meant}
use Rattle.s80_meaning.proofs.Agreed.{code_there, codes_agree, found_alike, setting}
use Rattle.s80_meaning.proofs.Counted.{sent_numbered}
use Rattle.s80_meaning.proofs.Ended.{blocks_end, body_ends}
use Rattle.s80_meaning.proofs.Corresponds.{IsPair, Ready}
use Rattle.s80_meaning.proofs.Headers.{literal_place}
use Rattle.s80_meaning.proofs.Holding.{holding}
use Rattle.s80_meaning.proofs.Numbered.{method_numbered}

module _ (t : Table) (methods : Methods) (meant : Meant) (codes : MethodsValue (MethodEntry Code)) (code : Code) (budget : ℕ) where
  -- what a code says of its tree
  pub pair_of : (class : List ℕ) (side : Side) (m : Meant) (of : Code) → IsCodeFor class side m of → (starts : Key → ℕ → ℕ) (key : Key) → MethodAt m of (starts key) → IsPair (setting t methods meant codes code budget starts) key m of
  pair_of class side m of is starts key at =
      let p = is.parts in
      let c = elaborated p is.shape in
      let sent = sent_numbered c (core_sent p is.shape is.well_sent) in
      let Is : Meant → Type 0 = λ m. MethodAt m of (starts key) → IsPair (setting t methods meant codes code budget starts) key m of in
      subst Is (sym is.meant_is)
      (λ at. record {
        at = at;
        activation = literal_place p c class side of is.code_is;
        temporaries = is.code_is.temporaries;
        primitive = is.code_is.primitive;
        holds = holding p c class side of is.code_is;
        sent = sent.0;
        sent_all = sent.1;
        ends = body_ends p is.shape;
        ends_all = blocks_end p is.shape;
      }) at

  -- where the real blocks of a code begin
  places_of : (class : List ℕ) (side : Side) (m : Meant) (of : Code) → IsCodeFor class side m of → (starts : ℕ → ℕ) × MethodAt m of starts
  places_of class side m of is =
      subst (λ m. (starts : ℕ → ℕ) × MethodAt m of starts) (sym is.meant_is) (method_numbered is.parts (elaborated is.parts is.shape) class side of is.code_is)

  module _ (class : List ℕ) (side : Side) (agree : Agree t methods codes) (is : IsCodeFor class side meant code) where
    -- and those of a key's code; without a meaning there are none
    found_for : (key : Key) (o : Option Meant) → meant_for methods meant key ≡ o
        → (starts : ℕ → ℕ) × ((m : Meant) (of : Code) → o ≡ Some m → code_for codes code key ≡ Some of → MethodAt m of starts)
    found_for key None means = (λ n. n, λ m of given. cc)
    found_for key (Some m) means =
        let there = code_there t methods meant codes code budget class side agree is key m means in
        let agreed = codes_agree t methods meant codes code budget class side agree is key m there.0 means there.1 in
        let found = places_of agreed.0 agreed.1 m there.0 agreed.2 in (
          found.0,
          λ m1 of given code_is.
              subst (λ (m : Meant). MethodAt m of found.0) (value given)
              (subst (λ (of : Code). MethodAt m of found.0) (value (sym there.1 ∙ code_is)) found.1),
        )

    pub starts_by : Key → ℕ → ℕ
    starts_by key = (found_for key (meant_for methods meant key) refl).0

    pub method_at : (key : Key) (m : Meant) (of : Code) → meant_for methods meant key ≡ Some m → code_for codes code key ≡ Some of → MethodAt m of (starts_by key)
    unfolding starts_by
    method_at key m of means code_is = (found_for key (meant_for methods meant key) refl).1 m of means code_is

    pub ready : Ready (setting t methods meant codes code budget starts_by)
    ready = record {
      pairs = λ key m of means code_is.
          let agreed = codes_agree t methods meant codes code budget class side agree is key m of means code_is in
          pair_of agreed.0 agreed.1 m of agreed.2 starts_by key (method_at key m of means code_is);
      there = code_there t methods meant codes code budget class side agree is;
      found = found_alike t methods meant codes code budget starts_by agree;
    }
