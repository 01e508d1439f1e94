-- Whether a source is that of its method, as the system tells that has it.
use Rattle.std.proofs.Common.{◌≡◌, ◌↔◌, ◌≤◌, ◌∙◌, ℕ, Bool, IsTrue, true, false, refl, sym, ap, subst, List, Option, Some, None, Ok, option_map, slice_get, length, true≢false}
use Rattle.std.specs.Option.{option_copied}
use Rattle.std.specs.FinMap as map
use Rattle.s80_base.specs.declared.names.Side.{Side}
use Rattle.s80_code.specs.declared.code.Code.{Code}
use Rattle.s80_dict.specs.Table.{methods_at}
use Rattle.s80_change.specs.Source.{SourceParts}
use Rattle.s80_class.specs.Classes.{Name, Classes}
use Rattle.s80_class.specs.Table.{IsNumberOf}
use Rattle.s80_method.specs.Code.{IsMethodCode}
use Rattle.s80_apply.specs.Codes.{AreCodes}
use Rattle.s80_apply.specs.Entries.{Entry, state_row}
use Rattle.s80_apply.specs.State.{State}
use Rattle.s80_apply.specs.System.{HasNumber, IsSystemOf, SystemState}
use Rattle.s80_image.specs.Methods.{code_of}
use Rattle.s80_snapshot.specs.Resuming.{IsFitting, MayPut, Puts, Resumed, selector_of, state_row_of}
use Rattle.s80_snapshot.specs.Sources.{ImagedMethod, IsSourceOf}
use Rattle.s80_snapshot.proofs.ImageMaps.{one_named, one_value}
use Rattle.s80_snapshot.proofs.OnePut.{found_entry, here_put}
use Rattle.s80_snapshot.proofs.SameCodes.{HaveOneCode, HaveOneTree, one_code_of}

-- ---- which code the system has

pub same_entry : (system : SystemState) (name : Name) (side : Side) (selector : List ℕ) (n number : ℕ) (found entry : Entry) → HasNumber system name n → HasNumber system name number
    → map.get (methods_at system.methods n side) selector ≡ Some found → map.get (methods_at system.methods number side) selector ≡ Some entry → found ≡ entry
same_entry system name side selector n number found entry one other first second =
    let same : n ≡ number = other.only n one.named in
    one_value (map.get (methods_at system.methods number side) selector) found entry (subst (λ k. map.get (methods_at system.methods k side) selector ≡ Some found) same first) second

-- a class that is there has a method that is there
pub not_absent : {P : Type 0} (system : SystemState) (name : Name) (number : ℕ) → HasNumber system name number → map.get system.table.classes name ≡ None → P
not_absent system name number numbered none = absurd (let bad : None ≡ Some numbered.there.0 = sym none ∙ numbered.there.1 in cc)

pub not_lacking : {P : Type 0} (system : SystemState) (name : Name) (side : Side) (selector : List ℕ) (n number : ℕ) (entry : Entry) → HasNumber system name n → HasNumber system name number
    → map.get (methods_at system.methods n side) selector ≡ None → map.get (methods_at system.methods number side) selector ≡ Some entry → P
not_lacking system name side selector n number entry one other none there =
    let same : n ≡ number = other.only n one.named in
    absurd (let bad : None ≡ Some entry = sym (subst (λ k. map.get (methods_at system.methods k side) selector ≡ None) same none) ∙ there in cc)

-- ---- the source of the method

module _ (trees : HaveOneTree) (codes : HaveOneCode) (m : ImagedMethod) (text : List ℕ) (source : SourceParts) (before now : SystemState) (fits : IsFitting (selector_of m) text source) (may : MayPut m before) (puts : Puts m source.text before now) (are : AreCodes now.table now.methods) where
  -- the entry, with the code of its source
  own_entry : (e : Entry) × (map.get (methods_at now.methods puts.number m.side) (selector_of m) ≡ Some e) × IsMethodCode before.table.classes m.class_name m.side (selector_of m) text e.code
  own_entry =
      let is = puts.state may.state may.is in
      let found = found_entry state_row (map.get (methods_at now.methods puts.number m.side) (selector_of m)) (state_row_of m source.text)
      ((is.methods puts.number m.class_name m.side puts.numbered.named).each (selector_of m) ∙ here_put m.class_name m.side (selector_of m) (state_row_of m source.text) may.state) in
      let has = are puts.number m.side (selector_of m) found.0 found.1 in
      let named : has.class ≡ m.class_name = one_named (slice_get now.table.names puts.number) has.class m.class_name has.named puts.numbered.named in
      let told : found.0.source ≡ text = ap (λ r. r.source) found.2 ∙ fits.text_is in (
        found.0,
        found.1,
        subst (λ (cs : Classes). IsMethodCode cs m.class_name m.side (selector_of m) text found.0.code) puts.classes
            (subst (λ s. IsMethodCode now.table.classes m.class_name m.side (selector_of m) s found.0.code) told
            (subst (λ n. IsMethodCode now.table.classes n m.side (selector_of m) found.0.source found.0.code) named has.has_code.code)),
      )

  pub is_resumed : (same : Bool) → ((number : ℕ) (entry : Entry) → HasNumber now m.class_name number → map.get (methods_at now.methods number m.side) (selector_of m) ≡ Some entry → IsTrue same ↔ (code_of entry.code ≡ m.method.code))
      → Resumed m text before now same
  is_resumed true told =
      let own = own_entry in (
        record {
          text = fits.chunk;
          short = fits.short;
          check = fits.check;
          code = own.0.code;
          code_is = (told puts.number own.0 puts.numbered own.1).0 refl;
          compiled = own.2;
        },
        subst (λ s. Puts m s before now) fits.text_is puts,
        are,
      )
  is_resumed false told = λ so.
      let own = own_entry in
      true≢false (sym ((told puts.number own.0 puts.numbered own.1).1 (one_code_of trees codes before.table.classes m.class_name m.side (selector_of m) text own.0.code so.code own.2 so.compiled ∙ so.code_is)))
