-- The code of what a history shows.
use Rattle.std.specs.Prelude.{ℕ, List, Option, refl}
use Rattle.std.specs.Coded.{Coded, code_by, coded×, coded_list, coded_option, coded_ℕ}
use Rattle.s80_history.specs.contracts.noted.Noted.{the_row}
use Rattle.s80_history.specs.declared.noted.Noted.{Noted}
use Rattle.s80_history.specs.History.{ClassVersions, HistoryState, Places}

abbrev pub places_code : Coded Places
places_code = coded_list (coded× (coded_list coded_ℕ) (coded_list coded_ℕ))

abbrev pub versions_code : Coded ClassVersions
versions_code = code_by (Places × Places) (coded× places_code places_code) (λ v. (v.instance, v.class)) (λ p. record { instance = p.0; class = p.1 }) (λ _. refl)

abbrev pub history_code : Coded HistoryState
history_code = code_by (List Noted × (List (List ℕ × ClassVersions) × Option Noted))
    (coded× (coded_list the_row.coded) (coded× (coded_list (coded× (coded_list coded_ℕ) versions_code)) (coded_option the_row.coded)))
    (λ h. (h.members, (h.versions, h.ready))) (λ p. record { members = p.0; versions = p.1.0; ready = p.1.1 }) (λ _. refl)
