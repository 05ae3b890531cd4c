-- What a table means whose profile was read again, and what is imported from a table.
use Rattle.std.proofs.Common.{◌≡◌, ℕ, List, refl, sym, ap, subst, ◌∙◌}
use Rattle.bus_legal.specs.Plain.{plain}
use Rattle.bus_profile.specs.Gives.{profile_of}
use Rattle.bus_legal.specs.Meaning.{description_of}
use Rattle.bus_legal.specs.Parts.{Parts}
use Rattle.bus_legal.specs.Reach.{reach}
use Rattle.bus_legal.proofs.PlainLaws.{described_alike}
use Rattle.bus_canon.specs.Canon.{Text}
use Rattle.rt1553.specs.Canon.{IsCanon}
use Rattle.rt1553.specs.Load.{OfBy, Reaches}
use Rattle.rt1553.proofs.LoadLaws.{one_description, profile_reaches}
use Rattle.rt1553_import.specs.Import.{IsImported}
use Rattle.rt1553_import.proofs.SheetLaws.{one_table}
use Rattle.rt1553_export.specs.Table.{IsTableOf, ImportsAs}
use Rattle.rt1553_export.proofs.NotCanon.{accepted_no_canon}

-- a table is of the terminal that the profile means that is imported from it
pub imported_of : (text profile : List ℕ) (v : Parts) → IsImported text profile → Reaches profile v → IsTableOf text v
imported_of text profile v i r =
    let toml = accepted_no_canon profile i.says.profile i.says.accepts in
    let of = subst (λ b. OfBy b profile (description_of i.says.profile)) (sym toml) (record { profile = i.says.profile; accepts = i.says.accepts; gives = refl }) in
    let same : r.description ≡ description_of i.says.profile = one_description profile r.description (description_of i.says.profile) r.of of in
    record { sheet = i.sheet; is = i.is; profile = i.says.profile; says = i.says.gives; reached = r.reached ∙ ap reach same }

-- whatever is imported from a table of a terminal reaches just this
pub table_imports : (text : List ℕ) (v : Parts) → IsTableOf text v → ImportsAs text v
table_imports text v t profile i =
    let same : plain t.profile ≡ plain i.says.profile = t.says ∙ ap profile_of (one_table text t.sheet i.sheet t.is.read i.is.read) ∙ sym i.says.gives in
    let described : description_of t.profile ≡ description_of i.says.profile = described_alike t.profile i.says.profile same in
    profile_reaches profile i.says.profile v i.says.accepts (accepted_no_canon profile i.says.profile i.says.accepts) (t.reached ∙ ap reach described)

-- and has the canonical bytes of the terminal
pub table_canonical : (text : List ℕ) (v : Parts) → IsTableOf text v → (profile bytes : List ℕ) → IsImported text profile → Text v bytes → IsCanon profile bytes
table_canonical text v t profile bytes i means = record { value = v; reaches = table_imports text v t profile i; means = means }
