-- The first fault of a whole tree, section by section.
use Rattle.std.proofs.Common.{◌≡◌, ℕ, ◌&&◌, Bool, true, false, not, cond, Option, Some, None, List, [], ◌∷◌, option_map, refl, ap, ◌∙◌}
use Rattle.std.specs.Option.{option_or}
use Rattle.toml.specs.Data.{Data, Members}
use Rattle.bus_profile.specs.declared.fault.Part.TheVariants.{Root}
use Rattle.bus_profile.specs.declared.fault.ProfileFault.{ProfileFault}
use Rattle.bus_profile.specs.declared.fault.ProfileFault.TheVariants.{RequiredCode}
use Rattle.bus_legal.specs.OwnCodes.{is_own_code_legal}
use Rattle.bus_profile.specs.inner.MissingCode.{missing_code}
use Rattle.bus_profile.specs.Checks.{Check, in_order, first_fault}
use Rattle.bus_profile.specs.Keys.{KeyRow, address_row, broadcast_row, wraparound_row, accept_row, vector_row, bit_row, rules_key, modes_key, initials_key, root_rows}
use Rattle.bus_profile.specs.Faults.{array_checks, entries_checks, rule_checks, mode_checks, initial_checks, key_faults, all_pass, code_faults, faults}
use Rattle.bus_profile.specs.Gives.{modes_of}
use Rattle.bus_profile.specs.inner.Section.{entries_fault}
use Rattle.bus_profile.proofs.Least.{first_fault-in_order}
use Rattle.bus_profile.proofs.NoFault.{in_turn}
use Rattle.bus_profile.proofs.Sections.{unknown_fault, row_fault}

entries_fault_is : (row : KeyRow) (checks : ℕ → Data → List Check) (ms : Members) → first_fault (entries_checks row checks ms) ≡ entries_fault Root row checks ms
unfolding array_checks
entries_fault_is row checks ms = first_fault-in_order _

-- the first faults of the keys of the root, key by key
abbrev pub root_faults : Members → List (Option ProfileFault)
root_faults ms =
    unknown_fault Root root_rows ms
    ∷ row_fault Root ms address_row
    ∷ row_fault Root ms broadcast_row
    ∷ row_fault Root ms wraparound_row
    ∷ row_fault Root ms accept_row
    ∷ row_fault Root ms vector_row
    ∷ row_fault Root ms bit_row
    ∷ entries_fault Root rules_key rule_checks ms
    ∷ entries_fault Root modes_key mode_checks ms
    ∷ entries_fault Root initials_key initial_checks ms
    ∷ []

abbrev pub key_fault : Members → Option ProfileFault
key_fault ms = in_turn (root_faults ms)

key_fault_is : (ms : Members) → first_fault (key_faults ms) ≡ key_fault ms
unfolding key_faults
key_fault_is ms =
    first_fault-in_order _ ∙ rw (entries_fault_is rules_key rule_checks ms, entries_fault_is modes_key mode_checks ms, entries_fault_is initials_key initial_checks ms)

-- ---- the codes that must be legal

pass_all : (cs : List Check) → first_fault cs ≡ None → all_pass cs ≡ true
pass_all [] e = refl
pass_all (c ∷ cs) e = pick c.fails e (pass_all cs)
  where
    pick : (b : Bool) → cond b (Some c.fault) (first_fault cs) ≡ None → (first_fault cs ≡ None → all_pass cs ≡ true) → (not b && all_pass cs) ≡ true
    pick true e later = absurd (cc)
    pick false e later = later e

abbrev pub code_fault : Members → Option ProfileFault
code_fault ms = option_map RequiredCode (missing_code (modes_of ms))

code_fault_is : (ms : Members) → all_pass (key_faults ms) ≡ true → first_fault (code_faults ms) ≡ code_fault ms
unfolding code_faults in_order
code_fault_is ms e = rw e (each (legal 2) (legal 4) (legal 5) (legal 8))
  where
    legal : ℕ → Bool
    legal code = is_own_code_legal (modes_of ms) code

    each : (a b c d : Bool) → cond (not a) (Some (RequiredCode 2)) (cond (not b) (Some (RequiredCode 4)) (cond (not c) (Some (RequiredCode 5)) (cond (not d) (Some (RequiredCode 8)) None)))
        ≡ option_map RequiredCode (cond (not a) (Some 2) (cond (not b) (Some 4) (cond (not c) (Some 5) (cond (not d) (Some 8) None))))
    each false b c d = refl
    each true false c d = refl
    each true true false d = refl
    each true true true false = refl
    each true true true true = refl

-- ---- the tree

pub tree_fault : (ms : Members) → first_fault (faults ms) ≡ option_or (key_fault ms) (code_fault ms)
unfolding faults
tree_fault ms =
    first_fault-in_order _ ∙ pick (first_fault (key_faults ms)) refl ∙ ap (λ f. option_or f (code_fault ms)) (key_fault_is ms)
  where
    last : (f : Option ProfileFault) → option_or f None ≡ f
    last None = refl
    last (Some f) = refl

    pick : (f : Option ProfileFault) → first_fault (key_faults ms) ≡ f → option_or f (option_or (first_fault (code_faults ms)) None) ≡ option_or f (code_fault ms)
    pick None e = last (first_fault (code_faults ms)) ∙ code_fault_is ms (pass_all (key_faults ms) e)
    pick (Some f) e = refl
