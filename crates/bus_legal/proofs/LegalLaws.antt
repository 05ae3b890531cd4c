-- The laws of legality.
use Rattle.std.proofs.Common.{◌≡◌, ℕ, true, List, refl, ◌∙◌}
use Rattle.bus_word.specs.declared.cell.Cell.{Cell}
use Rattle.bus_word.specs.declared.cell.Cell.TheVariants.{OwnMode}
use Rattle.bus_word.specs.Cell.{is_allowed}
use Rattle.bus_word.specs.Mode.{is_required_code}
use Rattle.bus_legal.specs.declared.entries.Rule.{Rule}
use Rattle.bus_legal.specs.declared.entries.ModeRule.{ModeRule}
use Rattle.bus_legal.specs.declared.profile.Profile.{Profile}
use Rattle.bus_legal.specs.OwnCodes.{is_own_code_legal}
use Rattle.bus_legal.specs.Legal.{last_says, is_legal}
use Rattle.bus_legal.proofs.Bools.{left_of}
use Rattle.bus_legal.proofs.ModeMasks.{each_required}

pub legal_allowed : (rules : List Rule) (modes : List ModeRule) (cell : Cell) → is_legal rules modes cell ≡ true → is_allowed cell ≡ true
unfolding is_legal
legal_allowed rules modes cell e = left_of (is_allowed cell) (last_says rules modes cell) e

pub own_codes : (rules : List Rule) (modes : List ModeRule) (code : ℕ) → is_legal rules modes (OwnMode code) ≡ is_own_code_legal modes code
unfolding is_legal
own_codes rules modes code = refl

pub required_codes : (p : Profile) (code : ℕ) → is_required_code code ≡ true → is_legal p.rules p.modes (OwnMode code) ≡ true
required_codes p code e = own_codes p.rules p.modes code ∙ each_required (is_own_code_legal p.modes) p.required_codes code e
