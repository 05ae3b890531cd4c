-- What a profile describes.
use Rattle.std.specs.Prelude.{◌≡◌, ℕ, true}
use Rattle.bus_word.specs.Cell.{is_data_place}
use Rattle.bus_legal.specs.declared.profile.Profile.{Profile}
use Rattle.bus_legal.specs.declared.setup.Setup.{Setup}
use Rattle.bus_legal.specs.Description.{Description, word_at}
use Rattle.bus_legal.specs.Initial.{initial_word}
use Rattle.bus_legal.specs.Legal.{is_legal}

-- The description of a profile: its fields, the words that it sets up, and the cells that it makes legal.
abbrev pub description_of : Profile → Description
description_of p = record {
  address = p.address;
  broadcast = p.broadcast;
  wrap = p.wrap;
  accept = p.accept;
  vector = p.vector;
  bit = p.bit;
  initial = initial_word p.initials;
  legal = is_legal p.rules p.modes;
}

-- the set-up is that of the profile
pub record SetsUp (p : Profile) (setup : Setup) : Type 0 where
  pub address : setup.address ≡ p.address
  pub broadcast : setup.broadcast ≡ p.broadcast
  pub wrap : setup.wrap ≡ p.wrap
  pub accept : setup.accept ≡ p.accept
  pub vector : setup.vector ≡ p.vector
  pub bit : setup.bit ≡ p.bit
  pub initial : (s i : ℕ) → is_data_place s i ≡ true → word_at setup.initial s i ≡ initial_word p.initials s i
