-- What stands at the front of some bytes: a whole text of a format, one with something after it, or a wrong
-- line.
use Rattle.std.specs.Prelude.{◌≡◌, ℕ, suc, ◌++◌, List, ◌∷◌}
use Rattle.line_format.specs.Format.{Format, Spells, Begins}

-- a text of the format, and something after it
pub record Trails {A : Type 0} (F : Format A) (bytes : List ℕ) : Type 0 where
  pub value : A
  pub text : List ℕ
  pub byte : ℕ
  pub more : List ℕ
  pub is : bytes ≡ text ++ byte ∷ more
  pub means : Spells F value text

-- The first lines before this one begin a text, and with it they begin none; nor does a text stand at the
-- front. A line that lacks its line feed, or that is not there, is wrong.
pub record HasWrongLine {A : Type 0} (F : Format A) (bytes : List ℕ) (n : ℕ) : Type 0 where
  pub before : ℕ
  pub is : n ≡ suc before
  pub right : Begins F before bytes
  pub wrong : Begins F n bytes → ⊥
  pub unread : (value : A) (text more : List ℕ) → Spells F value text → bytes ≡ text ++ more → ⊥

-- which of the three it is
pub data LineAnswer (A : Type 0) : Type 0 where
  Whole : (value : A) → LineAnswer A
  More : LineAnswer A
  Wrong : (line : ℕ) → LineAnswer A

-- the answer is right: a whole text of this value, a text with more after it, or the first wrong line
abbrev pub LineAnswers : {A : Type 0} → Format A → List ℕ → LineAnswer A → Type 0
LineAnswers F bytes (Whole v) = Spells F v bytes
LineAnswers F bytes More = Trails F bytes
LineAnswers F bytes (Wrong n) = HasWrongLine F bytes n
