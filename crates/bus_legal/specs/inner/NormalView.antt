-- That the parts of a `Normal` give its fields back.
use Rattle.std.proofs.Common.{◌≡◌, ℕ, ◌≤◌, min, ap, subst, ◌∙◌, arith}
use Rattle.std.proofs.Math.Bridge.{le_prop}
use Rattle.bus_legal.specs.declared.setup.Setup.{Setup}
use Rattle.bus_legal.specs.declared.tables.Tables.{Tables}
use Rattle.bus_legal.specs.declared.normal.Normal.TheInside.{Inside}
use Rattle.bus_legal.specs.Parts.{Parts, parts_of, IsNormal}

-- The fields of these parts. An address or a wraparound subaddress that no set-up has becomes 30: no `Normal` has one.
abbrev pub inside_of : Parts → Inside
inside_of v = record {
  setup = record {
    address = min v.address 30;
    broadcast = v.broadcast;
    wrap = min v.wrap 30;
    accept = v.accept;
    vector = v.vector;
    bit = v.bit;
    initial = v.initial;
    own_address = omega arith;
    own_wrap = omega arith;
  };
  tables = v.tables;
}

-- ---- the fields come back

-- the fields of a `Normal`, with these two numbers and the proofs of their ranges in place of those of the set-up
abbrev inside_by : Setup → (address : ℕ) → address ≤ 30 → (wrap : ℕ) → wrap ≤ 30 → Tables → Inside
inside_by setup address own_address wrap own_wrap tables = record {
  setup = record {
    address = address;
    broadcast = setup.broadcast;
    wrap = wrap;
    accept = setup.accept;
    vector = setup.vector;
    bit = setup.bit;
    initial = setup.initial;
    own_address = own_address;
    own_wrap = own_wrap;
  };
  tables = tables;
}

-- equal numbers make equal fields, whatever the proofs of their ranges
same_inside : (setup : Setup) (tables : Tables) (a b : ℕ) (pa : a ≤ 30) (pb : b ≤ 30) (w x : ℕ) (pw : w ≤ 30) (px : x ≤ 30) → a ≡ b → w ≡ x →
    inside_by setup a pa w pw tables ≡ inside_by setup b pb x px tables
same_inside setup tables a b pa pb w x pw px e f =
    subst (λ n. (p : n ≤ 30) → inside_by setup a pa w pw tables ≡ inside_by setup n p w pw tables) e (λ p. ap (λ q. inside_by setup a q w pw tables) (le_prop pa p)) pb
    ∙ subst (λ n. (p : n ≤ 30) → inside_by setup b pb w pw tables ≡ inside_by setup b pb n p tables) f (λ p. ap (λ q. inside_by setup b pb w q tables) (le_prop pw p)) px

-- the fields of a `Normal` are those of its parts
pub inside_again : (n : Inside) → IsNormal (parts_of n.setup n.tables) → inside_of (parts_of n.setup n.tables) ≡ n
inside_again n is = same_inside n.setup n.tables (min n.setup.address 30) n.setup.address _ n.setup.own_address (min n.setup.wrap 30) n.setup.wrap _ n.setup.own_wrap
    (let small : n.setup.address ≤ 30 = is.address in omega arith) (let small : n.setup.wrap ≤ 30 = is.wrap in omega arith)
