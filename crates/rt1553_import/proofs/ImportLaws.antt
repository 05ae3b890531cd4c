-- A text that is read as the tree of a table says what the table says.
use Rattle.std.proofs.Common.{◌≡◌, ℕ, List, Some, IfErr, sym, ap, ◌∙◌}
use Rattle.std.specs.Prelude.{Result, Ok, Err}
use Rattle.toml.specs.Data.{Members}
use Rattle.toml.specs.Parse.{parse_document}
use Rattle.bus_legal.specs.declared.profile.Profile.{Profile}
use Rattle.bus_legal.specs.Plain.{plain}
use Rattle.bus_profile.specs.Gives.{profile_of}
use Rattle.bus_profile.specs.Read.{Accepts}
use Rattle.rt1553_import.specs.declared.sheet.Sheet.{Sheet}
use Rattle.rt1553_import.specs.Tree.{table_tree}
use Rattle.rt1553_import.specs.declared.fault.ImportFault.{ImportFault}
use Rattle.rt1553_import.specs.declared.fault.ImportFault.TheVariants.{Faults, LongNames, NotText, NotCsv, Memory}
use Rattle.rt1553_import.specs.NoTable.{IsNoTable}
use Rattle.rt1553_import.specs.Import.{SaysTable, IsTableRefused, IsImportRefused}

some_same : (a b : Members) → Some a ≡ Some b → a ≡ b
some_same a b e = cc e

tree_same : (s : Sheet) (text : List ℕ) (p : Profile) → parse_document text ≡ Some (table_tree s) → Accepts text p → plain p ≡ profile_of (table_tree s)
tree_same s text p reads accepts = accepts.gives ∙ ap profile_of (some_same accepts.tree (table_tree s) (sym accepts.is.reads ∙ reads))

pub text_says : (s : Sheet) (text : List ℕ) (p : Profile) → parse_document text ≡ Some (table_tree s) → Accepts text p → SaysTable s text
text_says s text p reads accepts = record { profile = p; accepts = accepts; gives = tree_same s text p reads accepts }

-- another text that gives the same profile
pub same_says : (s : Sheet) (text ordered : List ℕ) (p q : Profile) → parse_document text ≡ Some (table_tree s) → Accepts text p → Accepts ordered q → plain q ≡ plain p → SaysTable s ordered
same_says s text ordered p q reads accepts back same = record { profile = q; accepts = back; gives = same ∙ tree_same s text p reads accepts }

pub no_table : (text : List ℕ) (f : ImportFault) → IsNoTable text f → IsTableRefused text f
no_table text (Faults faults) is = absurd is
no_table text (LongNames place) is = absurd is
no_table text (NotText line) is = is
no_table text (NotCsv place) is = is
no_table text Memory is = is

refused_so : (text : List ℕ) (f : ImportFault) → IsTableRefused text f → IsImportRefused text f
refused_so text (Faults faulty) is = is
refused_so text (LongNames place) is = absurd is
refused_so text (NotText line) is = is
refused_so text (NotCsv place) is = is
refused_so text Memory is = is

pub err_so : {A : Type 0} (text : List ℕ) (r : Result A ImportFault) → IfErr r (IsTableRefused text) → IfErr r (IsImportRefused text)
err_so text (Ok x) is = tt
err_so text (Err f) is = refused_so text f is
