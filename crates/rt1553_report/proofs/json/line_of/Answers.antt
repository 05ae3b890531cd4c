use Rattle.std.proofs.Common.{◌∙◌, ap, refl, option_map}
use Rattle.hex.specs.Hex.{encode_lower}
use Rattle.rt1553_report.specs.Verdict.{result_word}
use Rattle.rt1553_report.proofs.json.line_of.Goals as goal

pub returns : goal.returns
returns c = record {
  passes = c.passes.ensures;
  result = c.result_word.ensures ∙ ap result_word c.verdict.ensures;
  sha256 = c.in_ok-digest_text.ensures;
  profile_sha256 = c.in_ok-digest_text-2.ensures;
  canonical_sha256 = c.in_ok-digest_text-3.ensures;
  names = c.names_file.ensures;
  names_sha256 = c.in_ok-digest_text-4.ensures ∙ ap (option_map encode_lower) c.names_digest.ensures;
  program = refl;
  toolchain = refl;
  canonical = refl;
  date = refl;
}
