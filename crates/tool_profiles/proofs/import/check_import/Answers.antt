use Rattle.std.proofs.Common.{refl, inl, inr, subst, string_bytes, option_map}
use Rattle.tool_profiles.specs.Found.{IsReadTable}
use Rattle.tool_profiles.proofs.StatusLaws.{of-checked}
use Rattle.tool_profiles.proofs.import.check_import.Goals as goal

pub returns-in-Some : goal.returns-in-Some
returns-in-Some g c =
    let read = subst (λ o. IsReadTable c.as_slice.result.now (option_map string_bytes o)) c.in-Some.is c.in_ok-text.ensures in
    of-checked c.put_compared.result c.as_slice.result.now (string_bytes c.in-Some.text) _ c.in_ok-q.q c.in_ok-q.ensures read c.as_str.ensures.value c.put_compared.ensures

pub returns : goal.returns
returns g c =
    let read = subst (λ o. IsReadTable c.as_slice.result.now (option_map string_bytes o)) c.in-None.is c.in_ok-text.ensures in
    (c.as_slice.result.now, c.in_ok-q.q, c.in_ok-q.ensures, inr (read.0, read.1, refl))
