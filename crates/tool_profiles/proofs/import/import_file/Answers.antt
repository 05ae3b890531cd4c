use Rattle.std.proofs.Common.{refl, inl, inr, subst, string_bytes, option_map}
use Rattle.tool_profiles.specs.Found.{IsReadTable}
use Rattle.tool_profiles.proofs.import.import_file.Goals as goal

pub returns-in-Some : goal.returns-in-Some
returns-in-Some g c =
    let read = subst (λ o. IsReadTable c.as_slice.result.now (option_map string_bytes o)) c.in-Some.is c.in_ok-profile.ensures in
    (c.as_slice.result.now, inl (string_bytes c.in-Some.profile, read, refl))

pub returns : goal.returns
returns g c =
    let read = subst (λ o. IsReadTable c.as_slice.result.now (option_map string_bytes o)) c.in-None.is c.in_ok-profile.ensures in
    (c.as_slice.result.now, inr (read.0, read.1, refl))
