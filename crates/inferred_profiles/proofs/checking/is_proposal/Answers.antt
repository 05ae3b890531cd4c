use Rattle.std.proofs.Common.{subst, ap, sym, ◌∙◌, false, true, ◌≡◌}
use Rattle.recorded_terminal.specs.Marks.{maybe_in}
use Rattle.rt1553.specs.Load.{is_canon_text, Reaches}
use Rattle.inferred_profiles.specs.Proposed.{IsProposal}
use Rattle.inferred_profiles.proofs.ProposalLaws.{decides, proposal_address, refused_none}
use Rattle.inferred_profiles.proofs.checking.is_proposal.Goals as goal

pub returns-then-address-clause-proposed : goal.returns-then-address-clause-proposed
returns-then-address-clause-proposed c =
    let toml : is_canon_text c.args.text.now ≡ false = ap is_canon_text (sym c.as_bytes-bytes.ensures.value) ∙ (sym c.is_canon_text.ensures ∙ c.if-is_canon_text.false) in
    decides c.args.text.now c.in-Ok.normal c.args.address (maybe_in c.args.recording.now) c.is_explained.result toml c.is_explained.ensures.normal
    (subst (λ t. Reaches t c.in-Ok.normal) c.as_bytes-bytes.ensures.value c.in-Ok.ensures.ok) (sym c.address.ensures ∙ c.if-address.true) c.is_explained.ensures.explained

pub returns-else-address-clause-proposed : goal.returns-else-address-clause-proposed
returns-else-address-clause-proposed c = (
  λ f. let wrong : false ≡ true = f in cc,
  λ p. absurd (c.if-address.false (c.address.ensures
      ∙ proposal_address c.args.text.now c.in-Ok.normal c.args.address (maybe_in c.args.recording.now) (subst (λ t. Reaches t c.in-Ok.normal) c.as_bytes-bytes.ensures.value c.in-Ok.ensures.ok) p)),
)

pub returns-in-Err-Profile-clause-proposed : goal.returns-in-Err-Profile-clause-proposed
returns-in-Err-Profile-clause-proposed c = (
  λ f. let wrong : false ≡ true = f in cc,
  λ p. let e = sym c.in-Err-Profile.field-0-is ∙ refused_none c.as_bytes-bytes.result.now c.in-Err-Profile.field-0 c.args.address (maybe_in c.args.recording.now) c.in-Err-Profile.ensures.refused
      (subst (λ t. IsProposal c.args.address (maybe_in c.args.recording.now) t) (sym c.as_bytes-bytes.ensures.value) p) in cc,
)

pub returns-in-Err-Canon-clause-proposed : goal.returns-in-Err-Canon-clause-proposed
returns-in-Err-Canon-clause-proposed c = (
  λ f. let wrong : false ≡ true = f in cc,
  λ p. let e = sym c.in-Err-Canon.field-0-is ∙ refused_none c.as_bytes-bytes.result.now c.in-Err-Canon.field-0 c.args.address (maybe_in c.args.recording.now) c.in-Err-Canon.ensures.refused
      (subst (λ t. IsProposal c.args.address (maybe_in c.args.recording.now) t) (sym c.as_bytes-bytes.ensures.value) p) in cc,
)

pub returns-then-is_canon_text-clause-proposed : goal.returns-then-is_canon_text-clause-proposed
returns-then-is_canon_text-clause-proposed c = (
  λ f. let wrong : false ≡ true = f in cc,
  λ p. let wrong : false ≡ true = sym p.toml ∙ (ap is_canon_text (sym c.as_bytes-bytes.ensures.value) ∙ (sym c.is_canon_text.ensures ∙ c.if-is_canon_text.true)) in cc,
)
