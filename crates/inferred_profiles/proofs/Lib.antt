mod ProposalLaws
