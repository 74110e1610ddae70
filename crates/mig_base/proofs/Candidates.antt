-- Candidates for the bound, by the kind of the limits.
use Rattle.mig_base.proofs.Common.{Candidate, IsCandidate, IsCandidateOf, IsJointCandidate, Transfers, false, is_duplex, subst, sym, ◌≡◌}

-- of joint limits, in both ways
pub joint_candidate : (graph : Transfers) → is_duplex graph.disks ≡ false → (c : Candidate) → IsCandidate graph c → IsJointCandidate graph c
joint_candidate graph joint c is = subst (λ b. IsCandidateOf b graph c) joint is

pub candidate_joint : (graph : Transfers) → is_duplex graph.disks ≡ false → (c : Candidate) → IsJointCandidate graph c → IsCandidate graph c
candidate_joint graph joint c is = subst (λ b. IsCandidateOf b graph c) (sym joint) is
