-- What `rehearse` promises, from the causes of its outcomes and what it puts.
use Rattle.mig_top.proofs.Common.{Call, Done, EndsAs, FolderFault, IsListed, IsOrNotPut, List, Memory, Outcome, Rehearse, RehearsesWell, Rose}
use Rattle.mig_top.proofs.Common.{SinkFault, StoreFault, WorldEnds, case_in, code, inl, inr, ℕ, ◌≡◌, ◌⊎◌}
use Rattle.mig_top.proofs.EndsOf.{ends_of, put_by}

module _ {k : Call} {words : List (List ℕ)} {status : ℕ} (disks per_pair limit : List ℕ) where
  pub rehearses_well : EndsAs k words status → IsListed words (Rehearse disks per_pair limit) → RehearsesWell k.before.sink k.after.sink (case_in disks per_pair limit) status
  rehearses_well ends l =
      let e = ends_of ends (Rehearse disks per_pair limit) l in
      record { ends = by e.outcome e.is e.so; rehearsed = λ zero. let p = put_by e zero in (p.0, p.1.cause, p.2) }
    where
      by : (o : Outcome) → status ≡ code o → IsOrNotPut (WorldEnds k (Rehearse disks per_pair limit)) k.before.sink k.after.sink o
          → (status ≡ 0) ⊎ ((status ≡ 6) × Rose k.before.sink.faults k.after.sink.faults) ⊎ (status ≡ 7)
      by (Done text) at h = inl at
      by (SinkFault text) at h = inr (inl (at, h.0))
      by Memory at h = inr (inr at)
      by FolderFault at h = absurd h.cause.1
      by (StoreFault before) at h = absurd h.cause.1
      by _ at h = absurd h.cause
