use Rattle.mig_csv.proofs.Common.{DiskId, List, None, Option, Some, ap, arith, get_or, get_or-map, get_or-take, length, length-map, length-take, map, refl, slice_get, slice_get-get_or, sym, take}
use Rattle.mig_csv.proofs.Common.{ℕ, ◌<◌, ◌∙◌, ◌≡◌}
use Rattle.mig_csv.proofs.room.all_next.Goals as goal

done_len : (ds : List DiskId) (next : List (Option DiskId)) (k : ℕ) → k < length next → map (λ (d : DiskId). Some d) ds ≡ take k next → length ds ≡ k
done_len ds next k lt e = omega (arith, sym (length-map ds (λ (d : DiskId). Some d)) ∙ ap (λ (l : List (Option DiskId)). length l) e, length-take k next, lt)

done_at : (ds : List DiskId) (next : List (Option DiskId)) (k j : ℕ) → k < length next → map (λ (d : DiskId). Some d) ds ≡ take k next → j < k → (v : DiskId) × (slice_get next j ≡ Some (Some v))
done_at ds next k j lt e before =
    let z : DiskId = record { 0 = 0 } in
    let within : j < length ds = omega (arith, before, done_len ds next k lt e) in (
      get_or ds j z,
      slice_get-get_or next j None (omega (arith, before, lt))
          ∙ ap (λ (o : Option DiskId). Some o) (sym (get_or-take k next j None before) ∙ ap (λ (l : List (Option DiskId)). get_or l j None) (sym e) ∙ get_or-map (λ (d : DiskId). Some d) ds j z None within),
    )

pub returns-in-None-clause-missing : goal.returns-in-None-clause-missing
returns-in-None-clause-missing c =
    let next = c.args.next.now in
    let k = c.loop-place.place-index in
    let ds = c.loop-place.disks.items in
    let inv = c.loop-place.invariant in
    let len = done_len ds next k c.loop-place-test.true inv in
    let vec = c.loop-place.disks.ok.0 in
    rw c.refused.ensures (
      refl,
      k,
      omega (arith, c.len.ensures, len, vec),
      slice_get-get_or next k None c.loop-place-test.true ∙ ap (λ (o : Option DiskId). Some o) c.in-None.is,
      λ j before. done_at ds next k j c.loop-place-test.true inv before,
    )
