-- From pairs of disks to the transfer graph.
use Rattle.mig_euler.proofs.Common.{All, AllInRange, ArePairs, Balances, Bool, DiskId, List, Some, Transfer, [], ap, arith, get_or, get_or_default, length, length-map, map, pair_at, pair_transfer, refl}
use Rattle.mig_euler.proofs.Common.{same_Some, same_lists, slice_get, slice_get-get_or, slice_get_within, subst, suc, sym, transfer_at, zero, ℕ, ◌<◌, ◌∙◌, ◌∷◌, ◌≡◌, ◌≢◌}

map_get : (ps : List (DiskId × DiskId)) (k : ℕ) (t : Transfer) → k < length ps → get_or (map pair_transfer ps) k t ≡ pair_transfer (pair_at ps k)
map_get [] k t h = absurd (omega arith)
map_get (p ∷ ps) zero t h = refl
map_get (p ∷ ps) (suc k) t h = map_get ps k t (omega arith)

transfers_are : (transfers : List Transfer) (ps : List (DiskId × DiskId)) → ArePairs transfers ps → map pair_transfer ps ≡ transfers
transfers_are transfers ps a = same_lists (map pair_transfer ps) transfers (length-map ps pair_transfer ∙ a.len)
    (λ k t h. (let l : k < length ps = omega (arith, h, length-map ps pair_transfer) in map_get ps k t l ∙ a.known k l ∙ get_or_default transfers k (record { leaves = 0; reaches = 0 }) t (omega (arith, l, a.len))))

pub balanced : (transfers : List Transfer) (ps : List (DiskId × DiskId)) (ds : List Bool) → ArePairs transfers ps → Balances (map pair_transfer ps) ds → Balances transfers ds
balanced transfers ps ds a b = subst (λ (ts : List Transfer). Balances ts ds) (transfers_are transfers ps a) b

pair_known : (ps : List (DiskId × DiskId)) (k : ℕ) (p : DiskId × DiskId) → slice_get ps k ≡ Some p → p ≡ pair_at ps k
pair_known ps k p e = sym (same_Some (pair_at ps k) p (sym (slice_get-get_or ps k (record { 0 = 0 }, record { 0 = 0 }) (slice_get_within ps k p e)) ∙ e))

pub in_range : (transfers : List Transfer) (ps : List (DiskId × DiskId)) (n : ℕ) → ArePairs transfers ps → All (λ t. t.leaves < n) transfers → All (λ t. t.reaches < n) transfers → AllInRange ps n
in_range transfers ps n a l r e p row =
    let h : e.0 < length ps = slice_get_within ps e.0 p row in
    let same : pair_transfer p ≡ transfer_at transfers e.0 = ap pair_transfer (pair_known ps e.0 p row) ∙ a.known e.0 h in
    (omega (arith, ap (λ (t : Transfer). t.leaves) same, l e.0 (record { leaves = 0; reaches = 0 }) (omega (arith, h, a.len))), omega (arith, ap (λ (t : Transfer). t.reaches) same, r e.0 (record { leaves = 0; reaches = 0 }) (omega (arith, h, a.len))))

pub no_loop : (transfers : List Transfer) (ps : List (DiskId × DiskId)) → ArePairs transfers ps → All (λ t. t.leaves ≢ t.reaches) transfers → All (λ p. p.0 ≢ p.1) ps
no_loop transfers ps a apart k d h =
    subst (λ (p : DiskId × DiskId). p.0 ≢ p.1) (get_or_default ps k (record { 0 = 0 }, record { 0 = 0 }) d h)
    (λ e. apart k (record { leaves = 0; reaches = 0 }) (omega (arith, h, a.len)) (sym (ap (λ (t : Transfer). t.leaves) (a.known k h)) ∙ ap (λ (x : DiskId). x.0) e ∙ ap (λ (t : Transfer). t.reaches) (a.known k h)))
