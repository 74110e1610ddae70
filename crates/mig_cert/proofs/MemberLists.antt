-- The reading of a set's disks, one by one.
use Rattle.mig_cert.proofs.Common.{All-push, AreMembersPart, CertNext, DiskId, FitsAlong, InputLists, IsMemberLine, IsMiss, IsStop, Leads-append}
use Rattle.mig_cert.proofs.Common.{Left, List, Member, Over, TextError, Took, TookAll, [], arith, before_members, disk_name, later_stops, length}
use Rattle.mig_cert.proofs.Common.{length-append, map, member_lines, miss_stops, refl, subst, suc, sym, took_next, ℕ, ◌++◌, ◌+◌, ◌-◌, ◌<◌, ◌∷◌, ◌≡◌}
use Rattle.mig_cert.proofs.Common.{◌≤◌}
use Rattle.std.proofs.lemmas.List as lists
use Rattle.std.proofs.lemmas.List.Quantifiers.{all_pairs_push}

map_push : {X Y : Type 0} (f : X → Y) (xs : List X) (x : X) → map f (xs ++ x ∷ []) ≡ map f xs ++ f x ∷ []
map_push f xs x = lists.map-append f xs (x ∷ [])

module _ (input : InputLists) where
  pub members_more : (count from : ℕ) (ids : List DiskId) (d : DiskId) (old now new : Left) → AreMembersPart input count from ids old now → from ≤ d.0 → d.0 < length input.disks → Took now (disk_name input d.0) new
      → AreMembersPart input (count + 1) (d.0 + 1) (ids ++ d ∷ []) old new
  members_more count from ids d old now new part low high t = record {
    read = record {
      all = omega (arith, part.read.all, length-append ids (d ∷ []));
      below = All-push (λ (x : DiskId). x.0 < length input.disks) ids d part.read.below high;
      increasing = all_pairs_push (λ (a b : DiskId). a.0 < b.0) ids d part.read.increasing (λ k x h. omega (arith, part.before k x h));
      took = subst (λ ls. TookAll old ls new) (sym (map_push (λ (x : DiskId). disk_name input x.0) ids d)) (took_next old now new (member_lines input ids) (disk_name input d.0) part.read.took t);
    };
    before = All-push (λ (x : DiskId). x.0 < d.0 + 1) ids d (λ k x h. omega (arith, part.before k x h)) (omega arith);
    leads = λ more.
        let e : count + suc more ≡ (count + 1) + more = omega arith in
        subst (λ ls. FitsAlong (CertNext input) (before_members ((count + 1) + more) 0) ls (before_members more (d.0 + 1))) (sym (map_push (λ (x : DiskId). disk_name input x.0) ids d))
        (Leads-append (CertNext input) (before_members ((count + 1) + more) 0) (Member more from) (before_members more (d.0 + 1)) (member_lines input ids) (disk_name input d.0 ∷ [])
        (subst (λ n. FitsAlong (CertNext input) (before_members n 0) (member_lines input ids) (Member more from)) e (part.leads (suc more)))
        (before_members more (d.0 + 1), ((d.0, (low, high, refl, refl)), refl)));
  }

  pub member_stops : (count done from : ℕ) (ids : List DiskId) (old now : Left) (e : TextError) → AreMembersPart input done from ids old now → done < count → IsMiss (IsMemberLine input from) now e
      → IsStop (CertNext input) (before_members count 0) Over old e
  member_stops count done from ids old now e part less m =
      let more : ℕ = count - done - 1 in
      let sum : done + suc more ≡ count = omega arith in
      later_stops (CertNext input) (before_members count 0) (Member more from) Over old now (member_lines input ids) e
      (subst (λ n. FitsAlong (CertNext input) (before_members n 0) (member_lines input ids) (Member more from)) sum (part.leads (suc more)))
      part.read.took
      (miss_stops (CertNext input) (Member more from) Over (IsMemberLine input from) now e (λ q. absurd cc) (λ piece next k. (k.0, (k.1.0, k.1.1, k.1.2))) m)
