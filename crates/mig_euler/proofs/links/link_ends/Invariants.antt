use Rattle.mig_euler.proofs.Common.{AreFirst, AreLinksFrom, length, ◌≡◌, ◌≤◌}
use Rattle.mig_euler.proofs.links.link_ends.Given as goal

abbrev pub invariant-loop-place : goal.invariant-loop-place
invariant-loop-place l = record { within : l.place ≤ length l.ends; len : length l.first ≡ length l.initial.first; links : AreLinksFrom l.ends l.place l.links.items; first : AreFirst l.ends l.place l.first }

abbrev pub decreases-loop-place : goal.decreases-loop-place
decreases-loop-place l = l.place
