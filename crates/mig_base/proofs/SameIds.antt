-- Disks, edges, copies, colours and spots are told by their numbers.
use Rattle.mig_base.proofs.Common.{Colour, CopyId, DiskId, EdgeId, Spot, ◌≡◌}

pub same_disk : (v w : DiskId) → v.0 ≡ w.0 → v ≡ w
same_disk v w e i = record { 0 = e i }

pub same_edge : (v w : EdgeId) → v.0 ≡ w.0 → v ≡ w
same_edge v w e i = record { 0 = e i }

pub same_copy : (v w : CopyId) → v.0 ≡ w.0 → v ≡ w
same_copy v w e i = record { 0 = e i }

pub same_hue : (v w : Colour) → v.0 ≡ w.0 → v ≡ w
same_hue v w e i = record { 0 = e i }

pub spot_by : (s t : Spot) → s.disk.0 ≡ t.disk.0 → s.slot ≡ t.slot → s ≡ t
spot_by s t e f i = record { disk = record { 0 = e i }; slot = f i }
