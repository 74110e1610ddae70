-- The names that the proofs of this crate cite, passed on from one place. Declares nothing.
pub use Rattle.mig_hints.specs.Lines.{ends_before, rows_before}
pub use Rattle.std.proofs.Common.{length, slice_index_or, ℕ, ◌%◌, ◌-◌, ◌<◌, ◌≡◌, ◌≤◌}
