-- The names that the proofs of this crate cite, passed on from one place. Declares nothing.
pub use Rattle.mig_store.specs.Memories.{aloft}
pub use Rattle.std.proofs.Common.{[], ◌≡◌}
