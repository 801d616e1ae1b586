-- Lemmas of compositions that a crate above cites.
pub use Rattle.fst_compose.proofs.Leaving.{Apart-append, leaves_transitions, transitions-Apart, transitions_from-arcs, transitions_leave}
