pub mod Refusing
mod Settled
mod Sizes
mod Sorted
mod Composed
mod Coded
mod Listed
mod Printed
mod Rules
mod Replaced
mod Describing
pub mod Deciding
mod DecidingBatching
mod DecidingSizes
mod DecidingCoding
mod DecidingComposing
mod DecidingIntersecting
mod DecidingSubtracting
mod DecidingComparing
mod DecidingDeterminizing
mod DecidingListing
mod DecidingStrings
mod DecidingRemoving
mod DecidingMinimizing
mod DecidingPruning
mod DecidingPushing
pub mod OneMade
pub mod Lawful
mod Exactly
mod Determinized
mod Minimized
mod Measured
mod Removed
mod Raising
mod Batched
mod Drawn
mod Making
