-- In reading order: the outcome of a run, that there is one, that two runs end alike, what is read of outputs, and what is
-- listed of the lines of a batch. After these come what the code holds and what the steps of a run promise.
pub mod Outcome
pub mod OneOutcome
pub mod OneResult
pub mod ReadAgain
pub mod LineMatches
pub mod Views
pub mod Steps
