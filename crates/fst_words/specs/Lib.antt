-- In reading order: the commands, the verb of a first word, what a command takes, what the values of options may be,
-- what the words ask for, and what holds of every plan.
pub mod Forms
pub mod Verbs
pub mod Commands
pub mod Values
pub mod Plans
pub mod Inputs
pub mod PlanLaws
