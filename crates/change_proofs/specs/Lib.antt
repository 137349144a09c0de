-- In the order in which a newcomer reads them: what is answered of changes that are undone, and of a step; the nodes that show
-- the one, and the other.
pub mod Verdicts
pub mod StepVerdicts
pub mod Provings
pub mod StepProvings
