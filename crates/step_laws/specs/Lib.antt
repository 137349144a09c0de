-- In the order in which a newcomer reads them: changes turned round, a step's verdict, its laws, one step after another, the laws
-- of that, rows.
pub mod Turned
pub mod Step
pub mod StepLaws
pub mod Chain
pub mod ChainLaws
pub mod StepRows
