-- In the order in which a newcomer reads them: why there is no text, and its name; what is written; how a command ends; why a line is
-- refused; and what a command line asks for.
pub mod Faults
pub mod Names
pub mod Texts
pub mod Views
pub mod Outcomes
pub mod Refusals
pub mod Commands
pub mod Words
