-- In the order in which a newcomer reads them: keys, lines and sides of the code, two lists merged, what is answered, what is missing.
pub mod Keys
pub mod Sides
pub mod Starts
pub mod Merged
pub mod Differences
pub mod Missing
