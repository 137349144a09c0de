-- Worked rows, computed: a definition that gives another value is refused at one of them.
mod Written
mod Layers
mod Trees
mod Nodes
mod Repositories
mod Batches
mod Stamps
mod Cids
mod Values
