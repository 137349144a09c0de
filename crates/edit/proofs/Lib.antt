mod Results
mod Among
pub mod Within
pub mod Bounds
pub mod Around
pub mod Cuts
pub mod Closing
pub mod Pairing
pub mod Subtrees
pub mod Making
pub mod Reading
pub mod Topping
pub mod Walking
pub mod Placing
pub mod Putting
pub mod Tasking
pub mod Wholes
mod Placed
pub mod OnTree
mod Answering
pub mod Stopping
pub mod Halts
pub mod Refusing
pub mod Arriving
pub mod Ending
pub mod Halting
mod Runs
pub mod Untouched
pub mod Spelling
mod MadeKeys
mod WholeReads
mod OneChange
mod OnePut
mod OneDelete
mod Previewing
